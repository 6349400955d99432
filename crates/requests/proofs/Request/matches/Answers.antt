-- `Request::matches`: the attributes looked at so far match their fields. Assumes nothing.
use mathlib.Core.Path.{◌≡◌, sym, ◌∙◌}
use mathlib.Core.Bool.{true, false}
use native.Mathlib.Omega.{arith}
use borrow.Author.Rules.{rules}
use lib.ListN.{length}
use Rattle.requests.proofs.Targets.{within_more, within_all}
use Rattle.requests.proofs.Request.matches.Goals as goal

pub returns-then-not-in_field : goal.returns-then-not-in_field
returns-then-not-in_field c =
    let turn = c.loop-i in
    let six : length c.args.self.values ≡ 6 = search rules in
    let letters : length c.args.self.several ≡ 6 = search rules in
    let out : c.in_field.result ≡ false = c.if-not-in_field.true in
    sym (turn.invariant
    ∙ within_more c.args.self.len turn.i c.args.self.several c.args.masks.now c.args.self.values c.requires.0 (omega arith) (omega arith) (omega arith)
    ∙ rw (← c.in_field.ensures, out))

pub loop-i-preserved : goal.loop-i-preserved
loop-i-preserved c =
    let turn = c.loop-i in
    let six : length c.args.self.values ≡ 6 = search rules in
    let letters : length c.args.self.several ≡ 6 = search rules in
    let in-mask : c.in_field.result ≡ true = c.if-not-in_field.false in
    turn.invariant
    ∙ within_more c.args.self.len turn.i c.args.self.several c.args.masks.now c.args.self.values c.requires.0 (omega arith) (omega arith) (omega arith)
    ∙ rw (← c.in_field.ensures, in-mask)

pub returns : goal.returns
returns c =
    let turn = c.loop-i in
    let six : length c.args.self.values ≡ 6 = search rules in
    let letters : length c.args.self.several ≡ 6 = search rules in
    sym (turn.invariant ∙ within_all c.args.self.len turn.i c.args.self.several c.args.masks.now c.args.self.values c.requires.0 (omega arith) (omega arith) (omega arith))
