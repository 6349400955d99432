-- `names::is_name` meets its contract. The loop keeps the answer: a text that its length and first byte allow is a name if the bytes behind are those of names.
use mathlib.Core.Path.{sym, ◌∙◌}
use borrow.Author.Rules.{rules}
use Rattle.meaning.specs.Text.{name_byte}
use Rattle.names.proofs.Bytes.{all_end, all_fail, all_pass, name_short, name_long, name_hyphen, name_by_bytes}
use Rattle.names.proofs.is_name.Goals as goal

pub returns-then-s-lt1 : goal.returns-then-s-lt1
returns-then-s-lt1 c = sym (name_short c.args.s.now c.if-s-lt1.true)

pub returns-then-s-gt16 : goal.returns-then-s-gt16
returns-then-s-gt16 c = sym (name_long c.args.s.now c.if-s-gt16.true)

pub returns-then-s-eq45 : goal.returns-then-s-eq45
returns-then-s-eq45 c = sym (name_hyphen c.args.s.now (search rules) c.if-s-eq45.true)

pub loop-b-init : goal.loop-b-init
loop-b-init c = name_by_bytes c.args.s.now (search rules) (search rules) c.if-s-eq45.false

pub returns-then-not-name_byte : goal.returns-then-not-name_byte
returns-then-not-name_byte c =
    let s = c.args.s.now in
    sym (c.loop-b.invariant ∙ all_fail name_byte s c.loop-b.b-index (search rules) (sym c.name_byte.ensures ∙ c.if-not-name_byte.true))

pub loop-b-preserved : goal.loop-b-preserved
loop-b-preserved c =
    let s = c.args.s.now in
    c.loop-b.invariant ∙ all_pass name_byte s c.loop-b.b-index (search rules) (sym c.name_byte.ensures ∙ c.if-not-name_byte.false)

pub returns : goal.returns
returns c = sym (c.loop-b.invariant ∙ all_end name_byte c.args.s.now c.loop-b.b-index (search rules))
