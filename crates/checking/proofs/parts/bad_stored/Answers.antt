-- `bad_stored` meets its contract, branch by branch.
use mathlib.Core.Path.{◌≡◌, sym, ap, ◌∙◌}
use native.Mathlib.Omega.{arith}
use lib.ListN.{length, drop, length-drop}
use lib.Seq.{take_all}
use borrow.Author.Rules.{rules}
use Rattle.meaning.specs.Reading.{non_zero}
use Rattle.checking.proofs.Names.{name_empty, name_long, name_wrong, name_right}
use Rattle.checking.proofs.parts.bad_stored.Goals as goal

pub returns-then-len-lt1 : goal.returns-then-len-lt1
returns-then-len-lt1 c = sym (name_empty c.args.stored c.args.name c.if-len-lt1.true)

pub returns-then-len-gt16 : goal.returns-then-len-gt16
returns-then-len-gt16 c = sym (name_long c.args.stored c.args.name c.if-len-gt16.true)

pub returns-then-not-is_name : goal.returns-then-not-is_name
returns-then-not-is_name c = sym (name_wrong c.args.stored c.args.name (sym c.is_name.ensures ∙ c.if-not-is_name.true))

pub returns : goal.returns
returns c =
    let a = c.args in
    let size : length a.name ≡ 16 = search rules in
    c.non_zero.ensures ∙ ap non_zero (take_all _ (drop a.stored a.name) (omega (arith, length-drop a.stored a.name, size))) ∙ sym (name_right a.stored a.name (omega arith) (omega arith) (sym c.is_name.ensures ∙ c.if-not-is_name.false))
