-- `settled`: by the word, and the two bits. Assumes nothing.
use mathlib.Core.Path.{◌≡◌, ◌∙◌}
use borrow.Author.Rules.{rules}
use Rattle.meaning.specs.declared.Word.{Word}
use Rattle.meaning.specs.Deciding.{bit}
use Rattle.laws.proofs.Bits.{bit_or_lem}
use Rattle.chains.proofs.Words.{deny_settles, any_settles}
use Rattle.chains.proofs.settled.Goals as goal

pub returns-then-eq : goal.returns-then-eq
returns-then-eq c v =
    let child = c.args.child in
    let is : c.args.word ≡ Word.DenyOverrides = search rules in
    rw is (deny_settles (bit child.permits v) (bit child.denies v))

pub returns-then-eq-3 : goal.returns-then-eq-3
returns-then-eq-3 c v =
    let child = c.args.child in
    let is : c.args.word ≡ Word.FirstApplicable = search rules in
    rw is (bit_or_lem child.permits child.denies v ∙ any_settles (bit child.permits v) (bit child.denies v))
