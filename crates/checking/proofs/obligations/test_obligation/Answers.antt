-- `test_obligation` meets its contract. Each answer is what the tests give that are left once the obligation passed those before.
use Prim.Native.Nat.{ℕ}
use mathlib.Core.Path.{◌≡◌, sym, ◌∙◌}
use mathlib.Core.Bool.{true, false}
use mathlib.Core.List.{map}
use lib.ListN.{drop}
use borrow.Author.Tests.{not-true, not-false}
use Rattle.std.specs.Prelude.{Option}
use Rattle.meaning.specs.Text.{is_none, among_names}
use Rattle.meaning.specs.Model.{obligation_name, word_text}
use Rattle.meaning.specs.Reading.{word_of, lowest, bad_stored, may_have_obligations, obligation_tests}
use Rattle.laws.proofs.Types.{rule, Kind, Obligation}
use Rattle.laws.proofs.Bounds.{stored_short}
use Rattle.checking.specs.Tested.{carrying, listed}
use Rattle.checking.proofs.Obliged.{nearest_is, followed}
use Rattle.checking.proofs.obligations.test_obligation.Goals as goal

-- the number that the tests give, the first k left out; and those that are left behind each branch
module _ (kind : Kind) (before : Option Obligation) (o : Obligation) where
  abbrev number_from : ℕ → ℕ
  number_from k = lowest (drop k (obligation_tests (carrying kind (listed before)) (word_text o.word) o))

  module _ (named : bad_stored o.len o.name ≡ false) where
    past_1 : number_from 0 ≡ number_from 1
    past_1 = rw named

    module _ (other : among_names (obligation_name o) (map obligation_name (listed before)) ≡ false) where
      past_2 : number_from 0 ≡ number_from 2
      past_2 = past_1 ∙ rw (nearest_is kind before, other)

      past_3 : may_have_obligations kind ≡ true → number_from 0 ≡ number_from 3
      past_3 may = past_2 ∙ rw (followed kind before ∙ may)

pub returns-then-bad_stored : goal.returns-then-bad_stored
returns-then-bad_stored c = sym (rw (sym c.bad_stored.ensures ∙ c.if-bad_stored.true))

pub known-requires : goal.known-requires
known-requires c =
    let o = c.args.o in (c.requires, stored_short o.len o.name (sym c.bad_stored.ensures ∙ c.if-bad_stored.false))

pub returns-then-known : goal.returns-then-known
returns-then-known c =
    let a = c.args in
    sym (past_1 a.kind a.before a.o (sym c.bad_stored.ensures ∙ c.if-bad_stored.false) ∙ rw (nearest_is a.kind a.before, sym c.known.ensures ∙ c.if-known.true))

pub returns-then-not-may_have : goal.returns-then-not-may_have
returns-then-not-may_have c =
    let a = c.args in
    sym (past_2 a.kind a.before a.o (sym c.bad_stored.ensures ∙ c.if-bad_stored.false) (sym c.known.ensures ∙ c.if-known.false) ∙ rw (followed a.kind a.before ∙ sym c.may_have.ensures ∙ c.if-not-may_have.true))

pub returns-then-not-word_fits : goal.returns-then-not-word_fits
returns-then-not-word_fits c =
    let a = c.args in
    sym (past_3 a.kind a.before a.o (sym c.bad_stored.ensures ∙ c.if-bad_stored.false) (sym c.known.ensures ∙ c.if-known.false) (sym c.may_have.ensures ∙ c.if-not-may_have.false) ∙ rw (not-false (is_none (word_of rule (word_text a.o.word))) (sym c.word_fits.ensures ∙ c.if-not-word_fits.true)))

pub returns : goal.returns
returns c =
    let a = c.args in
    sym (past_3 a.kind a.before a.o (sym c.bad_stored.ensures ∙ c.if-bad_stored.false) (sym c.known.ensures ∙ c.if-known.false) (sym c.may_have.ensures ∙ c.if-not-may_have.false) ∙ rw (not-true (is_none (word_of rule (word_text a.o.word))) (sym c.word_fits.ensures ∙ c.if-not-word_fits.false)))
