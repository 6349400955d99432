-- `element_refusal` meets its contract. Each answer is what the tests give that are left once the element passed those before.
use Prim.Native.Nat.{ℕ, ◌≤◌, ◌<◌}
use mathlib.Core.Path.{◌≡◌, sym, ap, ◌∙◌}
use mathlib.Core.Bool.{Bool, true, false, ◌||◌}
use mathlib.Core.List.{List, map}
use native.Mathlib.Omega.{arith}
use lib.ListN.{length, take, drop}
use borrow.Author.Rules.{rules}
use borrow.Author.Tests.{not-true, not-false, le-leb, lt-leb, eq-eqb, ne_eqb}
use Rattle.meaning.specs.Text.{empty, is_none, among_names}
use Rattle.meaning.specs.Model.{Attribute, name_of, word_text}
use Rattle.meaning.specs.Reading.{word_of, well_placed, bad_name, bad_unused, lowest, element_tests}
use Rattle.layout.specs.Places.{value_counts}
use Rattle.laws.proofs.Types.{Element}
use Rattle.laws.proofs.Bools.{or_false}
use Rattle.laws.proofs.Bounds.{stored_short}
use Rattle.checking.specs.Tested.{earlier, behind}
use Rattle.checking.proofs.Earlier.{earlier_length, before_is, before_short, none_counted}
use Rattle.checking.proofs.test_element.Goals as goal
use Rattle.checking.proofs.test_element.Goals.{Else-bad_record, Else-not-well_placed}

pub returns-then-bad_record : goal.returns-then-bad_record
returns-then-bad_record c attrs are = sym (rw (sym c.bad_record.ensures ∙ c.if-bad_record.true))

-- what is known once its own record has passed
named : (c : Else-bad_record) → (bad_name c.args.e || bad_unused c.args.e) ≡ false
named c = sym c.bad_record.ensures ∙ c.if-bad_record.false

pub known-requires : goal.known-requires
known-requires c =
    let e = c.args.e in
    let begun = c.requires in
    let good = or_false (bad_name e) (bad_unused e) (named (goal.at.known-requires c).Else-bad_record) in
    (stored_short e.len e.name good.0, before_short c.args.all.now c.args.tree.len begun.inside begun.short_names)

-- the number that the tests give of an element behind n others
module _ (attrs : List Attribute) (all : List Element) (n : ℕ) (e : Element) where
  abbrev number : ℕ
  number = lowest (element_tests (behind attrs all n) (word_text e.word) e)

  -- the number, the first k tests left out
  abbrev number_from : ℕ → ℕ
  number_from k = lowest (drop k (element_tests (behind attrs all n) (word_text e.word) e))

  -- whether an element before has its name
  module _ (inside : n ≤ length all) {r : Bool} (known : r ≡ among_names (name_of e) (map name_of (earlier (take n all) (length (take n all))))) where
    known_told : among_names (name_of e) (map name_of (earlier all n)) ≡ r
    known_told = ap (λ es. among_names (name_of e) (map name_of es)) (sym (before_is all n inside)) ∙ sym known

    -- the tests that are left behind each branch
    module _ (named : (bad_name e || bad_unused e) ≡ false) (other : r ≡ false) where
      past_2 : number ≡ number_from 2
      past_2 = rw (named, known_told ∙ other)

      module _ (few : n < 64) where
        past_3 : number ≡ number_from 3
        past_3 = past_2 ∙ rw (earlier_length all n, lt-leb 64 n few)

        past_4 : empty attrs ≡ false → well_placed e.kind e.depth (earlier all n) ≡ true → number ≡ number_from 4
        past_4 some placed = past_3 ∙ rw (some, placed)

-- where the element stands well, the word and the masks are left
placed : (c : Else-not-well_placed) (attrs : List Attribute) → length c.args.values.now.counts ≡ 6 → take c.args.values.now.len c.args.values.now.counts ≡ value_counts attrs
    → number attrs c.args.all.now c.args.tree.len c.args.e ≡ number_from attrs c.args.all.now c.args.tree.len c.args.e 4
placed c attrs six are =
    let a = c.args in
    let some : empty attrs ≡ false = none_counted a.values.now.counts a.values.now.len attrs (omega (arith, six, c.args.values.now.few.few)) are ∙ ne_eqb a.values.now.len 0 c.if-values-eq0.false in
    let stands : well_placed a.e.kind a.e.depth (earlier a.all.now a.tree.len) ≡ true = sym (c.well_placed.ensures (earlier a.all.now a.tree.len) c.requires.stands) ∙ c.if-not-well_placed.false in
    past_4 attrs a.all.now a.tree.len a.e c.requires.inside c.known.ensures (sym c.bad_record.ensures ∙ c.if-bad_record.false) c.if-known.false c.if-tree-ge64.false some stands

pub returns-then-known : goal.returns-then-known
returns-then-known c attrs are =
    let a = c.args in
    sym (rw (named (goal.at.returns-then-known c).Else-bad_record, known_told attrs a.all.now a.tree.len a.e c.requires.inside c.known.ensures ∙ c.if-known.true))

pub returns-then-tree-ge64 : goal.returns-then-tree-ge64
returns-then-tree-ge64 c attrs are =
    let a = c.args in
    let past = past_2 attrs a.all.now a.tree.len a.e c.requires.inside c.known.ensures (named (goal.at.returns-then-tree-ge64 c).Else-bad_record) c.if-known.false in
    sym (past ∙ rw (earlier_length a.all.now a.tree.len, le-leb 64 a.tree.len c.if-tree-ge64.true))

pub returns-then-values-eq0 : goal.returns-then-values-eq0
returns-then-values-eq0 c attrs are =
    let a = c.args in
    let six : length a.values.now.counts ≡ 6 = search rules in
    let none = none_counted a.values.now.counts a.values.now.len attrs (omega (arith, c.args.values.now.few.few)) are ∙ eq-eqb a.values.now.len 0 c.if-values-eq0.true in
    let past = past_3 attrs a.all.now a.tree.len a.e c.requires.inside c.known.ensures (named (goal.at.returns-then-values-eq0 c).Else-bad_record) c.if-known.false c.if-tree-ge64.false in
    sym (past ∙ rw none)

pub returns-then-not-well_placed : goal.returns-then-not-well_placed
returns-then-not-well_placed c attrs are =
    let a = c.args in
    let six : length a.values.now.counts ≡ 6 = search rules in
    let some = none_counted a.values.now.counts a.values.now.len attrs (omega (arith, c.args.values.now.few.few)) are ∙ ne_eqb a.values.now.len 0 c.if-values-eq0.false in
    let wrong = sym (c.well_placed.ensures (earlier a.all.now a.tree.len) c.requires.stands) ∙ c.if-not-well_placed.true in
    let past = past_3 attrs a.all.now a.tree.len a.e c.requires.inside c.known.ensures (named (goal.at.returns-then-not-well_placed c).Else-bad_record) c.if-known.false c.if-tree-ge64.false in
    sym (past ∙ rw (some, wrong))

pub returns-then-not-word_fits : goal.returns-then-not-word_fits
returns-then-not-word_fits c attrs are =
    let unfit = not-false (is_none (word_of c.args.e.kind (word_text c.args.e.word))) (sym c.word_fits.ensures ∙ c.if-not-word_fits.true) in
    sym (placed (goal.at.returns-then-not-word_fits c).Else-not-well_placed attrs (search rules) are ∙ rw unfit)

pub returns-then-bad_masks : goal.returns-then-bad_masks
returns-then-bad_masks c attrs are =
    let fit = not-true (is_none (word_of c.args.e.kind (word_text c.args.e.word))) (sym c.word_fits.ensures ∙ c.if-not-word_fits.false) in
    sym (placed (goal.at.returns-then-bad_masks c).Else-not-well_placed attrs (search rules) are ∙ rw (fit, sym (c.bad_masks.ensures attrs are) ∙ c.if-bad_masks.true))

pub returns : goal.returns
returns c attrs are =
    let fit = not-true (is_none (word_of c.args.e.kind (word_text c.args.e.word))) (sym c.word_fits.ensures ∙ c.if-not-word_fits.false) in
    sym (placed (goal.at.returns c).Else-not-well_placed attrs (search rules) are ∙ rw (fit, sym (c.bad_masks.ensures attrs are) ∙ c.if-bad_masks.false))
