-- The step over a tree line: each of its refusals, and the line that is read.
use Rattle.std.specs.Prelude.{Ok, Err, Some, None}
use mathlib.Core.Path.{◌≡◌, sym, ap, ◌∙◌}
use Prim.Native.Nat.{ℕ, ◌+◌, ◌≤◌, ◌<◌}
use native.Mathlib.Omega.{arith}
use mathlib.Core.Bool.{true, false, not}
use mathlib.Core.List.{List, []}
use mathlib.Core.Option.{some}
use lib.ListN.{length, drop, get_or}
use Rattle.meaning.specs.declared.Kind.{Kind}
use Rattle.meaning.specs.declared.Word.{Word}
use Rattle.meaning.specs.Text.{Bytes, empty, cut, tab}
use Rattle.meaning.specs.Model.{Attribute, padded}
use Rattle.meaning.specs.Reading.{depth_of, word_of, masks_of, Sofar, well_placed, lowest, bad_masks}
use Rattle.laws.proofs.Bools.{Test, passed, failed, test, or_false}
use Rattle.laws.proofs.Reading.{lowest_zero}
use Rattle.laws.proofs.Bounds.{filled}
use Rattle.refusals.specs.declared.Refusal.{Refusal}
use Rattle.refusals.specs.declared.Refusal.TheVariants.{BadLine, BadTarget}
use Rattle.refusals.specs.Numbers.{number_of}
use Rattle.refusals.proofs.Numbers.{not_zero}
use Rattle.table.specs.declared.Row.{Row}
use Rattle.table.specs.Rows.{number_of_word, row_of, with_row}
use Rattle.layout.specs.declared.ElementPlaces.{ElementPlaces}
use Rattle.layout.specs.Places.{part, with_name}
use Rattle.layout.proofs.Laws.{attributes_length}
use Rattle.attribute_lines.specs.declared.State.{State}
use Rattle.attribute_lines.specs.Sofar.{TreeLine}
use Rattle.attribute_lines.specs.Steps.{BeforeLine, EndedLine, read_sofar, StepIs}
use Rattle.element_lines.specs.Elements.{Fits}
use Rattle.tree_fields.specs.Masks.{masks_in}
use Rattle.attribute_lines.proofs.LineKinds.{stopped, refused_2}
use Rattle.attribute_lines.proofs.TreeShape.{wrong_count_lem}
use Rattle.element_lines.proofs.TreeLines.{behind_tree, earlier, earlier_numbered, earlier_refused, earlier_passed, el, room, tree_next}

-- what the masks of a line say of its targets
masks_bad : (attrs : List Attribute) (ts : List Bytes) → masks_in attrs ts ≡ None → bad_masks attrs (padded 6 (masks_of attrs ts)) ≡ true
masks_bad attrs ts is = go (test (bad_masks attrs (padded 6 (masks_of attrs ts))))
  where
    go : Test (bad_masks attrs (padded 6 (masks_of attrs ts))) → bad_masks attrs (padded 6 (masks_of attrs ts)) ≡ true
    go (passed bad) = bad
    go (failed fine) = let some : Some (padded 6 (masks_of attrs ts)) ≡ None = rw fine at is in cc

masks_good : (attrs : List Attribute) (ts : List Bytes) {masks : List ℕ} → masks_in attrs ts ≡ Some masks → (bad_masks attrs (padded 6 (masks_of attrs ts)) ≡ false) × (masks ≡ padded 6 (masks_of attrs ts))
masks_good attrs ts {masks} is = go (test (bad_masks attrs (padded 6 (masks_of attrs ts))))
  where
    go : Test (bad_masks attrs (padded 6 (masks_of attrs ts))) → (bad_masks attrs (padded 6 (masks_of attrs ts)) ≡ false) × (masks ≡ padded 6 (masks_of attrs ts))
    go (passed bad) = let none : None ≡ Some masks = rw bad at is in cc
    go (failed fine) = let some : Some (padded 6 (masks_of attrs ts)) ≡ Some masks = rw fine at is in (fine, cc)

module _ (f : List ℕ) (table : List Row) (places : List ElementPlaces) (st : State) (end : ℕ) (k : Kind) (n : ℕ) (ready : BeforeLine f table places st) (at : EndedLine f st end) (line : TreeLine (cut tab (part f st.at end)) k n) where
  abbrev fs : List Bytes
  fs = cut tab (part f st.at end)

  abbrev s : Sofar
  s = read_sofar f table places st

  -- a wrong field count
  pub count_told : (n ≡ 4 + st.attributes.len → ⊥) → StepIs f table places table places st end st (Err BadLine)
  count_told h = refused_2 f table places st end (wrong_count_lem s fs k n line (λ e. h (e ∙ ap (λ m. 4 + m) (attributes_length f st.attributes))))

  module _ (right : n ≡ 4 + st.attributes.len) where
    count : n ≡ 4 + length s.attributes
    count = right ∙ ap (λ m. 4 + m) (sym (attributes_length f st.attributes))

    -- one of 3 to 7
    pub earlier_told : (why : Refusal) → number_of why ≡ lowest (earlier s fs k n line) → StepIs f table places table places st end st (Err why)
    earlier_told why is_lowest = stopped why (is_lowest ∙ sym (earlier_refused s fs k n line count (λ z. not_zero why (is_lowest ∙ z))))

    module _ (passed_earlier : lowest (earlier s fs k n line) ≡ 0) where
      -- a tree line that passed stands behind an attribute
      pub some_attribute : 1 ≤ st.attributes.len
      some_attribute =
          let (f3, (f4, (f5, (f6, later)))) = lowest_zero (earlier s fs k n line) (earlier_numbered s (get_or fs 3 []) (el s fs k n line)) passed_earlier in
          let some = filled s.attributes (or_false (empty s.attributes) (not (well_placed k (depth_of (get_or fs 1 [])) s.before)) f6).0 in
          omega (arith, some, attributes_length f st.attributes)

      pub room_there : end < 18446744073709551615 → Fits table places st fs
      room_there l = room f table places st end k n ready at line count passed_earlier l

      -- a bad target
      pub targets_told : masks_in s.attributes (drop 4 fs) ≡ None → StepIs f table places table places st end st (Err BadTarget)
      targets_told none = stopped BadTarget (sym (earlier_passed s fs k n line count passed_earlier ∙ rw (masks_bad s.attributes (drop 4 fs) none)))

      -- the line is read
      pub tree_told : (after : State) (word : Word) (masks : List ℕ) (t' : List Row) (p' : List ElementPlaces) → word_of k (get_or fs 3 []) ≡ some word → masks_in s.attributes (drop 4 fs) ≡ Some masks → after ≡ behind_tree st end k fs
          → t' ≡ with_row table st.tree.len (row_of (some word) (depth_of (get_or fs 1 [])) masks)
          → p' ≡ with_name places st.tree.len st.at (st.at + 4 + length (get_or fs 2 []))
          → StepIs f table places t' p' st end after (Ok tt)
      tree_told after word masks t' p' named good is_state is-table is-places =
          let (fine, masks-are) = masks_good s.attributes (drop 4 fs) good in
          let numbered : number_of_word (some word) ≡ number_of_word (word_of k (get_or fs 3 [])) = ap number_of_word (sym named) in
          record {
            refusal = sym (earlier_passed s fs k n line count passed_earlier ∙ rw fine);
            next = rw (is_state, is-table, is-places, masks-are, numbered) (tree_next f table places st end k n ready at line count passed_earlier);
            stays = tt;
          }
