-- The tests of a line and the rows of the paper's table: a test passes exactly if its row holds.
use mathlib.Core.Path.{◌≡◌, refl, sym, ap, ◌∙◌, subst}
use Prim.Native.Nat.{ℕ, ◌+◌, ◌-◌, ◌≤◌}
use native.Mathlib.Omega.{arith}
use mathlib.Core.Bool.{Bool, true, false, not, ◌||◌}
use mathlib.Core.List.{List, [], ◌∷◌, ◌++◌, map}
use mathlib.Core.Option.{some}
use lib.ListN.{length, take, drop, replicate}
use lib.Seq.{take-append_seam}
use lib.Dec.{eqb}
use borrow.Author.Tests.{eqb-true, not-true, not-false}
use Rattle.meaning.specs.Text.{Bytes, empty, all, among_names, is_field, is_name, bytes}
use Rattle.meaning.specs.Model.{Attribute, padded, name_of, most_values, space, kind_text, obligation_name, attribute_fields}
use Rattle.meaning.specs.Reading.{Line, attribute_line, tree_line, other_line, line_of, depth_of, target_of, masks_of, element_of, Sofar, well_placed, Tests, lowest, wrong_fields, bad_name, bad_unused, bad_masks, attribute_tests, element_tests, line_tests, nearest_obligations, obligation_tests, obligation_line, obligation_of}
use Rattle.meaning.specs.Claims.Texts.{All, Among}
use Rattle.meaning.specs.Claims.PolicyFile.{GoodAttribute, attribute_names, Targets, PlacedAt}
use Rattle.meaning.specs.Claims.Refusals.{Used, TooMany, BadPlace, BadWord, BadTargets, table_rows, obligations_before, BadlyFollowing}
use Rattle.laws.proofs.Types.{Kind, Element, rule}
use Rattle.laws.proofs.Bools.{contradiction, or_false}
use Rattle.laws.proofs.Lines.{attribute_fields_lem, tree_fields, obligation_fields_lem}
use Rattle.laws.proofs.Fields.{digit}
use Rattle.laws.proofs.Bounds.{placed_depth, padded_name}
use Rattle.laws.proofs.Targets.{mask_read}
use Rattle.laws.proofs.Marks.{of_target}
use Rattle.laws.proofs.Rewritten.{depth_again, targets_again}
use Rattle.laws.proofs.LinesBack.{depth_back}
use Rattle.laws.proofs.TreeLines.{zeros, targets_back, targets_of}
use Rattle.laws.proofs.Placed.{placed_well, well_placed_lem}
use Rattle.laws.proofs.Names.{among, some_twice, names_distinct}
use Rattle.laws.proofs.Reflects.{Reflects, reflects, either, either_of_three, opposite, never_holds, at_least, more_than, not_nothing, is_nothing, Matches}
use Rattle.laws.proofs.BadFields.{Beside}
use Rattle.laws.proofs.Rows.{on_attribute, name_row, on_tree, on_obligation, follow_row, word_row}

-- the masks of some targets
masks_of_lem : (attrs : List Attribute) (ts : List Bytes) (ms : List ℕ) → All GoodAttribute attrs → Targets attrs ts ms → masks_of attrs ts ≡ ms
masks_of_lem [] [] [] g t = refl
masks_of_lem [] [] (m ∷ ms) g t = absurd t
masks_of_lem [] (t ∷ ts) ms g x = absurd x
masks_of_lem (a ∷ attrs) [] ms g x = absurd x
masks_of_lem (a ∷ attrs) (t ∷ ts) [] g x = absurd x
masks_of_lem (a ∷ attrs) (t ∷ ts) (m ∷ ms) g x =
    let own = of_target a.values t m g.0.some_value x.0 in
    let is : target_of a.values t ≡ some m = ap (target_of a.values) own.is_text ∙ mask_read a.values m g.0.values_named (names_distinct a.values g.0.distinct) own.not_empty own.no_high_bit in
    rw (is, masks_of_lem attrs ts ms g.1 x.1)

-- Rows 3 to 6 of an attribute line
abbrev pub no_tests : Tests
no_tests = (14, false) ∷ (7, false) ∷ (8, false) ∷ []

nearest_before : (es : List Element) → nearest_obligations es ≡ obligations_before es
nearest_before [] = refl
nearest_before (e ∷ es) = refl

or_none_lem : (b : Bool) (R : Type 0) → Reflects b R → Reflects (b || false) R
or_none_lem true R r = r
or_none_lem false R r = r

module _ (s : Sofar) where
  abbrev attrs : List Attribute
  attrs = s.attributes

  abbrev before : List Element
  before = s.before

  abbrev pub later_rows : List Bytes → List (ℕ × Type 0)
  later_rows fs = drop 1 (table_rows ⊥ attrs before fs)

  pub attribute_rows : (a : Attribute) → Matches (attribute_tests s a ++ no_tests) (later_rows (attribute_fields a))
  attribute_rows a = (refl, on_attribute (λ a. all is_name (a.name ∷ a.values) ≡ false) (λ k d n w ts. is_name n ≡ false) (λ n w. is_name n ≡ false) _ a (opposite (all is_name (a.name ∷ a.values))), (refl, on_attribute (Used attrs) (λ k d n w ts. Among n (map name_of before)) (λ n w. Among n (map obligation_name (obligations_before before))) _ a (either _ _ _ _ (among a.name (attribute_names attrs)) (some_twice a.values)), (refl, on_attribute (TooMany attrs) (λ k d n w ts. 64 ≤ length before) (λ n w. ⊥) _ a (either_of_three _ _ _ _ _ _ (at_least 6 (length attrs)) (more_than (most_values a.several) (length a.values)) (more_than 4096 (space (attrs ++ (a ∷ []))))), (refl, on_attribute (λ a. 1 ≤ length before) (λ k d n w ts. BadPlace attrs before k d) (λ n w. ⊥) _ a (not_nothing before), (refl, on_attribute (λ a. ⊥) (λ k d n w ts. ⊥) (λ n w. BadlyFollowing before) _ a never_holds, (refl, on_attribute (λ a. ⊥) (λ k d n w ts. BadWord k w) (λ n w. BadWord rule w) _ a never_holds, (refl, on_attribute (λ a. ⊥) (λ k d n w ts. BadTargets attrs ts) (λ n w. ⊥) _ a never_holds, tt)))))))

  -- Rows 3, 4, 14 and 7 of an obligation's line
  abbrev following_tests : Bytes → Bytes → Tests
  following_tests n w = take 2 (obligation_tests s w (obligation_of n w)) ++ ((5, false) ∷ (6, false) ∷ (drop 2 (obligation_tests s w (obligation_of n w)) ++ ((8, false) ∷ [])))

  obligation_rows_lem : (n w : Bytes) → Matches (following_tests n w) (later_rows (bytes "O" ∷ n ∷ w ∷ []))
  obligation_rows_lem n w = (refl, on_obligation (λ a. all is_name (a.name ∷ a.values) ≡ false) (λ k d n w ts. is_name n ≡ false) (λ n w. is_name n ≡ false) _ n w (name_row n), (refl, on_obligation (Used attrs) (λ k d n w ts. Among n (map name_of before)) (λ n w. Among n (map obligation_name (obligations_before before))) _ n w used, (refl, on_obligation (TooMany attrs) (λ k d n w ts. 64 ≤ length before) (λ n w. ⊥) _ n w never_holds, (refl, on_obligation (λ a. 1 ≤ length before) (λ k d n w ts. BadPlace attrs before k d) (λ n w. ⊥) _ n w never_holds, (refl, on_obligation (λ a. ⊥) (λ k d n w ts. ⊥) (λ n w. BadlyFollowing before) _ n w (follow_row before), (refl, on_obligation (λ a. ⊥) (λ k d n w ts. BadWord k w) (λ n w. BadWord rule w) _ n w (word_row rule w), (refl, on_obligation (λ a. ⊥) (λ k d n w ts. BadTargets attrs ts) (λ n w. ⊥) _ n w never_holds, tt)))))))
    where
      used : Reflects (among_names (obligation_name (obligation_of n w)) (map obligation_name (nearest_obligations before))) (Among n (map obligation_name (obligations_before before)))
      used = subst (λ x. Reflects (among_names x (map obligation_name (nearest_obligations before))) (Among n (map obligation_name (obligations_before before)))) (sym (take-append_seam n (replicate (16 - length n) 0)))
          (subst (λ x. Reflects (among_names n (map obligation_name (nearest_obligations before))) (Among n (map obligation_name x))) (nearest_before before) (among n (map obligation_name (nearest_obligations before))))

  -- Rows 3 to 8 of a tree line
  module _ (attributes_good : All GoodAttribute attrs) (k : Kind) (d n w : Bytes) (ts : List Bytes) (count : length ts ≡ length attrs) where
    abbrev el : Element
    el = element_of attrs k d n w ts

    row_3 : Reflects (bad_name el || bad_unused el) (is_name n ≡ false)
    row_3 = or_none_lem (bad_name el) (is_name n ≡ false) (name_row n)

    row_4 : Reflects (among_names (name_of el) (map name_of before)) (Among n (map name_of before))
    row_4 = subst (λ x. Reflects (among_names x (map name_of before)) (Among n (map name_of before))) (sym (padded_name attrs k d n w ts)) (among n (map name_of before))

    row_6 : Reflects (empty attrs || not (well_placed k (depth_of d) before)) (BadPlace attrs before k d)
    row_6 = either _ _ _ _ (is_nothing attrs) (reflects (not (well_placed k (depth_of d) before)) _ bad good)
      where
        bad : not (well_placed k (depth_of d) before) ≡ true → (x : ℕ) → x ≤ 7 → d ≡ (48 + x) ∷ [] → PlacedAt before k x → ⊥
        bad e x l i p =
            let depth : depth_of d ≡ x = ap depth_of (i ∙ sym (digit x (omega arith))) ∙ depth_back x l in
            contradiction (ap (λ y. well_placed k y before) depth ∙ placed_well before k x l p) (not-true (well_placed k (depth_of d) before) e)

        good : not (well_placed k (depth_of d) before) ≡ false → ((x : ℕ) → x ≤ 7 → d ≡ (48 + x) ∷ [] → PlacedAt before k x → ⊥) → ⊥
        good e h =
            let placed = not-false (well_placed k (depth_of d) before) e in
            let shallow = placed_depth k (depth_of d) before placed in
            h (depth_of d) shallow (sym (depth_again d shallow) ∙ digit (depth_of d) (omega arith)) (well_placed_lem before k (depth_of d) placed)

    row_8 : Reflects (bad_masks attrs (padded 6 (masks_of attrs ts))) (BadTargets attrs ts)
    row_8 = reflects (bad_masks attrs (padded 6 (masks_of attrs ts))) (BadTargets attrs ts) bad good
      where
        bad : bad_masks attrs (padded 6 (masks_of attrs ts)) ≡ true → (ms : List ℕ) → Targets attrs ts ms → ⊥
        bad e ms t =
            let same-masks = masks_of_lem attrs ts ms attributes_good t in
            contradiction (subst (λ x. bad_masks attrs (padded 6 x) ≡ true) same-masks e) (targets_back attrs ts ms (replicate (6 - length ms) 0) attributes_good (zeros (6 - length ms)) t).masked

        good : bad_masks attrs (padded 6 (masks_of attrs ts)) ≡ false → ((ms : List ℕ) → Targets attrs ts ms → ⊥) → ⊥
        good e h =
            let ms : List ℕ = padded 6 (masks_of attrs ts) in
            h (take (length attrs) ms) (subst (λ x. Targets attrs x (take (length attrs) ms)) (targets_again attrs ts (replicate (6 - length (masks_of attrs ts)) 0) count e) (targets_of attrs ms e))

    abbrev tree_tests : Tests
    tree_tests = take 4 (element_tests s w el) ++ ((14, false) ∷ drop 4 (element_tests s w el))

    tree_rows_lem : Matches tree_tests (later_rows (kind_text k ∷ d ∷ n ∷ w ∷ ts))
    tree_rows_lem = (refl, on_tree (λ a. all is_name (a.name ∷ a.values) ≡ false) (λ k d n w ts. is_name n ≡ false) (λ n w. is_name n ≡ false) _ k d n w ts row_3, (refl, on_tree (Used attrs) (λ k d n w ts. Among n (map name_of before)) (λ n w. Among n (map obligation_name (obligations_before before))) _ k d n w ts row_4, (refl, on_tree (TooMany attrs) (λ k d n w ts. 64 ≤ length before) (λ n w. ⊥) _ k d n w ts (at_least 64 (length before)), (refl, on_tree (λ a. 1 ≤ length before) (λ k d n w ts. BadPlace attrs before k d) (λ n w. ⊥) _ k d n w ts row_6, (refl, on_tree (λ a. ⊥) (λ k d n w ts. ⊥) (λ n w. BadlyFollowing before) _ k d n w ts never_holds, (refl, on_tree (λ a. ⊥) (λ k d n w ts. BadWord k w) (λ n w. BadWord rule w) _ k d n w ts (word_row k w), (refl, on_tree (λ a. ⊥) (λ k d n w ts. BadTargets attrs ts) (λ n w. ⊥) _ k d n w ts row_8, tt)))))))

-- Rows 3 to 8 and 14 of a line beside the reader's tests, or tests that are as many as the rows
pub reader_rows : (s : Sofar) → All GoodAttribute s.attributes → (fs : List Bytes) → Beside s fs (line_tests s (line_of fs)) (later_rows s fs)
reader_rows s g fs = go (line_of fs) refl
  where
    go : (l : Line) → line_of fs ≡ l → wrong_fields s fs l ≡ false → (ts : Tests) × (lowest (line_tests s l) ≡ lowest ts) × Matches ts (later_rows s fs)
    go (attribute_line a) i h = (attribute_tests s a ++ no_tests, refl, subst (λ x. Matches (attribute_tests s a ++ no_tests) (later_rows s x)) (sym (attribute_fields_lem fs a i).are) (attribute_rows s a))
    go (tree_line k d n w ts) i h =
        let counted = eqb-true (length ts) (length s.attributes) (not-false (eqb (length ts) (length s.attributes)) (or_false (not (all is_field fs)) (not (eqb (length ts) (length s.attributes))) h).1) in
        (tree_tests s g k d n w ts counted, refl, subst (λ x. Matches (tree_tests s g k d n w ts counted) (later_rows s x)) (sym (tree_fields fs k d n w ts i)) (tree_rows_lem s g k d n w ts counted))
    go (obligation_line n w) i h = (following_tests s n w, refl, subst (λ x. Matches (following_tests s n w) (later_rows s x)) (sym (obligation_fields_lem fs n w i)) (obligation_rows_lem s n w))
    go other_line i h = contradiction refl (or_false (not (all is_field fs)) true h).1
