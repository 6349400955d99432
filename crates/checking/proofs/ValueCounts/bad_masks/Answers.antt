-- `bad_masks` meets its contract: a mask of an attribute is bad, or what is left is what stands behind them.
use Prim.Native.Nat.{ℕ, ◌-◌, ◌^◌, ◌≤◌, ◌<◌}
use mathlib.Core.Path.{◌≡◌, sym, ap, ◌∙◌}
use mathlib.Core.Bool.{Bool, true}
use mathlib.Core.List.{List}
use native.Mathlib.Omega.{arith}
use lib.ListN.{length, take, drop, get_or, length-drop}
use lib.Seq.{length-take-le, get_or-take, take_all}
use borrow.Author.Rules.{rules}
use Rattle.std.proofs.Common.{tests}
use Rattle.std.proofs.lemmas.Iterator.{YieldsList-from_slice}
use Rattle.std.proofs.lemmas.Iterator.Search.{any_from_yields_List}
use Rattle.meaning.specs.Model.{Attribute}
use Rattle.meaning.specs.Reading.{non_zero, bad_masks}
use Rattle.layout.specs.Places.{value_counts}
use Rattle.checking.proofs.Zeros.{any_is, other}
use Rattle.checking.proofs.Masks.{wrong_masks, masks_by_counts, masks_end, mask_empty, mask_high}
use Rattle.checking.proofs.ValueCounts.bad_masks.Goals as goal

module _ (counts masks : List ℕ) (n : ℕ) (six : length counts ≡ 6) (few : n ≤ 6) where
  -- what the counts of the attributes say
  told : (r : Bool) → wrong_masks (take n counts) masks ≡ r → (attrs : List Attribute) → take n counts ≡ value_counts attrs → r ≡ bad_masks attrs masks
  told r gives attrs are = sym (masks_by_counts attrs masks ∙ sym (ap (λ ns. wrong_masks ns masks) are) ∙ gives)

  size : length (take n counts) ≡ n
  size = length-take-le n counts (omega arith)

  -- the mask of attribute i is empty, or too high
  module _ (i : ℕ) (l : i < n) (k : i < length masks) where
    none_set : get_or masks i 0 ≡ 0 → wrong_masks (drop i (take n counts)) (drop i masks) ≡ true
    none_set is = mask_empty (take n counts) masks i (omega (arith, size)) k is

    too_high : (highest : ℕ) → highest ≡ 2 ^ get_or counts i 0 - 1 → highest < get_or masks i 0 → wrong_masks (drop i (take n counts)) (drop i masks) ≡ true
    too_high highest is high = mask_high (take n counts) masks i (omega (arith, size)) k (rw (get_or-take n counts i 0 l) (omega (arith, is)))

  -- and those behind the attributes
  left : (i : ℕ) → i ≡ n → wrong_masks (drop i (take n counts)) (drop i masks) ≡ non_zero (drop n masks)
  left i e = masks_end (take n counts) masks i (omega (arith, size)) ∙ ap (λ k. non_zero (drop k masks)) e

pub returns-then-mask-eq0 : goal.returns-then-mask-eq0
returns-then-mask-eq0 c =
    let a = c.args in
    let six : length a.self.now.counts ≡ 6 = search rules in
    let masks : length a.masks ≡ 6 = search rules in
    let few = a.self.now.few.few in
    told a.self.now.counts a.masks a.self.now.len six few true (sym c.loop-i.invariant ∙ none_set a.self.now.counts a.masks a.self.now.len six few c.loop-i.i (omega arith) (omega arith) c.if-mask-eq0.true)

pub returns-then-full_mask-mask : goal.returns-then-full_mask-mask
returns-then-full_mask-mask c =
    let a = c.args in
    let six : length a.self.now.counts ≡ 6 = search rules in
    let masks : length a.masks ≡ 6 = search rules in
    let few = a.self.now.few.few in
    told a.self.now.counts a.masks a.self.now.len six few true (sym c.loop-i.invariant ∙ too_high a.self.now.counts a.masks a.self.now.len six few c.loop-i.i (omega arith) (omega arith) _ c.full_mask.ensures c.if-full_mask-mask.true)

pub returns : goal.returns
returns c =
    let a = c.args in
    let six : length a.self.now.counts ≡ 6 = search rules in
    let masks : length a.masks ≡ 6 = search rules in
    let few = a.self.now.few.few in
    let rest : List ℕ = take (6 - a.self.now.len) (drop a.self.now.len a.masks) in
    let whole : rest ≡ drop a.self.now.len a.masks = take_all (6 - a.self.now.len) (drop a.self.now.len a.masks) (omega (arith, length-drop a.self.now.len a.masks)) in
    let found = any_from_yields_List other _ _ _ c.any.ensures.ran (YieldsList-from_slice rest cc) (λ x b q k. search (rules, tests)) ∙ any_is other rest ∙ ap non_zero whole in
    told a.self.now.counts a.masks a.self.now.len six few _ (sym c.loop-i.invariant ∙ left a.self.now.counts a.masks a.self.now.len six few c.loop-i.i (omega arith) ∙ sym found)
