-- The masks of a tree line: the walk over the attributes and the target fields in step.
use Rattle.std.specs.Prelude.{Option as Found, Some, None}
use Prim.Native.Nat.{ℕ, zero, suc, ◌+◌, ◌-◌, ◌≤◌, ◌<◌}
use mathlib.Core.Path.{◌≡◌, refl, sym, ap, ap₂, ◌∙◌}
use mathlib.Core.Bool.{false, cond}
use mathlib.Core.List.{List, [], ◌∷◌, ◌++◌}
use mathlib.Core.Option.{none, some}
use native.Mathlib.Nat.{sub-zero}
use native.Mathlib.Numerals.{add-one}
use native.Mathlib.Omega.{arith}
use lib.ListN.{length, drop, get_or, set, replicate}
use lib.Seq.{sets, drop-cons}
use borrow.Author.Tests.{ne_eqb, le-ltb}
use Rattle.meaning.specs.Text.{Bytes, cut, tab}
use Rattle.meaning.specs.Model.{Attribute, full}
use Rattle.meaning.specs.Reading.{non_zero, target_of, masks_of, bad_masks}
use Rattle.laws.proofs.Found.{found_some, found_none}
use Rattle.laws.proofs.Targets.{field_read}
use Rattle.laws.proofs.Text.{cut_some, some_piece}
use Rattle.laws.proofs.Bounds.{masks_count}
use Rattle.laws.specs.Found.{found}
use Rattle.layout.specs.declared.Attributes.{Attributes}
use Rattle.layout.specs.Places.{values_in, attribute_at, attributes_from, attributes_of}
use Rattle.layout.proofs.Laws.{attributes_walk, attributes_length}
use Rattle.layout.proofs.Counts.{laid_padded}
use Rattle.tree_fields.specs.Masks.{masks_in}

-- Zeros are no masks
pub zeros : (n : ℕ) → non_zero (replicate n 0) ≡ false
zeros zero = refl
zeros (suc n) = zeros n

-- What a line gives whose masks before i are laid: the targets ts of these attributes are left, and zs stands behind their masks
abbrev pub left : (attrs : List Attribute) (ts : List Bytes) (zs masks : List ℕ) (i : ℕ) → Found (List ℕ)
left attrs ts zs masks i = cond (bad_masks attrs (masks_of attrs ts ++ zs)) None (Some (sets masks i (masks_of attrs ts)))

-- the first target
module _ (x : Attribute) (attrs : List Attribute) (t : Bytes) (ts : List Bytes) (zs masks : List ℕ) (i : ℕ) where
  left_bad : target_of x.values t ≡ none → left (x ∷ attrs) (t ∷ ts) zs masks i ≡ None
  left_bad e = rw e

  left_good : {m : ℕ} → 0 < length x.values → target_of x.values t ≡ some m → left (x ∷ attrs) (t ∷ ts) zs masks i ≡ left attrs ts zs (set masks i m) (i + 1)
  left_good {m} some_value e =
      let read = field_read x.values t m e in
      let some_bit : m ≡ 0 → ⊥ = λ z. absurd (omega (arith, read.not_empty some_value)) in
      rw (e, ne_eqb m 0 some_bit, le-ltb (full x.values) m read.no_high_bit, add-one i)

-- The attributes and the targets that are left at i
pub record Walked (f : Bytes) (a : Attributes) (ts : List Bytes) (masks : List ℕ) (i : ℕ) : Type 0 where
  pub left_are : left (attributes_from f a i (a.len - i)) (drop i ts) (replicate (6 - length (masks_of (attributes_of f a) ts)) 0) masks i ≡ masks_in (attributes_of f a) ts

pub walk_starts : (f : Bytes) (a : Attributes) (ts : List Bytes) → a.len ≤ 6 → Walked f a ts (replicate 6 0) 0
walk_starts f a ts few =
    let all_fit : length (masks_of (attributes_of f a) ts) ≤ 6 = omega (arith, masks_count (attributes_of f a) ts, attributes_length f a) in
    record { left_are = rw (sub-zero a.len, laid_padded 6 (masks_of (attributes_of f a) ts) all_fit) }

module _ {f : Bytes} {a : Attributes} {ts : List Bytes} {masks : List ℕ} {i : ℕ} (w : Walked f a ts masks i) where
  pub walk_ends : i ≡ a.len → Some masks ≡ masks_in (attributes_of f a) ts
  unfolding attributes_from
  walk_ends e =
      let none_left : a.len - i ≡ 0 = omega arith in
      rw (none_left, zeros (6 - length (masks_of (attributes_of f a) ts))) at w.left_are

  -- the mask of target i, as its piece and its attribute's values give it
  module _ (here : i < a.len) (more : i < length ts) {values piece : Bytes} {mask : Found ℕ} (values_are : values ≡ values_in f a i) (piece_is : piece ≡ get_or ts i []) (told : mask ≡ found (target_of (cut tab values) piece)) where
    is_mask : mask ≡ found (target_of (attribute_at f a i).values (get_or ts i []))
    is_mask = told ∙ ap₂ (λ vs t. found (target_of (cut tab vs) t)) values_are piece_is

    targets_here : drop i ts ≡ get_or ts i [] ∷ drop (i + 1) ts
    targets_here = drop-cons ts i [] more ∙ ap (λ n. get_or ts i [] ∷ drop n ts) (sym (add-one i))

    pub walk_bad : mask ≡ None → None ≡ masks_in (attributes_of f a) ts
    walk_bad e =
        let bad = left_bad (attribute_at f a i) (attributes_from f a (i + 1) (a.len - (i + 1))) (get_or ts i []) (drop (i + 1) ts) (replicate (6 - length (masks_of (attributes_of f a) ts)) 0) masks i (found_none _ (sym is_mask ∙ e)) in
        sym bad ∙ (rw (attributes_walk f a a.len i here, targets_here) at w.left_are)

    pub walk_on : {m : ℕ} → mask ≡ Some m → Walked f a ts (set masks i m) (i + 1)
    walk_on e =
        let good = left_good (attribute_at f a i) (attributes_from f a (i + 1) (a.len - (i + 1))) (get_or ts i []) (drop (i + 1) ts) (replicate (6 - length (masks_of (attributes_of f a) ts)) 0) masks i (some_piece (cut_some tab (values_in f a i))) (found_some _ (sym is_mask ∙ e)) in
        record { left_are = sym good ∙ (rw (attributes_walk f a a.len i here, targets_here) at w.left_are) }
