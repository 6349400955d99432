-- A request matches an element's target if each attribute's value is marked in its mask.
use mathlib.Core.Path.{◌≡◌, refl, sym, ap, ◌∙◌}
use Prim.Native.Nat.{ℕ, zero, suc, ◌+◌, ◌*◌, ◌/◌, ◌%◌, ◌≤◌}
use native.Mathlib.Omega.{arith}
use mathlib.Core.Bool.{Bool, true, false, cond}
use mathlib.Core.List.Memᴰ
use mathlib.Core.List.{List, [], ◌∷◌, Memᴰ}
use lib.ListN.{length, get_or}
use lib.Pow.{pow_pos}
use borrow.Author.Tests.{eq-eqb, ne_eqb}
use Rattle.meaning.specs.Text.{Bytes}
use Rattle.meaning.specs.Model.{Attribute, Policy, severals, sizes, given, full}
use Rattle.meaning.specs.Reading.{bad_masks, read}
use Rattle.meaning.specs.Deciding.{Request, request_of, bit, members, in_field, within}
use Rattle.meaning.specs.Claims.PolicyFile.{marks_mask}
use Rattle.meaning.specs.Claims.Requests.{Fits, InField, Shares, InTarget, Matched}
use Rattle.laws.proofs.Bounds.{GoodElement}
use Rattle.laws.proofs.Bools.{contradiction, and_true}
use Rattle.laws.proofs.Search.{any_has, any_only}
use Rattle.laws.proofs.Bounds.{masks_good, all_has, bounded}
use Rattle.laws.proofs.Bits.{bit_zero, bit_down}
use Rattle.laws.proofs.Marks.{marks_of, marks_mask_lem}
use Rattle.laws.proofs.RequestLines.{numbered}

-- A mask's bit is its mark
pub mark_bit : (bs : List Bool) (v : ℕ) → bit (marks_mask bs) v ≡ get_or bs v false
mark_bit [] v = bit_zero v
mark_bit (true ∷ bs) zero = let odd : (1 + 2 * marks_mask bs) / 1 % 2 ≡ 1 = omega arith in eq-eqb ((1 + 2 * marks_mask bs) / 1 % 2) 1 odd
mark_bit (false ∷ bs) zero = let even : (0 + 2 * marks_mask bs) / 1 % 2 ≡ 0 = omega arith in ne_eqb ((0 + 2 * marks_mask bs) / 1 % 2) 1 (omega arith)
mark_bit (true ∷ bs) (suc v) = let half : (1 + 2 * marks_mask bs) / 2 ≡ marks_mask bs = omega arith in next (1 + 2 * marks_mask bs) v ∙ ap (λ m. bit m v) half ∙ mark_bit bs v
  where
    next : (m v : ℕ) → bit m (suc v) ≡ bit (m / 2) v
    next m v = let e : suc v ≡ 1 + v = omega arith in ap (bit m) e ∙ sym (bit_down m 1 v)
mark_bit (false ∷ bs) (suc v) = let half : (0 + 2 * marks_mask bs) / 2 ≡ marks_mask bs = omega arith in next (0 + 2 * marks_mask bs) v ∙ ap (λ m. bit m v) half ∙ mark_bit bs v
  where
    next : (m v : ℕ) → bit m (suc v) ≡ bit (m / 2) v
    next m v = let e : suc v ≡ 1 + v = omega arith in ap (bit m) e ∙ sym (bit_down m 1 v)

field_in : (mask v : ℕ) → InField mask v → bit mask v ≡ true
field_in mask v (marks, e, h) = ap (λ m. bit m v) e ∙ mark_bit marks v ∙ h

in_field_lem : (vs : List Bytes) (mask v : ℕ) → mask ≤ full vs → bit mask v ≡ true → InField mask v
in_field_lem vs mask v l h =
    let e = marks_mask_lem vs mask (omega (arith, pow_pos (length vs))) in
    (marks_of vs mask, e, sym (mark_bit (marks_of vs mask) v) ∙ ap (λ m. bit m v) (sym e) ∙ h)

-- a value of a request in a field, by the attribute's letter
shares_in : (a : Attribute) (mask v : ℕ) → Shares a mask v → in_field a.several mask v ≡ true
shares_in a mask v (w, m, f) = go a.several m
  where
    go : (b : Bool) → Memᴰ w (cond b (members v) (v ∷ [])) → in_field b mask v ≡ true
    go true m = any_has (bit mask) w m (field_in mask w f)
    go false m = ap (bit mask) (sym (Memᴰ.eq_of_singleton m)) ∙ field_in mask w f

in_shares : (a : Attribute) (mask v : ℕ) → mask ≤ full a.values → in_field a.several mask v ≡ true → Shares a mask v
in_shares a mask v l h = let (w, m, f) = go a.several h in (w, m, in_field_lem a.values mask w l f)
  where
    go : (b : Bool) → in_field b mask v ≡ true → (w : ℕ) × Memᴰ w (cond b (members v) (v ∷ [])) × (bit mask w ≡ true)
    go true e = any_only (bit mask) (members v) e
    go false e = (v, Memᴰ.head refl, e)

target_in : (attrs : List Attribute) (ms : List ℕ) (q : Request) → InTarget attrs ms q → within (severals attrs) ms q ≡ true
target_in attrs ms [] t = refl
target_in [] ms (v ∷ vs) t = absurd t
target_in (a ∷ attrs) [] (v ∷ vs) t = absurd t
target_in (a ∷ attrs) (m ∷ ms) (v ∷ vs) t = rw (shares_in a m v t.0) (target_in attrs ms vs t.1)

in_target : (attrs : List Attribute) (ms : List ℕ) (q : Request) → Fits (sizes attrs) q → bad_masks attrs ms ≡ false → within (severals attrs) ms q ≡ true → InTarget attrs ms q
in_target [] ms [] f b h = tt
in_target [] ms (v ∷ vs) f b h = absurd f
in_target (a ∷ attrs) ms [] f b h = absurd f
in_target (a ∷ attrs) [] (v ∷ vs) f b h = contradiction refl b
in_target (a ∷ attrs) (m ∷ ms) (v ∷ vs) f b h =
    let g = masks_good a attrs m ms b in
    let (own, others) = and_true (in_field a.several m v) (within (severals attrs) ms vs) h in
    (in_shares a m v g.no_high_bit own, in_target attrs ms vs f.1 g.others others)

pub matched : (f : Bytes) (p : Policy) → read f ≡ given p → Matched p
matched f p h =
    let b = bounded f p h in
    let numbers = numbered p.attributes b.some_attribute b.attributes_good in
    λ n l e m. (λ t. in_target p.attributes e.masks (request_of (sizes p.attributes) n) (numbers.number_again n l).0 (all_has (GoodElement p.attributes) e m b.elements_good).masked t, target_in p.attributes e.masks (request_of (sizes p.attributes) n))
