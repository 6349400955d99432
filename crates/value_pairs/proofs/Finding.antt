-- The search for the attribute that has a name, place by place; and how many choices the attributes from a place on have.
use mathlib.Core.Path.{◌≡◌, sym, ap, ◌∙◌}
use Prim.Native.Nat.{ℕ, zero, suc, ◌+◌, ◌-◌, ◌*◌, ◌≤◌, ◌<◌}
use native.Mathlib.Nat.{le_trans, mul_comm, mul-le-mul_right, one-mul}
use native.Mathlib.Numerals.{add-one}
use native.Mathlib.Omega.{arith}
use mathlib.Core.Bool.{true, false}
use mathlib.Core.List.{List, [], ◌∷◌}
use lib.ListN.{length, take, drop, get_or}
use lib.Seq.{drop-cons, drop-length, get_or-take, length-take-le}
use Rattle.meaning.specs.Text.{Bytes, same_name}
use Rattle.meaning.specs.Model.{product, refused, given}
use Rattle.meaning.specs.ValuePairs.{several_at}
use Rattle.laws.proofs.Requests.{Positive}
use Rattle.layout.specs.declared.Attributes.{Attributes}
use Rattle.layout.specs.Places.{place_at, attribute_at, attributes_from}
use Rattle.layout.proofs.Names.{attributes_end, attributes_next}

module _ (f : Bytes) (a : Attributes) (name : Bytes) (i : ℕ) where
  module _ (l : i < a.len) where
    pub here : (place_at a i).several ≡ true → same_name name (attribute_at f a i).name ≡ true → several_at i name (attributes_from f a i (a.len - i)) ≡ given i
    here several named = ap (several_at i name) (attributes_next f a i l) ∙ rw (several, named)

    next : several_at (suc i) name (attributes_from f a (i + 1) (a.len - (i + 1))) ≡ several_at (i + 1) name (attributes_from f a (i + 1) (a.len - (i + 1)))
    next = ap (λ k. several_at k name (attributes_from f a (i + 1) (a.len - (i + 1)))) (sym (add-one i))

    pub not_several : (place_at a i).several ≡ false → several_at i name (attributes_from f a i (a.len - i)) ≡ several_at (i + 1) name (attributes_from f a (i + 1) (a.len - (i + 1)))
    not_several e = ap (several_at i name) (attributes_next f a i l) ∙ rw e next

    pub other_name : (place_at a i).several ≡ true → same_name name (attribute_at f a i).name ≡ false → several_at i name (attributes_from f a i (a.len - i)) ≡ several_at (i + 1) name (attributes_from f a (i + 1) (a.len - (i + 1)))
    other_name several e = ap (several_at i name) (attributes_next f a i l) ∙ rw (several, e) next

  pub none_found : a.len ≤ i → several_at i name (attributes_from f a i (a.len - i)) ≡ refused 13 0
  none_found l = ap (several_at i name) (attributes_end f a i l)

-- Products
pub drop_positive : (i : ℕ) (ss : List ℕ) → Positive ss → Positive (drop i ss)
drop_positive zero ss p = p
drop_positive (suc i) [] p = tt
drop_positive (suc i) (s ∷ ss) p = drop_positive i ss p.1

-- those from a place on are at most all
pub product_drop : (i : ℕ) (ss : List ℕ) → Positive ss → product (drop i ss) ≤ product ss
product_drop zero ss p = omega arith
product_drop (suc i) [] p = omega arith
product_drop (suc i) (s ∷ ss) p = le_trans (product_drop i ss p.1) (le_trans (omega (arith, one-mul (product ss))) (mul-le-mul_right (product ss) p.0))

-- one more
product_next : (counts : List ℕ) (len i : ℕ) → i < len → len ≤ length counts → product (drop (i + 1) (take len counts)) * get_or counts i 0 ≡ product (drop i (take len counts))
product_next counts len i l room =
    let inside : i < length (take len counts) = omega (arith, length-take-le len counts room) in
    let here : drop i (take len counts) ≡ get_or counts i 0 ∷ drop (i + 1) (take len counts) = drop-cons (take len counts) i 0 inside ∙ rw (get_or-take len counts i 0 l, add-one i) in
    mul_comm (product (drop (i + 1) (take len counts))) (get_or counts i 0) ∙ sym (ap product here)

-- the same, from those behind
pub product_before : (counts : List ℕ) (len i : ℕ) {total : ℕ} → 0 < i → i ≤ len → len ≤ length counts → total ≡ product (drop i (take len counts)) → total * get_or counts (i - 1) 0 ≡ product (drop (i - 1) (take len counts))
product_before counts len i some l room is =
    let back : i - 1 + 1 ≡ i = omega arith in
    ap (λ t. t * get_or counts (i - 1) 0) (is ∙ ap (λ k. product (drop k (take len counts))) (sym back)) ∙ product_next counts len (i - 1) (omega arith) room

pub product_none : (counts : List ℕ) (len : ℕ) → len ≤ length counts → product (drop len (take len counts)) ≡ 1
product_none counts len room = ap product (ap (λ n. drop n (take len counts)) (sym (length-take-le len counts room)) ∙ drop-length (take len counts))
