-- The targets of a line, attribute by attribute.
use mathlib.Core.Path.{◌≡◌, refl, sym, ap, ◌∙◌, subst}
use mathlib.Core.Logic.{◌≢◌}
use Prim.Native.Nat.{ℕ, zero, suc, ◌+◌, ◌-◌, ◌≤◌, ◌^◌}
use native.Mathlib.Omega.{arith}
use mathlib.Core.List.{List, [], ◌∷◌}
use lib.ListN.{length, drop, get_or, length-drop}
use lib.Seq.{length-take-le}
use borrow.Author.Tests.{eq-eqb, ne_eqb}
use Rattle.meaning.specs.Text.{Bytes, bytes, gathered, counting, cut, join, tab, comma}
use Rattle.meaning.specs.Writing.{value_names, target_text, target_texts}
use Rattle.text.proofs.Pieces.{drop_next}
use Rattle.layout.specs.declared.Attributes.{Attributes}
use Rattle.layout.specs.Places.{place_at, values_in, attributes_from, attributes_of, Standing}
use Rattle.printing.specs.declared.Sink.{Sink}
use Rattle.printing.specs.Puts.{Puts}
use Rattle.printing.proofs.Laws.{then, same_text}

-- a mask that is full, and one that is not
module _ {a b : Sink} (vs : List Bytes) (count mask whole : ℕ) (counted : count ≡ length vs) (full : whole ≡ (2 ^ count) - 1) where
  pub star : mask ≡ whole → Puts a (bytes "*") b → Puts a (target_text vs mask) b × (b.at ≤ a.at + 16385)
  star e p = (rw (eq-eqb mask ((2 ^ length vs) - 1) (e ∙ full ∙ ap (λ n. (2 ^ n) - 1) counted)) p, omega (arith, p.wrote.moved))

  pub not_star : mask ≢ whole → Puts a (join comma (value_names vs mask)) b × (b.at ≤ a.at + 16385) → Puts a (target_text vs mask) b × (b.at ≤ a.at + 16385)
  not_star e (p, l) = (rw (ne_eqb mask ((2 ^ length vs) - 1) (λ i. e (i ∙ sym (full ∙ ap (λ n. (2 ^ n) - 1) counted)))) p, l)

-- the values of an attribute are part of the attribute lines
pub values_short : {f : Bytes} {a : Attributes} {i : ℕ} → Standing f a i → length f ≤ 16384 → length (values_in f a i) ≤ 16384
values_short {f} {a} {i} here short =
    let first = (place_at a i).values in
    let last = (place_at a i).end in
    omega (arith, length-take-le (last - first) (drop first f) (omega (arith, length-drop first f, here.inside)), here.inside)

-- the target of attribute i, by where its values stand, with a tab before it
abbrev pub tab_target : Bytes → Attributes → (masks : List ℕ) → ℕ → Bytes
tab_target f a masks i = tab ∷ target_text (cut tab (values_in f a i)) (get_or masks i 0)

pub tab_put : (f : Bytes) (a : Attributes) (masks : List ℕ) (i : ℕ) {values : List ℕ} {b c d : Sink} → values ≡ values_in f a i → Puts b (tab ∷ []) c → Puts c (target_text (cut tab values) (get_or masks i 0)) d × (d.at ≤ c.at + 16385)
    → Puts b (tab_target f a masks i) d × (d.at ≤ b.at + 16386)
tab_put f a masks i {c = c} {d} same p (q, l) = (then p (subst (λ vs. Puts c (target_text (cut tab vs) (get_or masks i 0)) d) same q), omega (arith, p.wrote.moved, l))

-- all targets
module _ (f : Bytes) (a : Attributes) (masks : List ℕ) where
  targets_from : (i n : ℕ) → i + n ≤ length masks → gathered (tab_target f a masks) (counting i n) ≡ gathered (λ t. tab ∷ t) (target_texts (attributes_from f a i n) (drop i masks))
  unfolding attributes_from
  targets_from i zero h = refl
  targets_from i (suc n) h =
      let next : suc i ≡ i + 1 = omega arith in
      rw (drop_next masks i (omega arith), next, targets_from (i + 1) n (omega arith))

  pub all_targets : {b c : Sink} → a.len ≤ length masks → Puts b (gathered (tab_target f a masks) (counting 0 a.len)) c → Puts b (gathered (λ t. tab ∷ t) (target_texts (attributes_of f a) masks)) c
  all_targets {b} {c} enough p = same_text (targets_from 0 a.len (omega arith)) p
