-- The parts of an element: its word by its number, its name with zero bytes behind; and the element of them.
use mathlib.Core.Path.{◌≡◌, refl, sym, ap, ◌∙◌}
use mathlib.Core.Logic.{◌≢◌}
use Prim.Native.Nat.{ℕ, zero, suc, ◌+◌, ◌-◌, ◌≤◌, ◌<◌}
use native.Mathlib.Nat.{le_antisymm}
use native.Mathlib.Omega.{arith}
use mathlib.Core.Bool.{Bool, true, false, cond}
use mathlib.Core.List.{List, [], ◌∷◌}
use lib.Dec.{eqb}
use lib.ListN.{length, drop, get_or, set, replicate, length-drop}
use lib.Seq.{length-take-le}
use borrow.Author.Tests.{eq-eqb, ne_eqb, eqb-true}
use Rattle.meaning.specs.declared.Kind.{Kind}
use Rattle.meaning.specs.declared.Word.{Word}
use Rattle.meaning.specs.declared.Word.TheVariants.{OnlyOneApplicable}
use Rattle.meaning.specs.declared.Obligation.{Obligation}
use Rattle.meaning.specs.declared.Element.{Element}
use Rattle.meaning.specs.Text.{Bytes}
use Rattle.meaning.specs.Model.{padded, unused}
use Rattle.table.specs.declared.Row.{Row}
use Rattle.table.specs.Rows.{word_at, depth_of, element_at, word_number, masks_at}
use Rattle.layout.specs.declared.ElementPlaces.{ElementPlaces}
use Rattle.layout.specs.Places.{part, kind_at, start_of, name_end, name_in, effect_at, obligation_start, obligation_end, obligation_at, obligations_in, obligation_count, element_in, NameAt, Obliged}
use Rattle.layout.proofs.Slots.{count_is as counted}
use Rattle.laws.proofs.Bools.{Test, passed, failed, test}
use Rattle.lists.specs.Listed.{place_in}
use Rattle.lists.proofs.Laying.{laid, laid_next, laid_all}

pub last_word : (n : ℕ) → 4 < n → OnlyOneApplicable ≡ word_at n
last_word zero l = absurd (omega arith)
last_word (suc zero) l = absurd (omega arith)
last_word (suc (suc zero)) l = absurd (omega arith)
last_word (suc (suc (suc zero))) l = absurd (omega arith)
last_word (suc (suc (suc (suc zero)))) l = absurd (omega arith)
last_word (suc (suc (suc (suc (suc n))))) l = refl

-- a name of which i bytes are laid
module _ (name all : List ℕ) (i : ℕ) (so_far : all ≡ laid name i (replicate 16 0)) where
  pub name_next : length name ≤ 16 → i < length name → set all i (get_or name i 0) ≡ laid name (i + 1) (replicate 16 0)
  name_next short more = ap (λ l. set l i (get_or name i 0)) so_far ∙ laid_next name (replicate 16 0) i 0 more (omega arith)

  pub name_whole : length name ≤ 16 → i ≤ length name → length name ≤ i → all ≡ padded 16 name
  name_whole short within over = so_far ∙ ap (λ n. laid name n (replicate 16 0)) (le_antisymm within over) ∙ laid_all name 16 0 short

-- the obligations, place by place
module _ (f : Bytes) (places : List ElementPlaces) (i : ℕ) where
  pub none_placed : (k : ℕ) → obligation_end places i k ≡ 0 → unused ≡ place_in f places i k
  none_placed k none = sym (rw (eq-eqb (obligation_end places i k) 0 none))

  pub one_placed : (k : ℕ) → obligation_end places i k ≢ 0 → Obliged f places i → k < 2 → (name : List ℕ) → name ≡ padded 16 (part f (obligation_start places i k) (obligation_end places i k)) → (w : Word)
      → w ≡ effect_at (get_or f (obligation_end places i k + 1) 0) → ◌≡◌ {A = Obligation} (record { name = name; len = obligation_end places i k - obligation_start places i k; word = w }) (place_in f places i k)
  one_placed k some obliged which name name_is w w-is =
      let start = obligation_start places i k in
      let end = obligation_end places i k in
      let size : length (part f start end) ≡ end - start = length-take-le (end - start) (drop start f) (omega (arith, length-drop start f, obliged.ends k which some)) in
      rw (name_is, w-is, ne_eqb end 0 some, size)

  first_is : place_in f places i 0 ≡ get_or (obligations_in f places i) 0 unused
  unfolding obligations_in
  first_is = go (eqb (obligation_end places i 0) 0)
    where
      go : (a : Bool) → cond a unused (obligation_at f places i 0) ≡ get_or (cond a [] (obligation_at f places i 0 ∷ cond (eqb (obligation_end places i 1) 0) [] (obligation_at f places i 1 ∷ []))) 0 unused
      go true = refl
      go false = refl

  second_is : Obliged f places i → place_in f places i 1 ≡ get_or (obligations_in f places i) 1 unused
  unfolding obligations_in
  second_is obliged = go (test (eqb (obligation_end places i 0) 0))
    where
      later : (b : Bool) → cond b unused (obligation_at f places i 1) ≡ get_or (obligation_at f places i 0 ∷ cond b [] (obligation_at f places i 1 ∷ [])) 1 unused
      later true = refl
      later false = refl

      go : Test (eqb (obligation_end places i 0) 0) → place_in f places i 1 ≡ get_or (obligations_in f places i) 1 unused
      go (passed none) = sym (none_placed 1 (obliged.in_order (eqb-true (obligation_end places i 0) 0 none))) ∙ sym (rw none)
      go (failed some) = sym (rw some (sym (later (eqb (obligation_end places i 1) 0))))

-- the element
module _ (f : Bytes) (table : List Row) (places : List ElementPlaces) (i : ℕ) (named : NameAt f places i) (obliged : Obliged f places i) where
  pub element_made : (k : Kind) → k ≡ kind_at (get_or f (start_of places i) 0) → (depth : ℕ) → depth ≡ depth_of table i → (name : List ℕ) → name ≡ padded 16 (name_in f places i) → (w : Word) → w ≡ word_at (word_number table i)
      → (masks : List ℕ) → masks ≡ masks_at table i → (count : ℕ) → count ≡ obligation_count places i → (first : Obligation) → first ≡ place_in f places i 0 → (second : Obligation) → second ≡ place_in f places i 1
      → ◌≡◌ {A = Element} (record { kind = k; depth = depth; name = name; len = name_end places i - (start_of places i + 4); word = w; masks = masks; obligations = count; first = first; second = second }) (element_in f table places i)
  unfolding element_in element_at
  element_made k k-is depth depth_is name name_is w w-is masks masks-are count count_is first first-place second second-place =
      let start = start_of places i + 4 in
      let end = name_end places i in
      let size : length (name_in f places i) ≡ end - start = length-take-le (end - start) (drop start f) (omega (arith, length-drop start f, named.ends)) in
      rw (k-is, depth_is, name_is, w-is, masks-are, size, count_is, ← counted f places i, first-place, first_is f places i, second-place, second_is f places i obliged)
