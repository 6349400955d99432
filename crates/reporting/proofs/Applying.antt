-- Which elements of a policy apply to a request: those of the table that it was read into.
use mathlib.Core.Path.{◌≡◌, refl, sym, ap, ◌∙◌}
use Prim.Native.Nat.{ℕ, zero, suc, ◌+◌, ◌<◌}
use native.Mathlib.Omega.{arith}
use mathlib.Core.Bool.{Bool, false, ◌&&◌}
use mathlib.Core.List.{List, [], ◌∷◌, ◌++◌, map, map-append, append-nil, append_assoc, reverse, reverse-cons, reverse-reverse}
use lib.Dec.{eqb}
use lib.ListN.{get_or}
use Rattle.meaning.specs.declared.Element.{Element}
use Rattle.meaning.specs.Text.{Bytes, all, counting}
use Rattle.meaning.specs.Model.{Policy, sizes, severals}
use Rattle.meaning.specs.Deciding.{request_of, matches, above, applies, hits}
use Rattle.meaning.specs.Segments.{applying, applying_to}
use Rattle.laws.proofs.Bools.{Test, passed, failed, test}
use Rattle.table.specs.declared.Row.{Row}
use Rattle.table.specs.Rows.{element_at}
use Rattle.layout.specs.declared.ElementPlaces.{ElementPlaces}
use Rattle.layout.specs.Places.{element_in, elements_to}
use Rattle.layout.proofs.Laws.{bare, elements_bare}
use Rattle.rows.specs.Words.{marks, word_from, applies_at, applying_at}
use Rattle.rows.proofs.Marks.{test_at}

-- one number more
pub counting_more : (i k : ℕ) → counting i (suc k) ≡ counting i k ++ ((i + k) ∷ [])
counting_more i zero = let here : i + 0 ≡ i = omega arith in rw here
counting_more i (suc k) = let next : suc i + k ≡ i + suc k = omega arith in ap (λ xs. i ∷ xs) (counting_more (suc i) k) ∙ rw next

-- one element more
applying_more : (hit : Element → Bool) (front es : List Element) (e : Element) → applying hit front (es ++ (e ∷ [])) ≡ applying hit front es ++ (applies hit (reverse es ++ front) e ∷ [])
applying_more hit front [] e = refl
applying_more hit front (x ∷ es) e =
    let nearer : reverse (x ∷ es) ++ front ≡ reverse es ++ (x ∷ front) = rw (reverse-cons, append_assoc) in
    ap (λ bs. applies hit front x ∷ bs) (applying_more hit (x ∷ front) es e ∙ ap (λ l. applying hit (x ∷ front) es ++ (applies hit l e ∷ [])) (sym nearer))

-- it looks at neither kinds nor names
module _ (bs : List Bool) (q : List ℕ) where
  all_bare : (d : ℕ) (es : List Element) → all (matches bs q) (above d (map bare es)) ≡ all (matches bs q) (above d es)
  all_bare d [] = refl
  all_bare zero (e ∷ es) = refl
  all_bare (suc d) (e ∷ es) = go (test (eqb e.depth d)) (all_bare d es) (all_bare (suc d) es)
    where
      go : Test (eqb e.depth d) → all (matches bs q) (above d (map bare es)) ≡ all (matches bs q) (above d es) → all (matches bs q) (above (suc d) (map bare es)) ≡ all (matches bs q) (above (suc d) es)
          → all (matches bs q) (above (suc d) (map bare (e ∷ es))) ≡ all (matches bs q) (above (suc d) (e ∷ es))
      go (passed t) parent farther = rw (t, parent)
      go (failed t) parent farther = rw (t, farther)

  applies_bare : (es : List Element) (e : Element) → applies (matches bs q) (map bare es) (bare e) ≡ applies (matches bs q) es e
  applies_bare es e = ap (λ b. matches bs q e && b) (all_bare e.depth es)

-- an element of the table
module _ (f : Bytes) (table : List Row) (places : List ElementPlaces) (bs : List Bool) (q : List ℕ) where
  applies_is : (n : ℕ) → applies (matches bs q) (elements_to f table places n) (element_in f table places n) ≡ applies_at table (matches bs q) n
  unfolding applies_at element_in element_at
  applies_is n = sym (applies_bare bs q (elements_to f table places n) (element_in f table places n)) ∙ ap (λ es. applies (matches bs q) es (element_at table n)) (elements_bare f table places n)

  -- all of them
  all_applying : (n : ℕ) → applying (matches bs q) [] (reverse (elements_to f table places n)) ≡ map (applies_at table (matches bs q)) (counting 0 n)
  unfolding elements_to
  all_applying zero = refl
  all_applying (suc n) =
      let es = elements_to f table places n in
      let e = element_in f table places n in
      let front : reverse (reverse es) ++ [] ≡ es = append-nil (reverse (reverse es)) ∙ reverse-reverse es in
      let here : 0 + n ≡ n = omega arith in
      let more : counting 0 (suc n) ≡ counting 0 n ++ (n ∷ []) = counting_more 0 n ∙ rw here in
      ap (applying (matches bs q) []) (reverse-cons e es)
      ∙ applying_more (matches bs q) [] (reverse es) e
      ∙ rw (front, applies_is n, all_applying n)
      (sym (map-append (applies_at table (matches bs q)) (counting 0 n) (n ∷ [])) ∙ ap (map (applies_at table (matches bs q))) (sym more))

module _ (f : Bytes) (table : List Row) (places : List ElementPlaces) (n : ℕ) (p : Policy) (is : p.elements ≡ reverse (elements_to f table places n)) (hit : ℕ → Element → Bool) (hits_are : (m : ℕ) → hit m ≡ hits p m) where
  pub applying_is : (m : ℕ) → applying_to p m ≡ map (applies_at table (hit m)) (counting 0 n)
  applying_is m =
      ap (applying (hits p m) []) is
      ∙ all_applying f table places (severals p.attributes) (request_of (sizes p.attributes) m) n
      ∙ ap (λ test. map (applies_at table test) (counting 0 n)) (sym (hits_are m))

  -- one of them
  pub applies_at_lem : (m i : ℕ) → i < n → applies_at table (hit m) i ≡ get_or (applying_to p m) i false
  applies_at_lem m i l = let here : 0 + i ≡ i = omega arith in sym (ap (λ bs. get_or bs i false) (applying_is m) ∙ test_at (applies_at table (hit m)) 0 n i l ∙ rw here)

  -- the word of a request has their marks
  pub word_is : (m : ℕ) → applying_at table n hit m ≡ marks (applying_to p m)
  unfolding word_from
  word_is m = ap marks (sym (applying_is m))
