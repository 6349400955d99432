-- Where nothing is struck, an element of the table gives what the policy's element decides.
use mathlib.Core.Path.{◌≡◌, sym, ap, ◌∙◌}
use Prim.Native.Nat.{ℕ, zero, suc, ◌+◌, ◌-◌, ◌<◌}
use native.Mathlib.Omega.{arith}
use mathlib.Core.List.{List, map, reverse}
use lib.ListN.{drop, get_or}
use lib.Seq.{drop-nil}
use borrow.Author.Tests.{eq-eqb}
use Rattle.std.proofs.lemmas.List.{drop-map}
use mathlib.Core.Bool.{Bool}
use Rattle.meaning.specs.declared.Decision.{Decision}
use Rattle.meaning.specs.Text.{Bytes}
use Rattle.meaning.specs.Model.{Policy, sizes, severals}
use Rattle.meaning.specs.Deciding.{request_of, matches, is as is_of, first_decision, hits}
use Rattle.meaning.specs.Segments.{decision_at}
use Rattle.meaning.specs.declared.Element.{Element}
use Rattle.table.specs.declared.Row.{Row}
use Rattle.table.specs.Tree.{left}
use Rattle.decisions.proofs.Children.{first_left}
use Rattle.layout.specs.declared.ElementPlaces.{ElementPlaces}
use Rattle.layout.specs.Places.{elements_to}
use Rattle.layout.proofs.Laws.{bare, decision_bare}
use Rattle.trimmed_text.proofs.Table.{whole_left}
use Rattle.rows.specs.Words.{gives_at}

module _ (table : List Row) (struck : List ℕ) (clear : (k : ℕ) → get_or struck k 0 ≡ 0) where
  -- what is left from a place on is what is left behind so many
  left_behind : (i c j : ℕ) → drop j (left table struck i c) ≡ left table struck (i + j) (c - j)
  unfolding left
  left_behind i zero j = let no_more : 0 - j ≡ 0 = omega arith in rw (drop-nil j, no_more)
  left_behind i (suc c) zero =
      let here : i + 0 ≡ i = omega arith in
      let all : suc c - 0 ≡ suc c = omega arith in
      rw (here, all)
  left_behind i (suc c) (suc j) =
      let next : i + suc j ≡ (i + 1) + j = omega arith in
      let fewer : suc c - suc j ≡ c - j = omega arith in
      rw (eq-eqb (get_or struck i 0) 0 (clear i), next, fewer) (left_behind (i + 1) c j)

module _ (f : Bytes) (table : List Row) (places : List ElementPlaces) (n : ℕ) (p : Policy) (is : p.elements ≡ reverse (elements_to f table places n)) (hit : ℕ → Element → Bool) (hits_are : (m : ℕ) → hit m ≡ hits p m)
    (struck : List ℕ) (clear : (k : ℕ) → get_or struck k 0 ≡ 0) where
  -- the elements from a place on
  left_from_lem : (j : ℕ) → left table struck j (n - j) ≡ map bare (drop j p.elements)
  left_from_lem j =
      let here : 0 + j ≡ j = omega arith in
      ap (λ i. left table struck i (n - j)) (sym here)
      ∙ sym (left_behind table struck clear 0 n j)
      ∙ ap (drop j) (whole_left f table places n p is struck (λ k l. clear k))
      ∙ drop-map bare j p.elements

  -- what one of them gives
  pub gives_is : (d : Decision) (m j : ℕ) → j < n → gives_at d table struck n (hit m) j ≡ is_of d (decision_at p m j)
  unfolding gives_at
  gives_is d m j l =
      let bs = severals p.attributes in
      let q = request_of (sizes p.attributes) m in
      ap (λ test. gives_at d table struck n test j) (hits_are m)
      ∙ ap (is_of d) (sym (first_left (matches bs q) table struck n j l (clear j))
      ∙ ap (first_decision (matches bs q)) (left_from_lem j)
      ∙ decision_bare bs q (drop j p.elements))
