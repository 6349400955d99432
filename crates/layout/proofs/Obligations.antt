-- The obligations of an element by its places: how many there are, their names, and that the element has them.
use Prim.Native.Nat.{ℕ, zero, suc, ◌-◌, ◌≤◌}
use mathlib.Core.Path.{◌≡◌, refl, sym, ap, ◌∙◌}
use mathlib.Core.Logic.{◌≢◌}
use mathlib.Core.Bool.{Bool, true, false, cond}
use mathlib.Core.List.{List, [], ◌∷◌, map}
use native.Mathlib.Omega.{arith}
use lib.Dec.{eqb}
use lib.ListN.{length, take, replicate}
use lib.Seq.{take-append_seam}
use borrow.Author.Tests.{eqb-true, eqb-false}
use Rattle.meaning.specs.Text.{Bytes, same_name, among_names}
use Rattle.meaning.specs.Model.{obligation_name, obligations_of}
use Rattle.laws.proofs.Bools.{or_none_lem}
use Rattle.laws.proofs.Places.{obligations_with}
use Rattle.table.specs.declared.Row.{Row}
use Rattle.layout.specs.declared.Span.{Span}
use Rattle.layout.specs.declared.ElementPlaces.{ElementPlaces}
use Rattle.layout.specs.Places.{part, obligation_start, obligation_end, obligation_at, obligations_in, count_at, obligation_count, element_in}
use Rattle.layout.proofs.Slots.{count_is}

-- whether there is one, by the code's test of where its name ends
pub name_there : {none : Bool} {name : Span} (at : Span) → name ≡ at → none ≡ eqb name.end 0 → none ≡ false → at.end ≢ 0
name_there at is told some = eqb-false at.end 0 (ap (λ s. eqb s.end 0) (sym is) ∙ sym told ∙ some)

pub no_name_there : {none : Bool} {name : Span} (at : Span) → name ≡ at → none ≡ eqb name.end 0 → none ≡ true → at.end ≡ 0
no_name_there at is told some = eqb-true at.end 0 (ap (λ s. eqb s.end 0) (sym is) ∙ sym told ∙ some)

-- at most two, so that the element has them all
pub count_few : (places : List ElementPlaces) (i : ℕ) → obligation_count places i ≤ 2
unfolding count_at
count_few places i = go (eqb (obligation_end places i 0) 0) (eqb (obligation_end places i 1) 0)
  where
    go : (a b : Bool) → cond a 0 (cond b 1 2) ≤ 2
    go true b = omega arith
    go false true = omega arith
    go false false = omega arith

pub obligations_in_lem : (f : Bytes) (table : List Row) (places : List ElementPlaces) (i : ℕ) → obligations_of (element_in f table places i) ≡ obligations_in f places i
unfolding element_in
obligations_in_lem f table places i = obligations_with (obligations_in f places i) (element_in f table places i) (omega (arith, count_is f places i, count_few places i))

-- their names
module _ (f : Bytes) (places : List ElementPlaces) (i : ℕ) where
  abbrev pub obligation_name_at : ℕ → Bytes
  obligation_name_at k = part f (obligation_start places i k) (obligation_end places i k)

  name_again : (k : ℕ) → obligation_name (obligation_at f places i k) ≡ obligation_name_at k
  name_again k = take-append_seam (obligation_name_at k) (replicate (16 - length (obligation_name_at k)) 0)

  pub obligation_names : map obligation_name (obligations_in f places i) ≡ take (obligation_count places i) (obligation_name_at 0 ∷ obligation_name_at 1 ∷ [])
  unfolding obligations_in count_at
  obligation_names = go (eqb (obligation_end places i 0) 0) (eqb (obligation_end places i 1) 0)
    where
      go : (a b : Bool) → map obligation_name (cond a [] (obligation_at f places i 0 ∷ cond b [] (obligation_at f places i 1 ∷ []))) ≡ take (cond a 0 (cond b 1 2)) (obligation_name_at 0 ∷ obligation_name_at 1 ∷ [])
      go true b = refl
      go false true = rw (name_again 0)
      go false false = rw (name_again 0, name_again 1)

-- Whether a name is one of the first n of two
module _ (name a b : Bytes) where
  abbrev Known : ℕ → Bool → Type 0
  Known n r = r ≡ among_names name (take n (a ∷ b ∷ []))

  pub of_none : (n : ℕ) → n ≡ 0 → Known n false
  of_none n none = rw none

  pub of_first : (n : ℕ) → n ≢ 0 → same_name name a ≡ true → Known n true
  of_first zero some hit = absurd (some refl)
  of_first (suc n) some hit = rw hit

  pub of_one : (n : ℕ) → n ≡ 1 → same_name name a ≡ false → Known n false
  of_one n one miss = rw (one, miss)

  pub of_two_lem : (n : ℕ) → n ≢ 0 → n ≢ 1 → n ≤ 2 → same_name name a ≡ false → Known n (same_name name b)
  of_two_lem n some more few miss = let two : n ≡ 2 = go n some more few in rw (two, miss, or_none_lem (same_name name b))
    where
      go : (n : ℕ) → n ≢ 0 → n ≢ 1 → n ≤ 2 → n ≡ 2
      go n some more few = omega arith
