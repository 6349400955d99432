-- The places of obligations: elements whose places are alike have the same obligations and lines; and one obligation more.
use Prim.Native.Nat.{ℕ, zero, suc, ◌<◌}
use mathlib.Core.Path.{◌≡◌, refl, sym, ap, ◌∙◌}
use mathlib.Core.Logic.{◌≢◌}
use mathlib.Core.Bool.{Bool, true, false, cond}
use mathlib.Core.List.{List, [], ◌∷◌, ◌++◌}
use native.Mathlib.Omega.{arith}
use lib.Dec.{eqb}
use lib.ListN.{length, take, get_or, replicate, length-set, length-append}
use lib.Seq.{get_or-set_same, get_or-set_other}
use borrow.Author.Tests.{eq-eqb, ne_eqb, eqb-true, eqb-false}
use Rattle.meaning.specs.Text.{Bytes}
use Rattle.meaning.specs.declared.Obligation.{Obligation}
use Rattle.meaning.specs.Model.{unused, obligations_of}
use Rattle.laws.proofs.Bools.{Test, passed, failed, test}
use Rattle.table.specs.declared.Row.{Row}
use Rattle.layout.specs.declared.Span.{Span}
use Rattle.layout.specs.declared.ElementPlaces.{ElementPlaces}
use Rattle.layout.specs.Places.{no_places, places_at, start_of, name_end, obligation_place, obligation_start, obligation_end, obliging_at, with_obligation, obligation_in, obligation_at, obligations_in, count_at, obligation_count, element_in, Obliged, Clear, lines_to}

-- Element i has the same places for obligations in both
abbrev pub SameSlots : (xs ys : List ElementPlaces) → ℕ → Type 0
SameSlots xs ys i = (k : ℕ) → k < 2 → (obligation_start ys i k ≡ obligation_start xs i k) × (obligation_end ys i k ≡ obligation_end xs i k)

module _ (xs ys : List ElementPlaces) where
  pub count_alike : (i : ℕ) → SameSlots xs ys i → obligation_count ys i ≡ obligation_count xs i
  unfolding count_at
  count_alike i same = rw ((same 0 (omega arith)).1, (same 1 (omega arith)).1)

  pub obligations_alike : (f : Bytes) (i : ℕ) → SameSlots xs ys i → obligations_in f ys i ≡ obligations_in f xs i
  unfolding obligations_in
  obligations_alike f i same = rw ((same 0 (omega arith)).0, (same 0 (omega arith)).1, (same 1 (omega arith)).0, (same 1 (omega arith)).1)

  pub lines_alike : (n : ℕ) → ((i : ℕ) → i < n → SameSlots xs ys i) → lines_to ys n ≡ lines_to xs n
  unfolding lines_to
  lines_alike zero same = refl
  lines_alike (suc n) same = rw (lines_alike n (λ i l. same i (omega arith)), count_alike n (same n (omega arith)))

  pub obliged_alike : (f : Bytes) (i : ℕ) → length ys ≡ length xs → SameSlots xs ys i → Obliged f xs i → Obliged f ys i
  obliged_alike f i size same o =
      record {
        room = rw size o.room;
        starts = λ k l. rw ((same k l).0, (same k l).1) (o.starts k l);
        ends = λ k l. rw (same k l).1 (o.ends k l);
        short = λ k l. rw ((same k l).0, (same k l).1) (o.short k l);
        in_order = λ none. (same 1 (omega arith)).1 ∙ o.in_order (sym (same 0 (omega arith)).1 ∙ none);
      }

-- an element without any
pub none_in : (f : Bytes) (places : List ElementPlaces) (i : ℕ) → obligation_end places i 0 ≡ 0 → (obligations_in f places i ≡ []) × (obligation_count places i ≡ 0)
unfolding obligations_in count_at
none_in f places i none = (rw (eq-eqb (obligation_end places i 0) 0 none), rw (eq-eqb (obligation_end places i 0) 0 none))

pub none_obliged : (f : Bytes) (places : List ElementPlaces) (i : ℕ) → i < length places → ((k : ℕ) → k < 2 → (obligation_start places i k ≡ 0) × (obligation_end places i k ≡ 0)) → Obliged f places i
none_obliged f places i room none =
    record {
      room = room;
      starts = λ k l. omega (arith, (none k l).0, (none k l).1);
      ends = λ k l some. absurd (some (none k l).1);
      short = λ k l. omega (arith, (none k l).0, (none k l).1);
      in_order = λ e. (none 1 (omega arith)).1;
    }

-- places of no elements have none
pub none_clear : (n : ℕ) → Clear (replicate n no_places) 0
none_clear n i k from few = blank k (none_at n i)
  where
    none_at : (n i : ℕ) → places_at (replicate n no_places) i ≡ no_places
    none_at zero i = refl
    none_at (suc n) zero = refl
    none_at (suc n) (suc i) = none_at n i

    blank : (k : ℕ) → places_at (replicate n no_places) i ≡ no_places → (obligation_start (replicate n no_places) i k ≡ 0) × (obligation_end (replicate n no_places) i k ≡ 0)
    blank zero e = (ap (λ p. p.first.start) e, ap (λ p. p.first.end) e)
    blank (suc k) e = (ap (λ p. p.second.start) e, ap (λ p. p.second.end) e)

-- their number
pub count_is : (f : Bytes) (places : List ElementPlaces) (i : ℕ) → length (obligations_in f places i) ≡ obligation_count places i
unfolding obligations_in count_at
count_is f places i = go (eqb (obligation_end places i 0) 0) (eqb (obligation_end places i 1) 0)
  where
    go : (a b : Bool) → length (cond a [] (obligation_at f places i 0 ∷ cond b [] (obligation_at f places i 1 ∷ []))) ≡ cond a 0 (cond b 1 2)
    go true b = refl
    go false true = refl
    go false false = refl

-- they are the element's
pub obligations_of_lem : (f : Bytes) (table : List Row) (places : List ElementPlaces) (i : ℕ) → obligations_of (element_in f table places i) ≡ obligations_in f places i
unfolding element_in obligations_in
obligations_of_lem f table places i = go (eqb (obligation_end places i 0) 0) (eqb (obligation_end places i 1) 0)
  where
    go : (a b : Bool) → let os = cond a [] (obligation_at f places i 0 ∷ cond b [] (obligation_at f places i 1 ∷ [])) in take (length os) (get_or os 0 unused ∷ get_or os 1 unused ∷ []) ≡ os
    go true b = refl
    go false true = refl
    go false false = refl

-- What the places of one element have with another name of an obligation put there
module _ (p : ElementPlaces) (name : Span) where
  put_line : (k : ℕ) → (obliging_at p k name).start ≡ p.start
  put_line zero = refl
  put_line (suc k) = refl

  put_name : (k : ℕ) → (obliging_at p k name).name_end ≡ p.name_end
  put_name zero = refl
  put_name (suc k) = refl

  put_here : (k : ℕ) → obligation_place (obliging_at p k name) k ≡ name
  put_here zero = refl
  put_here (suc k) = refl

  put_other : (k l : ℕ) → k < 2 → l < 2 → l ≢ k → obligation_place (obliging_at p k name) l ≡ obligation_place p l
  put_other zero zero few more other = absurd (other refl)
  put_other zero (suc l) few more other = refl
  put_other (suc k) zero few more other = refl
  put_other (suc k) (suc l) few more other = absurd (other (omega arith))

-- One obligation more of element m, at its place k
module _ (xs : List ElementPlaces) (m k start end : ℕ) (room : m < length xs) (place : k < 2) where
  abbrev name : Span
  name = record { start = start; end = end }

  abbrev pub obliging : List ElementPlaces
  obliging = with_obligation xs m k name

  pub obliging_length : length obliging ≡ length xs
  obliging_length = length-set xs m (obliging_at (places_at xs m) k name)

  here : places_at obliging m ≡ obliging_at (places_at xs m) k name
  here = get_or-set_same xs m (obliging_at (places_at xs m) k name) no_places room

  elsewhere : (i : ℕ) → i ≢ m → places_at obliging i ≡ places_at xs i
  elsewhere i other = get_or-set_other xs m i (obliging_at (places_at xs m) k name) no_places other

  pub start_here : obligation_start obliging m k ≡ start
  start_here = ap (λ p. (obligation_place p k).start) here ∙ ap (λ n. n.start) (put_here (places_at xs m) name k)

  pub end_here : obligation_end obliging m k ≡ end
  end_here = ap (λ p. (obligation_place p k).end) here ∙ ap (λ n. n.end) (put_here (places_at xs m) name k)

  -- the places of all others stay
  pub other_element : (i : ℕ) → i ≢ m → SameSlots xs obliging i
  other_element i other l few = (ap (λ p. (obligation_place p l).start) (elsewhere i other), ap (λ p. (obligation_place p l).end) (elsewhere i other))

  pub other_slot : (l : ℕ) → l < 2 → l ≢ k → (obligation_start obliging m l ≡ obligation_start xs m l) × (obligation_end obliging m l ≡ obligation_end xs m l)
  other_slot l few other =
      let same = ap (λ p. obligation_place p l) here ∙ put_other (places_at xs m) name k l place few other in (ap (λ n. n.start) same, ap (λ n. n.end) same)

  pub lines_start : (i : ℕ) → start_of obliging i ≡ start_of xs i
  lines_start i = go (test (eqb i m))
    where
      go : Test (eqb i m) → start_of obliging i ≡ start_of xs i
      go (passed e) = rw (eqb-true i m e) (ap (λ p. p.start) here ∙ put_line (places_at xs m) name k)
      go (failed e) = ap (λ p. p.start) (elsewhere i (eqb-false i m e))

  pub names_end : (i : ℕ) → name_end obliging i ≡ name_end xs i
  names_end i = go (test (eqb i m))
    where
      go : Test (eqb i m) → name_end obliging i ≡ name_end xs i
      go (passed e) = rw (eqb-true i m e) (ap (λ p. p.name_end) here ∙ put_name (places_at xs m) name k)
      go (failed e) = ap (λ p. p.name_end) (elsewhere i (eqb-false i m e))

  pub clear_still : (n : ℕ) → m < n → Clear xs n → Clear obliging n
  clear_still n l clear i j from few = let same = other_element i (λ e. omega arith) j few in (same.0 ∙ (clear i j from few).0, same.1 ∙ (clear i j from few).1)

-- it comes behind those that are there
module _ (f : Bytes) (xs : List ElementPlaces) (m start end : ℕ) (room : m < length xs) (some : end ≢ 0) (in_order : obligation_end xs m 0 ≡ 0 → obligation_end xs m 1 ≡ 0) where
  abbrev e0 : ℕ
  e0 = obligation_end xs m 0

  abbrev e1 : ℕ
  e1 = obligation_end xs m 1

  abbrev one : List Obligation
  one = obligation_in f start end ∷ []

  pub obligations_more : (k : ℕ) (place : k < 2) → obligation_count xs m ≡ k → obligations_in f (obliging xs m k start end room place) m ≡ obligations_in f xs m ++ one
  unfolding obligations_in count_at
  obligations_more zero place c = go (test (eqb e0 0))
    where
      go : Test (eqb e0 0) → obligations_in f (obliging xs m 0 start end room place) m ≡ obligations_in f xs m ++ one
      go (passed none) =
          let free : obligation_end (obliging xs m 0 start end room place) m 1 ≡ 0 = (other_slot xs m 0 start end room place 1 (omega arith) (λ e. omega arith)).1 ∙ in_order (eqb-true e0 0 none) in
          rw (none, start_here xs m 0 start end room place, end_here xs m 0 start end room place, ne_eqb end 0 some, free)
      go (failed x) = absurd (two (eqb e1 0) (rw x at c))
        where
          two : (b : Bool) → ◌≡◌ {A = ℕ} (cond b 1 2) 0 → ⊥
          two true h = omega arith
          two false h = omega arith
  obligations_more (suc zero) place c = go (test (eqb e0 0)) (test (eqb e1 0))
    where
      go : Test (eqb e0 0) → Test (eqb e1 0) → obligations_in f (obliging xs m 1 start end room place) m ≡ obligations_in f xs m ++ one
      go (passed none) y = let h : ◌≡◌ {A = ℕ} 0 1 = rw none at c in absurd (omega arith)
      go (failed x) (failed y) = let h : ◌≡◌ {A = ℕ} 2 1 = rw (x, y) at c in absurd (omega arith)
      go (failed x) (passed y) =
          let first = other_slot xs m 1 start end room place 0 (omega arith) (λ e. omega arith) in
          rw (first.0, first.1, x, y, start_here xs m 1 start end room place, end_here xs m 1 start end room place, ne_eqb end 0 some)
  obligations_more (suc (suc k)) place c = absurd (omega arith)

  pub count_more : (k : ℕ) (place : k < 2) → obligation_count xs m ≡ k → obligation_count (obliging xs m k start end room place) m ≡ suc k
  count_more k place c =
      sym (count_is f (obliging xs m k start end room place) m)
      ∙ ap length (obligations_more k place c)
      ∙ length-append (obligations_in f xs m) one
      ∙ omega (arith, count_is f xs m, c)
