-- The lines by arithmetic on request numbers are the meaning's.
use mathlib.Core.Path.{◌≡◌, refl, sym, ap, ◌∙◌, subst}
use Prim.Native.Nat.{ℕ, ◌+◌, ◌-◌, ◌*◌, ◌/◌, ◌%◌, ◌^◌, ◌≤◌, ◌<◌}
use native.Mathlib.Nat.{lt_of_lt_of_le, mod-lt, suc-mul, mul-le-mul_right, add-mul, add-zero, mul-add-div_right, mul-add-mod_self_right, div-eq_of_lt, mod-eq_of_lt}
use native.Mathlib.Omega.{arith}
use mathlib.Core.Bool.{Bool, true, false, not, cond, ◌&&◌, ◌||◌}
use mathlib.Core.List.{List, [], ◌∷◌, ◌++◌, append-nil}
use lib.ListN.{length, get_or, set}
use lib.Pow.{pow_pos}
use lib.Seq.{get_or_at, set_at}
use Rattle.meaning.specs.declared.Decision.{Decision}
use Rattle.meaning.specs.Text.{Bytes, gathered, counting, line}
use Rattle.meaning.specs.Model.{Policy, sizes, product, space}
use Rattle.meaning.specs.Deciding.{number_of, request_of, requests, members, is, decision_on}
use Rattle.meaning.specs.ValuePairs.{ValuePair, differs, alone, of_two, pair_on, value_pairs, pair_fields, pairs_text}
use Rattle.laws.proofs.Lists.{gathered_alike, gathered_keep, gathered_twice}
use Rattle.laws.proofs.Search.{counting_only}
use Rattle.laws.proofs.Sets.{sum_of, members_sum}
use Rattle.laws.proofs.Requests.{Fits, Positive, fits_positive, Parts, parts, number_request, request_number, number_parts, product_parts}
use Rattle.laws.proofs.RequestLines.{paired_length}
use Rattle.value_pairs.specs.Lines.{pair_row, pair_line, value_lines, run_lines, pair_lines}
use Rattle.value_pairs.proofs.Runs.{gathered_runs, gathered_none}

-- A number by its run and its place there
same_run : (a r b m k : ℕ) → m < b → k < b → a * b + m ≡ r * b + k → (a ≡ r) × (m ≡ k)
same_run a r b m k l u e =
    let positive : 0 < b = omega arith in
    let quotient : (x y : ℕ) → y < b → (x * b + y) / b ≡ x = λ x y small. mul-add-div_right positive x y ∙ ap (λ z. x + z) (div-eq_of_lt small) ∙ add-zero x in
    let remainder : (x y : ℕ) → y < b → (x * b + y) % b ≡ y = λ x y small. mul-add-mod_self_right x b y ∙ mod-eq_of_lt small in
    (sym (quotient a m l) ∙ ap (λ n. n / b) e ∙ quotient r k u, sym (remainder a m l) ∙ ap (λ n. n % b) e ∙ remainder r k u)

-- A line that the definition keeps
module _ (b e l : Decision) (n : ℕ) where
  abbrev shown : ValuePair
  shown = record { request = n; both = b; earlier = e; later = l }

  kept_line_lem : gathered (λ d. cond (differs d) (line (pair_fields d)) []) (shown ∷ []) ≡ cond (is b e && is b l) [] (pair_row n b e l)
  kept_line_lem = append-nil (cond (differs shown) (line (pair_fields shown)) []) ∙ go (is b e) (is b l)
    where
      go : (x y : Bool) → cond (not x || not y) (line (pair_fields shown)) [] ≡ cond (x && y) [] (line (pair_fields shown))
      go true true = refl
      go true false = refl
      go false y = refl

-- The policy's sizes: before a place, there, and behind it
module _ (p : Policy) (i : ℕ) (xs : List ℕ) (size : ℕ) (ys : List ℕ) (split : sizes p.attributes ≡ xs ++ (size ∷ ys)) (at : length xs ≡ i) (positive : Positive (sizes p.attributes)) (some-set : 0 < size) (few : size ≤ 4095)
    (decided : List Decision) (told : (m : ℕ) → m < space p.attributes → get_or decided m Decision.Permit ≡ decision_on p m) where
  abbrev ss : List ℕ
  ss = sizes p.attributes

  abbrev behind : ℕ
  behind = product ys

  abbrev runs : ℕ
  runs = product xs * size

  space_is : space p.attributes ≡ runs * behind
  space_is = ap product split ∙ product_parts xs size ys

  -- what request n shows, as a line or none
  abbrev line_on : ℕ → Bytes
  line_on n = gathered (λ d. cond (differs d) (line (pair_fields d)) []) (pair_on p i n)

  text_is : pairs_text p i ≡ gathered line_on (counting 0 (runs * behind))
  unfolding value_pairs
  text_is =
      gathered_keep differs (λ d. line (pair_fields d)) (gathered (pair_on p i) (requests p))
      ∙ gathered_twice (λ d. cond (differs d) (line (pair_fields d)) []) (pair_on p i) (requests p)
      ∙ ap (λ n. gathered line_on (counting 0 n)) space_is

  -- Request k of a run: its set there is the run's, and with one value alone it is the same but for the set
  module _ (r k : ℕ) (in-runs : r < runs) (in-run : k < behind) where
    abbrev n : ℕ
    n = r * behind + k

    in_space : n < space p.attributes
    in_space = rw space_is (lt_of_lt_of_le (omega (arith, suc-mul r behind)) (mul-le-mul_right behind in-runs))

    own : Parts xs size ys (request_of ss n)
    own = parts xs size ys (request_of ss n) (subst (λ l. Fits l (request_of ss n)) split (number_request ss n positive in_space).1)

    before_place : length own.before ≡ i
    before_place = sym (paired_length (λ s v. v < s) xs own.before own.before_fits) ∙ at

    -- the number with another set there
    number_with_lem : (v : ℕ) → number_of ss (own.before ++ (v ∷ own.behind)) ≡ (number_of xs own.before * size + v) * behind + number_of ys own.behind
    number_with_lem v = ap (λ l. number_of l (own.before ++ (v ∷ own.behind))) split ∙ number_parts xs size ys own.before v own.behind own.before_fits

    inner : number_of ys own.behind < behind
    inner = (request_number ys own.behind (fits_positive ys own.behind own.behind_fits) own.behind_fits).1

    number_is : (number_of xs own.before * size + own.here ≡ r) × (number_of ys own.behind ≡ k)
    number_is =
        same_run (number_of xs own.before * size + own.here) r behind (number_of ys own.behind) k inner in-run
        (sym (number_with_lem own.here) ∙ ap (number_of ss) (sym own.are) ∙ (number_request ss n positive in_space).0)

    set_is : own.here ≡ r % size
    set_is = sym (ap (λ x. x % size) (sym number_is.0) ∙ mul-add-mod_self_right (number_of xs own.before) size own.here ∙ mod-eq_of_lt own.here_fits)

    shows : (vs : List ℕ) → members (r % size) ≡ vs → pair_on p i n ≡ of_two p i n vs
    shows vs e = ap (of_two p i n) (ap members (ap (λ q. get_or q i 0) own.are ∙ get_or_at own.before own.here own.behind 0 i before_place ∙ set_is) ∙ e)

    -- one value alone: its bit less 1 is its set's number, and what is left of the set is the other's bit
    alone_is : (v bit : ℕ) → 2 ^ v - 1 + bit ≡ r % size → alone ss i n v ≡ n - bit * behind
    alone_is v bit e =
        let there : alone ss i n v ≡ (number_of xs own.before * size + (2 ^ v - 1)) * behind + number_of ys own.behind =
        ap (λ q. number_of ss (set q i (2 ^ v - 1))) own.are ∙ ap (number_of ss) (set_at own.before own.here own.behind (2 ^ v - 1) i before_place) ∙ number_with_lem (2 ^ v - 1) in
        let whole : r ≡ number_of xs own.before * size + (2 ^ v - 1) + bit = omega (arith, number_is.0, set_is, e) in
        omega (arith, there, number_is.1, ap (λ x. x * behind) whole, add-mul (number_of xs own.before * size + (2 ^ v - 1)) bit behind)

    told_alone : (v bit : ℕ) → 2 ^ v - 1 + bit ≡ r % size → get_or decided (n - bit * behind) Decision.Permit ≡ decision_on p (alone ss i n v)
    told_alone v bit e = told (n - bit * behind) (omega (arith, in_space)) ∙ ap (decision_on p) (sym (alone_is v bit e))

    pub line_of_two : (v w : ℕ) → members (r % size) ≡ v ∷ w ∷ [] → 2 ^ v + 2 ^ w ≡ r % size + 1 → line_on n ≡ pair_line decided ((r % size + 1 - 2 ^ w) * behind) (2 ^ w * behind) n
    unfolding pair_line
    line_of_two v w e sum =
        let low : r % size + 1 - 2 ^ w ≡ 2 ^ v = omega (arith, sum) in
        let earlier = told_alone v (2 ^ w) (omega (arith, sum, pow_pos v)) in
        let later = told_alone w (2 ^ v) (omega (arith, sum, pow_pos w)) in
        ap (gathered (λ d. cond (differs d) (line (pair_fields d)) [])) (shows (v ∷ w ∷ []) e)
        ∙ kept_line_lem (decision_on p n) (decision_on p (alone ss i n v)) (decision_on p (alone ss i n w)) n
        ∙ sym (rw (low, told n in_space, earlier, later))

  -- A run, by its set
  run_is : (r : ℕ) → r < runs → gathered (λ k. line_on (r * behind + k)) (counting 0 behind) ≡ run_lines decided size behind r
  unfolding run_lines value_lines
  run_is r l = go (members (r % size)) refl
    where
      nothing : (vs : List ℕ) → members (r % size) ≡ vs → ((n : ℕ) → of_two p i n vs ≡ []) → gathered (λ k. line_on (r * behind + k)) (counting 0 behind) ≡ []
      nothing vs e none =
          gathered_alike _ (λ k. []) (counting 0 behind) (λ k m. ap (gathered (λ d. cond (differs d) (line (pair_fields d)) [])) (shows r k l (omega (arith, (counting_only 0 behind k m).1)) vs e ∙ none (r * behind + k)))
          ∙ gathered_none (λ k. []) 0 behind (λ n. refl)

      few_sets : r % size < 4095
      few_sets = omega (arith, mod-lt r some-set, few)

      go : (vs : List ℕ) → members (r % size) ≡ vs → gathered (λ k. line_on (r * behind + k)) (counting 0 behind) ≡ run_lines decided size behind r
      go [] e = nothing [] e (λ n. refl) ∙ rw e
      go (v ∷ []) e = nothing (v ∷ []) e (λ n. refl) ∙ rw e
      go (v ∷ w ∷ x ∷ vs) e = nothing (v ∷ w ∷ x ∷ vs) e (λ n. refl) ∙ rw e
      go (v ∷ w ∷ []) e =
          let total : 2 ^ v + (2 ^ w + 0) ≡ r % size + 1 = ap sum_of (sym e) ∙ members_sum (r % size) few_sets in
          gathered_alike _ (λ k. pair_line decided ((r % size + 1 - 2 ^ w) * behind) (2 ^ w * behind) (r * behind + k)) (counting 0 behind) (λ k m. line_of_two r k l (omega (arith, (counting_only 0 behind k m).1)) v w e (omega (arith, total)))
          ∙ sym (rw e)

  pub pairs_are : pairs_text p i ≡ pair_lines decided size behind runs
  unfolding pair_lines
  pairs_are = text_is ∙ gathered_runs line_on runs behind ∙ gathered_alike _ _ (counting 0 runs) (λ r m. run_is r (omega (arith, (counting_only 0 runs r m).1)))
