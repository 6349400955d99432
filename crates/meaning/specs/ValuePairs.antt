-- Pairs of values of an `M` attribute that get another decision than one of the two alone.
use Rattle.std.specs.Prelude.{ℕ, suc, ◌-◌, ◌^◌, Bool, not, cond, ◌&&◌, ◌||◌, List, [], ◌∷◌, get_or, set}
use Rattle.meaning.specs.Text.{Bytes, bytes, keep, gathered, same_name, line, decimal}
use Rattle.meaning.specs.Model.{Decision, Attribute, Policy, sizes, Result, refused, given, ◌then◌, fitted, decision_text}
use Rattle.meaning.specs.Reading.{read}
use Rattle.meaning.specs.Deciding.{number_of, request_of, requests, members, is, decision_on}

-- 13: the name isn't that of an `M` attribute; else its place, from 0
abbrev pub several_at : ℕ → Bytes → List Attribute → Result ℕ
several_at i n [] = refused 13 0
several_at i n (a ∷ attrs) = cond (a.several && same_name n a.name) (given i) (several_at (suc i) n attrs)

-- A pair's request, the decision with both values, with the earlier, with the later
pub record ValuePair : Type 0 where
  pub request : ℕ
  pub both : Decision
  pub earlier : Decision
  pub later : Decision

abbrev pub differs : ValuePair → Bool
differs d = not (is d.both d.earlier) || not (is d.both d.later)

-- the number of the request that has value v alone at place i, and is else request n
abbrev pub alone : List ℕ → ℕ → ℕ → ℕ → ℕ
alone ss i n v = number_of ss (set (request_of ss n) i ((2 ^ v) - 1))

-- what request n shows where its set at place i is of two values, else nothing
abbrev pub of_two : Policy → ℕ → ℕ → List ℕ → List ValuePair
of_two p i n [] = []
of_two p i n (v ∷ []) = []
of_two p i n (v ∷ w ∷ []) =
    let ss = sizes p.attributes in
    record { request = n; both = decision_on p n; earlier = decision_on p (alone ss i n v); later = decision_on p (alone ss i n w) } ∷ []
of_two p i n (v ∷ w ∷ x ∷ vs) = []

abbrev pub pair_on : Policy → ℕ → ℕ → List ValuePair
pair_on p i n = of_two p i n (members (get_or (request_of (sizes p.attributes) n) i 0))

-- Each pair of values with each choice of the other attributes is one request; those that differ, by rising number
unfoldable pub value_pairs : Policy → ℕ → List ValuePair
value_pairs p i = keep differs (gathered (pair_on p i) (requests p))

-- `D`: the pair's request, decision with both, with the earlier value, with the later
abbrev pub pair_fields : ValuePair → List Bytes
pair_fields d = bytes "D" ∷ decimal d.request ∷ decision_text d.both ∷ decision_text d.earlier ∷ decision_text d.later ∷ []

abbrev pub pairs_text : Policy → ℕ → Bytes
pairs_text p i = gathered (λ d. line (pair_fields d)) (value_pairs p i)

-- the lines of the attribute of a name
unfoldable pub pairs_named : Policy → Bytes → Result Bytes
pairs_named p name = several_at 0 name p.attributes then λ i. given (pairs_text p i)

-- The operation: these lines for a buffer of so many bytes
unfoldable pub value_pairs_file : ℕ → Bytes → Bytes → Result Bytes
value_pairs_file room f name = read f then λ p. pairs_named p name then fitted room
