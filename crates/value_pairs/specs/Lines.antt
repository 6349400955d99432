-- The lines of an attribute's value pairs, from the requests' decisions.
use Rattle.std.specs.Prelude.{ℕ, ◌+◌, ◌-◌, ◌*◌, ◌%◌, ◌^◌, cond, ◌&&◌, Option, Some, None, List, [], ◌∷◌, get_or}
use Rattle.meaning.specs.declared.Decision.{Decision}
use Rattle.meaning.specs.Text.{Bytes, bytes, gathered, counting, line, decimal}
use Rattle.meaning.specs.Model.{decision_text}
use Rattle.meaning.specs.Deciding.{is, members}

-- the later value's bit, where a set has two values
abbrev pub later_bit : List ℕ → Option ℕ
later_bit [] = None
later_bit (v ∷ []) = None
later_bit (v ∷ w ∷ []) = Some (2 ^ w)
later_bit (v ∷ w ∷ x ∷ vs) = None

-- `D`: a request and three decisions
abbrev pub pair_row : (n : ℕ) (both earlier later : Decision) → Bytes
pair_row n both earlier later = line (bytes "D" ∷ decimal n ∷ decision_text both ∷ decision_text earlier ∷ decision_text later ∷ [])

-- Each request's decision
module _ (decided : List Decision) where
  -- request n, with both values; `high` and `low` numbers before it are those with the earlier and with the later alone
  unfoldable pub pair_line : (low high n : ℕ) → Bytes
  pair_line low high n =
      let both = get_or decided n Decision.Permit in
      let earlier = get_or decided (n - high) Decision.Permit in
      let later = get_or decided (n - low) Decision.Permit in
      cond (is both earlier && is both later) [] (pair_row n both earlier later)

  -- each choice of the attributes behind
  unfoldable pub value_lines : (first low high behind : ℕ) → Bytes
  value_lines first low high behind = gathered (λ k. pair_line low high (first + k)) (counting 0 behind)

  -- a run of requests with one set, by the later value's bit of its mask; and all runs
  abbrev pub set_lines : (mask first behind : ℕ) → Option ℕ → Bytes
  set_lines mask first behind None = []
  set_lines mask first behind (Some high) = value_lines first ((mask - high) * behind) (high * behind) behind

  unfoldable pub run_lines : (size behind run : ℕ) → Bytes
  run_lines size behind run = set_lines (run % size + 1) (run * behind) behind (later_bit (members (run % size)))

  unfoldable pub pair_lines : (size behind runs : ℕ) → Bytes
  pair_lines size behind runs = gathered (run_lines size behind) (counting 0 runs)
