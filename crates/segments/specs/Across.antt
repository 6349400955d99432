-- The words across rows of bits: one for each request, and those of one block.
use Rattle.std.specs.Prelude.{ℕ, ◌≤◌, ◌<◌, ◌≡◌, List, get_or}
use Rattle.table.specs.Words.{word_in}
use Rattle.rows.specs.Words.{word_from}
use Rattle.matching.specs.Hits.{bit_of}

-- the word of request m: bit i is element i's
abbrev pub word_across : List (List ℕ) → ℕ → ℕ → ℕ
word_across rows n m = word_from (λ i. bit_of rows i m) 0 n

-- the words of one block, one for each element, and none behind them
pub record Column (rows : List (List ℕ)) (n block : ℕ) (words : List ℕ) : Type 0 where
  pub each : (i : ℕ) → i < n → get_or words i 0 ≡ word_in rows i block
  pub behind : (i : ℕ) → n ≤ i → i < 64 → get_or words i 0 ≡ 0
