-- Rows of words, one row for each element: 64 words, a bit for each of 4,096 requests.
use Rattle.std.specs.Prelude.{ℕ, List, [], get_or}

-- word b of row i
abbrev pub word_in : List (List ℕ) → ℕ → ℕ → ℕ
word_in rows i b = get_or (get_or rows i []) b 0
