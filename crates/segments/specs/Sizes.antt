-- A word for each request: those that have the same one, and how many they are.
use Rattle.std.specs.Prelude.{ℕ, Bool, cond, List, eqb, length, get_or}
use Rattle.meaning.specs.Text.{keep, is_none, counting, first_from}

-- A list of words, one for each request: request k has the word of m; m is the first that has it
abbrev pub alike : List ℕ → ℕ → ℕ → Bool
alike ws m k = eqb (get_or ws k 0) (get_or ws m 0)

abbrev pub opens_at : List ℕ → ℕ → Bool
opens_at ws m = is_none (first_from (alike ws m) 0 m)

-- how many of s requests have the word of m, if m is the first; else 0
unfoldable pub size_at : List ℕ → ℕ → ℕ → ℕ
size_at ws s m = cond (opens_at ws m) (length (keep (alike ws m) (counting 0 s))) 0
