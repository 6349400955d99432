-- Which requests match each element's own target, 64 requests in a word.
use Rattle.std.specs.Prelude.{ℕ, ◌+◌, ◌*◌, ◌/◌, ◌%◌, ◌≤◌, ◌<◌, ◌≡◌, Bool, false, List, length}
use Rattle.meaning.specs.Deciding.{bit}
use Rattle.meaning.specs.declared.Element.{Element}
use Rattle.table.specs.declared.Row.{Row}
use Rattle.table.specs.Rows.{element_at, Rows}
use Rattle.table.specs.declared.Shape.{Shape}
use Rattle.table.specs.Shape.{Counted, hit_of}
use Rattle.table.specs.Words.{word_in}

-- row i's bit for request m is bit m % 64 of its word m / 64
abbrev pub bit_of : List (List ℕ) → ℕ → ℕ → Bool
bit_of rows i m = bit (word_in rows i (m / 64)) (m % 64)

-- how many words of a row have a bit for one of `space` requests
abbrev pub words_of : ℕ → ℕ
words_of space = (space + 63) / 64

-- those words of n rows have no bit from `space` on
abbrev pub ClearFrom : ℕ → ℕ → List (List ℕ) → Type 0
ClearFrom n space rows = (i m : ℕ) → i < n → space ≤ m → m < 64 * words_of space → bit_of rows i m ≡ false

-- what laying down n rows of `space` bits leaves besides those bits: no other is set in their words, and all other words are as they were
pub record Rest (n space : ℕ) (old new : List (List ℕ)) : Type 0 where
  pub same_length : length new ≡ length old
  pub clear : ClearFrom n space new
  pub others : (i b : ℕ) → (i < n → words_of space ≤ b) → word_in new i b ≡ word_in old i b

-- element i's bit for request m says whether it matches the element's own target
abbrev pub Hits : List Row → ℕ → (ℕ → Element → Bool) → ℕ → List (List ℕ) → Type 0
Hits t n hit space hits = (i m : ℕ) → i < n → m < space → bit_of hits i m ≡ hit m (element_at t i)

-- a table of at most 64 elements, at most six attributes and 4,096 requests, and room for a bit of each element and request
pub record Matchable (t : List Row) (s : Shape) (hits : List (List ℕ)) : Type 0 where
  pub rows : Rows t s.n
  pub few : s.n ≤ 64
  pub counted : Counted s
  pub positive : 0 < s.space
  pub small : s.space ≤ 4096
  pub room : 64 ≤ length hits

-- the words that tell which requests match each element's own target, and nothing else
pub record HitsLaid (t : List Row) (hits : List (List ℕ)) (s : Shape) : Type 0 where
  pub room : s.n ≤ length hits
  pub hits_are : Hits t s.n (hit_of s) s.space hits
  pub clear : ClearFrom s.n s.space hits
