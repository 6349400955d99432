-- A file of which nothing is struck: its rules, by their places and by their lines.
use mathlib.Core.Path.{◌≡◌, refl, ◌∙◌}
use Prim.Native.Nat.{ℕ, zero, suc, ◌<◌}
use native.Mathlib.Omega.{arith}
use mathlib.Core.Bool.{true}
use mathlib.Core.Option.{map}
use lib.ListN.{length, get_or, set, replicate}
use borrow.Author.Tests.{eq-eqb}
use Rattle.meaning.specs.Text.{Bytes}
use Rattle.meaning.specs.Model.{Policy, given}
use Rattle.meaning.specs.Reading.{read}
use Rattle.meaning.specs.Trimming.{name_at, strike, needless, next_struck}
use Rattle.meaning.specs.Report.{name_in}
use Rattle.laws.proofs.Bounds.{bounded}
use Rattle.outcomes.specs.Decided.{none_struck}
use Rattle.trimmed_text.specs.Flags.{Clear, text_left, needless_at, next_at}
use Rattle.trimmed_text.proofs.Steps.{Stands, line_at, kept_below, text_whole, stands_whole, rule_name, strike_flag, needless_flag}
use Rattle.trimmed_text.proofs.Next.{needless_kept, needless_place, next_flag}

-- every flag is 0
zeros : (k i : ℕ) → get_or {A = ℕ} (replicate k 0) i 0 ≡ 0
zeros zero i = refl
zeros (suc k) zero = refl
zeros (suc k) (suc i) = zeros k i

pub none_clear : Clear none_struck
none_clear = zeros 64

module _ (f : Bytes) (p : Policy) (h : read f ≡ given p) where
  whole : text_left f p none_struck ≡ f
  whole = text_whole f p h none_struck none_clear

  stands : Stands f p none_struck
  stands = stands_whole f p h none_struck none_clear (omega (arith, (bounded f p h).few_elements))

  -- the line of the element at a place, and its name
  abbrev pub line_of : ℕ → ℕ
  line_of i = line_at p none_struck i

  pub name_of_line : (i : ℕ) → i < length p.elements → name_at f (line_of i) ≡ name_in p.elements i
  name_of_line i l = rw whole at (rule_name f p h none_struck stands i l (eq-eqb (get_or none_struck i 0) 0 (none_clear i)))

  -- the next rule to strike
  pub next_line : next_struck f ≡ map line_of (next_at p none_struck)
  next_line = rw whole at (next_flag f p h none_struck stands)

  -- a needless rule, from its place to its line and back
  pub record NeedlessAt (k : ℕ) : Type 0 where
    pub place : ℕ
    pub inside : place < length p.elements
    pub is_needless : needless_at p none_struck place ≡ true
    pub line : line_of place ≡ k

  pub needless_line : (i : ℕ) → needless_at p none_struck i ≡ true → needless f (line_of i) ≡ true
  needless_line i n = rw whole at (needless_flag f p h none_struck stands i (needless_kept p none_struck i n)) ∙ n

  pub line_needless : (k : ℕ) → needless f k ≡ true → NeedlessAt k
  line_needless k n =
      let (x, y) = needless_place f p h none_struck stands k (rw whole n) in
      record { place = x.place; inside = kept_below p none_struck x.place x.kept; is_needless = y; line = x.line }

  -- its line struck, and its flag set
  pub strike_line : (i : ℕ) → needless_at p none_struck i ≡ true → strike (line_of i) f ≡ text_left f p (set none_struck i 1)
  strike_line i n = rw whole at (strike_flag f p h none_struck stands i (needless_kept p none_struck i n))
