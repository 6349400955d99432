-- Sets of values, which a request has at an attribute of an `M` line: their numbers.
use Rattle.std.specs.Prelude.{◌≡◌, ℕ, ◌-◌, ◌^◌, ◌≤◌, ◌<◌, List, map, length}
use Rattle.meaning.specs.Deciding.{members}
use Rattle.meaning.specs.Claims.Texts.{All, Rising, total}

-- A set of some of n values, as their numbers
pub record SetOf (n : ℕ) (vs : List ℕ) : Type 0 where
  pub some_value : 1 ≤ length vs
  pub rising : Rising vs
  pub declared : All (λ v. v < n) vs

-- Its number: the sum of 2 to the power of each value's number, less 1
abbrev pub set_number : List ℕ → ℕ
set_number vs = total (map (λ v. 2 ^ v) vs) - 1

-- Each set has one number below 2^n - 1, and each such number is that of one set
pub record SetsNumbered : Type 0 where
  pub number_of : (n : ℕ) (vs : List ℕ) → n ≤ 12 → SetOf n vs → (set_number vs < 2 ^ n - 1) × (members (set_number vs) ≡ vs)
  pub set_of : (n v : ℕ) → n ≤ 12 → v < 2 ^ n - 1 → SetOf n (members v) × (set_number (members v) ≡ v)
