-- Two texts of one length, place by place.
use Rattle.std.specs.Prelude.{ℕ, Bool, ◌<◌, ◌≡◌, true, false, length, get_or}
use Rattle.meaning.specs.Text.{Bytes}

-- r says whether a test of two bytes passes at each place
pub record Alike (answers : ℕ → ℕ → Bool → Type 0) (a b : Bytes) (r : Bool) : Type 0 where
  pub each : r ≡ true → (k : ℕ) → k < length a → answers (get_or a k 0) (get_or b k 0) true
  pub apart : r ≡ false → (k : ℕ) × ((k < length a) × answers (get_or a k 0) (get_or b k 0) false)
