-- Trimming as a held state: what a step leaves. What any list of steps, decisions and refused requests comes to is said of the
-- operations, in `jogimaduve`, proofs/HeldState.
use Rattle.std.specs.Prelude.{◌≡◌, ◌↔◌, ℕ, ◌<◌, true, false}
use Rattle.meaning.specs.Text.{Bytes}
use Rattle.meaning.specs.Trimming.{strike}
use Rattle.meaning.specs.HeldState.{Step}
use Rattle.meaning.specs.Claims.Trimming.{Needless}

-- What a step leaves of a file: the last needless rule is struck, and no other line; it says that none is left exactly if no rule is
-- needless, and then changes nothing
pub record StepsOnce (f : Bytes) (s : Step) : Type 0 where
  pub last_struck : (k : ℕ) → Needless f k → ((j : ℕ) → k < j → Needless f j → ⊥) → (s.struck ≡ true) × (s.text ≡ strike k f)
  pub none_left : (s.struck ≡ false) ↔ ((k : ℕ) → Needless f k → ⊥)
  pub unchanged : s.struck ≡ false → s.text ≡ f
