-- Searches for a request that gets another decision, within a block of 64.
use Rattle.std.specs.Prelude.{ℕ, ◌+◌, ◌*◌, ◌≤◌, ◌<◌, ◌≡◌, Bool, true, false, Option, Some, None}
use Rattle.blocks.specs.declared.Effects.{Effects}
use Rattle.blocks.specs.Bits.{decision_bit}

-- r is the first of 64 places from `from` on, below `space`, whose bits tell two decisions
pub record OtherAt (given before : Effects) (from space r : ℕ) : Type 0 where
  pub within : r < space
  pub found : (v : ℕ) × (v < 64) × (r ≡ from + v) × (decision_bit given v ≡ decision_bit before v → ⊥)
  pub none_earlier : (v : ℕ) → v < 64 → from + v < r → decision_bit given v ≡ decision_bit before v

-- the first such place, or none
abbrev pub Other : (given before : Effects) (from space : ℕ) → Option ℕ → Type 0
Other given before from space None = (v : ℕ) → v < 64 → from + v < space → decision_bit given v ≡ decision_bit before v
Other given before from space (Some r) = OtherAt given before from space r

-- r is the first request of the block that passes the test
pub record FirstInBlock (test : ℕ → Bool) (space block r : ℕ) : Type 0 where
  pub within : r < space
  pub high : r < 64 * block + 64
  pub low : 64 * block ≤ r
  pub holds : test r ≡ true
  pub none_earlier : (m : ℕ) → 64 * block ≤ m → m < r → test m ≡ false

-- the first such request, or none
abbrev pub InBlock : (test : ℕ → Bool) (space block : ℕ) → Option ℕ → Type 0
InBlock test space block None = (m : ℕ) → 64 * block ≤ m → m < 64 * block + 64 → m < space → test m ≡ false
InBlock test space block (Some r) = FirstInBlock test space block r
