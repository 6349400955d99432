-- Trimming rule by rule: which rule is shown, and which a name strikes. That both in turn end in the trimmed policy is said of the
-- operations, in `jogimaduve`, proofs/RuleByRule.
use Rattle.std.specs.Prelude.{◌≡◌, ◌↔◌, ℕ, List, [], ◌∷◌}
use Rattle.meaning.specs.Text.{Bytes}
use Rattle.meaning.specs.Trimming.{name_at}
use Rattle.meaning.specs.Claims.Texts.{EqualNames}
use Rattle.meaning.specs.Claims.Trimming.{Needless, Trims}

-- What a tool shows of a file: the name of the rule that trimming strikes first, with no other byte; none is named exactly if no
-- rule is needless
pub record ShowsNext (f shown : Bytes) : Type 0 where
  pub next_named : (name : Bytes) (later : List Bytes) (t : Bytes) → Trims f (name ∷ later) t → shown ≡ name
  pub none_named : (shown ≡ []) ↔ ((k : ℕ) → Needless f k → ⊥)

-- A needless rule that has a name, letter case aside, by its line
pub record NeedlessRule (f name : Bytes) : Type 0 where
  pub place : ℕ
  pub is_needless : Needless f place
  pub has_name : EqualNames name (name_at f place)
