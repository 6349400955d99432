-- Which requests have the same marks by two words for each element, and which get other obligations.
use Rattle.std.specs.Prelude.{ℕ, ◌+◌, ◌<◌, ◌≡◌, Bool, true, false, not, List, Option, Some, None}
use Rattle.meaning.specs.Text.{Bytes, same}
use Rattle.meaning.specs.Deciding.{bit}
use Rattle.layout.specs.declared.ElementPlaces.{ElementPlaces}
use Rattle.layout.specs.Places.{obligation_end}
use Rattle.obligations.specs.Given.{given_text, effect, marks_in}

-- where bit v is not set, both words of each element that has obligations have the same bit v
abbrev pub Marked : List ElementPlaces → ℕ → (one other : List ℕ) → ℕ → Type 0
Marked places n one other word =
    (v i : ℕ) → bit word v ≡ false → i < n → (obligation_end places i 0 ≡ 0 → ⊥) → marks_in one v i ≡ marks_in other v i

-- the bits set are bits of `on` at which each of n words has the bit that it has at v
abbrev pub LikeMarks : List ℕ → (n v on r : ℕ) → Type 0
LikeMarks words n v on r =
    (u : ℕ) → bit r u ≡ true → (bit on u ≡ true) × ((i : ℕ) → i < n → marks_in words u i ≡ marks_in words v i)

-- two words for each element give other obligations on the request whose bit is v
abbrev pub others_given : Bytes → (places : List ElementPlaces) → ℕ → (one other : List ℕ) → (permits v : ℕ) → Bool
others_given f places n one other permits v =
    let d = effect (bit permits v) in
    not (same (given_text d (marks_in one v) f places n) (given_text d (marks_in other v) f places n))

-- r is the first of 64 places from `from` on, below `bound`, that is among those asked for and passes the test
pub record FirstAmong (test : ℕ → Bool) (on from bound r : ℕ) : Type 0 where
  pub within : r < bound
  pub found : (v : ℕ) × (v < 64) × (r ≡ from + v) × (test v ≡ true)
  pub none_earlier : (v : ℕ) → v < 64 → from + v < r → bit on v ≡ true → test v ≡ false

-- the first such place, or none
abbrev pub Among : (test : ℕ → Bool) (on from bound : ℕ) → Option ℕ → Type 0
Among test on from bound None = (v : ℕ) → v < 64 → from + v < bound → bit on v ≡ true → test v ≡ false
Among test on from bound (Some r) = FirstAmong test on from bound r
