-- 64 words of 64 bits turned round: bit k of word v becomes bit v of word k, one digit of k and v after the other.
use Rattle.std.specs.Prelude.{ℕ, ◌+◌, ◌-◌, ◌^◌, ◌<◌, ◌≡◌, not, cond, List, get_or}
use Rattle.meaning.specs.Deciding.{bit}

-- a with digit s of b
abbrev pub mixed : ℕ → ℕ → ℕ → ℕ
mixed s a b = cond (bit b s) (cond (bit a s) a (a + 2 ^ s)) (cond (bit a s) (a - 2 ^ s) a)

-- the bits of the mask are those whose number lacks digit s
abbrev pub Mask : ℕ → ℕ → Type 0
Mask s mask = (v : ℕ) → v < 64 → bit mask v ≡ not (bit v s)

-- word k with digit s of the words' and the bits' numbers exchanged
abbrev pub ExchangedWord : ℕ → ℕ → List ℕ → ℕ → Type 0
ExchangedWord s k old word = (v : ℕ) → v < 64 → bit word v ≡ bit (get_or old (mixed s k v) 0) (mixed s v k)

-- all words, and all six digits
abbrev pub Exchanged : ℕ → List ℕ → List ℕ → Type 0
Exchanged s old new = (k : ℕ) → k < 64 → ExchangedWord s k old (get_or new k 0) × (get_or new k 0 < 2 ^ 64)

pub record Turned (old new : List ℕ) : Type 0 where
  pub bits : (k v : ℕ) → k < 64 → v < 64 → bit (get_or new k 0) v ≡ bit (get_or old v 0) k
  pub fits : (k : ℕ) → k < 64 → get_or new k 0 < 2 ^ 64
