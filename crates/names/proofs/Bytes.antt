-- Walks over the bytes of names.
use mathlib.Core.Path.{◌≡◌, refl}
use mathlib.Core.Bool.{Bool, true, false, and-false, and-true}
use mathlib.Core.List.{[], ◌∷◌}
use Prim.Native.Nat.{ℕ, ◌+◌, ◌≤◌, ◌<◌}
use native.Mathlib.Omega.{arith}
use lib.ListN.{length, get_or, drop, drop_of_length-le}
use borrow.Author.Tests.{le-leb, lt-leb, eq-eqb, ne_eqb}
use Rattle.meaning.specs.Text.{Bytes, all, name_byte, is_name}
use Rattle.text.proofs.Pieces.{drop_next}

-- A test of every byte from a position on
module _ (t : ℕ → Bool) (s : Bytes) (i : ℕ) where
  pub all_end : length s ≤ i → all t (drop i s) ≡ true
  all_end h = rw (drop_of_length-le s h)

  pub all_fail : i < length s → t (get_or s i 0) ≡ false → all t (drop i s) ≡ false
  all_fail h e = rw (drop_next s i h, e)

  pub all_pass : i < length s → t (get_or s i 0) ≡ true → all t (drop i s) ≡ all t (drop (i + 1) s)
  all_pass h e = rw (drop_next s i h, e)

-- What is a name by its length and its first byte
pub name_short : (s : Bytes) → length s < 1 → is_name s ≡ false
name_short [] h = refl
name_short (x ∷ s) h = absurd (omega arith)

pub name_long : (s : Bytes) → 16 < length s → is_name s ≡ false
name_long s h = rw (lt-leb (length s) 16 h, and-false)

pub name_hyphen : (s : Bytes) → 1 ≤ length s → get_or s 0 0 ≡ 45 → is_name s ≡ false
name_hyphen [] h e = absurd (omega arith)
name_hyphen (x ∷ s) h e = rw (eq-eqb x 45 e, and-false)

pub name_by_bytes : (s : Bytes) → 1 ≤ length s → length s ≤ 16 → (get_or s 0 0 ≡ 45 → ⊥) → is_name s ≡ all name_byte s
name_by_bytes [] h k n = absurd (omega arith)
name_by_bytes (x ∷ s) h k n = simp (le-leb 1 (length (x ∷ s)) h, le-leb (length (x ∷ s)) 16 k, ne_eqb x 45 n, and-true)
