-- The targets of a line, one behind the other.
use mathlib.Core.Path.{◌≡◌, ap, subst}
use mathlib.Core.List.{List, [], ◌∷◌}
use Prim.Native.Nat.{ℕ, zero, suc, ◌+◌, ◌*◌, ◌≤◌, ◌<◌}
use native.Mathlib.Nat.{le_of_eq, le_trans, mul_comm, mul-le-mul_left}
use native.Mathlib.Omega.{arith}
use lib.Dec.{eqb}
use lib.ListN.{length, get_or}
use borrow.Author.Tests.{lt-ltb, le-ltb}
use Rattle.meaning.specs.Text.{Bytes, bytes, longer, cut, tab}
use Rattle.laws.proofs.Bools.{Test, passed, failed, test}
use Rattle.printing.specs.declared.Sink.{Sink}
use Rattle.printing.specs.Puts.{Puts}
use Rattle.printing.proofs.Laws.{then}
use Rattle.joined_text.specs.Lines.{placed_target}

-- a piece is no longer than the text
longer_short : (x n : ℕ) (ps : List Bytes) → ((k : ℕ) → length (get_or ps k []) ≤ n) → (k : ℕ) → length (get_or (longer x ps) k []) ≤ suc n
longer_short x n [] h zero = omega arith
longer_short x n [] h (suc k) = omega arith
longer_short x n (p ∷ ps) h zero = let l = h 0 in omega arith
longer_short x n (p ∷ ps) h (suc k) = let l = h (suc k) in omega arith

pub piece_short : (b : ℕ) (s : Bytes) (k : ℕ) → length (get_or (cut b s) k []) ≤ length s
piece_short b [] zero = omega arith
piece_short b [] (suc k) = omega arith
piece_short b (x ∷ xs) k = go (test (eqb x b)) k (piece_short b xs)
  where
    go : Test (eqb x b) → (k : ℕ) → ((k : ℕ) → length (get_or (cut b xs) k []) ≤ length xs) → length (get_or (cut b (x ∷ xs)) k []) ≤ length (x ∷ xs)
    go (passed e) zero h = rw e (omega arith)
    go (passed e) (suc k) h = let l = h k in rw e (omega arith)
    go (failed e) k h = rw e (longer_short x (length xs) (cut b xs) h k)

-- a file's own target, and `*` where it lacks the attribute
module _ {a b c : Sink} (targets : Bytes) (n k : ℕ) (parted : Puts a (tab ∷ []) b) where
  pub own_target : k < n → {field : Bytes} → field ≡ get_or (cut tab targets) k [] → Puts b field c → Puts a (tab ∷ placed_target n (cut tab targets) k) c × (c.at ≤ a.at + length targets + 2)
  own_target l {field} e w = (
    rw (lt-ltb k n l) (subst (λ t. Puts a (tab ∷ t) c) e (then parted w)),
    omega (arith, parted.wrote.moved, w.wrote.moved, ap length e, piece_short tab targets k),
  )

  pub star_target : n ≤ k → Puts b (bytes "*") c → Puts a (tab ∷ placed_target n (cut tab targets) k) c × (c.at ≤ a.at + length targets + 2)
  star_target l w = (rw (le-ltb k n l) (then parted w), omega (arith, parted.wrote.moved, w.wrote.moved))

-- at most twelve of them
pub room_for : (size i : ℕ) → i ≤ 12 → size * i ≤ 12 * size
room_for size i l = le_trans (mul-le-mul_left size l) (le_of_eq (mul_comm size 12))
