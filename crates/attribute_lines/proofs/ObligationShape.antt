-- The fields of an obligation's line, their count, and a name as it is stored.
use mathlib.Core.Path.{◌≡◌, refl}
use Prim.Native.Nat.{ℕ}
use native.Mathlib.Omega.{arith}
use mathlib.Core.Bool.{true, false, not}
use mathlib.Core.List.{List, [], ◌∷◌}
use lib.ListN.{length, get_or}
use Rattle.meaning.specs.Text.{Bytes, all, is_field, is_name}
use Rattle.meaning.specs.Model.{padded}
use Rattle.meaning.specs.Reading.{Line, obligation_line, attribute_letter, obligation_letter, line_of, Sofar, Tests, lowest, wrong_fields, bad_stored}
use Rattle.laws.proofs.Bools.{Test, passed, failed, test, or_true}
use Rattle.laws.proofs.TreeLines.{stored_name}
use Rattle.laws.proofs.Rows.{name_row}
use Rattle.attribute_lines.specs.Sofar.{refusal_by, ObligationLine}

-- A field is a good name where it is one in its 16 bytes
pub stored_test : (n : Bytes) → bad_stored (length n) (padded 16 n) ≡ not (is_name n)
stored_test n = go (test (is_name n))
  where
    go : Test (is_name n) → bad_stored (length n) (padded 16 n) ≡ not (is_name n)
    go (passed e) = rw e (stored_name n e)
    go (failed e) = rw e ((name_row n).tests e)

module _ (s : Sofar) (fs : List Bytes) (n : ℕ) (line : ObligationLine fs n) where
  -- another field count
  pub not_three : (n ≡ 3 → ⊥) → wrong_fields s fs (line_of fs) ≡ true
  not_three h = go fs line.no_attribute line.letter line.count
    where
      go : (fs : List Bytes) → attribute_letter (get_or fs 0 []) ≡ false → obligation_letter (get_or fs 0 []) ≡ true → n ≡ length fs → wrong_fields s fs (line_of fs) ≡ true
      go [] a o m = absurd (omega (arith, line.three))
      go (f ∷ []) a o m = absurd (omega (arith, line.three))
      go (f ∷ g ∷ []) a o m = absurd (omega (arith, line.three))
      go (f ∷ g ∷ x ∷ []) a o m = absurd (h m)
      go (f ∷ g ∷ x ∷ y ∷ ys) a o m = rw (a, o) (or_true (not (all is_field (f ∷ g ∷ x ∷ y ∷ ys))) true refl)

  -- three fields, which the tests from 3 on refuse
  module _ (three : n ≡ 3) where
    pub is_obligation : line_of fs ≡ obligation_line (get_or fs 1 []) (get_or fs 2 [])
    is_obligation = go fs line.no_attribute line.letter line.count
      where
        go : (fs : List Bytes) → attribute_letter (get_or fs 0 []) ≡ false → obligation_letter (get_or fs 0 []) ≡ true → n ≡ length fs → line_of fs ≡ obligation_line (get_or fs 1 []) (get_or fs 2 [])
        go [] a o m = absurd (omega arith)
        go (f ∷ []) a o m = absurd (omega arith)
        go (f ∷ g ∷ []) a o m = absurd (omega arith)
        go (f ∷ g ∷ x ∷ []) a o m = rw (a, o)
        go (f ∷ g ∷ x ∷ y ∷ ys) a o m = absurd (omega arith)

    pub by_obligation_tests : (tests : Sofar → Line → Tests) → refusal_by tests s fs ≡ lowest (tests s (obligation_line (get_or fs 1 []) (get_or fs 2 [])))
    unfolding refusal_by
    by_obligation_tests tests = rw (is_obligation, line.fields)
