-- The fields of a tree line, and their count.
use mathlib.Core.Path.{◌≡◌, refl, sym, ap}
use Prim.Native.Nat.{ℕ, ◌+◌, ◌≤◌}
use native.Mathlib.Omega.{arith}
use mathlib.Core.Bool.{true, false, not}
use mathlib.Core.List.{List, [], ◌∷◌}
use mathlib.Core.Option.{some}
use lib.Dec.{eqb}
use lib.ListN.{length, drop, get_or}
use borrow.Author.Tests.{eq-eqb, ne_eqb}
use Rattle.meaning.specs.declared.Kind.{Kind}
use Rattle.meaning.specs.declared.Kind.TheVariants.{Set, Policy, Rule}
use Rattle.meaning.specs.Text.{Bytes, all, is_field}
use Rattle.meaning.specs.Model.{kind_text}
use Rattle.meaning.specs.Reading.{Line, tree_line, kind_of, attribute_letter, obligation_letter, line_of, Sofar, Tests, lowest, wrong_fields}
use Rattle.laws.proofs.Bools.{or_true}
use Rattle.laws.proofs.Lines.{spelled_some}
use Rattle.attribute_lines.specs.Sofar.{refusal_by, TreeLine}

-- The fields of a tree line
pub record TreeFields (fs : List Bytes) (k : Kind) : Type 0 where
  pub are : fs ≡ kind_text k ∷ get_or fs 1 [] ∷ get_or fs 2 [] ∷ get_or fs 3 [] ∷ drop 4 fs
  pub is_tree : line_of fs ≡ tree_line k (get_or fs 1 []) (get_or fs 2 []) (get_or fs 3 []) (drop 4 fs)

pub tree_fields : (fs : List Bytes) (k : Kind) → attribute_letter (get_or fs 0 []) ≡ false → obligation_letter (get_or fs 0 []) ≡ false → kind_of (get_or fs 0 []) ≡ some k → 4 ≤ length fs → TreeFields fs k
tree_fields [] k a o e l = absurd (omega arith)
tree_fields (f ∷ []) k a o e l = absurd (omega arith)
tree_fields (f ∷ g ∷ []) k a o e l = absurd (omega arith)
tree_fields (f ∷ g ∷ h ∷ []) k a o e l = absurd (omega arith)
tree_fields (f ∷ d ∷ n ∷ w ∷ ts) k a o e l =
    record { are = ap (λ x. x ∷ d ∷ n ∷ w ∷ ts) (sym (spelled_some kind_text f (Set ∷ Policy ∷ Rule ∷ []) k e)); is_tree = rw (a, o, e) }

-- Behind s, with a wrong field count and with the right one
module _ (s : Sofar) (fs : List Bytes) (k : Kind) (n : ℕ) (line : TreeLine fs k n) where
  -- the field count
  pub wrong_count_lem : (n ≡ 4 + length s.attributes → ⊥) → wrong_fields s fs (line_of fs) ≡ true
  wrong_count_lem h = go fs line.no_attribute line.no_obligation line.letter line.count
    where
      go : (fs : List Bytes) → attribute_letter (get_or fs 0 []) ≡ false → obligation_letter (get_or fs 0 []) ≡ false → kind_of (get_or fs 0 []) ≡ some k → n ≡ length fs → wrong_fields s fs (line_of fs) ≡ true
      go [] a o e m = absurd (omega (arith, line.three))
      go (f ∷ []) a o e m = absurd (omega (arith, line.three))
      go (f ∷ g ∷ []) a o e m = absurd (omega (arith, line.three))
      go (f ∷ g ∷ x ∷ []) a o e m = rw (a, o, e) (or_true (not (all is_field (f ∷ g ∷ x ∷ []))) true refl)
      go (f ∷ g ∷ x ∷ w ∷ ts) a o e m = rw (a, o, e) (or_true (not (all is_field (f ∷ g ∷ x ∷ w ∷ ts))) (not (eqb (length ts) (length s.attributes))) (rw (ne_eqb (length ts) (length s.attributes) (λ i. h (omega arith)))))

  module _ (count : n ≡ 4 + length s.attributes) where
    pub right_fields : TreeFields fs k
    right_fields = tree_fields fs k line.no_attribute line.no_obligation line.letter (omega (arith, line.count))

    targets_count : (fs : List Bytes) → 4 ≤ length fs → length fs ≡ 4 + length (drop 4 fs)
    targets_count [] l = absurd (omega arith)
    targets_count (f ∷ []) l = absurd (omega arith)
    targets_count (f ∷ g ∷ []) l = absurd (omega arith)
    targets_count (f ∷ g ∷ h ∷ []) l = absurd (omega arith)
    targets_count (f ∷ g ∷ h ∷ w ∷ ts) l = omega arith

    -- with the right count the tests from 3 on refuse it
    pub by_tests : (tests : Sofar → Line → Tests) → refusal_by tests s fs ≡ lowest (tests s (tree_line k (get_or fs 1 []) (get_or fs 2 []) (get_or fs 3 []) (drop 4 fs)))
    unfolding refusal_by
    by_tests tests =
        let right : length (drop 4 fs) ≡ length s.attributes = omega (arith, line.count, targets_count fs (omega (arith, line.count))) in
        rw (right_fields.is_tree, line.fields, eq-eqb (length (drop 4 fs)) (length s.attributes) right)
