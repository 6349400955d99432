-- Of a list the writer looks at 65 elements and no more: element 65 is refused, whatever comes behind it.
use mathlib.Core.Path.{◌≡◌, refl, ap}
use Prim.Native.Nat.{ℕ, zero, suc, ◌+◌, ◌≤◌}
use native.Mathlib.Omega.{arith}
use mathlib.Core.List.{List, [], ◌∷◌, ◌++◌}
use lib.ListN.{length, take}
use borrow.Author.Tests.{le-leb}
use Rattle.meaning.specs.Text.{Bytes, gathered, front, last, cut, newline}
use Rattle.meaning.specs.Model.{Result, refused, given, ◌then◌}
use Rattle.meaning.specs.Reading.{Sofar, nothing, short, read_text, finished}
use Rattle.meaning.specs.Report.{fitted}
use Rattle.meaning.specs.Writing.{header_tests, read_elements, write_file, element_lines, read_element}
use Rattle.laws.proofs.Types.{Element}
use Rattle.laws.proofs.Reading.{lines_keep}
use Rattle.laws.proofs.Bounds.{header_numbered}
use Rattle.laws.proofs.Reread.{no_element}
use Rattle.laws.proofs.Bools.{contradiction}
use Rattle.laws.proofs.Places.{element_read_lem}

-- so many elements more make 65
elements_taken : (n : ℕ) (s : Sofar) (es : List Element) (k : ℕ) → length s.before + k ≡ 65 → 1 ≤ k → read_elements n s (take k es) ≡ read_elements n s es
elements_taken n s [] zero h l = refl
elements_taken n s [] (suc k) h l = refl
elements_taken n s (e ∷ es) zero h l = absurd (omega arith)
elements_taken n s (e ∷ es) (suc zero) h l = refused_both (read_element n s e) refl
  where
    -- an element behind 64 others is refused
    refused_both : (x : Result Sofar) → read_element n s e ≡ x → (x then λ t. read_elements (n + suc e.obligations) t []) ≡ (x then λ t. read_elements (n + suc e.obligations) t es)
    refused_both (refused a b) i = refl
    refused_both (given t) i = let r = element_read_lem n s e t i in contradiction (le-leb 64 (length s.before) (omega arith)) r.passes.1.1.0
elements_taken n s (e ∷ es) (suc (suc k)) h l = go (read_element n s e) refl (λ t i. elements_taken (n + suc e.obligations) t es (suc k) (omega (arith, i)) (omega arith))
  where
    go : (x : Result Sofar) → read_element n s e ≡ x → ((t : Sofar) → length t.before ≡ suc (length s.before) → read_elements (n + suc e.obligations) t (take (suc k) es) ≡ read_elements (n + suc e.obligations) t es)
        → (x then λ t. read_elements (n + suc e.obligations) t (take (suc k) es)) ≡ (x then λ t. read_elements (n + suc e.obligations) t es)
    go (refused a b) i later = refl
    go (given t) i later = later t (ap (λ t. length t.before) (element_read_lem n s e t i).is)

-- attribute lines alone leave no element
no_elements_lem : (t : Bytes) (s : Sofar) → read_text header_tests t ≡ given s → s.before ≡ []
no_elements_lem t s h = lines_keep header_tests header_numbered (λ x. x.before ≡ []) no_element (last [] (cut newline t)) 1 nothing (front (cut newline t)) s h refl

pub write_taken : (room : ℕ) (header : Bytes) (es : List Element) → write_file room header (take 65 es) ≡ write_file room header es
unfolding write_file
write_taken room header es = go (short header)
  where
    -- what is done behind the attribute lines
    behind : Bytes → Sofar → List Element → Result Bytes
    behind h s xs = read_elements (suc (length s.attributes)) s xs then finished then λ p.
        short (h ++ gathered (element_lines p.attributes) p.elements) then fitted room

    with_lines : (h : Bytes) (x : Result Sofar) → read_text header_tests h ≡ x → (x then λ s. behind h s (take 65 es)) ≡ (x then λ s. behind h s es)
    with_lines h (refused n m) e = refl
    with_lines h (given s) e =
        ap (λ r. r then finished then λ p. short (h ++ gathered (element_lines p.attributes) p.elements) then fitted room)
        (elements_taken (suc (length s.attributes)) s es 65 (ap (λ b. length b + 65) (no_elements_lem h s e)) (omega arith))

    go : (x : Result Bytes) → (x then λ h. read_text header_tests h then λ s. behind h s (take 65 es)) ≡ (x then λ h. read_text header_tests h then λ s. behind h s es)
    go (refused n m) = refl
    go (given h) = with_lines h (read_text header_tests h) refl
