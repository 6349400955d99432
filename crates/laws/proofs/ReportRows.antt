-- The lines of a report by their fields, as the paper lists them: the names of the applying elements stand in file order.
use mathlib.Core.Path.{◌≡◌, refl, sym, ap, ap₂, ◌∙◌}
use Prim.Native.Nat.{ℕ, zero, suc}
use native.Mathlib.Omega.{arith}
use mathlib.Core.Bool.{Bool, true, false}
use mathlib.Core.List.{List, [], ◌∷◌, map}
use lib.ListN.{length, get_or}
use Rattle.meaning.specs.Text.{Bytes, bytes, keep, counting, decimal}
use Rattle.meaning.specs.Model.{name_of, Policy, decision_text}
use Rattle.meaning.specs.Deciding.{hits, decision_on}
use Rattle.meaning.specs.Segments.{applying_to, segment_size}
use Rattle.meaning.specs.Report.{marked, or_dash, segment_fields}
use Rattle.meaning.specs.Claims.ReportLines.{name_on, by_commas, segment_row}
use Rattle.laws.proofs.Types.{Element}
use Rattle.laws.proofs.Bools.{Test, passed, failed, test}
use Rattle.laws.proofs.Parents.{each_applies}

next_kept : {A : Type 0} (f : ℕ → A) (t : ℕ → Bool) (from size : ℕ) → map f (keep t (counting (suc from) size)) ≡ map (λ i. f (suc i)) (keep (λ i. t (suc i)) (counting from size))
next_kept f t from zero = refl
next_kept f t from (suc k) = go (test (t (suc from))) (next_kept f t (suc from) k)
  where
    go : Test (t (suc from)) → map f (keep t (counting (suc (suc from)) k)) ≡ map (λ i. f (suc i)) (keep (λ i. t (suc i)) (counting (suc from) k)) → map f (keep t (counting (suc from) (suc k))) ≡ map (λ i. f (suc i)) (keep (λ i. t (suc i)) (counting from (suc k)))
    go (passed e) later = rw (e, later)
    go (failed e) later = rw (e, later)

abbrev applying_names : List Bool → List Element → List Bytes
applying_names bs es = map (name_on es) (keep (λ i. get_or bs i false) (counting 0 (length es)))

applying_named : (bs : List Bool) (es : List Element) → length bs ≡ length es → marked bs es ≡ applying_names bs es
applying_named [] [] e = refl
applying_named [] (x ∷ es) e = absurd (omega (arith, e))
applying_named (b ∷ bs) [] e = absurd (omega (arith, e))
applying_named (true ∷ bs) (x ∷ es) e = ap (λ ns. name_of x ∷ ns) (applying_named bs es (omega (arith, e)) ∙ sym (next_kept (name_on (x ∷ es)) (λ i. get_or (true ∷ bs) i false) 0 (length es)))
applying_named (false ∷ bs) (x ∷ es) e = applying_named bs es (omega (arith, e)) ∙ sym (next_kept (name_on (x ∷ es)) (λ i. get_or (false ∷ bs) i false) 0 (length es))

by_commas_lem : (ns : List Bytes) → or_dash ns ≡ by_commas ns
by_commas_lem [] = refl
by_commas_lem (n ∷ ns) = refl

segment_row_lem : (p : Policy) (n : ℕ) → segment_fields p n ≡ segment_row p (segment_size p) n
segment_row_lem p n =
    let names = applying_named (applying_to p n) p.elements (each_applies (hits p n) [] p.elements) in
    ap (λ t. bytes "G" ∷ decimal n ∷ decimal (segment_size p n) ∷ decision_text (decision_on p n) ∷ t ∷ []) (ap or_dash names ∙ by_commas_lem (applying_names (applying_to p n) p.elements))

pub segment_rows : (p : Policy) (ns : List ℕ) → map (segment_fields p) ns ≡ map (segment_row p (segment_size p)) ns
segment_rows p [] = refl
segment_rows p (n ∷ ns) = ap₂ (λ r rs. r ∷ rs) (segment_row_lem p n) (segment_rows p ns)
