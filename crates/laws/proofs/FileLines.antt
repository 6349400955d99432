-- The lines of a policy file by their fields: which are rules', their names, and what is left when one is struck.
use mathlib.Core.Path.{◌≡◌, refl, sym, ap, ◌∙◌, subst}
use Prim.Native.Nat.{ℕ, zero, suc}
use mathlib.Core.List.{List, [], ◌∷◌, ◌++◌, map, map-append, append_assoc}
use lib.ListN.{length, get_or, length-map}
use Rattle.meaning.specs.Text.{Bytes, bytes, gathered, without, cut, join, newline, tab, line}
use Rattle.meaning.specs.Model.{Attribute, Policy, obligations_of, attribute_fields}
use Rattle.meaning.specs.Trimming.{lines, field_of}
use Rattle.meaning.specs.Writing.{element_fields, obligation_fields}
use Rattle.meaning.specs.Claims.Texts.{All}
use Rattle.meaning.specs.Claims.PolicyFile.{GoodAttribute, GoodLines, WellFormed}
use Rattle.meaning.specs.Claims.Trimming.{Lines}
use Rattle.laws.proofs.Types.{Element, Obligation}
use Rattle.laws.proofs.Text.{cut_join}
use Rattle.laws.proofs.Lines.{join_unlines, cut_unlines, rows_lines}
use Rattle.laws.proofs.Fields.{fields_free, element_fields_lem}
use Rattle.laws.proofs.Places.{GoodObligation}
use Rattle.laws.proofs.Bounds.{all_append, GoodElement}
use Rattle.laws.proofs.ObligationLines.{of_lines}
use Rattle.laws.proofs.WellFormed.{text_cut, rows_free, rows_are}
use Rattle.laws.proofs.Reflects.{same_text}
use Rattle.laws.proofs.Rewritten.{line_fields}
use Rattle.laws.proofs.LinesBack.{fields_of_obligation}

-- Each line is cut into its own fields
abbrev pub Cut : List Bytes → Type 0
Cut row = cut tab (join tab row) ≡ row

attributes_cut : (attrs : List Attribute) → All GoodAttribute attrs → All Cut (map attribute_fields attrs)
attributes_cut [] g = tt
attributes_cut (a ∷ attrs) g = (text_cut a g.0, attributes_cut attrs g.1)

obligations_cut : (os : List Obligation) → All GoodObligation os → All Cut (map obligation_fields os)
obligations_cut [] g = tt
obligations_cut (o ∷ os) g = (cut_join tab _ _ (fields_free tab (obligation_fields o) refl (fields_of_obligation o g.0)), obligations_cut os g.1)

pub elements_cut : (attrs : List Attribute) → All GoodAttribute attrs → (es : List Element) → All (GoodElement attrs) es → All Cut (gathered (line_fields attrs) es)
elements_cut attrs g [] h = tt
elements_cut attrs g (e ∷ es) h = (
  cut_join tab _ _ (fields_free tab (element_fields attrs e) refl (element_fields_lem attrs e g h.0)),
  all_append Cut (map obligation_fields (obligations_of e)) (gathered (line_fields attrs) es) (obligations_cut (obligations_of e) h.0.carried.each_good) (elements_cut attrs g es h.1),
)

pub rows_cut : (rows : List (List Bytes)) (attrs : List Attribute) (es : List Element) → GoodLines rows attrs es → All Cut rows
rows_cut rows attrs es x =
    let t = of_lines attrs x.attributes_good x.few_attributes x.tree es x.tree_lines in
    subst (All Cut) (sym (rows_are rows attrs es x)) (all_append Cut (map attribute_fields attrs) (gathered (line_fields attrs) es) (attributes_cut attrs x.attributes_good) (elements_cut attrs x.attributes_good es t.good))

-- so a field of a line is a field of its row; behind the last line all are empty
abbrev ended : List (List Bytes) → List Bytes
ended rows = map (join tab) rows ++ ([] ∷ [])

nothing_at : {A : Type 0} (d : A) (i : ℕ) → get_or {A = A} [] i d ≡ d
nothing_at d zero = refl
nothing_at d (suc i) = refl

no_field : (i : ℕ) → field_of i [] ≡ []
no_field zero = refl
no_field (suc i) = nothing_at [] i

field_at_lem : (rows : List (List Bytes)) → All Cut rows → (k i : ℕ) → field_of i (get_or (ended rows) k []) ≡ get_or (get_or rows k []) i []
field_at_lem [] c zero i = no_field i ∙ sym (nothing_at [] i)
field_at_lem [] c (suc k) i = ap (field_of i) (nothing_at [] k) ∙ no_field i ∙ sym (nothing_at [] i)
field_at_lem (r ∷ rows) c zero i = ap (λ fs. get_or fs i []) c.0
field_at_lem (r ∷ rows) c (suc k) i = field_at_lem rows c.1 k i

-- A line struck
without_mid : {A : Type 0} (xs ys : List A) (x : A) → without (length xs) (xs ++ (x ∷ ys)) ≡ xs ++ ys
without_mid [] ys x = refl
without_mid (z ∷ xs) ys x = ap (λ l. z ∷ l) (without_mid xs ys x)

ended_mid : (before after : List (List Bytes)) (l : List Bytes) → ended (before ++ (l ∷ after)) ≡ map (join tab) before ++ (join tab l ∷ ended after)
ended_mid before after l = ap (λ x. x ++ ([] ∷ [])) (map-append (join tab) before (l ∷ after)) ∙ append_assoc (map (join tab) before) (join tab l ∷ map (join tab) after) ([] ∷ [])

ended_both : (before after : List (List Bytes)) → map (join tab) before ++ ended after ≡ ended (before ++ after)
ended_both before after = sym (append_assoc (map (join tab) before) (map (join tab) after) ([] ∷ [])) ∙ ap (λ x. x ++ ([] ∷ [])) (sym (map-append (join tab) before after))

line_left : (before after : List (List Bytes)) (l : List Bytes) → join newline (without (length before) (ended (before ++ (l ∷ after)))) ≡ gathered line (before ++ after)
line_left before after l =
    ap (λ x. join newline (without (length before) x)) (ended_mid before after l)
    ∙ ap (λ n. join newline (without n (map (join tab) before ++ (join tab l ∷ ended after)))) (sym (length-map before (join tab)))
    ∙ ap (join newline) (without_mid (map (join tab) before) (ended after) (join tab l) ∙ ended_both before after)
    ∙ join_unlines (map (join tab) (before ++ after)) ∙ sym (rows_lines (before ++ after))

pub file_lines_lem : (f : Bytes) (p : Policy) (w : WellFormed f p) → Lines f w.rows
file_lines_lem f p w = record {
  are = pieces;
  rule_lines = λ k. (
    λ e. sym (at k 0) ∙ (same_text (field_of 0 (get_or (lines f) k [])) (bytes "R")).holds e,
    λ e. (same_text (field_of 0 (get_or (lines f) k [])) (bytes "R")).tests (at k 0 ∙ e),
  );
  names = λ k. at k 2;
  struck = λ before after l e. ap (λ x. join newline (without (length before) x)) (pieces ∙ ap ended e) ∙ line_left before after l;
}
  where
    pieces : lines f ≡ ended w.rows
    pieces = ap (cut newline) (w.text ∙ rows_lines w.rows) ∙ cut_unlines (map (join tab) w.rows) (rows_free w.rows p.attributes p.elements w.good)

    at : (k i : ℕ) → field_of i (get_or (lines f) k []) ≡ get_or (get_or w.rows k []) i []
    at k i = ap (λ ls. field_of i (get_or ls k [])) pieces ∙ field_at_lem w.rows (rows_cut w.rows p.attributes p.elements w.good) k i
