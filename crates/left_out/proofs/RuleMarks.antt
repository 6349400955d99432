-- Which lines of an accepted file are rule lines: an element's own if it is a rule, no other.
use mathlib.Core.Path.{◌≡◌, refl, sym, ap, ap₂, ◌∙◌}
use native.Mathlib.Omega.{arith}
use mathlib.Core.Bool.{Bool, false}
use mathlib.Core.List.{List, [], ◌∷◌, ◌++◌, map, map-append}
use lib.ListN.{length, take, drop, length-append, length-map}
use lib.Seq.{take_at, drop_at}
use Rattle.meaning.specs.Text.{Bytes, keep, gathered, cut, tab}
use Rattle.meaning.specs.Model.{Attribute, obligations_of, Policy, given}
use Rattle.meaning.specs.Reading.{read}
use Rattle.meaning.specs.Trimming.{rule_line, file_lines}
use Rattle.meaning.specs.Writing.{obligation_fields}
use Rattle.meaning.specs.Claims.Trimming.{is_rule}
use Rattle.meaning.specs.Claims.Writing.{attribute_line}
use Rattle.laws.proofs.Types.{Element}
use Rattle.laws.proofs.Bools.{Test, passed, failed, test, contradiction}
use Rattle.laws.proofs.Lists.{map_map}
use Rattle.laws.proofs.Places.{lines_in}
use Rattle.laws.proofs.ElementLines.{file_count}
use Rattle.laws.proofs.RuleLines.{of_rule}
use Rattle.laws.proofs.Accepting.{rule_no_attribute}
use Rattle.laws.proofs.Rewritten.{file_fields, line_fields}

-- of an element's lines
abbrev pub own_marks : Element → List Bool
own_marks e = is_rule e ∷ map (λ o. false) (obligations_of e)

abbrev pub marks : List Element → List Bool
marks es = gathered own_marks es

marks_are : (attrs : List Attribute) (es : List Element) → map of_rule (gathered (line_fields attrs) es) ≡ marks es
marks_are attrs [] = refl
marks_are attrs (e ∷ es) = map-append of_rule (line_fields attrs e) (gathered (line_fields attrs) es) ∙ ap₂ (λ x y. is_rule e ∷ x ++ y) (map_map of_rule obligation_fields (obligations_of e)) (marks_are attrs es)

marks_count : (es : List Element) → length (marks es) ≡ lines_in es
marks_count [] = refl
marks_count (e ∷ es) = omega (arith, length-append (own_marks e) (marks es), length-map (obligations_of e) (λ o. false), marks_count es)

-- no attribute line is a rule's
header_marks : (ls : List Bytes) → map rule_line (keep attribute_line ls) ≡ map (λ l. false) (keep attribute_line ls)
header_marks [] = refl
header_marks (l ∷ ls) = go (test (attribute_line l)) (test (rule_line l)) (header_marks ls)
  where
    go : Test (attribute_line l) → Test (rule_line l) → map rule_line (keep attribute_line ls) ≡ map (λ l. false) (keep attribute_line ls) → map rule_line (keep attribute_line (l ∷ ls)) ≡ map (λ l. false) (keep attribute_line (l ∷ ls))
    go (passed e) (passed r) later = contradiction e (rule_no_attribute l r)
    go (passed e) (failed r) later = rw (e, r, later)
    go (failed e) r later = rw e later

module _ (f : Bytes) (p : Policy) (h : read f ≡ given p) where
  abbrev header : List Bytes
  header = keep attribute_line (file_lines f)

  all_marks : map rule_line (file_lines f) ≡ map (λ l. false) header ++ marks p.elements
  all_marks =
      sym (map_map of_rule (cut tab) (file_lines f))
      ∙ ap (map of_rule) (file_fields f p h)
      ∙ map-append of_rule (map (cut tab) header) (gathered (line_fields p.attributes) p.elements)
      ∙ ap₂ (λ x y. x ++ y) (map_map of_rule (cut tab) header ∙ header_marks (file_lines f)) (marks_are p.attributes p.elements)

  before : length (map {B = Bool} (λ l. false) header) ≡ length p.attributes
  before = omega (arith, file_count f p h, sym (length-map (file_lines f) rule_line) ∙ ap length all_marks ∙ length-append (map (λ l. false) header) (marks p.elements), marks_count p.elements)

  pub attributes_marked : take (length p.attributes) (map rule_line (file_lines f)) ≡ map (λ l. false) header
  attributes_marked = ap (take (length p.attributes)) all_marks ∙ take_at (map (λ l. false) header) (marks p.elements) (length p.attributes) before

  pub elements_marked : drop (length p.attributes) (map rule_line (file_lines f)) ≡ marks p.elements
  elements_marked = ap (drop (length p.attributes)) all_marks ∙ drop_at (map (λ l. false) header) (marks p.elements) (length p.attributes) before
