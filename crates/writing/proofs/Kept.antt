-- The elements that are taken: each with its own obligations in their places, so that its lines are the same.
use mathlib.Core.Path.{◌≡◌, refl, sym, ap, ap₂, ◌∙◌, subst}
use Prim.Native.Nat.{ℕ, suc, ◌+◌}
use mathlib.Core.List.{List, [], ◌∷◌, ◌++◌, map, reverse, reverse-cons, append-nil, append_assoc}
use Rattle.meaning.specs.Text.{gathered, line}
use Rattle.meaning.specs.Model.{Attribute, obligations_of, given}
use Rattle.meaning.specs.Reading.{Sofar, with_element}
use Rattle.meaning.specs.Writing.{read_element, read_elements, element_fields, obligation_fields, element_lines}
use Rattle.laws.proofs.Types.{Element}
use Rattle.laws.proofs.Reading.{given_given, step_then}
use Rattle.laws.proofs.Places.{few_obligations, obligations_with, element_read_lem}
use Rattle.checking.specs.Tested.{taken as kept}

pub elements_kept : (n : ℕ) (s : Sofar) (es : List Element) (z : Sofar) → read_elements n s es ≡ given z → (z.attributes ≡ s.attributes) × (reverse z.before ≡ reverse s.before ++ map kept es)
elements_kept n s [] z h = let same = sym (given_given h) in (ap (λ t. t.attributes) same, ap (λ t. reverse t.before) same ∙ sym (append-nil (reverse s.before)))
elements_kept n s (e ∷ es) z h =
    let (t, a, b) = step_then (read_element n s e) (λ t. read_elements (n + suc e.obligations) t es) z h in
    let next = subst (λ t. read_elements (n + suc e.obligations) t es ≡ given z) (element_read_lem n s e t a).is b in
    let (attributes, elements) = elements_kept (n + suc e.obligations) (with_element s (kept e)) es z next in
    (attributes, elements ∙ ap (λ x. x ++ map kept es) (reverse-cons (kept e) s.before) ∙ append_assoc (reverse s.before) (kept e ∷ []) (map kept es))

lines_same : (attrs : List Attribute) (e : Element) → element_lines attrs (kept e) ≡ element_lines attrs e
lines_same attrs e = ap (λ os. line (element_fields attrs e) ++ gathered (λ o. line (obligation_fields o)) os) (obligations_with (obligations_of e) e (few_obligations e))

pub lines_kept : (attrs : List Attribute) (es : List Element) → gathered (element_lines attrs) (map kept es) ≡ gathered (element_lines attrs) es
lines_kept attrs [] = refl
lines_kept attrs (e ∷ es) = ap₂ (λ x y. x ++ y) (lines_same attrs e) (lines_kept attrs es)
