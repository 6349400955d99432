-- The joined text by the fields of its lines, as the definition makes it and as the request says it.
use mathlib.Core.Path.{◌≡◌, refl, sym, ap, ap₂, ◌∙◌, subst}
use mathlib.Core.Logic.{inl, inr}
use Prim.Native.Nat.{suc, ◌≤◌}
use native.Mathlib.Omega.{arith}
use mathlib.Core.Bool.{Bool, true, false, cond}
use mathlib.Core.List.{List, [], ◌∷◌, ◌++◌, map}
use lib.ListN.{get_or}
use Rattle.meaning.specs.Text.{Bytes, bytes, gathered, repeated, join, tab, line, decimal}
use Rattle.meaning.specs.Model.{Attribute, name_of, obligations_of, Policy, given, attribute_fields, kind_text, word_text}
use Rattle.meaning.specs.Reading.{obligation_letter, read}
use Rattle.meaning.specs.Writing.{target_texts, element_fields, obligation_fields}
use Rattle.meaning.specs.Joining.{declared, both, place_in, target_for, deeper_fields, deeper_line, tree_part, joined_text}
use Rattle.meaning.specs.Claims.Texts.{All, Paired}
use Rattle.meaning.specs.Claims.PolicyFile.{attribute_names, WellFormed}
use Rattle.meaning.specs.Claims.Joining.{TargetFor, Deeper, obligation_line, tree_line, other_lines, JoinedText}
use Rattle.laws.proofs.Types.{Kind, set, policy, rule, Element, Obligation}
use Rattle.laws.proofs.Bools.{Test, passed, failed, test}
use Rattle.laws.proofs.Names.{equal_names, not_among, names_distinct}
use Rattle.laws.proofs.Bounds.{GoodElement, bounded}
use Rattle.laws.proofs.Fields.{digit}
use Rattle.laws.proofs.Rewritten.{line_fields, gathered_append, gathered_map}
use Rattle.laws.proofs.LinesBack.{depth_back}
use Rattle.laws.proofs.ObligationLines.{of_lines}
use Rattle.laws.proofs.FileLines.{Cut}
use Rattle.laws.proofs.OwnNames.{once, place_named}
use Rattle.laws.proofs.JoinedLines.{tree_rows, rows_behind, rows_cut_again}

-- A line by its fields, among the joined attributes
abbrev pub deep_row : (attrs own : List Attribute) → List Bytes → List Bytes
deep_row attrs own fs = cond (obligation_letter (get_or fs 0 [])) fs (deeper_fields attrs own fs)

abbrev pub head_row : Bytes → List Attribute → List Bytes
head_row w attrs = bytes "S" ∷ bytes "0" ∷ bytes "joined" ∷ w ∷ map (λ a. bytes "*") attrs

abbrev pub joined_rows : Bytes → List Attribute → Policy → Policy → List (List Bytes)
joined_rows w attrs p q = map attribute_fields attrs ++ (head_row w attrs ∷ (map (deep_row attrs p.attributes) (tree_rows p) ++ map (deep_row attrs q.attributes) (tree_rows q)))

either_line : (b : Bool) (x y : List Bytes) → cond b (line x) (line y) ≡ line (cond b x y)
either_line true x y = refl
either_line false x y = refl

deep_rows : (attrs own : List Attribute) (rows : List (List Bytes)) → All Cut rows → gathered (deeper_line attrs own) (map (join tab) rows) ≡ gathered line (map (deep_row attrs own) rows)
deep_rows attrs own [] c = refl
deep_rows attrs own (r ∷ rows) c =
    let first : deeper_line attrs own (join tab r) ≡ line (deep_row attrs own r) =
    ap (λ fs. cond (obligation_letter (get_or fs 0 [])) (line fs) (line (deeper_fields attrs own fs))) c.0 ∙ either_line (obligation_letter (get_or r 0 [])) r (deeper_fields attrs own r) in
    ap₂ (λ x y. x ++ y) first (deep_rows attrs own rows c.1)

tree_part_lem : (attrs : List Attribute) (f : Bytes) (p : Policy) → read f ≡ given p → tree_part attrs p.attributes f ≡ gathered line (map (deep_row attrs p.attributes) (tree_rows p))
tree_part_lem attrs f p h = ap (gathered (deeper_line attrs p.attributes)) (rows_behind f p h) ∙ deep_rows attrs p.attributes (tree_rows p) (rows_cut_again f p h)

pub text_rows : (w f : Bytes) (p : Policy) (g : Bytes) (q : Policy) → read f ≡ given p → read g ≡ given q
    → joined_text w f p.attributes g q.attributes ≡ gathered line (joined_rows w (both p.attributes q.attributes) p q)
unfolding joined_text
text_rows w f p g q h i =
    let attrs = both p.attributes q.attributes in
    let first = map (deep_row attrs p.attributes) (tree_rows p) in
    let second = map (deep_row attrs q.attributes) (tree_rows q) in
    let trees : tree_part attrs p.attributes f ++ tree_part attrs q.attributes g ≡ gathered line (first ++ second) = ap₂ (λ x y. x ++ y) (tree_part_lem attrs f p h) (tree_part_lem attrs g q i) ∙ sym (gathered_append line first second) in
    ap₂ (λ x y. x ++ (line (head_row w attrs) ++ y)) (sym (gathered_map line attribute_fields attrs)) trees
    ∙ sym (gathered_append line (map attribute_fields attrs) (head_row w attrs ∷ (first ++ second)))

-- A file's target at an attribute
target_for_lem : (own : List Attribute) → repeated (attribute_names own) ≡ false → (ts : List Bytes) (c : Attribute) → TargetFor own ts c (target_for own ts c)
target_for_lem own apart ts c = go (test (declared own c.name))
  where
    go : Test (declared own c.name) → TargetFor own ts c (target_for own ts c)
    go (passed e) =
        let (l, same) = place_named c.name (once c.name own e apart) in
        inl (place_in own c.name, (l, (equal_names c.name (get_or (attribute_names own) (place_in own c.name) [])).holds same), rw e)
    go (failed e) = inr (not_among c.name (attribute_names own) e, rw e)

targets_for : (own : List Attribute) → repeated (attribute_names own) ≡ false → (ts : List Bytes) (attrs : List Attribute) → Paired (TargetFor own ts) attrs (map (target_for own ts) attrs)
targets_for own apart ts [] = tt
targets_for own apart ts (c ∷ attrs) = (target_for_lem own apart ts c, targets_for own apart ts attrs)

-- Each line is one deeper
pub kind_letter : (k : Kind) → obligation_letter (kind_text k) ≡ false
kind_letter set = refl
kind_letter policy = refl
kind_letter rule = refl

abbrev pub deep_fields : (attrs own : List Attribute) → Element → List Bytes
deep_fields attrs own e = kind_text e.kind ∷ decimal (suc e.depth) ∷ name_of e ∷ word_text e.word ∷ map (target_for own (target_texts own e.masks)) attrs

pub deep_element : (attrs own : List Attribute) (e : Element) → e.depth ≤ 7 → deep_row attrs own (element_fields own e) ≡ deep_fields attrs own e
deep_element attrs own e l = rw (kind_letter e.kind, depth_back e.depth l)

module _ (attrs own : List Attribute) (apart : repeated (attribute_names own) ≡ false) where
  abbrev Deep : List (List Bytes) → Type 0
  Deep rows = Paired (Deeper attrs own) rows (map (deep_row attrs own) rows)

  element_deeper : (e : Element) → e.depth ≤ 7 → Deeper attrs own (element_fields own e) (deep_row attrs own (element_fields own e))
  element_deeper e l =
      let ts = target_texts own e.masks in
      rw (deep_element attrs own e l, digit e.depth (omega (arith, l)), digit (suc e.depth) (omega (arith, l)))
      (tree_line e.kind e.depth (name_of e) (word_text e.word) ts (map (target_for own ts) attrs) l (targets_for own apart ts attrs))

  obligations_deeper : (os : List Obligation) (rows : List (List Bytes)) → Deep rows → Deep (map obligation_fields os ++ rows)
  obligations_deeper [] rows h = h
  obligations_deeper (o ∷ os) rows h = (obligation_line _ _, obligations_deeper os rows h)

  rows_deeper : (es : List Element) → All (GoodElement own) es → Deep (gathered (line_fields own) es)
  rows_deeper [] g = tt
  rows_deeper (e ∷ es) g = (element_deeper e g.0.shallow, obligations_deeper (obligations_of e) (gathered (line_fields own) es) (rows_deeper es g.1))

other_rows : {f : Bytes} {p : Policy} (x : WellFormed f p) → other_lines x ≡ tree_rows p
other_rows {p = p} x = (of_lines p.attributes x.good.attributes_good x.good.few_attributes x.good.tree p.elements x.good.tree_lines).fields

pub joined_text_lem : (w f : Bytes) (p : Policy) (g : Bytes) (q : Policy) → read f ≡ given p → read g ≡ given q → (x : WellFormed f p) (y : WellFormed g q)
    → JoinedText w x y (both p.attributes q.attributes) (joined_text w f p.attributes g q.attributes)
joined_text_lem w f p g q h i x y =
    let attrs = both p.attributes q.attributes in
    let first = map (deep_row attrs p.attributes) (tree_rows p) in
    let second = map (deep_row attrs q.attributes) (tree_rows q) in
    record {
      of_first = first;
      of_second = second;
      text = text_rows w f p g q h i;
      first_deeper = subst (λ rows. Paired (Deeper attrs p.attributes) rows first) (sym (other_rows x)) (rows_deeper attrs p.attributes (names_distinct (attribute_names p.attributes) x.good.attributes_distinct) p.elements (bounded f p h).elements_good);
      second_deeper = subst (λ rows. Paired (Deeper attrs q.attributes) rows second) (sym (other_rows y)) (rows_deeper attrs q.attributes (names_distinct (attribute_names q.attributes) y.good.attributes_distinct) q.elements (bounded g q i).elements_good);
    }
