-- What was read so far, as lines that break no rule: an invariant that every line of a file and every element of a list keeps.
use mathlib.Core.Path.{◌≡◌, refl, sym, ap, ◌∙◌, subst}
use Prim.Native.Nat.{◌≤◌}
use native.Mathlib.Omega.{arith}
use mathlib.Core.Bool.{true, false, not}
use mathlib.Core.List.{List, [], ◌∷◌, ◌++◌, map, reverse, reverse_aux, reverse-cons, map-append, append_assoc, append-nil}
use lib.ListN.{length, length-reverse, length-append}
use lib.Dec.{ltb}
use borrow.Author.Tests.{not-false, ltb-true}
use Rattle.meaning.specs.Text.{Bytes, empty, all, among_names, repeated, is_field, gathered}
use Rattle.meaning.specs.Model.{Attribute, name_of, word_text, with_obligations, obligations_of, attribute_fields}
use Rattle.meaning.specs.Reading.{Line, attribute_line, tree_line, other_line, line_of, element_of, Sofar, well_placed, attribute_tests, element_tests, line_tests, with_element, extended, nothing, nearest_with, well_followed, bad_name, obligation_tests, obligation_line, bad_unused, with_obligation, obligation_of, may_have_obligations}
use Rattle.meaning.specs.Writing.{element_fields, obligation_fields}
use Rattle.meaning.specs.Claims.Texts.{All, Each, DistinctNames}
use Rattle.meaning.specs.Claims.PolicyFile.{attribute_names, Placed, NewName, GoodLines}
use Rattle.meaning.specs.Claims.Writing.{Shaped}
use Rattle.laws.proofs.Types.{Element, Obligation}
use Rattle.laws.proofs.Bools.{contradiction, or_false, and_true}
use Rattle.laws.proofs.Reading.{Passes, line_numbered, PassesLine}
use Rattle.laws.proofs.Lines.{attribute_fields_lem}
use Rattle.laws.proofs.Bounds.{GoodElement, all_reverse, Good, nothing_good, line_good, obligation_good, obligation_of_line}
use Rattle.laws.proofs.Rewritten.{fields_again, line_fields, gathered_append, gathered_map, obligation_again}
use Rattle.laws.proofs.Words.{HasWord, word_had}
use Rattle.laws.proofs.ObligationLines.{lines_of}
use Rattle.laws.proofs.Placed.{well_placed_lem}
use Rattle.laws.proofs.Names.{not_among, snoc_distinct}
use Rattle.laws.proofs.LinesBack.{bare_good}
use Rattle.laws.proofs.Places.{GoodObligation, obligations_with}

module _ {A : Type 0} where
  -- what holds of each element of a list turned round, with those behind it
  abbrev Chain : (List A → A → Type 0) → List A → Type 0
  Chain P [] = Unit {0}
  Chain P (x ∷ xs) = P xs x × Chain P xs

  chain_each : (P : List A → A → Type 0) (before xs : List A) → Chain P before → Each P before xs → Each P [] (reverse_aux before xs)
  chain_each P [] xs c e = e
  chain_each P (b ∷ before) xs c e = chain_each P before (b ∷ xs) c.1 (c.0, e)

pub not_empty : {A : Type 0} (xs : List A) → 1 ≤ length xs → empty xs ≡ false
not_empty [] l = absurd (omega arith)
not_empty (x ∷ xs) l = refl

-- What each line and each element keeps beside the bounds
pub record Kept (s : Sofar) : Type 0 where
  pub attributes_distinct : DistinctNames (attribute_names s.attributes)
  pub placed : Chain Placed s.before
  pub new_names : Chain NewName s.before
  pub words : All HasWord s.before

attribute_kept : (s : Sofar) (a : Attribute) → Passes (attribute_tests s a) → Kept s → Kept (extended s (attribute_line a))
attribute_kept s a (f3, (f4, f)) k =
    let new = (or_false (among_names a.name (attribute_names s.attributes)) (repeated a.values) f4).0 in
    record {
      attributes_distinct = rw (map-append (λ a. a.name) s.attributes (a ∷ [])) (snoc_distinct (attribute_names s.attributes) a.name k.attributes_distinct (not_among a.name (attribute_names s.attributes) new));
      placed = k.placed;
      new_names = k.new_names;
      words = k.words;
    }

element_kept : (s : Sofar) (w : Bytes) (e : Element) → HasWord e → Passes (element_tests s w e) → Kept s → Kept (with_element s e)
element_kept s w e word (f3, (f4, (f5, (f6, f)))) k =
    let at = (or_false (empty s.attributes) (not (well_placed e.kind e.depth s.before)) f6).1 in
    record {
      attributes_distinct = k.attributes_distinct;
      placed = (well_placed_lem s.before e.kind e.depth (not-false (well_placed e.kind e.depth s.before) at), k.placed);
      new_names = (not_among (name_of e) (map name_of s.before) f4, k.new_names);
      words = (word, k.words);
    }

obligation_kept : (attrs : List Attribute) (o : Obligation) (es : List Element) → Kept (record { attributes = attrs; before = es }) → Kept (record { attributes = attrs; before = nearest_with o es })
obligation_kept attrs o [] k = k
obligation_kept attrs o (e ∷ es) k = record { attributes_distinct = k.attributes_distinct; placed = k.placed; new_names = k.new_names; words = k.words }

-- The lines read so far, by their fields
abbrev pub rows_of : Sofar → List (List Bytes)
rows_of s = map attribute_fields s.attributes ++ gathered (line_fields s.attributes) (reverse s.before)

attribute_row : (attrs : List Attribute) (a : Attribute) (es : List Element) → empty es ≡ true → rows_of (record { attributes = attrs; before = es }) ++ (attribute_fields a ∷ []) ≡ rows_of (record { attributes = attrs ++ (a ∷ []); before = es })
attribute_row attrs a [] e = ap (λ x. x ++ (attribute_fields a ∷ [])) (append-nil (map attribute_fields attrs)) ∙ sym (map-append attribute_fields attrs (a ∷ [])) ∙ sym (append-nil (map attribute_fields (attrs ++ (a ∷ []))))
attribute_row attrs a (x ∷ es) e = contradiction e refl

last_gathered : {A B : Type 0} (f : A → List B) (x : A) (xs : List A) → gathered f (reverse (x ∷ xs)) ≡ gathered f (reverse xs) ++ f x
last_gathered f x xs = ap (gathered f) (reverse-cons x xs) ∙ gathered_append f (reverse xs) (x ∷ []) ∙ ap (λ y. gathered f (reverse xs) ++ y) (append-nil (f x))

-- an element's line, and an obligation's behind it
element_row : (s : Sofar) (e : Element) → rows_of s ++ (element_fields s.attributes e ∷ []) ≡ rows_of (with_element s (with_obligations [] e))
element_row s e =
    let F = line_fields s.attributes in
    let A = map attribute_fields s.attributes in
    append_assoc A (gathered F (reverse s.before)) (element_fields s.attributes e ∷ []) ∙ ap (λ x. A ++ x) (sym (last_gathered F (with_obligations [] e) s.before))

obligation_row_lem : (attrs : List Attribute) (o : Obligation) (es : List Element) → well_followed es ≡ true → rows_of (record { attributes = attrs; before = es }) ++ (obligation_fields o ∷ []) ≡ rows_of (record { attributes = attrs; before = nearest_with o es })
obligation_row_lem attrs o [] h = contradiction h refl
obligation_row_lem attrs o (e ∷ es) h =
    let F = line_fields attrs in
    let A = map attribute_fields attrs in
    let os = obligations_of e ++ (o ∷ []) in
    let room = ltb-true (length (obligations_of e)) 2 (and_true (may_have_obligations e.kind) (ltb (length (obligations_of e)) 2) h).1 in
    let own : F (with_obligations os e) ≡ F e ++ (obligation_fields o ∷ []) =
    ap (λ x. element_fields attrs e ∷ map obligation_fields x) (obligations_with os e (omega (arith, length-append (obligations_of e) (o ∷ []))))
    ∙ ap (λ x. element_fields attrs e ∷ x) (map-append obligation_fields (obligations_of e) (o ∷ [])) in
    append_assoc A (gathered F (reverse (e ∷ es))) (obligation_fields o ∷ [])
    ∙ ap (λ x. A ++ x)
    (ap (λ x. x ++ (obligation_fields o ∷ [])) (last_gathered F e es)
    ∙ append_assoc (gathered F (reverse es)) (F e) (obligation_fields o ∷ [])
    ∙ ap (λ x. gathered F (reverse es) ++ x) (sym own)
    ∙ sym (last_gathered F (with_obligations os e) es))

-- What was read so far breaks no rule, and has these lines
pub record GoodSofar (s : Sofar) (rows : List (List Bytes)) : Type 0 where
  pub good : Good s
  pub kept : Kept s
  pub are : rows ≡ rows_of s

pub nothing_sofar : GoodSofar nothing []
nothing_sofar = record { good = nothing_good; kept = record { attributes_distinct = tt; placed = tt; new_names = tt; words = tt }; are = refl }

-- An element by its own line, and then each of its obligations
pub element_sofar : (s : Sofar) (rows : List (List Bytes)) (e : Element) → Shaped e → Passes (element_tests s (word_text e.word) e) → GoodSofar s rows → GoodSofar (with_element s (with_obligations [] e)) (rows ++ (element_fields s.attributes e ∷ []))
element_sofar s rows e shaped p g = record {
  good = bare_good s e g.good shaped p;
  kept = element_kept s (word_text e.word) (with_obligations [] e) p.1.1.1.1.0 (rw (or_false (bad_name e) (bad_unused e) p.0).0, p.1) g.kept;
  are = ap (λ x. x ++ (element_fields s.attributes e ∷ [])) g.are ∙ element_row s e;
}

pub obligation_sofar : (s : Sofar) (rows : List (List Bytes)) (w : Bytes) (o : Obligation) → GoodObligation o → Passes (obligation_tests s w o) → GoodSofar s rows → GoodSofar (with_obligation s o) (rows ++ (obligation_fields o ∷ []))
obligation_sofar s rows w o good p g = record {
  good = obligation_good s w o good p g.good;
  kept = obligation_kept s.attributes o s.before g.kept;
  are = ap (λ x. x ++ (obligation_fields o ∷ [])) g.are ∙ obligation_row_lem s.attributes o s.before (not-false (well_followed s.before) p.1.1.0);
}

pub line_sofar : (s : Sofar) (rows : List (List Bytes)) (fs : List Bytes) → PassesLine line_tests line_numbered s fs (line_of fs) → GoodSofar s rows → GoodSofar (extended s (line_of fs)) (rows ++ (fs ∷ []))
line_sofar s rows fs p g = go (line_of fs) refl p (line_good s fs (line_of fs) refl p g.good)
  where
    with_row : (z : Sofar) (row : List Bytes) → row ≡ fs → GoodSofar z (rows ++ (row ∷ [])) → GoodSofar z (rows ++ (fs ∷ []))
    with_row z row e x = subst (λ r. GoodSofar z (rows ++ (r ∷ []))) e x

    go : (l : Line) → line_of fs ≡ l → PassesLine line_tests line_numbered s fs l → Good (extended s l) → GoodSofar (extended s l) (rows ++ (fs ∷ []))
    go (attribute_line a) i (f2, f) good = with_row (extended s (attribute_line a)) (attribute_fields a) (sym (attribute_fields_lem fs a i).are) (record {
      good = good;
      kept = attribute_kept s a f g.kept;
      are = ap (λ x. x ++ (attribute_fields a ∷ [])) g.are ∙ attribute_row s.attributes a s.before (not-false (empty s.before) f.1.1.1.0);
    })
    go (tree_line k d n w ts) i f good =
        let e = element_of s.attributes k d n w ts in
        with_row (with_element s e) (element_fields s.attributes e) (fields_again s k d n w ts fs i f) (record {
          good = good;
          kept = element_kept s w e (word_had k w f.1.1.1.1.1.0) f.1 g.kept;
          are = ap (λ x. x ++ (element_fields s.attributes e ∷ [])) g.are ∙ element_row s e;
        })
    go (obligation_line n w) i f good = with_row (with_obligation s (obligation_of n w)) (obligation_fields (obligation_of n w)) (obligation_again s fs n w i f) (obligation_sofar s rows w (obligation_of n w) (obligation_of_line s n w f.1) f.1 g)
    go other_line i (f2, f) good = contradiction refl (or_false (not (all is_field fs)) true f2).1

pub good_lines : (s : Sofar) (rows : List (List Bytes)) → GoodSofar s rows → GoodLines rows s.attributes (reverse s.before)
good_lines s rows x =
    let g = x.good in
    let k = x.kept in
    record {
      tree = map (line_fields s.attributes) (reverse s.before);
      are = x.are ∙ ap (λ y. map attribute_fields s.attributes ++ y) (sym (gathered_map (λ l. l) (line_fields s.attributes) (reverse s.before)));
      few_attributes = g.few_attributes;
      attributes_good = g.attributes_good;
      attributes_distinct = k.attributes_distinct;
      small_space = g.small_space;
      few_elements = rw (length-reverse s.before) g.few_elements;
      some_attribute = λ l. g.some_attribute (not_empty s.before (omega (arith, l, length-reverse s.before)));
      tree_lines = lines_of s.attributes g.attributes_good g.few_attributes (reverse s.before) (all_reverse (GoodElement s.attributes) s.before g.elements_good) (all_reverse HasWord s.before k.words);
      placed = chain_each Placed s.before [] k.placed tt;
      new_names = chain_each NewName s.before [] k.new_names tt;
    }
