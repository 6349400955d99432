-- The lines of the joined text have good fields, so it is a file of just these lines.
use mathlib.Core.Path.{◌≡◌, refl, sym, ap, ap₂, ◌∙◌}
use Prim.Native.Nat.{suc, ◌≤◌, zero-le, suc-le-suc}
use native.Mathlib.Omega.{arith}
use mathlib.Core.Bool.{Bool, true, not}
use mathlib.Core.List.{List, [], ◌∷◌, ◌++◌, map}
use lib.ListN.{length}
use Rattle.meaning.specs.Text.{Bytes, bytes, all, keep, gathered, front, same_name, cut, join, newline, tab, line, is_field}
use Rattle.meaning.specs.Model.{Attribute, name_of, obligations_of, Policy, given, attribute_fields}
use Rattle.meaning.specs.Reading.{read}
use Rattle.meaning.specs.Trimming.{file_lines}
use Rattle.meaning.specs.Writing.{target_texts, obligation_fields}
use Rattle.meaning.specs.Joining.{declared, both, target_for, joined_text}
use Rattle.meaning.specs.Claims.Texts.{All}
use Rattle.meaning.specs.Claims.PolicyFile.{GoodAttribute, WellFormed}
use Rattle.laws.proofs.Types.{Element, Obligation}
use Rattle.laws.proofs.Bools.{Test, passed, failed, test, and_true}
use Rattle.laws.proofs.Text.{Frees, cut_join, join_free}
use Rattle.laws.proofs.Lines.{cut_unlines, rows_lines}
use Rattle.laws.proofs.Reading.{front_snoc}
use Rattle.laws.proofs.Places.{GoodObligation}
use Rattle.laws.proofs.Bounds.{all_append, GoodElement, named, bounded}
use Rattle.laws.proofs.Fields.{fields_free, name_field, decimal_field, kind_field, word_field, targets_fields}
use Rattle.laws.proofs.Rewritten.{line_fields}
use Rattle.laws.proofs.LinesBack.{masks_back, fields_of_obligation}
use Rattle.laws.proofs.WellFormed.{fields_good}
use Rattle.laws.proofs.FileLines.{Cut, rows_cut}
use Rattle.laws.proofs.Accepting.{proposal_lines}
use Rattle.laws.proofs.JoinedLines.{tree_rows}
use Rattle.laws.proofs.JoinedText.{deep_row, head_row, joined_rows, deep_fields, deep_element, text_rows}

-- A text whose lines have good fields has just these lines
abbrev GoodFields : List Bytes → Type 0
GoodFields fs = (1 ≤ length fs) × (all is_field fs ≡ true)

fields_cut : (fs : List Bytes) → GoodFields fs → Cut fs
fields_cut [] g = absurd (omega (arith, g.0))
fields_cut (f ∷ fs) g = cut_join tab f fs (fields_free tab (f ∷ fs) refl g.1)

all_cut : (rows : List (List Bytes)) → All GoodFields rows → All Cut rows
all_cut [] g = tt
all_cut (r ∷ rows) g = (fields_cut r g.0, all_cut rows g.1)

all_free : (rows : List (List Bytes)) → All GoodFields rows → Frees newline (map (join tab) rows)
all_free [] g = tt
all_free (r ∷ rows) g = (join_free newline tab r refl (fields_free newline r refl g.0.1), all_free rows g.1)

rows_back : (rows : List (List Bytes)) → All Cut rows → map (cut tab) (map (join tab) rows) ≡ rows
rows_back [] c = refl
rows_back (r ∷ rows) c = ap₂ (λ x y. x ∷ y) c.0 (rows_back rows c.1)

rows_settled : (t : Bytes) (j : Policy) (w : WellFormed t j) (rows : List (List Bytes)) → All GoodFields rows → t ≡ gathered line rows → w.rows ≡ rows
rows_settled t j w rows g e =
    let own = sym (rows_back w.rows (rows_cut w.rows j.attributes j.elements w.good)) ∙ ap (map (cut tab)) (sym (proposal_lines t j w)) in
    let lines : file_lines t ≡ map (join tab) rows = ap (λ x. front (cut newline x)) (e ∙ rows_lines rows) ∙ ap front (cut_unlines (map (join tab) rows) (all_free rows g)) ∙ front_snoc (map (join tab) rows) [] in
    own ∙ ap (map (cut tab)) lines ∙ rows_back rows (all_cut rows g)

-- The attributes' lines
keep_good : (t : Attribute → Bool) (attrs : List Attribute) → All GoodAttribute attrs → All GoodAttribute (keep t attrs)
keep_good t [] g = tt
keep_good t (a ∷ attrs) g = go (test (t a)) (keep_good t attrs g.1)
  where
    go : Test (t a) → All GoodAttribute (keep t attrs) → All GoodAttribute (keep t (a ∷ attrs))
    go (passed e) later = rw e (g.0, later)
    go (failed e) later = rw e later

both_good : (first second : List Attribute) → All GoodAttribute first → All GoodAttribute second → All GoodAttribute (both first second)
both_good first second g h = let alone : Attribute → Bool = λ b. not (declared first b.name) in all_append GoodAttribute first (keep alone second) g (keep_good alone second h)

attribute_rows : (attrs : List Attribute) → All GoodAttribute attrs → All GoodFields (map attribute_fields attrs)
attribute_rows [] g = tt
attribute_rows (a ∷ attrs) g = ((suc-le-suc zero-le, fields_good a g.0), attribute_rows attrs g.1)

-- the set's
stars_fields : (attrs : List Attribute) → all is_field (map (λ a. bytes "*") attrs) ≡ true
stars_fields [] = refl
stars_fields (a ∷ attrs) = stars_fields attrs

-- and each file's, one deeper
module _ (own : List Attribute) where
  target_field : (xs : List Attribute) (ts : List Bytes) (c : Attribute) → length ts ≡ length xs → all is_field ts ≡ true → is_field (target_for xs ts c) ≡ true
  target_field [] ts c l h = refl
  target_field (a ∷ xs) [] c l h = absurd (omega (arith, l))
  target_field (a ∷ xs) (t ∷ ts) c l h = let (x, y) = and_true (is_field t) (all is_field ts) h in go (test (same_name c.name a.name)) x (target_field xs ts c (omega (arith, l)) y)
    where
      go : Test (same_name c.name a.name) → is_field t ≡ true → is_field (target_for xs ts c) ≡ true → is_field (target_for (a ∷ xs) (t ∷ ts) c) ≡ true
      go (passed e) x later = rw e x
      go (failed e) x later = rw e later

  targets_for_fields : (ts : List Bytes) (attrs : List Attribute) → length ts ≡ length own → all is_field ts ≡ true → all is_field (map (target_for own ts) attrs) ≡ true
  targets_for_fields ts [] l h = refl
  targets_for_fields ts (c ∷ attrs) l h = rw (target_field own ts c l h) (targets_for_fields ts attrs l h)

  module _ (attrs : List Attribute) (good : All GoodAttribute own) where
    fields_deep : (e : Element) → GoodElement own e → all is_field (deep_fields attrs own e) ≡ true
    fields_deep e g =
        let targets = targets_for_fields (target_texts own e.masks) attrs (masks_back own e.masks good g.masked).count (targets_fields own e.masks good g.masked) in
        rw (kind_field e.kind, decimal_field (suc e.depth), name_field (name_of e) (named e g.named).is_name, word_field e.word, targets)

    obligation_rows_lem : (os : List Obligation) (rows : List (List Bytes)) → All GoodObligation os → All GoodFields (map (deep_row attrs own) rows) → All GoodFields (map (deep_row attrs own) (map obligation_fields os ++ rows))
    obligation_rows_lem [] rows g h = h
    obligation_rows_lem (o ∷ os) rows g h = ((suc-le-suc zero-le, fields_of_obligation o g.0), obligation_rows_lem os rows g.1 h)

    deep_rows : (es : List Element) → All (GoodElement own) es → All GoodFields (map (deep_row attrs own) (gathered (line_fields own) es))
    deep_rows [] g = tt
    deep_rows (e ∷ es) g = (
      rw (deep_element attrs own e g.0.shallow) (suc-le-suc zero-le, fields_deep e g.0),
      obligation_rows_lem (obligations_of e) (gathered (line_fields own) es) g.0.carried.each_good (deep_rows es g.1),
    )

pub joined_rows_lem : (w f : Bytes) (p : Policy) (g : Bytes) (q : Policy) → read f ≡ given p → read g ≡ given q → is_field w ≡ true → (j : Policy) (x : WellFormed (joined_text w f p.attributes g q.attributes) j)
    → x.rows ≡ joined_rows w (both p.attributes q.attributes) p q
joined_rows_lem w f p g q h i field j x =
    let attrs = both p.attributes q.attributes in
    let a = bounded f p h in
    let b = bounded g q i in
    let first = deep_rows p.attributes attrs a.attributes_good p.elements a.elements_good in
    let second = deep_rows q.attributes attrs b.attributes_good q.elements b.elements_good in
    let trees = all_append GoodFields (map (deep_row attrs p.attributes) (tree_rows p)) (map (deep_row attrs q.attributes) (tree_rows q)) first second in
    let head : GoodFields (head_row w attrs) = (suc-le-suc zero-le, rw (field, stars_fields attrs)) in
    rows_settled (joined_text w f p.attributes g q.attributes) j x (joined_rows w attrs p q)
    (all_append GoodFields (map attribute_fields attrs) (head_row w attrs ∷ (map (deep_row attrs p.attributes) (tree_rows p) ++ map (deep_row attrs q.attributes) (tree_rows q)))
    (attribute_rows attrs (both_good p.attributes q.attributes a.attributes_good b.attributes_good)) (head, trees))
    (text_rows w f p g q h i)
