-- The lines of a file behind its attribute lines, each an obligation's or a tree line with its fields.
use mathlib.Core.Path.{◌≡◌, refl, sym, ap, ◌∙◌, subst}
use mathlib.Core.Logic.{◌⊎◌, inl, inr}
use Prim.Native.Nat.{◌≤◌}
use native.Mathlib.Omega.{arith}
use mathlib.Core.Bool.{true}
use mathlib.Core.List.{List, [], ◌∷◌, ◌++◌, map, map-append}
use lib.ListN.{length, drop, get_or, length-map}
use lib.Seq.{drop-append_seam}
use Rattle.meaning.specs.Text.{Bytes, gathered, cut, join, tab}
use Rattle.meaning.specs.Model.{Attribute, obligations_of, Policy, given, attribute_fields}
use Rattle.meaning.specs.Reading.{obligation_letter, read}
use Rattle.meaning.specs.Trimming.{lines, file_lines}
use Rattle.meaning.specs.Writing.{obligation_fields}
use Rattle.meaning.specs.Claims.Texts.{All}
use Rattle.meaning.specs.Claims.PolicyFile.{GoodAttribute}
use Rattle.laws.proofs.Types.{Element, Obligation}
use Rattle.laws.proofs.Reading.{accepted}
use Rattle.laws.proofs.Bounds.{all_append, GoodElement, bounded}
use Rattle.laws.proofs.Rewritten.{line_fields}
use Rattle.laws.proofs.LinesBack.{masks_back}
use Rattle.laws.proofs.WellFormed.{well_formed, rows_are}
use Rattle.laws.proofs.FileLines.{Cut, elements_cut}
use Rattle.laws.proofs.Accepting.{proposal_lines}

-- The lines behind the attribute lines are the elements'
abbrev pub tree_rows : Policy → List (List Bytes)
tree_rows p = gathered (line_fields p.attributes) p.elements

pub rows_behind : (f : Bytes) (p : Policy) → read f ≡ given p → drop (length p.attributes) (file_lines f) ≡ map (join tab) (tree_rows p)
rows_behind f p h =
    let w = (well_formed f p).0 h in
    let own = map attribute_fields p.attributes in
    let count = length-map own (join tab) ∙ length-map p.attributes attribute_fields in
    ap (drop (length p.attributes)) (proposal_lines f p w ∙ ap (map (join tab)) (rows_are w.rows p.attributes p.elements w.good) ∙ map-append (join tab) own (tree_rows p))
    ∙ ap (λ n. drop n (map (join tab) own ++ map (join tab) (tree_rows p))) (sym count)
    ∙ drop-append_seam (map (join tab) own) (map (join tab) (tree_rows p))

pub rows_cut_again : (f : Bytes) (p : Policy) → read f ≡ given p → All Cut (tree_rows p)
rows_cut_again f p h = let b = bounded f p h in elements_cut p.attributes b.attributes_good p.elements b.elements_good

-- Each is an `O` line or has at least five fields
abbrev OtherRow : List Bytes → Type 0
OtherRow fs = (obligation_letter (get_or fs 0 []) ≡ true) ⊎ (5 ≤ length fs)

obligation_rows_lem : (os : List Obligation) → All OtherRow (map obligation_fields os)
obligation_rows_lem [] = tt
obligation_rows_lem (o ∷ os) = (inl refl, obligation_rows_lem os)

tree_rows_lem : (attrs : List Attribute) → All GoodAttribute attrs → 1 ≤ length attrs → (es : List Element) → All (GoodElement attrs) es → All OtherRow (gathered (line_fields attrs) es)
tree_rows_lem attrs g some [] h = tt
tree_rows_lem attrs g some (e ∷ es) h = (
  inr (omega (arith, some, (masks_back attrs e.masks g h.0.masked).count)),
  all_append OtherRow (map obligation_fields (obligations_of e)) (gathered (line_fields attrs) es) (obligation_rows_lem (obligations_of e)) (tree_rows_lem attrs g some es h.1),
)

rows_lines : (rows : List (List Bytes)) → All Cut rows → All OtherRow rows → All (λ l. OtherRow (cut tab l)) (map (join tab) rows)
rows_lines [] c r = tt
rows_lines (row ∷ rows) c r = (subst OtherRow (sym c.0) r.0, rows_lines rows c.1 r.1)

pub other_lines_lem : (f : Bytes) (p : Policy) → read f ≡ given p → All (λ l. (obligation_letter (get_or (cut tab l) 0 []) ≡ true) ⊎ (5 ≤ length (cut tab l))) (drop (length p.attributes) (file_lines f))
other_lines_lem f p h =
    let b = bounded f p h in
    subst (All (λ l. OtherRow (cut tab l))) (sym (rows_behind f p h))
    (rows_lines (tree_rows p) (rows_cut_again f p h) (tree_rows_lem p.attributes b.attributes_good b.some_attribute p.elements b.elements_good))

-- and behind them stands an empty piece
pub lines_ended : (f : Bytes) (p : Policy) → read f ≡ given p → lines f ≡ file_lines f ++ ([] ∷ [])
lines_ended f p h = (accepted f p h).text.pieces
