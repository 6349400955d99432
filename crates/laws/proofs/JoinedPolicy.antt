-- The policy of a joined text: a set over the elements of both files, each raised.
use mathlib.Core.Path.{◌≡◌, refl, sym, ap, ap₂, ◌∙◌, subst}
use Prim.Native.Nat.{◌≤◌, zero-le}
use native.Mathlib.Omega.{arith}
use mathlib.Core.Bool.{Bool, true, false}
use mathlib.Core.List.{List, [], ◌∷◌, ◌++◌, map, append-nil, Memᴰ}
use mathlib.Core.Option.{none, some}
use lib.ListN.{length, get_or, drop}
use Rattle.meaning.specs.Text.{Bytes, gathered, repeated, is_field}
use Rattle.meaning.specs.Model.{Attribute, obligations_of, padded, Policy, full, given, attribute_fields, word_text, words}
use Rattle.meaning.specs.Reading.{attribute_letter, word_of, masks_of, read}
use Rattle.meaning.specs.Writing.{element_fields, obligation_fields}
use Rattle.meaning.specs.Joining.{both, first_differing, joined_text}
use Rattle.meaning.specs.Claims.Texts.{All}
use Rattle.meaning.specs.Claims.PolicyFile.{GoodAttribute, attribute_names}
use Rattle.laws.proofs.Types.{set, Word, Element, Obligation}
use Rattle.laws.proofs.Bools.{never}
use Rattle.laws.proofs.Lines.{spelled_some, letter_attribute, kind_not_attribute}
use Rattle.laws.proofs.Words.{word_same}
use Rattle.laws.proofs.Names.{name_swap, names_distinct}
use Rattle.laws.proofs.Bounds.{GoodElement, Bounded, bounded}
use Rattle.laws.proofs.Fields.{word_field}
use Rattle.laws.proofs.Rewritten.{line_fields}
use Rattle.laws.proofs.WellFormed.{well_formed, rows_are}
use Rattle.laws.proofs.BadFields.{letter_same}
use Rattle.laws.proofs.Raised.{JoinedPolicy}
use Rattle.laws.proofs.JoinedLines.{tree_rows}
use Rattle.laws.proofs.JoinedText.{deep_row, head_row}
use Rattle.laws.proofs.Standing.{Stands, first_stands, second_stands}
use Rattle.laws.proofs.JoinedFields.{joined_rows_lem}
use Rattle.laws.proofs.Raising.{Stops, parted, obligation_row, all_obligations, stops_obligations, masks_read, star_masks, SameValues, depth_same, file_begins, stops_file}

-- Attributes by their lines
attribute_same : (a b : Attribute) → attribute_fields a ≡ attribute_fields b → a ≡ b
attribute_same a b e =
    let several = letter_same a.several b.several (ap (λ fs. get_or fs 0 []) e) in
    let name : a.name ≡ b.name = ap (λ fs. get_or fs 1 []) e in
    let values : a.values ≡ b.values = ap (drop 2) e in
    λ i. record { several = several i; name = name i; values = values i }

attributes_same : (xs ys : List Attribute) → map attribute_fields xs ≡ map attribute_fields ys → xs ≡ ys
attributes_same [] [] e = refl
attributes_same [] (y ∷ ys) e = never cc
attributes_same (x ∷ xs) [] e = never cc
attributes_same (x ∷ xs) (y ∷ ys) e = ap₂ (λ z zs. z ∷ zs) (attribute_same x y (ap (λ l. get_or l 0 []) e)) (attributes_same xs ys (ap (drop 1) e))

abbrev letter : List Bytes → Bool
letter fs = attribute_letter (get_or fs 0 [])

all_attributes : (attrs : List Attribute) → All (λ fs. letter fs ≡ true) (map attribute_fields attrs)
all_attributes [] = tt
all_attributes (a ∷ attrs) = (letter_attribute a.several, all_attributes attrs)

stops_elements : (attrs : List Attribute) (es : List Element) → Stops letter (gathered (line_fields attrs) es)
stops_elements attrs [] = tt
stops_elements attrs (e ∷ es) = kind_not_attribute e.kind

no_lines : (attrs : List Attribute) (es : List Element) → gathered (line_fields attrs) es ≡ [] → es ≡ []
no_lines attrs [] e = refl
no_lines attrs (x ∷ es) e = never cc

-- Attributes of equal name have the same values
values_stand : (own attrs cs : List Attribute) → cs ≡ attrs → Stands own attrs → SameValues cs own
values_stand own attrs cs are s c a m n e = (s.agree a c n (subst (Memᴰ c) are m) (name_swap c.name a.name e)).1

-- The set's line is read as the set
none_behind : (os : List Obligation) → map obligation_fields os ≡ [] → os ≡ []
none_behind [] e = refl
none_behind (o ∷ os) e = never cc

record RootIs (w : Word) (attrs : List Attribute) (e : Element) : Type 0 where
  depth : e.depth ≡ 0
  word : e.word ≡ w
  obligations : obligations_of e ≡ []
  masks : e.masks ≡ padded 6 (map (λ c. full c.values) attrs)

root_is : (w : Bytes) (v : Word) (attrs : List Attribute) → word_text v ≡ w → All GoodAttribute attrs → length attrs ≤ 6 → (e : Element) → GoodElement attrs e → element_fields attrs e ≡ head_row w attrs → map obligation_fields (obligations_of e) ≡ [] → RootIs v attrs e
root_is w v attrs spelled good few e g same behind = record {
  depth = depth_same e.depth 0 (omega (arith, g.shallow)) zero-le (ap (λ fs. get_or fs 1 []) same);
  word = word_same e.word v (ap (λ fs. get_or fs 3 []) same ∙ sym spelled);
  obligations = none_behind (obligations_of e) behind;
  masks = masks_read attrs good few e g ∙ ap (λ fs. padded 6 (masks_of attrs (drop 4 fs))) same ∙ ap (padded 6) (star_masks attrs);
}

-- The joined text is read as that set over the elements of both files
module _ (w f : Bytes) (p : Policy) (g : Bytes) (q : Policy) (v : Word) (j : Policy) (hp : read f ≡ given p) (hq : read g ≡ given q) (is_IsWord : word_of set w ≡ some v) (alike : first_differing p.attributes 1 q.attributes ≡ none) (accepted : read (joined_text w f p.attributes g q.attributes) ≡ given j) where
  spelled : word_text v ≡ w
  spelled = spelled_some word_text w (words set) v is_IsWord

  abbrev attrs : List Attribute
  attrs = both p.attributes q.attributes

  abbrev behind : List Attribute → List (List Bytes)
  behind cs = map (deep_row cs p.attributes) (tree_rows p) ++ map (deep_row cs q.attributes) (tree_rows q)

  parts : (map attribute_fields j.attributes ≡ map attribute_fields attrs) × (gathered (line_fields j.attributes) j.elements ≡ head_row w attrs ∷ behind attrs)
  parts =
      let x = (well_formed (joined_text w f p.attributes g q.attributes) j).0 accepted in
      let rows = joined_rows_lem w f p g q hp hq (subst (λ t. is_field t ≡ true) spelled (word_field v)) j x in
      parted letter (map attribute_fields j.attributes) (map attribute_fields attrs) (tree_rows j) (head_row w attrs ∷ behind attrs)
      (all_attributes j.attributes) (all_attributes attrs) (stops_elements j.attributes j.elements) refl
      (sym (rows_are x.rows j.attributes j.elements x.good) ∙ rows)

  same_attributes : j.attributes ≡ attrs
  same_attributes = attributes_same j.attributes attrs parts.0

  tree : gathered (line_fields j.attributes) j.elements ≡ head_row w j.attributes ∷ behind j.attributes
  tree = parts.1 ∙ ap (λ cs. head_row w cs ∷ behind cs) (sym same_attributes)

  first_bounded : Bounded p
  first_bounded = bounded f p hp

  second_bounded : Bounded q
  second_bounded = bounded g q hq

  whole_bounded : Bounded j
  whole_bounded = bounded (joined_text w f p.attributes g q.attributes) j accepted

  apart : repeated (attribute_names attrs) ≡ false
  apart = subst (λ cs. repeated (attribute_names cs) ≡ false) same_attributes (names_distinct (attribute_names j.attributes) ((well_formed (joined_text w f p.attributes g q.attributes) j).0 accepted).good.attributes_distinct)

  first_agrees : SameValues j.attributes p.attributes
  first_agrees = values_stand p.attributes attrs j.attributes same_attributes (first_stands p.attributes q.attributes apart)

  second_agrees : SameValues j.attributes q.attributes
  second_agrees = values_stand q.attributes attrs j.attributes same_attributes (second_stands p.attributes q.attributes apart first_bounded.attributes_good second_bounded.attributes_good alike)

  pub joined_policy : JoinedPolicy v p q j
  joined_policy = go j.elements refl whole_bounded.elements_good tree
    where
      go : (es : List Element) → j.elements ≡ es → All (GoodElement j.attributes) es → gathered (line_fields j.attributes) es ≡ head_row w j.attributes ∷ behind j.attributes → JoinedPolicy v p q j
      go [] are good e = never cc
      go (r ∷ es) are good e =
          let cs = j.attributes in
          let second-rows = map (deep_row cs q.attributes) (tree_rows q) in
          let second-stops : Stops obligation_row second-rows = subst (Stops obligation_row) (append-nil second-rows) (stops_file cs q.attributes whole_bounded.attributes_good second_bounded.attributes_good whole_bounded.few_attributes second_agrees q.elements [] second_bounded.elements_good tt) in
          let stops = stops_file cs p.attributes whole_bounded.attributes_good first_bounded.attributes_good whole_bounded.few_attributes first_agrees p.elements second-rows first_bounded.elements_good second-stops in
          let (none-own, later) = parted obligation_row (map obligation_fields (obligations_of r)) [] (gathered (line_fields cs) es) (behind cs) (all_obligations (obligations_of r)) tt (stops_obligations cs es) stops (ap (drop 1) e) in
          let root = root_is w v cs spelled whole_bounded.attributes_good whole_bounded.few_attributes r good.0 (ap (λ l. get_or l 0 []) e) none-own in
          let x = file_begins cs p.attributes whole_bounded.attributes_good first_bounded.attributes_good whole_bounded.few_attributes first_agrees p.elements es second-rows first_bounded.elements_good good.1 second-stops later in
          let y = file_begins cs q.attributes whole_bounded.attributes_good second_bounded.attributes_good whole_bounded.few_attributes second_agrees q.elements x.rest [] second_bounded.elements_good x.rest_good tt (x.left ∙ sym (append-nil second-rows)) in
          record {
            attributes = same_attributes;
            root = r;
            of_first = x.taken;
            of_second = y.taken;
            elements = are ∙ ap (λ l. r ∷ l) (x.are ∙ ap (λ l. x.taken ++ l) (y.are ∙ ap (λ l. y.taken ++ l) (no_lines cs y.rest y.left) ∙ append-nil y.taken));
            root_depth = root.depth;
            root_word = root.word;
            root_obligations = root.obligations;
            root_masks = root.masks;
            first_raised = x.all_raised;
            second_raised = y.all_raised;
          }
