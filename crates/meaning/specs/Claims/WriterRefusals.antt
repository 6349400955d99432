-- The paper's table of refusals, said of the writer: of attribute lines, a list of elements, a buffer's size and two numbers.
use Rattle.std.specs.Prelude.{◌≡◌, ◌≢◌, ◌⊎◌, ℕ, suc, ◌^◌, ◌≤◌, ◌<◌, false, List, [], ◌∷◌, ◌++◌, map, reverse, length, get_or, take}
use Rattle.meaning.specs.Text.{Bytes, bytes, gathered, cut, join, newline, tab, line, is_name}
use Rattle.meaning.specs.Model.{Kind, rule, Word, Attribute, Obligation, Element, name_of, obligation_name, places_of, with_obligations, kind_text, attribute_fields}
use Rattle.meaning.specs.Claims.Texts.{In, Among}
use Rattle.meaning.specs.Claims.PolicyFile.{Allowed, Placed, GoodLines}
use Rattle.meaning.specs.Claims.Refusals.{table_rows, Lowest}

-- Attribute lines are tested by the table's rows 2 to 5, as on reading; a tree line there is 6, an `O` line 14
abbrev pub header_rows : (unended : Type 0) → List Attribute → List Bytes → List (ℕ × Type 0)
header_rows unended attrs fs = take 4 (table_rows unended attrs [] fs) ++ ((6, (k : Kind) × (get_or fs 0 [] ≡ kind_text k)) ∷ (14, get_or fs 0 [] ≡ bytes "O") ∷ [])

-- The first bad line of them: those before it break no rule
pub record BadAttributeLine (header : Bytes) (n m : ℕ) : Type 0 where
  pub attributes : List Attribute
  pub bad : Bytes
  pub after : List Bytes
  pub are : cut newline header ≡ map (join tab) (map attribute_fields attributes) ++ (bad ∷ after)
  pub is_line : bad ≡ [] → 1 ≤ length after
  pub good : GoodLines (map attribute_fields attributes) attributes []
  pub number : Lowest n (header_rows (length after ≡ 0) attributes (cut tab bad))
  pub second : m ≡ suc (length attributes)

-- 3: a name length not 1 to 16, a bad name, a non-zero byte behind it
abbrev pub NonZeroFrom : ℕ → List ℕ → Type 0
NonZeroFrom k xs = (i : ℕ) × (k ≤ i) × (get_or xs i 0 ≢ 0)

abbrev pub BadName : ℕ → Bytes → Type 0
BadName len name = (In 1 16 len → ⊥) ⊎ ((is_name (take len name) ≡ false) ⊎ NonZeroFrom len name)

-- 3: other content in an unused place, one that the count leaves out: a length or a byte that is not zero, a word other than `permit`
abbrev pub Content : Obligation → Type 0
Content o = (o.len ≢ 0) ⊎ (NonZeroFrom 0 o.name ⊎ (o.word ≢ Word.Permit))

abbrev pub OtherContent : Element → Type 0
OtherContent e = ((e.obligations < 1) × Content e.first) ⊎ ((e.obligations < 2) × Content e.second)

-- 6: no attribute line before it, a bad depth, place or parent
abbrev pub BadlyPlaced : List Attribute → List Element → Element → Type 0
BadlyPlaced attrs before e = (length attrs ≡ 0) ⊎ ((7 < e.depth) ⊎ (Placed before e → ⊥))

-- 8: an empty mask, a bit too high, a non-zero mask behind the last attribute
abbrev pub BadMasks : List Attribute → List ℕ → Type 0
BadMasks attrs ms = ((i : ℕ) × (i < length attrs) × ((get_or ms i 0 ≡ 0) ⊎ (2 ^ get_or (map (λ a. length a.values) attrs) i 0 ≤ get_or ms i 0))) ⊎ NonZeroFrom (length attrs) ms

-- The rows 3 to 8 of an element behind elements that break no rule, the nearest first
abbrev pub element_rows : List Attribute → List Element → Element → List (ℕ × Type 0)
element_rows attrs before e =
    (3, BadName e.len e.name ⊎ OtherContent e)
    ∷ (4, Among (name_of e) (map name_of before))
    ∷ (5, 64 ≤ length before)
    ∷ (6, BadlyPlaced attrs before e)
    ∷ (7, Allowed e.kind e.word → ⊥)
    ∷ (8, BadMasks attrs e.masks)
    ∷ []

-- The lines of the file to be written that has these attribute lines and these elements, none of which breaks a rule
pub record FileLines (header : Bytes) (es : List Element) : Type 0 where
  pub attributes : List Attribute
  pub rows : List (List Bytes)
  pub header_size : length header ≤ 16384
  pub header_text : header ≡ gathered line (map attribute_fields attributes)
  pub good : GoodLines rows attributes es

-- The first bad element; the second number is the line that the file would have
pub record BadElement (header : Bytes) (es : List Element) (n m : ℕ) : Type 0 where
  pub before : List Element
  pub bad : Element
  pub after : List Element
  pub are : es ≡ before ++ (bad ∷ after)
  pub lines : FileLines header before
  pub number : Lowest n (element_rows lines.attributes (reverse before) bad)
  pub second : m ≡ suc (length lines.rows)

-- The rows 3, 4, 14 and 7 of an element's obligation, by the places from it on, behind those that break no rule: it is 14 on a rule;
-- the third has no place and is 14
abbrev pub obligation_rows : Kind → List Obligation → List Obligation → List (ℕ × Type 0)
obligation_rows k earlier [] = (14, Unit {0}) ∷ []
obligation_rows k earlier (o ∷ later) =
    (3, BadName o.len o.name)
    ∷ (4, Among (obligation_name o) (map obligation_name earlier))
    ∷ (14, k ≡ rule)
    ∷ (7, Allowed rule o.word → ⊥)
    ∷ []

-- The first bad obligation: its element breaks no rule with those before it; the second number is the line that the file would have
pub record BadObligation (header : Bytes) (es : List Element) (n m : ℕ) : Type 0 where
  pub before : List Element
  pub bad : Element
  pub after : List Element
  pub are : es ≡ before ++ (bad ∷ after)
  pub no_content : OtherContent bad → ⊥
  pub earlier : List Obligation
  pub later : List Obligation
  pub are_places : places_of bad ≡ earlier ++ later
  pub one_more : length earlier < bad.obligations
  pub lines : FileLines header (before ++ (with_obligations earlier bad ∷ []))
  pub number : Lowest n (obligation_rows bad.kind earlier later)
  pub second : m ≡ suc (length lines.rows)

-- Then 9, no tree line; 1, the file to be written exceeds 16,384 bytes; 11, text buffer too short
abbrev pub BadFile : (room elements size n m : ℕ) → Type 0
BadFile room elements size n m = ((elements ≡ 0) × (n ≡ 9) × (m ≡ 0))
    ⊎ (((1 ≤ elements) × (16384 < size) × (n ≡ 1) × (m ≡ 0))
    ⊎ ((1 ≤ elements) × (size ≤ 16384) × (room < size) × (n ≡ 11) × (m ≡ size)))

-- The writer tests the attribute lines, 1 first, then each element and its obligations, then 9, 1, 11
abbrev pub RefusesToWrite : (room : ℕ) → Bytes → List Element → ℕ → ℕ → Type 0
RefusesToWrite room header es n m = ((16384 < length header) × (n ≡ 1) × (m ≡ 0))
    ⊎ (((length header ≤ 16384) × BadAttributeLine header n m)
    ⊎ (BadElement header es n m
    ⊎ (BadObligation header es n m
    ⊎ ((file : FileLines header es) × BadFile room (length es) (length (gathered line file.rows)) n m))))
