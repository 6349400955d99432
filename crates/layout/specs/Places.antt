-- Where attributes and elements stand in a file, and what the definitions make of the places.
use Rattle.std.specs.Prelude.{ℕ, zero, suc, ◌+◌, ◌-◌, ◌≤◌, ◌<◌, Bool, true, false, cond, List, [], ◌∷◌, map, ◌≡◌, ◌≢◌, eqb, length, take, drop, get_or, set, replicate, Option, Some, None}
use Rattle.meaning.specs.declared.Kind.{Kind}
use Rattle.meaning.specs.declared.Kind.TheVariants.{Set, Policy, Rule}
use Rattle.meaning.specs.declared.Word.{Word}
use Rattle.meaning.specs.declared.Word.TheVariants.{Permit, Deny}
use Rattle.meaning.specs.declared.Obligation.{Obligation}
use Rattle.meaning.specs.declared.Element.{Element}
use Rattle.meaning.specs.Text.{Bytes, same, same_name, cut, tab, newline}
use Rattle.meaning.specs.Model.{Attribute, padded, unused, with_obligations, letter_text, choices_of}
use Rattle.meaning.specs.Joining.{declared, place_in}
use Rattle.table.specs.declared.Row.{Row}
use Rattle.table.specs.Rows.{element_at}
use Rattle.layout.specs.declared.AttributePlace.{AttributePlace}
use Rattle.layout.specs.declared.Attributes.{Attributes}
use Rattle.layout.specs.declared.Span.{Span}
use Rattle.layout.specs.declared.ElementPlaces.{ElementPlaces}

-- the bytes from a up to b
abbrev pub part : Bytes → ℕ → ℕ → Bytes
part f a b = take (b - a) (drop a f)

-- where attribute i stands
abbrev pub nowhere : AttributePlace
nowhere = record { several = false; name = 0; values = 0; end = 0; count = 0 }

abbrev pub place_at : Attributes → ℕ → AttributePlace
place_at a i = get_or a.all i nowhere

-- its values, parted by tabs, up to the line's end
abbrev pub values_in : Bytes → Attributes → ℕ → Bytes
values_in f a i = part f (place_at a i).values (place_at a i).end

-- Attribute i: whether it may have several values in a request, its name, which a tab ends, and its values
abbrev pub attribute_at : Bytes → Attributes → ℕ → Attribute
attribute_at f a i =
    record {
      several = (place_at a i).several;
      name = part f (place_at a i).name ((place_at a i).values - 1);
      values = cut tab (values_in f a i);
    }

-- n attributes from i on
unfoldable pub attributes_from : Bytes → Attributes → ℕ → ℕ → List Attribute
attributes_from f a i zero = []
attributes_from f a i (suc n) = attribute_at f a i ∷ attributes_from f a (i + 1) n

abbrev pub attributes_of : Bytes → Attributes → List Attribute
attributes_of f a = attributes_from f a 0 a.len

-- the places of an attribute lie in the file, and its count is that of its values
pub record Standing (f : Bytes) (a : Attributes) (i : ℕ) : Type 0 where
  pub name : (place_at a i).name < (place_at a i).values
  pub line : (place_at a i).values ≤ (place_at a i).end
  pub inside : (place_at a i).end ≤ length f
  pub count : (place_at a i).count ≡ length (cut tab (values_in f a i))

pub record AllStanding (f : Bytes) (a : Attributes) : Type 0 where
  pub few : a.len ≤ 6
  pub each : (i : ℕ) → i < a.len → Standing f a i

-- the place of the first attribute that has this name
abbrev pub place_named : List Attribute → Bytes → Option ℕ
place_named attrs n = cond (declared attrs n) (Some (place_in attrs n)) None

-- how many values each attribute has
abbrev pub value_counts : List Attribute → List ℕ
value_counts attrs = map (λ a. length a.values) attrs

-- at most 16 each
abbrev pub FewValues : Attributes → Type 0
FewValues a = (i : ℕ) → i < a.len → (place_at a i).count ≤ 16

-- how many choices n attributes from i on have in the space; and all, with zeros behind them
unfoldable pub sizes_from : Attributes → ℕ → ℕ → List ℕ
sizes_from a i zero = []
sizes_from a i (suc n) = choices_of (place_at a i).several (place_at a i).count ∷ sizes_from a (i + 1) n

unfoldable pub sizes_of : Attributes → List ℕ
sizes_of a = padded 6 (sizes_from a 0 a.len)

-- whether each may have several values in a request, and how many values it has
abbrev pub severals_at : Attributes → List Bool
severals_at a = map (λ p. p.several) a.all

abbrev pub counts_at : Attributes → List ℕ
counts_at a = map (λ p. p.count) a.all

-- no attribute; and one more behind those that are there
abbrev pub no_attributes : Attributes
no_attributes = record { all = replicate 6 nowhere; len = 0 }

abbrev pub added : Attributes → AttributePlace → Attributes
added a p = record { all = set a.all a.len p; len = a.len + 1 }

-- A kind, by the first byte of its line
abbrev pub kind_at : ℕ → Kind
kind_at b = cond (eqb b 83) Set (cond (eqb b 80) Policy Rule)

-- Element i: `places` says where it stands, the start of its line and the end of its name, which starts at byte 4 of the
-- line; `table` has a row
abbrev pub no_name : Span
no_name = record { start = 0; end = 0 }

abbrev pub no_places : ElementPlaces
no_places = record { start = 0; name_end = 0; first = no_name; second = no_name }

abbrev pub places_at : List ElementPlaces → ℕ → ElementPlaces
places_at places i = get_or places i no_places

abbrev pub start_of : List ElementPlaces → ℕ → ℕ
start_of places i = (places_at places i).start

abbrev pub name_end : List ElementPlaces → ℕ → ℕ
name_end places i = (places_at places i).name_end

abbrev pub name_in : Bytes → List ElementPlaces → ℕ → Bytes
name_in f places i = part f (start_of places i + 4) (name_end places i)

-- Its obligations: where the names of both start and end; an end of 0 is none. Behind the tab that ends a name stands the
-- effect, told by its first byte
abbrev pub obligation_place : ElementPlaces → ℕ → Span
obligation_place p zero = p.first
obligation_place p (suc k) = p.second

abbrev pub obligation_start : List ElementPlaces → ℕ → ℕ → ℕ
obligation_start places i k = (obligation_place (places_at places i) k).start

abbrev pub obligation_end : List ElementPlaces → ℕ → ℕ → ℕ
obligation_end places i k = (obligation_place (places_at places i) k).end

-- the places with those of the line and the name of element i put there
abbrev pub with_name : List ElementPlaces → ℕ → (start end : ℕ) → List ElementPlaces
with_name places i start end =
    let p = places_at places i in
    set places i (record { start = start; name_end = end; first = p.first; second = p.second })

-- and with those of the name of its obligation k
abbrev pub obliging_at : ElementPlaces → ℕ → Span → ElementPlaces
obliging_at p zero name = record { start = p.start; name_end = p.name_end; first = name; second = p.second }
obliging_at p (suc k) name = record { start = p.start; name_end = p.name_end; first = p.first; second = name }

abbrev pub with_obligation : List ElementPlaces → ℕ → ℕ → Span → List ElementPlaces
with_obligation places i k name = set places i (obliging_at (places_at places i) k name)

abbrev pub effect_at : ℕ → Word
effect_at b = cond (eqb b 112) Permit Deny

abbrev pub obligation_in : Bytes → (start end : ℕ) → Obligation
obligation_in f start end =
    let name = part f start end in
    record { name = padded 16 name; len = length name; word = effect_at (get_or f (end + 1) 0) }

abbrev pub obligation_at : Bytes → List ElementPlaces → ℕ → ℕ → Obligation
obligation_at f places i k = obligation_in f (obligation_start places i k) (obligation_end places i k)

unfoldable pub obligations_in : Bytes → List ElementPlaces → ℕ → List Obligation
obligations_in f places i =
    let second = cond (eqb (obligation_end places i 1) 0) [] (obligation_at f places i 1 ∷ []) in
    cond (eqb (obligation_end places i 0) 0) [] (obligation_at f places i 0 ∷ second)

-- how many they are
unfoldable pub count_at : ElementPlaces → ℕ
count_at p = cond (eqb p.first.end 0) 0 (cond (eqb p.second.end 0) 1 2)

abbrev pub obligation_count : List ElementPlaces → ℕ → ℕ
obligation_count places i = count_at (places_at places i)

unfoldable pub element_in : Bytes → List Row → List ElementPlaces → ℕ → Element
element_in f table places i =
    with_obligations (obligations_in f places i)
    (record {
      kind = kind_at (get_or f (start_of places i) 0);
      depth = (element_at table i).depth;
      name = padded 16 (name_in f places i);
      len = length (name_in f places i);
      word = (element_at table i).word;
      masks = (element_at table i).masks;
      obligations = 0;
      first = unused;
      second = unused;
    })

-- the first n elements and their names, the nearest first
unfoldable pub elements_to : Bytes → List Row → List ElementPlaces → ℕ → List Element
elements_to f table places zero = []
elements_to f table places (suc n) = element_in f table places n ∷ elements_to f table places n

unfoldable pub names_to : Bytes → List ElementPlaces → ℕ → List Bytes
names_to f places zero = []
names_to f places (suc n) = name_in f places n ∷ names_to f places n

-- element i has this name, letter case aside
abbrev pub has_name : Bytes → List ElementPlaces → Bytes → ℕ → Bool
has_name f places name i = same_name name (name_in f places i)

-- the places of n elements lie in the file
pub record Named (f : Bytes) (places : List ElementPlaces) (n : ℕ) : Type 0 where
  pub room : n ≤ length places
  pub starts : (i : ℕ) → i < n → start_of places i + 4 ≤ name_end places i
  pub ends : (i : ℕ) → i < n → name_end places i ≤ length f

-- element i has a name of at most 16 bytes in the file
pub record NameAt (f : Bytes) (places : List ElementPlaces) (i : ℕ) : Type 0 where
  pub room : i < length places
  pub starts : start_of places i + 4 ≤ name_end places i
  pub ends : name_end places i ≤ length f
  pub short : name_end places i ≤ start_of places i + 4 + 16

-- the obligations of element i lie in the file, with names of at most 16 bytes
pub record Obliged (f : Bytes) (places : List ElementPlaces) (i : ℕ) : Type 0 where
  pub room : i < length places
  pub starts : (k : ℕ) → k < 2 → obligation_start places i k ≤ obligation_end places i k
  pub ends : (k : ℕ) → k < 2 → obligation_end places i k ≢ 0 → obligation_end places i k + 1 < length f
  pub short : (k : ℕ) → k < 2 → obligation_end places i k ≤ obligation_start places i k + 16
  pub in_order : obligation_end places i 0 ≡ 0 → obligation_end places i 1 ≡ 0

-- and from element n on there are none
abbrev pub Clear : List ElementPlaces → ℕ → Type 0
Clear places n = (i k : ℕ) → n ≤ i → k < 2 → (obligation_start places i k ≡ 0) × (obligation_end places i k ≡ 0)

-- each of at most 64 elements has
pub record Naming (f : Bytes) (places : List ElementPlaces) (n : ℕ) : Type 0 where
  pub few : n ≤ 64
  pub each : (i : ℕ) → i < n → NameAt f places i

-- where line k of a file starts, counted from 0: behind the newline that ends the line before it
unfoldable pub line_start : Bytes → ℕ → ℕ
line_start f zero = 0
line_start f (suc k) = line_start f k + length (get_or (cut newline (drop (line_start f k) f)) 0 []) + 1

-- where the attribute of a line stands, by the line's place, its name and how many fields it has
abbrev pub line_place : (at end : ℕ) (several : Bool) (name : Bytes) (fields : ℕ) → AttributePlace
line_place at end several name fields = record { several = several; name = at + 2; values = at + 3 + length name; end = end; count = fields - 2 }

-- where the attributes of the first n lines of a file stand
unfoldable pub placed : Bytes → ℕ → Attributes
placed f zero = no_attributes
placed f (suc n) =
    let before = placed f n in
    let at = line_start f n in
    let end = line_start f (suc n) - 1 in
    let fields = cut tab (part f at end) in
    added before (line_place at end (same (get_or fields 0 []) (letter_text true)) (get_or fields 1 []) (length fields))

-- how many lines the first n elements have: one each, and one for each obligation
unfoldable pub lines_to : List ElementPlaces → ℕ → ℕ
lines_to places zero = 0
lines_to places (suc n) = lines_to places n + suc (obligation_count places n)

-- So many attributes have a line each, and n elements behind them their lines; the next line starts at `at`
pub record Lined (start : ℕ → ℕ) (places : List ElementPlaces) (attributes n at : ℕ) : Type 0 where
  pub next : at ≡ start (attributes + lines_to places n)
  pub starts : (i : ℕ) → i < n → start_of places i ≡ start (attributes + lines_to places i)
