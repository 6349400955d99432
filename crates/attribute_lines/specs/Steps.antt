-- What a state of reading stands for, and what reading one line does.
use Rattle.std.specs.Prelude.{ℕ, ◌+◌, ◌-◌, ◌*◌, ◌≤◌, ◌<◌, Bool, List, [], ◌≡◌, length, drop, get_or, replicate, None, Result, OnOk, OnErr}
use Rattle.meaning.specs.Text.{Bytes, cut, tab, newline}
use Rattle.meaning.specs.Model.{space, choices_of}
use Rattle.meaning.specs.Reading.{line_of, Sofar}
use Rattle.refusals.specs.declared.Refusal.{Refusal}
use Rattle.refusals.specs.Numbers.{number_in}
use Rattle.table.specs.declared.Row.{Row}
use Rattle.table.specs.Rows.{Rows}
use Rattle.layout.specs.declared.Attributes.{Attributes}
use Rattle.layout.specs.declared.ElementPlaces.{ElementPlaces}
use Rattle.layout.specs.Places.{part, attributes_of, AllStanding, FewValues, no_attributes, added, elements_to, Named, Obliged, Clear, line_start, line_place, placed, Lined}
use Rattle.layout.specs.Nearest.{Stands}
use Rattle.attribute_lines.specs.declared.State.{State}
use Rattle.attribute_lines.specs.Sofar.{sofar_of, refusal_of, AttributeRefusal}
use Rattle.attribute_lines.specs.Laid.{Laid, with_line}

-- whether a line is refused, and as what
abbrev pub Verdict : Type 0
Verdict = Result (Unit {0}) Refusal

-- the attributes lie in the file, with at most 16 values each and a small space
pub record Spaced (f : Bytes) (a : Attributes) : Type 0 where
  pub standing : AllStanding f a
  pub few_values : FewValues a
  pub small : space (attributes_of f a) ≤ 4096

-- room for 64 elements and two obligations of each, of which n elements are there
pub record Rooms (f : Bytes) (table : List Row) (places : List ElementPlaces) (n : ℕ) : Type 0 where
  pub rows : Rows table 64
  pub pairs : 64 ≤ length places
  pub named : Named f places n

-- A state before a line: what it says of the file alone, and with the table and the places
pub record InFile (f : Bytes) (st : State) : Type 0 where
  pub inside : st.at ≤ length f
  pub lines_passed : st.line ≤ st.at + 1
  pub attributes : Spaced f st.attributes
  pub space_is : st.space ≡ space (attributes_of f st.attributes)
  pub shallow : st.tree.depth ≤ 7
  pub few : st.tree.len ≤ 64

pub record BeforeLine (f : Bytes) (table : List Row) (places : List ElementPlaces) (st : State) : Type 0 where
  pub in_file : InFile f st
  pub rooms : Rooms f table places st.tree.len
  pub tree : Stands st.tree (elements_to f table places st.tree.len)
  pub lined : Lined (line_start f) places st.attributes.len st.tree.len st.at
  pub places_are : st.attributes ≡ placed f st.attributes.len
  pub clear : Clear places st.tree.len
  pub obliged : (i : ℕ) → i < st.tree.len → Obliged f places i

-- the line at a state's place, which the newline at `end` ends
pub record EndedLine (f : Bytes) (st : State) (end : ℕ) : Type 0 where
  pub starts : st.at ≤ end
  pub ends : end < length f
  pub all_of_it : end ≡ st.at + length (get_or (cut newline (drop st.at f)) 0 [])

-- The state before the first line
abbrev pub beginning : State
beginning = record { at = 0; line = 1; attributes = no_attributes; space = 1; tree = record { len = 0; depth = 0; kinds = replicate 8 None } }

-- the state behind an attribute line of these fields, so many
abbrev pub behind_attribute : State → ℕ → (several : Bool) → List Bytes → ℕ → State
behind_attribute st end several fs fields =
    record {
      at = end + 1;
      line = st.line + 1;
      attributes = added st.attributes (line_place st.at end several (get_or fs 1 []) fields);
      space = st.space * choices_of several (fields - 2);
      tree = st.tree;
    }

-- an attribute line: its refusal and the state as it was, or the state behind it
pub record AttributeStep (f : Bytes) (st : State) (end : ℕ) (several : Bool) (fields : ℕ) (after : State) (r : Verdict) : Type 0 where
  pub refusal : AttributeRefusal f st.attributes st.space st.tree.len several (cut tab (part f st.at end)) fields (number_in r)
  pub state : OnOk r (after ≡ behind_attribute st end several (cut tab (part f st.at end)) fields)
  pub same_state : OnErr r (after ≡ st)

-- What was read before a state's line, and laid down
abbrev pub read_sofar : Bytes → List Row → List ElementPlaces → State → Sofar
read_sofar f table places st = sofar_of f st.attributes table places st.tree.len

abbrev pub laid_at : Bytes → List Row → List ElementPlaces → State → Laid
laid_at f table places st = record { sofar = read_sofar f table places st; table = table; places = places }

-- One line, which a newline at `end` ends: the state behind it, or its refusal and state, table and places as they were
pub record Next (f : List ℕ) (table₀ : List Row) (places₀ : List ElementPlaces) (table : List Row) (places : List ElementPlaces) (st : State) (end : ℕ) (next : State) : Type 0 where
  pub ready : BeforeLine f table places next
  pub at_next : next.at ≡ end + 1
  pub line_next : next.line ≡ st.line + 1
  pub laid : laid_at f table places next ≡ with_line st.at (laid_at f table₀ places₀ st) (line_of (cut tab (part f st.at end)))

pub record Stays (table₀ : List Row) (places₀ : List ElementPlaces) (table : List Row) (places : List ElementPlaces) (st after : State) : Type 0 where
  pub table_is : table ≡ table₀
  pub places_are : places ≡ places₀
  pub state_is : after ≡ st

pub record StepIs (f : List ℕ) (table₀ : List Row) (places₀ : List ElementPlaces) (table : List Row) (places : List ElementPlaces) (st : State) (end : ℕ) (after : State) (r : Verdict) : Type 0 where
  pub refusal : number_in r ≡ refusal_of (read_sofar f table₀ places₀ st) (cut tab (part f st.at end))
  pub next : OnOk r (Next f table₀ places₀ table places st end after)
  pub stays : OnErr r (Stays table₀ places₀ table places st after)
