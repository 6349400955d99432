-- A line at a place, and what reading a file gives.
use Rattle.std.specs.Prelude.{ℕ, ◌+◌, ◌≤◌, ◌<◌, cond, List, [], reverse, Result as Told, Ok, Err, ◌≡◌, eqb, length, drop, get_or}
use Rattle.meaning.specs.Text.{Bytes, cut, tab, newline}
use Rattle.meaning.specs.Model.{Policy, space, Result, refused, given}
use Rattle.meaning.specs.Reading.{read}
use Rattle.table.specs.declared.Row.{Row}
use Rattle.table.specs.declared.Shape.{Shape}
use Rattle.layout.specs.declared.ElementPlaces.{ElementPlaces}
use Rattle.layout.specs.Places.{part, attributes_of, severals_at, sizes_of, elements_to, Obliged, line_start, placed, Lined}
use Rattle.attribute_lines.specs.declared.State.{State}
use Rattle.reader.specs.declared.Policy.{Policy as PolicyRead}
use Rattle.refusals.specs.declared.Refusal.TheVariants.{BadLine, NoElement}
use Rattle.refusals.specs.declared.Refused.{Refused}
use Rattle.refusals.specs.Numbers.{answer_of}
use Rattle.attribute_lines.specs.Sofar.{CountIs}
use Rattle.attribute_lines.specs.Steps.{Spaced, Rooms}
use Rattle.reader.specs.Laid.{laid_in}

-- the line at a place: its end, and how many fields it has where a newline ends it, else 0
pub record LineAt (f : Bytes) (at end fields : ℕ) : Type 0 where
  pub all_of_it : end ≡ at + length (get_or (cut newline (drop at f)) 0 [])
  pub starts : at ≤ end
  pub inside : end ≤ length f
  pub count : end < length f → CountIs (cut tab (part f at end)) fields
  pub unended : length f ≤ end → fields ≡ 0

-- the shape of a policy that was read
abbrev pub policy_shape : PolicyRead → Shape
policy_shape r = record { n = r.elements; several = severals_at r.attributes; counts = sizes_of r.attributes; len = r.attributes.len; space = r.space }

-- what is told behind the last newline, of a file that ends at `end`
abbrev pub ended_at : State → ℕ → Told PolicyRead Refused
ended_at st end =
    cond
    (eqb st.at end)
    (cond
    (eqb st.tree.len 0)
    (Err (record { why = NoElement; second = 0 }))
    (Ok (record { attributes = st.attributes; space = st.space; elements = st.tree.len })))
    (Err (record { why = BadLine; second = st.line }))

-- A file: its refusal, with small numbers; or the policy, by the places and the table
pub record ReadRefusal (n m : ℕ) (r : Refused) : Type 0 where
  pub is : answer_of r ≡ record { number = n; second = m }
  pub low : n ≤ 14
  pub small : m ≤ 16385

pub record ReadPolicy (f : List ℕ) (table : List Row) (places : List ElementPlaces) (r : PolicyRead) (p : Policy) : Type 0 where
  pub attributes : p.attributes ≡ attributes_of f r.attributes
  pub elements : p.elements ≡ reverse (elements_to f table places r.elements)
  pub space_is : r.space ≡ space (attributes_of f r.attributes)
  pub spaced : Spaced f r.attributes
  pub some : 1 ≤ r.elements
  pub rooms : Rooms f table places r.elements
  pub lined : Lined (line_start f) places r.attributes.len r.elements (length f)
  pub places_are : r.attributes ≡ placed f r.attributes.len
  pub obliged : (i : ℕ) → i < r.elements → Obliged f places i

abbrev pub ReadAs : List ℕ → List Row → List ElementPlaces → Told PolicyRead Refused → Result Policy → Type 0
ReadAs f table places (Err r) (refused n m) = ReadRefusal n m r
ReadAs f table places (Err r) (given p) = ⊥
ReadAs f table places (Ok r) (refused n m) = ⊥
ReadAs f table places (Ok r) (given p) = ReadPolicy f table places r p

-- and what it laid down in the table and the places that were lent
pub record ReadIs (f : List ℕ) (table₀ : List Row) (places₀ : List ElementPlaces) (table : List Row) (places : List ElementPlaces) (r : Told PolicyRead Refused) : Type 0 where
  pub answer : ReadAs f table places r (read f)
  pub table_is : table ≡ (laid_in f table₀ places₀).table
  pub places_are : places ≡ (laid_in f table₀ places₀).places
