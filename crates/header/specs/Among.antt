-- A state of the reader among attribute lines, and the step over one line.
use Rattle.std.specs.Prelude.{ℕ, ◌≡◌, List, [], replicate, OnOk, OnErr}
use Rattle.meaning.specs.Text.{Bytes, cut, tab}
use Rattle.meaning.specs.Reading.{Sofar}
use Rattle.meaning.specs.Writing.{header_tests}
use Rattle.refusals.specs.Numbers.{number_in}
use Rattle.table.specs.declared.Row.{Row}
use Rattle.table.specs.Rows.{no_row}
use Rattle.layout.specs.declared.ElementPlaces.{ElementPlaces}
use Rattle.layout.specs.Places.{part, no_places}
use Rattle.attribute_lines.specs.declared.State.{State}
use Rattle.attribute_lines.specs.Sofar.{refusal_by}
use Rattle.attribute_lines.specs.Steps.{Verdict, BeforeLine, Next, read_sofar}

-- the table and the places of no element: any with room will do
unfoldable pub no_rows : List Row
no_rows = replicate 64 no_row

unfoldable pub blank : List ElementPlaces
blank = replicate 64 no_places

abbrev pub sofar_at : Bytes → State → Sofar
sofar_at h st = read_sofar h no_rows blank st

pub record Among (h : Bytes) (st : State) : Type 0 where
  pub ready : BeforeLine h no_rows blank st
  pub no_element : (sofar_at h st).before ≡ []

-- One line, which a newline at `end` ends: the state behind it, or its refusal and the state as it was
pub record Past (h : Bytes) (st : State) (end : ℕ) (after : State) (r : Verdict) : Type 0 where
  pub refusal : number_in r ≡ refusal_by header_tests (sofar_at h st) (cut tab (part h st.at end))
  pub next : OnOk r (Next h no_rows blank no_rows blank st end after)
  pub stays : OnErr r (after ≡ st)
