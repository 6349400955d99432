-- What the functions ask of the attributes and the elements that they write.
use Rattle.std.specs.Prelude.{ℕ, ◌≤◌, ◌<◌, List, length, get_or}
use Rattle.meaning.specs.declared.Element.{Element}
use Rattle.meaning.specs.Text.{Bytes}
use Rattle.meaning.specs.Model.{obligations_of}
use Rattle.meaning.specs.Claims.Texts.{All}
use Rattle.layout.specs.declared.Attributes.{Attributes}
use Rattle.layout.specs.Places.{AllStanding, FewValues}
use Rattle.elements.specs.Listed.{blank}

-- attributes of at most 16 values each stand in attribute lines that are no longer than a file
pub record Headed (header : Bytes) (a : Attributes) : Type 0 where
  pub short : length header ≤ 16384
  pub standing : AllStanding header a
  pub few_values : FewValues a

-- the names of an element and of its obligations, at most two, have at most 16 bytes, and its depth is one digit
pub record Small (e : Element) : Type 0 where
  pub name : e.len ≤ 16
  pub depth : e.depth ≤ 7
  pub few_obligations : e.obligations ≤ 2
  pub obligations : All (λ o. o.len ≤ 16) (obligations_of e)

-- at most 64 such elements
pub record Writable (list : List Element) : Type 0 where
  pub few : length list ≤ 64
  pub each : (i : ℕ) → i < length list → Small (get_or list i blank)
