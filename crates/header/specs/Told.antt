-- What reading attribute lines gives.
use Rattle.std.specs.Prelude.{ℕ, ◌≤◌, ◌≡◌, [], length, Ok, Err}
use Rattle.std.specs.Prelude.{Result as Outcome}
use Rattle.meaning.specs.Text.{Bytes}
use Rattle.meaning.specs.Model.{Result, refused, given}
use Rattle.meaning.specs.Reading.{Sofar}
use Rattle.refusals.specs.declared.Refused.{Refused}
use Rattle.refusals.specs.Numbers.{answer_of}
use Rattle.layout.specs.declared.Attributes.{Attributes}
use Rattle.layout.specs.Places.{attributes_of, placed}
use Rattle.attribute_lines.specs.Steps.{Spaced}

-- Attribute lines: their refusal, with small numbers; or the attributes, by their places
pub record HeaderRefused (n m : ℕ) (r : Refused) : Type 0 where
  pub is : answer_of r ≡ record { number = n; second = m }
  pub low : n ≤ 14
  pub small : m ≤ 16385

pub record HeaderHolds (h : Bytes) (a : Attributes) (s : Sofar) : Type 0 where
  pub attributes : s.attributes ≡ attributes_of h a
  pub places_are : a ≡ placed h a.len
  pub no_element : s.before ≡ []
  pub spaced : Spaced h a
  pub size : length h ≤ 16384

abbrev pub HeaderAs : Bytes → Outcome Attributes Refused → Result Sofar → Type 0
HeaderAs h (Err r) (refused n m) = HeaderRefused n m r
HeaderAs h (Ok a) (given s) = HeaderHolds h a s
HeaderAs h (Err r) (given s) = ⊥
HeaderAs h (Ok a) (refused n m) = ⊥
