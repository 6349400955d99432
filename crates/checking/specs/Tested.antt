-- The elements before a place of a list, and what testing the elements of a list gives.
use Rattle.std.specs.Prelude.{ℕ, zero, suc, ◌+◌, ◌≤◌, ◌<◌, cond, List, [], ◌∷◌, ◌≡◌, ltb, get_or, length, Option, Some, None, Ok, Err}
use Rattle.std.specs.Prelude.{Result as Outcome}
use Rattle.meaning.specs.declared.Kind.{Kind}
use Rattle.meaning.specs.declared.Kind.TheVariants.{Set}
use Rattle.meaning.specs.declared.Word.TheVariants.{Permit}
use Rattle.meaning.specs.declared.Obligation.{Obligation}
use Rattle.meaning.specs.declared.Element.{Element}
use Rattle.meaning.specs.Model.{Attribute, obligations_of, made, with_obligations, Result, refused, given, ◌then◌, unless}
use Rattle.meaning.specs.Reading.{Sofar, with_element}
use Rattle.meaning.specs.Writing.{read_obligations}
use Rattle.layout.specs.declared.Tree.{Tree}
use Rattle.layout.specs.Nearest.{Stands}
use Rattle.refusals.specs.declared.Refused.{Refused}
use Rattle.refusals.specs.Numbers.{number_of}

-- at most six attributes, with at most 16 values each
pub record FewValues (counts : List ℕ) (attributes : ℕ) : Type 0 where
  pub few : attributes ≤ 6
  pub few_values : (i : ℕ) → i < attributes → get_or counts i 0 ≤ 16

-- what a list gives at a place behind its end
abbrev pub no_place : Obligation
no_place = record { name = []; len = 0; word = Permit }

abbrev pub none : Element
none = record { kind = Set; depth = 0; name = []; len = 0; word = Permit; masks = []; obligations = 0; first = no_place; second = no_place }

-- the first n elements, the nearest first, each as it is taken, with its own obligations in their places; and what was read so far
-- where they stand behind some attributes
abbrev pub taken : Element → Element
taken e = with_obligations (obligations_of e) e

unfoldable pub earlier : List Element → ℕ → List Element
earlier es zero = []
earlier es (suc n) = taken (get_or es n none) ∷ earlier es n

abbrev pub behind : List Attribute → List Element → ℕ → Sofar
behind attrs es n = record { attributes = attrs; before = earlier es n }

-- what was read so far where the nearest element is of a kind and has these obligations
abbrev pub carrying : Kind → List Obligation → Sofar
carrying k os = record { attributes = []; before = with_obligations os (made k 0 [] Permit []) ∷ [] }

-- what is left of an element on line n once its own line has passed
abbrev pub obligations_read : ℕ → Sofar → Element → Result Sofar
obligations_read n s e =
    read_obligations (suc n) (with_element s (with_obligations [] e)) (obligations_of e) then λ t.
    unless (cond (ltb 2 e.obligations) 14 0) (n + 3) (given t)

-- their names lie in their 16 bytes
abbrev pub ShortNames : List Element → ℕ → Type 0
ShortNames es n = (i : ℕ) → i < n → (get_or es i none).len ≤ 16

-- a tree that stands for the first elements of a list, each of which has passed its tests
pub record Begun (all : List Element) (tree : Tree) : Type 0 where
  pub stands : Stands tree (earlier all tree.len)
  pub few : tree.len ≤ 64
  pub inside : tree.len ≤ length all
  pub shallow : tree.depth ≤ 7
  pub short_names : ShortNames all tree.len

-- the obligation before, if there is one
abbrev pub listed : Option Obligation → List Obligation
listed None = []
listed (Some o) = o ∷ []

-- the number and the line of a refusal; both are 0 where there is none
module _ {A : Type 0} where
  abbrev pub number_told : Outcome A Refused → ℕ
  number_told (Ok _) = 0
  number_told (Err r) = number_of r.why

  abbrev pub line_told : Outcome A Refused → ℕ
  line_told (Ok _) = 0
  line_told (Err r) = r.second

-- The elements of a list: the first refusal, with small numbers, or none. 6 attributes have a line each, 64 elements three
pub record RefusedAs (n m : ℕ) (r : Outcome (Unit {0}) Refused) : Type 0 where
  pub number : number_told r ≡ n
  pub line : line_told r ≡ m
  pub from_three : 3 ≤ n
  pub low : n ≤ 14
  pub small : m ≤ 199

pub record Passed (r : Outcome (Unit {0}) Refused) : Type 0 where
  pub number : number_told r ≡ 0
  pub line : line_told r ≡ 0

abbrev pub CheckedAs : Outcome (Unit {0}) Refused → Result Sofar → Type 0
CheckedAs r (refused n m) = RefusedAs n m r
CheckedAs r (given s) = Passed r
