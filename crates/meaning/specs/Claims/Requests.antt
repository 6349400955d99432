-- Requests: their numbers and lines, and which targets they match.
use Rattle.std.specs.Prelude.{◌≡◌, ◌≢◌, ◌⊎◌, ◌↔◌, ℕ, zero, suc, ◌+◌, ◌%◌, ◌<◌, Bool, true, false, cond, length, get_or}
use mathlib.Core.List.{List, [], ◌∷◌, map, Memᴰ}
use Rattle.meaning.specs.Text.{Bytes, cut, join, tab, comma}
use Rattle.meaning.specs.Model.{Attribute, Element, Policy, choices, sizes, space, refused, given}
use Rattle.meaning.specs.Deciding.{Request, number_of, request_of, next_request, stepped, request_line, members, hits}
use Rattle.meaning.specs.Claims.Texts.{Paired, EqualNames}
use Rattle.meaning.specs.Claims.PolicyFile.{marks_mask}
use Rattle.meaning.specs.Claims.Sets.{SetOf, set_number}

-- One number for each attribute, counted from 0, below its count
abbrev pub Fits : List ℕ → Request → Type 0
Fits ss vs = Paired (λ s v. v < s) ss vs

-- the values that a request has at an attribute, by its number there: one at an `A`, a set at an `M`
abbrev pub held : Attribute → ℕ → List ℕ
held a v = cond a.several (members v) (v ∷ [])

-- v is the number of these values at an attribute: of one value at an `A`, of a set at an `M`
pub record Numbers (a : Attribute) (v : ℕ) (vs : List ℕ) : Type 0 where
  pub of_values : SetOf (length a.values) vs
  pub one_value : a.several ≡ false → vs ≡ v ∷ []
  pub a_set : a.several ≡ true → set_number vs ≡ v

-- As a line: for each attribute the names of its values, parted by commas; the fields parted by tabs
abbrev pub value_text : Attribute → ℕ → Bytes
value_text a v = join comma (map (λ w. get_or a.values w []) (held a v))

abbrev pub request_fields : List Attribute → Request → List Bytes
request_fields [] vs = []
request_fields (a ∷ attrs) [] = []
request_fields (a ∷ attrs) (v ∷ vs) = value_text a v ∷ request_fields attrs vs

abbrev pub request_text : List Attribute → Request → Bytes
request_text attrs q = join tab (request_fields attrs q)

-- a line names a request if its fields differ from these only in letter case
abbrev pub NamesRequest : List Attribute → Bytes → Request → Type 0
NamesRequest attrs r q = Paired EqualNames (cut tab r) (request_fields attrs q)

-- one request before another: a lower number at the first attribute at which they differ
abbrev pub Earlier : Request → Request → Type 0
Earlier [] r = ⊥
Earlier (v ∷ vs) [] = ⊥
Earlier (v ∷ vs) (w ∷ ws) = (v < w) ⊎ ((v ≡ w) × Earlier vs ws)

-- a field that is a value of its attribute, or at an `M` a set of them; field i is so of attribute i, both from 0
abbrev pub IsValue : Attribute → Bytes → Type 0
IsValue a f = (v : ℕ) × (v < choices a) × EqualNames f (value_text a v)

abbrev pub ValueAt : List Attribute → List Bytes → ℕ → Type 0
ValueAt [] fs i = ⊥
ValueAt (a ∷ attrs) [] i = ⊥
ValueAt (a ∷ attrs) (f ∷ fs) zero = IsValue a f
ValueAt (a ∷ attrs) (f ∷ fs) (suc i) = ValueAt attrs fs i

-- An attribute counts just the numbers of its values, or of their sets. Numbers below the space and requests, one for the
-- other, in order; the step by quotient and remainder is the next request: from each but the last the one numbered one
-- higher, from the last request 0; the lines that name each of them, and 10 for any other
pub record Numbered (attrs : List Attribute) : Type 0 where
  pub counted : (a : Attribute) → Memᴰ a attrs → (v : ℕ) → (v < choices a) ↔ ((vs : List ℕ) × Numbers a v vs)
  pub number_again : (n : ℕ) → n < space attrs → Fits (sizes attrs) (request_of (sizes attrs) n) × (number_of (sizes attrs) (request_of (sizes attrs) n) ≡ n)
  pub request_again : (q : Request) → Fits (sizes attrs) q → (number_of (sizes attrs) q < space attrs) × (request_of (sizes attrs) (number_of (sizes attrs) q) ≡ q)
  pub rising : (q r : Request) → Fits (sizes attrs) q → Fits (sizes attrs) r → Earlier q r → number_of (sizes attrs) q < number_of (sizes attrs) r
  pub next_number : (q : Request) → number_of (sizes attrs) (next_request (sizes attrs) q) ≡ (number_of (sizes attrs) q + 1) % space attrs
  pub next_fits : (q : Request) → Fits (sizes attrs) (next_request (sizes attrs) q)
  pub steps : (q : Request) → Fits (sizes attrs) q → stepped (sizes attrs) q ≡ next_request (sizes attrs) q
  pub one_higher : (n : ℕ) → n + 1 < space attrs → stepped (sizes attrs) (request_of (sizes attrs) n) ≡ request_of (sizes attrs) (n + 1)
  pub from_last : (n : ℕ) → n + 1 ≡ space attrs → stepped (sizes attrs) (request_of (sizes attrs) n) ≡ request_of (sizes attrs) 0
  pub to_line : (q : Request) → Fits (sizes attrs) q → request_line attrs (request_text attrs q) ≡ given q
  pub by_line : (r : Bytes) (q : Request) → request_line attrs r ≡ given q ↔ (Fits (sizes attrs) q × NamesRequest attrs r q)
  pub wrong_count : (r : Bytes) → length (cut tab r) ≢ length attrs → request_line attrs r ≡ refused 10 0
  pub no_value : (r : Bytes) (i : ℕ) → length (cut tab r) ≡ length attrs → i < length attrs
      → ((j : ℕ) → j < i → ValueAt attrs (cut tab r) j) → (ValueAt attrs (cut tab r) i → ⊥) → request_line attrs r ≡ refused 10 (suc i)

-- A request matches a target if at each attribute one of its values is in that field: marked in its mask
abbrev pub InField : ℕ → ℕ → Type 0
InField mask v = (marks : List Bool) × (mask ≡ marks_mask marks) × (get_or marks v false ≡ true)

abbrev pub Shares : Attribute → ℕ → ℕ → Type 0
Shares a mask v = (w : ℕ) × Memᴰ w (held a v) × InField mask w

abbrev pub InTarget : List Attribute → List ℕ → Request → Type 0
InTarget attrs ms [] = Unit {0}
InTarget [] ms (v ∷ vs) = ⊥
InTarget (a ∷ attrs) [] (v ∷ vs) = ⊥
InTarget (a ∷ attrs) (m ∷ ms) (v ∷ vs) = Shares a m v × InTarget attrs ms vs

abbrev pub Matched : Policy → Type 0
Matched p = (n : ℕ) → n < space p.attributes → (e : Element) → Memᴰ e p.elements → hits p n e ≡ true ↔ InTarget p.attributes e.masks (request_of (sizes p.attributes) n)
