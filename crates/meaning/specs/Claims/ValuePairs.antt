-- Value pairs: what a tool lists for an `M` attribute.
use Rattle.std.specs.Prelude.{◌≡◌, ◌≢◌, ◌⊎◌, ℕ, ◌<◌, true, length}
use mathlib.Core.List.{List, [], ◌∷◌, ◌++◌, map, Memᴰ}
use Rattle.meaning.specs.Text.{Bytes, bytes, decimal}
use Rattle.meaning.specs.Model.{Attribute, Policy, sizes, decision_text}
use Rattle.meaning.specs.Deciding.{Request, number_of, decision_on}
use Rattle.meaning.specs.ValuePairs.{ValuePair}
use Rattle.meaning.specs.Claims.Texts.{Rising, EqualNames}
use Rattle.meaning.specs.Claims.Sets.{set_number}
use Rattle.meaning.specs.Claims.Requests.{Fits}
use Rattle.meaning.specs.Claims.ReportLines.{field_lines}

-- The `M` attribute that has a name, letter case aside, between those before and behind it
pub record NamedAttribute (attrs : List Attribute) (name : Bytes) : Type 0 where
  pub before : List Attribute
  pub attribute : Attribute
  pub behind : List Attribute
  pub in_file : attrs ≡ before ++ (attribute ∷ behind)
  pub is_several : attribute.several ≡ true
  pub has_name : EqualNames name attribute.name

module _ (p : Policy) {name : Bytes} (a : NamedAttribute p.attributes name) where
  -- A choice of the other attributes: those before it, and those behind it
  pub record Others : Type 0 where
    pub before : Request
    pub behind : Request
    pub before_fits : Fits (sizes a.before) before
    pub behind_fits : Fits (sizes a.behind) behind

  -- the number of the request that has these values of the attribute, and that choice of the others
  abbrev pub number_with : Others → List ℕ → ℕ
  number_with q vs = number_of (sizes p.attributes) (q.before ++ (set_number vs ∷ q.behind))

  -- Two of its values, with a choice of the others: the decision with both is another than with one of them alone
  pub record Differing (d : ValuePair) : Type 0 where
    pub others : Others
    pub earlier_value : ℕ
    pub later_value : ℕ
    pub in_order : earlier_value < later_value
    pub declared : later_value < length a.attribute.values
    pub request_is : d.request ≡ number_with others (earlier_value ∷ later_value ∷ [])
    pub with_both : d.both ≡ decision_on p (number_with others (earlier_value ∷ later_value ∷ []))
    pub with_earlier : d.earlier ≡ decision_on p (number_with others (earlier_value ∷ []))
    pub with_later : d.later ≡ decision_on p (number_with others (later_value ∷ []))
    pub differs : (d.both ≢ d.earlier) ⊎ (d.both ≢ d.later)

  -- A tool's list: exactly these, by rising number, so each once
  pub record PairsListed (listed : List ValuePair) : Type 0 where
    pub each_listed : (d : ValuePair) → Differing d → Memᴰ d listed
    pub no_other : (d : ValuePair) → Memᴰ d listed → Differing d
    pub rising : Rising (map (λ d. d.request) listed)

-- `D`, the pair's request, decision with both, with the earlier value, with the later
abbrev pub pair_row : ValuePair → List Bytes
pair_row d = bytes "D" ∷ decimal d.request ∷ decision_text d.both ∷ decision_text d.earlier ∷ decision_text d.later ∷ []

-- The text for a name: a line for each, and no other
pub record PairsNamed (p : Policy) (name : Bytes) (t : Bytes) : Type 0 where
  pub named : NamedAttribute p.attributes name
  pub listed : List ValuePair
  pub pairs : PairsListed p named listed
  pub rows : field_lines t ≡ map pair_row listed ++ (([] ∷ []) ∷ [])
