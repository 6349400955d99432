-- The paper's section `The policy file`, said of a text and a policy: which texts are policy files, and of which policy.
use Rattle.std.specs.Prelude.{◌≡◌, ◌≢◌, ◌⊎◌, ◌↔◌, ℕ, suc, ◌+◌, ◌*◌, ◌-◌, ◌≤◌, Bool, true, false, cond, length, replicate}
use mathlib.Core.List.{List, [], ◌∷◌, ◌++◌, map, Memᴰ}
use Rattle.meaning.specs.Text.{Bytes, bytes, all, gathered, join, comma, line, is_name}
use Rattle.meaning.specs.Model.{Kind, set, policy, rule, Word, deny_overrides, permit_overrides, first_applicable, only_one_applicable, Decision, not_applicable, indeterminate, decision_text, Attribute, Obligation, Element, padded, name_of, obligation_name, unused, places_of, Policy, space, Result, given, letter_text, attribute_fields, kind_text, word_text}
use Rattle.meaning.specs.Claims.Texts.{All, Each, Paired, Among, DistinctNames}

-- Attribute line: `A`, name, then 1 to 16 value names; or `M`, with at most 12
pub record GoodAttribute (a : Attribute) : Type 0 where
  pub named : is_name a.name ≡ true
  pub values_named : all is_name a.values ≡ true
  pub distinct : DistinctNames a.values
  pub some_value : 1 ≤ length a.values
  pub few_values : length a.values ≤ cond a.several 12 16

-- The letters and the words of a file, and the words that a report has for decisions
pub record Spelled : Type 0 where
  pub attributes : map letter_text (false ∷ true ∷ []) ≡ bytes "A" ∷ bytes "M" ∷ []
  pub kinds : map kind_text (set ∷ policy ∷ rule ∷ []) ≡ bytes "S" ∷ bytes "P" ∷ bytes "R" ∷ []
  pub effects : map word_text (Word.Permit ∷ Word.Deny ∷ []) ≡ bytes "permit" ∷ bytes "deny" ∷ []
  pub algorithms : map word_text (deny_overrides ∷ permit_overrides ∷ first_applicable ∷ only_one_applicable ∷ [])
      ≡ bytes "deny-overrides" ∷ bytes "permit-overrides" ∷ bytes "first-applicable" ∷ bytes "only-one-applicable" ∷ []
  pub decisions : map decision_text (Decision.Permit ∷ Decision.Deny ∷ not_applicable ∷ indeterminate ∷ []) ≡ bytes "permit" ∷ bytes "deny" ∷ bytes "not-applicable" ∷ bytes "indeterminate" ∷ []

-- A target field by marks, one for each value: `*` if all are marked; else the marked values' names by commas, spelled and
-- ordered as declared, some and not all. Its mask has a bit for each mark, bit 0 for the first
abbrev pub marks_mask : List Bool → ℕ
marks_mask [] = 0
marks_mask (b ∷ bs) = cond b 1 0 + 2 * marks_mask bs

abbrev pub marked_of : List Bool → List Bytes → List Bytes
marked_of [] vs = []
marked_of (b ∷ bs) [] = []
marked_of (b ∷ bs) (v ∷ vs) = cond b (v ∷ marked_of bs vs) (marked_of bs vs)

pub record Target (vs : List Bytes) (field : Bytes) (mask : ℕ) : Type 0 where
  pub marks : List Bool
  pub one_each : length marks ≡ length vs
  pub is_mask : mask ≡ marks_mask marks
  pub is_field : (All (λ b. b ≡ true) marks × (field ≡ bytes "*")) ⊎ (Memᴰ true marks × Memᴰ false marks × (field ≡ join comma (marked_of marks vs)))

-- one target field for each attribute, in order
abbrev pub Targets : List Attribute → List Bytes → List ℕ → Type 0
Targets [] [] [] = Unit {0}
Targets [] [] (m ∷ ms) = ⊥
Targets [] (t ∷ ts) ms = ⊥
Targets (a ∷ attrs) [] ms = ⊥
Targets (a ∷ attrs) (t ∷ ts) [] = ⊥
Targets (a ∷ attrs) (t ∷ ts) (m ∷ ms) = Target a.values t m × Targets attrs ts ms

-- the words allowed for each kind
abbrev pub Allowed : Kind → Word → Type 0
Allowed rule w = (w ≡ Word.Permit) ⊎ (w ≡ Word.Deny)
Allowed policy w = (w ≡ deny_overrides) ⊎ ((w ≡ permit_overrides) ⊎ (w ≡ first_applicable))
Allowed set w = (w ≡ deny_overrides) ⊎ ((w ≡ permit_overrides) ⊎ ((w ≡ first_applicable) ⊎ (w ≡ only_one_applicable)))

-- Tree line: letter, depth, one digit 0 to 7, name, word, then the targets; zeros behind the name and behind the masks
pub record TreeLine (attrs : List Attribute) (fields : List Bytes) (e : Element) : Type 0 where
  pub name : Bytes
  pub targets : List Bytes
  pub masks : List ℕ
  pub are_fields : fields ≡ kind_text e.kind ∷ ((48 + e.depth) ∷ []) ∷ name ∷ word_text e.word ∷ targets
  pub shallow : e.depth ≤ 7
  pub is_name : is_name name ≡ true
  pub name_bytes : e.name ≡ padded 16 name
  pub name_length : e.len ≡ length name
  pub allowed : Allowed e.kind e.word
  pub targeted : Targets attrs targets masks
  pub element_masks : e.masks ≡ padded 6 masks

-- Obligation line: `O`, name, and `permit` or `deny`; zeros behind the name
pub record ObligationLine (fields : List Bytes) (o : Obligation) : Type 0 where
  pub name : Bytes
  pub are_fields : fields ≡ bytes "O" ∷ name ∷ word_text o.word ∷ []
  pub is_name : is_name name ≡ true
  pub name_bytes : o.name ≡ padded 16 name
  pub name_length : o.len ≡ length name
  pub called : obligation_name o ≡ name
  pub effect : Allowed rule o.word

-- An element's lines: its tree line and, directly behind that of an `S` or `P`, at most two lines of obligations, no two of equal
-- name. The element carries their count and two places; unused places are zero, with the word `permit`
pub record ElementLines (attrs : List Attribute) (rows : List (List Bytes)) (e : Element) : Type 0 where
  pub own : List Bytes
  pub behind : List (List Bytes)
  pub are : rows ≡ own ∷ behind
  pub tree_line : TreeLine attrs own e
  pub carried : List Obligation
  pub obligation_lines : Paired ObligationLine behind carried
  pub at_most_two : length carried ≤ 2
  pub none_on_rule : e.kind ≡ rule → carried ≡ []
  pub names_once : DistinctNames (map obligation_name carried)
  pub count : e.obligations ≡ length carried
  pub places : places_of e ≡ carried ++ replicate (2 - length carried) unused

abbrev pub TreeLines : List Attribute → List (List (List Bytes)) → List Element → Type 0
TreeLines attrs tree es = Paired (ElementLines attrs) tree es

-- An element's parent, the nearest earlier element of depth one less: an `S` for `S` and `P`, a `P` for `R`
abbrev pub parent_kind : Kind → Kind
parent_kind set = set
parent_kind policy = set
parent_kind rule = policy

pub record HasParent (before : List Element) (kind : Kind) (depth : ℕ) : Type 0 where
  pub nearer : List Element
  pub parent : Element
  pub farther : List Element
  pub among : before ≡ nearer ++ (parent ∷ farther)
  pub nearest : All (λ x. suc x.depth ≢ depth) nearer
  pub one_less : suc parent.depth ≡ depth
  pub right_kind : parent.kind ≡ parent_kind kind

-- The first element is an `S` or `P` at depth 0, the only one at depth 0; each later one is at most one deeper than the one before
abbrev pub PlacedAt : List Element → Kind → ℕ → Type 0
PlacedAt [] kind depth = (depth ≡ 0) × (kind ≢ rule)
PlacedAt (e ∷ before) kind depth = (1 ≤ depth) × (depth ≤ suc e.depth) × HasParent (e ∷ before) kind depth

abbrev pub Placed : List Element → Element → Type 0
Placed before e = PlacedAt before e.kind e.depth

-- its name is not used before
abbrev pub NewName : List Element → Element → Type 0
NewName before e = Among (name_of e) (map name_of before) → ⊥

-- Lines that break no rule, each by its fields: attribute lines, then each element's lines
abbrev pub attribute_names : List Attribute → List Bytes
attribute_names attrs = map (λ a. a.name) attrs

pub record GoodLines (rows : List (List Bytes)) (attrs : List Attribute) (es : List Element) : Type 0 where
  pub tree : List (List (List Bytes))
  pub are : rows ≡ map attribute_fields attrs ++ gathered (λ ls. ls) tree
  pub few_attributes : length attrs ≤ 6
  pub attributes_good : All GoodAttribute attrs
  pub attributes_distinct : DistinctNames (attribute_names attrs)
  pub small_space : space attrs ≤ 4096
  pub few_elements : length es ≤ 64
  pub some_attribute : 1 ≤ length es → 1 ≤ length attrs
  pub tree_lines : TreeLines attrs tree es
  pub placed : Each Placed [] es
  pub new_names : Each NewName [] es

-- A policy file f of policy p
pub record WellFormed (f : Bytes) (p : Policy) : Type 0 where
  pub size : length f ≤ 16384
  pub rows : List (List Bytes)
  pub text : f ≡ gathered line rows
  pub good : GoodLines rows p.attributes p.elements
  pub some_element : 1 ≤ length p.elements

-- A tool that reads: it accepts the policy files and no others, each as its policy
abbrev pub Reads : (Bytes → Result Policy) → Type 0
Reads tool = (f : Bytes) (p : Policy) → tool f ≡ given p ↔ WellFormed f p
