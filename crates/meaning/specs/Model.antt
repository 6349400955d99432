-- The policy: attributes and elements. What an operation gives, and the words of the file.
use Rattle.std.specs.Prelude.{ℕ, zero, suc, ◌*◌, ◌-◌, ◌^◌, Bool, true, false, cond, List, [], ◌∷◌, ◌++◌, map, length, take, get_or, replicate, ltb}
use Rattle.std.proofs.Math.Option.{Option, none, some}
pub use Rattle.meaning.specs.declared.Kind.{Kind}
pub use Rattle.meaning.specs.declared.Kind.TheVariants.{Set as set, Policy as policy, Rule as rule}
pub use Rattle.meaning.specs.declared.Word.{Word}
pub use Rattle.meaning.specs.declared.Word.TheVariants.{DenyOverrides as deny_overrides, PermitOverrides as permit_overrides, FirstApplicable as first_applicable, OnlyOneApplicable as only_one_applicable}
pub use Rattle.meaning.specs.declared.Decision.{Decision}
pub use Rattle.meaning.specs.declared.Decision.TheVariants.{NotApplicable as not_applicable, Indeterminate as indeterminate}
pub use Rattle.meaning.specs.declared.Obligation.{Obligation}
pub use Rattle.meaning.specs.declared.Element.{Element}
use Rattle.meaning.specs.Text.{Bytes, bytes}

-- In a request, an attribute of an `A` line has one value, one of an `M` line a set of one or several
pub record Attribute : Type 0 where
  pub several : Bool
  pub name : Bytes
  pub values : List Bytes

-- An element is the record of the lent list: zeros stand behind its name and behind its masks, one for each attribute
abbrev pub padded : ℕ → List ℕ → List ℕ
padded n xs = xs ++ replicate (n - length xs) 0

abbrev pub name_of : Element → Bytes
name_of e = take e.len e.name

-- Obligations, the paper's duties: an element has two places for them; an unused one is zero, with the word `permit`
abbrev pub obligation_name : Obligation → Bytes
obligation_name o = take o.len o.name

abbrev pub unused : Obligation
unused = record { name = padded 16 []; len = 0; word = Word.Permit }

abbrev pub places_of : Element → List Obligation
places_of e = e.first ∷ e.second ∷ []

abbrev pub obligations_of : Element → List Obligation
obligations_of e = take e.obligations (places_of e)

-- An element without obligations, of a name and masks
abbrev pub made : Kind → ℕ → Bytes → Word → List ℕ → Element
made k d n w ms =
    record {
      kind = k;
      depth = d;
      name = padded 16 n;
      len = length n;
      word = w;
      masks = padded 6 ms;
      obligations = 0;
      first = unused;
      second = unused;
    }

-- an element with these obligations in place of its own
abbrev pub with_obligations : List Obligation → Element → Element
with_obligations os e =
    record {
      kind = e.kind;
      depth = e.depth;
      name = e.name;
      len = e.len;
      word = e.word;
      masks = e.masks;
      obligations = length os;
      first = get_or os 0 unused;
      second = get_or os 1 unused;
    }

pub record Policy : Type 0 where
  pub attributes : List Attribute
  pub elements : List Element

-- all values: a bit for each
abbrev pub full : List Bytes → ℕ
full vs = (2 ^ length vs) - 1

-- The space: the product of the counts. An `A` of n values, at most 16, counts n; an `M`, at most 12, counts 2^n - 1
abbrev pub choices_of : (several : Bool) → ℕ → ℕ
choices_of several n = cond several (2 ^ n - 1) n

abbrev pub choices : Attribute → ℕ
choices a = choices_of a.several (length a.values)

abbrev pub most_values : (several : Bool) → ℕ
most_values several = cond several 12 16

abbrev pub sizes : List Attribute → List ℕ
sizes attrs = map choices attrs

abbrev pub severals : List Attribute → List Bool
severals attrs = map (λ a. a.several) attrs

abbrev pub product : List ℕ → ℕ
product [] = 1
product (n ∷ ns) = n * product ns

abbrev pub space : List Attribute → ℕ
space attrs = product (sizes attrs)

-- Refused with number and second number, or a result
pub data Result (A : Type 0) : Type 0 where
  refused : ℕ → ℕ → Result A
  given : A → Result A

infixl 20 ◌then◌
abbrev pub ◌then◌ : {A B : Type 0} → Result A → (A → Result B) → Result B
refused n m then f = refused n m
given a then f = f a

-- A refusal of number k on line n, where k is not 0; else what comes next
abbrev pub unless : {A : Type 0} → ℕ → ℕ → Result A → Result A
unless zero n r = r
unless (suc k) n r = refused (suc k) n

-- A refusal of number k with what is found; else what comes next
abbrev pub unless_found : {A : Type 0} → ℕ → Option ℕ → Result A → Result A
unless_found k none r = r
unless_found k (some n) r = refused k n

-- 11: a text for a buffer of so many bytes
abbrev pub fitted : ℕ → Bytes → Result Bytes
fitted room t = cond (ltb room (length t)) (refused 11 (length t)) (given t)

-- The letters and words of the file
abbrev pub letter_text : (several : Bool) → Bytes
letter_text false = bytes "A"
letter_text true = bytes "M"

-- the fields of an attribute line
abbrev pub attribute_fields : Attribute → List Bytes
attribute_fields a = letter_text a.several ∷ a.name ∷ a.values

abbrev pub kind_text : Kind → Bytes
kind_text set = bytes "S"
kind_text policy = bytes "P"
kind_text rule = bytes "R"

abbrev pub word_text : Word → Bytes
word_text Word.Permit = bytes "permit"
word_text Word.Deny = bytes "deny"
word_text deny_overrides = bytes "deny-overrides"
word_text permit_overrides = bytes "permit-overrides"
word_text first_applicable = bytes "first-applicable"
word_text only_one_applicable = bytes "only-one-applicable"

-- the words allowed for each kind
abbrev pub words : Kind → List Word
words rule = Word.Permit ∷ Word.Deny ∷ []
words policy = deny_overrides ∷ permit_overrides ∷ first_applicable ∷ []
words set = deny_overrides ∷ permit_overrides ∷ first_applicable ∷ only_one_applicable ∷ []

abbrev pub decision_text : Decision → Bytes
decision_text Decision.Permit = bytes "permit"
decision_text Decision.Deny = bytes "deny"
decision_text not_applicable = bytes "not-applicable"
decision_text indeterminate = bytes "indeterminate"
