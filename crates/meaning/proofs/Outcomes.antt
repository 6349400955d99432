-- Which obligations come with a decision, by each algorithm: on elements with obligations; cases, computed.
use mathlib.Core.Path.{◌≡◌, refl}
use Prim.Native.Nat.{ℕ, suc}
use Prim.Native.String.{String, ◌++◌ as ◌and◌}
use mathlib.Core.Bool.{true, false}
use mathlib.Core.List.{List, [], ◌∷◌, ◌++◌}
use lib.ListN.{length}
use Rattle.meaning.specs.Text.{bytes}
use Rattle.meaning.specs.Model.{Kind, set, policy, rule, Word, deny_overrides, permit_overrides, first_applicable, only_one_applicable, Decision, not_applicable, indeterminate, Attribute, Obligation, Element, padded, made, with_obligations, Policy}
use Rattle.meaning.specs.Deciding.{same_outcome, outcome}

-- One attribute of two values, a and b: request 0 has a, request 1 has b; a mask of 3 is of both
abbrev attribute : Attribute
attribute = record { several = false; name = bytes "x"; values = bytes "a" ∷ bytes "b" ∷ [] }

abbrev file_of : List Element → Policy
file_of es = record { attributes = attribute ∷ []; elements = es }

abbrev with : Word → String → Obligation
with w n = record { name = padded 16 (bytes n); len = length (bytes n); word = w }

abbrev element : Kind → ℕ → String → Word → ℕ → List Obligation → Element
element k d n w m os = with_obligations os (made k d (bytes n) w (m ∷ []))

-- an obligation of each word, told apart by their first letter
abbrev both : String → List Obligation
both n = with Word.Permit ("p-" and n) ∷ with Word.Deny ("d-" and n) ∷ []

abbrev top : Word → Element
top w = element set 0 "top" w 3 (both "top")

-- at depth d: a policy that gives an effect to the requests of a mask; and a set with two policies that match, so indeterminate
abbrev gives : ℕ → Word → ℕ → String → List Element
gives d effect m n = element policy d n deny_overrides m (both n) ∷ element rule (suc d) n effect 3 [] ∷ []

abbrev torn : List Element
torn = element set 1 "torn" only_one_applicable 3 (both "torn") ∷ gives 2 Word.Permit 3 "l" ++ gives 2 Word.Deny 3 "r"

abbrev permits : String → List Element
permits n = gives 1 Word.Permit 3 n

abbrev denies : String → List Element
denies n = gives 1 Word.Deny 3 n

-- on request 1 alone
abbrev elsewhere : String → List Element
elsewhere n = gives 1 Word.Permit 2 n

-- On a request some elements give a decision with this text; or two lists of elements give outcomes that are the same, or not
pub data Case : Type 0 where
  gets : List Element → ℕ → Decision → String → Case
  alike : List Element → List Element → Case
  other : List Element → List Element → Case

abbrev pub Holds : Case → Type 0
Holds (gets es n d t) = outcome (file_of es) n ≡ record { decision = d; obligations = bytes t }
Holds (alike es fs) = same_outcome (outcome (file_of es) 0) (outcome (file_of fs) 0) ≡ true
Holds (other es fs) = same_outcome (outcome (file_of es) 0) (outcome (file_of fs) 0) ≡ false

abbrev pub Each : List Case → Type 0
Each [] = Unit {0}
Each (c ∷ cs) = Holds c × Each cs

-- a policy that permits, with these obligations
abbrev obliging : String → List Obligation → List Element
obliging n os = element policy 1 n deny_overrides 3 os ∷ element rule 2 n Word.Permit 3 [] ∷ []

abbrev pub cases : List Case
cases =
    -- deny-overrides: up to the first deny; up to an indeterminate child, below which nothing gave deny; else all that permit
    gets (top deny_overrides ∷ permits "a" ++ denies "b" ++ denies "c") 0 Decision.Deny "d-top\nd-b\n"
    ∷ gets (top deny_overrides ∷ permits "a" ++ torn ++ denies "c") 0 Decision.Deny "d-top\n"
    ∷ gets (top deny_overrides ∷ permits "a" ++ elsewhere "b" ++ permits "c") 0 Decision.Permit "p-top\np-a\np-c\n"
    -- permit-overrides: up to the first permit; else all that deny, in file order; else indeterminate, with none
    ∷ gets (top permit_overrides ∷ denies "a" ++ permits "b" ++ permits "c") 0 Decision.Permit "p-top\np-b\n"
    ∷ gets (top permit_overrides ∷ denies "a" ++ torn ++ denies "c") 0 Decision.Deny "d-top\nd-a\nd-c\n"
    ∷ gets (top permit_overrides ∷ torn ++ elsewhere "b") 0 indeterminate ""
    -- first-applicable: the first that isn't not-applicable
    ∷ gets (top first_applicable ∷ elsewhere "a" ++ denies "b" ++ denies "c") 0 Decision.Deny "d-top\nd-b\n"
    ∷ gets (top first_applicable ∷ elsewhere "a" ++ denies "b" ++ denies "c") 1 Decision.Permit "p-top\np-a\n"
    ∷ gets (top first_applicable ∷ torn ++ denies "b") 0 indeterminate ""
    -- only-one-applicable: a sole matching child, wherever it stands; where two match none is asked
    ∷ gets (top only_one_applicable ∷ elsewhere "a" ++ denies "b" ++ elsewhere "c") 0 Decision.Deny "d-top\nd-b\n"
    ∷ gets (top only_one_applicable ∷ elsewhere "a" ++ permits "b") 1 indeterminate ""
    -- not-applicable comes with none
    ∷ gets (top deny_overrides ∷ elsewhere "a") 0 not_applicable ""
    -- below an element that gave another decision nothing comes, and below each that gave it, in file order
    ∷ gets (top deny_overrides ∷ element set 1 "s" permit_overrides 3 (both "s") ∷ gives 2 Word.Deny 3 "a" ++ gives 2 Word.Permit 3 "b" ++ gives 2 Word.Permit 3 "c" ++ permits "d") 0 Decision.Permit "p-top\np-s\np-b\np-d\n"
    ∷ gets (top permit_overrides ∷ element set 1 "s" deny_overrides 3 (both "s") ∷ gives 2 Word.Permit 3 "a" ++ gives 2 Word.Deny 3 "b" ++ permits "c") 0 Decision.Permit "p-top\np-c\n"
    -- a name twice; both obligations of one element, in their order
    ∷ gets (top deny_overrides ∷ permits "a" ++ permits "a") 0 Decision.Permit "p-top\np-a\np-a\n"
    ∷ gets (top deny_overrides ∷ obliging "a" (with Word.Permit "slow" ∷ with Word.Permit "log" ∷ [])) 0 Decision.Permit "p-top\nslow\nlog\n"
    -- the same names from other elements are the same; names that differ in letter case, or in order, are not
    ∷ alike (top deny_overrides ∷ obliging "a" (with Word.Permit "log" ∷ []) ++ obliging "b" []) (top deny_overrides ∷ obliging "a" [] ++ obliging "b" (with Word.Permit "log" ∷ []))
    ∷ other (top deny_overrides ∷ obliging "a" (with Word.Permit "log" ∷ [])) (top deny_overrides ∷ obliging "a" (with Word.Permit "Log" ∷ []))
    ∷ other (top deny_overrides ∷ obliging "a" (with Word.Permit "log" ∷ with Word.Permit "slow" ∷ [])) (top deny_overrides ∷ obliging "a" (with Word.Permit "slow" ∷ with Word.Permit "log" ∷ []))
    ∷ []

pub outcomes : Each cases
outcomes = (refl, (refl, (refl, (refl, (refl, (refl, (refl, (refl, (refl, (refl, (refl, (refl, (refl, (refl, (refl, (refl, (refl, (refl, (refl, tt)))))))))))))))))))
