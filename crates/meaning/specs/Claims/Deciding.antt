-- Decisions: which elements apply, and what each gives, by its children.
use Rattle.std.specs.Prelude.{◌≡◌, ◌≢◌, ◌⊎◌, ◌↔◌, ℕ, suc, ◌≤◌, ◌<◌, Bool, true, false, cond, ◌&&◌, length, get_or}
use mathlib.Core.List.{List, [], ◌∷◌, ◌++◌, map, Memᴰ}
use Rattle.std.proofs.Math.Option.{Option, none, some}
use Rattle.meaning.specs.Text.{Bytes, bytes, keep, gathered, same}
use Rattle.meaning.specs.Model.{Word, deny_overrides, permit_overrides, first_applicable, only_one_applicable, Decision, not_applicable, indeterminate, Element, obligation_name, obligations_of, Policy, sizes, space, Result, refused, given, word_text, decision_text}
use Rattle.meaning.specs.Deciding.{Request, number_of, request_of, request_line, Reply, asked, hits, Outcome, outcome, decision_on}
use Rattle.meaning.specs.Segments.{applying_to, depth_at, parent_of, children_of, decision_at}
use Rattle.meaning.specs.Claims.Texts.{Rising}
use Rattle.meaning.specs.Claims.Requests.{request_text}
use Rattle.meaning.specs.Claims.Standard.{standard}

-- An element's parent is the nearest earlier element of depth one less
pub record IsParent (es : List Element) (j i : ℕ) : Type 0 where
  pub earlier : i < j
  pub one_less : suc (depth_at es i) ≡ depth_at es j
  pub nearest : (k : ℕ) → i < k → k < j → suc (depth_at es k) ≢ depth_at es j

-- An element applies if its own target matches and its parent, where it has one, applies
abbrev pub parent_applies : List Bool → Option ℕ → Bool
parent_applies bs none = true
parent_applies bs (some j) = get_or bs j false

pub record Parented (p : Policy) : Type 0 where
  pub parents : (j i : ℕ) → (parent_of p.elements j ≡ some i) ↔ IsParent p.elements j i
  pub children_in_order : (i : ℕ) → Rising (children_of p.elements i)
  pub children : (i j : ℕ) → Memᴰ j (children_of p.elements i) ↔ ((j < length p.elements) × (parent_of p.elements j ≡ some i))
  pub one_each : (n : ℕ) → length (applying_to p n) ≡ length p.elements
  pub applies_below : (n i : ℕ) → i < length p.elements →
      get_or (applying_to p n) i false ≡ (get_or (map (hits p n) p.elements) i false && parent_applies (applying_to p n) (parent_of p.elements i))

-- Decisions are those of XACML 2.0: an element whose target does not match gives not-applicable, another what the standard's
-- algorithm gives on its children's replies; the file's decision is that of its first element, and a request gets it
abbrev pub reply_at : Policy → ℕ → ℕ → Reply
reply_at p n j = record { matched = get_or (map (hits p n) p.elements) j false; decision = decision_at p n j }

pub record Standardly (p : Policy) : Type 0 where
  pub each_element : (n i : ℕ) → i < length p.elements → decision_at p n i
      ≡ cond (get_or (map (hits p n) p.elements) i false) (standard (get_or (map (λ e. e.word) p.elements) i Word.Permit) (map (reply_at p n) (children_of p.elements i))) not_applicable
  pub of_first : (n : ℕ) → decision_on p n ≡ decision_at p n 0
  pub gets : (n : ℕ) → (outcome p n).decision ≡ decision_on p n

-- Children are asked in order up to the first that settles the answer: child k is asked if no child before it does; in
-- only-one-applicable just a sole matching child is asked
abbrev pub UpTo : (Decision → Type 0) → List Reply → ℕ → Type 0
UpTo Settles rs k = (k < length rs) × ((j : ℕ) → j < k → Settles (get_or (map (λ r. r.decision) rs) j not_applicable) → ⊥)

pub record AskedInOrder : Type 0 where
  pub deny_first : (rs : List Reply) (k : ℕ) → get_or (asked deny_overrides rs) k false ≡ true ↔ UpTo (λ d. (d ≡ Decision.Deny) ⊎ (d ≡ indeterminate)) rs k
  pub permit_first : (rs : List Reply) (k : ℕ) → get_or (asked permit_overrides rs) k false ≡ true ↔ UpTo (λ d. d ≡ Decision.Permit) rs k
  pub any_first : (rs : List Reply) (k : ℕ) → get_or (asked first_applicable rs) k false ≡ true ↔ UpTo (λ d. d ≢ not_applicable) rs k
  pub sole : (rs : List Reply) (k : ℕ) → get_or (asked only_one_applicable rs) k false ≡ true ↔ ((get_or (map (λ r. r.matched) rs) k false ≡ true) × (length (keep (λ r. r.matched) rs) ≡ 1))

-- Element j, a child of i, was asked among i's children, by i's word: up to the first child whose decision settles the
-- answer, or as the sole child whose target matches
abbrev pub NoneSettled : (Decision → Type 0) → Policy → ℕ → ℕ → ℕ → Type 0
NoneSettled Settles p n i j = (k : ℕ) → k < j → parent_of p.elements k ≡ some i → Settles (decision_at p n k) → ⊥

abbrev pub SoleMatch : Policy → ℕ → ℕ → ℕ → Type 0
SoleMatch p n i j = ((reply_at p n j).matched ≡ true) × ((k : ℕ) → k ≢ j → parent_of p.elements k ≡ some i → (reply_at p n k).matched ≡ true → ⊥)

abbrev pub Asked : Word → Policy → ℕ → ℕ → ℕ → Type 0
Asked Word.Permit p n i j = ⊥
Asked Word.Deny p n i j = ⊥
Asked deny_overrides p n i j = NoneSettled (λ d. (d ≡ Decision.Deny) ⊎ (d ≡ indeterminate)) p n i j
Asked permit_overrides p n i j = NoneSettled (λ d. d ≡ Decision.Permit) p n i j
Asked first_applicable p n i j = NoneSettled (λ d. d ≢ not_applicable) p n i j
Asked only_one_applicable p n i j = SoleMatch p n i j

-- the elements that are marked, in their order
abbrev pub marked_of : List Bool → List Element → List Element
marked_of [] es = []
marked_of (b ∷ bs) [] = []
marked_of (b ∷ bs) (e ∷ es) = cond b (e ∷ marked_of bs es) (marked_of bs es)

-- Obligations. A mark for each element says that it, with every element above it, was asked and gave the decision: the first
-- element's; a child's if its parent is marked, it was asked and it gave the decision. With the decision come, in file order,
-- the names of the marked elements' obligations whose word equals it, with a newline after each
pub record ObligationsGiven (p : Policy) (n : ℕ) : Type 0 where
  pub marks : List Bool
  pub one_each : length marks ≡ length p.elements
  pub first_marked : get_or marks 0 false ≡ true
  pub child_marked : (i j : ℕ) → parent_of p.elements j ≡ some i → j < length p.elements
      → get_or marks j false ≡ true ↔ ((get_or marks i false ≡ true) × Asked (get_or (map (λ e. e.word) p.elements) i Word.Permit) p n i j × (decision_at p n j ≡ decision_on p n))
  pub names : (outcome p n).obligations ≡ gathered (λ o. obligation_name o ++ bytes "\n") (keep (λ o. same (word_text o.word) (decision_text (decision_on p n))) (gathered obligations_of (marked_of marks p.elements)))

-- A tool that decides, for a buffer of so many bytes: every line that names a request gets that request's outcome where its
-- obligations go into the buffer, else 11 with their bytes; what names no request is refused with its place, whatever the buffer
pub record Decides (tool : ℕ → Bytes → Bytes → Result Outcome) (f : Bytes) (p : Policy) : Type 0 where
  pub each_number : (n : ℕ) → n < space p.attributes → (room : ℕ) → length (outcome p n).obligations ≤ room → tool room f (request_text p.attributes (request_of (sizes p.attributes) n)) ≡ given (outcome p n)
  pub each_line : (r : Bytes) (q : Request) → request_line p.attributes r ≡ given q
      → (room : ℕ) → length (outcome p (number_of (sizes p.attributes) q)).obligations ≤ room → tool room f r ≡ given (outcome p (number_of (sizes p.attributes) q))
  pub too_short : (r : Bytes) (q : Request) → request_line p.attributes r ≡ given q
      → (room : ℕ) → room < length (outcome p (number_of (sizes p.attributes) q)).obligations → tool room f r ≡ refused 11 (length (outcome p (number_of (sizes p.attributes) q)).obligations)
  pub no_request : (r : Bytes) (n place : ℕ) → request_line p.attributes r ≡ refused n place → (room : ℕ) → tool room f r ≡ refused n place
