-- Segments and conflicts, of what a tool lists.
use Rattle.std.specs.Prelude.{◌≡◌, ◌≢◌, ◌⊎◌, ◌↔◌, ℕ, ◌<◌, true, false, length, get_or}
use mathlib.Core.List.{List, map, Memᴰ}
use Rattle.std.proofs.Math.Option.{some}
use Rattle.meaning.specs.Model.{Decision, Policy, space}
use Rattle.meaning.specs.Deciding.{outcome}
use Rattle.meaning.specs.Segments.{applying_to, parent_of, decision_at, Conflict}
use Rattle.meaning.specs.Claims.Texts.{Distinct, Ordered, Rising, total}

-- Two requests are in one segment exactly if the same elements apply to both
abbrev pub InSegment : Policy → ℕ → ℕ → Type 0
InSegment p s n = (n < space p.attributes) × (applying_to p n ≡ applying_to p s)

-- n is the first request of its segment
abbrev pub Opens : Policy → ℕ → Type 0
Opens p n = (m : ℕ) → m < n → applying_to p m ≢ applying_to p n

-- A tool's first requests and its counts: each request is in exactly one segment, shown by its first request; a count is that
-- of the segment's requests, and all of them get one outcome
pub record Segmented (firsts : List ℕ) (size : ℕ → ℕ) (p : Policy) : Type 0 where
  pub in_one : (n : ℕ) → n < space p.attributes → (s : ℕ) × Memᴰ s firsts × (applying_to p s ≡ applying_to p n)
  pub in_no_other : (s t : ℕ) → Memᴰ s firsts → Memᴰ t firsts → applying_to p s ≡ applying_to p t → s ≡ t
  pub by_first : (s : ℕ) → Memᴰ s firsts → (s < space p.attributes) × Opens p s
  pub rising : Rising firsts
  pub counted : (s : ℕ) → Memᴰ s firsts → (ns : List ℕ) × Rising ns × ((n : ℕ) → Memᴰ n ns ↔ InSegment p s n) × (length ns ≡ size s)
  pub add_up : total (map size firsts) ≡ space p.attributes
  pub one_outcome : (n m : ℕ) → applying_to p n ≡ applying_to p m → outcome p n ≡ outcome p m

-- A request shows a conflict: the parent applies, one child gives permit and the other deny
pub record Shows (p : Policy) (i j k n : ℕ) : Type 0 where
  pub parent_applies : get_or (applying_to p n) i false ≡ true
  pub opposed : ((decision_at p n j ≡ Decision.Permit) × (decision_at p n k ≡ Decision.Deny)) ⊎ ((decision_at p n j ≡ Decision.Deny) × (decision_at p n k ≡ Decision.Permit))

-- Two children of one element, with the lowest request that shows their conflict
pub record Conflicting (p : Policy) (c : Conflict) : Type 0 where
  pub in_order : c.earlier < c.later
  pub in_file : c.later < length p.elements
  pub earlier_child : parent_of p.elements c.earlier ≡ some c.parent
  pub later_child : parent_of p.elements c.later ≡ some c.parent
  pub in_space : c.request < space p.attributes
  pub shown : Shows p c.parent c.earlier c.later c.request
  pub lowest_shown : (n : ℕ) → n < c.request → Shows p c.parent c.earlier c.later n → ⊥

-- By parents, then earlier, then later child, in file order
abbrev pub Before : Conflict → Conflict → Type 0
Before c d = (c.parent < d.parent) ⊎ ((c.parent ≡ d.parent) × ((c.earlier < d.earlier) ⊎ ((c.earlier ≡ d.earlier) × (c.later < d.later))))

-- A tool's list: exactly the pairs that conflict, each once, in order
pub record ConflictsListed (listed : List Conflict) (p : Policy) : Type 0 where
  pub each_listed : (c : Conflict) → Conflicting p c → Memᴰ c listed
  pub no_other : (c : Conflict) → Memᴰ c listed → Conflicting p c
  pub once : Distinct {A = ℕ × ℕ} (map (λ c. (c.earlier, c.later)) listed)
  pub in_order : Ordered Before listed
