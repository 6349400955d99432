-- The elements of a table as a tree, and those of them that are not struck.
use Rattle.std.specs.Prelude.{ℕ, zero, suc, ◌+◌, ◌-◌, ◌≤◌, ◌<◌, ◌≡◌, Bool, cond, ◌&&◌, List, [], ◌∷◌, eqb, leb, ltb, length, get_or}
use Rattle.std.proofs.Math.Option.{Option, none, some}
use Rattle.meaning.specs.declared.Element.{Element}
use Rattle.meaning.specs.Text.{first_from, last_below}
use Rattle.table.specs.declared.Row.{Row}
use Rattle.table.specs.Rows.{Rows, word_number, depth_of, element_at}

-- the elements of n places from place i on that are not struck: those whose flag is 0
unfoldable pub left : List Row → List ℕ → ℕ → ℕ → List Element
left t struck i zero = []
left t struck i (suc n) =
    let later = left t struck (i + 1) n in
    cond (eqb (get_or struck i 0) 0) (element_at t i ∷ later) later

-- the elements before place i, the nearest first
unfoldable pub before : List Row → ℕ → List Element
before t zero = []
before t (suc i) = element_at t i ∷ before t i

-- the place of an element's parent, the nearest earlier element of depth one less
unfoldable pub parent_of : List Row → ℕ → Option ℕ
parent_of t i = last_below (λ j. eqb (suc (depth_of t j)) (depth_of t i)) i

-- a place, or n where there is none
abbrev pub place_or : ℕ → Option ℕ → ℕ
place_or n none = n
place_or n (some i) = i

-- element i is a rule that is left: its flag is 0, and its word an effect
abbrev pub rule_left : List Row → List ℕ → ℕ → Bool
rule_left t struck i = eqb (get_or struck i 0) 0 && ltb (word_number t i) 2

-- element j is not struck, and no deeper than d: it is the next child of that depth, or stands behind the last one
abbrev pub stops_at : List Row → List ℕ → ℕ → ℕ → Bool
stops_at t struck d j = eqb (get_or struck j 0) 0 && leb (depth_of t j) d

abbrev pub child_at : List Row → ℕ → Option ℕ → Option ℕ
child_at t d none = none
child_at t d (some j) = cond (eqb (depth_of t j) d) (some j) none

-- the next child of depth d that is not struck, of n places from place i on
unfoldable pub next_child : List Row → List ℕ → ℕ → ℕ → ℕ → Option ℕ
next_child t struck n d i = child_at t d (first_from (stops_at t struck d) i (n - i))

-- the table has n rows, the flags are as many, and i is a place among them or their end
pub record Room (t : List Row) (struck : List ℕ) (n i : ℕ) : Type 0 where
  pub rows : Rows t n
  pub flags : n ≤ length struck
  pub place : i ≤ n

-- what stands behind a rule is no deeper than it: a rule has no children
abbrev pub Leaves : List Row → ℕ → Type 0
Leaves t n = (k : ℕ) → k + 1 < n → word_number t k < 2 → depth_of t (k + 1) ≤ depth_of t k

-- only rules are struck
abbrev pub RulesStruck : List Row → List ℕ → ℕ → Type 0
RulesStruck t struck n = (k : ℕ) → k < n → (get_or struck k 0 ≡ 0 → ⊥) → word_number t k < 2

-- the nearest earlier element that is less deep, or the element itself where there is none
unfoldable pub over_of : List Row → ℕ → ℕ
over_of t i = place_or i (last_below (λ j. ltb (depth_of t j) (depth_of t i)) i)

-- element a is i, or stands over it: those behind it up to i are deeper
pub record Over (t : List Row) (a i : ℕ) : Type 0 where
  pub within : a ≤ i
  pub deeper : (j : ℕ) → a < j → j ≤ i → depth_of t a < depth_of t j
