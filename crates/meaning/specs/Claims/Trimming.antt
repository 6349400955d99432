-- Trimming: which lines are struck, and what the text that is left has. What the report of a file is.
use Rattle.std.specs.Prelude.{◌≡◌, ◌≢◌, ◌↔◌, ℕ, ◌<◌, Bool, true, not, ◌&&◌, List, [], ◌∷◌, ◌++◌, map, length, get_or}
use Rattle.meaning.specs.Text.{Bytes, bytes, any, keep, gathered, same, join, tab, line}
use Rattle.meaning.specs.Model.{rule, kind_text, Element, name_of, Policy, space, given}
use Rattle.meaning.specs.Reading.{read}
use Rattle.meaning.specs.Deciding.{outcome, decide_file}
use Rattle.meaning.specs.Trimming.{lines, field_of, rule_line, is_rule_line, name_at, rule_lines, strike, Trimmed}
use Rattle.meaning.specs.Segments.{Conflict}
use Rattle.meaning.specs.Claims.Segments.{Segmented, ConflictsListed}
use Rattle.meaning.specs.Claims.ReportLines.{segment_row, conflict_row, struck_row, kept_row, field_lines}

-- The lines of a policy file by their fields, and nothing behind the last: a rule's begins with `R`, its name is its third field; to strike a line is to
-- leave out its bytes with its newline, and no others
pub record Lines (f : Bytes) (rows : List (List Bytes)) : Type 0 where
  pub are : lines f ≡ map (join tab) rows ++ ([] ∷ [])
  pub rule_lines : (k : ℕ) → is_rule_line f k ≡ true ↔ (get_or (get_or rows k []) 0 [] ≡ bytes "R")
  pub names : (k : ℕ) → name_at f k ≡ get_or (get_or rows k []) 2 []
  pub struck : (before after : List (List Bytes)) (l : List Bytes) → rows ≡ before ++ (l ∷ after) → strike (length before) f ≡ gathered line (before ++ after)

-- Two policies over the same attributes decide alike
pub record Alike (p q : Policy) : Type 0 where
  pub same_attributes : q.attributes ≡ p.attributes
  pub same_outcomes : (n : ℕ) → n < space p.attributes → outcome q n ≡ outcome p n

-- Needless: a rule's line such that the file and the file without it decide alike
pub record Needless (f : Bytes) (k : ℕ) : Type 0 where
  pub rule_line : is_rule_line f k ≡ true
  pub policy : Policy
  pub is_accepted : read f ≡ given policy
  pub policy_left : Policy
  pub left_accepted : read (strike k f) ≡ given policy_left
  pub alike : Alike policy policy_left

-- While there is a needless rule line the last one is struck. The names struck, and the text that is left
pub data Trims : Bytes → List Bytes → Bytes → Type 0 where
  none_left : (f : Bytes) → ((k : ℕ) → Needless f k → ⊥) → Trims f [] f
  last_struck : (f : Bytes) (k : ℕ) (names : List Bytes) (t : Bytes) → Needless f k → ((j : ℕ) → k < j → Needless f j → ⊥)
      → Trims (strike k f) names t → Trims f (name_at f k ∷ names) t

-- n is the first request whose outcome changes from p to q
pub record FirstChange (p q : Policy) (n : ℕ) : Type 0 where
  pub in_space : n < space p.attributes
  pub differs : outcome q n ≢ outcome p n
  pub no_earlier : (m : ℕ) → m < n → outcome q m ≡ outcome p m

-- a line stays unless it is a rule's whose name is among those struck
abbrev pub stays : List Bytes → Bytes → Bool
stays struck l = not (rule_line l && any (same (field_of 2 l)) struck)

-- the names of the rules among some elements
abbrev pub is_rule : Element → Bool
is_rule e = same (kind_text e.kind) (kind_text rule)

abbrev pub rule_names : List Element → List Bytes
rule_names es = map name_of (keep is_rule es)

-- A text r that reports on policy p, of which trimming left t, a text of policy q: the segments, the conflicts, the rules struck,
-- and each rule left with the first request that needs it. Its lines are these, in this order, and no others
pub record Reported (p q : Policy) (t : Trimmed) (r : Bytes) : Type 0 where
  pub firsts : List ℕ
  pub size : ℕ → ℕ
  pub segmented : Segmented firsts size p
  pub conflicts : List Conflict
  pub listed : ConflictsListed conflicts p
  pub needed_by : ℕ → ℕ
  pub needed : (k : ℕ) → is_rule_line t.text k ≡ true → (x : Policy) × (read (strike k t.text) ≡ given x) × FirstChange q x (needed_by k)
  pub rows : field_lines r ≡ map (segment_row p size) firsts
      ++ (map (conflict_row p.elements) conflicts
      ++ (map struck_row t.struck
      ++ (map (λ k. kept_row (name_at t.text k) (needed_by k)) (rule_lines t.text) ++ (([] ∷ []) ∷ []))))

-- The report of a file f with policy p
pub record ReportOf (f : Bytes) (p : Policy) (r : Bytes) : Type 0 where
  pub left : Trimmed
  pub steps : Trims f left.struck left.text
  pub policy_left : Policy
  pub left_accepted : read left.text ≡ given policy_left
  pub reported : Reported p policy_left left r

-- Demand 3, of a tool that trims and one that reports, on an accepted file f with policy p
pub record TrimsSoundly (trim : Bytes → Trimmed) (report : Bytes → Policy → Bytes) (f : Bytes) (p : Policy) : Type 0 where
  pub steps : Trims f (trim f).struck (trim f).text
  pub own_lines : lines (trim f).text ≡ keep (stays (trim f).struck) (lines f)
  pub policy : Policy
  pub is_accepted : read (trim f).text ≡ given policy
  pub alike : Alike p policy
  pub decides : (room : ℕ) (r : Bytes) → decide_file room (trim f).text r ≡ decide_file room f r
  pub rules : map (name_at (trim f).text) (rule_lines (trim f).text) ≡ rule_names policy.elements
  pub reported : Reported p policy (trim f) (report f p)
  pub none_needless : (k : ℕ) → Needless (trim f).text k → ⊥
  pub again : trim (trim f).text ≡ record { text = (trim f).text; struck = [] }

-- of every accepted file
abbrev pub Meets : (Bytes → Trimmed) → (Bytes → Policy → Bytes) → Type 0
Meets trim report = (f : Bytes) (p : Policy) → read f ≡ given p → TrimsSoundly trim report f p
