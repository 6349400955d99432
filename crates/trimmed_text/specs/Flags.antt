-- Trimming on flags: the file stays as it was read, and an element whose flag is not 0 is struck.
use Rattle.std.specs.Prelude.{◌≡◌, ℕ, zero, suc, ◌+◌, Bool, false, not, cond, ◌&&◌, List, [], ◌∷◌, ◌++◌, map, eqb, length, get_or, take, drop, set}
use Rattle.std.proofs.Math.Option.{Option}
use Rattle.meaning.specs.declared.Element.{Element}
use Rattle.meaning.specs.Text.{Bytes, bytes, keep, front, is_none, gathered, if_some, counting, first_from, last_below, newline, line, decimal}
use Rattle.meaning.specs.Model.{obligations_of, Policy, space}
use Rattle.meaning.specs.Deciding.{same_outcome, outcome}
use Rattle.meaning.specs.Trimming.{lines}
use Rattle.meaning.specs.Report.{name_in}
use Rattle.meaning.specs.Claims.Trimming.{is_rule}
use Rattle.trimming.specs.Decided.{Struck, onward}

-- place i is left: its flag is 0
abbrev pub is_left : List ℕ → ℕ → Bool
is_left struck i = eqb (get_or struck i 0) 0

-- no place is struck
abbrev pub Clear : List ℕ → Type 0
Clear struck = (i : ℕ) → get_or struck i 0 ≡ 0

-- what is left of things that stand at place i and behind it
unfoldable pub left_from : {A : Type 0} → List ℕ → ℕ → List A → List A
left_from struck i [] = []
left_from struck i (x ∷ xs) =
    let later = left_from struck (i + 1) xs in
    cond (is_left struck i) (x ∷ later) later

-- the policy of the elements that are left
abbrev pub left_policy : Policy → List ℕ → Policy
left_policy p struck = record { attributes = p.attributes; elements = left_from struck 0 p.elements }

-- how many lines an element has: its own, and one for each obligation
abbrev pub line_count : Element → ℕ
line_count e = suc (length (obligations_of e))

-- the lines of each of some elements, that stand one behind the other
unfoldable pub lines_by_element : List Element → List Bytes → List (List Bytes)
lines_by_element [] ls = []
lines_by_element (e ∷ es) ls = take (line_count e) ls ∷ lines_by_element es (drop (line_count e) ls)

-- the lines that are left: the attributes' lines, and those of the elements that are left
abbrev pub lines_left : Bytes → Policy → List ℕ → List Bytes
lines_left f p struck =
    let own = front (lines f) in
    let header = length p.attributes in
    take header own ++ gathered (λ ls. ls) (left_from struck 0 (lines_by_element p.elements (drop header own)))

-- the text that they make
unfoldable pub text_left : Bytes → Policy → List ℕ → Bytes
text_left f p struck = gathered (λ l. l ++ (newline ∷ [])) (lines_left f p struck)

-- request n gets another outcome without element i
unfoldable pub changes_at : Policy → List ℕ → ℕ → ℕ → Bool
changes_at p struck i n = not (same_outcome (outcome (left_policy p struck) n) (outcome (left_policy p (set struck i 1)) n))

-- the first such request
unfoldable pub first_change_at : Policy → List ℕ → ℕ → Option ℕ
first_change_at p struck i = first_from (changes_at p struck i) 0 (space p.attributes)

-- element i is a rule
abbrev pub rule_in : List Element → ℕ → Bool
rule_in es i = get_or (map is_rule es) i false

-- element i is a rule that is left
abbrev pub kept_at : Policy → List ℕ → ℕ → Bool
kept_at p struck i = is_left struck i && rule_in p.elements i

-- and one without which the policy decides alike
unfoldable pub needless_at : Policy → List ℕ → ℕ → Bool
needless_at p struck i = kept_at p struck i && is_none (first_change_at p struck i)

-- the next rule to strike: the last needless one
unfoldable pub next_at : Policy → List ℕ → Option ℕ
next_at p struck = last_below (needless_at p struck) (length p.elements)

-- while there is one, the next rule is struck: at most n times
unfoldable pub trimming_at : ℕ → Policy → List ℕ → Struck
trimming_at zero p struck = record { flags = struck; order = [] }
trimming_at (suc n) p struck = onward (next_at p struck) struck (λ i. trimming_at n p (set struck i 1))

-- the rules that are left, in file order, and the `K` line of each
abbrev pub kept_places : Policy → List ℕ → List ℕ
kept_places p struck = keep (kept_at p struck) (counting 0 (length p.elements))

abbrev pub kept_line_at : Policy → List ℕ → ℕ → Bytes
kept_line_at p struck i = if_some (first_change_at p struck i) (λ n. line (bytes "K" ∷ name_in p.elements i ∷ decimal n ∷ []))
