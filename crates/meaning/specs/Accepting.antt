-- Accepting a proposal for the trimmed policy of an original.
use Rattle.std.specs.Prelude.{ℕ, suc, cond, List, [], ◌∷◌, length}
use Rattle.std.proofs.Math.Option.{Option, none, some, map}
use Rattle.meaning.specs.Text.{Bytes, all, first_from, same}
use Rattle.meaning.specs.Model.{Policy, Result, given, ◌then◌, unless_found}
use Rattle.meaning.specs.Reading.{read}
use Rattle.meaning.specs.Trimming.{lines, file_lines, rule_line, first_changed, needless}

-- The first proposal line, by numbers from n on, that isn't the next original line, rule lines skipped as needed; 0 where all its
-- lines match and a non-rule line is left over
abbrev pub first_other : ℕ → (original proposal : List Bytes) → Option ℕ
first_other n os [] = cond (all rule_line os) none (some 0)
first_other n [] (l ∷ ls) = some n
first_other n (o ∷ os) (l ∷ ls) =
    let next = first_other (suc n) os ls in
    let skipped = first_other n os (l ∷ ls) in
    cond (same o l) next (cond (rule_line o) skipped (some n))

-- The line, from 1, of the first needless rule
abbrev pub first_needless : Bytes → Option ℕ
first_needless g = map suc (first_from (needless g) 0 (length (lines g)))

-- A proposal beside its original: 16 with that line, 17 with the first request that differs, 18 with that rule's line
unfoldable pub judged : (original : Bytes) → Policy → (proposal : Bytes) → Policy → Result Bytes
judged f p g q =
    unless_found 16 (first_other 1 (file_lines f) (file_lines g))
    (unless_found 17 (first_changed (given p) (given q))
    (unless_found 18 (first_needless g) (given g)))

-- The operation: the original is read, and then the proposal
unfoldable pub accept_file : (original proposal : Bytes) → Result Bytes
accept_file f g = read f then λ p. read g then λ q. judged f p g q
