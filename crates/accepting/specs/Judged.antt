-- What a proposal gets, by the flags of the rules that it leaves out of a file; and one that flags do not stand for.
use Rattle.std.specs.Prelude.{◌≡◌, ℕ, zero, suc, ◌+◌, cond, List, []}
use Rattle.std.proofs.Math.Option.{Option, none, some}
use Rattle.meaning.specs.Text.{Bytes, first_from}
use Rattle.meaning.specs.Model.{Policy, given}
use Rattle.meaning.specs.Reading.{read}
use Rattle.meaning.specs.Trimming.{file_lines}
use Rattle.meaning.specs.declared.Answer.{Answer}
use Rattle.meaning.specs.Claims.Accepting.{LeavesOut}
use Rattle.text.specs.Ended.{Ended}
use Rattle.table.specs.declared.Row.{Row}
use Rattle.table.specs.declared.Shape.{Shape}
use Rattle.table.specs.Shape.{hit_of}
use Rattle.outcomes.specs.Decided.{none_struck}
use Rattle.layout.specs.declared.ElementPlaces.{ElementPlaces}
use Rattle.layout.specs.Places.{obligation_count}
use Rattle.differences.specs.Apart.{apart}
use Rattle.trials.specs.Decided.{needless_at}
use Rattle.trimmed_text.specs.Flags.{is_left}

-- how many lines are left of m elements from element i on: one each, and one for each obligation
unfoldable pub lines_from : (places : List ElementPlaces) (struck : List ℕ) → (i m : ℕ) → ℕ
lines_from places struck i zero = 0
lines_from places struck i (suc m) = cond (is_left struck i) (suc (obligation_count places i)) 0 + lines_from places struck (i + 1) m

-- 17 with a request, else 18 with a rule's line, behind so many attribute lines; 0 and 0 where there is neither
abbrev pub told_by : (places : List ElementPlaces) (struck : List ℕ) (attributes : ℕ) (request rule : Option ℕ) → Answer
told_by places struck attributes (some m) rule = record { number = 17; second = m }
told_by places struck attributes none (some i) = record { number = 18; second = suc (attributes + lines_from places struck 0 i) }
told_by places struck attributes none none = record { number = 0; second = 0 }

-- the first request that gets something else under the flags, and the topmost needless rule of those left
unfoldable pub judged_at : Bytes → (places : List ElementPlaces) (t : List Row) → Shape → List ℕ → Answer
judged_at f places t s struck =
    told_by places struck s.len
    (first_from (apart f places t s.n (hit_of s) none_struck struck) 0 s.space)
    (first_from (needless_at f places t s.n (hit_of s) s.space struck) 0 s.n)

-- an accepted file, and a proposal that is not its lines with only rule lines left out
pub record LeavesOthersOut (f g : Bytes) : Type 0 where
  pub policy : Policy
  pub is_read : read f ≡ given policy
  pub others : Ended g → LeavesOut (file_lines f) (file_lines g) [] → ⊥
