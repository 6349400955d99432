-- `match_one` meets its contract, an element at a time.
use mathlib.Core.Path.{◌≡◌}
use lib.ListN.{length}
use Rattle.meaning.specs.Deciding.{matches}
use Rattle.requests.specs.Values.{values_of, severals_of}
use Rattle.table.proofs.Words.{SameWidths}
use Rattle.blocks.specs.Bits.{Answers}
use Rattle.deciding.proofs.match_one.Given as goal

abbrev pub invariant-loop-i : goal.invariant-loop-i
invariant-loop-i l = (length l.hits ≡ length l.initial.hits) × SameWidths l.initial.hits l.hits × Answers l.table l.hits l.i 0 0 (matches (severals_of l.q) (values_of l.q))
