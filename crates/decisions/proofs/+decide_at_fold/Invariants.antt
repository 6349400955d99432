-- `decide_at` and `fold` call each other, and what is left of the table falls. `fold` keeps a reply that stands for the children passed.
use Rattle.std.proofs.Common.{◌-◌, ◌≡◌, ◌+◌, ◌≤◌, ◌*◌, ◌∷◌}
use Rattle.meaning.specs.Deciding.{matches, combined}
use Rattle.requests.specs.Values.{values_of, severals_of}
use Rattle.table.specs.Rows.{algorithm_number, algorithm_of}
use Rattle.decisions.specs.Replies.{reply_of, replies_from}
use Rattle.decisions.proofs.Combining.{Settled}
use Rattle.decisions.proofs.+decide_at_fold.Given as goal

abbrev pub decreases-decide_at : goal.decreases-decide_at
decreases-decide_at l = 2 * (l.a.now.n - l.at)

abbrev pub decreases-fold : goal.decreases-fold
decreases-fold l = 2 * (l.a.now.n - l.from) + 1

abbrev pub invariant-fold-loop-at : goal.invariant-fold-loop-at
invariant-fold-loop-at l =
    (l.from ≤ l.behind) × (l.behind ≤ l.a.n) × Settled (algorithm_number l.algorithm) (reply_of l.so_far)
    × (combined (algorithm_of l.algorithm) (replies_from (matches (severals_of l.a.q) (values_of l.a.q)) l.a.table.now l.a.struck.now l.a.n l.depth l.from)
    ≡ combined (algorithm_of l.algorithm) (reply_of l.so_far ∷ replies_from (matches (severals_of l.a.q) (values_of l.a.q)) l.a.table.now l.a.struck.now l.a.n l.depth l.behind))

abbrev pub decreases-fold-loop-at : goal.decreases-fold-loop-at
decreases-fold-loop-at l = l.a.n - l.behind
