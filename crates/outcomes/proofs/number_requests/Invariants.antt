-- `number_requests`: the numbers laid down one after the other. Assumes nothing.
use Rattle.meaning.specs.Deciding.{decision_number}
use Rattle.table.specs.Shape.{hit_of}
use Rattle.outcomes.specs.Decided.{none_struck, decided_at}
use Rattle.outcomes.proofs.Laying.{Lays}
use Rattle.outcomes.proofs.number_requests.Given as goal

abbrev pub invariant-loop-m : goal.invariant-loop-m
invariant-loop-m l = Lays (λ m. decision_number (decided_at l.table l.fn.shape.n (hit_of l.fn.shape) none_struck m)) l.fn.shape.space l.initial.decided l.decided l.m
