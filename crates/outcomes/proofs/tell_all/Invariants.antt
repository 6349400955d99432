-- `tell_all`: what the requests get, laid down one after the other. Assumes nothing.
use Rattle.outcomes.specs.Decided.{outcome_at}
use Rattle.outcomes.proofs.Laying.{Lays}
use Rattle.outcomes.proofs.tell_all.Given as goal

abbrev pub invariant-loop-m : goal.invariant-loop-m
invariant-loop-m l = Lays (outcome_at l.outcomes) l.space l.initial.decided l.decided l.m
