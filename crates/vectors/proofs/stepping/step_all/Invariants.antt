use Rattle.requests.specs.Values.{Fitting}
use Rattle.vectors.proofs.stepping.step_all.Given as goal

abbrev pub invariant-loop-m : goal.invariant-loop-m
invariant-loop-m l = Fitting l.counts l.q
