-- `forget`: place by place. Assumes nothing.
use Rattle.trimming.proofs.Knowing.{Forgetting}
use Rattle.trimming.proofs.forget.Given as goal

abbrev pub invariant-loop-i : goal.invariant-loop-i
invariant-loop-i l = Forgetting l.hits l.rule l.initial.hints l.hints l.i
