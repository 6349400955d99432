-- `put_targets` meets its contract. The loop keeps the targets of the attributes before `i`, each with its tab.
use Rattle.printing.proofs.Walks.{Sofar}
use Rattle.treelines.proofs.TargetTexts.{tab_target}
use Rattle.treelines.proofs.targets.put_targets.Given as goal

abbrev pub invariant-loop-i : goal.invariant-loop-i
invariant-loop-i l = Sofar (tab_target l.lines.text.now l.lines.attributes l.masks) 16386 0 l.initial.sink l.i l.sink
