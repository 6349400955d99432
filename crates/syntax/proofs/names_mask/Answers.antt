-- The invariant is `Walked`: the mask of what is left, shifted behind the bits taken, is the mask of all.
use native.Mathlib.Omega.{arith}
use mathlib.Core.Path.{sym, ◌∙◌}
use Rattle.syntax.proofs.Walk.{walk_starts, bit_fits, walk_passes, walk_left, walk_takes, walk_ends}
use Rattle.syntax.proofs.names_mask.Goals as goal
use Rattle.syntax.proofs.names_mask.Goals.{then-equal+else-end-field+else-e-values, else-equal+else-e-values-2}

pub loop-taken-init : goal.loop-taken-init
loop-taken-init c = walk_starts c.args.exact c.args.values.now c.args.field.now c.end_of-end.ensures c.requires

pub overflow_cast-result : goal.overflow_cast-result
overflow_cast-result c = omega (arith, bit_fits c.loop-taken.invariant c.end_of-e.ensures)

pub returns-then-end-field-clause-value : goal.returns-then-end-field-clause-value
returns-then-end-field-clause-value c = walk_ends c.loop-taken.invariant c.end_of-e.ensures (sym c.equal.ensures ∙ c.if-equal.true) c.if-end-field.true

pub returns-then-e-values-clause-value : goal.returns-then-e-values-clause-value
returns-then-e-values-clause-value c = walk_left c.loop-taken.invariant c.end_of-e.ensures (sym c.equal.ensures ∙ c.if-equal.true) (omega arith) c.if-e-values.true

pub returns-then-e-values-2-clause-value : goal.returns-then-e-values-2-clause-value
returns-then-e-values-2-clause-value c = (walk_passes c.loop-taken.invariant c.end_of-e.ensures (sym c.equal.ensures ∙ c.if-equal.false)).missed c.if-e-values-2.true

pub loop-taken-preserved : goal.loop-taken-preserved
loop-taken-preserved c =
    elim c.if-equal.branch [
      | then-equal+else-end-field+else-e-values w ↦
          let next = walk_takes c.loop-taken.invariant c.end_of-e.ensures (sym c.equal.ensures ∙ w.if-equal.true) (omega arith) w.end_of-end-then-equal.ensures (omega arith) in
          rw (w.name-is, w.end-is, w.taken-is) next
      | else-equal+else-e-values-2 w ↦
          let passes = walk_passes c.loop-taken.invariant c.end_of-e.ensures (sym c.equal.ensures ∙ w.if-equal.false) in
          rw (w.name-is, w.end-is, w.taken-is) (passes.next (omega arith))
    ]
