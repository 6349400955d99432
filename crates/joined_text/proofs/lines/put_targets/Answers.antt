-- `put_targets`: the targets of the joined attributes so far. Assumes nothing.
use mathlib.Core.Path.{sym}
use mathlib.Core.List.{◌∷◌}
use Prim.Native.Nat.{ℕ, ◌+◌, ◌-◌}
use native.Mathlib.Omega.{arith}
use lib.ListN.{length, get_or}
use Rattle.meaning.specs.Text.{Bytes, counting, cut, tab}
use Rattle.laws.proofs.Rewritten.{gathered_map}
use Rattle.printing.proofs.Laws.{same_text}
use Rattle.printing.proofs.Walks.{begun, stored, ended_all}
use Rattle.joined_text.specs.Lines.{placed_target}
use Rattle.joined_text.proofs.Targets.{room_for}
use Rattle.joined_text.proofs.lines.put_targets.Goals as goal

pub loop-i-init : goal.loop-i-init
loop-i-init c = begun

pub put_target-requires : goal.put_target-requires
put_target-requires c =
    let l = c.loop-i in
    (c.requires.0, omega (arith, c.requires, l.invariant.within, room_for (length c.args.targets.now + 2) (l.i - 0) (omega (arith, c.requires))))

pub loop-i-preserved : goal.loop-i-preserved
loop-i-preserved c =
    let l = c.loop-i in
    stored l.invariant (c.put_target.ensures.0, omega (arith, c.put_target.ensures.1))

pub returns : goal.returns
returns c =
    let args = c.args in
    let l = c.loop-i in
    let each : ℕ → Bytes = λ k. tab ∷ placed_target args.n (cut tab args.targets.now) k in (
      same_text (sym (gathered_map each (λ i. get_or args.p.now.places i 0) (counting 0 args.p.now.len)))
          (ended_all l.invariant args.p.now.len (omega arith)),
      omega (arith, l.invariant.within, room_for (length args.targets.now + 2) (l.i - 0) (omega (arith, c.requires))),
    )
