-- `match_one` meets its contract, an element at a time.
use mathlib.Core.Path.{refl, ◌∙◌}
use native.Mathlib.Omega.{arith}
use lib.ListN.{length, get_or, length-set}
use mathlib.Core.List.{[]}
use Prim.Native.Nat.{◌<◌}
use Rattle.meaning.specs.Deciding.{matches}
use Rattle.requests.specs.Values.{values_of, severals_of}
use Rattle.table.proofs.Words.{widths_next}
use Rattle.deciding.proofs.Telling.{next_answers}
use Rattle.deciding.proofs.match_one.Goals as goal

pub loop-i-init : goal.loop-i-init
loop-i-init c = (refl, (λ i. refl), λ j l. absurd (omega arith))

pub bounds-hits-i : goal.bounds-hits-i
bounds-hits-i c = omega (arith, c.loop-i.invariant.0)

pub loop-i-preserved : goal.loop-i-preserved
loop-i-preserved c =
    let turn = c.loop-i in
    let (size, widths, so_far) = turn.invariant in
    let inside : turn.i < length turn.hits = omega arith in
    let room : 0 < length (get_or turn.hits turn.i []) = omega (arith, widths turn.i, c.told-hits turn.i (omega arith)) in (
      simp length-set size,
      widths_next turn.hits turn.i 0 c.bit_of.result inside _ widths,
      next_answers c.args.table.now turn.hits turn.i c.bit_of.result (matches (severals_of c.args.q) (values_of c.args.q)) inside room (c.bit_of.ensures ∙ c.matches.ensures) so_far,
    )

pub returns : goal.returns
returns c =
    (λ j l. c.loop-i.invariant.2 j (omega arith), c.loop-i.invariant.0)
