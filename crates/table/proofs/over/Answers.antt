-- `over`: all that was passed is no less deep. Assumes nothing.
use Prim.Native.Nat.{ℕ, ◌-◌}
use mathlib.Core.Path.{sym, ap}
use mathlib.Core.Bool.{Bool}
use mathlib.Core.List.{List}
use native.Mathlib.Omega.{arith}
use lib.Dec.{ltb}
use borrow.Author.Tests.{lt-ltb, le-ltb}
use Rattle.laws.proofs.Search.{last_is, last_absent}
use Rattle.table.specs.declared.Row.{Row}
use Rattle.table.specs.Rows.{depth_of}
use Rattle.table.specs.Tree.{place_or, over_of}
use Rattle.table.proofs.over.Goals as goal

-- element k is less deep than i
abbrev lower : List Row → ℕ → ℕ → Bool
lower t i k = ltb (depth_of t k) (depth_of t i)

pub returns-then-depth_at-depth-clause-value : goal.returns-then-depth_at-depth-clause-value
unfolding over_of
returns-then-depth_at-depth-clause-value c =
    let args = c.args in
    let turn = c.loop-j in
    let depth = c.depth_at-depth.ensures.0 in
    let here = c.depth_at.ensures.0 in
    sym (ap (place_or args.i) (last_is (lower args.table.now args.i) args.i (turn.j - 1) (record {
      below = omega arith;
      holds = lt-ltb (depth_of args.table.now (turn.j - 1)) (depth_of args.table.now args.i) (omega (arith, depth, here));
      no_later = λ m l u. le-ltb (depth_of args.table.now m) (depth_of args.table.now args.i) (omega (arith, depth, turn.invariant m (omega arith) (omega arith)));
    })))

pub returns-clause-value : goal.returns-clause-value
unfolding over_of
returns-clause-value c =
    let args = c.args in
    sym (ap (place_or args.i) (last_absent (lower args.table.now args.i) args.i (λ m u. le-ltb (depth_of args.table.now m) (depth_of args.table.now args.i) (omega (arith, c.depth_at-depth.ensures.0, c.loop-j.invariant m (omega arith) (omega arith))))))
