-- `text::from_field` meets its contract. The loop keeps that field n of the line starts at `at`.
use Prim.Native.Nat.{ℕ}
use mathlib.Core.Path.{◌≡◌, sym, ap, ◌∙◌}
use native.Mathlib.Omega.{arith}
use lib.ListN.{drop}
use Rattle.meaning.specs.Text.{cut, tab}
use Rattle.text.proofs.Pieces.{rest_of}
use Rattle.text.proofs.Fields.{first_starts, next_starts}
use Rattle.text.proofs.from_field.Goals as goal

pub loop-n-init : goal.loop-n-init
loop-n-init c = first_starts c.args.line.now

pub loop-n-preserved : goal.loop-n-preserved
loop-n-preserved c =
    next_starts c.loop-n.invariant c.end_of-at.ensures (omega arith)

pub returns : goal.returns
returns c =
    let s = c.args.line.now in
    let l = c.loop-n in
    let reached : l._n ≡ c.args.k = omega arith in
    ap (cut tab) (rest_of s l.at) ∙ sym l.invariant.fields ∙ ap (λ (j : ℕ). drop j (cut tab s)) reached
