-- The walk takes one attribute and one target field at a time.
use native.Mathlib.Omega.{arith}
use Prim.Native.Nat.{ℕ, ◌+◌}
use mathlib.Core.Path.{◌≡◌, sym, ap, ◌∙◌}
use lib.ListN.{length, drop, length-drop}
use Rattle.meaning.specs.Text.{Bytes, cut, tab}
use Rattle.text.proofs.Fields.{first_starts, field_text, next_starts}
use Rattle.tree_fields.proofs.TargetWalk.{walk_starts, walk_on, walk_bad, walk_ends}
use Rattle.tree_fields.proofs.HeadedLine.masks.Goals as goal

count_of : (targets line : Bytes) {n : ℕ} → cut tab targets ≡ drop 4 (cut tab line) → length (cut tab line) ≡ 4 + n → length (cut tab targets) ≡ n
count_of targets line e h = omega (arith, length-drop 4 (cut tab line), ap length e)

pub loop-i-init : goal.loop-i-init
loop-i-init c = (walk_starts _ _ _ c.requires.0.few, λ l. first_starts c.targets-targets.result.now)

pub end_of-end-requires : goal.end_of-end-requires
end_of-end-requires c = (c.loop-i.invariant.1 (omega arith)).inside

pub returns-in_err-masks : goal.returns-in_err-masks
returns-in_err-masks c =
    let more = count_of c.targets-targets.result.now c.args.self.now.text.now c.targets-targets.ensures.fields c.requires.3 in
    let s = c.loop-i.invariant.1 (omega arith) in
    c.from_residual.ensures ∙ rw (sym c.targets-targets.ensures.fields)
    (walk_bad c.loop-i.invariant.0 (omega arith) (omega arith) c.values.ensures (field_text s c.end_of-end.ensures) c.target_mask.ensures (c.in_err-masks.was))

pub loop-i-preserved : goal.loop-i-preserved
loop-i-preserved c =
    let more = count_of c.targets-targets.result.now c.args.self.now.text.now c.targets-targets.ensures.fields c.requires.3 in
    let s = c.loop-i.invariant.1 (omega arith) in (
      walk_on c.loop-i.invariant.0 (omega arith) (omega arith) c.values.ensures (field_text s c.end_of-end.ensures) c.target_mask.ensures (c.in_ok-masks.was),
      λ l. next_starts s c.end_of-end.ensures (omega arith),
    )

pub returns : goal.returns
returns c = rw (sym c.targets-targets.ensures.fields) (walk_ends c.loop-i.invariant.0 (omega arith))
