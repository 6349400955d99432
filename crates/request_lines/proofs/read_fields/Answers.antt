-- The walk takes one attribute and one field at a time.
use native.Mathlib.Omega.{arith}
use Rattle.text.proofs.Fields.{first_starts, field_text, next_starts}
use Rattle.request_lines.proofs.FieldWalk.{walk_starts, walk_refused, walk_on, walk_ends}
use Rattle.request_lines.proofs.read_fields.Goals as goal

pub loop-i-init : goal.loop-i-init
loop-i-init c = (walk_starts _ _ _, λ l. first_starts c.args.line.now)

pub end_of-end-requires : goal.end_of-end-requires
end_of-end-requires c = (c.loop-i.invariant.1 (omega arith)).inside

pub returns-in_default : goal.returns-in_default
returns-in_default c =
    let s = c.loop-i.invariant.1 (omega arith) in
    walk_refused c.loop-i.invariant.0 (omega arith) c.requires.0.few c.requires.2 c.values.ensures (field_text s c.end_of-end.ensures) c.choose.ensures c.in_default.is

pub loop-i-preserved : goal.loop-i-preserved
loop-i-preserved c =
    let s = c.loop-i.invariant.1 (omega arith) in (
      walk_on c.loop-i.invariant.0 (omega arith) c.requires.0.few c.requires.2 c.values.ensures (field_text s c.end_of-end.ensures) c.choose.ensures c.in-Some.is,
      λ l. next_starts s c.end_of-end.ensures (omega arith),
    )

pub returns : goal.returns
returns c = walk_ends c.loop-i.invariant.0 (omega arith) c.requires.0.few _ c.severals.ensures
