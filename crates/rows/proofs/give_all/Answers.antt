-- `give_all`: the rows before i are laid down, and then the words before `block` of row i. Assumes nothing.
use Prim.Native.Nat.{◌*◌, ◌≤◌, ◌<◌}
use mathlib.Core.Path.{◌≡◌, refl}
use mathlib.Core.List.{[]}
use native.Mathlib.Nat.{add-zero, add_assoc}
use native.Mathlib.Omega.{arith}
use lib.ListN.{length, get_or}
use Rattle.meaning.specs.declared.Decision.{Decision}
use Rattle.rows.proofs.Rows.{filled_none, filled_end, filled_next, given_all, given_rest, permits_alone, denies_alone}
use Rattle.table.proofs.Words.{widths_next}
use Rattle.rows.proofs.give_all.Goals as goal

pub loop-i-init : goal.loop-i-init
loop-i-init c =
    record {
      few = omega (arith, c.requires.0.small);
      permit_bits = filled_none _ _ _ _ _ _;
      permit_widths = λ i. refl;
      deny_bits = filled_none _ _ _ _ _ _;
      deny_widths = λ i. refl;
    }

pub loop-block-init : goal.loop-block-init
loop-block-init c = rw add-zero c.loop-i.invariant

pub loop-block-preserved : goal.loop-block-preserved
loop-block-preserved c =
    let i = c.loop-i.i in
    let turn = c.loop-block in
    let inv = turn.invariant in
    let reply = c.reply in
    let row : i < length turn.permits = omega (arith, inv.permit_bits.size) in
    let deny_row : i < length turn.denies = omega (arith, inv.deny_bits.size) in
    let room : turn.block < length (get_or turn.permits i []) = omega (arith, inv.permit_widths i, inv.permit_bits.size, c.told-permits i (omega arith)) in
    let deny_room : turn.block < length (get_or turn.denies i []) = omega (arith, inv.deny_widths i, inv.deny_bits.size, c.told-denies i (omega arith)) in
    rw (← add_assoc)
    record {
      few = inv.few;
      permit_bits = filled_next _ _ _ _ _ inv.permit_bits inv.few i turn.block _ refl row room (omega arith) (λ v hit l answers. permits_alone _ v reply.result _ (reply.ensures v hit answers) (c.permitted.ensures v));
      permit_widths = widths_next turn.permits i turn.block c.permitted.result row _ inv.permit_widths;
      deny_bits = filled_next _ _ _ _ _ inv.deny_bits inv.few i turn.block _ refl deny_row deny_room (omega arith) (λ v hit l answers. denies_alone _ v reply.result _ (reply.ensures v hit answers) (c.denied.ensures v));
      deny_widths = widths_next turn.denies i turn.block c.denied.result deny_row _ inv.deny_widths;
    }

pub loop-i-preserved : goal.loop-i-preserved
loop-i-preserved c =
    let i = c.loop-i.i in
    let inv = c.loop-block.invariant in
    record {
      few = inv.few;
      permit_bits = filled_end _ _ _ _ _ inv.permit_bits inv.few i (omega arith);
      permit_widths = inv.permit_widths;
      deny_bits = filled_end _ _ _ _ _ inv.deny_bits inv.few i (omega arith);
      deny_widths = inv.deny_widths;
    }

pub returns : goal.returns
returns c =
    let turn = c.loop-i in
    let inv = turn.invariant in
    let end : 64 * c.args.shape.n ≤ 64 * turn.i = omega arith in
    let last : 64 * turn.i ≡ 64 * c.args.shape.n = omega arith in (
      given_all _ _ _ c.requires.0 end Decision.Permit _ inv.permit_bits,
      given_all _ _ _ c.requires.0 end Decision.Deny _ inv.deny_bits,
      given_rest _ _ _ c.requires.0 end Decision.Permit _ refl last inv.permit_bits,
      given_rest _ _ _ c.requires.0 end Decision.Deny _ refl last inv.deny_bits,
    )
