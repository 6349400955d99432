-- What fits is copied.
use mathlib.Core.Path.{refl, sym}
use native.Mathlib.Omega.{arith}
use Rattle.printing.proofs.Laws.{sets_out, copied_fit}
use Rattle.printing.proofs.Sink.put_bytes.Goals as goal
use Rattle.printing.proofs.Sink.put_bytes.Goals.{then-self, else-self}

pub returns : goal.returns
returns c =
    let self = c.args.self.now in
    let bytes = c.args.bytes.now in
    elim c.if-self.branch [
      | then-self w ↦
          rw w.self-is record {
            buffer = refl;
            wrote = record { moved = refl; laid = copied_fit self.out.now w.copy_from_slice.new.self bytes self.at _ w.min-fit.result w.if-self.true w.min-fit.ensures (omega arith) w.copy_from_slice.ensures.after };
          }
      | else-self w ↦ rw w.self-is record { buffer = refl; wrote = record { moved = refl; laid = sym (sets_out self.out.now self.at bytes w.if-self.false) } }
    ]
