-- `jogimaduve_trim` meets its contract: the file's refusal, or the trimmed text fitted to the buffer.
use mathlib.Core.Path.{refl}
use native.Mathlib.Omega.{arith}
use Rattle.meaning.specs.Report.{trim_file}
use Rattle.reader.proofs.FileRead.{file_read, sizable}
use Rattle.jogimaduve.proofs.Refusing.{refusal}
use Rattle.jogimaduve.proofs.Shaping.{ready, steady_read, copies}
use Rattle.jogimaduve.proofs.Trimming.{small_text, trim_fitted}
use Rattle.jogimaduve.proofs.jogimaduve_trim.Goals as goal

pub returns-in-Err : goal.returns-in-Err
unfolding trim_file
returns-in-Err c = let both = refusal c.in-Err.ensures c.into.ensures c.args.out.now _ in record { value = both.0; out_after = both.1 }

pub held-policy-requires : goal.held-policy-requires
held-policy-requires c = sizable c.in-Ok.ensures

pub strike-requires : goal.strike-requires
strike-requires c =
    let (p, h, holds) = file_read c.in-Ok.ensures in
    rw c.held-policy.ensures (steady_read _ _ _ _ p h holds _ refl, ready _ _ _ _ p h holds _ refl _ (omega arith) refl)

pub invariant_of-kept : goal.invariant_of-kept
invariant_of-kept c =
    let (p, h, holds) = file_read c.in-Ok.ensures in
    rw c.held-policy.ensures (record { copies = copies _ _ _ _ p h holds _ (omega arith); short = small_text _ p h _ (omega arith) })

pub returns : goal.returns
returns c =
    let (p, h, holds) = file_read c.in-Ok.ensures in
    let both = trim_fitted _ _ _ _ p h holds _ refl _ (rw c.held-policy.ensures at c.strike.ensures) (rw c.held-policy.ensures at c.answer.ensures) in
    record { value = both.0; out_after = both.1 }
