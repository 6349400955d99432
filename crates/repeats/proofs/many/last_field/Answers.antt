-- `repeats::many::last_field` meets its contract. The loop keeps the hash of the bytes passed, and the fields behind.
use Prim.Native.Nat.{◌+◌, ◌-◌, ◌≤◌, ◌<◌}
use mathlib.Core.Path.{◌≡◌, refl, sym, ap, ◌∙◌}
use native.Mathlib.Omega.{arith}
use lib.ListN.{length, get_or}
use Rattle.repeats.specs.Marks.{hash_step, hash_of}
use Rattle.repeats.proofs.Backward.{before_hash, before_others}
use Rattle.repeats.proofs.many.last_field.Goals as goal

pub loop-i-init : goal.loop-i-init
loop-i-init c = (sym (ap hash_of c.requires.1), refl)

pub returns-then-b-eq9 : goal.returns-then-b-eq9
returns-then-b-eq9 c =
    let kept = c.loop-i.invariant in
    let here : c.loop-i.i - 1 + 1 ≡ c.loop-i.i = omega arith in
    rw here (record { within = omega arith; hashed = kept.0; others = kept.1; before = λ some. c.if-b-eq9.true })

pub loop-i-preserved : goal.loop-i-preserved
loop-i-preserved c =
    let s = c.args.s.now in
    let i = c.loop-i.i in
    let kept = c.loop-i.invariant in
    let some : 0 < i = omega arith in
    let inside : i ≤ length s = omega arith in
    let other = c.if-b-eq9.false in (
      c.hash_step-hash.ensures ∙ ap (hash_step (get_or s (i - 1) 0)) kept.0 ∙ sym (before_hash s i some inside other),
      before_others s i some inside other ∙ kept.1,
    )

pub returns : goal.returns
returns c =
    let kept = c.loop-i.invariant in
    let none : c.loop-i.i ≡ 0 = omega arith in
    record { within = omega arith; hashed = rw none at kept.0; others = rw none at kept.1; before = λ some. absurd (omega arith) }
