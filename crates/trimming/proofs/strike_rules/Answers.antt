-- `strike_rules`: what is to come completes what striking from the start gives. Assumes nothing.
use Prim.Native.Nat.{◌-◌, ◌<◌}
use mathlib.Core.Path.{◌≡◌, refl, sym, ap, ◌∙◌}
use native.Mathlib.Omega.{arith}
use borrow.Author.Rules.{rules}
use lib.ListN.{length, length-set}
use Rattle.laws.proofs.Found.{found_none}
use Rattle.table.specs.Shape.{hit_of}
use Rattle.trimming.proofs.Strikes.{next_found, trimming_stops, laid_next, strikes_none, strikes_next, strikes_end, strikes_all}
use Rattle.trimming.proofs.Knowing.{known_next}
use Rattle.trimming.proofs.strike_rules.Goals as goal

pub loop-count-init : goal.loop-count-init
loop-count-init c = let pre = c.requires in (refl, refl, refl, pre.0, strikes_none _ _ _ _ _ _, pre.2)

pub next_rule-requires : goal.next_rule-requires
next_rule-requires c = let inv = c.loop-count.invariant in (inv.3, omega arith, inv.5)

pub returns-in_default : goal.returns-in_default
returns-in_default c =
    let p = c.args.o.now.policy in
    let turn = c.loop-count in
    let told = c.next_rule.ensures in
    let none = found_none _ (sym told.0 ∙ c.in_default.is) in
    let end = trimming_stops p.file.now p.places.now p.table.now p.shape.n (hit_of p.shape) p.shape.space turn.struck (p.shape.n - turn.count) none in
    strikes_end p.file.now p.places.now p.table.now p.shape _ _ _ _ _ turn.invariant.4 _ _ told.1 end (omega arith) c.requires.3 turn.invariant.3

pub bounds-struck-next : goal.bounds-struck-next
bounds-struck-next c =
    let p = c.args.o.now.policy in
    let turn = c.loop-count in
    let next = next_found p.file.now p.places.now p.table.now p.shape.n (hit_of p.shape) p.shape.space turn.struck _ c.in-Some.ensures.0 in
    omega (arith, next.below, ap length c.in-Some.ensures.1, turn.invariant.3.ready.flags)

pub overflow_cast-order : goal.overflow_cast-order
overflow_cast-order c =
    let p = c.args.o.now.policy in
    let next = next_found p.file.now p.places.now p.table.now p.shape.n (hit_of p.shape) p.shape.space c.loop-count.struck _ c.in-Some.ensures.0 in
    omega (arith, next.below, c.requires.0.ready.few)

pub forget-requires : goal.forget-requires
forget-requires c =
    let p = c.args.o.now.policy in
    let laid = c.requires.0 in
    let next = next_found p.file.now p.places.now p.table.now p.shape.n (hit_of p.shape) p.shape.space c.loop-count.struck _ c.in-Some.ensures.0 in
    (omega (arith, next.below, laid.matched.room), search rules, λ i l is_known. omega (arith, (c.in-Some.ensures.2 i l is_known).0, laid.ready.small))

pub loop-count-preserved : goal.loop-count-preserved
loop-count-preserved c =
    let o = c.args.o.now in
    let p = o.policy in
    let turn = c.loop-count in
    let (told, same, known) = c.in-Some.ensures in
    let next = next_found p.file.now p.places.now p.table.now p.shape.n (hit_of p.shape) p.shape.space turn.struck _ told in
    let more : turn.count < p.shape.n = omega arith in (
      rw length-set (ap length same ∙ turn.invariant.0),
      search rules,
      rw length-set turn.invariant.2,
      rw same (laid_next p.file.now p.places.now p.table.now turn.struck p.shape _ next.needless _ _ turn.invariant.3),
      strikes_next p.file.now p.places.now p.table.now p.shape _ _ _ _ _ turn.invariant.4 _ _ more same next,
      rw same (known_next p.file.now p.places.now p.table.now p.shape turn.struck o.hits.now o.outcomes.now _ next.below next.needless turn.invariant.3 _ _ known c.forget.ensures),
    )

pub returns : goal.returns
returns c =
    let p = c.args.o.now.policy in
    let turn = c.loop-count in
    let all = strikes_all p.file.now p.places.now p.table.now p.shape _ _ _ _ _ turn.invariant.4 (omega arith) in
    let last : turn.count ≡ p.shape.n = omega arith in
    rw last at (strikes_end p.file.now p.places.now p.table.now p.shape _ _ _ _ _ turn.invariant.4 _ _ refl all (omega arith) c.requires.3 turn.invariant.3)
