-- `PolicyOutcomes::obligation_difference`: the marks under both lists of flags tell which obligations come. Assumes nothing.
use native.Mathlib.Omega.{arith}
use borrow.Author.Rules.{rules}
use Rattle.differences.proofs.Apart.{obligation_room}
use Rattle.differences.proofs.Marking.{first_of_both}
use Rattle.differences.proofs.PolicyOutcomes.obligation_difference.Goals as goal

pub unlike-requires : goal.unlike-requires
unlike-requires c = let compared = c.requires.0 in (obligation_room compared.obliged compared.ready, search rules, search rules)

pub first_given-given-requires : goal.first_given-given-requires
first_given-given-requires c =
    let pre = c.requires in
    let compared = pre.0 in
    (record { few = compared.ready.few; each = compared.obliged; words = search rules; place = omega arith }, search rules, omega (arith, pre.1, compared.ready.small))

pub returns : goal.returns
returns c =
    let args = c.args in
    let o = args.self.now in
    let p = o.policy in
    rw c.or.ensures (first_of_both p.file.now p.places.now p.table.now args.before.now args.struck.now o.hits.now o.outcomes.now p.shape c.requires.0 _ _ _ _ args.block c.requires.1 c.ask_all.ensures c.ask_all-2.ensures _ _ c.requires.2 c.unlike.ensures _ _ c.requires.3 (rw c.unwrap_or-bound.ensures at c.first_given-given.ensures))
