-- `needed_by`: the flag is set for the search, and set back. Assumes nothing.
use native.Mathlib.Omega.{arith}
use lib.ListN.{length-set}
use Rattle.trials.proofs.Trying.{set_back, first_change_is, rule_flag, trial}
use Rattle.trials.proofs.needed_by.Goals as goal

pub group_over-up-requires : goal.group_over-up-requires
group_over-up-requires c = let pre = c.requires in omega (arith, pre.0.ready.rows, pre.1)

pub first_change-shown-requires : goal.first_change-shown-requires
first_change-shown-requires c =
    (trial c.args.o.now.policy.table.now c.args.struck.now c.args.rule c.requires.2 c.args.o.now.policy.file.now c.args.o.now.policy.places.now c.args.o.now.hits.now c.args.o.now.outcomes.now c.args.o.now.policy.shape c.requires.0 c.requires.1, c.group_over-up.ensures)

pub bounds-struck-rule-2 : goal.bounds-struck-rule-2
bounds-struck-rule-2 c = simp length-set (omega arith)

pub returns : goal.returns
returns c =
    let rule = c.args.rule in
    let live = rule_flag c.args.o.now.policy.table.now c.args.struck.now rule c.requires.2 in
    (first_change_is c.args.o.now.policy.file.now c.args.o.now.policy.places.now c.args.o.now.policy.table.now c.args.struck.now c.args.o.now.policy.shape rule live _ c.first_change-shown.ensures, set_back c.args.struck.now rule 0 live)
