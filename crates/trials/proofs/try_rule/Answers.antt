-- `try_rule`: the flag is set for the comparison, and set back. Assumes nothing.
use mathlib.Core.Path.{refl, sym, ◌∙◌}
use native.Mathlib.Omega.{arith}
use lib.ListN.{length-set}
use Rattle.trials.proofs.Trying.{set_back, rule_needless, rule_needed, rule_flag, trial}
use Rattle.trials.proofs.try_rule.Goals as goal

pub returns-then-not-is_left : goal.returns-then-not-is_left
returns-then-not-is_left c = (sym c.is_left.ensures ∙ c.if-not-is_left.true, refl)

pub some_change-change-requires : goal.some_change-change-requires
some_change-change-requires c =
    let o = c.args.o.now in
    let p = o.policy in
    let rule = sym c.is_left.ensures ∙ c.if-not-is_left.false in
    trial p.table.now c.args.struck.now c.args.i rule p.file.now p.places.now o.hits.now o.outcomes.now p.shape c.requires.0 c.requires.1

pub bounds-struck-i-2 : goal.bounds-struck-i-2
bounds-struck-i-2 c = simp length-set (omega arith)

pub returns-in-Some : goal.returns-in-Some
returns-in-Some c =
    let p = c.args.o.now.policy in
    let rule = sym c.is_left.ensures ∙ c.if-not-is_left.false in
    let live = rule_flag p.table.now c.args.struck.now c.args.i rule in
    let (within, changes) = c.in-Some.ensures in
    (rule_needed p.file.now p.places.now p.table.now c.args.struck.now p.shape c.args.i live rule _ within changes, set_back c.args.struck.now c.args.i 0 live)

pub returns-in-None : goal.returns-in-None
returns-in-None c =
    let p = c.args.o.now.policy in
    let rule = sym c.is_left.ensures ∙ c.if-not-is_left.false in
    let live = rule_flag p.table.now c.args.struck.now c.args.i rule in
    (rule_needless p.file.now p.places.now p.table.now c.args.struck.now p.shape c.args.i live rule c.in-None.ensures, set_back c.args.struck.now c.args.i 0 live)
