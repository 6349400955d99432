-- `apply` by the parent, or as the top.
use mathlib.Core.Path.{sym}
use Rattle.std.proofs.Common.{rules, arith}
use Rattle.table.proofs.Above.{up}
use Rattle.rows.proofs.Rows.{narrowed_top, narrowed_up}
use Rattle.rows.proofs.+apply.Goals as goal

pub apply-requires : goal.apply-requires
apply-requires t c =
    let args = c.args in
    let found = up args.table.now args.i _ (sym c.in-Some.ensures.value) in
    (omega (arith, c.decreases, found.higher), (c.requires.0, omega (arith, c.requires.1, c.in-Some.ensures.earlier), search rules))

pub returns-in-Some : goal.returns-in-Some
returns-in-Some t c =
    let args = c.args in
    let found = up args.table.now args.i _ (sym c.in-Some.ensures.value) in
    narrowed_up args.table.now args.hits.now args.n args.blocks args.i c.requires.1 args.row.now c.narrow.new.row c.narrow.ensures _ c.apply.new.row found c.apply.ensures

pub returns-in_default : goal.returns-in_default
returns-in_default t c =
    let args = c.args in
    narrowed_top args.table.now args.hits.now args.n args.blocks args.i c.requires.1 args.row.now c.narrow.new.row c.narrow.ensures c.in_default.ensures.value
