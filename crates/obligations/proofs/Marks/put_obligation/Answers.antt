-- `Marks::put_obligation`: nothing, or the name and its newline.
use mathlib.Core.Path.{sym, ◌∙◌}
use native.Mathlib.Omega.{arith}
use Rattle.layout.proofs.Obligations.{name_there, no_name_there}
use Rattle.obligations.proofs.Texts.{name_length, no_slot, other_slot, name_slot}
use Rattle.obligations.proofs.Marks.put_obligation.Goals as goal

pub returns-then-is_none : goal.returns-then-is_none
returns-then-is_none c =
    let a = c.args in
    no_slot a.self.now.file.now a.self.now.places.now a.i a.k a.permit a.sink.now (no_name_there _ c.obligation-name.ensures c.is_none.ensures c.if-is_none.true)

pub overflow_add-name : goal.overflow_add-name
overflow_add-name c =
    let some = name_there _ c.obligation-name.ensures c.is_none.ensures c.if-is_none.false in
    rw c.obligation-name.ensures (omega (arith, c.requires.0.ends c.args.k c.requires.1 some))

pub bounds-self-name : goal.bounds-self-name
bounds-self-name c =
    let some = name_there _ c.obligation-name.ensures c.is_none.ensures c.if-is_none.false in
    rw c.obligation-name.ensures (c.requires.0.ends c.args.k c.requires.1 some)

pub returns-then-not-spells : goal.returns-then-not-spells
returns-then-not-spells c =
    let a = c.args in
    let some = name_there _ c.obligation-name.ensures c.is_none.ensures c.if-is_none.false in
    other_slot a.self.now.file.now a.self.now.places.now a.i a.k a.permit some a.sink.now (sym (rw c.obligation-name.ensures at c.spells.ensures) ∙ c.if-not-spells.true)

pub slice_bounds-put_field-count : goal.slice_bounds-put_field-count
slice_bounds-put_field-count c = rw c.obligation-name.ensures (c.requires.0.starts c.args.k c.requires.1)

pub slice_bounds-put_field-start : goal.slice_bounds-put_field-start
slice_bounds-put_field-start c = rw c.obligation-name.ensures (c.requires.0.starts c.args.k c.requires.1)

pub slice_bounds-put_field-end : goal.slice_bounds-put_field-end
slice_bounds-put_field-end c =
    let some = name_there _ c.obligation-name.ensures c.is_none.ensures c.if-is_none.false in
    rw c.obligation-name.ensures (omega (arith, c.requires.0.ends c.args.k c.requires.1 some))

pub put_field-requires : goal.put_field-requires
put_field-requires c =
    rw c.obligation-name.ensures (omega (arith, name_length c.args.self.now.file.now c.args.self.now.places.now c.args.i c.args.k c.requires.0 c.requires.1, c.requires.2))

pub returns : goal.returns
returns c =
    let a = c.args in
    let some = name_there _ c.obligation-name.ensures c.is_none.ensures c.if-is_none.false in
    name_slot a.self.now.file.now a.self.now.places.now a.i a.k a.permit some c.requires.0 c.requires.1 (sym (rw c.obligation-name.ensures at c.spells.ensures) ∙ c.if-not-spells.false) (rw c.obligation-name.ensures at c.put_field.ensures)
