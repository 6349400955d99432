-- `repeats::has` meets its contract: a name that has a place is among the names.
use mathlib.Core.Path.{sym, ap, ◌∙◌}
use Rattle.std.specs.Option.{is_some}
use Rattle.meaning.specs.Text.{cut, tab}
use Rattle.meaning.specs.Deciding.{value_of}
use Rattle.laws.proofs.Names.{among_placed}
use Rattle.repeats.proofs.Fields.{found_placed}
use Rattle.repeats.proofs.has.Goals as goal

pub returns : goal.returns
returns c =
    let a = c.args in
    let fs = cut tab a.fields.now in
    c.is_some.ensures ∙ ap is_some c.find.ensures.value ∙ found_placed (value_of 0 a.name.now fs) ∙ sym (among_placed 0 a.name.now fs)
