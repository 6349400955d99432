-- `join_both`: the first line that differs, a bad word, a text that is too long, or what reading it and the buffer say. Assumes nothing.
use native.Mathlib.Omega.{arith}
use borrow.Author.Rules.{rules}
use mathlib.Core.Path.{sym, ◌∙◌}
use Rattle.laws.proofs.Found.{found_some, found_none}
use Rattle.syntax.proofs.Fields.{no_word}
use Rattle.printing.proofs.Laws.{filled}
use Rattle.joining.proofs.Starts.{joinable}
use Rattle.joining.proofs.Told.{laid_part, short_word, differs_told, no_word_told, too_long_told, text_joined}
use Rattle.joining.proofs.join_both.Goals as goal

pub returns-in-Some : goal.returns-in-Some
returns-in-Some c = differs_told _ c.requires.0 c.requires.1 _ (found_some _ (sym c.first_differing.ensures.value ∙ c.in-Some.is)) c.into.ensures

pub returns-then-is_none : goal.returns-then-is_none
returns-then-is_none c =
    let alike = found_none _ (sym c.first_differing.ensures.value ∙ c.in_default.is) in
    no_word_told _ c.requires.0 c.requires.1 _ alike (no_word _ c.word_of.ensures c.is_none.ensures) c.if-is_none.true _ c.places_in-joined.ensures.value c.into-then-is_none.ensures

pub put_joined-requires : goal.put_joined-requires
put_joined-requires c =
    (joinable _ _ _ c.requires.0, joinable _ _ _ c.requires.1, short_word c.args.word.now (no_word _ c.word_of.ensures c.is_none.ensures) c.if-is_none.false, omega arith)

pub returns-then-needed-gt16384 : goal.returns-then-needed-gt16384
returns-then-needed-gt16384 c =
    let alike = found_none _ (sym c.first_differing.ensures.value ∙ c.in_default.is) in
    too_long_told _ c.requires.0 c.requires.1 _ alike (no_word _ c.word_of.ensures c.is_none.ensures) c.if-is_none.false c.put_joined.ensures.wrote c.if-needed-gt16384.true c.into-then-needed-gt16384.ensures

pub slice_bounds-accept-end : goal.slice_bounds-accept-end
slice_bounds-accept-end c = laid_part (filled c.put_joined.ensures (search rules)) (omega (arith, c.if-needed-gt16384.false))

pub returns : goal.returns
returns c =
    let alike = found_none _ (sym c.first_differing.ensures.value ∙ c.in_default.is) in
    text_joined _ c.requires.0 c.requires.1 _ alike (no_word _ c.word_of.ensures c.is_none.ensures) c.if-is_none.false (filled c.put_joined.ensures (search rules)) (omega (arith, c.if-needed-gt16384.false)) c.accept.ensures
