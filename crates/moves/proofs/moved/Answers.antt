-- `moved`: nothing where the rule and the element over it match no request together. Assumes nothing.
use mathlib.Core.Path.{refl, sym, ap, ap₂, ◌∙◌}
use mathlib.Core.Bool.{◌&&◌}
use native.Mathlib.Omega.{arith}
use Rattle.meaning.specs.Deciding.{bit}
use Rattle.laws.proofs.Bits.{bit_and_lem, bit_zero}
use Rattle.table.specs.Rows.{element_at, word_number, word_at, algorithm_number}
use Rattle.moves.specs.Moved.{effect_reply}
use Rattle.moves.proofs.Turns.{so_first}
use Rattle.moves.proofs.moved.Goals as goal

pub returns-then-reach-eq0 : goal.returns-then-reach-eq0
returns-then-reach-eq0 c v hit answers =
    let b = c.args.b.now in
    let t = b.table.now in
    let rule = c.args.rule in
    let up = c.args.up in
    let child = c.requires in
    let own = ap₂ (λ x y. bit x v && bit y v) c.matched.ensures c.matched-2.ensures in
    let none = ap₂ (λ x y. x && y) (sym (answers rule child.inside)) (sym (answers up (omega (arith, child.under.earlier, child.inside)))) ∙ sym own ∙ sym (bit_and_lem _ _ v) ∙ ap (λ w. bit w v) c.if-reach-eq0.true ∙ bit_zero v in
    bit_zero v ∙ sym ((so_first hit t b.struck.now b.n up rule (algorithm_number (word_at (word_number t up))) child b.fits.flags refl (hit (element_at t rule) && hit (element_at t up)) refl).1 none)

pub still_moved-requires : goal.still_moved-requires
still_moved-requires c =
    let own = c.effect-own.ensures in (
      c.requires,
      record {
        replies = λ v. own.0 v ∙ ap₂ effect_reply c.word_at.ensures (ap (λ w. bit w v) (sym own.1));
        reach = λ v. ap (λ w. bit w v) own.1 ∙ bit_and_lem _ _ v ∙ ap₂ (λ x y. bit x v && bit y v) c.matched.ensures c.matched-2.ensures;
      },
    )
