-- `comparing::same_long` meets its contract: by bytes, or by the words at both ends.
use Prim.Native.Nat.{◌-◌}
use mathlib.Core.Path.{sym, ap, ◌∙◌}
use native.Mathlib.Omega.{arith}
use borrow.Author.Rules.{rules}
use lib.ListN.{length}
use Rattle.comparing.specs.Words.{word_at}
use Rattle.laws.proofs.Text.{same_apart}
use Rattle.comparing.proofs.Equal.{same_words}
use Rattle.comparing.proofs.same_long.Goals as goal

pub returns-then-word : goal.returns-then-word
returns-then-word c =
    let a = c.args in
    sym (same_apart a.a.now a.b.now (λ e. c.if-word.true (c.word.ensures.value ∙ ap (λ l. word_at l (length a.a.now - 8)) e ∙ sym c.word-2.ensures.value)))

pub returns-then-word-2 : goal.returns-then-word-2
returns-then-word-2 c =
    let a = c.args in
    sym (same_apart a.a.now a.b.now (λ e. c.if-word-2.true (c.word-3.ensures.value ∙ ap (λ l. word_at l 0) e ∙ sym c.word-4.ensures.value)))

pub returns : goal.returns
returns c =
    let a = c.args in
    let last = c.word.ensures.value in
    let low = c.word-3.ensures.value in
    sym
    (same_words a.a.now a.b.now (length a.a.now - 8) (search rules) (omega arith) (omega arith)
    c.word.ensures.bytes
    c.word-2.ensures.bytes
    (sym last ∙ c.if-word.false ∙ c.word-2.ensures.value)
    c.word-3.ensures.bytes
    c.word-4.ensures.bytes
    (sym low ∙ c.if-word-2.false ∙ c.word-4.ensures.value))
