-- `names::same_name` meets its contract: by lengths, or letter by letter.
use mathlib.Core.Path.{◌≡◌, sym, ◌∙◌}
use borrow.Author.Rules.{rules}
use lib.Dec.{eqb}
use lib.ListN.{length, get_or}
use Rattle.meaning.specs.Text.{folded, lower}
use Rattle.text.proofs.SameBytes.{alike_same}
use Rattle.names.proofs.Letters.{lower_length, lower_at, other_length}
use Rattle.names.proofs.same_name.Goals as goal

pub returns-then-a-b : goal.returns-then-a-b
returns-then-a-b c = let a = c.args in sym (other_length a.a.now a.b.now c.if-a-b.true)

pub returns : goal.returns
returns c =
    let a = c.args.a.now in
    let b = c.args.b.now in
    let size : length (lower a) ≡ length (lower b) = lower_length a ∙ c.if-a-b.false ∙ sym (lower_length b) in
    alike_same a b (lower a) (lower b) c.alike.result c.alike.ensures size (lower_length a) (λ k t e. let letters : t ≡ eqb (folded (get_or a k 0)) (folded (get_or b k 0)) = search rules in rw (lower_at a k, lower_at b k) letters)
