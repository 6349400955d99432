-- `comparing::same_bytes` meets its contract, byte by byte.
use mathlib.Core.Path.{refl}
use borrow.Author.Rules.{rules}
use Rattle.text.proofs.SameBytes.{alike_same}
use Rattle.comparing.proofs.same_bytes.Goals as goal

pub returns : goal.returns
returns c =
    let a = c.args.a.now in
    let b = c.args.b.now in
    alike_same a b a b c.alike.result c.alike.ensures (search rules) refl (λ k t e. search rules)
