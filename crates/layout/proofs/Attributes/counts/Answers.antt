-- `counts`: each is what its place says.
use mathlib.Core.Path.{◌≡◌, sym, ◌∙◌}
use native.Mathlib.Omega.{arith}
use borrow.Author.Rules.{rules}
use lib.ListN.{length, get_or, get_or-map}
use Rattle.std.proofs.lemmas.List.{ext_get_or, length-map}
use Rattle.layout.specs.Places.{nowhere, counts_at}
use Rattle.layout.proofs.Attributes.counts.Goals as goal

pub returns : goal.returns
returns c =
    let items = c.map.ensures.items in
    let all = c.args.self.now.all in
    let six : length all ≡ 6 = search rules in
    ext_get_or 0 c.map.result (counts_at c.args.self.now) (items.long ∙ sym (length-map all (λ p. p.count) ∙ six)) (λ i l.
    let (before, after, called) = items.at i nowhere 0 (omega (arith, items.long)) in
    let is : get_or c.map.result i 0 ≡ (get_or all i nowhere).count = search rules in
    is ∙ sym (get_or-map (λ p. p.count) all i nowhere))
