-- `severals`: each is what its place says.
use mathlib.Core.Path.{◌≡◌, sym, ◌∙◌}
use mathlib.Core.Bool.{false}
use native.Mathlib.Omega.{arith}
use borrow.Author.Rules.{rules}
use lib.ListN.{length, get_or, get_or-map}
use Rattle.std.proofs.lemmas.List.{ext_get_or, length-map}
use Rattle.layout.specs.Places.{nowhere, severals_at}
use Rattle.layout.proofs.Attributes.severals.Goals as goal

pub returns : goal.returns
returns c =
    let items = c.map.ensures.items in
    let all = c.args.self.now.all in
    let six : length all ≡ 6 = search rules in
    ext_get_or false c.map.result (severals_at c.args.self.now) (items.long ∙ sym (length-map all (λ p. p.several) ∙ six)) (λ i l.
    let (before, after, called) = items.at i nowhere false (omega (arith, items.long)) in
    let is : get_or c.map.result i false ≡ (get_or all i nowhere).several = search rules in
    is ∙ sym (get_or-map (λ p. p.several) all i nowhere))
