-- `choices_from`: the product of the sizes from `i` on. Assumes nothing.
use Prim.Native.Nat.{◌-◌}
use mathlib.Core.Path.{◌≡◌, sym, ap, ◌∙◌}
use native.Mathlib.Omega.{arith}
use lib.ListN.{length, take, drop}
use borrow.Author.Rules.{rules}
use Rattle.meaning.specs.Model.{product}
use Rattle.value_pairs.proofs.Finding.{product_drop, product_before, product_none}
use Rattle.value_pairs.proofs.choices_from.Goals as goal

pub loop-i-init : goal.loop-i-init
loop-i-init c =
    let six : length c.args.counts ≡ 6 = search rules in
    (c.requires.0, sym (product_none c.args.counts c.args.len (omega arith)))

pub overflow_mul-total : goal.overflow_mul-total
overflow_mul-total c =
    let l = c.loop-i in
    let six : length c.args.counts ≡ 6 = search rules in
    let next = product_before c.args.counts c.args.len l.i (omega arith) (omega arith) (omega arith) l.invariant.1 in
    omega (arith, next, product_drop (l.i - 1) (take c.args.len c.args.counts) c.requires.2, c.requires.3)

pub loop-i-preserved : goal.loop-i-preserved
loop-i-preserved c =
    let six : length c.args.counts ≡ 6 = search rules in
    (omega arith, product_before c.args.counts c.args.len c.loop-i.i (omega arith) (omega arith) (omega arith) c.loop-i.invariant.1)

pub returns : goal.returns
returns c =
    let l = c.loop-i in
    let all : l.i ≡ c.args.from = omega arith in
    l.invariant.1 ∙ ap (λ k. product (drop k (take c.args.len c.args.counts))) all
