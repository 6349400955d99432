-- `Request::number`: the values passed weigh, with those to come, the whole number. Assumes nothing.
use mathlib.Core.Path.{◌≡◌, sym, ◌∙◌}
use native.Mathlib.Nat.{zero-mul, zero-add}
use native.Mathlib.Omega.{arith}
use borrow.Author.Rules.{rules}
use Prim.Native.Nat.{ℕ, ◌+◌, ◌*◌, ◌≤◌, ◌<◌}
use mathlib.Core.List.{List}
use lib.ListN.{length, take, get_or}
use Rattle.meaning.specs.Model.{product}
use Rattle.meaning.specs.Deciding.{number_of}
use Rattle.requests.proofs.Laws.{Below, weighed, fits, weigh, weigh_small, weighed_all}
use Rattle.requests.proofs.Request.number.Goals as goal

pub loop-i-init : goal.loop-i-init
loop-i-init c = rw (zero-mul, zero-add)

-- what was weighed is less than the space
below_space : (len i total : ℕ) (counts values : List ℕ) → len ≤ 6 → length counts ≡ 6 → length values ≡ 6 → i < len → Below len counts values → weighed len i total counts values ≡ number_of (take len counts) (take len values)
    → total * get_or counts i 0 + get_or values i 0 < product (take len counts)
below_space len i total counts values few six six-values l below kept =
    weigh_small len i counts values l (omega arith) (omega arith) total (fits len counts values (omega arith) (omega arith) below) kept

pub overflow_mul-total : goal.overflow_mul-total
overflow_mul-total c =
    let small = below_space _ _ _ _ _ c.requires.few (search rules) (search rules) (omega arith) c.requires.below c.loop-i.invariant in
    omega (arith, c.requires.small)

pub overflow_add-total : goal.overflow_add-total
overflow_add-total c =
    let small = below_space _ _ _ _ _ c.requires.few (search rules) (search rules) (omega arith) c.requires.below c.loop-i.invariant in
    omega (arith, c.requires.small)

pub loop-i-preserved : goal.loop-i-preserved
loop-i-preserved c =
    let turn = c.loop-i in
    let few = c.requires.few in
    let six : length c.args.counts ≡ 6 = search rules in
    let six-values : length c.args.self.values ≡ 6 = search rules in
    sym (weigh c.args.self.len turn.i c.args.counts c.args.self.values (omega arith) (omega arith) (omega arith) turn.total) ∙ turn.invariant

pub returns : goal.returns
returns c =
    let turn = c.loop-i in
    let all : turn.i ≡ c.args.self.len = omega arith in
    let few = c.requires.few in
    let six : length c.args.counts ≡ 6 = search rules in
    sym (weighed_all c.args.self.len turn.i turn.total c.args.counts c.args.self.values (omega arith) all) ∙ turn.invariant
