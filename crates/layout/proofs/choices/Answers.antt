-- `choices`: a bit shifted by at most 16 stays within a word.
use mathlib.Core.Path.{◌≡◌, ap, ◌∙◌}
use Prim.Native.Nat.{◌*◌, ◌-◌, ◌^◌, ◌%◌}
use native.Mathlib.Nat.{one-mul}
use native.Mathlib.Omega.{arith}
use lib.Dec.{lit<}
use lib.Pow.{shl_exact, pow_pos}
use Rattle.layout.proofs.choices.Goals as goal

pub overflow_sub-result : goal.overflow_sub-result
overflow_sub-result c =
    let bit : 1 * 2 ^ c.args.values % 18446744073709551616 ≡ 2 ^ c.args.values = shl_exact {a = 1} 1 c.args.values 64 (lit< tt) (omega arith) ∙ one-mul (2 ^ c.args.values) in
    rw (bit) (omega (arith, pow_pos c.args.values))

pub returns-then-several : goal.returns-then-several
returns-then-several c =
    let bit : 1 * 2 ^ c.args.values % 18446744073709551616 ≡ 2 ^ c.args.values = shl_exact {a = 1} 1 c.args.values 64 (lit< tt) (omega arith) ∙ one-mul (2 ^ c.args.values) in
    rw c.if-several.true (ap (λ n. n - 1) (bit))
