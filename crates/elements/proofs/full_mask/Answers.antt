-- `full_mask` meets its contract: a shift of 1 by the count loses no bit.
use mathlib.Core.Path.{◌≡◌, ap, ◌∙◌}
use Prim.Native.Nat.{ℕ, ◌-◌, ◌*◌, ◌^◌, ◌%◌, ◌≤◌}
use native.Mathlib.Nat.{one-mul}
use native.Mathlib.Omega.{arith}
use lib.Dec.{lit<}
use lib.Pow.{shl_exact, pow_pos, pow_mono}
use Rattle.elements.proofs.full_mask.Goals as goal

bit : (count : ℕ) → count ≤ 16 → 1 * 2 ^ count % 4294967296 ≡ 2 ^ count
bit count few = shl_exact {a = 1} 1 count 32 (lit< tt) (omega arith) ∙ one-mul (2 ^ count)

pub overflow_sub-result : goal.overflow_sub-result
overflow_sub-result c = rw (bit c.args.count c.requires) (pow_pos c.args.count)

pub overflow_cast-result-2 : goal.overflow_cast-result-2
overflow_cast-result-2 c = rw (bit c.args.count c.requires) (omega (arith, pow_mono {i = c.args.count} {j = 16} c.requires))

pub returns : goal.returns
returns c = ap (λ n. n - 1) (bit c.args.count c.requires)
