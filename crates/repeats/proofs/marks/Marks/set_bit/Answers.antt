-- `repeats::marks::Marks::set_bit` meets its contract: 1 moved up by so many places is the bit's power of two.
use Prim.Native.Nat.{◌/◌, ◌%◌, ◌^◌}
use mathlib.Core.Path.{ap, ◌∙◌}
use native.Mathlib.Nat.{one-mul}
use native.Mathlib.Omega.{arith}
use lib.Dec.{lit<}
use lib.ListN.{get_or, set}
use lib.Bits.{bit_or}
use lib.Pow.{shl_exact}
use Rattle.repeats.specs.Marks.{with_bit}
use Rattle.repeats.proofs.marks.Marks.set_bit.Goals as goal

pub returns : goal.returns
unfolding with_bit
returns c =
    let ws = c.args.self.now.words in
    let p = c.args.p in
    let bit = shl_exact {a = 1} 1 (p % 64) 64 (lit< tt) (omega arith) ∙ one-mul (2 ^ (p % 64)) in
    ap (λ x. set ws (p / 64) (bit_or (get_or ws (p / 64) 0) x)) bit
