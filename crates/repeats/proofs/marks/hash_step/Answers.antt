-- `repeats::marks::hash_step` meets its contract: a byte stays one with a bit more.
use Prim.Native.Nat.{◌<◌}
use native.Mathlib.Omega.{arith}
use lib.Bits.{bit_or, or_lt}
use lib.Dec.{lit<}
use borrow.Author.Rules.{rules}
use Rattle.repeats.proofs.marks.hash_step.Goals as goal

byte : (b : _) → b < 256 → bit_or b 32 < 256
byte b l = or_lt 8 b 32 l (lit< tt)

pub overflow_cast-result : goal.overflow_cast-result
overflow_cast-result c = let small = byte c.args.b (search rules) in omega arith

pub overflow_add-result : goal.overflow_add-result
overflow_add-result c = let small = byte c.args.b (search rules) in omega arith

pub overflow_mul-result : goal.overflow_mul-result
overflow_mul-result c = let small = byte c.args.b (search rules) in omega arith
