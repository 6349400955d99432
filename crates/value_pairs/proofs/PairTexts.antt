-- The lines of pairs, field by field and run by run; and the room that they take.
use mathlib.Core.Path.{◌≡◌}
use Prim.Native.Nat.{ℕ, ◌+◌, ◌-◌, ◌*◌, ◌/◌, ◌%◌, ◌≤◌, ◌<◌}
use native.Mathlib.Nat.{le_trans, suc-mul, mul_assoc, mul_comm, mul-le-mul_right, mod-le, mod-lt}
use native.Mathlib.Omega.{arith}
use mathlib.Core.Bool.{true, false, ◌&&◌}
use mathlib.Core.List.{List, []}
use lib.ListN.{get_or}
use Rattle.std.specs.Prelude.{Some, None}
use Rattle.meaning.specs.declared.Decision.{Decision}
use Rattle.meaning.specs.Text.{bytes, decimal}
use Rattle.meaning.specs.Model.{decision_text}
use Rattle.meaning.specs.Deciding.{is, members}
use Rattle.printing.specs.declared.Sink.{Sink}
use Rattle.printing.specs.Puts.{Puts}
use Rattle.printing.proofs.Laws.{then, nothing, same_text}
use Rattle.printing.proofs.LineFields.{field, last, five}
use Rattle.value_pairs.specs.Lines.{later_bit, pair_line, value_lines, run_lines}
use Rattle.value_pairs.proofs.SetBits.{this_set, bits_below}

-- a request with both values
module _ (decided : List Decision) (low high n : ℕ) where
  abbrev both : Decision
  both = get_or decided n Decision.Permit

  abbrev earlier : Decision
  earlier = get_or decided (n - high) Decision.Permit

  abbrev later : Decision
  later = get_or decided (n - low) Decision.Permit

  pub no_line : (a : Sink) → (is both earlier && is both later) ≡ true → Puts a (pair_line decided low high n) a × (a.at ≤ a.at + 500)
  unfolding pair_line
  no_line a e = (rw e (nothing a), omega arith)

  pub a_line : {a b c d e f : Sink} → (is both earlier && is both later) ≡ false → n < 4096
      → Puts a (field (bytes "D")) b
      → Puts b (field (decimal n)) c × (c.at ≤ b.at + n / 10 + 2)
      → Puts c (field (decision_text both)) d × (d.at ≤ c.at + 15)
      → Puts d (field (decision_text earlier)) e × (e.at ≤ d.at + 15)
      → Puts e (last (decision_text later)) f × (f.at ≤ e.at + 15)
      → Puts a (pair_line decided low high n) f × (f.at ≤ a.at + 500)
  unfolding pair_line
  a_line differ few one (two, i) (three, j) (four, k) (fifth, l) = (
    rw differ (same_text (five (bytes "D") (decimal n) (decision_text both) (decision_text earlier) (decision_text later)) (then one (then two (then three (then four fifth))))),
    omega (arith, one.wrote.moved, i, j, k, l),
  )

-- a run of requests with one set
module _ (decided : List Decision) (size behind run : ℕ) where
  pub no_pair : None ≡ later_bit (members (run % size)) → run_lines decided size behind run ≡ []
  unfolding run_lines
  no_pair e = rw (← e)

  pub a_pair : {a b : Sink} (high : ℕ) → Some high ≡ later_bit (members (run % size))
      → Puts a (value_lines decided (run * behind) ((run % size + 1 - high) * behind) (high * behind) behind) b × (b.at ≤ a.at + 500 * behind)
      → Puts a (run_lines decided size behind run) b × (b.at ≤ a.at + 500 * behind)
  unfolding run_lines
  a_pair high e p = rw (← e) p

-- Room: the text of the runs so far, of those that make the space
pub text_room : (behind runs run : ℕ) → runs * behind ≤ 4096 → run ≤ runs → 500 * behind * (run - 0) ≤ 2048000
text_room behind runs run all l =
    let part : run * behind ≤ 4096 = le_trans (mul-le-mul_right behind l) all in
    let whole : run - 0 ≡ run = omega arith in
    rw whole (omega (arith, part, mul_assoc 500 behind run, mul_comm behind run))

-- and a run whose set has two values: its requests lie in the space, and those with one value alone no farther back than it starts
pub record PairRoom (size behind run high : ℕ) : Type 0 where
  pub in_set : high ≤ run % size
  pub inside : run * behind + behind ≤ 4096
  pub low_back : (run % size + 1 - high) * behind ≤ run * behind
  pub high_back : high * behind ≤ run * behind

pub pair_room : (size behind runs run high : ℕ) → 1 ≤ size → size ≤ 4095 → runs * behind ≤ 4096 → run < runs → Some high ≡ later_bit (members (run % size + 1 - 1)) → PairRoom size behind run high
pair_room size behind runs run high some few all l two =
    let (in_set, low) = bits_below (run % size) high (omega (arith, mod-lt run some, few)) (this_set (run % size) two) in
    record {
      in_set = in_set;
      inside = le_trans (omega (arith, suc-mul run behind)) (le_trans (mul-le-mul_right behind l) all);
      low_back = mul-le-mul_right behind (le_trans low (mod-le run size));
      high_back = mul-le-mul_right behind (le_trans in_set (mod-le run size));
    }
