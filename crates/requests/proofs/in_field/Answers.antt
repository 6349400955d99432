-- `in_field`: a field and a set share a value if their masks share a bit. Assumes nothing.
use mathlib.Core.Path.{◌≡◌, sym, ap, ◌∙◌}
use mathlib.Core.Bool.{true, false, not}
use lib.Bits.{bit_and}
use lib.Dec.{eqb}
use Rattle.laws.proofs.Sets.{shares_and}
use Rattle.requests.proofs.Targets.{set_mask}
use Rattle.requests.proofs.in_field.Goals as goal

pub returns-then-several : goal.returns-then-several
returns-then-several c =
    let a = c.args in
    let several : a.several ≡ true = c.if-several.true in
    rw several (ap (λ set. not (eqb (bit_and a.mask set) 0)) (set_mask a.v) ∙ sym (shares_and a.mask a.v))

pub returns : goal.returns
returns c =
    let a = c.args in
    let single : a.several ≡ false = c.if-several.false in
    rw single c.holds.ensures
