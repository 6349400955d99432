-- The lines of an element's obligations.
use mathlib.Core.Path.{◌≡◌, ap, ◌∙◌}
use Prim.Native.Nat.{suc, ◌+◌, ◌-◌, ◌≤◌, ◌<◌}
use native.Mathlib.Omega.{arith}
use mathlib.Core.List.{[], ◌∷◌, ◌++◌, append-nil}
use Rattle.meaning.specs.Text.{Bytes, bytes, gathered, newline, tab, line}
use Rattle.meaning.specs.Model.{obligations_of}
use Rattle.meaning.specs.Writing.{obligation_fields}
use Rattle.laws.proofs.Types.{Element}
use Rattle.printing.specs.declared.Sink.{Sink}
use Rattle.printing.specs.Puts.{Puts}
use Rattle.printing.proofs.Laws.{then, nothing, line_next, same_text}
use Rattle.treelines.specs.Writable.{Small}

-- `O`, name and word, each put behind the one before
pub obligation_line_lem : {a b c d e : Sink} (name word : Bytes)
    → Puts a (bytes "O" ++ (tab ∷ [])) b
    → Puts b (name ++ (tab ∷ [])) c × (c.at ≤ b.at + 17)
    → Puts c word d × (d.at ≤ c.at + 19)
    → Puts d (newline ∷ []) e
    → Puts a (line (bytes "O" ∷ name ∷ word ∷ [])) e × (e.at ≤ a.at + 40)
obligation_line_lem {a = a} {e = e} name word one (two, g) (three, h) four = (
  same_text (ap (λ t. (bytes "O" ++ (tab ∷ [])) ++ t) (line_next name word []) ∙ line_next (bytes "O") name (word ∷ [])) (then one (then two (then three four))),
  omega (arith, one.wrote.moved, g, h, four.wrote.moved),
)

module _ (e : Element) (small : Small e) where
  -- the names of the obligations there are
  pub first_short : 0 < e.obligations → e.first.len ≤ 16
  first_short some = let more : e.obligations ≡ suc (e.obligations - 1) = omega arith in (rw more at small.obligations).0

  pub second_short : 1 < e.obligations → e.second.len ≤ 16
  second_short two = let more : e.obligations ≡ suc (suc (e.obligations - 2)) = omega arith in (rw more at small.obligations).1.0

  -- none, one, and two
  pub no_lines : (a : Sink) → e.obligations ≤ 0 → Puts a (gathered (λ o. line (obligation_fields o)) (obligations_of e)) a
  no_lines a few = let count : e.obligations ≡ 0 = omega arith in rw count (nothing a)

  module _ {a b : Sink} (some : 0 < e.obligations) (first : Puts a (line (obligation_fields e.first)) b) where
    pub one_line : e.obligations ≤ 1 → Puts a (gathered (λ o. line (obligation_fields o)) (obligations_of e)) b
    one_line few = let count : e.obligations ≡ 1 = omega arith in rw (count, append-nil (line (obligation_fields e.first))) first

    pub two_lines : {c : Sink} → 1 < e.obligations → Puts b (line (obligation_fields e.second)) c → Puts a (gathered (λ o. line (obligation_fields o)) (obligations_of e)) c
    two_lines more second =
        let count : e.obligations ≡ 2 = omega (arith, small.few_obligations) in
        rw (count, append-nil (line (obligation_fields e.second))) (then first second)
