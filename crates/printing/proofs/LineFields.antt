-- Fields one behind the other make a line.
use mathlib.Core.Path.{◌≡◌, ap, ◌∙◌}
use mathlib.Core.List.{[], ◌∷◌, ◌++◌}
use Rattle.meaning.specs.Text.{Bytes, tab, newline, line}
use Rattle.printing.proofs.Laws.{line_next}

abbrev pub field : Bytes → Bytes
field a = a ++ (tab ∷ [])

abbrev pub last : Bytes → Bytes
last a = a ++ (newline ∷ [])

pub three : (a b c : Bytes) → field a ++ (field b ++ last c) ≡ line (a ∷ b ∷ c ∷ [])
three a b c = ap (λ t. field a ++ t) (line_next b c []) ∙ line_next a b (c ∷ [])

pub five : (a b c d e : Bytes) → field a ++ (field b ++ (field c ++ (field d ++ last e))) ≡ line (a ∷ b ∷ c ∷ d ∷ e ∷ [])
five a b c d e = ap (λ t. field a ++ (field b ++ t)) (three c d e) ∙ ap (λ t. field a ++ t) (line_next b c (d ∷ e ∷ [])) ∙ line_next a b (c ∷ d ∷ e ∷ [])
