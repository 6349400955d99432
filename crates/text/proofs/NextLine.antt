-- The lines of an ended text, from a place on.
use mathlib.Core.Path.{◌≡◌, refl, sym, ap, ◌∙◌}
use mathlib.Core.Logic.{⊎_elim}
use mathlib.Core.List.{List, [], ◌∷◌, ◌++◌}
use Prim.Native.Nat.{ℕ, ◌+◌, ◌-◌, ◌≤◌, ◌<◌}
use native.Mathlib.Nat.{eq-or-lt_of_le}
use native.Mathlib.Omega.{arith}
use lib.ListN.{length, get_or, take, drop, length-drop, drop_of_length-le}
use Rattle.meaning.specs.Text.{Bytes, front, cut, newline}
use Rattle.meaning.specs.Trimming.{lines, file_lines}
use Rattle.laws.proofs.Text.{Some, one_or_more, cut_some}
use Rattle.text.specs.Ended.{Ended}
use Rattle.text.proofs.Pieces.{piece_rest, piece_more}

-- At the end no line is left
pub no_line : (s : Bytes) (at : ℕ) → length s ≤ at → file_lines (drop at s) ≡ []
no_line s at h = rw (drop_of_length-le s h)

-- Before it there is one, which a newline at e ends, and those behind it are ended too
pub record NextLine (s : Bytes) (at e : ℕ) : Type 0 where
  pub newline_there : e < length s
  pub comes : file_lines (drop at s) ≡ take (e - at) (drop at s) ∷ file_lines (drop (e + 1) s)
  pub rest_ended : Ended (drop (e + 1) s)

front_more : {A : Type 0} (x : A) {xs : List A} → Some xs → front (x ∷ xs) ≡ x ∷ front xs
front_more x (one_or_more y ys) = refl

module _ (s : Bytes) (at e : ℕ) (p : e ≡ at + length (get_or (cut newline (drop at s)) 0 [])) (q : e ≤ length s) (ended : Ended (drop at s)) (inside : at < length s) where
  not_end : e ≡ length s → ⊥
  not_end l =
      let one = piece_rest newline s at e p l in
      let both : drop at s ∷ [] ≡ [] ∷ [] = sym one ∙ ended ∙ ap (λ ps. front ps ++ ([] ∷ [])) one in
      let none : drop at s ≡ [] = cc in
      omega (arith, length-drop at s, ap length none)

  pub next_line : NextLine s at e
  next_line =
      let line = take (e - at) (drop at s) in
      let rest = drop (e + 1) s in
      let there : e < length s = ⊎_elim (λ (l : e ≡ length s). absurd (not_end l)) (λ (l : e < length s). l) (eq-or-lt_of_le q) in
      let pieces = piece_more newline s at e p there in
      let first : file_lines (drop at s) ≡ line ∷ file_lines rest = ap front pieces ∙ front_more line (cut_some newline rest) in
      let both : line ∷ lines rest ≡ line ∷ (file_lines rest ++ ([] ∷ [])) = sym pieces ∙ ended ∙ ap (λ ls. ls ++ ([] ∷ [])) first in
      record { newline_there = there; comes = first; rest_ended = cc }
