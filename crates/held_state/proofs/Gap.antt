-- The text without one element's lines: what stands before them, and what stands behind them.
use mathlib.Core.Path.{◌≡◌, sym, ap, ap₂, ◌∙◌}
use mathlib.Core.Logic.{◌≢◌}
use Prim.Native.Nat.{ℕ, zero, suc, ◌+◌, ◌-◌, ◌≤◌, ◌<◌}
use native.Mathlib.Nat.{sub-zero}
use native.Mathlib.Numerals.{add-one}
use native.Mathlib.Omega.{arith}
use mathlib.Core.Bool.{true, false, cond}
use mathlib.Core.List.{List, [], ◌++◌, append_assoc}
use lib.ListN.{length, take, drop, length-drop}
use lib.Seq.{take_all, take-add, drop-drop}
use Rattle.meaning.specs.Text.{Bytes, gathered, counting}
use Rattle.layout.specs.declared.ElementPlaces.{ElementPlaces}
use Rattle.layout.specs.Places.{part, start_of}
use Rattle.printing.proofs.Walks.{gathered_more}
use Rattle.trimmed_text.specs.Flags.{is_left}
use Rattle.trimmed_text.specs.Copied.{lines_end, piece_at, copied, Copies}
use Rattle.trimmed_text.proofs.Copying.{reached, reached_line, reached_end, lines_lie}

-- parts of a text that follow one another
join_parts : (f : Bytes) (a b c : ℕ) → a ≤ b → b ≤ c → part f a b ++ part f b c ≡ part f a c
join_parts f a b c l m =
    let size : b - a + (c - b) ≡ c - a = omega arith in
    let there : a + (b - a) ≡ b = omega arith in
    sym (ap (λ k. take k (drop a f)) (sym size) ∙ take-add (b - a) (c - b) (drop a f) ∙ ap (λ x. part f a b ++ take (c - b) x) (drop-drop (b - a) a f ∙ ap (λ k. drop k f) there))

no_part : (f : Bytes) (a : ℕ) → part f a a ≡ []
no_part f a = let size : a - a ≡ 0 = omega arith in rw size

last_part : (f : Bytes) (a : ℕ) → part f a (length f) ≡ drop a f
last_part f a = take_all (length f - a) (drop a f) (omega (arith, length-drop a f))

module _ (f : Bytes) (places : List ElementPlaces) (struck : List ℕ) (n : ℕ) (h : Copies f places struck n) where
  abbrev from : ℕ → ℕ
  from i = reached f places n i

  abbrev pieces : (i m : ℕ) → Bytes
  pieces i m = gathered (piece_at f places struck n) (counting i m)

  -- elements that are left, m of them from i on: their lines lie in one part
  lines_left_lem : (i m : ℕ) → i + m ≤ n → ((j : ℕ) → i ≤ j → j < i + m → is_left struck j ≡ true) → (pieces i m ≡ part f (from i) (from (i + m))) × (from i ≤ from (i + m))
  lines_left_lem i zero l left = let same : i + 0 ≡ i = omega arith in rw same (sym (no_part f (from i)), omega arith)
  lines_left_lem i (suc m) l left =
      let (rest, rises) = lines_left_lem (suc i) m (omega arith) (λ j u v. left j (omega arith) (omega arith)) in
      let here : from i ≡ start_of places i = reached_line f places n i (omega arith) in
      let next : lines_end f places n i ≡ from (suc i) = ap from (add-one i) in
      let end : from (suc i + m) ≡ from (i + suc m) = ap from (omega arith) in
      let low : from i ≤ from (suc i) = omega (arith, here, next, (lines_lie f places struck n h i (omega arith)).0) in
      let own : piece_at f places struck n i ≡ part f (from i) (from (suc i)) = ap (λ b. cond b (part f (start_of places i) (lines_end f places n i)) []) (left i (omega arith) (omega arith)) ∙ ap₂ (part f) (sym here) next in
      (ap₂ (λ x y. x ++ y) own rest ∙ join_parts f (from i) (from (suc i)) (from (suc i + m)) low rises ∙ ap (part f (from i)) end, omega arith)

  -- one element struck, and no other
  pub one_struck : (i : ℕ) → i < n → is_left struck i ≡ false → ((j : ℕ) → j ≢ i → is_left struck j ≡ true) → copied f places struck n ≡ take (start_of places i) f ++ drop (lines_end f places n i) f
  unfolding copied
  one_struck i l gone left =
      let m = n - suc i in
      let count : n ≡ i + suc m = omega arith in
      let (before, low) = lines_left_lem 0 i (omega arith) (λ j u v. left j (λ e. omega (arith, e, v))) in
      let (behind, high) = lines_left_lem (suc i) m (omega arith) (λ j u v. left j (λ e. omega (arith, e, u))) in
      let none : piece_at f places struck n i ≡ [] = ap (λ b. cond b (part f (start_of places i) (lines_end f places n i)) []) gone in
      let first : start_of places 0 ≡ from 0 = sym (reached_line f places n 0 h.some) in
      let here : from (0 + i) ≡ start_of places i = ap from (omega arith) ∙ reached_line f places n i l in
      let end : from (suc i + m) ≡ length f = reached_end f places n (suc i + m) (omega arith) in
      let next : from (suc i) ≡ lines_end f places n i = ap from (sym (add-one i)) in
      let head : part f 0 (from 0) ++ part f (from 0) (from (0 + i)) ≡ take (start_of places i) f = join_parts f 0 (from 0) (from (0 + i)) (omega arith) low ∙ ap (λ k. take k f) (sub-zero (from (0 + i)) ∙ here) in
      let tail : part f (from (suc i)) (from (suc i + m)) ≡ drop (lines_end f places n i) f = ap₂ (part f) next end ∙ last_part f (lines_end f places n i) in
      ap (λ a. part f 0 a ++ pieces 0 n) first
      ∙ ap (λ x. part f 0 (from 0) ++ x) (ap (pieces 0) count ∙ gathered_more (piece_at f places struck n) 0 i (suc m) ∙ ap₂ (λ x j. x ++ pieces j (suc m)) before (omega arith))
      ∙ ap₂ (λ x y. part f 0 (from 0) ++ (part f (from 0) (from (0 + i)) ++ (x ++ y))) none behind
      ∙ sym (append_assoc (part f 0 (from 0)) (part f (from 0) (from (0 + i))) (part f (from (suc i)) (from (suc i + m))))
      ∙ ap₂ (λ x y. x ++ y) head tail
