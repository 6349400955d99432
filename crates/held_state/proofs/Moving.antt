-- Bytes moved down, one behind the other: how far the move has come.
use mathlib.Core.Path.{◌≡◌, sym, ap, ap₂, ◌∙◌}
use Prim.Native.Nat.{ℕ, ◌+◌, ◌-◌, ◌≤◌, ◌<◌}
use native.Mathlib.Numerals.{add-one}
use native.Mathlib.Omega.{arith}
use mathlib.Core.List.{◌++◌}
use lib.ListN.{length, take, drop, get_or, set, length-drop}
use lib.Seq.{take_all, get_or-drop, paste, paste-suc, drop-paste}
use Rattle.meaning.specs.Text.{Bytes}
use Rattle.held_state.specs.Closed.{closed}

module _ (t : Bytes) (start end : ℕ) (low : start ≤ end) (inside : end ≤ length t) where
  -- j bytes are moved
  abbrev pub moved_by : ℕ → Bytes
  moved_by j = paste t start (drop end t) j

  -- the next one still stands where it stood
  stands : (j : ℕ) → j < length t - end → get_or (moved_by j) (end + j) 0 ≡ get_or (drop end t) j 0
  stands j l =
      let there : start + j + (end - start) ≡ end + j = omega arith in
      ap (λ k. get_or (moved_by j) k 0) (sym there)
      ∙ sym (get_or-drop (start + j) (moved_by j) (end - start) 0)
      ∙ ap (λ x. get_or x (end - start) 0) (drop-paste t start (drop end t) j (omega arith) (omega (arith, length-drop end t)))
      ∙ get_or-drop (start + j) t (end - start) 0
      ∙ ap (λ k. get_or t k 0) there
      ∙ sym (get_or-drop end t j 0)

  pub one_more : (j : ℕ) → j < length t - end → (now : Bytes) → now ≡ moved_by j → set now (start + j) (get_or now (end + j) 0) ≡ moved_by (j + 1)
  one_more j l now is =
      ap (λ x. set x (start + j) (get_or x (end + j) 0)) is
      ∙ ap (set (moved_by j) (start + j)) (stands j l)
      ∙ paste-suc t start (drop end t) j 0 (omega arith) (omega (arith, length-drop end t))
      ∙ ap moved_by (sym (add-one j))

  pub all_moved : (j : ℕ) → j ≡ length t - end → moved_by j ≡ closed t start end
  all_moved j e = ap₂ (λ x k. take start t ++ x ++ drop (start + k) t) (take_all j (drop end t) (omega (arith, length-drop end t))) e
