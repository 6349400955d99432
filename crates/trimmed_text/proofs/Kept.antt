-- The rules that are left are the rule lines of the text left, and their `K` lines are the same.
use mathlib.Core.Path.{◌≡◌, ap, ◌∙◌}
use Prim.Native.Nat.{ℕ, ◌<◌, zero-le}
use native.Mathlib.Nat.{zero-add}
use mathlib.Core.Bool.{true}
use mathlib.Core.List.Memᴰ
use mathlib.Core.List.{List, map, Memᴰ}
use lib.ListN.{length}
use Rattle.meaning.specs.Text.{Bytes, gathered, counting}
use Rattle.meaning.specs.Model.{Policy, given}
use Rattle.meaning.specs.Reading.{read}
use Rattle.meaning.specs.Trimming.{lines, is_rule_line, rule_lines}
use Rattle.meaning.specs.Report.{kept_line}
use Rattle.meaning.specs.Claims.Texts.{Rising}
use Rattle.laws.proofs.Search.{counting_has, keep_has, keep_only, counting_rising, keep_rising, rising_map, rising_same}
use Rattle.laws.proofs.Lists.{gathered_alike}
use Rattle.laws.proofs.Rewritten.{gathered_map}
use Rattle.laws.proofs.Trimming.{rule_within}
use Rattle.trimmed_text.specs.Flags.{text_left, kept_at, kept_places, kept_line_at}
use Rattle.trimmed_text.proofs.Steps.{Stands, line_at, line_rises, kept_left, kept_below, kept_line_lem, rule_name, change_flag}
use Rattle.trimmed_text.proofs.Next.{rule_place}

module _ (f : Bytes) (p : Policy) (h : read f ≡ given p) (struck : List ℕ) (s : Stands f p struck) where
  abbrev text : Bytes
  text = text_left f p struck

  -- The rule lines, in file order
  is_line : (k : ℕ) → is_rule_line text k ≡ true → Memᴰ k (rule_lines text)
  is_line k r = keep_has (is_rule_line text) k (counting_has 0 (length (lines text)) k zero-le (rw zero-add (rule_within text k r))) r

  is_kept : (i : ℕ) → kept_at p struck i ≡ true → Memᴰ i (kept_places p struck)
  is_kept i e = keep_has (kept_at p struck) i (counting_has 0 (length p.elements) i zero-le (rw zero-add (kept_below p struck i e))) e

  kept : (i : ℕ) → Memᴰ i (kept_places p struck) → kept_at p struck i ≡ true
  kept i m = (keep_only (kept_at p struck) i (counting 0 (length p.elements)) m).1

  pub rule_lines_kept : rule_lines text ≡ map (line_at p struck) (kept_places p struck)
  rule_lines_kept = rising_same (rule_lines text) (map (line_at p struck) (kept_places p struck)) (keep_rising (is_rule_line text) (counting 0 (length (lines text))) (counting_rising 0 (length (lines text)))) rising to back
    where
      rises : (i j : ℕ) → Memᴰ i (kept_places p struck) → Memᴰ j (kept_places p struck) → i < j → line_at p struck i < line_at p struck j
      rises i j m n l = line_rises p struck i j (kept_below p struck i (kept i m)) (kept_left p struck i (kept i m)) l

      rising : Rising (map (line_at p struck) (kept_places p struck))
      rising = rising_map (line_at p struck) (kept_places p struck) rises (keep_rising (kept_at p struck) (counting 0 (length p.elements)) (counting_rising 0 (length p.elements)))

      to : (k : ℕ) → Memᴰ k (rule_lines text) → Memᴰ k (map (line_at p struck) (kept_places p struck))
      to k m =
          let x = rule_place f p h struck s k (keep_only (is_rule_line text) k (counting 0 (length (lines text))) m).1 in
          rw x.line at (Memᴰ.map (line_at p struck) (is_kept x.place x.kept))

      back : (k : ℕ) → Memᴰ k (map (line_at p struck) (kept_places p struck)) → Memᴰ k (rule_lines text)
      back k m =
          let (i, n, e) = Memᴰ.of_map (line_at p struck) (kept_places p struck) m in
          is_line k (rw e at (kept_line_lem f p h struck s i (kept i n)))

  -- Their `K` lines
  kept_line_at_lem : (i : ℕ) → kept_at p struck i ≡ true → kept_line text (line_at p struck i) ≡ kept_line_at p struck i
  kept_line_at_lem i e = simp (change_flag f p h struck s i e, rule_name f p h struck s i (kept_below p struck i e) (kept_left p struck i e))

  pub kept_lines : gathered (kept_line text) (rule_lines text) ≡ gathered (kept_line_at p struck) (kept_places p struck)
  kept_lines =
      ap (gathered (kept_line text)) rule_lines_kept
      ∙ gathered_map (kept_line text) (line_at p struck) (kept_places p struck)
      ∙ gathered_alike (λ i. kept_line text (line_at p struck i)) (kept_line_at p struck) (kept_places p struck) (λ i m. kept_line_at_lem i (kept i m))
