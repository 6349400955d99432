-- A walk over the lines of a file: what is stored so far, and what is left.
use mathlib.Core.Path.{◌≡◌, refl, sym, ap, ◌∙◌, subst}
use mathlib.Core.List.{[], ◌++◌, append_assoc, append-nil}
use Prim.Native.Nat.{ℕ, ◌+◌, ◌-◌, ◌*◌, ◌≤◌, ◌<◌}
use native.Mathlib.Omega.{arith}
use lib.ListN.{length, get_or, take, drop, length-drop}
use lib.Seq.{length-take-le}
use Rattle.meaning.specs.Text.{Bytes, gathered, cut, newline}
use Rattle.meaning.specs.Trimming.{file_lines}
use Rattle.meaning.specs.Claims.Texts.{All}
use Rattle.text.specs.Ended.{Ended}
use Rattle.text.proofs.NextLine.{NextLine, no_line, next_line}
use Rattle.printing.specs.declared.Sink.{Sink}
use Rattle.printing.specs.Puts.{Puts}
use Rattle.printing.proofs.Laws.{then, nothing, same_text}
use Rattle.joined_text.specs.Lines.{Fits, Behind}

-- What the loop keeps: G of the lines passed is put into a sink, and so much of the file is left
pub record Walked (G : Bytes → Bytes) (f : Bytes) (from : ℕ) (a : Sink) (start : ℕ) (b : Sink) : Type 0 where
  pub passed : from ≤ start
  pub inside : start ≤ length f
  pub ended : Ended (drop start f)
  pub fitting : All Fits (file_lines (drop start f))
  pub text : Bytes
  pub stored : Puts a text b
  pub with_rest : text ++ gathered G (file_lines (drop start f)) ≡ gathered G (file_lines (drop from f))
  pub within : b.at ≤ a.at + 32 * (start - from)

module _ {G : Bytes → Bytes} {f : Bytes} {from : ℕ} {a : Sink} where
  pub begun : Behind f from → Walked G f from a from a
  begun b = record { passed = omega arith; inside = b.inside; ended = b.ended; fitting = b.fitting; text = []; stored = nothing a; with_rest = refl; within = omega arith }

  module _ {start : ℕ} {b : Sink} (w : Walked G f from a start b) where
    -- at the end of the file all is stored
    pub all_stored : length f ≤ start → Puts a (gathered G (file_lines (drop from f))) b
    all_stored l =
        same_text (sym (append-nil w.text) ∙ ap (λ ls. w.text ++ gathered G ls) (sym (no_line f start l)) ∙ w.with_rest) w.stored

    -- the next line, which ends at `to`
    module _ {to : ℕ} (to_is : to ≡ start + length (get_or (cut newline (drop start f)) 0 [])) (to-within : to ≤ length f) (more : start < length f) where
      next : NextLine f start to
      next = next_line f start to to_is to-within w.ended more

      pub next_fits : Fits (take (to - start) (drop start f))
      next_fits = (subst (All Fits) next.comes w.fitting).0

      pub next_length : length (take (to - start) (drop start f)) ≡ to - start
      next_length = length-take-le (to - start) (drop start f) (omega (arith, length-drop start f))

      pub next_inside : to < length f
      next_inside = next.newline_there

      pub one_more : {c : Sink} → Puts b (G (take (to - start) (drop start f))) c × (c.at ≤ b.at + 16 * (length (take (to - start) (drop start f)) + 2)) → Walked G f from a (to + 1) c
      one_more (put, l) = record {
        passed = omega (arith, w.passed);
        inside = omega (arith, next.newline_there);
        ended = next.rest_ended;
        fitting = (subst (All Fits) next.comes w.fitting).1;
        text = w.text ++ G (take (to - start) (drop start f));
        stored = then w.stored put;
        with_rest = append_assoc w.text (G (take (to - start) (drop start f))) (gathered G (file_lines (drop (to + 1) f))) ∙ ap (λ ls. w.text ++ gathered G ls) (sym next.comes) ∙ w.with_rest;
        within = omega (arith, w.within, w.passed, l, next_length);
      }
