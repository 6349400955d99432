-- `line_at` meets its contract: the first line of what is left of the file.
use Prim.Native.Nat.{ℕ, ◌+◌, ◌-◌, ◌≤◌}
use mathlib.Core.Path.{◌≡◌, ap, subst}
use native.Mathlib.Omega.{arith}
use lib.ListN.{length, drop, length-drop}
use Rattle.meaning.specs.Text.{Bytes}
use Rattle.text.specs.Runs.{FirstLine}
use Rattle.text.proofs.Pieces.{rest_of}
use Rattle.reader.specs.Told.{LineAt}
use Rattle.reader.proofs.line_at.Goals as goal

-- a line's end counted from the start of the file
line-there : (f : Bytes) (at n fields : ℕ) → at ≤ length f → FirstLine (drop at f) n fields → LineAt f at (at + n) fields
line-there f at n fields inside first =
    let size : at + n - at ≡ n = omega arith in
    record {
      all_of_it = ap (λ m. at + m) first.ends;
      starts = omega arith;
      inside = omega (arith, first.within, length-drop at f);
      count = λ l. rw size (first.count (omega (arith, length-drop at f)));
      unended = λ l. first.unended (omega (arith, length-drop at f));
    }

pub overflow_add-end : goal.overflow_add-end
overflow_add-end c =
    let found : let a = c.args in FirstLine (drop a.at a.file.now) c.first_line-found.result.end c.first_line-found.result.fields = let a = c.args in
    subst (λ s. FirstLine s c.first_line-found.result.end c.first_line-found.result.fields) (rest_of a.file.now a.at) c.first_line-found.ensures in
    let a = c.args in
    omega (arith, (found).within, length-drop a.at a.file.now)

pub returns : goal.returns
returns c =
    let found : let a = c.args in FirstLine (drop a.at a.file.now) c.first_line-found.result.end c.first_line-found.result.fields = let a = c.args in
    subst (λ s. FirstLine s c.first_line-found.result.end c.first_line-found.result.fields) (rest_of a.file.now a.at) c.first_line-found.ensures in
    line-there c.args.file.now c.args.at c.first_line-found.result.end c.first_line-found.result.fields c.requires (found)
