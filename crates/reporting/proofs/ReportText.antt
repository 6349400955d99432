-- The report, from what was found of the policy that was read.
use mathlib.Core.Path.{◌≡◌, ap, ap₂, ◌∙◌, subst}
use Prim.Native.Nat.{ℕ}
use mathlib.Core.List.{List, ◌++◌}
use lib.ListN.{take}
use Rattle.std.specs.Prelude.{Option}
use Rattle.meaning.specs.declared.Answer.{Answer}
use Rattle.meaning.specs.declared.Decision.{Decision}
use Rattle.meaning.specs.Text.{Bytes, gathered}
use Rattle.meaning.specs.Report.{report, report_file}
use Rattle.meaning.specs.Operations.{report_answer, report_lent}
use Rattle.table.specs.declared.Row.{Row}
use Rattle.table.specs.declared.Shape.{Shape}
use Rattle.table.specs.Shape.{hit_of}
use Rattle.conflicts.specs.Pairs.{shown_for}
use Rattle.printing.specs.Fitted.{Fitted}
use Rattle.report_lines.specs.Lines.{segment_text, conflict_text, struck_line, struck_text, kept_text}
use Rattle.outcomes.specs.Decided.{none_struck}
use Rattle.reporting.specs.Found.{trimmed_at, SegmentsFound, ConflictsFound, RulesFound}
use Rattle.trimmed_text.specs.Held.{PolicyHeld}
use Rattle.trimmed_text.proofs.Whole.{none_clear}
use Rattle.reporting.proofs.SegmentText.{segments_are}
use Rattle.reporting.proofs.ConflictText.{conflicts_are}
use Rattle.reporting.proofs.StruckText.{struck_are, kept_are}
use Rattle.layout.specs.declared.ElementPlaces.{ElementPlaces}

module _ (f : List ℕ) (table : List Row) (places : List ElementPlaces) (s : Shape) (held : PolicyHeld f table places s) (words lengths : List ℕ) (decided : List Decision) (parents : List (Option ℕ)) (pairs : List (List ℕ)) (order : List ℕ) (shown : List (Option ℕ)) (count : ℕ)
    (found : SegmentsFound table s.n (hit_of s) s.space words lengths decided) (shown-pairs : ConflictsFound table s.n (hit_of s) s.space parents pairs) (rules : RulesFound f places table s.n (hit_of s) s.space order shown count) where
  -- the four kinds of lines, one behind the other
  abbrev text : Bytes
  text = segment_text f places s.n words lengths decided s.space ++ (conflict_text f places s.n parents pairs s.space ++ (struck_text f places (take count order) ++ kept_text f places s.n shown s.space))

  -- those of the rules struck
  struck_lines : struck_text f places (take count order) ≡ gathered (struck_line f places) (trimmed_at f places table s.n (hit_of s) s.space).order
  unfolding struck_text
  struck_lines = ap (gathered (struck_line f places)) rules.struck

  report_is : text ≡ report f held.policy
  unfolding report shown_for
  report_is =
      let n = s.n in
      let p = held.policy in
      let h = held.is_read in
      let is = held.elements in
      let hit = hit_of s in
      let space = s.space in
      let hits_are = held.hits_are in
      let space_is = held.space_is in
      ap₂ (λ g rest. g ++ rest) (segments_are f table places n p is hit space hits_are space_is words lengths decided none_struck (λ k l. none_clear k) found.applying found.sized found.told)
      (ap₂ (λ c rest. c ++ rest) (conflicts_are f table places n p is hit space hits_are space_is parents none_struck none_clear shown-pairs.parented pairs shown-pairs.paired)
      (ap₂ (λ x k. x ++ k) (struck_lines ∙ struck_are f p h table places n is hit space hits_are space_is) (kept_are f p h table places n is hit space hits_are space_is shown rules.stays rules.needed)))

  -- that text fitted to the buffer is the report of the file
  pub reported : {old new : Bytes} {r : Answer} → Fitted old (text) new r → (r ≡ report_answer f old) × (new ≡ report_lent f old)
  unfolding report_file
  reported {old} {new} {r} fits =
      let same = subst (λ t. Fitted old t new r) report_is fits in
      (same.answers ∙ rw held.is_read, same.lends ∙ rw held.is_read)
