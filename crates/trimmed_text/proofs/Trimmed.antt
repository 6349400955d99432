-- Trimming on flags is the meaning's trimming on bytes.
use mathlib.Core.Path.{◌≡◌, refl, ap, ◌∙◌}
use Prim.Native.Nat.{ℕ, zero, suc, ◌≤◌}
use native.Mathlib.Nat.{zero-add}
use native.Mathlib.Omega.{arith}
use mathlib.Core.Bool.{true}
use mathlib.Core.List.{List, ◌∷◌, map}
use mathlib.Core.Option
use mathlib.Core.Option.{Option, none, some}
use lib.ListN.{length, set}
use Rattle.meaning.specs.Text.{Bytes, gathered}
use Rattle.meaning.specs.Model.{Policy, given}
use Rattle.meaning.specs.Reading.{read}
use Rattle.meaning.specs.Trimming.{is_rule_line, name_at, rule_lines, trimmed}
use Rattle.meaning.specs.Report.{name_in, kept_line}
use Rattle.meaning.specs.Claims.Trimming.{Trims, none_left, last_struck}
use Rattle.laws.proofs.Trimming.{next_none, next_last, trimmed_steps, steps_settle}
use Rattle.trimmed_text.specs.Flags.{Clear, left_from, left_policy, text_left, next_at, trimming_at, kept_places, kept_line_at}
use Rattle.trimmed_text.proofs.Left.{left_all, left_within, left_fewer}
use Rattle.trimmed_text.proofs.Steps.{Stands, line_at, kept_left, kept_below, text_whole, stands_whole, rule_name, strike_flag, stands_next}
use Rattle.trimmed_text.proofs.Next.{rule_place, next_flag, next_kept}
use Rattle.trimmed_text.proofs.Kept.{kept_lines}

-- From flags that stand, trimming takes the paper's steps to flags that stand
pub record Ends (f : Bytes) (p : Policy) (n : ℕ) (struck : List ℕ) : Type 0 where
  pub steps : Trims (text_left f p struck) (map (name_in p.elements) (trimming_at n p struck).order) (text_left f p (trimming_at n p struck).flags)
  pub stands : Stands f p (trimming_at n p struck).flags

module _ (f : Bytes) (p : Policy) (h : read f ≡ given p) where
  -- no element left: no rule line
  none_ruled : (struck : List ℕ) → Stands f p struck → length (left_from struck 0 p.elements) ≤ 0 → (k : ℕ) → is_rule_line (text_left f p struck) k ≡ true → ⊥
  none_ruled struck s l k r =
      let x = rule_place f p h struck s k r in
      let within = left_within struck 0 x.place p.elements (kept_below p struck x.place x.kept) (rw zero-add (kept_left p struck x.place x.kept)) in
      omega arith

  -- the next rule's step
  next_step : (n : ℕ) (struck : List ℕ) (s : Stands f p struck) (i : ℕ) → next_at p struck ≡ some i → Ends f p n (set struck i 1) → Ends f p (suc n) struck
  unfolding trimming_at
  next_step n struck s i e later =
      let text = text_left f p struck in
      let es = p.elements in
      let kept = next_kept p struck i e in
      let k = line_at p struck i in
      let (x, y) = next_last text (left_policy p struck) s.accepts k (next_flag f p h struck s ∙ ap (Option.map (line_at p struck)) e) in
      let t = trimming_at n p (set struck i 1) in
      let struck-first : Trims text (name_at text k ∷ map (name_in es) t.order) (text_left f p t.flags) = last_struck text k (map (name_in es) t.order) (text_left f p t.flags) x y (rw (strike_flag f p h struck s i kept) later.steps) in
      let named = rule_name f p h struck s i (kept_below p struck i kept) (kept_left p struck i kept) in
      record { steps = rw e (rw named at struck-first); stands = rw e later.stands }

  pub flags_end : (n : ℕ) (struck : List ℕ) → Stands f p struck → length (left_from struck 0 p.elements) ≤ n → Ends f p n struck
  unfolding trimming_at
  flags_end zero struck s l = record { steps = none_left (text_left f p struck) (λ k x. none_ruled struck s l k x.rule_line); stands = s }
  flags_end (suc n) struck s l = go (next_at p struck) refl (λ i. flags_end n (set struck i 1))
    where
      go : (o : Option ℕ) → next_at p struck ≡ o → ((i : ℕ) → Stands f p (set struck i 1) → length (left_from (set struck i 1) 0 p.elements) ≤ n → Ends f p n (set struck i 1)) → Ends f p (suc n) struck
      go none e later = record { steps = rw e (none_left (text_left f p struck) (next_none (text_left f p struck) (next_flag f p h struck s ∙ ap (Option.map (line_at p struck)) e))); stands = rw e s }
      go (some i) e later =
          let kept = next_kept p struck i e in
          let below = kept_below p struck i kept in
          let fewer = left_fewer struck i p.elements below (omega (arith, s.room)) (kept_left p struck i kept) in
          next_step n struck s i e (later i (stands_next f p h struck s i kept) (omega arith))

  -- Trimming on flags, from none struck and with a step for each element, gives the trimmed file and the rules struck
  module _ (n : ℕ) (struck : List ℕ) (clear : Clear struck) (room : length p.elements ≤ length struck) (fuel : length p.elements ≤ n) where
    ends : Ends f p n struck
    ends = flags_end n struck (stands_whole f p h struck clear room) (rw (left_all struck clear 0 p.elements) fuel)

    pub trimmed_stands : Stands f p (trimming_at n p struck).flags
    trimmed_stands = ends.stands

    pub trimmed_flags : trimmed f ≡ record { text = text_left f p (trimming_at n p struck).flags; struck = map (name_in p.elements) (trimming_at n p struck).order }
    trimmed_flags =
        let (a, b) = steps_settle (trimmed_steps f p h) (rw (text_whole f p h struck clear) at ends.steps) in
        λ i. record { text = b i; struck = a i }

    -- The rules left at the end have their `K` lines, each with a request
    abbrev end : List ℕ
    end = (trimming_at n p struck).flags

    pub kept_flags : gathered (kept_line (trimmed f).text) (rule_lines (trimmed f).text) ≡ gathered (kept_line_at p end) (kept_places p end)
    kept_flags = ap (λ t. gathered (kept_line t.text) (rule_lines t.text)) trimmed_flags ∙ kept_lines f p h end trimmed_stands
