-- Trimming as a held state: what a step leaves, and what some steps do.
use mathlib.Core.Path.{◌≡◌, refl, sym, ap, ◌∙◌}
use Prim.Native.Nat.{ℕ, zero, suc, ◌≤◌}
use native.Mathlib.Omega.{arith}
use mathlib.Core.Bool.{true, false, false≢true}
use mathlib.Core.List.{List}
use mathlib.Core.Option.{Option, none, some}
use lib.ListN.{length, take, drop}
use lib.Seq.{take-nil, drop-nil}
use Rattle.meaning.specs.Text.{Bytes, keep, newline}
use Rattle.meaning.specs.Model.{Policy, given}
use Rattle.meaning.specs.Reading.{read}
use Rattle.meaning.specs.Trimming.{lines, strike, next_struck}
use Rattle.meaning.specs.HeldState.{step_by, step_on}
use Rattle.meaning.specs.Claims.Trimming.{Trims, none_left, last_struck, stays}
use Rattle.meaning.specs.Claims.HeldState.{StepsOnce}
use Rattle.laws.proofs.Text.{join_cut}
use Rattle.laws.proofs.Striking.{length_join_without}
use Rattle.laws.proofs.Trimming.{next_none, none_next}
use Rattle.laws.proofs.OwnLines.{none_gone, one_gone}
use Rattle.laws.proofs.RuleByRule.{next_is}

-- A step by what is struck next
pub step_none : (f : Bytes) → next_struck f ≡ none → step_on f ≡ record { text = f; struck = false }
unfolding step_on
step_none f e = ap (step_by f) e

pub step_some : (f : Bytes) (k : ℕ) → next_struck f ≡ some k → step_on f ≡ record { text = strike k f; struck = true }
unfolding step_on
step_some f k e = ap (step_by f) e

-- It says that none is left only where none is struck
said_none : (f : Bytes) → (step_on f).struck ≡ false → next_struck f ≡ none
said_none f e = go (next_struck f) refl
  where
    go : (o : Option ℕ) → next_struck f ≡ o → next_struck f ≡ none
    go none i = i
    go (some k) i = absurd (false≢true (sym e ∙ ap (λ s. s.struck) (step_some f k i)))

pub steps_once : (f : Bytes) (p : Policy) → read f ≡ given p → StepsOnce f (step_on f)
steps_once f p h = record {
  last_struck = λ k n no_later. let e = step_some f k (next_is f p h k n no_later) in (ap (λ s. s.struck) e, ap (λ s. s.text) e);
  none_left = (λ e. next_none f (said_none f e), λ needed. ap (λ s. s.struck) (step_none f (none_next f p h needed)));
  unchanged = λ e. ap (λ s. s.text) (step_none f (said_none f e));
}

-- Some steps one after the other
abbrev pub after_steps : ℕ → Bytes → Bytes
after_steps zero f = f
after_steps (suc n) f = after_steps n (step_on f).text

-- What they leave of a file that trimming takes to t: a text of which it strikes the other rules and comes to t as well; its lines are
-- the file's, without those of the first rules that trimming strikes, one for each step
pub record OnTheWay (f : Bytes) (names : List Bytes) (t : Bytes) (n : ℕ) : Type 0 where
  pub steps : Trims (after_steps n f) (drop n names) t
  pub policy : Policy
  pub is_accepted : read (after_steps n f) ≡ given policy
  pub lines_left : lines (after_steps n f) ≡ keep (stays (take n names)) (lines f)

pub on_the_way : {f t : Bytes} {names : List Bytes} → Trims f names t → (p : Policy) → read f ≡ given p → (n : ℕ) → OnTheWay f names t n
on_the_way (none_left f needed) p h n =
    let still = ap (λ s. s.text) (step_none f (none_next f p h needed)) in
    let here = stays_there f still n in
    record { steps = rw (here, drop-nil {A = Bytes} n) (none_left f needed); policy = p; is_accepted = rw here h; lines_left = rw (here, take-nil {A = Bytes} n) (none_gone (lines f)) }
  where
    stays_there : (f : Bytes) → (step_on f).text ≡ f → (n : ℕ) → after_steps n f ≡ f
    stays_there f still zero = refl
    stays_there f still (suc n) = ap (after_steps n) still ∙ stays_there f still n
on_the_way (last_struck f k names t x l s) p h zero = record { steps = last_struck f k names t x l s; policy = p; is_accepted = h; lines_left = none_gone (lines f) }
on_the_way (last_struck f k names t x l s) p h (suc n) =
    let one : (step_on f).text ≡ strike k f = ap (λ s. s.text) (step_some f k (next_is f p h k x l)) in
    let rest = on_the_way s x.policy_left x.left_accepted n in
    record { steps = rw one rest.steps; policy = rest.policy; is_accepted = rw one rest.is_accepted; lines_left = rw one rest.lines_left ∙ one_gone f k x (take n names) }

-- What a step leaves is no longer than the file
pub step_shorter : (f : Bytes) → length (step_on f).text ≤ length f
step_shorter f = go (next_struck f) refl
  where
    go : (o : Option ℕ) → next_struck f ≡ o → length (step_on f).text ≤ length f
    go none e = omega (arith, ap (λ s. length s.text) (step_none f e))
    go (some k) e = omega (arith, ap (λ s. length s.text) (step_some f k e), length_join_without newline k (lines f), ap length (join_cut newline f))
