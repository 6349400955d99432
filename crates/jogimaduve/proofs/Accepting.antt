-- What `jogimaduve_accept` answers, in the paper's words and for every two texts, from its contract alone; that what it accepts decides as
-- its original does and is trimmed; and that what `jogimaduve_trim` writes is accepted.
use mathlib.Core.Path.{◌≡◌, refl, sym, ap, ◌∙◌, subst}
use mathlib.Core.Logic.{◌≢◌, ◌↔◌}
use Prim.Native.Nat.{ℕ}
use native.Mathlib.Omega.{arith}
use lib.ListN.{length}
use Rattle.meaning.specs.Text.{Bytes}
use Rattle.meaning.specs.Model.{Policy, Result, refused, given, ◌then◌}
use Rattle.meaning.specs.Reading.{read}
use Rattle.meaning.specs.Trimming.{trimmed}
use Rattle.meaning.specs.Accepting.{judged}
use Rattle.meaning.specs.Claims.PolicyFile.{WellFormed}
use Rattle.meaning.specs.Claims.Refusals.{Refuses}
use Rattle.meaning.specs.Claims.Trimming.{none_left}
use Rattle.meaning.specs.Claims.Accepting.{Sound, Unsound, other_line, line_left_over, other_outcome, needless_rule}
use Rattle.laws.proofs.Reading.{given_given, step_then}
use Rattle.laws.proofs.WellFormed.{well_formed}
use Rattle.laws.proofs.Refused.{refuses}
use Rattle.laws.proofs.Trimming.{trimmed_steps, steps_settle}
use Rattle.laws.proofs.Answers.{decides_alike}
use Rattle.laws.proofs.Accepting.{accepting, not_accepting, own_trimmed}
use Rattle.laws.proofs.Operations.{operations, gave}
use Rattle.jogimaduve.specs.Told.{told}
use Rattle.jogimaduve.proofs.Operate.{Trim, AcceptOperation, Operate, written, trims}
use Rattle.jogimaduve.proofs.Demand3.{told as told_on, told_is, telling}

-- An original and a proposal
pub record Accepts (o : AcceptOperation) (f g : Bytes) : Type 0 where
  -- the original's refusal, and then the proposal's
  pub no_original : (n m : ℕ) → Refuses f n m → o.answer f g ≡ told n m
  pub no_proposal : (p : Policy) → WellFormed f p → (n m : ℕ) → Refuses g n m → o.answer f g ≡ told n m
  -- a proposal is accepted exactly if it is sound; any other answer tells what it is not
  pub accepted : (p q : Policy) → WellFormed f p → WellFormed g q → (o.answer f g ≡ told 0 0) ↔ Sound f p g q
  pub not_accepted : (p q : Policy) → WellFormed f p → WellFormed g q → (n m : ℕ) → n ≢ 0 → (o.answer f g ≡ told n m) ↔ Unsound f p g q n m

-- What is accepted: every request line is answered as the original answers it, and trimming leaves it as it is
pub record Loads (o : Operate) (f g : Bytes) : Type 0 where
  pub alike : (r b : Bytes) → told_on o g r b ≡ told_on o f r b
  pub trimmed_so : (b : Bytes) → (o.trim.answer g b).number ≡ 0 → written o.trim g b ≡ g

-- an answer is told by its two numbers
told_number : {n m k l : ℕ} → told n m ≡ told k l → n ≡ k
told_number e = ap (λ a. a.number) e

not_zero : {f g : Bytes} {p q : Policy} {n m : ℕ} → Unsound f p g q n m → n ≢ 0
not_zero (other_line n x) e = omega (arith, e)
not_zero (line_left_over x) e = omega (arith, e)
not_zero (other_outcome n x c) e = omega (arith, e)
not_zero (needless_rule k x a n earlier) e = omega (arith, e)

-- By what the two are judged
module _ (o : AcceptOperation) (f g : Bytes) (p q : Policy) (h : read f ≡ given p) (i : read g ≡ given q) where
  is_given_lem : (t : Bytes) → judged f p g q ≡ given t → o.answer f g ≡ told 0 0
  is_given_lem t e = o.answer_is f g ∙ operations.accepts f g p q t h i e

  is_refused : (n m : ℕ) → judged f p g q ≡ refused n m → o.answer f g ≡ told n m
  is_refused n m e = o.answer_is f g ∙ operations.accepts_not f g p q n m h i e

  sound_told : (o.answer f g ≡ told 0 0) ↔ Sound f p g q
  sound_told = (λ e. go (judged f p g q) refl e, λ s. is_given_lem g ((accepting f p g q h i g).1 (s, refl)))
    where
      go : (x : Result Bytes) → judged f p g q ≡ x → o.answer f g ≡ told 0 0 → Sound f p g q
      go (given t) z e = ((accepting f p g q h i t).0 z).0
      go (refused n m) z e = absurd (not_zero ((not_accepting f p g q h i n m).0 z) (told_number (sym (is_refused n m z) ∙ e)))

  unsound_told : (n m : ℕ) → n ≢ 0 → (o.answer f g ≡ told n m) ↔ Unsound f p g q n m
  unsound_told n m other = (λ e. go (judged f p g q) refl e, λ u. is_refused n m ((not_accepting f p g q h i n m).1 u))
    where
      go : (x : Result Bytes) → judged f p g q ≡ x → o.answer f g ≡ told n m → Unsound f p g q n m
      go (given t) z e = absurd (other (told_number (sym e ∙ is_given_lem t z)))
      go (refused k l) z e =
          let same : told k l ≡ told n m = sym (is_refused k l z) ∙ e in
          subst (λ x. Unsound f p g q x m) (ap (λ a. a.number) same) (subst (Unsound f p g q k) (ap (λ a. a.second) same) ((not_accepting f p g q h i k l).0 z))

pub accepts : (o : AcceptOperation) (f g : Bytes) → Accepts o f g
accepts o f g = record {
  no_original = λ n m r. o.answer_is f g ∙ operations.accepts_no_original f g n m ((refuses f n m).1 r);
  no_proposal = λ p w n m r. o.answer_is f g ∙ operations.accepts_no_proposal f g p n m ((well_formed f p).1 w) ((refuses g n m).1 r);
  accepted = λ p q v w. sound_told o f g p q ((well_formed f p).1 v) ((well_formed g q).1 w);
  not_accepted = λ p q v w. unsound_told o f g p q ((well_formed f p).1 v) ((well_formed g q).1 w);
}

-- A sound proposal
pub loads : (o : Operate) (f g : Bytes) (p q : Policy) → WellFormed f p → WellFormed g q → o.accept.answer f g ≡ told 0 0 → Loads o f g
loads o f g p q v w e =
    let h = (well_formed f p).1 v in
    let i = (well_formed g q).1 w in
    let s = (sound_told o.accept f g p q h i).0 e in
    record {
      alike = λ r b. told_is o g r b ∙ ap (telling b) (decides_alike f g p q h i s.alike (length b) r) ∙ sym (told_is o f r b);
      trimmed_so = λ b d.
          let x = gave (trims o.trim g b) d in
          let wanted : (read g then λ p. given (trimmed g).text) ≡ given (trimmed g).text = rw i in
          x.taken ∙ given_given (sym x.is ∙ wanted) ∙ (steps_settle (trimmed_steps g q i) (none_left g s.none_needless)).1;
    }

-- Our own trimmed text
pub own_accepted : (t : Trim) (a : AcceptOperation) (f b : Bytes) → (t.answer f b).number ≡ 0 → a.answer f (written t f b) ≡ told 0 0
own_accepted t a f b d =
    let x = gave (trims t f b) d in
    let (p, h, is) = step_then (read f) (λ p. given (trimmed f).text) x.result x.is in
    let (q, i, s) = own_trimmed f p h in
    ap (a.answer f) (x.taken ∙ sym (given_given is)) ∙ (sound_told a f (trimmed f).text p q h i).1 s
