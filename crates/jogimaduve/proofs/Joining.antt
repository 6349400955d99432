-- What `jogimaduve_join` answers and writes, in the paper's words and for every two texts, a word and a buffer, from its contract alone.
use mathlib.Core.Path.{◌≡◌, refl, sym, ap, ◌∙◌, subst}
use mathlib.Core.Logic.{◌≢◌, ◌⊎◌, inl, inr}
use Prim.Native.Nat.{ℕ, ◌<◌}
use lib.Dec.{ltb}
use lib.ListN.{length}
use borrow.Author.Tests.{ltb-true, ltb-false}
use Rattle.meaning.specs.declared.Answer.{Answer}
use Rattle.meaning.specs.Text.{Bytes}
use Rattle.meaning.specs.Model.{Policy, Result, refused, given, ◌then◌}
use Rattle.meaning.specs.Reading.{read}
use Rattle.meaning.specs.Joining.{joined}
use Rattle.meaning.specs.Claims.PolicyFile.{WellFormed}
use Rattle.meaning.specs.Claims.Refusals.{Refuses}
use Rattle.meaning.specs.Claims.Joining.{Joins, Unjoined}
use Rattle.meaning.specs.Claims.Operations.{Writes}
use Rattle.laws.proofs.Bools.{Test, passed, failed, test}
use Rattle.laws.proofs.WellFormed.{well_formed}
use Rattle.laws.proofs.Refused.{refuses}
use Rattle.laws.proofs.Joining.{joining, not_joining}
use Rattle.laws.proofs.Operations.{gave}
use Rattle.jogimaduve.specs.Told.{told}
use Rattle.jogimaduve.proofs.Operate.{Join, written, joins}

-- What is told where nothing is written: why no text joins the two, or how long the one is that does
abbrev pub NotWritten : (word first : Bytes) → Policy → (second : Bytes) → Policy → (buffer : Bytes) → Answer → Type 0
NotWritten w f p g q b a = Unjoined w f p g q a.number a.second ⊎ ((t : Bytes) × Joins w f p g q t × (length b < length t) × (a ≡ told 11 (length t)))

-- A file, a second one, a word and a buffer
pub record JoinsFiles (g w : Bytes) (o : Join g w) (f b : Bytes) : Type 0 where
  -- the first file's refusal, and then the second's
  pub no_first : (n m : ℕ) → Refuses f n m → (o.answer f b ≡ told n m) × (o.after f b ≡ b)
  pub no_second : (p : Policy) → WellFormed f p → (n m : ℕ) → Refuses g n m → (o.answer f b ≡ told n m) × (o.after f b ≡ b)
  -- what is written joins the two
  pub joined_so : (p q : Policy) → WellFormed f p → WellFormed g q → (o.answer f b).number ≡ 0 → Joins w f p g q (written o f b)
  -- any other answer tells why nothing is, and the buffer stays
  pub not_joined : (p q : Policy) → WellFormed f p → WellFormed g q → (o.answer f b).number ≢ 0 → NotWritten w f p g q b (o.answer f b) × (o.after f b ≡ b)

module _ (g w : Bytes) (o : Join g w) (f b : Bytes) where
  abbrev wanted : Result Bytes
  wanted = read f then λ p. read g then λ q. joined w f p.attributes g q.attributes

  writes : Writes 11 wanted (o.answer f b) b (o.after f b)
  writes = joins g w o f b

  module _ (p q : Policy) (h : read f ≡ given p) (i : read g ≡ given q) where
    both_read : wanted ≡ joined w f p.attributes g q.attributes
    both_read = rw (h, i)

    -- by what joining the two gives
    not_written : (o.answer f b).number ≢ 0 → NotWritten w f p g q b (o.answer f b)
    not_written other = go (joined w f p.attributes g q.attributes) refl
      where
        go : (x : Result Bytes) → joined w f p.attributes g q.attributes ≡ x → NotWritten w f p g q b (o.answer f b)
        go (refused n m) e =
            let is = (writes.refused_so n m (both_read ∙ e)).0 in
            inl (subst (λ a. Unjoined w f p g q a.number a.second) (sym is) (not_joining f p g q h i w n m e))
        go (given t) e = short (test (ltb (length b) (length t)))
          where
            short : Test (ltb (length b) (length t)) → NotWritten w f p g q b (o.answer f b)
            short (passed l) = let few = ltb-true (length b) (length t) l in inr (t, joining f p g q h i w t e, few, (writes.short_so t (both_read ∙ e) few).0)
            short (failed l) = absurd (other (ap (λ a. a.number) (writes.written_so t (both_read ∙ e) (ltb-false (length b) (length t) l)).0))

  pub joins_files : JoinsFiles g w o f b
  joins_files = record {
    no_first = λ n m r. let e : wanted ≡ refused n m = rw ((refuses f n m).1 r) in writes.refused_so n m e;
    no_second = λ p v n m r. let e : wanted ≡ refused n m = rw ((well_formed f p).1 v, (refuses g n m).1 r) in writes.refused_so n m e;
    joined_so = λ p q v u d.
        let h = (well_formed f p).1 v in
        let i = (well_formed g q).1 u in
        let x = gave writes d in
        subst (Joins w f p g q) (sym x.taken) (joining f p g q h i w x.result (sym (both_read p q h i) ∙ x.is));
    not_joined = λ p q v u other. (not_written p q ((well_formed f p).1 v) ((well_formed g q).1 u) other, writes.no_trace other);
  }
