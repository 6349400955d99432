-- What `jogimaduve_value_pairs` answers and writes, in the paper's words and for every input, from its contract alone.
use mathlib.Core.Path.{◌≡◌, refl, subst}
use Prim.Native.Nat.{ℕ}
use Rattle.meaning.specs.Text.{Bytes}
use Rattle.meaning.specs.Model.{Policy, Result, refused, given, ◌then◌}
use Rattle.meaning.specs.Reading.{read}
use Rattle.meaning.specs.ValuePairs.{pairs_named}
use Rattle.meaning.specs.Claims.PolicyFile.{WellFormed}
use Rattle.meaning.specs.Claims.Refusals.{Refuses}
use Rattle.meaning.specs.Claims.ValuePairs.{NamedAttribute, PairsNamed}
use Rattle.meaning.specs.Claims.Operations.{Writes}
use Rattle.laws.proofs.WellFormed.{well_formed}
use Rattle.laws.proofs.Refused.{refuses}
use Rattle.laws.proofs.ValuePairs.{pairing, no_such_attribute}
use Rattle.jogimaduve.specs.Told.{told}
use Rattle.jogimaduve.proofs.Operate.{ValuePairs, tells_pairs}

-- A file, the name of an attribute and a buffer
pub record TellsPairs (name : Bytes) (o : ValuePairs name) (f b : Bytes) : Type 0 where
  -- a file that is refused; 13 where no `M` attribute has the name
  pub no_file : (n m : ℕ) → Refuses f n m → (o.answer f b ≡ told n m) × (o.after f b ≡ b)
  pub no_attribute : (p : Policy) → WellFormed f p → (NamedAttribute p.attributes name → ⊥) → (o.answer f b ≡ told 13 0) × (o.after f b ≡ b)
  -- else the text of its pairs, or 11
  pub the_pairs : (p : Policy) → WellFormed f p → NamedAttribute p.attributes name → (t : Bytes) × PairsNamed p name t × Writes 11 (given t) (o.answer f b) b (o.after f b)

pub tells : (name : Bytes) (o : ValuePairs name) (f b : Bytes) → TellsPairs name o f b
tells name o f b = record {
  no_file = λ n m x. let h = (refuses f n m).1 x in writes.refused_so n m (rw h);
  no_attribute = λ p w none. let h = (well_formed f p).1 w in let e = (no_such_attribute f p h name 13 0).1 (none, refl, refl) in writes.refused_so 13 0 (rw (h, e));
  the_pairs = λ p w a. go p ((well_formed f p).1 w) a (pairs_named p name) refl;
}
  where
    writes : Writes 11 (read f then λ p. pairs_named p name) (o.answer f b) b (o.after f b)
    writes = tells_pairs name o f b

    go : (p : Policy) → read f ≡ given p → NamedAttribute p.attributes name → (r : Result Bytes) → pairs_named p name ≡ r → (t : Bytes) × PairsNamed p name t × Writes 11 (given t) (o.answer f b) b (o.after f b)
    go p h a (refused n m) e = absurd (((no_such_attribute f p h name n m).0 e).0 a)
    go p h a (given t) e = let wanted : (read f then λ p. pairs_named p name) ≡ given t = rw (h, e) in (t, (pairing f p h name t).0 e, subst (λ r. Writes 11 r (o.answer f b) b (o.after f b)) wanted writes)
