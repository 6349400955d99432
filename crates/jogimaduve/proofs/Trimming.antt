-- The answer to trimming, from what was read and the flags at the end.
use mathlib.Core.Path.{◌≡◌, refl, sym, ap, ◌∙◌, subst}
use Prim.Native.Nat.{ℕ, ◌≤◌, ◌<◌}
use native.Mathlib.Omega.{arith}
use mathlib.Core.List.{List}
use lib.ListN.{length}
use Rattle.meaning.specs.declared.Answer.{Answer}
use Rattle.meaning.specs.Text.{Bytes}
use Rattle.meaning.specs.Model.{Policy, given}
use Rattle.meaning.specs.Reading.{read}
use Rattle.meaning.specs.Trimming.{trimmed}
use Rattle.meaning.specs.Report.{trim_file}
use Rattle.meaning.specs.Operations.{trim_answer, trim_lent}
use Rattle.laws.proofs.Reading.{accepted}
use Rattle.table.specs.declared.Row.{Row}
use Rattle.table.specs.declared.Shape.{Shape}
use Rattle.table.specs.Shape.{hit_of}
use Rattle.trimming.specs.Decided as table-level
use Rattle.printing.specs.Fitted.{Fitted}
use Rattle.trimmed_text.specs.Flags.{text_left}
use Rattle.trimmed_text.specs.Copied.{copied}
use Rattle.trimmed_text.proofs.Trimmed.{trimmed_flags}
use Rattle.trimmed_text.proofs.Tabled.{trimming_is}
use Rattle.trimmed_text.proofs.Placed.{text_copied}
use Rattle.reader.specs.declared.Policy.{Policy as PolicyRead}
use Rattle.reader.specs.Told.{policy_shape, ReadPolicy}
use Rattle.reader.proofs.FileRead.{elements_are, few}
use Rattle.outcomes.specs.Decided.{none_struck}
use Rattle.trimmed_text.proofs.Whole.{none_clear}
use Rattle.jogimaduve.proofs.Shaping.{attributes_are, hits_are, space_is}
use Rattle.layout.specs.declared.ElementPlaces.{ElementPlaces}

-- A file that was read is short, and so is a part of it
pub small_text : (f : Bytes) (p : Policy) (h : read f ≡ given p) (needed : ℕ) → needed ≤ length f → needed < 4294967296
small_text f p h needed l = omega (arith, (accepted f p h).size)

-- The flags that striking leaves
module _ (f : List ℕ) (table : List Row) (places : List ElementPlaces) (r : PolicyRead) (p : Policy) (h : read f ≡ given p) (holds : ReadPolicy f table places r p) (s : Shape) (shaped : s ≡ policy_shape r)
    (flags : List ℕ) (struck : flags ≡ (table-level.trimming_at f places table s.n (hit_of s) s.space s.n none_struck).flags) where
  abbrev text : Bytes
  text = copied f places flags s.n

  -- the trimmed text is the text left by these flags
  text_is : (trimmed f).text ≡ text
  text_is =
      let n = r.elements in
      let size = elements_are f table places r p h holds in
      let here = subst (λ s. flags ≡ (table-level.trimming_at f places table s.n (hit_of s) s.space s.n none_struck).flags) shaped struck in
      let same_flags = ap (λ t. t.flags) (trimming_is f p h table places n holds.elements size (hit_of (policy_shape r)) r.space (hits_are f table places r p h holds) (space_is f table places r p h holds) n none_struck refl) in
      ap (λ t. t.text) (trimmed_flags f p h n none_struck none_clear (omega (arith, size, few f table places r p h holds)) (omega (arith, size)))
      ∙ ap (text_left f p) (sym same_flags ∙ sym here)
      ∙ text_copied f p h table places flags r.attributes.len n (attributes_are f table places r p h holds) holds.elements size holds.lined holds.some
      ∙ ap (λ s. copied f places flags s.n) (sym shaped)

  -- that text fitted to the buffer
  pub trim_fitted : {out new : Bytes} {a : Answer} → Fitted out text new a → (a ≡ trim_answer f out) × (new ≡ trim_lent f out)
  unfolding trim_file
  trim_fitted fits = (fits.answers ∙ rw (h, text_is), fits.lends ∙ rw (h, text_is))
