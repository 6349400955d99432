-- The step over an obligation's line: each of its refusals, and the line that is read.
use Rattle.std.specs.Prelude.{Ok, Err}
use Prim.Native.Nat.{ℕ, ◌+◌}
use mathlib.Core.Path.{◌≡◌, refl, sym, ap₂, ◌∙◌}
use mathlib.Core.List.{List}
use lib.ListN.{length}
use Rattle.meaning.specs.Text.{Bytes, cut, tab}
use Rattle.meaning.specs.Reading.{Sofar, line_tests}
use Rattle.refusals.specs.declared.Refusal.{Refusal}
use Rattle.refusals.specs.declared.Refusal.TheVariants.{BadLine}
use Rattle.refusals.specs.Numbers.{number_of}
use Rattle.layout.specs.declared.ElementPlaces.{ElementPlaces}
use Rattle.layout.specs.Places.{part, with_obligation}
use Rattle.attribute_lines.specs.declared.State.{State}
use Rattle.attribute_lines.specs.Sofar.{refusal_of, ObligationLine}
use Rattle.attribute_lines.proofs.LineKinds.{wrong_refused}
use Rattle.attribute_lines.proofs.ObligationShape.{not_three, by_obligation_tests}
use Rattle.obligation_lines.specs.Obligations.{Follows, ObligationRefusal, obliged, behind_obligation, ObligationStep}

-- equal places of a name
pub same_slot : (places : List ElementPlaces) (i start : ℕ) {k k' : ℕ} {name name' : Bytes} → k ≡ k' → name ≡ name' → with_obligation places i k (record { start = start; end = start + length name }) ≡ with_obligation places i k' (record { start = start; end = start + length name' })
same_slot places i start e g = ap₂ (λ k n. with_obligation places i k (record { start = start; end = start + length n })) e g

module _ (f : List ℕ) (places : List ElementPlaces) (st : State) (end n : ℕ) (line : ObligationLine (cut tab (part f st.at end)) n) where
  abbrev fs : List Bytes
  fs = cut tab (part f st.at end)

  -- a wrong field count
  pub count_told : (n ≡ 3 → ⊥) → ObligationStep f places places st end st (Err BadLine)
  count_told h = record { refusal = λ s follows. sym (wrong_refused line_tests s fs (not_three s fs n line h)); state = tt; laid = tt; stays = refl; same_state = refl }

  module _ (three : n ≡ 3) where
    line_refusal : {r : ℕ} → ObligationRefusal f places st.tree fs r → (s : Sofar) → Follows f places st.tree s → r ≡ refusal_of s fs
    line_refusal is s follows = is.is_lowest s follows ∙ sym (by_obligation_tests s fs n line three line_tests)

    -- one of 3, 4, 14 and 7
    pub refused_told : (why : Refusal) → ObligationRefusal f places st.tree fs (number_of why) → ObligationStep f places places st end st (Err why)
    refused_told why is = record { refusal = line_refusal is; state = tt; laid = tt; stays = refl; same_state = refl }

    -- the line is read
    pub read_told : ObligationRefusal f places st.tree fs 0 → {after : State} {p : List ElementPlaces} → after ≡ behind_obligation st end → p ≡ obliged places st.tree st.at fs → ObligationStep f places p st end after (Ok tt)
    read_told is is_state is-places = record { refusal = line_refusal is; state = is_state; laid = is-places; stays = tt; same_state = tt }
