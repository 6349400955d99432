-- Laws of the text: by marks that agree, where no element has obligations, and place by place.
use Prim.Native.Nat.{ℕ, zero, suc, ◌+◌, ◌-◌, ◌≤◌, ◌<◌}
use mathlib.Core.Path.{◌≡◌, refl, sym, ap, ap₂, ◌∙◌}
use mathlib.Core.Logic.{◌≢◌}
use mathlib.Core.Bool.{Bool, true, false, not, cond}
use mathlib.Core.List.{List, [], ◌∷◌, ◌++◌, append-nil}
use native.Mathlib.Omega.{arith}
use lib.Dec.{eqb}
use lib.ListN.{length, take, drop, get_or, length-take, length-append}
use lib.Seq.{take-append_seam, take_at}
use borrow.Author.Tests.{eq-eqb, ne_eqb, eqb-true}
use Rattle.meaning.specs.Text.{Bytes, same, newline}
use Rattle.meaning.specs.Model.{word_text, decision_text}
use Rattle.laws.proofs.Types.{Word, Decision, not_applicable, indeterminate, Obligation, Element}
use Rattle.laws.proofs.Bools.{Test, passed, failed, test, contradiction, or_false}
use Rattle.table.specs.declared.Row.{Row}
use Rattle.blocks.specs.Bits.{Answers}
use Rattle.chains.specs.Chain.{alike, chained, ChainLaid}
use Rattle.layout.specs.declared.ElementPlaces.{ElementPlaces}
use Rattle.layout.specs.Places.{part, obligation_start, obligation_end, effect_at, obligation_at, obligations_in, Obliged}
use Rattle.layout.proofs.Slots.{none_in}
use Rattle.printing.specs.declared.Sink.{Sink}
use Rattle.printing.specs.Wrote.{Wrote}
use Rattle.printing.specs.Puts.{Puts}
use Rattle.printing.proofs.Laws.{nothing, at_start, same_text}
use Rattle.printing.proofs.Walks.{gathered_last}
use Rattle.obligations.specs.Given.{spelling, slot_text, own_text, given_text, effect, marks_in, any_obliged}

-- No effect spells a decision that is neither permit nor deny
no_effect : (d : Decision) → alike d d ≡ false → (permit : Bool) → same (word_text (cond permit Word.Permit Word.Deny)) (decision_text d) ≡ false
no_effect Decision.Permit e b = contradiction refl e
no_effect Decision.Deny e b = contradiction refl e
no_effect not_applicable e true = refl
no_effect not_applicable e false = refl
no_effect indeterminate e true = refl
no_effect indeterminate e false = refl

pub either_none : (b : Bool) → cond {A = Bytes} b [] [] ≡ []
either_none true = refl
either_none false = refl

-- the first obligation, and the others
spelling_more : (d : Decision) (o : Obligation) (os : List Obligation) → spelling d (o ∷ os) ≡ spelling d (o ∷ []) ++ spelling d os
spelling_more d o os = go (test (same (word_text o.word) (decision_text d)))
  where
    go : Test (same (word_text o.word) (decision_text d)) → spelling d (o ∷ os) ≡ spelling d (o ∷ []) ++ spelling d os
    go (passed x) = rw (x, append-nil)
    go (failed x) = rw x

module _ (d : Decision) (f : Bytes) (places : List ElementPlaces) where
  -- those of an element, place by place
  pub own_slots : (i : ℕ) → Obliged f places i → spelling d (obligations_in f places i) ≡ slot_text d f places i 0 ++ slot_text d f places i 1
  unfolding obligations_in
  own_slots i o = go (test (eqb (obligation_end places i 0) 0))
    where
      behind : (b : Bool) → spelling d (cond b [] (obligation_at f places i 1 ∷ [])) ≡ cond b [] (spelling d (obligation_at f places i 1 ∷ []))
      behind true = refl
      behind false = refl

      go : Test (eqb (obligation_end places i 0) 0) → spelling d (obligations_in f places i) ≡ slot_text d f places i 0 ++ slot_text d f places i 1
      go (passed x) = rw (x, eq-eqb (obligation_end places i 1) 0 (o.in_order (eqb-true (obligation_end places i 0) 0 x)))
      go (failed x) =
          let b = eqb (obligation_end places i 1) 0 in
          rw x (spelling_more d (obligation_at f places i 0) (cond b [] (obligation_at f places i 1 ∷ [])) ∙ ap (λ t. spelling d (obligation_at f places i 0 ∷ []) ++ t) (behind b))

  -- the text of one element more
  text_last : (F : ℕ → Bool) (n : ℕ) → given_text d F f places (suc n) ≡ given_text d F f places n ++ own_text d F f places n
  unfolding given_text
  text_last F n = let here : 0 + n ≡ n = omega arith in gathered_last (own_text d F f places) 0 n ∙ ap (λ i. given_text d F f places n ++ own_text d F f places i) here

  -- marks that agree
  pub text_alike : (F G : ℕ → Bool) (n : ℕ) → ((i : ℕ) → i < n → F i ≡ G i) → given_text d F f places n ≡ given_text d G f places n
  unfolding given_text
  text_alike F G zero alike = refl
  text_alike F G (suc n) alike =
      text_last F n
      ∙ ap₂ (λ t b. t ++ cond b (spelling d (obligations_in f places n)) []) (text_alike F G n (λ i l. alike i (omega arith))) (alike n (omega arith))
      ∙ sym (text_last G n)

  -- the words that `ask_all` lays down have the chained marks
  pub text_chained : {t : List Row} {struck : List ℕ} {hits : List (List ℕ)} {old new : List ℕ} {n block : ℕ} (v : ℕ) (hit : Element → Bool) → ChainLaid t struck hits n block old new → Answers t hits n block v hit → given_text d (marks_in new v) f places n ≡ given_text d (chained hit t struck n) f places n
  text_chained {t} {struck} {new = new} {n} v hit laid answers = text_alike (marks_in new v) (chained hit t struck n) n (laid.bits v hit answers)

  -- with a decision that is neither permit nor deny there is no text
  abbrev permits : (i k : ℕ) → Bool
  permits i k = eqb (get_or f (obligation_end places i k + 1) 0) 112

  pub own_undecided : alike d d ≡ false → (i : ℕ) → spelling d (obligations_in f places i) ≡ []
  unfolding obligations_in
  own_undecided e i = go (eqb (obligation_end places i 0) 0) (eqb (obligation_end places i 1) 0)
    where
      go : (a b : Bool) → spelling d (cond a [] (obligation_at f places i 0 ∷ cond b [] (obligation_at f places i 1 ∷ []))) ≡ []
      go true b = refl
      go false true = rw (no_effect d e (permits i 0))
      go false false = rw (no_effect d e (permits i 0), no_effect d e (permits i 1))

  pub text_undecided : (F : ℕ → Bool) (n : ℕ) → alike d d ≡ false → given_text d F f places n ≡ []
  unfolding given_text
  text_undecided F zero e = refl
  text_undecided F (suc n) e = text_last F n ∙ ap₂ (λ s t. s ++ t) (text_undecided F n e) (rw (own_undecided e n) (either_none (F n)))

  -- where no element has obligations there is no text
  own_none : (F : ℕ → Bool) (i : ℕ) → eqb (obligation_end places i 0) 0 ≡ true → own_text d F f places i ≡ []
  own_none F i e = rw (none_in f places i (eqb-true (obligation_end places i 0) 0 e)).0 (either_none (F i))

  pub none_given : (F : ℕ → Bool) (n : ℕ) → any_obliged places n ≡ false → given_text d F f places n ≡ []
  unfolding given_text any_obliged
  none_given F zero none = refl
  none_given F (suc n) none =
      let (here, before) = or_false (not (eqb (obligation_end places n 0) 0)) (any_obliged places n) none in
      text_last F n
      ∙ ap₂ (λ s t. s ++ t) (none_given F n before) (own_none F n (not_false (eqb (obligation_end places n 0) 0) here))
    where
      not_false : (b : Bool) → not b ≡ false → b ≡ true
      not_false true e = refl
      not_false false e = contradiction refl e

-- A name in the file has at most 16 bytes
pub name_length : (f : Bytes) (places : List ElementPlaces) (i k : ℕ) → Obliged f places i → k < 2 → length (part f (obligation_start places i k) (obligation_end places i k)) ≤ 16
name_length f places i k o l = omega (arith, length-take (obligation_end places i k - obligation_start places i k) (drop (obligation_start places i k) f), o.short k l)

-- The text of one place is stored: none, one of the other effect, or a name of at most 16 bytes and its newline
module _ (f : Bytes) (places : List ElementPlaces) (i k : ℕ) (permit : Bool) where
  abbrev Stored : (a b : Sink) → Type 0
  Stored a b = Puts a (slot_text (effect permit) f places i k) b × (b.at ≤ a.at + 17)

  abbrev name : Bytes
  name = part f (obligation_start places i k) (obligation_end places i k)

  abbrev spelled : Bool
  spelled = same (word_text (effect_at (get_or f (obligation_end places i k + 1) 0))) (decision_text (effect permit))

  pub no_slot : (a : Sink) → obligation_end places i k ≡ 0 → Stored a a
  no_slot a none = (rw (eq-eqb (obligation_end places i k) 0 none) (nothing a), omega arith)

  module _ (some : obligation_end places i k ≢ 0) where
    pub other_slot : (a : Sink) → spelled ≡ false → Stored a a
    other_slot a e = (rw (ne_eqb (obligation_end places i k) 0 some, e) (nothing a), omega arith)

    name_is : spelled ≡ true → name ++ (newline ∷ []) ≡ slot_text (effect permit) f places i k
    name_is e = sym (rw (ne_eqb (obligation_end places i k) 0 some, e, append-nil, take-append_seam name))

    pub name_slot : {a b : Sink} → Obliged f places i → k < 2 → spelled ≡ true → Puts a (name ++ (newline ∷ [])) b → Stored a b
    name_slot {a} {b} o l e p = (same_text (name_is e) p, omega (arith, p.wrote.moved, length-append name (newline ∷ []), name_length f places i k o l))

-- An effect by its first byte
pub permit_spelled : (permit : Bool) → same (word_text Word.Permit) (decision_text (effect permit)) ≡ permit
permit_spelled true = refl
permit_spelled false = refl

pub deny_spelled : (permit : Bool) → same (word_text Word.Deny) (decision_text (effect permit)) ≡ not permit
deny_spelled true = refl
deny_spelled false = refl

-- Whether there are any, from the last element on
module _ (places : List ElementPlaces) (j : ℕ) where
  pub any_here : not (eqb (obligation_end places j 0) 0) ≡ true → any_obliged places (suc j) ≡ true
  unfolding any_obliged
  any_here some = rw some

  pub any_before : not (eqb (obligation_end places j 0) 0) ≡ false → any_obliged places (suc j) ≡ any_obliged places j
  unfolding any_obliged
  any_before none = rw none

-- What was laid over the start of a buffer that has room for it
pub laid_whole : {x t y : List ℕ} {m : ℕ} → Wrote x 0 t y m → m ≤ length x → take (m - 0) y ≡ t
laid_whole {x} {t} {y} {m} w l =
    let size : length t ≡ m - 0 = omega (arith, w.moved) in
    ap (take (m - 0)) (at_start w (omega (arith, w.moved))) ∙ take_at t (drop (length t) x) (m - 0) size
