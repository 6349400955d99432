-- The words of one request, and the answer for an outcome.
use mathlib.Core.Path.{◌≡◌, refl, ap, ◌∙◌, subst}
use Prim.Native.Nat.{ℕ, ◌+◌, ◌-◌, ◌≤◌, ◌<◌, zero-le}
use native.Mathlib.Omega.{arith}
use mathlib.Core.Bool.{Bool, false}
use mathlib.Core.List.{List, []}
use mathlib.Core.Logic.{◌⊎◌, ⊎_elim}
use lib.Dec.{ltb, eqb}
use lib.ListN.{length, get_or, replicate}
use borrow.Author.Tests.{le-ltb, eqb-true, eqb-false}
use denote.Enum.Bare.{sameb}
use Rattle.meaning.specs.contracts.Decision.{the_type}
use Rattle.meaning.specs.declared.Answer.{Answer}
use Rattle.meaning.specs.declared.Element.{Element}
use Rattle.meaning.specs.Text.{Bytes}
use Rattle.meaning.specs.declared.Decision.{Decision}
use Rattle.meaning.specs.Deciding.{Outcome, bit, matches}
use Rattle.laws.proofs.Bools.{Test, passed, failed, test}
use Rattle.requests.specs.declared.Request.{Request}
use Rattle.requests.specs.Values.{values_of, severals_of}
use Rattle.table.specs.declared.Row.{Row}
use Rattle.table.specs.Rows.{element_at}
use Rattle.table.specs.Words.{word_in}
use Rattle.table.proofs.Words.{with_word, word_here, word_elsewhere}
use Rattle.blocks.specs.Bits.{Answers}
use Rattle.printing.specs.Fitted.{Fitted}
use Rattle.chains.specs.Chain.{chained}
use Rattle.obligations.specs.Given.{given_text, effect, marks_in, any_obliged, Giving}
use Rattle.obligations.proofs.Texts.{text_alike, text_undecided, none_given}
use Rattle.deciding.specs.Told.{deciding, Effect, outcome_on, Told, Asking}
use Rattle.layout.specs.declared.ElementPlaces.{ElementPlaces}

-- one element's word more
module _ (t : List Row) (hits : List (List ℕ)) (i w : ℕ) (hit : Element → Bool) (inside : i < length hits) (room : 0 < length (get_or hits i [])) where
  pub next_answers : bit w 0 ≡ hit (element_at t i) → Answers t hits i 0 0 hit → Answers t (with_word hits i 0 w inside) (i + 1) 0 0 hit
  next_answers is so_far j l = go (test (eqb j i))
    where
      go : Test (eqb j i) → bit (word_in (with_word hits i 0 w inside) j 0) 0 ≡ hit (element_at t j)
      go (passed e) = rw (eqb-true j i e) (ap (λ x. bit x 0) (word_here hits i 0 w inside room) ∙ is)
      go (failed e) =
          let other = eqb-false j i e in
          ap (λ x. bit x 0) (word_elsewhere hits i 0 w inside j 0 (λ same. absurd (other same))) ∙ so_far j (omega (arith, other))

-- the answer for an outcome, from the answer for the text of its obligations
told_so : (o : Outcome) (old new : Bytes) (a : Answer) (d : Decision) → Fitted old o.obligations new a → d ≡ o.decision → Told old new o (deciding a d)
told_so o old new a d fits is = go (test (ltb (length old) (length o.obligations)))
  where
    go : Test (ltb (length old) (length o.obligations)) → Told old new o (deciding a d)
    go (passed x) = record { answers = rw (fits.answers, is, x); lends = fits.lends ∙ rw x }
    go (failed x) = record { answers = rw (fits.answers, is, x); lends = fits.lends ∙ rw x }

-- where no obligations come the buffer stays
none_told : (o : Outcome) (old : Bytes) (d : Decision) → o.obligations ≡ [] → d ≡ o.decision → Told old old o (deciding (record { number = 0; second = 0 }) d)
none_told o old d none is = let fits : ltb (length old) 0 ≡ false = le-ltb (length old) 0 zero-le in record { answers = rw (none, is, fits); lends = rw (none, fits) }

-- the words of who gave the decision are enough for the text
pub giving : {f : List ℕ} {table : List Row} {places : List ElementPlaces} {given : List ℕ} {n : ℕ} {q : Request} → Asking f table places n q → n ≤ length given → Giving f places given n 0
giving ready enough = record { few = ready.few; each = ready.each; words = enough; place = omega arith }

pub places_room : {f : List ℕ} {table : List Row} {places : List ElementPlaces} {n : ℕ} {q : Request} → Asking f table places n q → n ≤ length places
places_room {n = n} ready = let last : n - 1 < n = omega (arith, ready.some) in omega (arith, ready.some, (ready.each (n - 1) last).room)

-- which is that of the outcome
effect_is : (d : Decision) → Effect d → effect (sameb the_type d Decision.Permit) ≡ d
effect_is Decision.Permit l = refl
effect_is Decision.Deny l = refl
effect_is Decision.NotApplicable l = absurd (omega arith)
effect_is Decision.Indeterminate l = absurd (omega arith)

text_is : (f : List ℕ) (table : List Row) (places : List ElementPlaces) (given : List ℕ) (n : ℕ) (q : Request) (d : Decision) {permit : Bool} → Effect d → d ≡ (outcome_on f table places n q).decision → permit ≡ sameb the_type d Decision.Permit
    → ((i : ℕ) → i < n → bit (get_or given i 0) 0 ≡ chained (matches (severals_of q) (values_of q)) table (replicate 64 0) n i)
    → given_text (effect permit) (marks_in given 0) f places n ≡ (outcome_on f table places n q).obligations
text_is f table places given n q d l is permitted marks =
    let decision = (outcome_on f table places n q).decision in
    ap (λ x. given_text x (marks_in given 0) f places n) (ap effect permitted ∙ effect_is d l ∙ is) ∙ text_alike decision f places (marks_in given 0) (chained (matches (severals_of q) (values_of q)) table (replicate 64 0) n) n marks

-- so the answer for the text is the answer for the outcome
pub given_told : (f : List ℕ) (table : List Row) (places : List ElementPlaces) (n : ℕ) (q : Request) (d : Decision) {permit : Bool} → Effect d → d ≡ (outcome_on f table places n q).decision → permit ≡ sameb the_type d Decision.Permit → (given : List ℕ) {old new : List ℕ} {a : Answer}
    → ((i : ℕ) → i < n → bit (get_or given i 0) 0 ≡ chained (matches (severals_of q) (values_of q)) table (replicate 64 0) n i)
    → Fitted old (given_text (effect permit) (marks_in given 0) f places n) new a → Told old new (outcome_on f table places n q) (deciding a d)
given_told f table places n q d l is permitted given {old} {new} {a} marks fits =
    told_so (outcome_on f table places n q) old new a d (subst (λ t. Fitted old t new a) (text_is f table places given n q d l is permitted marks) fits) is

-- no obligations come: the decision is neither permit nor deny, or the file has none
module _ (f : List ℕ) (table : List Row) (places : List ElementPlaces) (n : ℕ) (q : Request) (old : Bytes) (d : Decision) (is : d ≡ (outcome_on f table places n q).decision) where
  abbrev o : Outcome
  o = outcome_on f table places n q

  pub undecided : (d ≡ Decision.NotApplicable) ⊎ (d ≡ Decision.Indeterminate) → Told old old o (deciding (record { number = 0; second = 0 }) d)
  undecided other = none_told o old d (text_undecided o.decision f places (chained (matches (severals_of q) (values_of q)) table (replicate 64 0) n) n (rw (← is) (⊎_elim (λ e. rw e) (λ e. rw e) other))) is

  pub unobliged : any_obliged places n ≡ false → Told old old o (deciding (record { number = 0; second = 0 }) d)
  unobliged none = none_told o old d (none_given o.decision f places (chained (matches (severals_of q) (values_of q)) table (replicate 64 0) n) n none) is
