-- The places for obligations: those of an element that the writer takes, one after another, give that element again.
use mathlib.Core.Path.{◌≡◌, refl, sym, ap, ◌∙◌}
use Prim.Native.Nat.{ℕ, zero, suc, ◌+◌, ◌-◌, ◌≤◌, zero-le}
use native.Mathlib.Omega.{arith}
use mathlib.Core.Bool.{true, false, not, ◌||◌, cond}
use mathlib.Core.List.{List, [], ◌∷◌, ◌++◌, append-nil, map}
use lib.ListN.{length, take, replicate}
use lib.Dec.{eqb, ltb}
use borrow.Author.Tests.{ltb-false, le-ltb, eqb-true, not-false}
use Rattle.laws.proofs.Types.{Word, deny_overrides, permit_overrides, first_applicable, only_one_applicable, Obligation, Element, Kind, rule}
use Rattle.meaning.specs.Text.{same, any}
use Rattle.meaning.specs.Model.{unused, places_of, obligations_of, with_obligations, given, unless, word_text, obligation_name}
use Rattle.meaning.specs.Reading.{Sofar, non_zero, other_content, bad_unused, bad_name, element_tests, obligation_tests, lowest, nearest_obligations, with_element, with_obligation, bad_stored, may_have_obligations}
use Rattle.meaning.specs.Writing.{read_obligations, read_element}
use Rattle.meaning.specs.Claims.Texts.{All, DistinctNames}
use Rattle.meaning.specs.Claims.Writing.{Shaped}
use Rattle.meaning.specs.Claims.PolicyFile.{Allowed}
use Rattle.laws.proofs.Bools.{Test, passed, failed, test, contradiction, or_false}
use Rattle.laws.proofs.Reading.{given_given, step_then, step_unless, Passes, lowest_zero, passes_lowest, obligation_numbered, element_numbered}

-- Zeros behind a list
pub only_zeros : (xs : List ℕ) → non_zero xs ≡ false → xs ≡ replicate (length xs) 0
only_zeros [] h = refl
only_zeros (x ∷ xs) h =
    let (own, others) = or_false (not (eqb x 0)) (non_zero xs) h in
    let zero-here : x ≡ 0 = eqb-true x 0 (not-false (eqb x 0) own) in
    let zeros = only_zeros xs others in
    cc

-- A place with no other content is an unused one
pub permit_word : (w : Word) → same (word_text w) (word_text Word.Permit) ≡ true → w ≡ Word.Permit
permit_word Word.Permit h = refl
permit_word Word.Deny h = contradiction h refl
permit_word deny_overrides h = contradiction h refl
permit_word permit_overrides h = contradiction h refl
permit_word first_applicable h = contradiction h refl
permit_word only_one_applicable h = contradiction h refl

unused_is : (o : Obligation) → length o.name ≡ 16 → other_content o ≡ false → unused ≡ o
unused_is o size h =
    let (zeros, word) = or_false (non_zero (o.len ∷ o.name)) (not (same (word_text o.word) (word_text Word.Permit))) h in
    let (none, behind) = or_false (not (eqb o.len 0)) (non_zero o.name) zeros in
    let l : o.len ≡ 0 = eqb-true o.len 0 (not-false (eqb o.len 0) none) in
    let n : o.name ≡ replicate 16 0 = only_zeros o.name behind ∙ ap (λ k. replicate k 0) size in
    let w : o.word ≡ Word.Permit = permit_word o.word (not-false (same (word_text o.word) (word_text Word.Permit)) word) in
    λ i. record { name = sym n i; len = sym l i; word = sym w i }

-- An element with its own obligations in their places, by their count
with_places : (e : Element) (n : ℕ) (a b : Obligation) → e.obligations ≡ n → a ≡ e.first → b ≡ e.second → record { kind = e.kind; depth = e.depth; name = e.name; len = e.len; word = e.word; masks = e.masks; obligations = n; first = a; second = b } ≡ e
with_places e n a b c x y i = record { kind = e.kind; depth = e.depth; name = e.name; len = e.len; word = e.word; masks = e.masks; obligations = sym c i; first = x i; second = y i }

own_by : (n : ℕ) (e : Element) → e.obligations ≡ n → n ≤ 2 → Shaped e → bad_unused e ≡ false → with_obligations (take n (places_of e)) e ≡ e
own_by zero e c l s h =
    let u : any other_content (places_of e) ≡ false = rw c at h in
    let (a, b) = or_false (other_content e.first) (other_content e.second || false) u in
    with_places e 0 unused unused c (unused_is e.first s.places_size.0 a) (unused_is e.second s.places_size.1.0 (or_false (other_content e.second) false b).0)
own_by (suc zero) e c l s h =
    let u : any other_content (e.second ∷ []) ≡ false = rw c at h in
    with_places e 1 e.first unused c refl (unused_is e.second s.places_size.1.0 (or_false (other_content e.second) false u).0)
own_by (suc (suc zero)) e c l s h = with_places e 2 e.first e.second c refl refl
own_by (suc (suc (suc n))) e c l s h = absurd (omega arith)

pub own_obligations_lem : (e : Element) → e.obligations ≤ 2 → Shaped e → bad_unused e ≡ false → with_obligations (obligations_of e) e ≡ e
own_obligations_lem e l s h = own_by e.obligations e refl l s h

-- Given obligations in the places, at most two
pub obligations_with : (os : List Obligation) (e : Element) → length os ≤ 2 → obligations_of (with_obligations os e) ≡ os
obligations_with [] e l = refl
obligations_with (o ∷ []) e l = refl
obligations_with (o ∷ x ∷ []) e l = refl
obligations_with (o ∷ x ∷ y ∷ os) e l = absurd (omega arith)

pub places_with_lem : (os : List Obligation) (e : Element) → length os ≤ 2 → places_of (with_obligations os e) ≡ os ++ replicate (2 - length os) unused
places_with_lem [] e l = refl
places_with_lem (o ∷ []) e l = refl
places_with_lem (o ∷ x ∷ []) e l = refl
places_with_lem (o ∷ x ∷ y ∷ os) e l = absurd (omega arith)

-- leave no other content
pub places_zero : (os : List Obligation) (e : Element) → length os ≤ 2 → bad_unused (with_obligations os e) ≡ false
places_zero [] e l = refl
places_zero (o ∷ []) e l = refl
places_zero (o ∷ x ∷ []) e l = refl
places_zero (o ∷ x ∷ y ∷ os) e l = absurd (omega arith)

-- and keep the places' sizes
pub places_sized : (P : Obligation → Type 0) → P unused → (os : List Obligation) (e : Element) → length os ≤ 2 → All P os → All P (places_of (with_obligations os e))
places_sized P u [] e l z = (u, (u, tt))
places_sized P u (o ∷ []) e l z = (z.0, (u, tt))
places_sized P u (o ∷ x ∷ []) e l z = (z.0, (z.1.0, tt))
places_sized P u (o ∷ x ∷ y ∷ os) e l z = absurd (omega arith)

pub few_obligations : (e : Element) → length (obligations_of e) ≤ 2
few_obligations e = go e.obligations
  where
    go : (n : ℕ) → length (take n (places_of e)) ≤ 2
    go zero = omega arith
    go (suc zero) = omega arith
    go (suc (suc zero)) = omega arith
    go (suc (suc (suc n))) = omega arith

pub few_nearest : (es : List Element) → length (nearest_obligations es) ≤ 2
few_nearest [] = omega arith
few_nearest (e ∷ es) = few_obligations e

pub obligations_counted : (e : Element) → e.obligations ≤ 2 → length (obligations_of e) ≡ e.obligations
obligations_counted e l = go e.obligations l
  where
    go : (n : ℕ) → n ≤ 2 → length (take n (places_of e)) ≡ n
    go zero l = refl
    go (suc zero) l = refl
    go (suc (suc zero)) l = refl
    go (suc (suc (suc n))) l = absurd (omega arith)

-- A good obligation, and those that an element may carry: at most two, none on a rule, no two of equal name
pub record GoodObligation (o : Obligation) : Type 0 where
  pub named : bad_stored o.len o.name ≡ false
  pub name_size : length o.name ≡ 16
  pub effect : Allowed rule o.word

pub record Carried (kind : Kind) (os : List Obligation) : Type 0 where
  pub at_most_two : length os ≤ 2
  pub each_good : All GoodObligation os
  pub names_once : DistinctNames (map obligation_name os)
  pub rule_bare : may_have_obligations kind ≡ false → os ≡ []

pub none_carried : (k : Kind) → Carried k []
none_carried k = record { at_most_two = zero-le; each_good = tt; names_once = tt; rule_bare = λ h. refl }

-- The lines of some elements: one for each, and one for each obligation
abbrev pub lines_in : List Element → ℕ
lines_in [] = 0
lines_in (e ∷ es) = suc (length (obligations_of e)) + lines_in es

pub lines_append : (xs ys : List Element) → lines_in (xs ++ ys) ≡ lines_in xs + lines_in ys
lines_append [] ys = omega arith
lines_append (x ∷ xs) ys = omega (arith, lines_append xs ys)

-- One obligation after another
abbrev pub with_all : Sofar → List Obligation → Sofar
with_all s [] = s
with_all s (o ∷ os) = with_all (with_obligation s o) os

pub all_with : (s : Sofar) (e : Element) (os : List Obligation) → length os ≤ 2 → with_all (with_element s (with_obligations [] e)) os ≡ with_element s (with_obligations os e)
all_with s e [] l = refl
all_with s e (o ∷ []) l = refl
all_with s e (o ∷ x ∷ []) l = refl
all_with s e (o ∷ x ∷ y ∷ os) l = absurd (omega arith)

-- What the writer reads of an element: its line passes, its obligations pass one after another, and there are at most two
abbrev pub AllPass : Sofar → List Obligation → Type 0
AllPass s [] = Unit {0}
AllPass s (o ∷ os) = Passes (obligation_tests s (word_text o.word) o) × AllPass (with_obligation s o) os

obligations_read_lem : (n : ℕ) (s : Sofar) (os : List Obligation) (t : Sofar) → read_obligations n s os ≡ given t → AllPass s os × (t ≡ with_all s os)
obligations_read_lem n s [] t h = (tt, sym (given_given h))
obligations_read_lem n s (o ∷ os) t h =
    let tests = obligation_tests s (word_text o.word) o in
    let (none-holds, r) = step_unless (lowest tests) n (read_obligations (suc n) (with_obligation s o) os) t h in
    let (later, e) = obligations_read_lem (suc n) (with_obligation s o) os t r in
    ((lowest_zero tests (obligation_numbered s (word_text o.word) o) none-holds, later), e)

pub read_past : (n : ℕ) (s : Sofar) (os more : List Obligation) → AllPass s os → read_obligations n s (os ++ more) ≡ read_obligations (n + length os) (with_all s os) more
read_past n s [] more p = let e : n ≡ n + 0 = omega arith in ap (λ k. read_obligations k s more) e
read_past n s (o ∷ os) more p =
    let e : suc n + length os ≡ n + suc (length os) = omega arith in
    rw (passes_lowest (obligation_tests s (word_text o.word) o) p.0) (read_past (suc n) (with_obligation s o) os more p.1 ∙ ap (λ k. read_obligations k (with_all (with_obligation s o) os) more) e)

pub record ReadElement (s : Sofar) (e : Element) (t : Sofar) : Type 0 where
  pub passes : Passes (element_tests s (word_text e.word) e)
  pub obligations_pass : AllPass (with_element s (with_obligations [] e)) (obligations_of e)
  pub few : e.obligations ≤ 2
  pub is : t ≡ with_element s (with_obligations (obligations_of e) e)

count_few : (n : ℕ) → ◌≡◌ {A = ℕ} (cond (ltb 2 n) 14 0) 0 → n ≤ 2
count_few n h = go (test (ltb 2 n))
  where
    go : Test (ltb 2 n) → n ≤ 2
    go (passed x) = let z : ◌≡◌ {A = ℕ} 14 0 = rw x at h in absurd (omega arith)
    go (failed x) = ltb-false 2 n x

pub element_read_lem : (n : ℕ) (s : Sofar) (e : Element) (t : Sofar) → read_element n s e ≡ given t → ReadElement s e t
element_read_lem n s e t h =
    let tests = element_tests s (word_text e.word) e in
    let own = with_element s (with_obligations [] e) in
    let (u, a, b) = step_then (unless (lowest tests) n (read_obligations (suc n) own (obligations_of e))) (λ t. unless (cond (ltb 2 e.obligations) 14 0) (n + 3) (given t)) t h in
    let (none-holds, c) = step_unless (lowest tests) n (read_obligations (suc n) own (obligations_of e)) u a in
    let (two, d) = step_unless (cond (ltb 2 e.obligations) 14 0) (n + 3) (given u) t b in
    let (pass, f) = obligations_read_lem (suc n) own (obligations_of e) u c in
    record {
      passes = lowest_zero tests (element_numbered s (word_text e.word) e) none-holds;
      obligations_pass = pass;
      few = count_few e.obligations two;
      is = sym (given_given d) ∙ f ∙ all_with s e (obligations_of e) (few_obligations e);
    }

pub read_element_lem : (n : ℕ) (s : Sofar) (e : Element) → Passes (element_tests s (word_text e.word) e) → AllPass (with_element s (with_obligations [] e)) (obligations_of e) → e.obligations ≤ 2
    → read_element n s e ≡ given (with_element s (with_obligations (obligations_of e) e))
read_element_lem n s e p q l =
    let own = with_element s (with_obligations [] e) in
    let all_read : read_obligations (suc n) own (obligations_of e) ≡ given (with_all own (obligations_of e)) = ap (read_obligations (suc n) own) (sym (append-nil (obligations_of e))) ∙ read_past (suc n) own (obligations_of e) [] q in
    rw (passes_lowest (element_tests s (word_text e.word) e) p, all_read, le-ltb 2 e.obligations l) (ap given (all_with s e (obligations_of e) (few_obligations e)))

-- and so it is taken as it is
pub element_kept : (s : Sofar) (e : Element) (t : Sofar) → Shaped e → ReadElement s e t → t ≡ with_element s e
element_kept s e t shaped r = r.is ∙ ap (with_element s) (own_obligations_lem e r.few shaped (or_false (bad_name e) (bad_unused e) r.passes.0).1)
