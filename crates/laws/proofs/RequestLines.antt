-- Request lines: those that name a request are answered with it, and every other line is refused with its place.
use mathlib.Core.Path.{◌≡◌, refl, sym, ap, ◌∙◌, subst}
use Prim.Native.Nat.{ℕ, zero, suc, ◌+◌, ◌≤◌, ◌<◌, suc-le-suc, zero-le}
use native.Mathlib.Omega.{arith}
use mathlib.Core.List.{List, [], ◌∷◌}
use mathlib.Core.Option.{Option, none, some}
use lib.ListN.{length}
use lib.Dec.{eqb}
use borrow.Author.Tests.{eqb-true, eq-eqb, ne_eqb, le-ltb, lt-ltb}
use Rattle.meaning.specs.Text.{Bytes, cut, join, tab}
use Rattle.meaning.specs.Model.{Attribute, Policy, sizes, Result, refused, given}
use Rattle.meaning.specs.Reading.{read}
use Rattle.meaning.specs.Deciding.{Request, number_of, request_of, chosen, values_of, request_line, Outcome, outcome, decide, decide_file}
use Rattle.meaning.specs.Claims.Texts.{All, Paired, EqualNames}
use Rattle.meaning.specs.Claims.PolicyFile.{GoodAttribute}
use Rattle.meaning.specs.Claims.Requests.{request_fields, request_text, NamesRequest, ValueAt, Numbered}
use Rattle.meaning.specs.Claims.Deciding.{Decides}
use Rattle.laws.proofs.Bools.{Test, passed, failed, test}
use Rattle.laws.proofs.Text.{Frees, cut_join}
use Rattle.laws.proofs.Names.{name_refl, equal_names}
use Rattle.laws.proofs.Reading.{refused-given, given_given}
use Rattle.laws.proofs.Requests.{Fits, number_request, request_number, next_request_lem, earlier_lower}
use Rattle.laws.proofs.Carrying.{stepped_next, one_higher, from_last}
use Rattle.laws.proofs.Bounds.{bounded}
use Rattle.laws.proofs.Chosen.{field_free, named_chosen, chosen_named, value_chosen, none_chosen}
use Rattle.laws.proofs.Choices.{counted}
use Rattle.laws.proofs.Answers.{positive, line_fits}

pub paired_length : {A B : Type 0} (R : A → B → Type 0) (xs : List A) (ys : List B) → Paired R xs ys → length xs ≡ length ys
paired_length R [] [] p = refl
paired_length R [] (y ∷ ys) p = absurd p
paired_length R (x ∷ xs) [] p = absurd p
paired_length R (x ∷ xs) (y ∷ ys) p = ap suc (paired_length R xs ys p.1)

paired_refl : (fs : List Bytes) → Paired EqualNames fs fs
paired_refl [] = tt
paired_refl (f ∷ fs) = ((equal_names f f).holds (name_refl f), paired_refl fs)

-- The fields that name a request, and back
values_read : (i : ℕ) (attrs : List Attribute) (fs : List Bytes) (q : Request) → All GoodAttribute attrs → Fits (sizes attrs) q → Paired EqualNames fs (request_fields attrs q) → values_of i attrs fs ≡ given q
values_read i [] fs [] g f p = refl
values_read i [] fs (v ∷ vs) g f p = absurd f
values_read i (a ∷ attrs) fs [] g f p = absurd f
values_read i (a ∷ attrs) [] (v ∷ vs) g f p = absurd p
values_read i (a ∷ attrs) (x ∷ fs) (v ∷ vs) g f p =
    rw (named_chosen a x v g.0 f.0 p.0, values_read (suc i) attrs fs vs g.1 f.1 p.1)

fields_count : (attrs : List Attribute) (q : Request) → Fits (sizes attrs) q → length (request_fields attrs q) ≡ length attrs
fields_count [] [] f = refl
fields_count [] (v ∷ vs) f = absurd f
fields_count (a ∷ attrs) [] f = absurd f
fields_count (a ∷ attrs) (v ∷ vs) f = ap suc (fields_count attrs vs f.1)

read_fields : (i : ℕ) (attrs : List Attribute) (fs : List Bytes) (q : Request) → All GoodAttribute attrs → length fs ≡ length attrs → values_of i attrs fs ≡ given q → Paired EqualNames fs (request_fields attrs q)
read_fields i [] [] q g e h = tt
read_fields i [] (f ∷ fs) q g e h = absurd (omega (arith, e))
read_fields i (a ∷ attrs) [] q g e h = absurd (omega (arith, e))
read_fields i (a ∷ attrs) (f ∷ fs) q g e h = go (chosen a f) refl (values_of (suc i) attrs fs) refl (λ r. read_fields (suc i) attrs fs r g.1 (omega (arith, e)))
  where
    go : (o : Option ℕ) → chosen a f ≡ o → (w : Result Request) → values_of (suc i) attrs fs ≡ w → ((r : Request) → values_of (suc i) attrs fs ≡ given r → Paired EqualNames fs (request_fields attrs r)) → Paired EqualNames (f ∷ fs) (request_fields (a ∷ attrs) q)
    go none x w y ih = let s : refused 10 i ≡ given q = rw x at h in refused-given s
    go (some v) x (refused n m) y ih = let s : refused n m ≡ given q = rw (x, y) at h in refused-given s
    go (some v) x (given r) y ih =
        let s : given (v ∷ r) ≡ given q = rw (x, y) at h in
        let z : v ∷ r ≡ q = given_given s in
        subst (λ q. Paired EqualNames (f ∷ fs) (request_fields (a ∷ attrs) q)) z (chosen_named a f v g.0 x, ih r y)

-- The first field that is no value
first_bad : (k i place : ℕ) (attrs : List Attribute) (fs : List Bytes) → All GoodAttribute attrs → place ≡ k + i → length fs ≡ length attrs → i < length attrs → ((j : ℕ) → j < i → ValueAt attrs fs j) → (ValueAt attrs fs i → ⊥) → values_of k attrs fs ≡ refused 10 place
first_bad k i place [] fs g p e l before bad = absurd (omega arith)
first_bad k i place (a ∷ attrs) [] g p e l before bad = absurd (omega (arith, e))
first_bad k zero place (a ∷ attrs) (f ∷ fs) g p e l before bad = let z : k ≡ place = omega arith in rw (none_chosen a f g.0 bad, z)
first_bad k (suc i) place (a ∷ attrs) (f ∷ fs) g p e l before bad =
    let (w, x) = value_chosen a f g.0 (before 0 (suc-le-suc zero-le)) in
    rw (x, first_bad (suc k) i place attrs fs g.1 (omega arith) (omega (arith, e)) (omega arith) (λ j u. before (suc j) (omega arith)) bad)

-- its fields hold no tab
fields_free : (attrs : List Attribute) (q : Request) → All GoodAttribute attrs → Fits (sizes attrs) q → Frees tab (request_fields attrs q)
fields_free [] [] g f = tt
fields_free [] (v ∷ vs) g f = absurd f
fields_free (a ∷ attrs) [] g f = absurd f
fields_free (a ∷ attrs) (v ∷ vs) g f = (field_free a v g.0 f.0, fields_free attrs vs g.1 f.1)

module _ (attrs : List Attribute) (some_attribute : 1 ≤ length attrs) (good : All GoodAttribute attrs) where
  text_fields : (q : Request) → Fits (sizes attrs) q → cut tab (request_text attrs q) ≡ request_fields attrs q
  text_fields q f = go (request_fields attrs q) (fields_count attrs q f) (fields_free attrs q good f)
    where
      go : (fs : List Bytes) → length fs ≡ length attrs → Frees tab fs → cut tab (join tab fs) ≡ fs
      go [] e g = absurd (omega (arith, e))
      go (x ∷ xs) e g = cut_join tab x xs g

  -- a line that names a request is answered with it, and no other is answered
  from_names : (r : Bytes) (q : Request) → Fits (sizes attrs) q → NamesRequest attrs r q → request_line attrs r ≡ given q
  from_names r q f p = rw (eq-eqb (length (cut tab r)) (length attrs) (paired_length EqualNames (cut tab r) (request_fields attrs q) p ∙ fields_count attrs q f)) (values_read 1 attrs (cut tab r) q good f p)

  to_names : (r : Bytes) (q : Request) → request_line attrs r ≡ given q → NamesRequest attrs r q
  to_names r q h = go (test (eqb (length (cut tab r)) (length attrs)))
    where
      go : Test (eqb (length (cut tab r)) (length attrs)) → NamesRequest attrs r q
      go (passed e) = read_fields 1 attrs (cut tab r) q good (eqb-true (length (cut tab r)) (length attrs) e) (rw e at h)
      go (failed e) = let s : refused 10 0 ≡ given q = rw e at h in refused-given s

  own_names : (q : Request) → Fits (sizes attrs) q → NamesRequest attrs (request_text attrs q) q
  own_names q f = subst (λ fs. Paired EqualNames fs (request_fields attrs q)) (sym (text_fields q f)) (paired_refl (request_fields attrs q))

  pub numbered : Numbered attrs
  numbered =
      let ss = sizes attrs in
      let some-values = positive attrs good in
      record {
        counted = counted attrs good;
        number_again = λ n l. let (a, b) = number_request ss n some-values l in (b, a);
        request_again = λ q f. let (a, b) = request_number ss q some-values f in (b, a);
        rising = λ q r f g e. earlier_lower ss q r some-values f g e;
        next_number = λ q. (next_request_lem ss q some-values).0;
        next_fits = λ q. (next_request_lem ss q some-values).1;
        steps = stepped_next ss;
        one_higher = λ n l. one_higher ss n some-values l;
        from_last = λ n e. from_last ss n some-values e;
        to_line = λ q f. from_names (request_text attrs q) q f (own_names q f);
        by_line = λ r q. (λ e. (line_fits attrs r q e, to_names r q e), λ (f, p). from_names r q f p);
        wrong_count = λ r e. rw (ne_eqb (length (cut tab r)) (length attrs) e);
        no_value = λ r i e l before bad. rw (eq-eqb (length (cut tab r)) (length attrs) e) (first_bad 1 i (suc i) attrs (cut tab r) good (omega arith) e l before bad);
      }

pub decides : (f : Bytes) (p : Policy) → read f ≡ given p → Decides decide_file f p
unfolding decide_file
decides f p h =
    let b = bounded f p h in
    let attrs = p.attributes in
    let numbers = numbered attrs b.some_attribute b.attributes_good in
    record {
      each_number = λ n l room fits. rw (h, numbers.to_line (request_of (sizes attrs) n) (numbers.number_again n l).0, le-ltb room (length (outcome p n).obligations) fits);
      each_line = λ r q e room. same r q e (λ o. length o.obligations ≤ room → decide_file room f r ≡ given o) (λ fits. rw (h, e, le-ltb room (length (decide p q).obligations) fits));
      too_short = λ r q e room. same r q e (λ o. room < length o.obligations → decide_file room f r ≡ refused 11 (length o.obligations)) (λ short. rw (h, e, lt-ltb room (length (decide p q).obligations) short));
      no_request = λ r n place e room. rw (h, e);
    }
  where
    same : (r : Bytes) (q : Request) → request_line p.attributes r ≡ given q → (P : Outcome → Type 0) → P (decide p q) → P (outcome p (number_of (sizes p.attributes) q))
    same r q e P x =
        let b = bounded f p h in
        let numbers = numbered p.attributes b.some_attribute b.attributes_good in
        subst P (ap (decide p) (sym (numbers.request_again q ((numbers.by_line r q).0 e).0).1)) x
