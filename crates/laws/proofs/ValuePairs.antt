-- Value pairs: exactly the pairs that get another decision than one of their values alone, by rising number.
use mathlib.Core.Path.{◌≡◌, refl, sym, ap, ◌∙◌, subst}
use mathlib.Core.Logic.{◌≢◌, ◌⊎◌, inl, inr, ◌↔◌}
use Prim.Native.Nat.{ℕ, ◌-◌, ◌^◌, ◌≤◌, ◌<◌, zero-le, suc-le-suc}
use native.Mathlib.Omega.{arith}
use mathlib.Core.Bool.{Bool, true, not}
use mathlib.Core.List.{List, [], ◌∷◌, ◌++◌, map, map-append, append-nil, Memᴰ}
use lib.ListN.{length, get_or, set, length-map}
use lib.Seq.{set_at, get_or_at}
use Rattle.meaning.specs.Text.{Bytes, bytes, empty, keep, gathered}
use Rattle.meaning.specs.Model.{Policy, choices, sizes, space, Result, refused, given}
use Rattle.meaning.specs.Reading.{read}
use Rattle.meaning.specs.Deciding.{Request, number_of, request_of, requests, members, is, decision_on}
use Rattle.meaning.specs.ValuePairs.{several_at, ValuePair, differs, alone, of_two, pair_on, value_pairs, pair_fields, pairs_text, pairs_named}
use Rattle.meaning.specs.Claims.Texts.{All, Ordered, Rising, DistinctNames}
use Rattle.meaning.specs.Claims.PolicyFile.{GoodAttribute, attribute_names}
use Rattle.meaning.specs.Claims.Sets.{SetOf, set_number}
use Rattle.meaning.specs.Claims.ReportLines.{field_lines}
use Rattle.meaning.specs.Claims.ValuePairs.{NamedAttribute, Others, number_with, Differing, PairsListed, pair_row, PairsNamed}
use Rattle.laws.proofs.Bools.{Test, passed, failed, test, contradiction}
use Rattle.laws.proofs.Outcomes.{same_decision, decision_same}
use Rattle.laws.proofs.Search.{counting_has, counting_only, counting_rising, keep_has, keep_only, keep_rising, gathered_has, gathered_only}
use Rattle.laws.proofs.Requests.{Fits, fits_join, Parts, parts, number_request, request_number}
use Rattle.laws.proofs.Reading.{refused-given, given_given}
use Rattle.laws.proofs.FirstBad.{refused_refused}
use Rattle.laws.proofs.Bounds.{all_has, bounded}
use Rattle.laws.proofs.Answers.{positive}
use Rattle.laws.proofs.RequestLines.{paired_length}
use Rattle.laws.proofs.Sets.{number_of_lem, set_of_lem}
use Rattle.laws.proofs.Clean.{Clean, field_clean, number_clean, decision_clean}
use Rattle.laws.proofs.ReportLines.{lines_in_lem, every}
use Rattle.laws.proofs.WellFormed.{well_formed}
use Rattle.laws.proofs.Settled.{ordered_same, fields_settle}
use Rattle.laws.proofs.NamedAttribute.{found_named, named_found, refused_13}

-- What differs
differs_true : (d : ValuePair) → differs d ≡ true → (d.both ≢ d.earlier) ⊎ (d.both ≢ d.later)
differs_true d h = go (test (is d.both d.earlier)) (test (is d.both d.later))
  where
    go : Test (is d.both d.earlier) → Test (is d.both d.later) → (d.both ≢ d.earlier) ⊎ (d.both ≢ d.later)
    go (failed x) y = inl (λ s. contradiction (subst (λ e. is d.both e ≡ true) s (decision_same d.both)) x)
    go (passed x) (failed y) = inr (λ s. contradiction (subst (λ e. is d.both e ≡ true) s (decision_same d.both)) y)
    go (passed x) (passed y) = contradiction h (rw (x, y))

true_differs : (d : ValuePair) → (d.both ≢ d.earlier) ⊎ (d.both ≢ d.later) → differs d ≡ true
true_differs d h = go (test (is d.both d.earlier)) (test (is d.both d.later)) h
  where
    go : Test (is d.both d.earlier) → Test (is d.both d.later) → (d.both ≢ d.earlier) ⊎ (d.both ≢ d.later) → differs d ≡ true
    go (failed x) y h = rw x
    go (passed x) (failed y) h = rw (x, y)
    go (passed x) (passed y) (inl n) = absurd (n (same_decision d.both d.earlier x))
    go (passed x) (passed y) (inr n) = absurd (n (same_decision d.both d.later y))

-- Pairs with equal fields are the same
same_pair : (d e : ValuePair) → d.request ≡ e.request → d.both ≡ e.both → d.earlier ≡ e.earlier → d.later ≡ e.later → d ≡ e
same_pair d e w x y z = λ i. record { request = w i; both = x i; earlier = y i; later = z i }

-- The pairs of an attribute, in a file's policy
module _ (p : Policy) (good : All GoodAttribute p.attributes) {name : Bytes} (a : NamedAttribute p.attributes name) where
  abbrev ss : List ℕ
  ss = sizes p.attributes

  abbrev place : ℕ
  place = length a.before

  abbrev many : ℕ
  many = length a.attribute.values

  own_good : GoodAttribute a.attribute
  own_good = all_has GoodAttribute a.attribute {xs = p.attributes} (rw a.in_file (mathlib.Core.List.Memᴰ.append_right a.before (mathlib.Core.List.Memᴰ.head refl))) good

  few : many ≤ 12
  few = rw a.is_several at own_good.few_values

  sizes_are : ss ≡ sizes a.before ++ ((2 ^ many - 1) ∷ sizes a.behind)
  sizes_are = ap sizes a.in_file ∙ map-append choices a.before (a.attribute ∷ a.behind) ∙ (let own : choices a.attribute ≡ 2 ^ many - 1 = rw a.is_several in rw own)

  -- the request of a choice of the others, with a set of values
  abbrev request_with : Others p a → List ℕ → Request
  request_with q vs = q.before ++ (set_number vs ∷ q.behind)

  with_fits : (q : Others p a) (vs : List ℕ) → SetOf many vs → Fits ss (request_with q vs)
  with_fits q vs s = rw sizes_are (fits_join (sizes a.before) (2 ^ many - 1) (sizes a.behind) q.before (set_number vs) q.behind q.before_fits (number_of_lem many vs few s).0 q.behind_fits)

  before_place : (q : Others p a) → length q.before ≡ place
  before_place q = sym (paired_length (λ s v. v < s) (sizes a.before) q.before q.before_fits) ∙ length-map a.before choices

  one_number : (v : ℕ) → set_number (v ∷ []) ≡ 2 ^ v - 1
  one_number v = omega arith

  -- the same with one value alone
  alone_is : (q : Others p a) (n : ℕ) (vs : List ℕ) (v : ℕ) → request_of ss n ≡ request_with q vs → alone ss place n v ≡ number_with p a q (v ∷ [])
  alone_is q n vs v e =
      ap (λ r. number_of ss (set r place (2 ^ v - 1))) e
      ∙ ap (number_of ss) (set_at q.before (set_number vs) q.behind (2 ^ v - 1) place (before_place q) ∙ ap (λ x. q.before ++ (x ∷ q.behind)) (sym (one_number v)))

  each_listed : (d : ValuePair) → Differing p a d → Memᴰ d (value_pairs p place)
  unfolding value_pairs
  each_listed d h =
      let q = h.others in
      let v = h.earlier_value in
      let w = h.later_value in
      let n = d.request in
      let s : SetOf many (v ∷ w ∷ []) = record { some_value = suc-le-suc zero-le; rising = (λ y m. subst (λ x. v < x) (sym (mathlib.Core.List.Memᴰ.eq_of_singleton m)) h.in_order, (λ y m. absurd (mathlib.Core.List.Memᴰ.not-nil m), tt)); declared = (omega (arith, h.in_order, h.declared), (h.declared, tt)) } in
      let (again, below) = request_number ss (request_with q (v ∷ w ∷ [])) (positive p.attributes good) (with_fits q (v ∷ w ∷ []) s) in
      let request_is : request_of ss n ≡ request_with q (v ∷ w ∷ []) = ap (request_of ss) h.request_is ∙ again in
      let set_is : members (get_or (request_of ss n) place 0) ≡ v ∷ w ∷ [] = ap (λ r. members (get_or r place 0)) request_is ∙ ap members (get_or_at q.before (set_number (v ∷ w ∷ [])) q.behind 0 place (before_place q)) ∙ (number_of_lem many (v ∷ w ∷ []) few s).1 in
      let shown = same_pair d (record { request = n; both = decision_on p n; earlier = decision_on p (alone ss place n v); later = decision_on p (alone ss place n w) }) refl
      (h.with_both ∙ ap (decision_on p) (sym h.request_is))
      (h.with_earlier ∙ ap (decision_on p) (sym (alone_is q n (v ∷ w ∷ []) v request_is)))
      (h.with_later ∙ ap (decision_on p) (sym (alone_is q n (v ∷ w ∷ []) w request_is))) in
      let here : Memᴰ d (pair_on p place n) = rw set_is (mathlib.Core.List.Memᴰ.head shown) in
      let in_space : n < space p.attributes = rw h.request_is below in
      keep_has differs d (gathered_has (pair_on p place) n d (counting_has 0 (space p.attributes) n zero-le (omega (arith, in_space))) here) (true_differs d h.differs)

  no_other : (d : ValuePair) → Memᴰ d (value_pairs p place) → Differing p a d
  unfolding value_pairs
  no_other d m =
      let (found, differ) = keep_only differs d (gathered (pair_on p place) (requests p)) m in
      let (n, counted, here) = gathered_only (pair_on p place) d (requests p) found in
      let in_space : n < space p.attributes = omega (arith, (counting_only 0 (space p.attributes) n counted).1) in
      let (number, fits) = number_request ss n (positive p.attributes good) in_space in
      go n number (parts (sizes a.before) (2 ^ many - 1) (sizes a.behind) (request_of ss n) (subst (λ l. Fits l (request_of ss n)) sizes_are fits)) (members (get_or (request_of ss n) place 0)) refl here (differs_true d differ)
    where
      go : (n : ℕ) → number_of ss (request_of ss n) ≡ n → Parts (sizes a.before) (2 ^ many - 1) (sizes a.behind) (request_of ss n) → (vs : List ℕ) → members (get_or (request_of ss n) place 0) ≡ vs → Memᴰ d (of_two p place n vs) → (d.both ≢ d.earlier) ⊎ (d.both ≢ d.later) → Differing p a d
      go n number q [] e here differ = absurd (mathlib.Core.List.Memᴰ.not-nil here)
      go n number q (v ∷ []) e here differ = absurd (mathlib.Core.List.Memᴰ.not-nil here)
      go n number q (v ∷ w ∷ x ∷ vs) e here differ = absurd (mathlib.Core.List.Memᴰ.not-nil here)
      go n number q (v ∷ w ∷ []) e here differ =
          let others : Others p a = record { before = q.before; behind = q.behind; before_fits = q.before_fits; behind_fits = q.behind_fits } in
          let set_is : members q.here ≡ v ∷ w ∷ [] = sym (ap members (ap (λ r. get_or r place 0) q.are ∙ get_or_at q.before q.here q.behind 0 place (before_place others))) ∙ e in
          let (own, numbered) = set_of_lem many q.here few q.here_fits in
          let s : SetOf many (v ∷ w ∷ []) = subst (SetOf many) set_is own in
          let number_is : set_number (v ∷ w ∷ []) ≡ q.here = sym (ap set_number set_is) ∙ numbered in
          let request_is : request_of ss n ≡ request_with others (v ∷ w ∷ []) = q.are ∙ ap (λ x. q.before ++ (x ∷ q.behind)) (sym number_is) in
          let n-is : n ≡ number_with p a others (v ∷ w ∷ []) = sym number ∙ ap (number_of ss) request_is in
          let pair_is = mathlib.Core.List.Memᴰ.eq_of_singleton here in
          record {
            others = others;
            earlier_value = v;
            later_value = w;
            in_order = s.rising.0 w (mathlib.Core.List.Memᴰ.head refl);
            declared = s.declared.1.0;
            request_is = ap (λ x. x.request) pair_is ∙ n-is;
            with_both = ap (λ x. x.both) pair_is ∙ ap (decision_on p) n-is;
            with_earlier = ap (λ x. x.earlier) pair_is ∙ ap (decision_on p) (alone_is others n (v ∷ w ∷ []) v request_is);
            with_later = ap (λ x. x.later) pair_is ∙ ap (decision_on p) (alone_is others n (v ∷ w ∷ []) w request_is);
            differs = differ;
          }

-- The numbers of the pairs that differ are those of the requests that show one
module _ (p : Policy) (i : ℕ) where
  none_or_one : (n : ℕ) (vs : List ℕ) → (of_two p i n vs ≡ []) ⊎ ((d : ValuePair) × (of_two p i n vs ≡ d ∷ []) × (d.request ≡ n))
  none_or_one n [] = inl refl
  none_or_one n (v ∷ []) = inl refl
  none_or_one n (v ∷ w ∷ []) = inr (_, refl, refl)
  none_or_one n (v ∷ w ∷ x ∷ vs) = inl refl

  abbrev shows : ℕ → Bool
  shows n = not (empty (keep differs (pair_on p i n)))

  numbers : (ns : List ℕ) → map (λ d. d.request) (keep differs (gathered (pair_on p i) ns)) ≡ keep shows ns
  numbers [] = refl
  numbers (n ∷ ns) = go (none_or_one n (members (get_or (request_of (sizes p.attributes) n) i 0))) (numbers ns)
    where
      go : (pair_on p i n ≡ []) ⊎ ((d : ValuePair) × (pair_on p i n ≡ d ∷ []) × (d.request ≡ n)) → map (λ d. d.request) (keep differs (gathered (pair_on p i) ns)) ≡ keep shows ns
          → map (λ d. d.request) (keep differs (gathered (pair_on p i) (n ∷ ns))) ≡ keep shows (n ∷ ns)
      go (inl e) later = rw e later
      go (inr (d, e, s)) later = one (test (differs d))
        where
          one : Test (differs d) → map (λ d. d.request) (keep differs (gathered (pair_on p i) (n ∷ ns))) ≡ keep shows (n ∷ ns)
          one (passed t) = rw (e, t, s, later)
          one (failed t) = rw (e, t, later)

  rising : Rising (map (λ d. d.request) (value_pairs p i))
  unfolding value_pairs
  rising = subst Rising (sym (numbers (requests p))) (keep_rising shows (requests p) (counting_rising 0 (space p.attributes)))

  -- its lines by their fields
  pair_clean : (d : ValuePair) → All Clean (pair_fields d)
  pair_clean d = (field_clean (bytes "D") refl, (number_clean d.request, (decision_clean d.both, (decision_clean d.earlier, (decision_clean d.later, tt)))))

  text_fields : field_lines (pairs_text p i) ≡ map pair_row (value_pairs p i) ++ (([] ∷ []) ∷ [])
  text_fields = ap field_lines (sym (append-nil (pairs_text p i))) ∙ lines_in_lem (bytes "D") _ (value_pairs p i) [] (every pair_clean (value_pairs p i))

pairs_listed : (p : Policy) → All GoodAttribute p.attributes → {name : Bytes} (a : NamedAttribute p.attributes name) → PairsListed p a (value_pairs p (length a.before))
pairs_listed p good a = record { each_listed = each_listed p good a; no_other = no_other p good a; rising = rising p (length a.before) }

-- Two lists of them are the same
by_request : (ds : List ValuePair) → Rising (map (λ d. d.request) ds) → Ordered (λ d e. d.request < e.request) ds
by_request [] r = tt
by_request (d ∷ ds) r = (λ e m. r.0 e.request (in_map e m), by_request ds r.1)
  where
    in_map : (e : ValuePair) {es : List ValuePair} → Memᴰ e es → Memᴰ e.request (map (λ d. d.request) es)
    in_map e (mathlib.Core.List.Memᴰ.head x) = mathlib.Core.List.Memᴰ.head (ap (λ d. d.request) x)
    in_map e (mathlib.Core.List.Memᴰ.tail m) = mathlib.Core.List.Memᴰ.tail (in_map e m)

same_pairs : (p : Policy) {name : Bytes} (a : NamedAttribute p.attributes name) (ds es : List ValuePair) → PairsListed p a ds → PairsListed p a es → ds ≡ es
same_pairs p a ds es x y =
    ordered_same (λ d e. d.request < e.request) (λ d e l k. omega arith) ds es (by_request ds x.rising) (by_request es y.rising) (λ d. (λ m. y.each_listed d (x.no_other d m), λ m. x.each_listed d (y.no_other d m)))

-- The text of a name, and where there is none
module _ (f : Bytes) (p : Policy) (h : read f ≡ given p) (name : Bytes) where
  distinct : DistinctNames (attribute_names p.attributes)
  distinct = ((well_formed f p).0 h).good.attributes_distinct

  good : All GoodAttribute p.attributes
  good = (bounded f p h).attributes_good

  pub pairing : (t : Bytes) → pairs_named p name ≡ given t ↔ PairsNamed p name t
  unfolding pairs_named
  pairing t = (λ e. there (several_at 0 name p.attributes) refl e, back)
    where
      there : (r : Result ℕ) → several_at 0 name p.attributes ≡ r → pairs_named p name ≡ given t → PairsNamed p name t
      there (refused n m) s e = let z : refused n m ≡ given t = rw s at e in refused-given z
      there (given i) s e =
          let (a, place) = found_named 0 name p.attributes i s in
          let text : pairs_text p i ≡ t = given_given (rw s at e) in
          let same_place : length a.before ≡ i = omega (arith, place) in
          record { named = a; listed = value_pairs p (length a.before); pairs = pairs_listed p good a; rows = ap field_lines (sym text ∙ ap (pairs_text p) (sym same_place)) ∙ text_fields p (length a.before) }

      back : PairsNamed p name t → pairs_named p name ≡ given t
      back o =
          let i = length o.named.before in
          let same_text : t ≡ pairs_text p i = fields_settle t (pairs_text p i) (o.rows ∙ ap (λ ds. map pair_row ds ++ (([] ∷ []) ∷ [])) (same_pairs p o.named o.listed (value_pairs p i) o.pairs (pairs_listed p good o.named)) ∙ sym (text_fields p i)) in
          rw (named_found name p.attributes distinct o.named) (ap given (sym same_text))

  pub no_such_attribute : (n m : ℕ) → pairs_named p name ≡ refused n m ↔ ((NamedAttribute p.attributes name → ⊥) × (n ≡ 13) × (m ≡ 0))
  unfolding pairs_named
  no_such_attribute n m = (λ e. there (several_at 0 name p.attributes) refl e, λ x. back (several_at 0 name p.attributes) refl x)
    where
      there : (r : Result ℕ) → several_at 0 name p.attributes ≡ r → pairs_named p name ≡ refused n m → (NamedAttribute p.attributes name → ⊥) × (n ≡ 13) × (m ≡ 0)
      there (given i) s e = let z : given (pairs_text p i) ≡ refused n m = rw s at e in refused-given (sym z)
      there (refused k l) s e =
          let z : refused k l ≡ refused n m = rw s at e in
          let (x, y) = refused_refused z in
          let (u, v) = refused_13 0 name p.attributes k l s in
          (λ a. refused-given (sym s ∙ named_found name p.attributes distinct a), sym x ∙ u, sym y ∙ v)

      back : (r : Result ℕ) → several_at 0 name p.attributes ≡ r → (NamedAttribute p.attributes name → ⊥) × (n ≡ 13) × (m ≡ 0) → pairs_named p name ≡ refused n m
      back (given i) s (none, x, y) = absurd (none (found_named 0 name p.attributes i s).0)
      back (refused k l) s (none, x, y) = let (u, v) = refused_13 0 name p.attributes k l s in rw (s, u, v, x, y)
