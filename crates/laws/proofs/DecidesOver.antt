-- Joining: on every request the joined policy decides as its word does over the two files, each on its own request.
use mathlib.Core.Path.{◌≡◌, refl, sym, ap, ap₂, ◌∙◌, subst}
use Prim.Native.Nat.{ℕ, ◌-◌, ◌≤◌, ◌<◌}
use native.Mathlib.Omega.{arith}
use mathlib.Core.Bool.{Bool, true, false, cond, ◌&&◌}
use mathlib.Core.List.Memᴰ
use mathlib.Core.List.{List, [], ◌∷◌, ◌++◌, map}
use mathlib.Core.Option.{none}
use lib.ListN.{length, get_or, replicate, length-map}
use Rattle.meaning.specs.Text.{Bytes, repeated}
use Rattle.meaning.specs.Model.{Attribute, Policy, sizes, severals, space, full, given}
use Rattle.meaning.specs.Reading.{read}
use Rattle.meaning.specs.Deciding.{Request, number_of, request_of, within, is, Reply, combined, asked, hits, outcome, decision_on, outcome_of, first_decision}
use Rattle.meaning.specs.Joining.{both, place_in, first_differing}
use Rattle.meaning.specs.Claims.Texts.{All, Paired}
use Rattle.meaning.specs.Claims.PolicyFile.{GoodAttribute, attribute_names}
use Rattle.meaning.specs.Claims.Deciding.{reply_at}
use Rattle.meaning.specs.Claims.Joining.{OwnRequest, DecidesOver}
use Rattle.laws.proofs.Types.{Word, Decision, Element}
use Rattle.laws.proofs.Names.{equal_names, names_distinct}
use Rattle.laws.proofs.Lists.{has_at}
use Rattle.laws.proofs.Bounds.{GoodElement, bounded}
use Rattle.laws.proofs.Answers.{positive}
use Rattle.laws.proofs.Requests.{Fits, number_request, request_number}
use Rattle.laws.proofs.WellFormed.{well_formed}
use Rattle.laws.proofs.Standard.{combined_standard}
use Rattle.laws.proofs.Raised.{mask_for, Raised, JoinedPolicy}
use Rattle.laws.proofs.Deeper.{OneDeeper}
use Rattle.laws.proofs.Under.{rooted, set_decides, set_obligations}
use Rattle.laws.proofs.OwnNames.{Once, place_named, place_only, own_values, own_value}
use Rattle.laws.proofs.JoinedMasks.{within_full, masks_match}
use Rattle.laws.proofs.Standing.{Stands, first_stands, second_stands, own_fits}

names_apart : (f : Bytes) (p : Policy) → read f ≡ given p → repeated (attribute_names p.attributes) ≡ false
names_apart f p h = names_distinct (attribute_names p.attributes) ((well_formed f p).0 h).good.attributes_distinct

-- One of the two files in the joined one, on a request of that
module _ (f : Bytes) (p : Policy) (h : read f ≡ given p) (j : Policy) (good : All GoodAttribute j.attributes) (stands : Stands p.attributes j.attributes) (n : ℕ) (fits : Fits (sizes j.attributes) (request_of (sizes j.attributes) n)) where
  abbrev attrs : List Attribute
  attrs = j.attributes

  abbrev r : Request
  r = request_of (sizes attrs) n

  abbrev own_number : ℕ
  own_number = number_of (sizes p.attributes) (own_values attrs r p.attributes)

  own_again : (request_of (sizes p.attributes) own_number ≡ own_values attrs r p.attributes) × (own_number < space p.attributes)
  own_again = request_number (sizes p.attributes) (own_values attrs r p.attributes) (positive p.attributes (bounded f p h).attributes_good) (own_fits p.attributes attrs r stands fits)

  -- its attribute i, by name, and where that stands
  abbrev name_at : ℕ → Bytes
  name_at i = get_or (attribute_names p.attributes) i []

  named_once : (i : ℕ) → i < length p.attributes → Once (name_at i) attrs
  named_once i l =
      let inside : i < length (attribute_names p.attributes) = omega (arith, length-map p.attributes (λ a. a.name)) in
      let (a, m, e) = Memᴰ.of_map (λ a. a.name) p.attributes (has_at (attribute_names p.attributes) [] i inside) in
      subst (λ x. Once x attrs) e (stands.each_once a m)

  own_request : OwnRequest j n p own_number
  own_request = record {
    in_space = own_again.1;
    each_named = λ i l.
        let k = place_in attrs (name_at i) in
        let (inside, e) = place_named (name_at i) (named_once i l) in
        (k, (inside, (equal_names (name_at i) (get_or (attribute_names attrs) k [])).holds e));
    same_values = λ i k l (inside, named).
        ap (λ q. get_or q i 0) own_again.0
        ∙ own_value attrs r p.attributes i l
        ∙ ap (λ x. get_or r x 0) (sym (place_only (name_at i) (named_once i l) k inside ((equal_names (name_at i) (get_or (attribute_names attrs) k [])).tests named)));
  }

  deeper_one : (e x : Element) → GoodElement p.attributes e → Raised attrs p.attributes e x → OneDeeper (hits p own_number) (hits j n) e x
  deeper_one e x g a =
      let zs : List ℕ = replicate (6 - length (map (mask_for p.attributes e.masks) attrs)) 0 in
      let few : length p.attributes ≤ length e.masks = omega (arith, (bounded f p h).few_attributes, g.shaped.masks_size) in
      record {
        depth = a.depth;
        word = a.word;
        hits =
            ap (λ ms. within (severals attrs) ms r) a.masks
            ∙ masks_match p.attributes e.masks attrs zs r good few (names_apart f p h) fits (λ b m. (stands.each_once b m, λ c k t. (stands.agree b c m k t).0))
            ∙ ap (within (severals p.attributes) e.masks) (sym own_again.0);
        obligations = a.obligations;
      }

  deeper_all : (es xs : List Element) → All (GoodElement p.attributes) es → Paired (Raised attrs p.attributes) es xs → Paired (OneDeeper (hits p own_number) (hits j n)) es xs
  deeper_all [] [] g a = tt
  deeper_all [] (x ∷ xs) g a = absurd a
  deeper_all (e ∷ es) [] g a = absurd a
  deeper_all (e ∷ es) (x ∷ xs) g a = (deeper_one e x g.0 a.0, deeper_all es xs g.1 a.1)

-- Both, under the set
module _ (w : Word) (f g t : Bytes) (p q j : Policy) (hp : read f ≡ given p) (hq : read g ≡ given q) (hj : read t ≡ given j) (x : JoinedPolicy w p q j) (none_differ : first_differing p.attributes 1 q.attributes ≡ none) where
  apart : repeated (attribute_names (both p.attributes q.attributes)) ≡ false
  apart = subst (λ l. repeated (attribute_names l) ≡ false) x.attributes (names_apart t j hj)

  first_in : Stands p.attributes j.attributes
  first_in = subst (Stands p.attributes) (sym x.attributes) (first_stands p.attributes q.attributes apart)

  second_in : Stands q.attributes j.attributes
  second_in = subst (Stands q.attributes) (sym x.attributes) (second_stands p.attributes q.attributes apart (bounded f p hp).attributes_good (bounded g q hq).attributes_good none_differ)

  good : All GoodAttribute j.attributes
  good = (bounded t j hj).attributes_good

  module _ (n : ℕ) (l : n < space j.attributes) where
    fits : Fits (sizes j.attributes) (request_of (sizes j.attributes) n)
    fits = (number_request (sizes j.attributes) n (positive j.attributes good) l).1

    abbrev first : ℕ
    first = own_number f p hp j good first_in n fits

    abbrev second : ℕ
    second = own_number g q hq j good second_in n fits

    firsts : Paired (OneDeeper (hits p first) (hits j n)) p.elements x.of_first
    firsts = deeper_all f p hp j good first_in n fits p.elements x.of_first (bounded f p hp).elements_good x.first_raised

    seconds : Paired (OneDeeper (hits q second) (hits j n)) q.elements x.of_second
    seconds = deeper_all g q hq j good second_in n fits q.elements x.of_second (bounded g q hq).elements_good x.second_raised

    abbrev both_replies : List Reply
    both_replies = reply_at p first 0 ∷ reply_at q second 0 ∷ []

    abbrev given_by : Decision → List Bool → Bytes
    given_by d bs =
        cond (get_or bs 0 false && is d (decision_on p first)) (outcome p first).obligations []
        ++ cond (get_or bs 1 false && is d (decision_on q second)) (outcome q second).obligations []

    root_hit : hits j n x.root ≡ true
    root_hit =
        ap (λ ms. within (severals j.attributes) ms (request_of (sizes j.attributes) n)) x.root_masks
        ∙ within_full j.attributes (replicate (6 - length (map (λ c. full c.values) j.attributes)) 0) (request_of (sizes j.attributes) n) good fits

    first_decided : decision_on j n ≡ first_decision (hits j n) (x.root ∷ (x.of_first ++ x.of_second))
    first_decided = ap (first_decision (hits j n)) x.elements

    decided : first_decision (hits j n) (x.root ∷ (x.of_first ++ x.of_second)) ≡ combined x.root.word both_replies
    decided = set_decides (hits p first) (hits q second) (hits j n) p.elements q.elements x.of_first x.of_second (rooted f p hp) (rooted g q hq) firsts seconds x.root x.root_depth root_hit x.root_obligations

    come : (outcome_of (hits j n) (x.root ∷ (x.of_first ++ x.of_second))).obligations ≡ given_by (first_decision (hits j n) (x.root ∷ (x.of_first ++ x.of_second))) (asked x.root.word both_replies)
    come = set_obligations (hits p first) (hits q second) (hits j n) p.elements q.elements x.of_first x.of_second (rooted f p hp) (rooted g q hq) firsts seconds x.root x.root_depth root_hit x.root_obligations

    pub decides_over : DecidesOver w p q j n
    decides_over = record {
      first_request = first;
      second_request = second;
      first_own = own_request f p hp j good first_in n fits;
      second_own = own_request g q hq j good second_in n fits;
      replies = both_replies;
      replies_are = refl;
      decides = first_decided ∙ decided ∙ ap (λ v. combined v both_replies) x.root_word ∙ combined_standard w both_replies;
      obligations = ap (λ es. (outcome_of (hits j n) es).obligations) x.elements ∙ come ∙ ap₂ given_by (sym first_decided) (ap (λ v. asked v both_replies) x.root_word);
    }
