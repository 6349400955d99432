-- What a file that was read gives to trimming: the shape of its policy, and where its lines start.
use mathlib.Core.Path.{◌≡◌, sym, ap, ap₂, ◌∙◌, subst}
use Prim.Native.Nat.{ℕ, ◌≤◌, ◌<◌}
use native.Mathlib.Omega.{arith}
use mathlib.Core.List.{List}
use lib.ListN.{length, get_or, replicate, get_or-replicate}
use Rattle.meaning.specs.Model.{Policy, sizes, severals, product, given, space}
use Rattle.meaning.specs.Reading.{read}
use Rattle.meaning.specs.Deciding.{request_of, matches, first_decision, hits, decision_on}
use Rattle.laws.proofs.Bounds.{bounded}
use Rattle.laws.proofs.Requests.{product_pos}
use Rattle.laws.proofs.Answers.{positive}
use Rattle.table.specs.declared.Row.{Row}
use Rattle.table.specs.Tree.{left}
use Rattle.table.specs.declared.Shape.{Shape}
use Rattle.table.specs.Shape.{counts_of, severals_of, hit_of}
use Rattle.table.proofs.Children.{none_struck as no_rule_struck}
use Rattle.outcomes.specs.Decided.{none_struck, decided_at}
use Rattle.outcomes.specs.PolicyTable.{PolicyTable}
use Rattle.layout.specs.declared.ElementPlaces.{ElementPlaces}
use Rattle.layout.specs.Places.{place_at}
use Rattle.layout.proofs.Adding.{placed_six}
use Rattle.layout.proofs.Laws.{attributes_length, decided}
use Rattle.layout.proofs.Counts.{sizes_are, severals_are, sets_counted}
use Rattle.reader.specs.declared.Policy.{Policy as PolicyRead}
use Rattle.reader.specs.Told.{policy_shape, ReadPolicy}
use Rattle.reader.proofs.FileRead.{few}
use Rattle.trials.specs.Steady.{Steady}
use Rattle.trimmed_text.specs.Copied.{Copies}
use Rattle.trimmed_text.proofs.Placed.{copies_lined}
use Rattle.trimmed_text.proofs.ByPlace.{root_word, leaves}
use Rattle.trimmed_text.proofs.Steadying.{steady}

module _ (f : List ℕ) (table : List Row) (places : List ElementPlaces) (r : PolicyRead) (p : Policy) (h : read f ≡ given p) (holds : ReadPolicy f table places r p) where
  pub attributes_are : length p.attributes ≡ r.attributes.len
  attributes_are = ap length holds.attributes ∙ attributes_length f r.attributes

  pub counts_are : counts_of (policy_shape r) ≡ sizes p.attributes
  counts_are = sizes_are f r.attributes holds.spaced.standing ∙ ap sizes (sym holds.attributes)

  pub letters_are : severals_of (policy_shape r) ≡ severals p.attributes
  letters_are =
      let room : length r.attributes.all ≡ 6 = ap (λ a. length a.all) holds.places_are ∙ placed_six f r.attributes.len in
      sym (severals_are f r.attributes (omega (arith, holds.spaced.standing.few))) ∙ ap severals (sym holds.attributes)

  -- its requests are those of the policy, and so many
  pub hits_are : (m : ℕ) → hit_of (policy_shape r) m ≡ hits p m
  unfolding hit_of
  hits_are m = ap₂ (λ bs c. matches bs (request_of c m)) letters_are counts_are

  pub space_is : r.space ≡ space p.attributes
  space_is = holds.space_is ∙ ap space (sym holds.attributes)

  pub ready : (s : Shape) → s ≡ policy_shape r → (struck : List ℕ) → 64 ≤ length struck → struck ≡ replicate 64 0 → PolicyTable table struck s
  ready s shaped struck room none = subst (PolicyTable table struck) (sym shaped)
      (record {
        rows = omega (arith, holds.rooms.rows, few f table places r p h holds);
        flags = omega (arith, few f table places r p h holds);
        some = holds.some;
        few = few f table places r p h holds;
        root = root_word f p h table places r.elements holds.elements holds.some;
        stays = ap (λ flags. get_or flags 0 0) none;
        leaves = leaves f p h table places r.elements holds.elements;
        rules = no_rule_struck table struck r.elements (λ k l. ap (λ flags. get_or flags k 0) none ∙ get_or-replicate 64 k 0 0 (omega (arith, few f table places r p h holds)));
        counted = record { attributes = holds.spaced.standing.few; sets = λ i l several. ((place_at r.attributes i).count, sets_counted r.attributes i l several); all = ap product counts_are ∙ sym space_is };
        positive = subst (λ m. 0 < m) (sym space_is) (product_pos (sizes p.attributes) (positive p.attributes (bounded f p h).attributes_good));
        small = rw holds.space_is holds.spaced.small;
      })

  pub steady_read : (s : Shape) → s ≡ policy_shape r → Steady f places table s
  steady_read s shaped = subst (Steady f places table) (sym shaped) (steady f p h table places (policy_shape r) holds.elements holds.obliged)

  -- what the table decides is what the policy does
  pub decided_are : (m : ℕ) → decided_at table r.elements (hit_of (policy_shape r)) none_struck m ≡ decision_on p m
  unfolding decided_at
  decided_are m =
      ap (λ test. first_decision test (left table none_struck 0 r.elements)) (hits_are m)
      ∙ decided f table places none_struck r.elements p (request_of (sizes p.attributes) m) holds.elements (λ k l. get_or-replicate 64 k 0 0 (omega (arith, few f table places r p h holds)))

  pub copies : (struck : List ℕ) → 64 ≤ length struck → Copies f places struck r.elements
  copies struck room = copies_lined f places struck r.attributes.len r.elements holds.lined holds.some holds.rooms.named.room (omega (arith, few f table places r p h holds))
