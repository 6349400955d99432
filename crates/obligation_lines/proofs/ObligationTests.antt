-- The tests 3, 4, 14 and 7 of an obligation's line, by what the places, the tree and the fields show.
use Prim.Native.Nat.{ℕ, suc, ◌-◌, ◌≤◌, ◌<◌}
use mathlib.Core.Path.{◌≡◌, refl, sym, ap, ◌∙◌}
use mathlib.Core.Logic.{◌≢◌}
use mathlib.Core.Bool.{Bool, true, false, not, ◌&&◌}
use mathlib.Core.List.{List, [], ◌∷◌, map}
use mathlib.Core.Option.{Option}
use native.Mathlib.Omega.{arith}
use lib.Dec.{ltb}
use lib.ListN.{length, get_or, replicate}
use lib.Seq.{take-append_seam}
use borrow.Author.Tests.{le-ltb, lt-ltb}
use Rattle.meaning.specs.declared.Word.{Word}
use Rattle.meaning.specs.Text.{Bytes, is_none, among_names, is_name}
use Rattle.meaning.specs.Model.{obligation_name}
use Rattle.meaning.specs.Reading.{word_of, Sofar, lowest, nearest_obligations, may_have_obligations, well_followed, obligation_of, obligation_tests}
use Rattle.laws.proofs.Types.{Kind, set, policy, rule, Element}
use Rattle.laws.proofs.Bools.{eqb_same}
use Rattle.std.specs.Prelude.{Some, None}
use Rattle.std.specs.Prelude.{Option as Found}
use Rattle.std.specs.Option.{option_eq}
use Rattle.layout.specs.declared.Tree.{Tree}
use Rattle.layout.specs.declared.ElementPlaces.{ElementPlaces}
use Rattle.layout.specs.Nearest.{nearest, Stands}
use Rattle.layout.specs.Places.{obligations_in, obligation_count}
use Rattle.layout.proofs.Slots.{count_is}
use Rattle.attribute_lines.proofs.ObligationShape.{stored_test}
use Rattle.obligation_lines.specs.Obligations.{last_obligations, Follows, ObligationRefusal}

-- the number that they give, by what was found of the name, of what stands before, and of the word
abbrev pub first_found : (named known followed : Bool) → Option Word → ℕ
first_found named known followed word = lowest ((3, not named) ∷ (4, known) ∷ (14, not followed) ∷ (7, is_none word) ∷ [])

-- a rule may have none
abbrev pub rule_found : Found Kind → Bool
rule_found None = false
rule_found (Some set) = false
rule_found (Some policy) = false
rule_found (Some rule) = true

pub rule_told : (same : Kind → Kind → Bool) → same set rule ≡ false → same policy rule ≡ false → same rule rule ≡ true → (o : Found Kind) {r : Bool} → r ≡ option_eq same o (Some rule) → rule_found o ≡ r
rule_told same a b c None e = sym e
rule_told same a b c (Some set) e = sym (e ∙ a)
rule_told same a b c (Some policy) e = sym (e ∙ b)
rule_told same a b c (Some rule) e = sym (e ∙ c)

kind_may : (k : Kind) → may_have_obligations k ≡ not (rule_found (Some k))
kind_may set = refl
kind_may policy = refl
kind_may rule = refl

module _ (f : Bytes) (places : List ElementPlaces) (tree : Tree) (fs : List Bytes) where
  abbrev pub last_names : List Bytes
  last_names = map obligation_name (last_obligations f places tree.len)

  abbrev pub found : Bool → ℕ
  found followed = first_found (is_name (get_or fs 1 [])) (among_names (get_or fs 1 []) last_names) followed (word_of rule (get_or fs 2 []))

  tests_found : (s : Sofar) → Follows f places tree s → lowest (obligation_tests s (get_or fs 2 []) (obligation_of (get_or fs 1 []) (get_or fs 2 []))) ≡ found (well_followed s.before)
  tests_found s follows =
      rw (stored_test (get_or fs 1 []), take-append_seam (get_or fs 1 []) (replicate (16 - length (get_or fs 1 [])) 0), follows.obligations)

  -- whether one may follow: by the kind of the nearest element and its count
  pub none_followed : tree.len ≡ 0 → (es : List Element) → Stands tree es → well_followed es ≡ false
  none_followed none [] s = refl
  none_followed none (e ∷ es) s = absurd (omega (arith, s.count))

  pub followed : tree.len ≢ 0 → tree.depth ≤ 7 → (es : List Element) → Stands tree es → nearest_obligations es ≡ last_obligations f places tree.len
      → well_followed es ≡ (not (rule_found (get_or tree.kinds tree.depth None)) && ltb (obligation_count places (tree.len - 1)) 2)
  unfolding nearest
  followed some shallow [] s own = absurd (some s.count)
  followed some shallow (e ∷ es) s own =
      let here : get_or tree.kinds tree.depth None ≡ Some e.kind = s.kinds tree.depth (omega arith) ∙ rw (s.last, eqb_same e.depth) in
      let more : tree.len ≡ suc (tree.len - 1) = omega (arith, s.count) in
      let counted = ap length (own ∙ ap (last_obligations f places) more) ∙ count_is f places (tree.len - 1) in
      rw (here, counted, kind_may e.kind)

  -- each answer of the code
  abbrev Answer : ℕ → Type 0
  Answer r = ObligationRefusal f places tree fs r

  refuses : (r : ℕ) → 1 ≤ r → ((s : Sofar) → Follows f places tree s → found (well_followed s.before) ≡ r) → Answer r
  refuses r some gives = record { is_lowest = λ s h. sym (tests_found s h ∙ gives s h); some = λ z. absurd (omega arith); free = λ z. absurd (omega arith) }

  pub bad_name_lem : is_name (get_or fs 1 []) ≡ false → Answer 3
  bad_name_lem bad = refuses 3 (omega arith) (λ s h. rw bad)

  module _ (named : is_name (get_or fs 1 []) ≡ true) where
    pub no_element : tree.len ≡ 0 → Answer 14
    no_element none = refuses 14 (omega arith) (λ s h. rw (named, none_followed none s.before h.stands, ap (last_obligations f places) none))

    module _ (some : tree.len ≢ 0) where
      last_names_lem : last_names ≡ map obligation_name (obligations_in f places (tree.len - 1))
      last_names_lem = let more : tree.len ≡ suc (tree.len - 1) = omega arith in ap (λ n. map obligation_name (last_obligations f places n)) more

      pub known_name : among_names (get_or fs 1 []) (map obligation_name (obligations_in f places (tree.len - 1))) ≡ true → Answer 4
      known_name known = refuses 4 (omega arith) (λ s h. rw (named, last_names_lem, known))

      module _ (fresh : among_names (get_or fs 1 []) (map obligation_name (obligations_in f places (tree.len - 1))) ≡ false) (shallow : tree.depth ≤ 7) where
        by_followed : (s : Sofar) → Follows f places tree s → found (well_followed s.before) ≡ lowest ((14, not (not (rule_found (get_or tree.kinds tree.depth None)) && ltb (obligation_count places (tree.len - 1)) 2)) ∷ (7, is_none (word_of rule (get_or fs 2 []))) ∷ [])
        by_followed s h = rw (named, last_names_lem, fresh, followed some shallow s.before h.stands h.obligations)

        pub behind_rule : rule_found (get_or tree.kinds tree.depth None) ≡ true → Answer 14
        behind_rule is = refuses 14 (omega arith) (λ s h. by_followed s h ∙ rw is)

        module _ (other : rule_found (get_or tree.kinds tree.depth None) ≡ false) where
          pub third : 2 ≤ obligation_count places (tree.len - 1) → Answer 14
          third full = refuses 14 (omega arith) (λ s h. by_followed s h ∙ rw (other, le-ltb _ 2 full))

          module _ (free : obligation_count places (tree.len - 1) < 2) where
            by_word : (s : Sofar) → Follows f places tree s → found (well_followed s.before) ≡ lowest ((7, is_none (word_of rule (get_or fs 2 []))) ∷ [])
            by_word s h = by_followed s h ∙ rw (other, lt-ltb _ 2 free)

            pub bad_word : is_none (word_of rule (get_or fs 2 [])) ≡ true → Answer 7
            bad_word bad = refuses 7 (omega arith) (λ s h. by_word s h ∙ rw bad)

            pub good_obligation : is_none (word_of rule (get_or fs 2 [])) ≡ false → Answer 0
            good_obligation good = record { is_lowest = λ s h. sym (tests_found s h ∙ by_word s h ∙ rw good); some = λ z. omega arith; free = λ z. free }
