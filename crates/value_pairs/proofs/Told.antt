-- The answer: 13 where no attribute was found, else the lines of the attribute at the place that was found.
use mathlib.Core.Path.{◌≡◌, refl, sym, ap, ap₂, ◌∙◌, subst}
use Prim.Native.Nat.{ℕ, zero, suc, ◌+◌, ◌-◌, ◌*◌, ◌/◌, ◌^◌, ◌≤◌, ◌<◌}
use native.Mathlib.Nat.{mul-div_cancel, div-mul-le_self}
use native.Mathlib.Numerals.{add-one}
use native.Mathlib.Omega.{arith}
use mathlib.Core.List.Memᴰ
use mathlib.Core.List.{List, [], ◌∷◌, ◌++◌, map, map-append}
use lib.ListN.{length, take, drop, get_or, length-map, length-append, take-append-drop}
use lib.Pow.{pow_mono}
use lib.Seq.{drop-cons, get_or-take, get_or_at, length-take-le}
use Rattle.meaning.specs.declared.Answer.{Answer}
use Rattle.meaning.specs.declared.Decision.{Decision}
use Rattle.meaning.specs.Text.{Bytes, counting}
use Rattle.meaning.specs.Model.{Attribute, choices, sizes, product, space, refused, given}
use Rattle.meaning.specs.Deciding.{decision_on}
use Rattle.meaning.specs.ValuePairs.{several_at, pairs_text, pairs_named, value_pairs_file}
use Rattle.meaning.specs.Operations.{value_pairs_answer, value_pairs_lent}
use Rattle.meaning.specs.Claims.Texts.{All}
use Rattle.meaning.specs.Claims.PolicyFile.{GoodAttribute}
use Rattle.meaning.specs.Claims.ValuePairs.{NamedAttribute}
use Rattle.laws.proofs.Bounds.{all_has, bounded}
use Rattle.laws.proofs.Requests.{Positive, product_pos, product_parts}
use Rattle.laws.proofs.Answers.{positive}
use Rattle.laws.proofs.NamedAttribute.{found_named}
use Rattle.table.specs.declared.Row.{Row}
use Rattle.table.specs.declared.Shape.{Shape}
use Rattle.table.specs.Shape.{counts_of, hit_of}
use Rattle.outcomes.specs.Decided.{none_struck, decided_at}
use Rattle.outcomes.proofs.Laying.{laid_at_lem}
use Rattle.layout.specs.declared.Attributes.{Attributes}
use Rattle.layout.specs.Places.{attributes_of}
use Rattle.layout.proofs.Laws.{attributes_length}
use Rattle.printing.specs.Fitted.{Fitted}
use Rattle.value_pairs.specs.Lines.{pair_lines}
use Rattle.value_pairs.specs.Held.{PolicyDecided}
use Rattle.value_pairs.proofs.Finding.{drop_positive}
use Rattle.value_pairs.proofs.PairsAre.{pairs_are}

positive_at : (ss : List ℕ) (i : ℕ) → Positive ss → i < length ss → 0 < get_or ss i 0
positive_at [] i p l = absurd (omega arith)
positive_at (s ∷ ss) zero p l = p.0
positive_at (s ∷ ss) (suc i) p l = positive_at ss i p.1 (omega arith)

-- an `M` attribute has at most 12 values
few_choices : (attrs : List Attribute) (name : Bytes) (b : NamedAttribute attrs name) → All GoodAttribute attrs → get_or (sizes attrs) (length b.before) 0 ≤ 4095
few_choices attrs name b good =
    let own = b.attribute in
    let own-good = all_has GoodAttribute own {xs = attrs} (rw b.in_file (Memᴰ.append_right b.before (Memᴰ.head refl))) good in
    let few : length own.values ≤ 12 = rw b.is_several at own-good.few_values in
    let count : choices own ≡ 2 ^ length own.values - 1 = rw b.is_several in
    let place = length b.before in
    let here : get_or (sizes attrs) place 0 ≡ choices own =
    ap (λ l. get_or (sizes l) place 0) b.in_file ∙ ap (λ l. get_or l place 0) (map-append choices b.before (own ∷ b.behind)) ∙ get_or_at (sizes b.before) (choices own) (sizes b.behind) 0 place (length-map b.before choices) in
    omega (arith, here, count, pow_mono few)

module _ (f : Bytes) (a : Attributes) (table : List Row) (s : Shape) (held : PolicyDecided f a table s) where
  abbrev attrs : List Attribute
  attrs = held.policy.attributes

  abbrev ss : List ℕ
  ss = sizes attrs

  good : All GoodAttribute attrs
  good = (bounded f held.policy held.is_read).attributes_good

  pub sizes_positive : Positive (counts_of s)
  sizes_positive = subst Positive (sym held.counts) (positive attrs good)

  pub few_requests : product (counts_of s) ≤ 4096
  few_requests = rw held.ready.counted.all held.ready.small

  many : length ss ≡ a.len
  many = length-map attrs choices ∙ ap length held.attributes ∙ attributes_length f a

  module _ (name : Bytes) where
    -- no attribute
    module _ (is : several_at 0 name (attributes_of f a) ≡ refused 13 0) (out : Bytes) where
      none_found : several_at 0 name attrs ≡ refused 13 0
      none_found = ap (several_at 0 name) held.attributes ∙ is

      pub no_attribute : (record { number = 13; second = 0 } ≡ value_pairs_answer f name out) × (out ≡ value_pairs_lent f name out)
      unfolding value_pairs_file pairs_named
      no_attribute = (rw (held.is_read, none_found), rw (held.is_read, none_found))

    -- the attribute that was found
    module _ (place : ℕ) (is : several_at 0 name (attributes_of f a) ≡ given place) where
      found : several_at 0 name attrs ≡ given place
      found = ap (several_at 0 name) held.attributes ∙ is

      pub inside : place < a.len
      inside =
          let (b, at) = found_named 0 name attrs place found in
          omega (arith, at, ap length b.in_file, length-append b.before (b.attribute ∷ b.behind), ap length held.attributes, attributes_length f a)

      abbrev size : ℕ
      size = get_or s.counts place 0

      size_is : size ≡ get_or ss place 0
      size_is = sym (get_or-take s.len s.counts place 0 (omega (arith, inside, held.counted))) ∙ ap (λ l. get_or l place 0) held.counts

      pub some_set : 0 < size
      some_set = rw size_is (positive_at ss place (positive attrs good) (omega (arith, inside, many)))

      pub few_sets : size ≤ 4095
      few_sets =
          let (b, at) = found_named 0 name attrs place found in
          let same_place : length b.before ≡ place = omega (arith, at) in
          rw size_is (subst (λ k. get_or ss k 0 ≤ 4095) same_place (few_choices attrs name b good))

      -- the sizes before it, its own, and those behind it
      split : ss ≡ take place ss ++ (size ∷ drop (place + 1) ss)
      split = sym (take-append-drop place ss) ∙ ap (λ l. take place ss ++ l) (drop-cons ss place 0 (omega (arith, inside, many)) ∙ ap₂ (λ x k. x ∷ drop k ss) (sym size_is) (sym (add-one place)))

      module _ (behind : ℕ) (product_is : behind ≡ product (drop (place + 1) (counts_of s))) where
        behind_is : behind ≡ product (drop (place + 1) ss)
        behind_is = product_is ∙ ap (λ l. product (drop (place + 1) l)) held.counts

        pub some_behind : 0 < behind
        some_behind = rw behind_is (product_pos (drop (place + 1) ss) (drop_positive (place + 1) ss (positive attrs good)))

        space_is : s.space ≡ space attrs
        space_is = sym held.ready.counted.all ∙ ap product held.counts

        runs_are : s.space / behind ≡ product (take place ss) * size
        runs_are =
            let whole : s.space ≡ product (take place ss) * size * behind = space_is ∙ ap product split ∙ product_parts (take place ss) size (drop (place + 1) ss) ∙ ap (λ b. product (take place ss) * size * b) (sym behind_is) in
            ap (λ n. n / behind) whole ∙ mul-div_cancel (product (take place ss) * size) some_behind

        pub runs_small : s.space / behind * behind ≤ 4096
        runs_small = omega (arith, div-mul-le_self s.space behind, held.ready.small)

        -- the lines of the decisions laid down
        module _ {decided : List Decision} (rest : List Decision) (laid : decided ≡ map (decided_at table s.n (hit_of s) none_struck) (counting 0 s.space) ++ rest) where
          told : (m : ℕ) → m < space attrs → get_or decided m Decision.Permit ≡ decision_on held.policy m
          told m l = let within : m < s.space = rw space_is l in laid_at_lem Decision.Permit _ s.space rest laid m within ∙ held.decided m within

          text_is : pairs_text held.policy place ≡ pair_lines decided size behind (s.space / behind)
          text_is =
              pairs_are held.policy place (take place ss) size (drop (place + 1) ss) split (length-take-le place ss (omega (arith, inside, many))) (positive attrs good) some_set few_sets decided told
              ∙ ap₂ (λ b r. pair_lines decided size b r) (sym behind_is) (sym runs_are)

          pub pairs_fitted : {out new : Bytes} {r : Answer} → Fitted out (pair_lines decided size behind (s.space / behind)) new r → (r ≡ value_pairs_answer f name out) × (new ≡ value_pairs_lent f name out)
          unfolding value_pairs_file pairs_named
          pairs_fitted fits = (fits.answers ∙ rw (held.is_read, found, text_is), fits.lends ∙ rw (held.is_read, found, text_is))
