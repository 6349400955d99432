-- The `G` lines from the words, sizes and decisions of the requests are those of the policy.
use mathlib.Core.Path.{◌≡◌, refl, sym, ap, ap₂, ◌∙◌}
use Prim.Native.Nat.{ℕ, suc, ◌+◌, ◌<◌, zero-le}
use native.Mathlib.Nat.{zero-add}
use native.Mathlib.Omega.{arith}
use mathlib.Core.Bool.{Bool, false, not, cond}
use mathlib.Core.List.{List, [], ◌∷◌, map, reverse}
use lib.Dec.{eqb}
use lib.ListN.{length, get_or}
use borrow.Author.Tests.{eqb-true, eq-eqb}
use Rattle.meaning.specs.declared.Element.{Element}
use Rattle.meaning.specs.declared.Decision.{Decision}
use Rattle.meaning.specs.Text.{Bytes, any, keep, gathered, counting, line}
use Rattle.meaning.specs.Model.{name_of, Policy, sizes, space as space_of}
use Rattle.meaning.specs.Deciding.{request_of, bit, hits, decision_on, first_decision}
use Rattle.meaning.specs.Segments.{applying_to, together, segments, segment_size}
use Rattle.meaning.specs.Report.{marked, segment_fields}
use Rattle.laws.proofs.Bools.{Test, passed, failed, test, contradiction}
use Rattle.laws.proofs.Search.{counting_has, counting_only, keep_has}
use Rattle.laws.proofs.Segments.{together_same, same_together}
use Rattle.laws.proofs.Parents.{each_applies}
use Rattle.table.specs.declared.Row.{Row}
use Rattle.outcomes.specs.Decided.{decided_at}
use Rattle.layout.specs.declared.ElementPlaces.{ElementPlaces}
use Rattle.layout.specs.Places.{name_in, elements_to}
use Rattle.layout.proofs.Laws as layout-laws
use Rattle.laws.proofs.Lists.{keep_alike, any_alike, has_some, gathered_alike, gathered_keep, first_any}
use Rattle.table.specs.Tree.{left}
use Rattle.trimmed_text.proofs.Table.{count_is, name_at_lem}
use Rattle.rows.specs.Words.{marks, applying_at}
use Rattle.rows.proofs.Marks.{bit_mark, same_marks}
use Rattle.segments.specs.Sizes.{alike, opens_at, size_at}
use Rattle.report_lines.specs.Lines.{names_of, segment_line, segment_text}
use Rattle.reporting.proofs.Applying.{word_is}

-- The names of marked elements, that stand from place i on
marked_from : (F : ℕ → Bytes) (t : ℕ → Bool) (i : ℕ) (bs : List Bool) (es : List Element) → length bs ≡ length es
    → ((k : ℕ) → k < length es → F (i + k) ≡ get_or (map name_of es) k []) → ((k : ℕ) → t (i + k) ≡ get_or bs k false) → map F (keep t (counting i (length es))) ≡ marked bs es
marked_from F t i [] [] l names tests = refl
marked_from F t i [] (e ∷ es) l names tests = absurd (omega arith)
marked_from F t i (b ∷ bs) [] l names tests = absurd (omega arith)
marked_from F t i (b ∷ bs) (e ∷ es) l names tests =
    let here : i + 0 ≡ i = omega arith in
    let at : (k : ℕ) → suc i + k ≡ i + suc k = λ k. omega arith in
    go (test b) (rw here at (names 0 (omega arith))) (rw here at (tests 0)) (marked_from F t (suc i) bs es (omega arith) (λ k u. ap F (at k) ∙ names (suc k) (omega arith)) (λ k. ap t (at k) ∙ tests (suc k)))
  where
    go : Test b → F i ≡ name_of e → t i ≡ b → map F (keep t (counting (suc i) (length es))) ≡ marked bs es → map F (keep t (counting i (suc (length es)))) ≡ marked (b ∷ bs) (e ∷ es)
    go (passed x) name here later = rw (here, x, name, later)
    go (failed x) name here later = rw (here, x, later)

module _ (f : Bytes) (table : List Row) (places : List ElementPlaces) (n : ℕ) (p : Policy) (is : p.elements ≡ reverse (elements_to f table places n)) (hit : ℕ → Element → Bool) (space : ℕ) (hits_are : (m : ℕ) → hit m ≡ hits p m) (space_is : space ≡ space_of p.attributes) where
  -- equal words are those of requests in one segment
  same_words : (m k : ℕ) → eqb (applying_at table n hit k) (applying_at table n hit m) ≡ together p m k
  same_words m k = rw (word m, word k) (go (test (eqb (marks (applying_to p k)) (marks (applying_to p m)))) (test (together p m k)))
    where
      word : (m : ℕ) → applying_at table n hit m ≡ marks (applying_to p m)
      word = word_is f table places n p is hit hits_are

      size : (m : ℕ) → length (applying_to p m) ≡ length p.elements
      size m = each_applies (hits p m) [] p.elements

      go : Test (eqb (marks (applying_to p k)) (marks (applying_to p m))) → Test (together p m k) → eqb (marks (applying_to p k)) (marks (applying_to p m)) ≡ together p m k
      go (passed x) t =
          let same = same_marks (applying_to p k) (applying_to p m) (size k ∙ sym (size m)) (eqb-true (marks (applying_to p k)) (marks (applying_to p m)) x) in
          x ∙ sym (same_together p m k (sym same))
      go (failed x) (passed t) = contradiction (eq-eqb (marks (applying_to p k)) (marks (applying_to p m)) (ap marks (sym (together_same p m k t)))) x
      go (failed x) (failed t) = x ∙ sym t

  -- the names of the elements that apply
  names_are : (m : ℕ) → names_of f places n (applying_at table n hit m) ≡ marked (applying_to p m) p.elements
  unfolding names_of
  names_are m =
      let size : length p.elements ≡ n = count_is f table places n p is in
      ap (λ w. map (name_in f places) (keep (bit w) (counting 0 n))) (word_is f table places n p is hit hits_are m)
      ∙ ap (λ k. map (name_in f places) (keep (bit (marks (applying_to p m))) (counting 0 k))) (sym size)
      ∙ marked_from (name_in f places) (bit (marks (applying_to p m))) 0 (applying_to p m) p.elements (each_applies (hits p m) [] p.elements)
      (λ k l. rw zero-add (sym (name_at_lem f table places n p is k (omega arith))))
      (λ k. rw zero-add (bit_mark (applying_to p m) k))

  -- the decision
  decision_is : (struck : List ℕ) → ((k : ℕ) → k < n → get_or struck k 0 ≡ 0) → (m : ℕ) → decided_at table n hit struck m ≡ decision_on p m
  unfolding decided_at
  decision_is struck live m =
      ap (λ test. first_decision test (left table struck 0 n)) (hits_are m) ∙ layout-laws.decided f table places struck n p (request_of (sizes p.attributes) m) is live

  -- Words of the requests
  abbrev opens : ℕ → Bool
  opens m = not (any (together p m) (counting 0 m))

  module _ (words : List ℕ) (worded : (m : ℕ) → m < space → get_or words m 0 ≡ applying_at table n hit m) where
    alike_is : (m k : ℕ) → m < space → k < space → alike words m k ≡ together p m k
    alike_is m k l u = rw (worded m l, worded k u) (same_words m k)

    -- the first request of its segment
    opens_is : (m : ℕ) → m < space → opens_at words m ≡ opens m
    opens_is m l = first_any (alike words m) 0 m ∙ ap not (any_alike (alike words m) (together p m) (counting 0 m) (λ k i. alike_is m k l (omega (arith, counting_only 0 m k i))))

    -- its size, and 0 of every other
    size_is : (m : ℕ) → m < space → size_at words space m ≡ cond (opens m) (segment_size p m) 0
    unfolding size_at segment_size
    size_is m l =
        let members = keep_alike (alike words m) (together p m) (counting 0 space) (λ k i. alike_is m k l (omega (arith, counting_only 0 space k i))) in
        ap₂ (λ b xs. cond b (length xs) 0) (opens_is m l) (members ∙ ap (λ c. keep (together p m) (counting 0 c)) space_is)

  -- a segment has its first request
  size_some : (m : ℕ) → m < space → eqb (segment_size p m) 0 ≡ false
  unfolding segment_size
  size_some m l =
      let u : m < space_of p.attributes = rw space_is at l in
      has_some (keep_has (together p m) m (counting_has 0 (space_of p.attributes) m zero-le (rw zero-add u)) (same_together p m m refl))

  -- the `G` lines
  module _ (words lengths : List ℕ) (decided : List Decision) (struck : List ℕ) (live : (k : ℕ) → k < n → get_or struck k 0 ≡ 0)
      (worded : (m : ℕ) → m < space → get_or words m 0 ≡ applying_at table n hit m)
      (counted : (m : ℕ) → m < space → get_or lengths m 0 ≡ size_at words space m)
      (told : (m : ℕ) → m < space → get_or decided m Decision.Permit ≡ decided_at table n hit struck m) where
    line_is : (m : ℕ) → m < space → segment_line f places n words lengths decided m ≡ cond (opens m) (line (segment_fields p m)) []
    unfolding segment_line
    line_is m l = go (test (opens m)) (counted m l ∙ size_is words worded m l)
      where
        shown : get_or decided m Decision.Permit ≡ decision_on p m
        shown = told m l ∙ decision_is struck live m

        named : names_of f places n (get_or words m 0) ≡ marked (applying_to p m) p.elements
        named = ap (names_of f places n) (worded m l) ∙ names_are m

        go : Test (opens m) → get_or lengths m 0 ≡ cond (opens m) (segment_size p m) 0 → segment_line f places n words lengths decided m ≡ cond (opens m) (line (segment_fields p m)) []
        go (passed e) size = let here : get_or lengths m 0 ≡ segment_size p m = rw e at size in rw (e, here, size_some m l, shown, named)
        go (failed e) size = let here : get_or lengths m 0 ≡ 0 = rw e at size in rw (e, here)

    pub segments_are : segment_text f places n words lengths decided space ≡ gathered (λ m. line (segment_fields p m)) (segments p)
    unfolding segment_text segments
    segments_are =
        gathered_alike (segment_line f places n words lengths decided) (λ m. cond (opens m) (line (segment_fields p m)) []) (counting 0 space) (λ m i. line_is m (omega (arith, counting_only 0 space m i)))
        ∙ sym (gathered_keep opens (λ m. line (segment_fields p m)) (counting 0 space))
        ∙ ap (λ c. gathered (λ m. line (segment_fields p m)) (keep opens (counting 0 c))) space_is
