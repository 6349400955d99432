-- `element_word` meets its contract. Each answer is what the tests give by what was found on the way to it.
use Rattle.std.specs.Prelude.{IfOk, Option as Found}
use Rattle.std.specs.Option.{ok_or}
use Prim.Native.Nat.{ℕ, ◌<◌}
use mathlib.Core.Path.{◌≡◌, refl, sym, ap, ◌∙◌}
use mathlib.Core.Bool.{Bool, true, false, not}
use mathlib.Core.List.{List, [], ◌∷◌}
use mathlib.Core.Option.{Option, none, some}
use borrow.Author.Tests.{le-leb, lt-leb, eq-eqb, ne_eqb}
use lib.ListN.{get_or}
use Rattle.meaning.specs.declared.Word.{Word}
use Rattle.meaning.specs.Text.{Bytes, is_none, among_names, cut, tab, is_name}
use Rattle.meaning.specs.Reading.{depth_of, word_of, Sofar, well_placed, lowest}
use Rattle.laws.proofs.Types.{Kind, Element}
use Rattle.laws.specs.Found.{found}
use Rattle.refusals.specs.declared.Refusal.TheVariants.{BadWord}
use Rattle.refusals.specs.Numbers.{number_in}
use Rattle.layout.specs.declared.Attributes.{Attributes}
use Rattle.layout.specs.declared.Tree.{Tree}
use Rattle.layout.specs.declared.ElementPlaces.{ElementPlaces}
use Rattle.layout.specs.Places.{names_to}
use Rattle.layout.specs.Nearest.{Stands}
use Rattle.element_lines.specs.Elements.{element_from, Behind, earlier_tests}
use Rattle.element_lines.proofs.ElementTests.{first_found, tests_found}
use Rattle.element_lines.proofs.element_word.Goals as goal
use Rattle.element_lines.proofs.element_word.Goals.{Else-not-is_name, Else-st-eq0}

module _ (f : Bytes) (a : Attributes) (places : List ElementPlaces) (tree : Tree) (k : Kind) (fs : List Bytes) where
  -- what the tests look at: whether field 2 is a name, and one of the elements'; whether kind and depth fit; the word
  abbrev named : Bool
  named = is_name (get_or fs 2 [])

  abbrev known : Bool
  known = among_names (get_or fs 2 []) (names_to f places tree.len)

  abbrev placed : List Element → Bool
  placed before = well_placed k (depth_of (get_or fs 1 [])) before

  abbrev word : Option Word
  word = word_of k (get_or fs 3 [])

  abbrev judged : List Element → ℕ
  judged before = first_found named known tree.len a.len (placed before) word

  -- an answer is right if they give it, whatever the elements are that the tree stands for
  answer : (r : ℕ) → ((before : List Element) → Stands tree before → judged before ≡ r) → (s : Sofar) → Behind f a places tree s
      → r ≡ lowest (earlier_tests s (get_or fs 3 []) (element_from s.attributes k fs))
  answer r gives s behind = sym (tests_found f a places tree k fs s behind ∙ gives s.before behind.stands)

  -- the tests that are left, once the line passed those before
  from_place : named ≡ true → known ≡ false → tree.len < 64 → (a.len ≡ 0 → ⊥) → (before : List Element)
      → judged before ≡ lowest ((6, not (placed before)) ∷ (7, is_none word) ∷ [])
  from_place name fresh few attributed before = rw (name, fresh, lt-leb 64 _ few, ne_eqb _ 0 attributed)

-- what each call found, by the field that it looked at
of_name : {name field : Bytes} {r : Bool} → name ≡ field → r ≡ is_name name → is_name field ≡ r
of_name e r = sym (ap is_name e) ∙ sym r

of_known : (names : List Bytes) {name field : Bytes} {r : Bool} → name ≡ field → r ≡ among_names name names → among_names field names ≡ r
of_known names e r = sym (ap (λ n. among_names n names) e) ∙ sym r

of_place : (k : Kind) (before : List Element) {d : ℕ} {name field : Bytes} {r : Bool} → name ≡ field → d ≡ depth_of name → r ≡ well_placed k d before → well_placed k (depth_of field) before ≡ r
of_place k before e depth r = sym (ap (λ d. well_placed k d before) (depth ∙ ap depth_of e)) ∙ sym r

of_word : (k : Kind) {name field : Bytes} {r : Found Word} → name ≡ field → r ≡ found (word_of k name) → r ≡ found (word_of k field)
of_word k e r = r ∙ ap (λ w. found (word_of k w)) e

-- the last test, of the word that was found
word_tested : (o : Option Word) {r : Found Word} → r ≡ found o → number_in (ok_or r BadWord) ≡ lowest ((7, is_none o) ∷ [])
word_tested none e = rw e
word_tested (some w) e = rw e

word_given : (o : Option Word) {r : Found Word} → r ≡ found o → IfOk (ok_or r BadWord) (λ w. o ≡ some w)
word_given none e = rw e tt
word_given (some w) e = rw e refl

-- what is known once a test has passed
name : (c : Else-not-is_name) → is_name (get_or (cut tab c.args.l.line.text.now) 2 []) ≡ true
name c = of_name c.name-name.ensures c.is_name.ensures ∙ c.if-not-is_name.false

place_left : (c : Else-st-eq0) (before : List Element) → let g = c.args in judged g.file.now g.st.now.attributes g.places.now g.st.now.tree g.l.kind (cut tab g.l.line.text.now) before
    ≡ lowest ((6, not (well_placed g.l.kind (depth_of (get_or (cut tab g.l.line.text.now) 1 [])) before)) ∷ (7, is_none (word_of g.l.kind (get_or (cut tab g.l.line.text.now) 3 []))) ∷ [])
place_left c before =
    let g = c.args in
    let name = of_name c.name-name.ensures c.is_name.ensures ∙ c.if-not-is_name.false in
    let fresh = of_known (names_to g.file.now g.places.now g.st.now.tree.len) c.name-name.ensures c.known_element.ensures ∙ c.if-known_element.false in
    from_place g.file.now g.st.now.attributes g.places.now g.st.now.tree g.l.kind (cut tab g.l.line.text.now) name fresh c.if-st-ge64.false c.if-st-eq0.false before

pub returns-then-not-is_name-clause-refusal : goal.returns-then-not-is_name-clause-refusal
returns-then-not-is_name-clause-refusal c =
    let g = c.args in
    let unnamed = of_name c.name-name.ensures c.is_name.ensures ∙ c.if-not-is_name.true in
    answer g.file.now g.st.now.attributes g.places.now g.st.now.tree g.l.kind (cut tab g.l.line.text.now) 3 (λ before stands. rw unnamed)

pub returns-then-known_element-clause-refusal : goal.returns-then-known_element-clause-refusal
returns-then-known_element-clause-refusal c =
    let g = c.args in
    let at = goal.at.returns-then-known_element-clause-refusal c in
    let known = of_known (names_to g.file.now g.places.now g.st.now.tree.len) c.name-name.ensures c.known_element.ensures ∙ c.if-known_element.true in
    answer g.file.now g.st.now.attributes g.places.now g.st.now.tree g.l.kind (cut tab g.l.line.text.now) 4 (λ before stands. rw (name at.Else-not-is_name, known))

pub returns-then-st-ge64-clause-refusal : goal.returns-then-st-ge64-clause-refusal
returns-then-st-ge64-clause-refusal c =
    let g = c.args in
    let at = goal.at.returns-then-st-ge64-clause-refusal c in
    let fresh = of_known (names_to g.file.now g.places.now g.st.now.tree.len) c.name-name.ensures c.known_element.ensures ∙ c.if-known_element.false in
    answer g.file.now g.st.now.attributes g.places.now g.st.now.tree g.l.kind (cut tab g.l.line.text.now) 5 (λ before stands. rw (name at.Else-not-is_name, fresh, le-leb 64 _ c.if-st-ge64.true))

pub returns-then-st-eq0-clause-refusal : goal.returns-then-st-eq0-clause-refusal
returns-then-st-eq0-clause-refusal c =
    let g = c.args in
    let at = goal.at.returns-then-st-eq0-clause-refusal c in
    let fresh = of_known (names_to g.file.now g.places.now g.st.now.tree.len) c.name-name.ensures c.known_element.ensures ∙ c.if-known_element.false in
    answer g.file.now g.st.now.attributes g.places.now g.st.now.tree g.l.kind (cut tab g.l.line.text.now) 6 (λ before stands. rw (name at.Else-not-is_name, fresh, lt-leb 64 _ c.if-st-ge64.false, eq-eqb _ 0 c.if-st-eq0.true))

pub returns-then-not-well_placed-clause-refusal : goal.returns-then-not-well_placed-clause-refusal
returns-then-not-well_placed-clause-refusal c =
    let g = c.args in
    let at = goal.at.returns-then-not-well_placed-clause-refusal c in
    answer g.file.now g.st.now.attributes g.places.now g.st.now.tree g.l.kind (cut tab g.l.line.text.now) 6
    (λ before stands.
    let misplaced = of_place g.l.kind before c.depth.ensures c.depth_of-depth.ensures.value (c.well_placed.ensures before stands) ∙ c.if-not-well_placed.true in
    place_left at.Else-st-eq0 before ∙ rw misplaced)

pub returns : goal.returns
returns c =
    let g = c.args in
    let at = goal.at.returns c in
    let word = of_word g.l.kind c.word.ensures c.word_of.ensures in
    record {
      refusal = rw c.ok_or.ensures.value (answer g.file.now g.st.now.attributes g.places.now g.st.now.tree g.l.kind (cut tab g.l.line.text.now) _
          (λ before stands.
          let placed = of_place g.l.kind before c.depth.ensures c.depth_of-depth.ensures.value (c.well_placed.ensures before stands) ∙ c.if-not-well_placed.false in
          place_left at.Else-st-eq0 before ∙ rw placed (sym (word_tested (word_of g.l.kind (get_or (cut tab g.l.line.text.now) 3 [])) word))));
      word = rw c.ok_or.ensures.value (word_given (word_of g.l.kind (get_or (cut tab g.l.line.text.now) 3 [])) word);
    }
