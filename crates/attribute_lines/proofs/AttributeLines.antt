-- Laws of an attribute line: its tests as code makes them, its parts, and the state behind it.
use Rattle.std.specs.Prelude.{Ok, Err}
use Prim.Native.Nat.{ℕ, zero, suc, ◌+◌, ◌-◌, ◌*◌, ◌≤◌, ◌<◌, zero-le, suc-le-suc}
use mathlib.Core.Path.{◌≡◌, refl, sym, ap, ap₂, ◌∙◌, subst⁻¹}
use mathlib.Core.Bool.{Bool, true, false, not, ◌||◌}
use mathlib.Core.List.{List, [], ◌∷◌, ◌++◌, map}
use native.Mathlib.Nat.{mul-one, one-mul, mul_assoc}
use native.Mathlib.Numerals.{add-one}
use native.Mathlib.Omega.{arith}
use lib.ListN.{length, drop, get_or, length-drop}
use lib.Seq.{drop-cons}
use lib.Dec.{leb, ltb, eqb, lit≤}
use lib.Pow.{pow_mono}
use borrow.Author.Tests.{lt-ltb, le-ltb, le-leb, lt-leb, eq-eqb, ne_eqb}
use Rattle.meaning.specs.Text.{Bytes, empty, all, among_names, repeated, cut, tab, is_name}
use Rattle.meaning.specs.Model.{Attribute, choices, most_values, space as space_of, letter_text, choices_of}
use Rattle.meaning.specs.Reading.{attribute_line, line_of, Sofar, Tests, lowest, attribute_tests}
use Rattle.laws.proofs.Lines.{letter_attribute, letter_several, attribute_fields_lem}
use Rattle.table.specs.declared.Row.{Row}
use Rattle.layout.specs.declared.Attributes.{Attributes}
use Rattle.layout.specs.declared.ElementPlaces.{ElementPlaces}
use Rattle.layout.specs.Places.{part, attributes_of, elements_to, line_start, line_place, placed, lines_to}
use Rattle.layout.proofs.Adding.{added_behind, placed_six, placed_more}
use Rattle.layout.proofs.Laws.{attributes_length}
use Rattle.attribute_lines.specs.Sofar.{refusal_by, refusal_of, attribute_in, Tested, AttributeRefusal, AttributeLine}
use Rattle.attribute_lines.specs.Steps.{Verdict, BeforeLine, EndedLine, behind_attribute, AttributeStep, read_sofar, Next, StepIs}
use Rattle.attribute_lines.specs.declared.State.{State}
use Rattle.attribute_lines.proofs.Parts.{field_at_lem, next_start}

-- The space with one attribute more
pub space_more : (attrs : List Attribute) (a : Attribute) → space_of (attrs ++ (a ∷ [])) ≡ space_of attrs * choices a
space_more [] a = mul-one (choices a) ∙ sym (one-mul (choices a))
space_more (b ∷ attrs) a = ap (λ n. choices b * n) (space_more attrs a) ∙ sym (mul_assoc (choices b) (space_of attrs) (choices a))

abbrev pub names : Bytes → Attributes → List Bytes
names f a = map (λ b. b.name) (attributes_of f a)

-- An attribute that has no more values than it may
pub most_sixteen : (several : Bool) (fs : List Bytes) → most_values several ≤ 16
most_sixteen true fs = lit≤ tt
most_sixteen false fs = lit≤ tt

pub size_small : (several : Bool) (fs : List Bytes) (n : ℕ) → n ≤ most_values several → choices_of several n ≤ 4096
size_small true fs n few = omega (arith, pow_mono {i = n} {j = 12} few)
size_small false fs n few = omega arith

-- the tests 3 to 6, as code makes them
abbrev code_tests : Bytes → Attributes → (space elements : ℕ) → (several : Bool) → List Bytes → ℕ → Tests
code_tests f a space elements several fs fields =
    (3, not (all is_name (drop 1 fs)))
    ∷ (4, among_names (get_or fs 1 []) (names f a) || repeated (drop 2 fs))
    ∷ (5, leb 6 a.len || ltb (most_values several) (fields - 2) || ltb 4096 (space * choices_of several (fields - 2)))
    ∷ (6, not (eqb elements 0))
    ∷ []

-- what the first tests found where none of them refused
pub record GoodNames (f : Bytes) (a : Attributes) (fs : List Bytes) : Type 0 where
  pub named : all is_name (drop 1 fs) ≡ true
  pub fresh : among_names (get_or fs 1 []) (names f a) ≡ false
  pub once : repeated (drop 2 fs) ≡ false

module _ {f : Bytes} {a : Attributes} {space fields : ℕ} {fs : List Bytes} (elements : ℕ) (several : Bool) (t : Tested f a space fs fields) where
  tests_alike : (s : Sofar) → s.attributes ≡ attributes_of f a → empty s.before ≡ eqb elements 0 → lowest (attribute_tests s (attribute_in several fs)) ≡ lowest (code_tests f a space elements several fs fields)
  tests_alike s attributes none =
      let split : drop 1 fs ≡ get_or fs 1 [] ∷ drop 2 fs = drop-cons fs 1 [] (omega (arith, t.count, t.three)) in
      let values : length (drop 2 fs) ≡ fields - 2 = length-drop 2 fs ∙ ap (λ n. n - 2) (sym t.count) in
      rw (attributes, none, space_more (attributes_of f a) (attribute_in several fs), values, attributes_length f a, ← t.space_is, split)

  refuses : (k : ℕ) → 1 ≤ k → lowest (code_tests f a space elements several fs fields) ≡ k → AttributeRefusal f a space elements several fs fields k
  refuses k some is =
      record {
        is_lowest = λ s attributes none. sym (tests_alike s attributes none ∙ is);
        few = λ zero. absurd (omega arith);
        few_values = λ zero. absurd (omega arith);
        small_space = λ zero. absurd (omega arith);
        no_element = λ zero. absurd (omega arith);
      }

  pub bad_name_lem : all is_name (drop 1 fs) ≡ false → AttributeRefusal f a space elements several fs fields 3
  bad_name_lem bad = refuses 3 (lit≤ tt) (rw bad)

  module _ (named : all is_name (drop 1 fs) ≡ true) where
    pub known_name : among_names (get_or fs 1 []) (names f a) ≡ true → AttributeRefusal f a space elements several fs fields 4
    known_name known = refuses 4 (lit≤ tt) (rw (named, known))

    pub twice_value : among_names (get_or fs 1 []) (names f a) ≡ false → repeated (drop 2 fs) ≡ true → AttributeRefusal f a space elements several fs fields 4
    twice_value fresh twice = refuses 4 (lit≤ tt) (rw (named, fresh, twice))

  module _ (g : GoodNames f a fs) where
    pub many_attributes : 6 ≤ a.len → AttributeRefusal f a space elements several fs fields 5
    many_attributes many = refuses 5 (lit≤ tt) (rw (g.named, g.fresh, g.once, le-leb 6 a.len many))

    module _ (few : a.len < 6) where
      pub many_values : most_values several < fields - 2 → AttributeRefusal f a space elements several fs fields 5
      many_values many = refuses 5 (lit≤ tt) (rw (g.named, g.fresh, g.once, lt-leb 6 a.len few, lt-ltb (most_values several) (fields - 2) many))

      module _ (few_values : fields - 2 ≤ most_values several) where
        pub large_space : 4096 < space * choices_of several (fields - 2) → AttributeRefusal f a space elements several fs fields 5
        large_space large = refuses 5 (lit≤ tt) (rw (g.named, g.fresh, g.once, lt-leb 6 a.len few, le-ltb (most_values several) (fields - 2) few_values, lt-ltb 4096 (space * choices_of several (fields - 2)) large))

        module _ (small : space * choices_of several (fields - 2) ≤ 4096) where
          last_test : lowest (code_tests f a space elements several fs fields) ≡ lowest ((6, not (eqb elements 0)) ∷ [])
          last_test = rw (g.named, g.fresh, g.once, lt-leb 6 a.len few, le-ltb (most_values several) (fields - 2) few_values, le-ltb 4096 (space * choices_of several (fields - 2)) small)

          pub behind_elements : (elements ≡ 0 → ⊥) → AttributeRefusal f a space elements several fs fields 6
          behind_elements some = refuses 6 (lit≤ tt) (last_test ∙ rw (ne_eqb elements 0 some))

          pub good_attribute : elements ≡ 0 → AttributeRefusal f a space elements several fs fields 0
          good_attribute none =
              record {
                is_lowest = λ s attributes empty-before. sym (tests_alike s attributes empty-before ∙ last_test ∙ rw (eq-eqb elements 0 none));
                few = λ zero. few;
                few_values = λ zero. omega (arith, few_values, most_sixteen several fs);
                small_space = λ zero. small;
                no_element = λ zero. none;
              }

-- An attribute line is one by the meaning too, and 2 does not refuse it
pub line_is : {several : Bool} (fs : List Bytes) {n : ℕ} → AttributeLine several fs n → line_of fs ≡ attribute_line (attribute_in several fs)
line_is [] l = absurd (omega (arith, l.count, l.three))
line_is (p ∷ []) l = absurd (omega (arith, l.count, l.three))
line_is (p ∷ q ∷ []) l = absurd (omega (arith, l.count, l.three))
line_is {several} (p ∷ q ∷ v ∷ vs) l = rw (l.letter, letter_attribute several, letter_several several)

refusal_is : {several : Bool} (s : Sofar) (fs : List Bytes) {n : ℕ} → AttributeLine several fs n → refusal_of s fs ≡ lowest (attribute_tests s (attribute_in several fs))
unfolding refusal_by
refusal_is s fs l = rw (line_is fs l, l.fields)

pub no_elements_lem : (f : Bytes) (table : List Row) (places : List ElementPlaces) (n : ℕ) → empty (elements_to f table places n) ≡ eqb n 0
unfolding elements_to
no_elements_lem f table places zero = refl
no_elements_lem f table places (suc n) = sym (ne_eqb (suc n) 0 (λ e. omega arith))

no_lines : (places : List ElementPlaces) (n : ℕ) → n ≡ 0 → lines_to places n ≡ 0
unfolding lines_to
no_lines places n none = rw none

letter_length : (several : Bool) → length (letter_text several) ≡ 1
letter_length true = refl
letter_length false = refl

-- Where its name, which has these bytes, and its values stand
pub record AttributeParts (f : Bytes) (at end : ℕ) (name : Bytes) : Type 0 where
  pub name_is : part f (at + 2) (at + 3 + length name - 1) ≡ name
  pub values_are : cut tab (part f (at + 3 + length name) end) ≡ drop 2 (cut tab (part f at end))
  pub within : at + 3 + length name ≤ end

pub attribute_parts : {several : Bool} (f : Bytes) (at end : ℕ) (name : Bytes) {n : ℕ} → end ≤ length f → AttributeLine several (cut tab (part f at end)) n → name ≡ get_or (cut tab (part f at end)) 1 [] → AttributeParts f at end name
attribute_parts {several} f at end name inside l named =
    let fs = cut tab (part f at end) in
    let fields = attribute_fields_lem fs (attribute_in several fs) (line_is fs l) in
    let first = field_at_lem f at end (letter_text several) (name ∷ drop 2 fs) inside (suc-le-suc zero-le) (fields.are ∙ rw named) in
    let after-letter : at + length (letter_text several) + 1 ≡ at + 2 = omega (arith, letter_length several) in
    let second = field_at_lem f (at + 2) end name (drop 2 fs) inside fields.some_value (ap (λ n. cut tab (part f n end)) (sym after-letter) ∙ first.behind) in
    let name-end : at + 3 + length name - 1 ≡ at + 2 + length name = omega arith in
    let values-start : at + 3 + length name ≡ at + 2 + length name + 1 = omega arith in
    record {
      name_is = ap (part f (at + 2)) name-end ∙ second.here;
      values_are = ap (λ n. cut tab (part f n end)) values-start ∙ second.behind;
      within = omega (arith, second.within);
    }

-- The step over it
module _ {f : Bytes} {st : State} {end : ℕ} {several : Bool} {fields : ℕ} {table : List Row} {places : List ElementPlaces} (ready : BeforeLine f table places st) (here : EndedLine f st end) (is : AttributeLine several (cut tab (part f st.at end)) fields) where
  line_refusal : {r : ℕ} → AttributeRefusal f st.attributes st.space st.tree.len several (cut tab (part f st.at end)) fields r → r ≡ refusal_of (read_sofar f table places st) (cut tab (part f st.at end))
  line_refusal refusal =
      let s = read_sofar f table places st in
      refusal.is_lowest s refl (no_elements_lem f table places st.tree.len) ∙ sym (refusal_is s (cut tab (part f st.at end)) is)

  line_next : st.attributes.len < 6 → fields - 2 ≤ 16 → st.space * choices_of several (fields - 2) ≤ 4096 → st.tree.len ≡ 0 → Next f table places table places st end (behind_attribute st end several (cut tab (part f st.at end)) fields)
  line_next few few_values small none =
      let fs = cut tab (part f st.at end) in
      let in_file = ready.in_file in
      let a = st.attributes in
      let old = attributes_of f a in
      let parts = attribute_parts f st.at end (get_or fs 1 []) (omega (arith, here.ends)) is refl in
      let six : length a.all ≡ 6 = ap (λ b. length b.all) ready.places_are ∙ placed_six f a.len in
      let added = added_behind a (line_place st.at end several (get_or fs 1 []) fields) (omega arith) few refl in
      let count : fields - 2 ≡ length (drop 2 fs) = ap (λ n. n - 2) is.count ∙ sym (length-drop 2 fs) in
      let attributes-are : attributes_of f (behind_attribute st end several fs fields).attributes ≡ old ++ (attribute_in several fs ∷ []) = added.behind f ∙ rw (parts.name_is, parts.values_are) in
      let size = a.len in
      let no_line : lines_to places st.tree.len ≡ 0 = no_lines places st.tree.len none in
      let starts : st.at ≡ line_start f size = ready.lined.next ∙ ap (line_start f) (omega (arith, no_line)) in
      let space_is : st.space * choices_of several (fields - 2) ≡ space_of (attributes_of f (behind_attribute st end several fs fields).attributes) = ap₂ (λ m n. m * choices_of several n) in_file.space_is count ∙ sym (ap space_of attributes-are ∙ space_more old (attribute_in several fs)) in
      record {
        ready = record {
          in_file = record {
            inside = omega (arith, here.ends);
            lines_passed = omega (arith, in_file.lines_passed, here.starts);
            attributes = record {
              standing = added.standing f in_file.attributes.standing (omega arith) parts.within (omega (arith, here.ends)) (count ∙ sym (ap length parts.values_are));
              few_values = added.few_values 16 in_file.attributes.few_values few_values;
              small = rw (← space_is) small;
            };
            space_is = space_is;
            shallow = in_file.shallow;
            few = in_file.few;
          };
          rooms = ready.rooms;
          tree = ready.tree;
          lined = record {
            next = next_start (a.len + lines_to places st.tree.len) here ready.lined.next ∙ ap (line_start f) (omega arith);
            starts = λ i l. absurd (omega arith);
          };
          places_are = placed_more f size st.at end fields several (get_or fs 1 []) a ready.places_are starts (next_start size here starts) is.letter refl is.count ∙ ap (placed f) (sym (add-one size));
          clear = ready.clear;
          obliged = ready.obliged;
        };
        at_next = refl;
        line_next = refl;
        laid = rw (line_is fs is, attributes-are);
      }

  pub attribute_told : {after : State} {r : Verdict} → AttributeStep f st end several fields after r → StepIs f table places table places st end after r
  attribute_told {after} {r} step = go r step
    where
      go : (r : Verdict) → AttributeStep f st end several fields after r → StepIs f table places table places st end after r
      go (Ok done) step =
          let tested = step.refusal in
          record {
            refusal = line_refusal tested;
            next = subst⁻¹ (Next f table places table places st end) step.state (line_next (tested.few refl) (tested.few_values refl) (tested.small_space refl) (tested.no_element refl));
            stays = tt;
          }
      go (Err why) step = record { refusal = line_refusal step.refusal; next = tt; stays = record { table_is = refl; places_are = refl; state_is = step.same_state } }
