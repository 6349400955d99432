-- `attribute_refusal` meets its contract. What each test found is said once, where it has passed; a law for each number
-- does the rest.
use Prim.Native.Nat.{◌-◌, ◌≤◌}
use mathlib.Core.Path.{◌≡◌, sym, ap, ◌∙◌}
use mathlib.Core.Bool.{Bool, true, not}
use mathlib.Core.List.{List, []}
use native.Mathlib.Nat.{mul-le-mul_right}
use native.Mathlib.Omega.{arith}
use borrow.Author.Tests.{not-true, not-false}
use lib.ListN.{drop}
use Rattle.meaning.specs.Text.{Bytes, all, among_names, repeated, cut, tab, is_name}
use Rattle.meaning.specs.Model.{most_values}
use Rattle.attribute_lines.proofs.AttributeLines.{most_sixteen, size_small, GoodNames, bad_name_lem, known_name, twice_value, many_attributes, many_values, large_space, behind_elements, good_attribute}
use Rattle.attribute_lines.proofs.attribute_refusal.Goals as goal
use Rattle.attribute_lines.proofs.attribute_refusal.Goals.{Else-not-all_names, Else-not-all_distinct, Else-most_values-values}

-- what each call found, by the fields that it looked at
all_told : (fs : List Bytes) {named : List Bytes} {r : Bool} → named ≡ drop 1 fs → r ≡ all is_name named → all is_name (drop 1 fs) ≡ r
all_told fs e r = sym (ap (all is_name) e) ∙ sym r

known_told : (taken : List Bytes) {name field : Bytes} {r : Bool} → name ≡ field → r ≡ among_names name taken → among_names field taken ≡ r
known_told taken e r = sym (ap (λ n. among_names n taken) e) ∙ sym r

twice_told : (fs : List Bytes) {values : List Bytes} {r : Bool} → values ≡ drop 2 fs → r ≡ not (repeated values) → not (repeated (drop 2 fs)) ≡ r
twice_told fs e r = sym (ap (λ vs. not (repeated vs)) e) ∙ sym r

-- what is known once a test has passed
named : (c : Else-not-all_names) → all is_name (drop 1 (cut tab c.args.line.now)) ≡ true
named c = all_told (cut tab c.args.line.now) c.from_field.ensures c.all_names.ensures ∙ c.if-not-all_names.false

good : (c : Else-not-all_distinct) → GoodNames c.args.file.now c.args.st.now.attributes (cut tab c.args.line.now)
good c =
    record {
      named = all_told (cut tab c.args.line.now) c.from_field.ensures c.all_names.ensures ∙ c.if-not-all_names.false;
      fresh = known_told _ c.field.ensures c.known_attribute.ensures ∙ c.if-known_attribute.false;
      once = not-true _ (twice_told (cut tab c.args.line.now) c.from_field-2.ensures c.all_distinct.ensures ∙ c.if-not-all_distinct.false);
    }

few_values : (c : Else-most_values-values) → c.args.fields - 2 ≤ most_values c.args.several
few_values c = omega (arith, c.most_values.ensures, c.if-most_values-values.false)

pub returns-then-not-all_names : goal.returns-then-not-all_names
returns-then-not-all_names c =
    bad_name_lem c.args.st.now.tree.len c.args.several c.requires (all_told (cut tab c.args.line.now) c.from_field.ensures c.all_names.ensures ∙ c.if-not-all_names.true)

pub returns-then-known_attribute : goal.returns-then-known_attribute
returns-then-known_attribute c =
    let at = goal.at.returns-then-known_attribute c in
    known_name c.args.st.now.tree.len c.args.several c.requires (named at.Else-not-all_names) (known_told _ c.field.ensures c.known_attribute.ensures ∙ c.if-known_attribute.true)

pub returns-then-not-all_distinct : goal.returns-then-not-all_distinct
returns-then-not-all_distinct c =
    let at = goal.at.returns-then-not-all_distinct c in
    let twice = not-false _ (twice_told (cut tab c.args.line.now) c.from_field-2.ensures c.all_distinct.ensures ∙ c.if-not-all_distinct.true) in
    twice_value c.args.st.now.tree.len c.args.several c.requires (named at.Else-not-all_names) (known_told _ c.field.ensures c.known_attribute.ensures ∙ c.if-known_attribute.false) twice

pub returns-then-st-ge6 : goal.returns-then-st-ge6
returns-then-st-ge6 c = many_attributes c.args.st.now.tree.len c.args.several c.requires (good (goal.at.returns-then-st-ge6 c).Else-not-all_distinct) c.if-st-ge6.true

pub returns-then-most_values-values : goal.returns-then-most_values-values
returns-then-most_values-values c =
    let at = goal.at.returns-then-most_values-values c in
    many_values c.args.st.now.tree.len c.args.several c.requires (good at.Else-not-all_distinct) (omega arith) (omega (arith, c.most_values.ensures, c.if-most_values-values.true))

pub choices-requires : goal.choices-requires
choices-requires c = omega (arith, few_values (goal.at.choices-requires c).Else-most_values-values, most_sixteen c.args.several [])

pub overflow_mul-st : goal.overflow_mul-st
overflow_mul-st c =
    let small = size_small c.args.several [] (c.args.fields - 2) (few_values (goal.at.overflow_mul-st c).Else-most_values-values) in
    omega (arith, c.choices.ensures, small, mul-le-mul_right c.choices.result c.requires.small)

pub returns-then-st-choices-gt4096 : goal.returns-then-st-choices-gt4096
returns-then-st-choices-gt4096 c =
    let at = goal.at.returns-then-st-choices-gt4096 c in
    large_space c.args.st.now.tree.len c.args.several c.requires (good at.Else-not-all_distinct) (omega arith) (few_values at.Else-most_values-values) (rw (← c.choices.ensures) c.if-st-choices-gt4096.true)

pub returns-then-st-ne0 : goal.returns-then-st-ne0
returns-then-st-ne0 c =
    let at = goal.at.returns-then-st-ne0 c in
    behind_elements c.args.st.now.tree.len c.args.several c.requires (good at.Else-not-all_distinct) (omega arith) (few_values at.Else-most_values-values) (rw (← c.choices.ensures) (omega arith)) c.if-st-ne0.true

pub returns : goal.returns
returns c =
    let at = goal.at.returns c in
    good_attribute c.args.st.now.tree.len c.args.several c.requires (good at.Else-not-all_distinct) (omega arith) (few_values at.Else-most_values-values) (rw (← c.choices.ensures) (omega arith)) c.if-st-ne0.false
