-- `tree_line` meets its contract. Each answer is a step of `TreeSteps`, by what was found on the way to it.
use Prim.Native.Nat.{ℕ}
use Rattle.std.specs.Prelude.{Err}
use mathlib.Core.Path.{◌≡◌, refl, sym, ◌∙◌}
use mathlib.Core.List.{List}
use native.Mathlib.Omega.{arith}
use borrow.Author.Rules.{rules}
use Rattle.table.specs.declared.Row.{Row}
use Rattle.layout.specs.declared.ElementPlaces.{ElementPlaces}
use Rattle.layout.proofs.Laws.{element_names}
use Rattle.attribute_lines.specs.declared.State.{State}
use Rattle.element_lines.specs.Elements.{Behind}
use Rattle.attribute_lines.specs.Steps.{BeforeLine, read_sofar}
use Rattle.element_lines.proofs.TreeSteps.{count_told, earlier_told, some_attribute, room_there, targets_told, tree_told}
use Rattle.element_lines.proofs.tree_line.Goals as goal

-- what was read so far is what the state stands for
behind : {f : List ℕ} {table : List Row} {places : List ElementPlaces} {st : State} → BeforeLine f table places st → Behind f st.attributes places st.tree (read_sofar f table places st)
behind ready = record { attributes = refl; stands = ready.tree; names = element_names _ _ _ _ }

pub returns-then-fields-st : goal.returns-then-fields-st
returns-then-fields-st c =
    let pre = c.requires in
    count_told _ _ _ _ _ _ _ pre.0 pre.1 pre.2 c.if-fields-st.true

pub of-line-requires : goal.of-line-requires
of-line-requires c =
    omega (arith, c.requires.2.count)

pub element_word-requires : goal.element_word-requires
element_word-requires c =
    let pre = c.requires in
    (pre.0.rooms.named, pre.0.in_file.shallow, (_, behind pre.0))

pub returns-in_err-word : goal.returns-in_err-word
returns-in_err-word c =
    let pre = c.requires in
    let same : c.from_residual.result ≡ Err c.in_err-word.field-0.0 = search rules in
    let refused = rw c.of-line.ensures.text at (c.in_err-word.ensures.refusal _ (behind pre.0)) in
    rw same (earlier_told _ _ _ _ _ _ _ pre.0 pre.1 pre.2 c.if-fields-st.false _ refused)

pub masks-requires : goal.masks-requires
masks-requires c =
    let pre = c.requires in
    let passed = rw c.of-line.ensures.text at (sym (c.in_ok-word.ensures.refusal _ (behind pre.0))) in
    let attributes = pre.0.in_file.attributes in
    (attributes.standing, attributes.few_values, some_attribute _ _ _ _ _ _ _ pre.0 pre.1 pre.2 c.if-fields-st.false passed, rw c.of-line.ensures.text (sym pre.2.count ∙ c.if-fields-st.false))

pub returns-in_default : goal.returns-in_default
returns-in_default c =
    let pre = c.requires in
    let is = c.of-line.ensures.text in
    let passed = rw is at (sym (c.in_ok-word.ensures.refusal _ (behind pre.0))) in
    targets_told _ _ _ _ _ _ _ pre.0 pre.1 pre.2 c.if-fields-st.false passed (rw is at (sym c.in_default.ensures))

pub lay_element-st-requires : goal.lay_element-st-requires
lay_element-st-requires c =
    let pre = c.requires in
    let is = c.of-line.ensures.text in
    let passed = rw is at (sym (c.in_ok-word.ensures.refusal _ (behind pre.0))) in
    rw is (room_there _ _ _ _ _ _ _ pre.0 pre.1 pre.2 c.if-fields-st.false passed (omega (arith, pre.1.ends)))

pub returns : goal.returns
returns c =
    let pre = c.requires in
    let is = c.of-line.ensures.text in
    let passed = rw is at (sym (c.in_ok-word.ensures.refusal _ (behind pre.0))) in
    let put = c.lay_element-st.ensures in
    tree_told _ _ _ _ _ _ _ pre.0 pre.1 pre.2 c.if-fields-st.false passed _ _ _ _ _ (rw is at c.in_ok-word.ensures.word) (rw is at (sym c.in-Some.ensures)) (rw (put.value, is)) (rw is at put.table_after) (rw is at put.places_after)
