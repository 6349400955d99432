-- `check_elements` meets its contract. The loop keeps the answer: that for the elements from the one at hand on, behind those before,
-- the first of them on the line at hand.
use Prim.Native.Nat.{ℕ, ◌+◌, ◌*◌, ◌≤◌, ◌<◌}
use mathlib.Core.Path.{◌≡◌, refl, sym, ap, ◌∙◌, subst⁻¹}
use mathlib.Core.List.{List}
use native.Mathlib.Numerals.{add-one}
use native.Mathlib.Omega.{arith}
use lib.ListN.{length, take, get_or}
use borrow.Author.Rules.{rules}
use Rattle.std.proofs.Common.{below_more}
use Rattle.std.specs.Prelude.{Err}
use Rattle.std.specs.Prelude.{Result as Outcome}
use Rattle.refusals.specs.declared.Refused.{Refused}
use Rattle.meaning.specs.Model.{Attribute, Result}
use Rattle.meaning.specs.Reading.{Sofar}
use Rattle.meaning.specs.Writing.{read_element}
use Rattle.laws.proofs.Types.{Element}
use Rattle.layout.specs.declared.Tree.{Tree}
use Rattle.layout.specs.Nearest.{grown}
use Rattle.layout.specs.Places.{value_counts}
use Rattle.layout.proofs.Placing.{stands_more}
use Rattle.checking.specs.Tested.{none, taken, earlier, behind, number_told, Begun, CheckedAs}
use Rattle.checking.proofs.Earlier.{earlier_length}
use Rattle.checking.proofs.Told.{counted, pass_told}
use Rattle.checking.proofs.Walk.{all_shaped, remaining, all_remain, none_remains, element_read, element_refused, element_passed, stand_ins, stand_in_counts, Sound, sound, begun_first, begun_next}
use Rattle.checking.proofs.check_elements.Goals as goal

-- the element at a place, tested
module _ (counts : List ℕ) (attributes : ℕ) (all : List Element) (tree : Tree) (line i : ℕ) (at : tree.len ≡ i) (l : i < length all) (begun : Begun all tree)
    (r : Outcome (Unit {0}) Refused) (tested : (attrs : List Attribute) → take attributes counts ≡ value_counts attrs → CheckedAs r (read_element line (behind attrs all tree.len) (get_or all i none))) where
  abbrev e : Element
  e = get_or all i none

  told : (attrs : List Attribute) → take attributes counts ≡ value_counts attrs → CheckedAs r (element_read attrs all line tree.len)
  told attrs are = subst⁻¹ (λ k. CheckedAs r (read_element line (behind attrs all tree.len) (get_or all k none))) at (tested attrs are)

  here : tree.len < length all
  here = omega arith

  -- it is refused
  refused_here : (number_told r ≡ 0 → ⊥) → (attrs : List Attribute) → take attributes counts ≡ value_counts attrs → {whole : Result Sofar} → whole ≡ remaining line attrs all tree.len → CheckedAs r whole
  refused_here other attrs are left = subst⁻¹ (CheckedAs r) left (element_refused attrs all line tree.len here r (told attrs are) other)

  -- it passed its tests, whatever the attributes are; and the tree and the line behind it
  module _ (fine : number_told r ≡ 0) where
    passed_here : Sound all tree.len
    passed_here = let ns = take attributes counts in sound (stand_ins ns) all line tree.len r (told (stand_ins ns) (stand_in_counts ns)) fine begun.few

    shallow : (e.depth ≤ 7) × (tree.len < 64)
    shallow = (rw (← at) passed_here.small.shallow, passed_here.few)

    tree_more : (next : Tree) → next ≡ grown tree e.kind e.depth → Begun all next × (next.len ≡ tree.len + 1)
    tree_more next is =
        let same : next ≡ grown tree (get_or all tree.len none).kind (get_or all tree.len none).depth = is ∙ ap (λ k. grown tree (get_or all k none).kind (get_or all k none).depth) (sym at) in
        let stands = stands_more tree _ _ (taken (get_or all tree.len none)) (earlier all tree.len) begun.stands refl refl passed_here.small.shallow same in
        (begun_next all tree next here begun passed_here stands, omega (arith, stands.count, earlier_length all tree.len))

    line_more : line ≤ 7 + 3 * tree.len → line + (1 + e.obligations) ≤ 10 + 3 * tree.len
    line_more low = let few = passed_here.small.few_obligations in omega (arith, ap (λ k. (get_or all k none).obligations) at, few)

    left_more : (next : ℕ) → next ≡ line + (1 + e.obligations) → (j : ℕ) → j ≡ tree.len + 1 → (attrs : List Attribute) → take attributes counts ≡ value_counts attrs → remaining line attrs all tree.len ≡ remaining next attrs all j
    left_more next is j more attrs are = element_passed attrs all line tree.len here r (told attrs are) fine next j (omega (arith, is, ap (λ k. (get_or all k none).obligations) at)) (more ∙ add-one tree.len)

pub loop-e-init : goal.loop-e-init
loop-e-init c =
    let a = c.args in
    record { count = refl; begun = begun_first a.list.now; low = omega (arith, c.args.values.now.few.few); shaped = λ k l. absurd (omega arith); left = λ attrs are. all_remain a.values.now.len attrs a.list.now }

pub check_element-requires : goal.check_element-requires
check_element-requires c = (c.loop-e.invariant.begun, c.loop-e.invariant.low)

pub returns-in_err-check_element-clause-told : goal.returns-in_err-check_element-clause-told
returns-in_err-check_element-clause-told c attrs are =
    let e = c.in_err-check_element.field-0.0 in
    let same : c.from_residual.result ≡ Err e = search rules in
    rw same (refused_here c.args.values.now.counts c.args.values.now.len c.args.list.now c.loop-e.tree c.loop-e.line c.loop-e.e-index c.loop-e.invariant.count (omega arith) c.loop-e.invariant.begun
    (Err e) c.in_err-check_element.ensures.told (counted e.why refl) attrs are (c.loop-e.invariant.left attrs are))

pub with_element-tree-requires : goal.with_element-tree-requires
with_element-tree-requires c =
    shallow c.args.values.now.counts c.args.values.now.len c.args.list.now c.loop-e.tree c.loop-e.line c.loop-e.e-index c.loop-e.invariant.count (omega arith) c.loop-e.invariant.begun
    c.check_element.result c.check_element.ensures.told (ap number_told c.in_ok-check_element.was)

pub overflow_add-line : goal.overflow_add-line
overflow_add-line c = omega (arith, c.args.values.now.few.few)

pub overflow_add-line-in-loop-e-2 : goal.overflow_add-line-in-loop-e-2
overflow_add-line-in-loop-e-2 c =
    let low = line_more c.args.values.now.counts c.args.values.now.len c.args.list.now c.loop-e.tree c.loop-e.line c.loop-e.e-index c.loop-e.invariant.count (omega arith) c.loop-e.invariant.begun
    c.check_element.result c.check_element.ensures.told (ap number_told c.in_ok-check_element.was) c.loop-e.invariant.low in
    omega (arith, low, c.from.ensures, c.loop-e.invariant.begun.few)

pub loop-e-preserved : goal.loop-e-preserved
loop-e-preserved c =
    let low = line_more c.args.values.now.counts c.args.values.now.len c.args.list.now c.loop-e.tree c.loop-e.line c.loop-e.e-index c.loop-e.invariant.count (omega arith) c.loop-e.invariant.begun
    c.check_element.result c.check_element.ensures.told (ap number_told c.in_ok-check_element.was) c.loop-e.invariant.low in
    let (begun, more) = tree_more c.args.values.now.counts c.args.values.now.len c.args.list.now c.loop-e.tree c.loop-e.line c.loop-e.e-index c.loop-e.invariant.count (omega arith) c.loop-e.invariant.begun
    c.check_element.result c.check_element.ensures.told (ap number_told c.in_ok-check_element.was) _ c.with_element-tree.ensures in
    record {
      count = more ∙ ap (λ n. n + 1) c.loop-e.invariant.count;
      begun = begun;
      low = omega (arith, low, more, c.from.ensures);
      shaped = below_more _ _ c.loop-e.invariant.shaped c.check_element.ensures.shaped;
      left = λ attrs are. c.loop-e.invariant.left attrs are
          ∙ left_more c.args.values.now.counts c.args.values.now.len c.args.list.now c.loop-e.tree c.loop-e.line c.loop-e.e-index c.loop-e.invariant.count (omega arith) c.loop-e.invariant.begun
          c.check_element.result c.check_element.ensures.told (ap number_told c.in_ok-check_element.was) _ (ap (λ n. c.loop-e.line + (1 + n)) c.from.ensures) _ more attrs are;
    }

pub returns-clause-shaped : goal.returns-clause-shaped
returns-clause-shaped c good = all_shaped c.args.list.now (λ k l. c.loop-e.invariant.shaped k (omega arith))

pub returns-clause-told : goal.returns-clause-told
returns-clause-told c attrs are =
    let a = c.args in
    let l = c.loop-e in
    pass_told _ _ (behind attrs a.list.now l.tree.len) (l.invariant.left attrs are ∙ none_remains attrs a.list.now l.line l.tree.len (omega arith)) refl refl
