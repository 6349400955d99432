-- The elements of a list tested one by one: what is left of the list, tested behind those before.
use Prim.Native.Nat.{ℕ, suc, ◌+◌, ◌≤◌, ◌<◌, zero-le}
use mathlib.Core.Path.{◌≡◌, refl, sym, ap, ◌∙◌, subst⁻¹}
use mathlib.Core.Logic.{⊎_elim}
use mathlib.Core.Bool.{false}
use mathlib.Core.List.{List, [], ◌∷◌, map}
use native.Mathlib.Nat.{eq-or-lt_of_le}
use native.Mathlib.Numerals.{add-one}
use native.Mathlib.Omega.{arith}
use lib.Dec.{lit≤}
use lib.ListN.{length, drop, get_or, replicate, length-replicate, drop_of_length-le}
use lib.Seq.{drop-cons}
use borrow.Author.Tests.{leb-false}
use Rattle.std.specs.Prelude.{None}
use Rattle.meaning.specs.Text.{Bytes}
use Rattle.meaning.specs.Model.{Attribute, Result, refused, given, ◌then◌, word_text}
use Rattle.meaning.specs.Reading.{Sofar, lowest, element_tests}
use Rattle.meaning.specs.Writing.{read_element, read_elements}
use Rattle.meaning.specs.Claims.Texts.{All}
use Rattle.meaning.specs.Claims.Writing.{Shaped}
use Rattle.laws.proofs.Types.{Element}
use Rattle.laws.proofs.Reading.{lowest_zero, element_numbered}
use Rattle.laws.proofs.Places.{element_read_lem}
use Rattle.laws.proofs.GoodLists.{Small, taken_small, taken_few}
use Rattle.layout.specs.declared.Tree.{Tree}
use Rattle.layout.specs.Nearest.{Stands}
use Rattle.layout.specs.Places.{value_counts}
use Rattle.layout.proofs.Laws.{empty_stands}
use Rattle.std.specs.Prelude.{Result as Outcome}
use Rattle.refusals.specs.declared.Refused.{Refused}
use Rattle.checking.specs.Tested.{none, taken, earlier, behind, obligations_read, number_told, Begun, CheckedAs}
use Rattle.checking.proofs.Earlier.{earlier_length}
use Rattle.checking.proofs.Told.{refused_on, passed_on, lowest_within}
use Rattle.checking.proofs.Obliged.{holds}

-- what holds of the element at each place holds of all
pub all_shaped : (es : List Element) → ((k : ℕ) → k < length es → Shaped (get_or es k none)) → All Shaped es
all_shaped [] each = tt
all_shaped (e ∷ es) each = (each 0 (omega arith), all_shaped es (λ k l. each (suc k) (omega arith)))

-- the elements from i on, of which the first is on a line
abbrev pub remaining : ℕ → List Attribute → List Element → ℕ → Result Sofar
remaining line attrs all i = read_elements line (behind attrs all i) (drop i all)

pub all_remain : (attributes : ℕ) (attrs : List Attribute) (all : List Element) → read_elements (suc attributes) (record { attributes = attrs; before = [] }) all ≡ remaining (attributes + 1) attrs all 0
unfolding earlier
all_remain attributes attrs all = sym (rw (add-one attributes))

-- An element that passed its tests
pub record Sound (all : List Element) (i : ℕ) : Type 0 where
  pub small : Small (get_or all i none)
  pub few : i < 64

module _ (attrs : List Attribute) (all : List Element) (line i : ℕ) where
  -- what element i of a list gives on a line
  abbrev pub element_read : Result Sofar
  element_read = read_element line (behind attrs all i) (get_or all i none)

  module _ (r : Outcome (Unit {0}) Refused) (told : CheckedAs r element_read) (fine : number_told r ≡ 0) where
    read_as : element_read ≡ given (behind attrs all (suc i))
    unfolding earlier
    read_as = let (t, e) = passed_on r element_read told fine in e ∙ ap given (element_read_lem line (behind attrs all i) (get_or all i none) t e).is

    pub sound : i ≤ 64 → Sound all i
    sound early =
        let one : read_elements line (behind attrs all i) (get_or all i none ∷ []) ≡ given (behind attrs all (suc i)) = rw read_as in
        let most = taken_few line (behind attrs all i) (get_or all i none ∷ []) (behind attrs all (suc i)) one (omega (arith, earlier_length all i)) in
        record {
          small = (taken_small line (behind attrs all i) (get_or all i none ∷ []) (behind attrs all (suc i)) one).0;
          few = omega (arith, earlier_length all i);
        }

  pub none_remains : length all ≤ i → remaining line attrs all i ≡ given (behind attrs all i)
  none_remains end = rw (drop_of_length-le all end)

  module _ (l : i < length all) where
    one_remains : remaining line attrs all i ≡ (element_read then λ t. read_elements (line + suc (get_or all i none).obligations) t (drop (suc i) all))
    one_remains = rw (drop-cons all i none l)

    module _ (r : Outcome (Unit {0}) Refused) (told : CheckedAs r element_read) where
      pub element_refused : (number_told r ≡ 0 → ⊥) → CheckedAs r (remaining line attrs all i)
      element_refused h = subst⁻¹ (CheckedAs r) one_remains (refused_on r element_read (λ t. read_elements (line + suc (get_or all i none).obligations) t (drop (suc i) all)) told h)

      pub element_passed : number_told r ≡ 0 → (next j : ℕ) → next ≡ line + suc (get_or all i none).obligations → j ≡ suc i → remaining line attrs all i ≡ remaining next attrs all j
      element_passed fine next j at more = one_remains ∙ rw (read_as r told fine, at, more)

-- Some attributes of any value counts
abbrev pub stand_ins : List ℕ → List Attribute
stand_ins ns = map (λ n. record { several = false; name = []; values = replicate n [] }) ns

pub stand_in_counts : (ns : List ℕ) → ns ≡ value_counts (stand_ins ns)
stand_in_counts [] = refl
stand_in_counts (n ∷ ns) = sym (rw (length-replicate {A = Bytes} n [], ← stand_in_counts ns))

-- The own line of an element: the number that refuses it, or 0, behind which its obligations come
module _ (attrs : List Attribute) (all : List Element) (i : ℕ) (e : Element) where
  abbrev pub own_number : ℕ
  own_number = lowest (element_tests (behind attrs all i) (word_text e.word) e)

  pub own_within : (own_number ≡ 0 → ⊥) → (3 ≤ own_number) × (own_number ≤ 14)
  own_within h =
      lowest_within (element_tests (behind attrs all i) (word_text e.word) e)
      ((lit≤ tt, lit≤ tt), ((lit≤ tt, lit≤ tt), ((lit≤ tt, lit≤ tt), ((lit≤ tt, lit≤ tt), ((lit≤ tt, lit≤ tt), ((lit≤ tt, lit≤ tt), tt))))))
      h

  pub own_refused : (line : ℕ) → (own_number ≡ 0 → ⊥) → read_element line (behind attrs all i) e ≡ refused own_number line
  own_refused line h = rw (holds own_number line _ h)

  pub own_passed : (line : ℕ) → own_number ≡ 0 → read_element line (behind attrs all i) e ≡ obligations_read line (behind attrs all i) e
  own_passed line z = rw z

  -- that of element 65 is refused
  pub few_before : own_number ≡ 0 → i < 64
  few_before z =
      let passes = lowest_zero (element_tests (behind attrs all i) (word_text e.word) e) (element_numbered (behind attrs all i) (word_text e.word) e) z in
      omega (arith, leb-false 64 (length (earlier all i)) passes.1.1.0, earlier_length all i)

-- the tree before the first element, and behind one more
pub begun_first : (all : List Element) → Begun all (record { len = 0; depth = 0; kinds = replicate 8 None })
unfolding earlier
begun_first all = record { stands = empty_stands; few = zero-le; inside = zero-le; shallow = zero-le; short_names = λ i l. absurd (omega arith) }

pub begun_next : (all : List Element) (tree next : Tree) → tree.len < length all → Begun all tree → Sound all tree.len → Stands next (taken (get_or all tree.len none) ∷ earlier all tree.len) → Begun all next
unfolding earlier
begun_next all tree next here begun s stands =
    let n = tree.len in
    let more : next.len ≡ suc n = stands.count ∙ ap suc (earlier_length all n) in
    record {
      stands = subst⁻¹ (λ m. Stands next (earlier all m)) more stands;
      few = omega (arith, more, s.few);
      inside = omega (arith, more);
      shallow = rw stands.last s.small.shallow;
      short_names = λ i l. ⊎_elim (λ (e : i ≡ n). rw e s.small.short) (λ (below : i < n). begun.short_names i below) (eq-or-lt_of_le (omega (arith, more)));
    }
