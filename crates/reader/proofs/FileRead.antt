-- A file that was read, or refused.
use mathlib.Core.Path.{◌≡◌, refl, sym, ap, ◌∙◌}
use Rattle.std.specs.Prelude.{Ok, Err}
use Prim.Native.Nat.{ℕ, ◌+◌, ◌-◌, ◌≤◌, ◌<◌}
use native.Mathlib.Omega.{arith}
use mathlib.Core.List.{List, reverse-reverse}
use lib.Dec.{leb, lit≤}
use lib.ListN.{length, drop, replicate, length-drop, length-reverse}
use lib.Seq.{length-take-le}
use borrow.Author.Tests.{leb-true}
use Rattle.meaning.specs.Model.{Policy, Result, refused, given}
use Rattle.meaning.specs.Reading.{read}
use Rattle.refusals.specs.declared.Refused.{Refused}
use Rattle.refusals.specs.Numbers.{number_of}
use Rattle.laws.proofs.Bounds.{GoodElement, bounded, all_reverse, named}
use Rattle.laws.proofs.Bools.{and_true}
use Rattle.table.specs.declared.Row.{Row}
use Rattle.table.specs.Rows.{Rows}
use Rattle.layout.specs.declared.ElementPlaces.{ElementPlaces}
use Rattle.layout.specs.Places.{Clear, FewValues, no_places, start_of, name_end, name_in, element_in, elements_to, Naming}
use Rattle.layout.proofs.Slots.{none_clear}
use Rattle.layout.proofs.Laws.{elements_length, of_each}
use Rattle.reader.specs.declared.Policy.{Policy as PolicyRead}
use Rattle.reader.specs.Told.{ReadPolicy, ReadAs, ReadIs}

-- what reading asks of the memory that it is lent, where it holds no element
pub unread : let none = replicate 64 no_places in Rows (replicate 64 (record { word = 0; depth = 0; masks = replicate 6 0 })) 64 × (64 ≤ length none) × Clear none 0
unread = (lit≤ tt, lit≤ tt, none_clear 64)

module _ {f : List ℕ} {table₀ : List Row} {places₀ : List ElementPlaces} {table : List Row} {places : List ElementPlaces} where
  pub file_refused : {x : Refused} → ReadIs f table₀ places₀ table places (Err x) → read f ≡ refused (number_of x.why) x.second
  file_refused {x} is_read = go (read f) refl is_read.answer
    where
      go : (y : Result Policy) → read f ≡ y → ReadAs f table places (Err x) y → read f ≡ refused (number_of x.why) x.second
      go (given p) h t = elim t [ ]
      go (refused n m) h t = h ∙ λ i. refused (sym t.is i).number (sym t.is i).second

  pub file_read : {x : PolicyRead} → ReadIs f table₀ places₀ table places (Ok x) → (p : Policy) × (read f ≡ given p) × ReadPolicy f table places x p
  file_read {x} is_read = go (read f) refl is_read.answer
    where
      go : (y : Result Policy) → read f ≡ y → ReadAs f table places (Ok x) y → (p : Policy) × (read f ≡ given p) × ReadPolicy f table places x p
      go (refused n m) h t = elim t [ ]
      go (given p) h t = (p, h, t)

  -- what its shape asks of the policy
  pub sizable : {x : PolicyRead} → ReadIs f table₀ places₀ table places (Ok x) → (x.attributes.len ≤ 6) × FewValues x.attributes
  sizable is_read = let spaced = (file_read is_read).2.spaced in (spaced.standing.few, spaced.few_values)

-- The elements of a file that was read
module _ (f : List ℕ) (table : List Row) (places : List ElementPlaces) (r : PolicyRead) (p : Policy) (h : read f ≡ given p) (holds : ReadPolicy f table places r p) where
  pub elements_are : length p.elements ≡ r.elements
  elements_are = ap length holds.elements ∙ length-reverse (elements_to f table places r.elements) ∙ elements_length f table places r.elements

  pub few : r.elements ≤ 64
  few = omega (arith, (bounded f p h).few_elements, elements_are)

  -- each is within its bounds
  pub good : (i : ℕ) → i < r.elements → GoodElement p.attributes (element_in f table places i)
  good = of_each f table places (GoodElement p.attributes) r.elements
      (rw (holds.elements, reverse-reverse) at (all_reverse (GoodElement p.attributes) p.elements (bounded f p h).elements_good))

  name_fits : (i : ℕ) → i < r.elements → length (name_in f places i) ≤ 16
  unfolding element_in
  name_fits i l = let name = length (name_in f places i) in leb-true name 16 (and_true (leb 1 name) (leb name 16) (named (element_in f table places i) (good i l).named).size).1

  pub naming : Naming f places r.elements
  naming =
      record {
        few = few;
        each = λ i l. let named = holds.rooms.named in
            let start = start_of places i + 4 in
            let end = name_end places i in
            let size : length (name_in f places i) ≡ end - start = length-take-le (end - start) (drop start f) (omega (arith, length-drop start f, named.ends i l)) in
            record { room = omega (arith, named.room); starts = named.starts i l; ends = named.ends i l; short = omega (arith, size, name_fits i l, named.starts i l) };
      }
