-- The elements of a file that was read, listed one by one; and what a file is listed as.
use Rattle.std.specs.Prelude.{Ok, Err}
use mathlib.Core.Path.{◌≡◌, sym, ap, ap₂, ◌∙◌}
use Prim.Native.Nat.{ℕ, ◌+◌, ◌≤◌, ◌<◌}
use native.Mathlib.Numerals.{add-one}
use native.Mathlib.Omega.{arith}
use mathlib.Core.Bool.{cond}
use mathlib.Core.List.{List, [], ◌∷◌, ◌++◌, reverse, reverse-cons}
use lib.Dec.{ltb}
use lib.ListN.{length, drop, length-set, length-replicate, length-reverse}
use borrow.Author.Tests.{lt-ltb, le-ltb, ltb-false}
use Rattle.meaning.specs.declared.Answer.{Answer}
use Rattle.meaning.specs.declared.Element.{Element}
use Rattle.meaning.specs.Text.{Bytes}
use Rattle.meaning.specs.Model.{Policy, Result, refused, given, ◌then◌}
use Rattle.meaning.specs.Reading.{read}
use Rattle.meaning.specs.Writing.{list_file}
use Rattle.meaning.specs.Operations.{answered, lent, read_answer, read_lent}
use Rattle.refusals.specs.declared.Refused.{Refused}
use Rattle.refusals.specs.declared.Refusal.TheVariants.{ShortList}
use Rattle.refusals.specs.Numbers.{number_of, answer_of}
use Rattle.laws.proofs.Reading.{refused-given, given_given}
use Rattle.laws.proofs.Bools.{Test, passed, failed, test}
use Rattle.table.specs.declared.Row.{Row}
use Rattle.table.specs.Rows.{element_at}
use Rattle.layout.specs.declared.ElementPlaces.{ElementPlaces}
use Rattle.layout.specs.Places.{element_in, elements_to}
use Rattle.layout.proofs.Laws.{elements_length}
use Rattle.reader.specs.declared.Policy.{Policy as PolicyRead}
use Rattle.reader.specs.Told.{ReadPolicy}
use Rattle.reader.proofs.FileRead.{elements_are, few, good, naming}
use Rattle.elements.specs.declared.Elements.{Elements}
use Rattle.elements.specs.Listed.{blank, no_elements, with_element, elements_of}
use Rattle.elements.proofs.Listing.{one_more}
use Rattle.lists.specs.Listed.{Filled, Listed}

-- the first i of them
pub record Upto (f : Bytes) (table : List Row) (places : List ElementPlaces) (all : Elements) (i : ℕ) : Type 0 where
  pub room : length all.all ≡ 65
  pub count : all.len ≡ i
  pub listed : elements_of all ≡ reverse (elements_to f table places i)

module _ (f : Bytes) (table : List Row) (places : List ElementPlaces) where
  pub none_yet : (none : Elements) → none ≡ no_elements → Upto f table places none 0
  unfolding elements_to
  none_yet none is = record { room = ap (λ l. length l.all) is ∙ length-replicate 65 blank; count = ap (λ l. l.len) is; listed = ap elements_of is }

  pub one_listed : (all : Elements) (i : ℕ) → Upto f table places all i → i < 65 → (e : Element) → e ≡ element_in f table places i → (next : Elements) → next ≡ with_element all e → Upto f table places next (i + 1)
  unfolding elements_to
  one_listed all i upto few e e-is next is =
      record {
        room = ap (λ l. length l.all) is ∙ length-set all.all all.len e ∙ upto.room;
        count = ap (λ l. l.len) is ∙ ap (λ n. n + 1) upto.count;
        listed = ap elements_of is
            ∙ one_more all e (omega (arith, upto.room, upto.count))
            ∙ ap₂ (λ (es : List Element) (x : Element). es ++ (x ∷ [])) upto.listed e-is
            ∙ sym (reverse-cons (element_in f table places i) (elements_to f table places i))
            ∙ ap (λ n. reverse (elements_to f table places n)) (sym (add-one i));
      }

-- a file that is refused
pub refusal_listed : (f : Bytes) (room : ℕ) (r : Refused) → read f ≡ refused (number_of r.why) r.second → Listed f room (Err r)
unfolding list_file
refusal_listed f room r e = rw e

module _ (f : List ℕ) (table : List Row) (places : List ElementPlaces) (r : PolicyRead) (p : Policy) (h : read f ≡ given p) (holds : ReadPolicy f table places r p) where
  -- of a short list
  pub short_listed : (room : ℕ) → room < r.elements → Listed f room (Err (record { why = ShortList; second = r.elements }))
  unfolding list_file
  short_listed room short = rw (h, elements_are f table places r p h holds, lt-ltb room r.elements short)

  pub filled : Filled f table places r.elements
  unfolding element_in element_at
  filled = record { rows = omega (arith, holds.rooms.rows, few f table places r p h holds); naming = naming f table places r p h holds; obliged = holds.obliged; shallow = λ i l. (good f table places r p h holds i l).shallow }

  given_all : (room : ℕ) → r.elements ≤ room → list_file room f ≡ given (reverse (elements_to f table places r.elements))
  unfolding list_file
  given_all room enough = rw (h, elements_are f table places r p h holds, le-ltb room r.elements enough, holds.elements)

  -- the elements, where there is room
  pub whole_listed : (room : ℕ) → r.elements ≤ room → (es : Elements) → elements_of es ≡ reverse (elements_to f table places r.elements) → es.len ≡ r.elements → Listed f room (Ok es)
  whole_listed room enough es all count = (given_all room enough ∙ ap given (sym all), count ∙ sym size, omega (arith, count, few f table places r p h holds))
    where
      size : length (elements_of es) ≡ r.elements
      size = ap length all ∙ length-reverse (elements_to f table places r.elements) ∙ elements_length f table places r.elements

-- What is listed for a lent list fits in, and stands at its start afterwards
given_fits : (f : Bytes) (room : ℕ) (es : List Element) → list_file room f ≡ given es → length es ≤ room
unfolding list_file
given_fits f room es e = go (read f) e
  where
    one : (xs : List Element) → Test (ltb room (length xs)) → cond (ltb room (length xs)) (refused 12 (length xs)) (given xs) ≡ given es → length es ≤ room
    one xs (passed t) e = absurd (refused-given (rw t at e))
    one xs (failed t) e = omega (arith, ltb-false room (length xs) t, ap length (given_given (rw t at e)))

    go : (x : Result Policy) → (x then λ p. cond (ltb room (length p.elements)) (refused 12 (length p.elements)) (given p.elements)) ≡ given es → length es ≤ room
    go (refused n m) e = absurd (refused-given e)
    go (given p) e = one p.elements (test (ltb room (length p.elements))) e

module _ (f : Bytes) (ys : List Element) (es : Elements) (listed : Listed f (length ys) (Ok es)) where
  pub listed_fits : length (elements_of es) ≤ length ys
  listed_fits = given_fits f (length ys) (elements_of es) listed.0

  pub listed_told : (record { number = 0; second = es.len } ≡ read_answer f ys) × (elements_of es ++ drop (length (elements_of es)) ys ≡ read_lent f ys)
  listed_told = (ap (λ n. record { number = 0; second = n }) listed.1 ∙ ap (answered length) (sym listed.0), ap (lent ys) (sym listed.0))

-- and of a refusal nothing
pub refusal_told : (f : Bytes) (ys : List Element) (r : Refused) → Listed f (length ys) (Err r) → {a : Answer} → a ≡ answer_of r → (a ≡ read_answer f ys) × (ys ≡ read_lent f ys)
refusal_told f ys r e is = (is ∙ sym (ap (answered length) e), sym (ap (lent ys) e))
