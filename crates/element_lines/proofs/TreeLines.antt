-- A tree line: its refusals, and the element that it adds.
use mathlib.Core.Path.{◌≡◌, refl, sym, ap, ◌∙◌, subst, subst⁻¹}
use Prim.Native.Nat.{ℕ, suc, ◌+◌, ◌≤◌, ◌<◌, zero-le, suc-le-suc}
use native.Mathlib.Numerals.{add-one}
use native.Mathlib.Omega.{arith}
use mathlib.Core.Bool.{false, not, cond, false≢true}
use mathlib.Core.List.{List, [], ◌∷◌, ◌++◌}
use mathlib.Core.Option.{Option, none, some}
use lib.Dec.{lit≤}
use lib.ListN.{length, drop, get_or}
use borrow.Author.Tests.{leb-false, not-false}
use Rattle.meaning.specs.declared.Kind.{Kind}
use Rattle.meaning.specs.declared.Kind.TheVariants.{Set, Policy, Rule}
use Rattle.meaning.specs.declared.Word.{Word}
use Rattle.meaning.specs.declared.Element.{Element}
use Rattle.meaning.specs.Text.{Bytes, empty, is_none, cut, tab}
use Rattle.meaning.specs.Model.{padded, unused, kind_text}
use Rattle.meaning.specs.Reading.{depth_of, word_of, or_permit, masks_of, Sofar, well_placed, Tests, lowest, bad_masks, line_tests}
use Rattle.laws.proofs.Bools.{Test, passed, failed, test, or_false}
use Rattle.laws.proofs.Reading.{Passes, Numbered, lowest_zero}
use Rattle.laws.proofs.Bounds.{placed_depth}
use Rattle.table.specs.declared.Row.{Row}
use Rattle.table.specs.Rows.{word_at, number_of_word, row_of, with_row}
use Rattle.table.proofs.Rows.{row_length}
use Rattle.layout.specs.declared.ElementPlaces.{ElementPlaces}
use Rattle.layout.specs.Places.{part, with_name, kind_at, elements_to, Clear, line_start, lines_to}
use Rattle.layout.specs.Nearest.{Stands, grown}
use Rattle.layout.proofs.Placing.{stands_more}
use Rattle.layout.proofs.Laws.{elements_more, more_length, named_more, lined_more, clear_more, obliged_more}
use Rattle.attribute_lines.specs.declared.State.{State}
use Rattle.attribute_lines.specs.Sofar.{refusal_of, TreeLine}
use Rattle.element_lines.specs.Elements.{element_from, earlier_tests, Fits}
use Rattle.attribute_lines.specs.Steps.{Rooms, BeforeLine, EndedLine, read_sofar, Next}
use Rattle.attribute_lines.proofs.TreeShape.{right_fields, by_tests}
use Rattle.attribute_lines.proofs.Parts.{first_byte, field_at_lem, next_start}

-- the state behind a tree line of these fields
abbrev pub behind_tree : State → ℕ → Kind → List Bytes → State
behind_tree st end k fs =
    record { at = end + 1; line = st.line + 1; attributes = st.attributes; space = st.space; tree = grown st.tree k (depth_of (get_or fs 1 [])) }

-- The first of two lists of tests that refuses
lowest_first : (ts more : Tests) → (lowest ts ≡ 0 → ⊥) → lowest (ts ++ more) ≡ lowest ts
lowest_first [] more h = absurd (h refl)
lowest_first (t ∷ ts) more h = go (test t.1) (lowest_first ts more)
  where
    go : Test t.1 → ((lowest ts ≡ 0 → ⊥) → lowest (ts ++ more) ≡ lowest ts) → lowest (t ∷ ts ++ more) ≡ lowest (t ∷ ts)
    go (passed e) later = rw e
    go (failed e) later = rw e (later (λ z. h (rw e z)))

lowest_later : (ts more : Tests) → Passes ts → lowest (ts ++ more) ≡ lowest more
lowest_later [] more p = refl
lowest_later (t ∷ ts) more p = rw p.0 (lowest_later ts more p.1)

pub earlier_numbered : (s : Sofar) (w : Bytes) (e : Element) → Numbered (earlier_tests s w e)
earlier_numbered s w e = (lit≤ tt, (lit≤ tt, (lit≤ tt, (lit≤ tt, (lit≤ tt, tt)))))

-- What refuses a tree line behind s
module _ (s : Sofar) (fs : List Bytes) (k : Kind) (n : ℕ) (line : TreeLine fs k n) where
  abbrev pub el : Element
  el = element_from s.attributes k fs

  abbrev pub earlier : Tests
  earlier = earlier_tests s (get_or fs 3 []) el

  module _ (count : n ≡ 4 + length s.attributes) where
    by_elements : refusal_of s fs ≡ lowest (earlier ++ ((8, bad_masks s.attributes el.masks) ∷ []))
    by_elements = by_tests s fs k n line count line_tests

    pub earlier_refused : (lowest earlier ≡ 0 → ⊥) → refusal_of s fs ≡ lowest earlier
    earlier_refused h = by_elements ∙ lowest_first earlier ((8, bad_masks s.attributes el.masks) ∷ []) h

    pub earlier_passed : lowest earlier ≡ 0 → refusal_of s fs ≡ cond (bad_masks s.attributes el.masks) 8 0
    earlier_passed z = by_elements ∙ lowest_later earlier ((8, bad_masks s.attributes el.masks) ∷ []) (lowest_zero earlier (earlier_numbered s (get_or fs 3 []) el) z)

    -- what the tests that passed say of the element
    pub placed_shallow : lowest earlier ≡ 0 → (length s.before < 64) × (depth_of (get_or fs 1 []) ≤ 7) × (is_none (word_of k (get_or fs 3 [])) ≡ false)
    placed_shallow z =
        let (f3, (f4, (f5, (f6, (f7, f))))) = lowest_zero earlier (earlier_numbered s (get_or fs 3 []) el) z in
        let placed = (or_false (empty s.attributes) (not (well_placed k (depth_of (get_or fs 1 [])) s.before)) f6).1 in
        (leb-false 64 (length s.before) f5, placed_depth k (depth_of (get_or fs 1 [])) s.before (not-false (well_placed k (depth_of (get_or fs 1 [])) s.before) placed), f7)

-- equal places, laid
pub same_end : (places : List ElementPlaces) (i at : ℕ) {name name' : Bytes} → name ≡ name' → with_name places i at (at + 4 + length name) ≡ with_name places i at (at + 4 + length name')
same_end places i at e = ap (λ n. with_name places i at (at + 4 + length n)) e

-- Where the name of a tree line stands: behind a letter, a tab, a digit and a tab
digit_length : (d : Bytes) → depth_of d ≤ 7 → length d ≡ 1
digit_length [] l = absurd (omega arith)
digit_length (x ∷ []) l = refl
digit_length (x ∷ y ∷ ys) l = absurd (omega arith)

kind_length : (k : Kind) → length (kind_text k) ≡ 1
kind_length Set = refl
kind_length Policy = refl
kind_length Rule = refl

kind_letter : (k : Kind) → kind_at (get_or (kind_text k) 0 0) ≡ k
kind_letter Set = refl
kind_letter Policy = refl
kind_letter Rule = refl

pub record NameAt (f : Bytes) (at end : ℕ) (k : Kind) (name : Bytes) : Type 0 where
  pub letter : kind_at (get_or f at 0) ≡ k
  pub here : part f (at + 4) (at + 4 + length name) ≡ name
  pub within : at + 4 + length name < end

pub name_at_lem : (f : Bytes) (at end : ℕ) (k : Kind) (d name w : Bytes) (ts : List Bytes) → end ≤ length f → cut tab (part f at end) ≡ kind_text k ∷ d ∷ name ∷ w ∷ ts → depth_of d ≤ 7 → NameAt f at end k name
name_at_lem f at end k d name w ts inside e l =
    let first = field_at_lem f at end (kind_text k) (d ∷ name ∷ w ∷ ts) inside (suc-le-suc zero-le) e in
    let one : at + length (kind_text k) + 1 ≡ at + 2 = omega (arith, kind_length k) in
    let second = field_at_lem f (at + 2) end d (name ∷ w ∷ ts) inside (suc-le-suc zero-le) (subst (λ m. cut tab (part f m end) ≡ d ∷ name ∷ w ∷ ts) one first.behind) in
    let two : at + 2 + length d + 1 ≡ at + 4 = omega (arith, digit_length d l) in
    let third = field_at_lem f (at + 4) end name (w ∷ ts) inside (suc-le-suc zero-le) (subst (λ m. cut tab (part f m end) ≡ name ∷ w ∷ ts) two second.behind) in
    record {
      letter = ap kind_at (sym (first_byte f at (at + length (kind_text k)) (omega (arith, kind_length k))) ∙ ap (λ x. get_or x 0 0) first.here) ∙ kind_letter k;
      here = third.here;
      within = third.within;
    }

-- the word again from its number
word_number_lem : (o : Option Word) → is_none o ≡ false → word_at (number_of_word o) ≡ or_permit o
word_number_lem none h = absurd (false≢true (sym h))
word_number_lem (some Word.Permit) h = refl
word_number_lem (some Word.Deny) h = refl
word_number_lem (some Word.DenyOverrides) h = refl
word_number_lem (some Word.PermitOverrides) h = refl
word_number_lem (some Word.FirstApplicable) h = refl
word_number_lem (some Word.OnlyOneApplicable) h = refl

-- The element of a tree line is that of the row and the places that are laid for it
module _ (f : List ℕ) (table : List Row) (places : List ElementPlaces) (st : State) (end : ℕ) (k : Kind) (n : ℕ) (ready : BeforeLine f table places st) (at : EndedLine f st end) where
  abbrev fs : List Bytes
  fs = cut tab (part f st.at end)

  abbrev s : Sofar
  s = read_sofar f table places st

  abbrev size : ℕ
  size = st.tree.len

  abbrev name_end : ℕ
  name_end = st.at + 4 + length (get_or fs 2 [])

  abbrev masks : List ℕ
  masks = padded 6 (masks_of s.attributes (drop 4 fs))

  abbrev row : Row
  row = row_of (word_of k (get_or fs 3 [])) (depth_of (get_or fs 1 [])) masks

  abbrev table' : List Row
  table' = with_row table size row

  abbrev places' : List ElementPlaces
  places' = with_name places size st.at name_end

  module _ (line : TreeLine fs k n) (count : n ≡ 4 + length s.attributes) (passed-earlier : lowest (earlier s fs k n line) ≡ 0) where
    known : (length s.before < 64) × (depth_of (get_or fs 1 []) ≤ 7) × (is_none (word_of k (get_or fs 3 [])) ≡ false)
    known = placed_shallow s fs k n line count passed-earlier

    few : size < 64
    few = omega (arith, ready.tree.count, known.0)

    named : NameAt f st.at end k (get_or fs 2 [])
    named = name_at_lem f st.at end k (get_or fs 1 []) (get_or fs 2 []) (get_or fs 3 []) (drop 4 fs) (omega (arith, at.ends)) (right_fields s fs k n line count).are known.1

    -- there is room for it
    pub room : end < 18446744073709551615 → Fits table places st fs
    room l = record {
      row = omega (arith, ready.rooms.rows, few);
      pair = omega (arith, ready.rooms.pairs, few);
      few = few;
      shallow = known.1;
      name_inside = omega (arith, named.within);
    }

    pair_room : size < length places
    pair_room = omega (arith, ready.rooms.pairs, few)

    added : elements_to f table' places' (suc size) ≡ el s fs k n line ∷ s.before
    added =
        elements_more f table places size st.at name_end row (omega (arith, ready.rooms.rows, few)) pair_room ready.clear
        ∙ ap (λ x. x ∷ s.before) (λ i. record {
          kind = named.letter i;
          depth = depth_of (get_or fs 1 []);
          name = padded 16 (named.here i);
          len = length (named.here i);
          word = word_number_lem (word_of k (get_or fs 3 [])) known.2 i;
          masks = masks;
          obligations = 0;
          first = unused;
          second = unused;
        })

    more : elements_to f table' places' (size + 1) ≡ el s fs k n line ∷ s.before
    more = ap (elements_to f table' places') (add-one size) ∙ added

    -- the state behind the line
    pub tree_next : Next f table places table' places' st end (behind_tree st end k fs)
    tree_next =
        record {
          ready = record {
            in_file = record {
              inside = omega (arith, at.ends);
              lines_passed = omega (arith, ready.in_file.lines_passed, at.starts);
              attributes = ready.in_file.attributes;
              space_is = ready.in_file.space_is;
              shallow = known.1;
              few = omega (arith, few);
            };
            rooms = subst⁻¹ (Rooms f table' places') (add-one size) (record {
              rows = omega (arith, row_length table size row, ready.rooms.rows);
              pairs = omega (arith, more_length f places size st.at name_end pair_room, ready.rooms.pairs);
              named = named_more f places size st.at name_end pair_room (omega arith) (omega (arith, named.within, at.ends)) ready.rooms.named;
            });
            tree = subst⁻¹ (Stands (behind_tree st end k fs).tree) more (stands_more st.tree k (depth_of (get_or fs 1 [])) (el s fs k n line) s.before ready.tree refl refl known.1 refl);
            lined = rw (add-one size) (lined_more f places size st.at name_end pair_room (line_start f) st.attributes.len (end + 1) ready.clear ready.lined (next_start (st.attributes.len + lines_to places size) at ready.lined.next));
            places_are = ready.places_are;
            clear = subst⁻¹ (Clear places') (add-one size) (clear_more f places size st.at name_end pair_room ready.clear);
            obliged = λ i l. obliged_more f places size st.at name_end pair_room ready.clear ready.obliged i (omega arith);
          };
          at_next = refl;
          line_next = refl;
          laid = (λ i. record { sofar = record { attributes = s.attributes; before = more i }; table = table'; places = places' })
              ∙ sym (rw ((right_fields s fs k n line count).is_tree, ← ready.tree.count));
        }
