-- Laws for the reader: one element more, the names of the elements, the attributes one by one, the empty tree.
use Prim.Native.Nat.{ℕ, zero, suc, ◌+◌, ◌-◌, ◌≤◌, ◌<◌}
use mathlib.Core.Path.{◌≡◌, refl, sym, ap, ◌∙◌}
use mathlib.Core.Logic.{◌≢◌, ⊎_elim}
use mathlib.Core.Bool.{Bool}
use mathlib.Core.List.{List, [], ◌∷◌, ◌++◌, map, reverse, reverse-cons, map-append}
use native.Mathlib.Nat.{eq-or-lt_of_le}
use native.Mathlib.Omega.{arith}
use lib.ListN.{length, get_or, length-set, replicate, get_or-replicate}
use lib.Seq.{get_or-set_same, get_or-set_other, take-append_seam}
use lib.Dec.{eqb}
use borrow.Author.Tests.{eq-eqb, eqb-true, eqb-false}
use Rattle.laws.proofs.Bools.{Test, passed, failed, test}
use Rattle.meaning.specs.Text.{Bytes}
use Rattle.meaning.specs.Model.{padded, name_of, unused, Policy, severals}
use Rattle.meaning.specs.Deciding.{matches, child_replies, first_decision, decide}
use Rattle.meaning.specs.Claims.Texts.{All}
use Rattle.laws.proofs.Types.{rule, Element}
use Rattle.table.specs.declared.Row.{Row}
use Rattle.table.specs.Rows.{word_at, element_at, Rows, with_row}
use Rattle.table.specs.Tree.{left, before}
use Rattle.table.proofs.Rows.{row_here, row_other}
use Rattle.layout.specs.declared.Attributes.{Attributes}
use Rattle.layout.specs.declared.ElementPlaces.{ElementPlaces}
use Rattle.layout.specs.Places.{part, attribute_at, attributes_from, attributes_of, kind_at, no_places, places_at, start_of, name_end, name_in, obligation_place, with_name, obligation_count, element_in, elements_to, names_to, Named, Obliged, Clear, lines_to, Lined}
use Rattle.layout.proofs.Slots.{SameSlots, count_alike, obligations_alike, lines_alike, obliged_alike, none_in, none_obliged}
use Rattle.std.specs.Prelude.{None}
use Rattle.layout.specs.Nearest.{nearest, Stands}

-- The element of a row, of its line's start and its name's end
abbrev pub element_of : Bytes → (start end : ℕ) → Row → Element
element_of f start end row =
    record {
      kind = kind_at (get_or f start 0);
      depth = row.depth;
      name = padded 16 (part f (start + 4) end);
      len = length (part f (start + 4) end);
      word = word_at row.word;
      masks = row.masks;
      obligations = 0;
      first = unused;
      second = unused;
    }

-- One name more that lies in the file, and one line more
module _ (f : Bytes) (places : List ElementPlaces) (n start end : ℕ) (room : n < length places) where
  abbrev here : ElementPlaces
  here = let p = places_at places n in record { start = start; name_end = end; first = p.first; second = p.second }

  abbrev more : List ElementPlaces
  more = with_name places n start end

  new : places_at more n ≡ here
  new = get_or-set_same places n here no_places room

  start_new : start_of more n ≡ start
  start_new = ap (λ p. p.start) new

  end_new : name_end more n ≡ end
  end_new = ap (λ p. p.name_end) new

  old : (i : ℕ) → i ≢ n → places_at more i ≡ places_at places i
  old i other = get_or-set_other places n i here no_places other

  start_old : (i : ℕ) → i < n → start_of more i ≡ start_of places i
  start_old i l = ap (λ p. p.start) (old i (λ e. omega arith))

  end_old : (i : ℕ) → i < n → name_end more i ≡ name_end places i
  end_old i l = ap (λ p. p.name_end) (old i (λ e. omega arith))

  pub more_length : length more ≡ length places
  more_length = length-set places n here

  last : (i : ℕ) → i < suc n → i ≤ n
  last i l = omega arith

  pub named_more : start + 4 ≤ end → end ≤ length f → Named f places n → Named f more (suc n)
  named_more name inside named =
      record {
        room = omega (arith, more_length);
        starts = λ i l. ⊎_elim (λ (e : i ≡ n). rw (e, start_new, end_new) name) (λ (below : i < n). rw (start_old i below, end_old i below) (named.starts i below)) (eq-or-lt_of_le (last i l));
        ends = λ i l. ⊎_elim (λ (e : i ≡ n). rw (e, end_new) inside) (λ (below : i < n). rw (end_old i below) (named.ends i below)) (eq-or-lt_of_le (last i l));
      }

  -- the places of obligations stay, so the new element has none
  stays : (i k : ℕ) → obligation_place (places_at more i) k ≡ obligation_place (places_at places i) k
  stays i k = go (test (eqb i n)) k
    where
      go : Test (eqb i n) → (k : ℕ) → obligation_place (places_at more i) k ≡ obligation_place (places_at places i) k
      go (passed e) zero = rw (eqb-true i n e, new)
      go (passed e) (suc k) = rw (eqb-true i n e, new)
      go (failed e) k = ap (λ p. obligation_place p k) (old i (eqb-false i n e))

  pub same_slots : (i : ℕ) → SameSlots places more i
  same_slots i k l = (ap (λ s. s.start) (stays i k), ap (λ s. s.end) (stays i k))

  same_lines : (k : ℕ) → lines_to more k ≡ lines_to places k
  same_lines k = lines_alike places more k (λ i l. same_slots i)

  pub lined_more : (lines : ℕ → ℕ) (a at : ℕ) → Clear places n → Lined lines places a n start → at ≡ lines (suc (a + lines_to places n)) → Lined lines more a (suc n) at
  unfolding lines_to
  lined_more lines a at clear lined behind =
      let none : obligation_count more n ≡ 0 = count_alike places more n (same_slots n) ∙ (none_in f places n (clear n 0 (omega arith) (omega arith)).1).1 in
      record {
        next = behind ∙ ap lines (omega (arith, none, same_lines n));
        starts = λ i l. ⊎_elim (λ (e : i ≡ n). rw (e, start_new, same_lines n) lined.next) (λ (below : i < n). start_old i below ∙ lined.starts i below ∙ ap (λ x. lines (a + x)) (sym (same_lines i))) (eq-or-lt_of_le (last i l));
      }

  pub clear_more : Clear places n → Clear more (suc n)
  clear_more clear i k from l = let same = same_slots i k l in (same.0 ∙ (clear i k (omega arith) l).0, same.1 ∙ (clear i k (omega arith) l).1)

  pub obliged_more : Clear places n → ((i : ℕ) → i < n → Obliged f places i) → (i : ℕ) → i < suc n → Obliged f more i
  obliged_more clear each i l =
      ⊎_elim
      (λ (e : i ≡ n). rw e (none_obliged f more n (omega (arith, more_length)) (λ k m. let same = same_slots n k m in (same.0 ∙ (clear n k (omega arith) m).0, same.1 ∙ (clear n k (omega arith) m).1))))
      (λ (below : i < n). obliged_alike places more f i more_length (same_slots i) (each i below))
      (eq-or-lt_of_le (last i l))

-- One element more, put where there is room
module _ (f : Bytes) (table : List Row) (places : List ElementPlaces) (n start end : ℕ) (row : Row) (rows : Rows table (n + 1)) (room : n < length places) (clear : Clear places n) where
  abbrev new_table : List Row
  new_table = with_row table n row

  abbrev new_places : List ElementPlaces
  new_places = with_name places n start end

  element_new : element_in f new_table new_places n ≡ element_of f start end row
  unfolding element_in
  element_new =
      let none = obligations_alike places new_places f n (same_slots f places n start end room n) ∙ (none_in f places n (clear n 0 (omega arith) (omega arith)).1).0 in
      rw (none, start_new f places n start end room, end_new f places n start end room, row_here table n row rows)

  element_old : (i : ℕ) → i < n → element_in f new_table new_places i ≡ element_in f table places i
  unfolding element_in
  element_old i l = rw (obligations_alike places new_places f i (same_slots f places n start end room i), start_old f places n start end room i l, end_old f places n start end room i l, row_other table n row i l)

  elements_old : (k : ℕ) → k ≤ n → elements_to f new_table new_places k ≡ elements_to f table places k
  unfolding elements_to
  elements_old zero l = refl
  elements_old (suc k) l = rw (element_old k (omega arith), elements_old k (omega arith))

  pub elements_more : elements_to f new_table new_places (suc n) ≡ element_of f start end row ∷ elements_to f table places n
  unfolding elements_to
  elements_more = rw (element_new, elements_old n (omega arith))

-- The elements: how many there are, and what holds of all holds of each
module _ (f : Bytes) (table : List Row) (places : List ElementPlaces) where
  pub elements_length : (n : ℕ) → length (elements_to f table places n) ≡ n
  unfolding elements_to
  elements_length zero = refl
  elements_length (suc n) = ap suc (elements_length n)

  pub of_each : (P : Element → Type 0) (n : ℕ) → All P (elements_to f table places n) → (i : ℕ) → i < n → P (element_in f table places i)
  unfolding elements_to
  of_each P zero all i l = absurd (omega arith)
  of_each P (suc n) all i l = ⊎_elim (λ (e : i ≡ n). rw e all.0) (λ (below : i < n). of_each P n all.1 i below) (eq-or-lt_of_le (last i l))
    where
      last : (i : ℕ) → i < suc n → i ≤ n
      last i l = omega arith

-- The names of the elements
pub element_names : (f : Bytes) (table : List Row) (places : List ElementPlaces) (n : ℕ) → map name_of (elements_to f table places n) ≡ names_to f places n
unfolding elements_to element_in names_to
element_names f table places zero = refl
element_names f table places (suc n) = rw (take-append_seam (name_in f places n) (replicate (16 - length (name_in f places n)) 0), element_names f table places n)

-- The attributes from place i on, and how many there are
pub attributes_walk : (f : Bytes) (a : Attributes) (n i : ℕ) → i < n → attributes_from f a i (n - i) ≡ attribute_at f a i ∷ attributes_from f a (i + 1) (n - (i + 1))
unfolding attributes_from
attributes_walk f a n i l = let more : n - i ≡ suc (n - (i + 1)) = omega arith in rw more

pub attributes_from_length : (f : Bytes) (a : Attributes) (i n : ℕ) → length (attributes_from f a i n) ≡ n
unfolding attributes_from
attributes_from_length f a i zero = refl
attributes_from_length f a i (suc n) = ap suc (attributes_from_length f a (i + 1) n)

pub attributes_length : (f : Bytes) (a : Attributes) → length (attributes_of f a) ≡ a.len
attributes_length f a = attributes_from_length f a 0 a.len

-- The empty tree
pub empty_stands : Stands (record { len = 0; depth = 0; kinds = replicate 8 None }) []
unfolding nearest
empty_stands = record { room = refl; count = refl; last = refl; kinds = λ d l. get_or-replicate 8 d None None l }

-- A decision looks at neither kinds nor names nor obligations: at elements as a table has them it is the same
abbrev pub bare : Element → Element
bare e = record { kind = rule; depth = e.depth; name = replicate 16 0; len = 0; word = e.word; masks = e.masks; obligations = 0; first = unused; second = unused }

module _ (bs : List Bool) (q : List ℕ) where
  pub replies_bare : (d : ℕ) (es : List Element) → child_replies (matches bs q) d (map bare es) ≡ child_replies (matches bs q) d es
  replies_bare d [] = refl
  replies_bare d (e ∷ es) = rw (replies_bare d es, replies_bare (suc d) es)

  pub decision_bare : (es : List Element) → first_decision (matches bs q) (map bare es) ≡ first_decision (matches bs q) es
  decision_bare [] = refl
  decision_bare (e ∷ es) = rw (replies_bare (suc e.depth) es)

pub map_reverse : {A B : Type 0} (f : A → B) (xs : List A) → map f (reverse xs) ≡ reverse (map f xs)
map_reverse f [] = refl
map_reverse f (x ∷ xs) = rw (reverse-cons x xs, reverse-cons (f x) (map f xs), map-append f (reverse xs) (x ∷ []), map_reverse f xs)

pub elements_bare : (f : Bytes) (table : List Row) (places : List ElementPlaces) (n : ℕ) → map bare (elements_to f table places n) ≡ before table n
unfolding elements_to element_in before element_at
elements_bare f table places zero = refl
elements_bare f table places (suc n) = rw (elements_bare f table places n)

-- where no element is struck, all are left
module _ (table : List Row) (struck : List ℕ) where
  left_more : (i n : ℕ) → ((k : ℕ) → k < i + suc n → get_or struck k 0 ≡ 0) → left table struck i (suc n) ≡ left table struck i n ++ (element_at table (i + n) ∷ [])
  unfolding left
  left_more i zero live = let here : i + 0 ≡ i = omega arith in rw (eq-eqb (get_or struck i 0) 0 (live i (omega arith)), here)
  left_more i (suc n) live =
      let next : (i + 1) + n ≡ i + suc n = omega arith in
      let here = eq-eqb (get_or struck i 0) 0 (live i (omega arith)) in
      rw (here, left_more (i + 1) n (λ k l. live k (omega arith)), next)

  pub all_left : (n : ℕ) → ((k : ℕ) → k < n → get_or struck k 0 ≡ 0) → left table struck 0 n ≡ reverse (before table n)
  unfolding before left
  all_left zero live = refl
  all_left (suc n) live =
      let here : 0 + n ≡ n = omega arith in
      left_more 0 n (λ k l. live k (omega arith)) ∙ rw (here, all_left n (λ k l. live k (omega arith)), reverse-cons)

-- The decision on the table is that of the policy of its elements
pub decided : (f : Bytes) (table : List Row) (places : List ElementPlaces) (struck : List ℕ) (n : ℕ) (p : Policy) (q : List ℕ) → p.elements ≡ reverse (elements_to f table places n) → ((k : ℕ) → k < n → get_or struck k 0 ≡ 0)
    → first_decision (matches (severals p.attributes) q) (left table struck 0 n) ≡ (decide p q).decision
decided f table places struck n p q is live =
    ap (first_decision (matches (severals p.attributes) q)) (all_left table struck n live ∙ ap reverse (sym (elements_bare f table places n)) ∙ sym (map_reverse bare (elements_to f table places n)))
    ∙ decision_bare (severals p.attributes) q (reverse (elements_to f table places n))
    ∙ ap (first_decision (matches (severals p.attributes) q)) (sym is)
