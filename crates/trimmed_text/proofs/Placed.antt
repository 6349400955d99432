-- The text left, by the places where the lines start.
use mathlib.Core.Path.{◌≡◌, refl, sym, ap, ap₂, ◌∙◌, subst}
use Prim.Native.Nat.{ℕ, zero, suc, ◌+◌, ◌-◌, ◌≤◌, ◌<◌}
use native.Mathlib.Nat.{add-zero, zero-add, sub-zero, eq-or-lt_of_le}
use native.Mathlib.Numerals.{add-one}
use native.Mathlib.Omega.{arith}
use mathlib.Core.Logic.{⊎_elim}
use mathlib.Core.Bool.{Bool, true, false, cond}
use mathlib.Core.List.{List, [], ◌∷◌, ◌++◌, map, reverse, append_assoc}
use lib.ListN.{length, get_or, take, drop, take-append-drop, length-append}
use lib.Seq.{take-suc, drop-cons, take-append_seam, drop-append_seam, take-add, drop-drop}
use borrow.Author.Tests.{lt-ltb, le-ltb}
use Rattle.meaning.specs.Text.{Bytes, cut, front, gathered, counting, newline}
use Rattle.meaning.specs.Model.{Policy, given}
use Rattle.meaning.specs.Reading.{read}
use Rattle.meaning.specs.Trimming.{lines}
use Rattle.laws.proofs.Types.{Element}
use Rattle.laws.proofs.Text.{Free, Frees, cut_append, cut_frees}
use Rattle.laws.proofs.Reading.{accepted}
use Rattle.laws.proofs.Lines.{unlines, unlines_append, text_unlines}
use Rattle.laws.proofs.Places.{lines_in}
use Rattle.laws.proofs.ElementLines.{file_count}
use Rattle.table.specs.declared.Row.{Row}
use Rattle.layout.specs.declared.ElementPlaces.{ElementPlaces}
use Rattle.layout.specs.Places.{part, start_of, obligation_count, elements_to, line_start, lines_to, Lined}
use Rattle.layout.proofs.Slots.{count_is, obligations_of_lem}
use Rattle.trimmed_text.specs.Flags.{is_left, left_from, line_count, lines_by_element, text_left}
use Rattle.trimmed_text.specs.Copied.{lines_end, piece_at, copied, Copies}
use Rattle.trimmed_text.proofs.Table.{element_at_lem}

free_at : (ls : List Bytes) (k : ℕ) → Frees newline ls → Free newline (get_or ls k [])
free_at [] k free = tt
free_at (l ∷ ls) zero free = free.0
free_at (l ∷ ls) (suc k) free = free_at ls k free.1

free_before : (ls ms : List Bytes) → Frees newline (ls ++ ms) → Frees newline ls
free_before [] ms free = tt
free_before (l ∷ ls) ms free = (free.0, free_before ls ms free.1)

-- A text of lines, each with its newline: what stands before and behind the start of line k
module _ (f : Bytes) (ls : List Bytes) (free : Frees newline ls) (text : f ≡ unlines ls) where
  split : (k : ℕ) → f ≡ unlines (take k ls) ++ unlines (drop k ls)
  split k = text ∙ ap unlines (sym (take-append-drop k ls)) ∙ unlines_append (take k ls) (drop k ls)

  behind : (k : ℕ) → drop (length (unlines (take k ls))) f ≡ unlines (drop k ls)
  behind k = ap (drop (length (unlines (take k ls)))) (split k) ∙ drop-append_seam (unlines (take k ls)) (unlines (drop k ls))

  one_line : (k : ℕ) → k < length ls → unlines (drop k ls) ≡ (get_or ls k [] ++ (newline ∷ [])) ++ unlines (drop (suc k) ls)
  one_line k l = ap unlines (drop-cons ls k [] l)

  one_more : (k : ℕ) → k < length ls → length (unlines (take (suc k) ls)) ≡ length (unlines (take k ls)) + (length (get_or ls k []) + 1)
  one_more k l =
      let x = get_or ls k [] in
      ap (λ ms. length (unlines ms)) (take-suc ls k [] l)
      ∙ ap length (unlines_append (take k ls) (x ∷ []))
      ∙ length-append (unlines (take k ls)) ((x ++ (newline ∷ [])) ++ [])
      ∙ ap (λ n. length (unlines (take k ls)) + n) (length-append (x ++ (newline ∷ [])) [] ∙ add-zero (length (x ++ (newline ∷ []))) ∙ length-append x (newline ∷ []))

  start_is : (k : ℕ) → k ≤ length ls → line_start f k ≡ length (unlines (take k ls))
  unfolding line_start
  start_is zero l = refl
  start_is (suc k) l =
      let here = start_is k (omega arith) in
      let x = get_or ls k [] in
      let first : get_or (cut newline (drop (line_start f k) f)) 0 [] ≡ x =
      ap (λ n. get_or (cut newline (drop n f)) 0 []) here
      ∙ ap (λ t. get_or (cut newline t) 0 []) (behind k ∙ one_line k l ∙ append_assoc x (newline ∷ []) (unlines (drop (suc k) ls)))
      ∙ ap (λ ps. get_or ps 0 []) (cut_append newline x (unlines (drop (suc k) ls)) (free_at ls k free)) in
      omega (arith, here, ap length first, one_more k l)

  -- the lines before it, and some from it on
  before_start : (k : ℕ) → k ≤ length ls → part f 0 (line_start f k) ≡ unlines (take k ls)
  before_start k l =
      ap (λ n. take n f) (sub-zero (line_start f k) ∙ start_is k l)
      ∙ ap (take (length (unlines (take k ls)))) (split k)
      ∙ take-append_seam (unlines (take k ls)) (unlines (drop k ls))

  lines_part : (k m : ℕ) → k + m ≤ length ls → part f (line_start f k) (line_start f (k + m)) ≡ unlines (take m (drop k ls))
  lines_part k m l =
      let x = unlines (take m (drop k ls)) in
      let before = unlines (take k ls) in
      let both : length (unlines (take (k + m) ls)) ≡ length before + length x =
      ap (λ ms. length (unlines ms)) (take-add k m ls) ∙ ap length (unlines_append (take k ls) (take m (drop k ls))) ∙ length-append before x in
      let start = start_is k (omega arith) in
      let size : line_start f (k + m) - line_start f k ≡ length x = omega (arith, start, start_is (k + m) l, both) in
      ap₂ take size (ap (λ n. drop n f) start ∙ behind k ∙ ap unlines (sym (take-append-drop m (drop k ls))) ∙ unlines_append (take m (drop k ls)) (drop m (drop k ls)))
      ∙ take-append_seam x (unlines (drop m (drop k ls)))

-- The places of an accepted file's lines copy the text left
module _ (f : Bytes) (p : Policy) (h : read f ≡ given p) (table : List Row) (places : List ElementPlaces) (struck : List ℕ) (a n : ℕ) (attributes : length p.attributes ≡ a)
    (is : p.elements ≡ reverse (elements_to f table places n)) (elements : length p.elements ≡ n) (lined : Lined (line_start f) places a n (length f)) where
  abbrev own : List Bytes
  own = front (lines f)

  pub free : Frees newline own
  free = free_before own ([] ∷ []) (subst (Frees newline) (accepted f p h).text.pieces (cut_frees newline f))

  text : f ≡ unlines own
  text = text_unlines f own (accepted f p h).text.pieces

  pub count : length own ≡ a + lines_in p.elements
  count = file_count f p h ∙ ap (λ x. x + lines_in p.elements) attributes

  -- how many lines an element has, and where the next one's start
  pub lines_here : (i : ℕ) → i < n → get_or (map line_count p.elements) i 0 ≡ suc (obligation_count places i)
  lines_here i l = element_at_lem f table places n p is line_count 0 i l ∙ ap suc (ap length (obligations_of_lem f table places i) ∙ count_is f places i)

  pub lines_next : (i m : ℕ) → m ≡ suc (obligation_count places i) → a + lines_to places (i + 1) ≡ a + lines_to places i + m
  unfolding lines_to
  lines_next i m e = rw (add-one i) (omega arith)

  end_is : (i : ℕ) → i < n → lines_end f places n i ≡ line_start f (a + lines_to places (i + 1))
  end_is i l =
      ⊎_elim
      (λ (e : i + 1 ≡ n). rw (le-ltb (i + 1) n (omega arith)) (lined.next ∙ ap (λ k. line_start f (a + lines_to places k)) (sym e)))
      (λ (e : i + 1 < n). rw (lt-ltb (i + 1) n e) (lined.starts (i + 1) e))
      (eq-or-lt_of_le (behind_it l))
    where
      behind_it : {i : ℕ} → i < n → i + 1 ≤ n
      behind_it l = omega arith

  -- an element's lines, and what is left of them
  pub lines_of : (i m : ℕ) → i < n → m ≡ suc (obligation_count places i) → a + lines_to places i + m ≤ length own → part f (start_of places i) (lines_end f places n i) ≡ unlines (take m (drop (a + lines_to places i) own))
  lines_of i m l e room = ap₂ (part f) (lined.starts i l) (end_is i l ∙ ap (line_start f) (lines_next i m e)) ∙ lines_part f own free text (a + lines_to places i) m room

  piece_is : (i m : ℕ) → i < n → m ≡ suc (obligation_count places i) → a + lines_to places i + m ≤ length own
      → piece_at f places struck n i ≡ cond (is_left struck i) (unlines (take m (drop (a + lines_to places i) own))) []
  piece_is i m l e room = ap (λ x. cond (is_left struck i) x []) (lines_of i m l e room)

  -- the lines before the first element's
  pub lines_before : 1 ≤ n → part f 0 (start_of places 0) ≡ unlines (take a own)
  unfolding lines_to
  lines_before some = ap (part f 0) (lined.starts 0 some ∙ ap (line_start f) (add-zero a)) ∙ before_start f own free text a (omega (arith, count))

  pick : (b : Bool) (x : List Bytes) (later : List (List Bytes)) → cond b (unlines x) [] ++ unlines (gathered (λ ls. ls) later) ≡ unlines (gathered (λ ls. ls) (cond b (x ∷ later) later))
  pick true x later = sym (unlines_append x (gathered (λ ls. ls) later))
  pick false x later = refl

  -- the elements from place i on
  copied_left : (i : ℕ) (es : List Element) → i + length es ≡ n → a + lines_to places i + lines_in es ≡ length own → ((j : ℕ) → j < length es → get_or (map line_count es) j 0 ≡ suc (obligation_count places (i + j)))
      → gathered (piece_at f places struck n) (counting i (length es)) ≡ unlines (gathered (λ ls. ls) (left_from struck i (lines_by_element es (drop (a + lines_to places i) own))))
  unfolding left_from lines_by_element
  copied_left i [] e whole each = refl
  copied_left i (x ∷ es) e whole each =
      let k = a + lines_to places i in
      let m = line_count x in
      let here : m ≡ suc (obligation_count places i) = each 0 (omega arith) ∙ ap (λ j. suc (obligation_count places j)) (add-zero i) in
      let next = lines_next i m here in
      let behind : drop (a + lines_to places (i + 1)) own ≡ drop m (drop k own) = ap (λ j. drop j own) next ∙ sym (drop-drop m k own) in
      let later = copied_left (i + 1) es (omega arith) (omega arith) (λ j l. each (suc j) (omega arith) ∙ ap (λ j. suc (obligation_count places j)) (omega arith)) in
      ap₂ (λ x y. x ++ y) (piece_is i m (omega arith) here (omega arith))
      (ap (λ j. gathered (piece_at f places struck n) (counting j (length es))) (sym (add-one i)) ∙ later ∙ ap (λ ls. unlines (gathered (λ ls. ls) (left_from struck (i + 1) (lines_by_element es ls)))) behind)
      ∙ pick (is_left struck i) (take m (drop k own)) (left_from struck (i + 1) (lines_by_element es (drop m (drop k own))))

  pub text_copied : 1 ≤ n → text_left f p struck ≡ copied f places struck n
  unfolding text_left copied lines_to
  text_copied some =
      let es = p.elements in
      let left : ℕ → List Bytes = λ m. gathered (λ ls. ls) (left_from struck 0 (lines_by_element es (drop m own))) in
      let each : (j : ℕ) → j < length es → get_or (map line_count es) j 0 ≡ suc (obligation_count places (0 + j)) = λ j l. lines_here j (omega arith) ∙ ap (λ k. suc (obligation_count places k)) (sym (zero-add j)) in
      ap (λ m. unlines (take m own ++ left m)) attributes
      ∙ unlines_append (take a own) (left a)
      ∙ ap₂ (λ x y. x ++ y)
      (sym (lines_before some))
      (ap (λ m. unlines (left m)) (sym (add-zero a)) ∙ sym (copied_left 0 es (zero-add (length es) ∙ elements) (omega (arith, count)) each) ∙ ap (λ k. gathered (piece_at f places struck n) (counting 0 k)) elements)

-- Numbers that rise by each step
steps_rise : (F : ℕ → ℕ) → ((k : ℕ) → F k ≤ F (suc k)) → (k m : ℕ) → k ≤ m → F k ≤ F m
steps_rise F step k zero l = let first : k ≡ 0 = omega arith in rw first (omega arith)
steps_rise F step k (suc m) l = ⊎_elim (λ (e : k ≡ suc m). rw e (omega arith)) (λ (e : k < suc m). omega (arith, steps_rise F step k m (omega arith), step m)) (eq-or-lt_of_le l)

start_rises : (f : Bytes) (k : ℕ) → line_start f k ≤ line_start f (suc k)
unfolding line_start
start_rises f k = omega arith

lines_rise : (places : List ElementPlaces) (i : ℕ) → lines_to places i ≤ lines_to places (suc i)
unfolding lines_to
lines_rise places i = omega arith

-- so elements whose lines stand one behind the other are copied so
pub copies_lined : (f : Bytes) (places : List ElementPlaces) (struck : List ℕ) (a n : ℕ) → Lined (line_start f) places a n (length f) → 1 ≤ n → n ≤ length places → n ≤ length struck → Copies f places struck n
copies_lined f places struck a n lined some room flags =
    record {
      some = some;
      room = room;
      flags = flags;
      rising = λ i l. rw (lined.starts i (omega arith), lined.starts (i + 1) l) (rises i (i + 1) (omega arith));
      inside = λ i l. rw (lined.starts i l, lined.next) (rises i n (omega arith));
    }
  where
    rises : (i m : ℕ) → i ≤ m → line_start f (a + lines_to places i) ≤ line_start f (a + lines_to places m)
    rises i m l = steps_rise (line_start f) (start_rises f) (a + lines_to places i) (a + lines_to places m) (omega (arith, steps_rise (lines_to places) (lines_rise places) i m l))
