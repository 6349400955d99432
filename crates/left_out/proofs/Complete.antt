-- A proposal whose lines are the file's with only rule lines left out is matched to its end.
use mathlib.Core.Path.{◌≡◌, refl, sym, ap, ap₂, ◌∙◌, subst}
use Prim.Native.Nat.{ℕ, suc, ◌+◌, ◌-◌, ◌≤◌, ◌<◌}
use native.Mathlib.Nat.{add-zero, zero-add}
use native.Mathlib.Omega.{arith}
use mathlib.Core.Bool.{true, false}
use mathlib.Core.List.{List, [], ◌∷◌, ◌++◌, map}
use lib.Dec.{ltb}
use lib.ListN.{length, get_or, take, drop, set, take-append-drop, length-drop, length-append, length-map, drop_of_length-le}
use lib.Seq.{drop-drop, take-append_seam, length-take-le, take_at, drop_at}
use borrow.Author.Tests.{eq-eqb}
use Rattle.std.proofs.lemmas.List.{drop-map, take-map}
use Rattle.meaning.specs.Text.{Bytes, keep, same, newline}
use Rattle.meaning.specs.Model.{obligations_of, Policy}
use Rattle.meaning.specs.Trimming.{lines, rule_line, file_lines}
use Rattle.meaning.specs.Claims.Trimming.{is_rule}
use Rattle.meaning.specs.Claims.Writing.{attribute_line}
use Rattle.laws.proofs.Types.{Element}
use Rattle.laws.proofs.Bools.{contradiction}
use Rattle.laws.proofs.Text.{Frees, cut_frees, same_true, same_refl}
use Rattle.laws.proofs.Lines.{unlines, unlines_append, text_unlines, frees_front}
use Rattle.laws.proofs.Places.{lines_in}
use Rattle.laws.proofs.Bounds.{bounded}
use Rattle.laws.proofs.OtherLines.{at_the_end}
use Rattle.table.specs.declared.Row.{Row}
use Rattle.layout.specs.declared.ElementPlaces.{ElementPlaces}
use Rattle.layout.specs.Places.{part, start_of, obligation_count, lines_to}
use Rattle.table.specs.declared.Shape.{Shape}
use Rattle.table.specs.Rows.{word_number}
use Rattle.outcomes.specs.Decided.{none_struck}
use Rattle.trimmed_text.specs.Flags.{line_count}
use Rattle.trimmed_text.specs.Copied.{lines_end}
use Rattle.trimmed_text.specs.Held.{PolicyHeld}
use Rattle.trimmed_text.proofs.ByPlace.{effect_is}
use Rattle.trimmed_text.proofs.ByElement.{rule_lines_lem}
use Rattle.trimmed_text.proofs.Placed.{free, count, lines_here, lines_next, lines_of, lines_before}
use Rattle.trimmed_text.proofs.Copying.{lines_lie}
use Rattle.trimmed_text.proofs.Held.{sizes, copies_held}
use Rattle.left_out.specs.Leaving.{Leaving, begins, leaving_from, leaving}
use Rattle.meaning.specs.Claims.Accepting.{LeavesOut}
use Rattle.left_out.proofs.Text.{Way, stands, is_struck, is_other, way}
use Rattle.left_out.proofs.RuleMarks.{own_marks, marks, attributes_marked, elements_marked}
use Rattle.left_out.proofs.Ahead.{taken_all, passed_over, Plain, plain_lines, begun}

-- lines by their marks
plain_marked : (xs : List Bytes) {A : Type 0} (ys : List A) → map rule_line xs ≡ map (λ y. false) ys → Plain xs
plain_marked [] ys e = tt
plain_marked (x ∷ xs) [] e = absurd (omega (arith, ap length e))
plain_marked (x ∷ xs) (y ∷ ys) e = (cc, plain_marked xs ys cc)

frees_part : (xs ys : List Bytes) → Frees newline (xs ++ ys) → Frees newline xs × Frees newline ys
frees_part [] ys f = (tt, f)
frees_part (x ∷ xs) ys f = let (a, b) = frees_part xs ys f.1 in ((f.0, a), b)

-- The proposal's bytes from a place on are the text of some lines
module _ (f : Bytes) (places : List ElementPlaces) (t : List Row) (n : ℕ) (g : Bytes) (at : ℕ) (inside : at ≤ length g) (ls : List Bytes) (text : drop at g ≡ unlines ls) (free : Frees newline ls)
    (start end : ℕ) (xs : List Bytes) (own : part f start end ≡ unlines xs) (size : end - start ≡ length (unlines xs)) (plain : Frees newline xs) where
  -- they begin with those of an element
  begins_so : (ms : List Bytes) → ls ≡ xs ++ ms → begins f places t n g at start end ≡ true
  begins_so ms e =
      let count : at + (end - start) - at ≡ length (unlines xs) = omega arith in
      let there : part g at (at + (end - start)) ≡ unlines xs =
      ap₂ take count (text ∙ ap unlines e ∙ unlines_append xs ms) ∙ take-append_seam (unlines xs) (unlines ms) in
      ap₂ same there own ∙ same_refl (unlines xs)

  record Next : Type 0 where
    others : List Bytes
    are : ls ≡ xs ++ others
    text_behind : drop (at + (end - start)) g ≡ unlines others
    free_behind : Frees newline others
    inside_behind : at + (end - start) ≤ length g

  so_begins : begins f places t n g at start end ≡ true → Next
  so_begins e =
      let k = at + (end - start) - at in
      let count : k ≡ length (unlines xs) = omega arith in
      let there : at + k ≡ at + (end - start) = omega arith in
      let head : take k (drop at g) ≡ unlines xs = same_true (part g at (at + (end - start))) (part f start end) e ∙ own in
      let rest = drop k (drop at g) in
      let whole : unlines ls ≡ unlines xs ++ rest = sym text ∙ sym (take-append-drop k (drop at g)) ∙ ap (λ x. x ++ rest) head in
      let x = begun xs ls rest plain free whole in
      record {
        others = x.others;
        are = x.are;
        text_behind = sym (drop-drop k at g ∙ ap (λ j. drop j g) there) ∙ x.text;
        free_behind = x.free;
        inside_behind = omega (arith, ap length text, length-drop at g, ap length whole, length-append (unlines xs) rest);
      }

plain_own : (xs : List Bytes) (e : Element) → map rule_line xs ≡ own_marks e → is_rule e ≡ false → Plain xs
plain_own [] e are none = tt
plain_own (x ∷ xs) e are none = let first : rule_line x ≡ is_rule e = cc in (first ∙ none, plain_marked xs (obligations_of e) cc)

one_line : (ys : List Bytes) → 1 ≤ length ys → (l : Bytes) × (take 1 ys ≡ l ∷ [])
one_line [] h = absurd (omega arith)
one_line (y ∷ ys) h = (y, refl)

module _ (f : List ℕ) (table : List Row) (places : List ElementPlaces) (s : Shape) (held : PolicyHeld f table places s) (g : Bytes) where
  abbrev p : Policy
  p = held.policy

  abbrev own : List Bytes
  own = file_lines f

  -- the lines before those of element i
  abbrev before : ℕ → ℕ
  before i = length p.attributes + lines_to places i

  free_own : Frees newline own
  free_own = free f p held.is_read table places none_struck (length p.attributes) s.n refl held.elements (sizes f table places s held) held.lined

  -- The elements from place i on
  record Behind (i : ℕ) (es : List Element) : Type 0 where
    number : i + length es ≡ s.n
    lines_all : before i + lines_in es ≡ length own
    each : (j : ℕ) → j < length es → get_or (map line_count es) j 0 ≡ suc (obligation_count places (i + j))
    effects : (j : ℕ) → j < length es → ltb (word_number table (i + j)) 2 ≡ get_or (map is_rule es) j false
    bare : (j : ℕ) → get_or (map is_rule es) j false ≡ true → get_or (map line_count es) j 0 ≡ 1
    marked : map rule_line (drop (before i) own) ≡ marks es

  module _ (i : ℕ) (e : Element) (es : List Element) (b : Behind i (e ∷ es)) where
    abbrev own_lines : List Bytes
    own_lines = take (line_count e) (drop (before i) own)

    here : line_count e ≡ suc (obligation_count places i)
    here = b.each 0 (omega arith) ∙ ap (λ j. suc (obligation_count places j)) (add-zero i)

    next : before (i + 1) ≡ before i + line_count e
    next = lines_next f p held.is_read table places none_struck (length p.attributes) s.n refl held.elements (sizes f table places s held) held.lined i (line_count e) here

    behind_drop : drop (before (i + 1)) own ≡ drop (line_count e) (drop (before i) own)
    behind_drop = ap (λ k. drop k own) next ∙ sym (drop-drop (line_count e) (before i) own)

    mark_count : length (own_marks e) ≡ line_count e
    mark_count = ap suc (length-map (obligations_of e) (λ o. false))

    behind_next : Behind (i + 1) es
    behind_next = record {
      number = omega (arith, b.number);
      lines_all = omega (arith, b.lines_all, next);
      each = λ j l. b.each (suc j) (omega arith) ∙ ap (λ k. suc (obligation_count places k)) (moved j);
      effects = λ j l. ap (λ k. ltb (word_number table k) 2) (sym (moved j)) ∙ b.effects (suc j) (omega arith);
      bare = λ j. b.bare (suc j);
      marked = ap (map rule_line) behind_drop ∙ sym (drop-map rule_line (line_count e) (drop (before i) own)) ∙ ap (drop (line_count e)) b.marked ∙ drop_at (own_marks e) (marks es) (line_count e) mark_count;
    }
      where
        moved : (j : ℕ) → i + suc j ≡ i + 1 + j
        moved j = omega arith

    own_marked : map rule_line own_lines ≡ own_marks e
    own_marked = sym (take-map rule_line (line_count e) (drop (before i) own)) ∙ ap (take (line_count e)) b.marked ∙ take_at (own_marks e) (marks es) (line_count e) mark_count

    lines_parted : drop (before i) own ≡ own_lines ++ drop (before (i + 1)) own
    lines_parted = sym (take-append-drop (line_count e) (drop (before i) own)) ∙ ap (λ x. own_lines ++ x) (sym behind_drop)

    own_free : Frees newline own_lines
    own_free = (frees_part own_lines (drop (before (i + 1)) own) (subst (Frees newline) lines_parted (frees_part (take (before i) own) (drop (before i) own) (subst (Frees newline) (sym (take-append-drop (before i) own)) free_own)).1)).0

    own_bytes : part f (start_of places i) (lines_end f places s.n i) ≡ unlines own_lines
    own_bytes = lines_of f p held.is_read table places none_struck (length p.attributes) s.n refl held.elements (sizes f table places s held) held.lined i (line_count e) (omega (arith, b.number)) here (omega (arith, b.lines_all))

    own_size : lines_end f places s.n i - start_of places i ≡ length (unlines own_lines)
    own_size =
        let lies = lines_lie f places (set none_struck i 0) s.n (copies_held f table places s held none_struck refl i 0) i (omega (arith, b.number)) in
        let k = lines_end f places s.n i - start_of places i in
        sym (length-take-le k (drop (start_of places i) f) (omega (arith, length-drop (start_of places i) f, lies.0, lies.1))) ∙ ap length own_bytes

  abbrev from : (m i at : ℕ) → List ℕ → Leaving
  from = leaving_from f places table s.n g

  matched : (i : ℕ) (es : List Element) → Behind i es → (at : ℕ) (struck : List ℕ) (ls : List Bytes) → at ≤ length g → drop at g ≡ unlines ls → Frees newline ls → LeavesOut (drop (before i) own) ls [] → (from (length es) i at struck).whole ≡ true
  unfolding leaving_from
  matched i [] b at struck ls inside text free x =
      let end : length own ≤ before i = omega (arith, b.lines_all) in
      let none : ls ≡ [] = at_the_end x (drop_of_length-le own end) in
      eq-eqb at (length g) (omega (arith, ap length text, ap (λ ms. length (unlines ms)) none, length-drop at g))
  matched i (e ∷ es) b at struck ls inside text free x = go (way f places table s.n g (length es) i at struck) (matched (i + 1) es (behind_next i e es b))
    where
      start : ℕ
      start = start_of places i

      end : ℕ
      end = lines_end f places s.n i

      xs : List Bytes
      xs = own_lines i e es b

      os : List Bytes
      os = drop (before (i + 1)) own

      ahead : LeavesOut (xs ++ os) ls []
      ahead = subst (λ ys. LeavesOut ys ls []) (lines_parted i e es b) x

      begins_with : (ms : List Bytes) → ls ≡ xs ++ ms → begins f places table s.n g at start end ≡ true
      begins_with = begins_so f places table s.n g at inside ls text free start end xs (own_bytes i e es b) (own_size i e es b) (own_free i e es b)

      is_rule_lem : ltb (word_number table i) 2 ≡ is_rule e
      is_rule_lem = ap (λ k. ltb (word_number table k) 2) (sym (add-zero i)) ∙ b.effects 0 (omega arith)

      go : Way f places table s.n g (length es) i at struck
          → ((at : ℕ) (struck : List ℕ) (ls : List Bytes) → at ≤ length g → drop at g ≡ unlines ls → Frees newline ls → LeavesOut os ls [] → (from (length es) (i + 1) at struck).whole ≡ true)
          → (from (suc (length es)) i at struck).whole ≡ true
      go (stands begin is) later =
          let y = so_begins f places table s.n g at inside ls text free start end xs (own_bytes i e es b) (own_size i e es b) (own_free i e es b) begin in
          ap (λ z. z.whole) is ∙ later (at + (end - start)) struck y.others y.inside_behind y.text_behind y.free_behind (taken_all xs os y.others [] (subst (λ ms. LeavesOut (xs ++ os) ms []) y.are ahead))
      go (is_struck none w is) later =
          let one : line_count e ≡ 1 = b.bare 0 (sym is_rule_lem ∙ w) in
          let (l, is_one) = one_line (drop (before i) own) (omega (arith, b.lines_all, length-drop (before i) own)) in
          let only : xs ≡ l ∷ [] = ap (λ k. take k (drop (before i) own)) one ∙ is_one in
          let first : LeavesOut (l ∷ os) ls [] = subst (λ ys. LeavesOut (ys ++ os) ls []) only ahead in
          ap (λ z. z.whole) is ∙ later at (set struck i 1) ls inside text free (passed_over first refl (λ ms are. contradiction (begins_with ms (are ∙ ap (λ ys. ys ++ ms) (sym only))) none))
      go (is_other none w is) later =
          let (ms, are) = plain_lines xs os ls [] (plain_own xs e (own_marked i e es b) (sym is_rule_lem ∙ w)) ahead refl in
          contradiction (begins_with ms are) none

  -- all elements
  all_behind : Behind 0 p.elements
  unfolding lines_to
  all_behind =
      let h = held.is_read in
      let a = length p.attributes in
      let size = sizes f table places s held in
      let same_place : (j : ℕ) → j ≡ 0 + j = λ j. sym (zero-add j) in
      record {
        number = zero-add (length p.elements) ∙ size;
        lines_all = omega (arith, count f p h table places none_struck a s.n refl held.elements size held.lined);
        each = λ j l. lines_here f p h table places none_struck a s.n refl held.elements size held.lined j (omega (arith, size)) ∙ ap (λ k. suc (obligation_count places k)) (same_place j);
        effects = λ j l. ap (λ k. ltb (word_number table k) 2) (zero-add j) ∙ effect_is f p h table places s.n held.elements j (omega (arith, size));
        bare = rule_lines_lem p.attributes p.elements (bounded f p h).elements_good;
        marked = ap (λ k. map rule_line (drop k own)) (add-zero a) ∙ sym (drop-map rule_line a own) ∙ elements_marked f p h;
      }

  -- and the bytes before them
  pub complete : lines g ≡ file_lines g ++ ([] ∷ []) → LeavesOut own (file_lines g) [] → (leaving f places table s.n g none_struck).whole ≡ true
  unfolding lines_to
  complete ended x =
      let h = held.is_read in
      let a = length p.attributes in
      let size = sizes f table places s held in
      let first = start_of places 0 in
      let ls = file_lines g in
      let text : drop 0 g ≡ unlines ls = text_unlines g ls ended in
      let free-lines : Frees newline ls = frees_front newline (lines g) (cut_frees newline g) in
      let xs = take a own in
      let plain-header : Plain xs = plain_marked xs (keep attribute_line own) (sym (take-map rule_line a own) ∙ attributes_marked f p h) in
      let parted : own ≡ xs ++ drop a own = sym (take-append-drop a own) in
      let ahead : LeavesOut (xs ++ drop a own) ls [] = subst (λ ys. LeavesOut ys ls []) parted x in
      let bytes-before : part f 0 first ≡ unlines xs = lines_before f p h table places none_struck a s.n refl held.elements size held.lined held.ready.some in
      let inside : first ≤ length f = (copies_held f table places s held none_struck refl 0 0).inside 0 held.ready.some in
      let size-before : first - 0 ≡ length (unlines xs) = sym (length-take-le (first - 0) (drop 0 f) (omega arith)) ∙ ap length bytes-before in
      let header-free = (frees_part xs (drop a own) (subst (Frees newline) parted free_own)).0 in
      let (ms, are) = plain_lines xs (drop a own) ls [] plain-header ahead refl in
      let begin = begins_so f places table s.n g 0 (omega arith) ls text free-lines 0 first xs bytes-before size-before header-free ms are in
      let y = so_begins f places table s.n g 0 (omega arith) ls text free-lines 0 first xs bytes-before size-before header-free begin in
      let there : 0 + (first - 0) ≡ first = omega arith in
      let behind = taken_all xs (drop a own) y.others [] (subst (λ ns. LeavesOut (xs ++ drop a own) ns []) y.are ahead) in
      let whole = matched 0 p.elements all_behind first none_struck y.others (subst (λ k. k ≤ length g) there y.inside_behind) (ap (λ k. drop k g) (sym there) ∙ y.text_behind) y.free_behind (subst (λ k. LeavesOut (drop k own) y.others []) (sym (add-zero a)) behind) in
      rw begin (ap (λ m. (from m 0 first none_struck).whole) (sym size) ∙ whole)
