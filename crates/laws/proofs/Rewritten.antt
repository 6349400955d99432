-- A file that was read, written again: the same bytes.
use mathlib.Core.Path.{◌≡◌, refl, sym, ap, ◌∙◌, subst, ap₂}
use Prim.Native.Nat.{ℕ, suc, ◌-◌, ◌≤◌, ◌<◌, ◌+◌}
use native.Mathlib.Omega.{arith}
use mathlib.Core.Bool.{Bool, true, false, not}
use mathlib.Core.List.{List, [], ◌∷◌, ◌++◌, map, reverse, reverse-cons, append_assoc, append-nil}
use mathlib.Core.Option.{Option, none, some}
use lib.ListN.{length, replicate, length-append, length-map}
use lib.Seq.{append_snoc, take-append_seam}
use lib.Dec.{eqb, leb, ltb}
use borrow.Author.Tests.{leb-true, eqb-true, not-false, ltb-true}
use Rattle.laws.proofs.Types.{Kind, Element, Obligation, rule}
use Rattle.meaning.specs.Text.{Bytes, empty, all, keep, front, gathered, between, cut, newline, tab, line, is_field, decimal}
use Rattle.meaning.specs.Model.{Attribute, Policy, given, word_text, with_obligations, obligations_of}
use Rattle.meaning.specs.Reading.{Line, attribute_line, tree_line, other_line, line_of, depth_of, target_of, or_empty, masks_of, element_of, Sofar, well_placed, bad_masks, element_tests, line_tests, with_element, extended, read_lines, read, obligation_line, obligation_of, nearest_obligations, with_obligation, nearest_with, well_followed, bad_name, may_have_obligations}
use Rattle.meaning.specs.Report.{fitted}
use Rattle.meaning.specs.Writing.{header_tests, read_elements, target_texts, element_fields, write_file, element_lines, obligation_fields, read_element}
use Rattle.meaning.specs.Claims.Writing.{attribute_line as is_attribute, attribute_lines, Shaped}
use Rattle.meaning.specs.Claims.Texts.{All}
use Rattle.laws.proofs.Bools.{Test, passed, failed, test, contradiction, or_false, and_true}
use Rattle.laws.proofs.Text.{join_cut, Frees, cut_frees}
use Rattle.laws.proofs.Reading.{given_given, line_numbered, PassesLine, read_step, read_step⁻, read_text_lem, short_text, finished_some, Accepted, accepted, step_then, Passes}
use Rattle.laws.proofs.Lines.{letter_attribute, attribute_fields_lem, tree_fields, kind_not_attribute, unlines, text_unlines, cut_unlines, frees_front, obligation_fields_lem}
use Rattle.laws.proofs.Targets.{field_read}
use Rattle.laws.proofs.Fields.{digit}
use Rattle.laws.proofs.Bounds.{placed_depth, masks_good, padded_name, header_numbered, nearest_empty}
use Rattle.laws.proofs.Places.{few_nearest, obligations_with, AllPass, with_all, all_with, element_kept, read_element_lem, element_read_lem, places_zero, lines_in}
use Rattle.laws.proofs.Words.{word_again}

-- A depth and the targets that passed are written as they were read
pub depth_again : (d : Bytes) → depth_of d ≤ 7 → decimal (depth_of d) ≡ d
depth_again [] h = absurd (omega arith)
depth_again (x ∷ []) h = go (test (between 48 55 x))
  where
    go : Test (between 48 55 x) → decimal (depth_of (x ∷ [])) ≡ x ∷ []
    go (passed e) =
        let (a, b) = and_true (leb 48 x) (leb x 55) e in
        let low = leb-true 48 x a in
        let high = leb-true x 55 b in
        rw (e, digit (x - 48) (omega arith)) (ap (λ b. b ∷ []) (omega arith))
    go (failed e) = let bad : 8 ≤ 7 = rw e at h in absurd (omega arith)
depth_again (x ∷ y ∷ ys) h = absurd (omega arith)

pub targets_again : (attrs : List Attribute) (ts : List Bytes) (zs : List ℕ) → length ts ≡ length attrs → bad_masks attrs (masks_of attrs ts ++ zs) ≡ false → target_texts attrs (masks_of attrs ts ++ zs) ≡ ts
targets_again [] [] zs e h = refl
targets_again [] (t ∷ ts) zs e h = absurd (omega (arith, e))
targets_again (a ∷ attrs) [] zs e h = absurd (omega (arith, e))
targets_again (a ∷ attrs) (t ∷ ts) zs e h =
    let g = masks_good a attrs (or_empty (target_of a.values t)) (masks_of attrs ts ++ zs) h in
    go (target_of a.values t) refl g.not_empty (targets_again attrs ts zs (omega arith) g.others)
  where
    go : (o : Option ℕ) → target_of a.values t ≡ o → 0 < or_empty (target_of a.values t) → target_texts attrs (masks_of attrs ts ++ zs) ≡ ts → target_texts (a ∷ attrs) (masks_of (a ∷ attrs) (t ∷ ts) ++ zs) ≡ t ∷ ts
    go none i l later = let bad : 0 < 0 = rw i at l in absurd (omega arith)
    go (some m) i l later = rw (i, (field_read a.values t m i).text_again, later)

-- The lines of some elements, and one element's as fields: its own, and its obligations'
abbrev pub tree_text : List Attribute → List Element → Bytes
tree_text attrs es = gathered (element_lines attrs) es

abbrev pub line_fields : List Attribute → Element → List (List Bytes)
line_fields attrs e = element_fields attrs e ∷ map obligation_fields (obligations_of e)

-- A tree line that passed is the line that its element is written as
module _ (s : Sofar) (k : Kind) (d n w : Bytes) (ts : List Bytes) where
  abbrev pub el : Element
  el = element_of s.attributes k d n w ts

  pub fields_again : (fs : List Bytes) → line_of fs ≡ tree_line k d n w ts → PassesLine line_tests line_numbered s fs (tree_line k d n w ts) → element_fields s.attributes el ≡ fs
  fields_again fs e (f2, (f3, (f4, (f5, (f6, (f7, (f8, f))))))) =
      let placed = (or_false (empty s.attributes) (not (well_placed k (depth_of d) s.before)) f6).1 in
      let counted = (or_false (not (all is_field fs)) (not (eqb (length ts) (length s.attributes))) f2).1 in
      let shallow = placed_depth k (depth_of d) s.before (not-false (well_placed k (depth_of d) s.before) placed) in
      let count = eqb-true (length ts) (length s.attributes) (not-false (eqb (length ts) (length s.attributes)) counted) in
      let masks = masks_of s.attributes ts in
      rw (depth_again d shallow, padded_name s.attributes k d n w ts, word_again k w f7, targets_again s.attributes ts (replicate (6 - length masks) 0) count f8) (sym (tree_fields fs k d n w ts e))

-- so is an obligation's
pub obligation_again : (s : Sofar) (fs : List Bytes) (n w : Bytes) → line_of fs ≡ obligation_line n w → PassesLine line_tests line_numbered s fs (obligation_line n w) → obligation_fields (obligation_of n w) ≡ fs
obligation_again s fs n w e (f2, (f3, (f4, (f14, (f7, f))))) = rw (take-append_seam n (replicate (16 - length n) 0), word_again rule w f7) (sym (obligation_fields_lem fs n w e))

-- What the writer takes: the attributes stay, the elements are added in their order
pub record Taken (s : Sofar) (es : List Element) (z : Sofar) : Type 0 where
  pub attributes_stay : z.attributes ≡ s.attributes
  pub elements_added : reverse z.before ≡ reverse s.before ++ es

pub elements_taken : (n : ℕ) (s : Sofar) (es : List Element) (z : Sofar) → All Shaped es → read_elements n s es ≡ given z → Taken s es z
elements_taken n s [] z g h =
    let e : s ≡ z = given_given h in
    subst (Taken s []) e (record { attributes_stay = refl; elements_added = sym (append-nil (reverse s.before)) })
elements_taken n s (e ∷ es) z g h =
    let (t, a, b) = step_then (read_element n s e) (λ t. read_elements (n + suc e.obligations) t es) z h in
    let kept = element_kept s e t g.0 (element_read_lem n s e t a) in
    let later = elements_taken (n + suc e.obligations) (with_element s e) es z g.1 (subst (λ t. read_elements (n + suc e.obligations) t es ≡ given z) kept b) in
    record {
      attributes_stay = later.attributes_stay;
      elements_added = later.elements_added ∙ ap (λ x. x ++ es) (reverse-cons e s.before) ∙ append_snoc (reverse s.before) e es;
    }

-- Lines behind an element that were read: more obligations of it, and the elements that the writer takes for the others
record Tree (s : Sofar) (ls : List Bytes) (z : Sofar) : Type 0 where
  pub obligations : List Obligation
  pub more : List Element
  pub no_attributes : keep is_attribute ls ≡ []
  pub fields_same : map (cut tab) ls ≡ map obligation_fields obligations ++ gathered (line_fields s.attributes) more
  pub few : length (nearest_obligations s.before) + length obligations ≤ 2
  pub obligations_pass : AllPass s obligations
  pub taken : (n : ℕ) → read_elements n (with_all s obligations) more ≡ given z
  pub settles : Taken (with_all s obligations) more z

-- and lines that start with an element's
record Begun (s : Sofar) (ls : List Bytes) (z : Sofar) : Type 0 where
  pub more : List Element
  pub no_attributes : keep is_attribute ls ≡ []
  pub fields_same : map (cut tab) ls ≡ gathered (line_fields s.attributes) more
  pub taken : (n : ℕ) → read_elements n s more ≡ given z
  pub settles : Taken s more z

begun_tree : (s : Sofar) (ls : List Bytes) (z : Sofar) → Begun s ls z → Tree s ls z
begun_tree s ls z b = record { obligations = []; more = b.more; no_attributes = b.no_attributes; fields_same = b.fields_same; few = omega (arith, few_nearest s.before); obligations_pass = tt; taken = b.taken; settles = b.settles }

tree_more : (s : Sofar) (l : Bytes) (ls : List Bytes) (z : Sofar) (k : Kind) (d m w : Bytes) (ts : List Bytes) → line_of (cut tab l) ≡ tree_line k d m w ts
    → PassesLine line_tests line_numbered s (cut tab l) (tree_line k d m w ts) → Tree (extended s (tree_line k d m w ts)) ls z → Begun s (l ∷ ls) z
tree_more s l ls z k d m w ts e p t =
    let letter : is_attribute l ≡ false = rw (tree_fields (cut tab l) k d m w ts e) (kind_not_attribute k) in
    let word : word_text (el s k d m w ts).word ≡ w = word_again k w p.1.1.1.1.1.0 in
    let two : length t.obligations ≤ 2 = omega (arith, t.few) in
    let full : Element = with_obligations t.obligations (el s k d m w ts) in
    let own : obligations_of full ≡ t.obligations = obligations_with t.obligations (el s k d m w ts) two in
    let name : bad_name full ≡ false = (or_false (bad_name full) false p.1.0).0 in
    let pass : Passes (element_tests s (word_text full.word) full) = (rw (name, places_zero t.obligations (el s k d m w ts) two), rw word p.1.1) in
    let whole : with_all (with_element s (el s k d m w ts)) t.obligations ≡ with_element s full = all_with s (el s k d m w ts) t.obligations two in
    let read : (n : ℕ) → read_element n s full ≡ given (with_element s full) =
    λ n. read_element_lem n s full pass (rw own t.obligations_pass) two ∙ ap (λ os. given (with_element s (with_obligations os full))) own in
    let settled : Taken (with_element s full) t.more z = subst (λ x. Taken x t.more z) whole t.settles in
    record {
      more = full ∷ t.more;
      no_attributes = rw letter t.no_attributes;
      fields_same = rw own (cc (fields_again s k d m w ts (cut tab l) e p, t.fields_same));
      taken = λ n. rw (read n) (subst (λ x. read_elements (n + suc full.obligations) x t.more ≡ given z) whole (t.taken (n + suc full.obligations)));
      settles = record {
        attributes_stay = settled.attributes_stay;
        elements_added = settled.elements_added ∙ ap (λ x. x ++ t.more) (reverse-cons full s.before) ∙ append_snoc (reverse s.before) full t.more;
      };
    }

obligation_more : (s : Sofar) (l : Bytes) (ls : List Bytes) (z : Sofar) (n w : Bytes) → line_of (cut tab l) ≡ obligation_line n w → PassesLine line_tests line_numbered s (cut tab l) (obligation_line n w)
    → Tree (with_obligation s (obligation_of n w)) ls z → Tree s (l ∷ ls) z
obligation_more s l ls z n w e p t =
    let letter : is_attribute l ≡ false = rw (obligation_fields_lem (cut tab l) n w e) in
    let word : word_text (obligation_of n w).word ≡ w = word_again rule w p.1.1.1.1.0 in
    record {
      obligations = obligation_of n w ∷ t.obligations;
      more = t.more;
      no_attributes = rw letter t.no_attributes;
      fields_same = cc (obligation_again s (cut tab l) n w e p, t.fields_same);
      few = room s.before (not-false (well_followed s.before) p.1.1.1.0) t.few;
      obligations_pass = (rw word p.1, t.obligations_pass);
      taken = t.taken;
      settles = t.settles;
    }
  where
    room : (es : List Element) → well_followed es ≡ true → length (nearest_obligations (nearest_with (obligation_of n w) es)) + length t.obligations ≤ 2 → length (nearest_obligations es) + suc (length t.obligations) ≤ 2
    room [] h f = contradiction h refl
    room (x ∷ es) h f =
        let low = ltb-true (length (obligations_of x)) 2 (and_true (may_have_obligations x.kind) (ltb (length (obligations_of x)) 2) h).1 in
        let longer = length-append (obligations_of x) (obligation_of n w ∷ []) in
        let f' = subst (λ os. length os + length t.obligations ≤ 2) (obligations_with (obligations_of x ++ (obligation_of n w ∷ [])) x (omega arith)) f in
        omega arith

tree_again : (n : ℕ) (s : Sofar) (ls : List Bytes) (z : Sofar) → empty s.before ≡ false → read_lines line_tests [] n s ls ≡ given z → Tree s ls z
tree_again n s [] z b h =
    begun_tree s [] z (record { more = []; no_attributes = refl; fields_same = refl; taken = λ m. h; settles = subst (Taken s []) (given_given h) (record { attributes_stay = refl; elements_added = sym (append-nil (reverse s.before)) }) })
tree_again n s (l ∷ ls) z b h =
    let (p, r) = read_step line_tests line_numbered [] n s l ls z h in
    go (line_of (cut tab l)) refl p (λ c. tree_again (suc n) (extended s (line_of (cut tab l))) ls z c r)
  where
    go : (x : Line) → line_of (cut tab l) ≡ x → PassesLine line_tests line_numbered s (cut tab l) x → (empty (extended s (line_of (cut tab l))).before ≡ false → Tree (extended s (line_of (cut tab l))) ls z) → Tree s (l ∷ ls) z
    go (attribute_line a) e (f2, (f3, (f4, (f5, (f6, f))))) later = contradiction (not-false (empty s.before) f6) b
    go (tree_line k d m w ts) e p later = begun_tree s (l ∷ ls) z (tree_more s l ls z k d m w ts e p (subst (λ x. Tree (extended s x) ls z) e (later (rw e))))
    go (obligation_line m w) e p later = obligation_more s l ls z m w e p (subst (λ x. Tree (extended s x) ls z) e (later (rw e (nearest_empty (obligation_of m w) s.before ∙ b))))
    go other_line e (f2, f) later = contradiction refl (or_false (not (all is_field (cut tab l))) true f2).1

-- and the attribute lines before them, which the writer reads alike
abbrev pub only : List Attribute → Sofar
only attrs = record { attributes = attrs; before = [] }

pub record Whole (n : ℕ) (attrs : List Attribute) (ls : List Bytes) (z : Sofar) : Type 0 where
  pub fields_same : map (cut tab) ls ≡ map (cut tab) (keep is_attribute ls) ++ gathered (line_fields z.attributes) (reverse z.before)
  pub header_read : read_lines header_tests [] n (only attrs) (keep is_attribute ls) ≡ given (only z.attributes)
  pub taken : (n : ℕ) → read_elements n (only z.attributes) (reverse z.before) ≡ given z

from_tree : (n : ℕ) (attrs : List Attribute) (ls : List Bytes) (z : Sofar) → Begun (only attrs) ls z → Whole n attrs ls z
from_tree n attrs ls z t =
    let k = t.settles in
    record {
      fields_same = rw (t.no_attributes, k.elements_added, k.attributes_stay) t.fields_same;
      header_read = rw (t.no_attributes, k.attributes_stay);
      taken = λ m. cc (k.elements_added, k.attributes_stay, t.taken m);
    }

pub whole_again : (n : ℕ) (attrs : List Attribute) (ls : List Bytes) (z : Sofar) → read_lines line_tests [] n (only attrs) ls ≡ given z → Whole n attrs ls z
whole_again n attrs [] z h = from_tree n attrs [] z (record { more = []; no_attributes = refl; fields_same = refl; taken = λ m. h; settles = subst (Taken (only attrs) []) (given_given h) (record { attributes_stay = refl; elements_added = refl }) })
whole_again n attrs (l ∷ ls) z h =
    let (p, r) = read_step line_tests line_numbered [] n (only attrs) l ls z h in
    go (line_of (cut tab l)) refl p r (λ a. whole_again (suc n) (attrs ++ (a ∷ [])) ls z)
  where
    go : (x : Line) → line_of (cut tab l) ≡ x → PassesLine line_tests line_numbered (only attrs) (cut tab l) x → read_lines line_tests [] (suc n) (extended (only attrs) x) ls ≡ given z
        → ((a : Attribute) → read_lines line_tests [] (suc n) (only (attrs ++ (a ∷ []))) ls ≡ given z → Whole (suc n) (attrs ++ (a ∷ [])) ls z) → Whole n attrs (l ∷ ls) z
    go (attribute_line a) e p r later =
        let w = later a r in
        let letter : is_attribute l ≡ true = rw (attribute_fields_lem (cut tab l) a e).are (letter_attribute a.several) in
        let own = keep is_attribute ls in
        record {
          fields_same = rw (letter, w.fields_same);
          header_read = rw letter (read_step⁻ header_tests header_numbered [] n (only attrs) l own (rw e p) ∙ rw e w.header_read);
          taken = w.taken;
        }
    go (tree_line k d m w ts) e p r later = from_tree n attrs (l ∷ ls) z (tree_more (only attrs) l ls z k d m w ts e p (tree_again (suc n) (extended (only attrs) (tree_line k d m w ts)) ls z refl r))
    go (obligation_line m w) e (f2, (f3, (f4, (f14, f)))) r later = contradiction refl f14
    go other_line e (f2, f) r later = contradiction refl (or_false (not (all is_field (cut tab l))) true f2).1

-- A text by the fields of its lines
pub gathered_append : {A B : Type 0} (f : A → List B) (xs ys : List A) → gathered f (xs ++ ys) ≡ gathered f xs ++ gathered f ys
gathered_append f [] ys = refl
gathered_append f (x ∷ xs) ys = ap (λ zs. f x ++ zs) (gathered_append f xs ys) ∙ sym (append_assoc (f x) (gathered f xs) (gathered f ys))

pub gathered_map : {A B C : Type 0} (f : B → List C) (g : A → B) (xs : List A) → gathered f (map g xs) ≡ gathered (λ x. f (g x)) xs
gathered_map f g [] = refl
gathered_map f g (x ∷ xs) = ap (λ zs. f (g x) ++ zs) (gathered_map f g xs)

pub unlines_fields : (ls : List Bytes) → unlines ls ≡ gathered line (map (cut tab) ls)
unlines_fields [] = refl
unlines_fields (l ∷ ls) = rw (join_cut tab l, unlines_fields ls)

pub tree_fields_text : (attrs : List Attribute) (es : List Element) → gathered line (gathered (line_fields attrs) es) ≡ tree_text attrs es
tree_fields_text attrs [] = refl
tree_fields_text attrs (e ∷ es) =
    gathered_append line (line_fields attrs e) (gathered (line_fields attrs) es)
    ∙ ap₂ (λ x y. (line (element_fields attrs e) ++ x) ++ y) (gathered_map line obligation_fields (obligations_of e)) (tree_fields_text attrs es)

pub tree_count : (attrs : List Attribute) (es : List Element) → length (gathered (line_fields attrs) es) ≡ lines_in es
tree_count attrs [] = refl
tree_count attrs (e ∷ es) = omega (arith, length-append (line_fields attrs e) (gathered (line_fields attrs) es), length-map (obligations_of e) obligation_fields, tree_count attrs es)

-- The lines of an accepted file: its attribute lines, and each element's lines
pub file_fields : (f : Bytes) (p : Policy) → read f ≡ given p → map (cut tab) (front (cut newline f)) ≡ map (cut tab) (keep is_attribute (front (cut newline f))) ++ gathered (line_fields p.attributes) p.elements
file_fields f p h =
    let a = accepted f p h in
    (whole_again 1 [] (front (cut newline f)) a.sofar a.text.lines_read).fields_same
    ∙ ap (λ q. map (cut tab) (keep is_attribute (front (cut newline f))) ++ gathered (line_fields q.attributes) q.elements) (sym a.is_policy)

-- what its attribute lines alone give
pub header_attributes : (f : Bytes) (p : Policy) → read f ≡ given p → read_lines header_tests [] 1 (only []) (keep is_attribute (front (cut newline f))) ≡ given (only p.attributes)
header_attributes f p h =
    let a = accepted f p h in
    (whole_again 1 [] (front (cut newline f)) a.sofar a.text.lines_read).header_read ∙ ap (λ q. given (only q.attributes)) (sym a.is_policy)

-- and so are its bytes
pub file_text : (f : Bytes) (p : Policy) → read f ≡ given p → f ≡ attribute_lines f ++ tree_text p.attributes p.elements
file_text f p h =
    let ls = front (cut newline f) in
    let own = keep is_attribute ls in
    let tree = gathered (line_fields p.attributes) p.elements in
    text_unlines f ls (accepted f p h).text.pieces
    ∙ unlines_fields ls
    ∙ ap (gathered line) (file_fields f p h)
    ∙ gathered_append line (map (cut tab) own) tree
    ∙ ap (λ x. x ++ gathered line tree) (sym (unlines_fields own))
    ∙ ap (λ x. unlines own ++ x) (tree_fields_text p.attributes p.elements)

-- A file read and written again has the same bytes
keep_frees : (b : ℕ) (t : Bytes → Bool) (ps : List Bytes) → Frees b ps → Frees b (keep t ps)
keep_frees b t [] f = tt
keep_frees b t (p ∷ ps) f = go (test (t p)) (keep_frees b t ps f.1)
  where
    go : Test (t p) → Frees b (keep t ps) → Frees b (keep t (p ∷ ps))
    go (passed e) later = rw e (f.0, later)
    go (failed e) later = rw e later

whole_written : (f : Bytes) (p : Policy) (a : Accepted f p (front (cut newline f))) → Whole 1 [] (front (cut newline f)) a.sofar → f ≡ attribute_lines f ++ tree_text p.attributes p.elements
    → (room : ℕ) → write_file room (attribute_lines f) p.elements ≡ fitted room f
unfolding write_file
whole_written f p a w text room =
    let ls = front (cut newline f) in
    let own = keep is_attribute ls in
    let z = a.sofar in
    let whole : f ≡ unlines own ++ tree_text z.attributes (reverse z.before) = subst (λ q. f ≡ unlines own ++ tree_text q.attributes q.elements) a.is_policy text in
    let pieces : cut newline (unlines own) ≡ own ++ ([] ∷ []) = cut_unlines own (keep_frees newline is_attribute ls (frees_front newline (cut newline f) (cut_frees newline f))) in
    let fits : length (unlines own) ≤ 16384 = omega (arith, length-append (unlines own) (tree_text z.attributes (reverse z.before)), ap length whole, a.size) in
    rw (a.is_policy, short_text (unlines own) fits, read_text_lem header_tests header_numbered (unlines own) own pieces, w.header_read, w.taken (suc (length z.attributes)), finished_some z a.some_element, ← whole, short_text f a.size)

pub rewritten : (f : Bytes) (p : Policy) → read f ≡ given p → (room : ℕ) → write_file room (attribute_lines f) p.elements ≡ fitted room f
rewritten f p h = let a = accepted f p h in whole_written f p a (whole_again 1 [] (front (cut newline f)) a.sofar a.text.lines_read) (file_text f p h)
