-- Elements that were written, read again: the same elements.
use mathlib.Core.Path.{◌≡◌, refl, sym, ap, ◌∙◌, subst, ap₂}
use Prim.Native.Nat.{ℕ, suc, ◌+◌, ◌≤◌}
use mathlib.Core.Bool.{false}
use mathlib.Core.List.{append_cancel_right, List, [], ◌∷◌, ◌++◌, map, reverse}
use lib.ListN.{length}
use lib.Dec.{ltb}
use Rattle.laws.proofs.Types.{Element, Obligation}
use Rattle.meaning.specs.Text.{Bytes, empty, front, cut, newline, tab, line, gathered}
use Rattle.meaning.specs.Model.{Attribute, Policy, refused, given, ◌then◌, obligations_of}
use Rattle.meaning.specs.Reading.{Line, attribute_line, tree_line, other_line, line_of, Sofar, line_tests, with_element, extended, read_lines, nothing, read_text, short, finished, read, obligation_line}
use Rattle.meaning.specs.Report.{fitted}
use Rattle.meaning.specs.Writing.{header_tests, read_elements, element_fields, write_file, read_element, obligation_fields}
use Rattle.meaning.specs.Claims.Writing.{attribute_lines, Shaped, RoundTrips}
use Rattle.meaning.specs.Claims.Texts.{All}
use Rattle.meaning.specs.Claims.PolicyFile.{GoodAttribute}
use Rattle.laws.proofs.Places.{GoodObligation, element_read_lem, element_kept}
use Rattle.laws.proofs.Bounds.{GoodElement, Good, nothing_good, header_numbered, header_good}
use Rattle.laws.proofs.Bools.{Test, passed, failed, test, contradiction}
use Rattle.laws.proofs.Text.{Frees, cut_frees, join_free, frees_append}
use Rattle.laws.proofs.Reading.{refused-given, given_given, step_then, line_numbered, PassesLine, read_step, read_step⁻, lines_keep, ReadText, text_read, short_given, policy_of, finished_given, read_lines_lem}
use Rattle.laws.proofs.Lines.{unlines, unlines_append, text_unlines, cut_unlines, frees_front}
use Rattle.laws.proofs.Fields.{fields_free, element_fields_lem}
use Rattle.laws.proofs.Rewritten.{file_text, tree_text, elements_taken, rewritten}
use Rattle.laws.proofs.LinesBack.{bare_lines, taken_good, bare_obligation, element_lines_lem, fields_of_obligation}

-- The elements that the writer took: their lines, read again
record ElementsBack (s : Sofar) (es : List Element) (z : Sofar) : Type 0 where
  pub elements_good : All (GoodElement s.attributes) es
  pub lines_read : (n : ℕ) → read_lines line_tests [] n s (gathered (bare_lines s.attributes) es) ≡ given z

elements_back : (m : ℕ) (s : Sofar) (es : List Element) (z : Sofar) → Good s → All Shaped es → read_elements m s es ≡ given z → ElementsBack s es z
elements_back m s [] z g shaped h = record { elements_good = tt; lines_read = λ n. h }
elements_back m s (e ∷ es) z g shaped h =
    let (t, a, b) = step_then (read_element m s e) (λ t. read_elements (m + suc e.obligations) t es) z h in
    let r = element_read_lem m s e t a in
    let next = taken_good s e t g shaped.0 r in
    let later = elements_back (m + suc e.obligations) (with_element s e) es z next shaped.1 (subst (λ t. read_elements (m + suc e.obligations) t es ≡ given z) (element_kept s e t shaped.0 r) b) in
    record {
      elements_good = (next.elements_good.0, later.elements_good);
      lines_read = λ n. element_lines_lem [] s e g next.elements_good.0 r.passes r.obligations_pass n (gathered (bare_lines s.attributes) es) ∙ later.lines_read (n + suc e.obligations);
    }

-- The attribute lines that the writer read: a file reads them alike
pub header_passes : (s : Sofar) (fs : List Bytes) (l : Line) → PassesLine header_tests header_numbered s fs l → PassesLine line_tests line_numbered s fs l
header_passes s fs (attribute_line a) p = p
header_passes s fs (tree_line k d n w ts) (f2, (f3, (f6, f))) = contradiction refl f6
header_passes s fs (obligation_line n w) (f2, (f3, (f14, f))) = contradiction refl f14
header_passes s fs other_line p = p

header_back : (n : ℕ) (s : Sofar) (own : List Bytes) (z : Sofar) (more : List Bytes) → read_lines header_tests [] n s own ≡ given z → (k : ℕ) × (read_lines line_tests [] n s (own ++ more) ≡ read_lines line_tests [] k z more)
header_back n s [] z more h = (n, ap (λ x. read_lines line_tests [] n x more) (given_given h))
header_back n s (l ∷ own) z more h =
    let (p, r) = read_step header_tests header_numbered [] n s l own z h in
    let (k, later) = header_back (suc n) (extended s (line_of (cut tab l))) own z more r in
    (k, read_step⁻ line_tests line_numbered [] n s l (own ++ more) (header_passes s (cut tab l) (line_of (cut tab l)) p) ∙ later)

-- and no element is among them
pub no_element : (s : Sofar) (fs : List Bytes) (l : Line) → line_of fs ≡ l → PassesLine header_tests header_numbered s fs l → s.before ≡ [] → (extended s l).before ≡ []
no_element s fs (attribute_line a) e p h = h
no_element s fs (tree_line k d n w ts) e (f2, (f3, (f6, f))) h = contradiction refl f6
no_element s fs (obligation_line n w) e (f2, (f3, (f14, f))) h = contradiction refl f14
no_element s fs other_line e p h = h

-- A file that was written
record Writes (header : Bytes) (es : List Element) (t : Bytes) : Type 0 where
  pub start : Sofar
  pub header_read : ReadText header_tests header_numbered header start (front (cut newline header))
  pub sofar : Sofar
  pub elements_read : read_elements (suc (length start.attributes)) start es ≡ given sofar
  pub some_element : empty sofar.before ≡ false
  pub text : header ++ tree_text sofar.attributes (reverse sofar.before) ≡ t
  pub size : length t ≤ 16384

pub fitted_given : (room : ℕ) (t u : Bytes) → fitted room t ≡ given u → t ≡ u
fitted_given room t u h = go (test (ltb room (length t)))
  where
    go : Test (ltb room (length t)) → t ≡ u
    go (passed e) = let x : refused 11 (length t) ≡ given u = rw e at h in refused-given x
    go (failed e) = let x : given t ≡ given u = rw e at h in given_given x

writes : (room : ℕ) (header : Bytes) (es : List Element) (t : Bytes) → write_file room header es ≡ given t → Writes header es t
unfolding write_file
writes room header es t h =
    let (u, h1, h2) = step_then (short header) _ t h in
    let (s, h3, h4) = step_then (read_text header_tests u) _ t h2 in
    let (p, h5, h6) = step_then (read_elements (suc (length s.attributes)) s es then finished) _ t h4 in
    let (z, h7, h8) = step_then (read_elements (suc (length s.attributes)) s es) finished p h5 in
    let (v, h9, h10) = step_then (short (u ++ tree_text p.attributes p.elements)) (fitted room) t h6 in
    made u s z p v h1 h3 h7 h8 h9 h10
  where
    made : (u : Bytes) (s z : Sofar) (p : Policy) (v : Bytes) → short header ≡ given u → read_text header_tests u ≡ given s → read_elements (suc (length s.attributes)) s es ≡ given z → finished z ≡ given p
        → short (u ++ tree_text p.attributes p.elements) ≡ given v → fitted room v ≡ given t → Writes header es t
    made u s z p v a b c d e f =
        let (same-header, header_size) = short_given header u a in
        let (some_element, is_policy) = finished_given z p d in
        let (same_text, size) = short_given (u ++ tree_text p.attributes p.elements) v e in
        let whole = same_text ∙ fitted_given room v t f in
        record {
          start = s;
          header_read = text_read header_tests header_numbered header s (rw same-header b);
          sofar = z;
          elements_read = c;
          some_element = some_element;
          text = rw same-header (subst (λ q. u ++ tree_text q.attributes q.elements ≡ t) is_policy whole);
          size = subst (λ x. length x ≤ 16384) whole size;
        }

-- Its lines
obligation_lines : (os : List Obligation) → gathered (λ o. line (obligation_fields o)) os ≡ unlines (map bare_obligation os)
obligation_lines [] = refl
obligation_lines (o ∷ os) = ap (λ x. line (obligation_fields o) ++ x) (obligation_lines os)

tree_lines : (attrs : List Attribute) (es : List Element) → tree_text attrs es ≡ unlines (gathered (bare_lines attrs) es)
tree_lines attrs [] = refl
tree_lines attrs (e ∷ es) =
    ap₂ (λ x y. (line (element_fields attrs e) ++ x) ++ y) (obligation_lines (obligations_of e)) (tree_lines attrs es)
    ∙ sym (unlines_append (bare_lines attrs e) (gathered (bare_lines attrs) es))

obligation_lines_free : (os : List Obligation) → All GoodObligation os → Frees newline (map bare_obligation os)
obligation_lines_free [] g = tt
obligation_lines_free (o ∷ os) g = (join_free newline tab (obligation_fields o) refl (fields_free newline (obligation_fields o) refl (fields_of_obligation o g.0)), obligation_lines_free os g.1)

pub lines_free : (attrs : List Attribute) (es : List Element) → All GoodAttribute attrs → All (GoodElement attrs) es → Frees newline (gathered (bare_lines attrs) es)
lines_free attrs [] g h = tt
lines_free attrs (e ∷ es) g h =
    (join_free newline tab (element_fields attrs e) refl (fields_free newline (element_fields attrs e) refl (element_fields_lem attrs e g h.0)), frees_append newline (map bare_obligation (obligations_of e)) (gathered (bare_lines attrs) es) (obligation_lines_free (obligations_of e) h.0.carried.each_good) (lines_free attrs es g h.1))

-- Elements written and read again are the same elements, behind the same attribute lines
written_reread : (header t : Bytes) (es : List Element) → All Shaped es → Writes header es t → ((read t then λ p. given p.elements) ≡ given es) × (attribute_lines t ≡ header)
written_reread header t es shaped w =
    let own = front (cut newline header) in
    let s = w.start in
    let z = w.sofar in
    let more = gathered (bare_lines s.attributes) es in
    let header-lines = w.header_read.lines_read in
    let g = lines_keep header_tests header_numbered Good header_good [] 1 nothing own s header-lines nothing_good in
    let no-elements = lines_keep header_tests header_numbered (λ x. x.before ≡ []) no_element [] 1 nothing own s header-lines refl in
    let taken = elements_taken (suc (length s.attributes)) s es z shaped w.elements_read in
    let same_elements : reverse z.before ≡ es = taken.elements_added ∙ ap (λ x. reverse x ++ es) no-elements in
    let tree : tree_text z.attributes (reverse z.before) ≡ unlines more = rw (taken.attributes_stay, same_elements) (tree_lines s.attributes es) in
    let whole : t ≡ unlines (own ++ more) = sym w.text ∙ ap (λ x. x ++ tree_text z.attributes (reverse z.before)) (text_unlines header own w.header_read.pieces) ∙ ap (λ x. unlines own ++ x) tree ∙ sym (unlines_append own more) in
    let back = elements_back (suc (length s.attributes)) s es z g shaped w.elements_read in
    let free : Frees newline (own ++ more) = frees_append newline own more (frees_front newline (cut newline header) (cut_frees newline header)) (lines_free s.attributes es g.attributes_good back.elements_good) in
    let (n, header-again) = header_back 1 nothing own s more header-lines in
    let is_read : read t ≡ given (policy_of z) = read_lines_lem t (own ++ more) z w.size (ap (cut newline) whole ∙ cut_unlines (own ++ more) free) (header-again ∙ back.lines_read n) w.some_element in
    (rw is_read (ap given same_elements), append_cancel_right (attribute_lines t) header (tree_text z.attributes (reverse z.before)) (sym (file_text t (policy_of z) is_read) ∙ sym w.text))

pub reread : (room : ℕ) (header t : Bytes) (es : List Element) → All Shaped es → write_file room header es ≡ given t → ((read t then λ p. given p.elements) ≡ given es) × (attribute_lines t ≡ header)
reread room header t es shaped h = written_reread header t es shaped (writes room header es t h)

-- Both ways
pub round_trips : RoundTrips
round_trips = record { rewritten = rewritten; reread = reread }
