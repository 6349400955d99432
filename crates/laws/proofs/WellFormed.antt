-- A file is accepted, as a policy, exactly if it is a policy file of that policy.
use mathlib.Core.Path.{◌≡◌, refl, sym, ap, ap₂, ◌∙◌, subst}
use mathlib.Core.Logic.{◌↔◌}
use Prim.Native.Nat.{ℕ, suc, ◌+◌, ◌≤◌, ◌<◌, zero-le, suc-le-suc}
use native.Mathlib.Omega.{arith}
use native.Mathlib.Nat.{mul-le-mul_left}
use mathlib.Core.Bool.{Bool, true, false}
use mathlib.Core.List.{List, [], ◌∷◌, ◌++◌, map, reverse, reverse_aux, reverse-reverse, map-append, append_assoc, append-nil}
use lib.ListN.{length, length-append, length-map, length-reverse}
use lib.Seq.{append_snoc}
use borrow.Author.Tests.{lt-leb, le-ltb, lt-ltb}
use Rattle.meaning.specs.Text.{Bytes, empty, all, cut, join, newline, tab, is_field, is_name, gathered, among_names}
use Rattle.meaning.specs.Model.{◌then◌, Attribute, name_of, Policy, choices, most_values, sizes, space, given, letter_text, word_text, obligations_of, with_obligations, obligation_name, attribute_fields}
use Rattle.meaning.specs.Reading.{Line, attribute_line, line_of, Sofar, Tests, attribute_tests, element_tests, line_tests, with_element, extended, read_lines, nothing, read, may_have_obligations, obligation_tests}
use Rattle.meaning.specs.Writing.{header_tests, read_elements, obligation_fields}
use Rattle.meaning.specs.Claims.Texts.{All, Each, DistinctNames}
use Rattle.meaning.specs.Claims.PolicyFile.{GoodAttribute, attribute_names, Placed, NewName, GoodLines, WellFormed}
use Rattle.laws.proofs.Types.{Element, Obligation, rule}
use Rattle.laws.proofs.Bools.{contradiction, and_true, Test, passed, failed, test}
use Rattle.laws.proofs.Lists.{map_map}
use Rattle.laws.proofs.Text.{Frees, cut_join, join_free, frees_append}
use Rattle.laws.proofs.Reading.{Passes, Numbered, line_numbered, PassesLine, read_step⁻, accepted, short_text}
use Rattle.laws.proofs.Fields.{fields_free, name_field}
use Rattle.laws.proofs.Bounds.{GoodElement, filled, Good, element_good, header_numbered}
use Rattle.laws.proofs.Requests.{product_pos}
use Rattle.laws.proofs.Answers.{positive}
use Rattle.laws.proofs.Rewritten.{only, line_fields, tree_count}
use Rattle.laws.proofs.Reread.{lines_free}
use Rattle.laws.proofs.Words.{HasWord, allowed_word}
use Rattle.laws.proofs.ObligationLines.{of_lines, OfLines}
use Rattle.laws.proofs.Placed.{placed_well}
use Rattle.laws.proofs.Names.{new_name, names_distinct, distinct_new}
use Rattle.laws.proofs.FirstBad.{text_given, rows_read}
use Rattle.laws.proofs.GoodSofar.{not_empty, GoodSofar, nothing_sofar, line_sofar, good_lines}
use Rattle.laws.proofs.LinesBack.{bare, element_lines_lem, bare_lines}
use Rattle.laws.proofs.Places.{Carried, GoodObligation, AllPass, lines_in, obligations_counted, read_element_lem, own_obligations_lem, lines_append}

-- Accepted: its lines break no rule
accepted_well : (f : Bytes) (p : Policy) → read f ≡ given p → WellFormed f p
accepted_well f p h =
    let a = accepted f p h in
    let z = a.sofar in
    let (rows, text, good) = text_given line_tests line_numbered GoodSofar line_sofar nothing_sofar f z a.text in
    let some_element : 1 ≤ length (reverse z.before) = rw (length-reverse z.before) (filled z.before a.some_element) in
    subst (WellFormed f) (sym a.is_policy) (record { size = a.size; rows = rows; text = text; good = good_lines z rows good; some_element = some_element })

-- A policy file's attribute lines are read
abbrev attribute_text : Attribute → Bytes
attribute_text a = join tab (attribute_fields a)

names_fields : (ns : List Bytes) → all is_name ns ≡ true → all is_field ns ≡ true
names_fields [] h = refl
names_fields (n ∷ ns) h = let (a, b) = and_true (is_name n) (all is_name ns) h in rw (name_field n a, names_fields ns b)

module _ (a : Attribute) (g : GoodAttribute a) where
  letter_field : (several : Bool) → is_field (letter_text several) ≡ true
  letter_field true = refl
  letter_field false = refl

  pub fields_good : all is_field (attribute_fields a) ≡ true
  fields_good = rw (letter_field a.several, name_field a.name g.named, names_fields a.values g.values_named)

  pub text_cut : cut tab (attribute_text a) ≡ attribute_fields a
  text_cut = cut_join tab (letter_text a.several) (a.name ∷ a.values) (fields_free tab (attribute_fields a) refl fields_good)

  is_attribute : line_of (attribute_fields a) ≡ attribute_line a
  is_attribute = go a.several a.name a.values g.some_value
    where
      go : (several : Bool) (n : Bytes) (vs : List Bytes) → 1 ≤ length vs → line_of (letter_text several ∷ n ∷ vs) ≡ attribute_line (record { several = several; name = n; values = vs })
      go several n [] l = absurd (omega arith)
      go true n (v ∷ vs) l = refl
      go false n (v ∷ vs) l = refl

space_grows : (xs ys : List Attribute) → All GoodAttribute ys → space xs ≤ space (xs ++ ys)
space_grows [] ys g = product_pos (sizes ys) (positive ys g)
space_grows (x ∷ xs) ys g = mul-le-mul_left (choices x) (space_grows xs ys g)

-- by the reader and, alone, by the writer
module _ (tests : Sofar → Line → Tests) (numbered : (s : Sofar) (l : Line) → Numbered (tests s l)) (alike : (s : Sofar) (a : Attribute) → tests s (attribute_line a) ≡ attribute_tests s a) where
  attributes_read : (rest : Bytes) (bs attrs : List Attribute) (n m : ℕ) (more : List Bytes) → m ≡ n + length bs → All GoodAttribute bs → DistinctNames (attribute_names (attrs ++ bs)) → length (attrs ++ bs) ≤ 6 → space (attrs ++ bs) ≤ 4096
      → read_lines tests rest n (only attrs) (map attribute_text bs ++ more) ≡ read_lines tests rest m (only (attrs ++ bs)) more
  attributes_read rest [] attrs n m more c g d l s = let e : n ≡ m = omega arith in rw e (ap (λ x. read_lines tests rest m (only x) more) (sym (append-nil attrs)))
  attributes_read rest (a ∷ bs) attrs n m more c g d l s =
      let split : (attrs ++ (a ∷ [])) ++ bs ≡ attrs ++ (a ∷ bs) = append_snoc attrs a bs in
      let new = new_name a.name (attribute_names attrs) (distinct_new (attribute_names attrs) a.name (attribute_names bs) (subst DistinctNames (map-append (λ a. a.name) attrs (a ∷ bs)) d)) in
      let few : length attrs < 6 = omega (arith, l, length-append attrs (a ∷ bs)) in
      let small : space (attrs ++ (a ∷ [])) ≤ 4096 = omega (arith, s, ap space split, space_grows (attrs ++ (a ∷ [])) bs g.1) in
      let own : Passes (attribute_tests (only attrs) a) =
      (rw (g.0.named, g.0.values_named), (rw (new, names_distinct a.values g.0.distinct), (rw (lt-leb 6 (length attrs) few, le-ltb (most_values a.several) (length a.values) g.0.few_values, le-ltb 4096 (space (attrs ++ (a ∷ []))) small), (refl, tt)))) in
      let passes : PassesLine tests numbered (only attrs) (attribute_fields a) (attribute_line a) = (rw (fields_good a g.0), subst Passes (sym (alike (only attrs) a)) own) in
      let later = attributes_read rest bs (attrs ++ (a ∷ [])) (suc n) m more (omega arith) g.1 (subst (λ x. DistinctNames (attribute_names x)) (sym split) d) (subst (λ x. length x ≤ 6) (sym split) l) (subst (λ x. space x ≤ 4096) (sym split) s) in
      read_step⁻ tests numbered rest n (only attrs) (attribute_text a) (map attribute_text bs ++ more) (subst (λ x. PassesLine tests numbered (only attrs) x (line_of x)) (sym (text_cut a g.0)) (subst (PassesLine tests numbered (only attrs) (attribute_fields a)) (sym (is_attribute a g.0)) passes))
      ∙ ap (λ x. read_lines tests rest (suc n) (extended (only attrs) x) (map attribute_text bs ++ more)) (ap line_of (text_cut a g.0) ∙ is_attribute a g.0)
      ∙ later ∙ ap (λ x. read_lines tests rest m (only x) more) split

-- Its elements pass, each behind those before it, and their obligations
abbrev pub PassEach : Sofar → List Element → Type 0
PassEach s [] = Unit {0}
PassEach s (e ∷ es) = Passes (element_tests s (word_text e.word) e) × AllPass (with_element s (with_obligations [] e)) (obligations_of e) × PassEach (with_element s e) es

obligations_pass : (s : Sofar) (e : Element) (os : List Obligation) → Carried e.kind os → AllPass (with_element s (with_obligations [] e)) os
obligations_pass s e [] c = tt
obligations_pass s e (o ∷ os) c = go os c.at_most_two c.each_good c.names_once
  where
    may : Test (may_have_obligations e.kind) → may_have_obligations e.kind ≡ true
    may (passed x) = x
    may (failed x) = absurd (omega (arith, ap length (c.rule_bare x)))

    passes : (x : Obligation) (earlier : List Obligation) → length earlier < 2 → obligations_of (with_obligations earlier e) ≡ earlier → GoodObligation x → among_names (obligation_name x) (map obligation_name earlier) ≡ false
        → Passes (obligation_tests (with_element s (with_obligations earlier e)) (word_text x.word) x)
    passes x earlier room own g new = (g.named, (rw own new, (rw (may (test (may_have_obligations e.kind)), own, lt-ltb (length earlier) 2 room), (allowed_word rule x.word g.effect, tt))))

    go : (os : List Obligation) → length (o ∷ os) ≤ 2 → All GoodObligation (o ∷ os) → DistinctNames (map obligation_name (o ∷ os)) → AllPass (with_element s (with_obligations [] e)) (o ∷ os)
    go [] l g d = (passes o [] (omega arith) refl g.0 refl, tt)
    go (x ∷ []) l g d = (passes o [] (omega arith) refl g.0 refl, (passes x (o ∷ []) (omega arith) refl g.1.0 (new_name (obligation_name x) (obligation_name o ∷ []) (distinct_new (obligation_name o ∷ []) (obligation_name x) [] d)), tt))
    go (x ∷ y ∷ os) l g d = absurd (omega arith)

elements_pass : (attrs : List Attribute) (es before : List Element) → (1 ≤ length es → 1 ≤ length attrs) → All (GoodElement attrs) es → All HasWord es → Each Placed before es → Each NewName before es → length before + length es ≤ 64
    → PassEach (record { attributes = attrs; before = before }) es
elements_pass attrs [] before some h w p q l = tt
elements_pass attrs (e ∷ es) before some h w p q l =
    let placed = placed_well before e.kind e.depth h.0.shallow p.0 in (
      (rw (h.0.named, h.0.unused_zero), (new_name (name_of e) (map name_of before) q.0, (lt-leb 64 (length before) (omega arith), (rw (not_empty attrs (some (suc-le-suc zero-le)), placed), (w.0, (h.0.masked, tt)))))),
      obligations_pass (record { attributes = attrs; before = before }) e (obligations_of e) h.0.carried,
      elements_pass attrs es (e ∷ before) (λ x. some (suc-le-suc zero-le)) h.1 w.1 p.1 q.1 (omega arith),
    )

passed_behind : (attrs : List Attribute) (xs ys before : List Element) → PassEach (record { attributes = attrs; before = before }) (xs ++ ys) → PassEach (record { attributes = attrs; before = before }) xs × PassEach (record { attributes = attrs; before = reverse_aux xs before }) ys
passed_behind attrs [] ys before p = (tt, p)
passed_behind attrs (x ∷ xs) ys before p = let (a, b) = passed_behind attrs xs ys (x ∷ before) p.2 in ((p.0, p.1, a), b)

-- so their lines are read
elements_read : (rest : Bytes) (attrs : List Attribute) (es before : List Element) (n m : ℕ) (more : List Bytes) → m ≡ n + lines_in es → Good (record { attributes = attrs; before = before }) → All (GoodElement attrs) es
    → PassEach (record { attributes = attrs; before = before }) es
    → read_lines line_tests rest n (record { attributes = attrs; before = before }) (gathered (bare_lines attrs) es ++ more) ≡ read_lines line_tests rest m (record { attributes = attrs; before = reverse_aux es before }) more
elements_read rest attrs [] before n m more c g h p = let e : n ≡ m = omega arith in rw e
elements_read rest attrs (e ∷ es) before n m more c g h p =
    let s : Sofar = record { attributes = attrs; before = before } in
    ap (read_lines line_tests rest n s) (append_assoc (bare_lines attrs e) (gathered (bare_lines attrs) es) more)
    ∙ element_lines_lem rest s e g h.0 p.0 p.1 n (gathered (bare_lines attrs) es ++ more)
    ∙ elements_read rest attrs es (e ∷ before) (n + suc e.obligations) m more (omega (arith, obligations_counted e h.0.few_obligations)) (element_good s (word_text e.word) e e p.0 h.0 g) h.1 p.2

-- and the writer takes them
all_taken : (attrs : List Attribute) (es before : List Element) (n m : ℕ) (more : List Element) → m ≡ n + lines_in es → All (GoodElement attrs) es → PassEach (record { attributes = attrs; before = before }) es
    → read_elements n (record { attributes = attrs; before = before }) (es ++ more) ≡ read_elements m (record { attributes = attrs; before = reverse_aux es before }) more
all_taken attrs [] before n m more c h p = let e : n ≡ m = omega arith in rw e
all_taken attrs (e ∷ es) before n m more c h p =
    let s : Sofar = record { attributes = attrs; before = before } in
    let own = read_element_lem n s e p.0 p.1 h.0.few_obligations ∙ ap (λ x. given (with_element s x)) (own_obligations_lem e h.0.few_obligations h.0.shaped h.0.unused_zero) in
    ap (λ x. x then λ t. read_elements (n + suc e.obligations) t (es ++ more)) own
    ∙ all_taken attrs es (e ∷ before) (n + suc e.obligations) m more (omega (arith, obligations_counted e h.0.few_obligations)) h.1 p.2

pub all_before : {A : Type 0} (P : A → Type 0) (xs ys : List A) → All P (xs ++ ys) → All P xs
all_before P [] ys a = tt
all_before P (x ∷ xs) ys a = (a.0, all_before P xs ys a.1)

attributes_free : (bs : List Attribute) → All GoodAttribute bs → Frees newline (map attribute_text bs)
attributes_free [] g = tt
attributes_free (a ∷ bs) g = (join_free newline tab (attribute_fields a) refl (fields_free newline (attribute_fields a) refl (fields_good a g.0)), attributes_free bs g.1)

-- the lines of elements, by their fields
tree_texts : (attrs : List Attribute) (es : List Element) → map (join tab) (gathered (line_fields attrs) es) ≡ gathered (bare_lines attrs) es
tree_texts attrs [] = refl
tree_texts attrs (e ∷ es) = map-append (join tab) (line_fields attrs e) (gathered (line_fields attrs) es) ∙ ap₂ (λ x y. (bare attrs e ∷ x) ++ y) (map_map (join tab) obligation_fields (obligations_of e)) (tree_texts attrs es)

-- Lines that break no rule are read, whatever stands behind them
module _ (rows : List (List Bytes)) (attrs : List Attribute) (es : List Element) (x : GoodLines rows attrs es) where
  abbrev texts : List Bytes
  texts = map attribute_text attrs ++ gathered (bare_lines attrs) es

  of_tree : OfLines attrs x.attributes_good x.few_attributes x.tree es
  of_tree = of_lines attrs x.attributes_good x.few_attributes x.tree es x.tree_lines

  pub rows_are : rows ≡ map attribute_fields attrs ++ gathered (line_fields attrs) es
  rows_are = x.are ∙ ap (λ r. map attribute_fields attrs ++ r) of_tree.fields

  rows_texts : map (join tab) rows ≡ texts
  rows_texts =
      ap (map (join tab)) rows_are ∙ map-append (join tab) (map attribute_fields attrs) (gathered (line_fields attrs) es) ∙ ap₂ (λ a b. a ++ b) (map_map (join tab) attribute_fields attrs) (tree_texts attrs es)

  pub rows_free : Frees newline (map (join tab) rows)
  rows_free = rw rows_texts (frees_append newline (map attribute_text attrs) (gathered (bare_lines attrs) es) (attributes_free attrs x.attributes_good) (lines_free attrs es x.attributes_good of_tree.good))

  texts_count : length rows ≡ length attrs + lines_in es
  texts_count = ap length rows_are ∙ length-append (map attribute_fields attrs) (gathered (line_fields attrs) es) ∙ ap₂ (λ i j. i + j) (length-map attrs attribute_fields) (tree_count attrs es)

  passing : PassEach (only attrs) es
  passing = elements_pass attrs es [] x.some_attribute of_tree.good of_tree.words x.placed x.new_names (omega (arith, x.few_elements))

  pub good_read : (rest : Bytes) (more : List Bytes) → read_lines line_tests rest 1 nothing (map (join tab) rows ++ more) ≡ read_lines line_tests rest (suc (length rows)) (record { attributes = attrs; before = reverse es }) more
  good_read rest more =
      let start : Good (only attrs) = record { attributes_good = x.attributes_good; some_attribute = λ h. contradiction refl h; few_attributes = x.few_attributes; small_space = x.small_space; elements_good = tt; few_elements = zero-le } in
      ap (λ y. read_lines line_tests rest 1 nothing (y ++ more)) rows_texts
      ∙ ap (read_lines line_tests rest 1 nothing) (append_assoc (map attribute_text attrs) (gathered (bare_lines attrs) es) more)
      ∙ attributes_read line_tests line_numbered (λ s a. refl) rest attrs [] 1 (1 + length attrs) (gathered (bare_lines attrs) es ++ more) refl x.attributes_good x.attributes_distinct x.few_attributes x.small_space
      ∙ elements_read rest attrs es [] (1 + length attrs) (suc (length rows)) more (omega (arith, texts_count)) start of_tree.good passing

  -- the attribute lines by the writer, and then the elements
  pub header_read : (rest : Bytes) (more : List Bytes) → read_lines header_tests rest 1 nothing (map (join tab) (map attribute_fields attrs) ++ more) ≡ read_lines header_tests rest (suc (length (map attribute_fields attrs))) (only attrs) more
  header_read rest more =
      ap (λ y. read_lines header_tests rest 1 nothing (y ++ more)) (map_map (join tab) attribute_fields attrs)
      ∙ attributes_read header_tests header_numbered (λ s a. refl) rest attrs [] 1 (suc (length (map attribute_fields attrs))) more (omega (arith, length-map attrs attribute_fields)) x.attributes_good x.attributes_distinct x.few_attributes x.small_space

  pub header_free : Frees newline (map (join tab) (map attribute_fields attrs))
  header_free = rw (map_map (join tab) attribute_fields attrs) (attributes_free attrs x.attributes_good)

  pub good_taken : (more : List Element) → read_elements (suc (length attrs)) (only attrs) (es ++ more) ≡ read_elements (suc (length rows)) (record { attributes = attrs; before = reverse es }) more
  good_taken more = all_taken attrs es [] (suc (length attrs)) (suc (length rows)) more (omega (arith, texts_count)) of_tree.good passing

-- the elements before one of them, and how that one passes behind them
pub one_taken : (rows : List (List Bytes)) (attrs : List Attribute) (before : List Element) (e : Element) → GoodLines rows attrs (before ++ (e ∷ [])) → (m : ℕ) → m ≡ suc (length attrs + lines_in before) → (more : List Element)
    → PassEach (record { attributes = attrs; before = reverse before }) (e ∷ []) × (read_elements (suc (length attrs)) (only attrs) (before ++ more) ≡ read_elements m (record { attributes = attrs; before = reverse before }) more) × (length rows ≡ length attrs + lines_in before + suc (length (obligations_of e)))
one_taken rows attrs before e x m count more =
    let es = before ++ (e ∷ []) in
    let (earlier, own) = passed_behind attrs before (e ∷ []) [] (passing rows attrs es x) in
    (own, all_taken attrs before [] (suc (length attrs)) m more (omega (arith, count)) (all_before (GoodElement attrs) before (e ∷ []) (of_tree rows attrs es x).good) earlier, omega (arith, texts_count rows attrs es x, lines_append before (e ∷ [])))

well_accepted : (f : Bytes) (p : Policy) → WellFormed f p → read f ≡ given p
unfolding read
well_accepted f p x =
    let attrs = p.attributes in
    let es = p.elements in
    let s : Sofar = record { attributes = attrs; before = reverse es } in
    let all_read = rows_read line_tests line_numbered s x.rows (good_read x.rows attrs es x.good) f x.text (rows_free x.rows attrs es x.good) in
    let some_element : empty (reverse es) ≡ false = not_empty (reverse es) (omega (arith, length-reverse es, x.some_element)) in
    rw (short_text f x.size, all_read, some_element) (ap (λ y. given (record { attributes = attrs; elements = y })) (reverse-reverse es))

pub well_formed : (f : Bytes) (p : Policy) → read f ≡ given p ↔ WellFormed f p
well_formed f p = (accepted_well f p, well_accepted f p)
