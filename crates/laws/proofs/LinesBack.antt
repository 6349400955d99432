-- An element's lines, read again: the same element with its obligations.
use mathlib.Core.Path.{◌≡◌, refl, sym, ap, ◌∙◌, subst, subst⁻¹}
use Prim.Native.Nat.{ℕ, zero, suc, ◌+◌, ◌-◌, ◌≤◌}
use native.Mathlib.Omega.{arith}
use mathlib.Core.Bool.{true, false}
use mathlib.Core.List.{List, [], ◌∷◌, ◌++◌, map}
use lib.ListN.{length, take, drop, take-append-drop, length-drop}
use lib.Seq.{length-take-le}
use borrow.Author.Tests.{le-leb, eq-eqb}
use Rattle.laws.proofs.Types.{Element, Obligation, rule}
use Rattle.meaning.specs.Text.{Bytes, is_none, between, cut, join, tab, decimal, all, is_field, bytes}
use Rattle.meaning.specs.Model.{Attribute, padded, name_of, kind_text, word_text, obligations_of, with_obligations, places_of, unused, obligation_name}
use Rattle.meaning.specs.Reading.{Line, tree_line, line_of, depth_of, word_of, masks_of, or_permit, element_of, Sofar, non_zero, bad_masks, element_tests, line_tests, wrong_fields, with_element, extended, read_lines, obligation_tests, obligation_of, with_obligation, obligation_line}
use Rattle.meaning.specs.Writing.{target_texts, element_fields, obligation_fields}
use Rattle.meaning.specs.Claims.Writing.{Shaped}
use Rattle.meaning.specs.Claims.Texts.{All}
use Rattle.meaning.specs.Claims.PolicyFile.{GoodAttribute}
use Rattle.laws.proofs.Places.{GoodObligation, none_carried, only_zeros, AllPass, ReadElement, obligations_counted, with_all, all_with, few_obligations, own_obligations_lem, element_kept}
use Rattle.laws.proofs.Bounds.{GoodElement, GoodLine, stored_short, element_line_good, own_line, with_good, obligation_good, stored, Good, element_good, named, masks_good}
use Rattle.laws.proofs.Bools.{contradiction}
use Rattle.laws.proofs.Text.{cut_join}
use Rattle.laws.proofs.Names.{names_distinct}
use Rattle.laws.proofs.Reading.{Passes, line_numbered, PassesLine, read_step⁻}
use Rattle.laws.proofs.Lines.{tree_line_lem}
use Rattle.laws.proofs.Targets.{mask_read}
use Rattle.laws.proofs.Fields.{digit, fields_free, element_fields_lem, name_field, word_field}
use Rattle.laws.proofs.Words.{word_back, word_allowed}

-- A depth, a padded name and masks, read again
pub depth_back : (d : ℕ) → d ≤ 7 → depth_of (decimal d) ≡ d
depth_back d l =
    let octal : between 48 55 (48 + d) ≡ true = rw (le-leb 48 (48 + d) (omega arith), le-leb (48 + d) 55 (omega arith)) in
    rw (digit d (omega arith), octal) (omega arith)

pub padded_take : (size k : ℕ) (xs : List ℕ) → length xs ≡ size → k ≤ size → non_zero (drop k xs) ≡ false → padded size (take k xs) ≡ xs
padded_take size k xs e l z =
    let t : length (take k xs) ≡ k = length-take-le k xs (omega arith) in
    let d : size - k ≡ length (drop k xs) = sym (length-drop k xs ∙ ap (λ n. n - k) e) in
    rw (t, d, ← only_zeros (drop k xs) z) (take-append-drop k xs)

-- The masks, read again
pub record MasksBack (attrs : List Attribute) (ms : List ℕ) : Type 0 where
  pub count : length (target_texts attrs ms) ≡ length attrs
  pub masks : masks_of attrs (target_texts attrs ms) ≡ take (length attrs) ms
  pub zeros_behind : non_zero (drop (length attrs) ms) ≡ false

pub masks_back : (attrs : List Attribute) (ms : List ℕ) → All GoodAttribute attrs → bad_masks attrs ms ≡ false → MasksBack attrs ms
masks_back [] ms g h = record { count = refl; masks = refl; zeros_behind = h }
masks_back (a ∷ attrs) [] g h = contradiction refl h
masks_back (a ∷ attrs) (m ∷ ms) g h =
    let b = masks_good a attrs m ms h in
    let later = masks_back attrs ms g.1 b.others in
    let own = mask_read a.values m g.0.values_named (names_distinct a.values g.0.distinct) b.not_empty b.no_high_bit in
    record { count = ap suc later.count; masks = rw (own, later.masks); zeros_behind = later.zeros_behind }

-- An element that passed: its line, without the newline, is read as that element
abbrev pub bare : List Attribute → Element → Bytes
bare attrs e = join tab (element_fields attrs e)

abbrev line_for : List Attribute → Element → Line
line_for attrs e = tree_line e.kind (decimal e.depth) (name_of e) (word_text e.word) (target_texts attrs e.masks)

module _ (attrs : List Attribute) (e : Element) (attributes_good : All GoodAttribute attrs) (few : length attrs ≤ 6) (g : GoodLine attrs e) where
  own_fields : all is_field (element_fields attrs e) ≡ true
  own_fields = element_fields_lem attrs (with_obligations [] e) attributes_good (with_good attrs e [] g (none_carried e.kind))

  bare_line : (cut tab (bare attrs e) ≡ element_fields attrs e) × (line_of (element_fields attrs e) ≡ line_for attrs e)
  bare_line =
      let rest = decimal e.depth ∷ name_of e ∷ word_text e.word ∷ target_texts attrs e.masks in
      (cut_join tab (kind_text e.kind) rest (fields_free tab (element_fields attrs e) refl own_fields), tree_line_lem e.kind (decimal e.depth) (name_of e) (word_text e.word) (target_texts attrs e.masks))

  element_back : is_none (word_of e.kind (word_text e.word)) ≡ false → element_of attrs e.kind (decimal e.depth) (name_of e) (word_text e.word) (target_texts attrs e.masks) ≡ with_obligations [] e
  element_back w =
      let n = named e g.named in
      let m = masks_back attrs e.masks attributes_good g.masked in
      let short = stored_short e.len e.name g.named in
      let depth : depth_of (decimal e.depth) ≡ e.depth = depth_back e.depth g.shallow in
      let name : padded 16 (name_of e) ≡ e.name = padded_take 16 e.len e.name g.name_size short n.zeros_behind in
      let len : length (name_of e) ≡ e.len = length-take-le e.len e.name (omega (arith, g.name_size)) in
      let word : or_permit (word_of e.kind (word_text e.word)) ≡ e.word = word_back e.kind e.word w in
      let masks : padded 6 (masks_of attrs (target_texts attrs e.masks)) ≡ e.masks = rw m.masks (padded_take 6 (length attrs) e.masks g.masks_size few m.zeros_behind) in
      λ i. record { kind = e.kind; depth = depth i; name = name i; len = len i; word = word i; masks = masks i; obligations = 0; first = unused; second = unused }

element_line : (rest : Bytes) (s : Sofar) (e : Element) → Good s → GoodLine s.attributes e → Passes (element_tests s (word_text e.word) e) → (n : ℕ) (ls : List Bytes)
    → read_lines line_tests rest n s (bare s.attributes e ∷ ls) ≡ read_lines line_tests rest (suc n) (with_element s (with_obligations [] e)) ls
element_line rest s e g h p n ls =
    let attrs = s.attributes in
    let (pieces, is_tree) = bare_line attrs e g.attributes_good g.few_attributes h in
    let back = element_back attrs e g.attributes_good g.few_attributes h p.1.1.1.1.0 in
    let count = (masks_back attrs e.masks g.attributes_good h.masked).count in
    let fields : wrong_fields s (element_fields attrs e) (line_for attrs e) ≡ false = rw (own_fields attrs e g.attributes_good g.few_attributes h, eq-eqb (length (target_texts attrs e.masks)) (length attrs) count) in
    let own : Passes (element_tests s (word_text e.word) (with_obligations [] e)) = (rw h.named, p.1) in
    let passes : PassesLine line_tests line_numbered s (element_fields attrs e) (line_for attrs e) = (fields, subst⁻¹ (λ x. Passes (element_tests s (word_text e.word) x)) back own) in
    read_step⁻ line_tests line_numbered rest n s (bare attrs e) ls (rw (pieces, is_tree) passes)
    ∙ ap (λ x. read_lines line_tests rest (suc n) (extended s x) ls) (ap line_of pieces ∙ is_tree)
    ∙ ap (λ x. read_lines line_tests rest (suc n) (with_element s x) ls) back

-- An obligation that passed: its line is read as that obligation
abbrev pub bare_obligation : Obligation → Bytes
bare_obligation o = join tab (obligation_fields o)

pub fields_of_obligation : (o : Obligation) → GoodObligation o → all is_field (obligation_fields o) ≡ true
fields_of_obligation o g = rw (name_field (obligation_name o) (stored o.len o.name g.named).is_name, word_field o.word)

pub obligation_back : (o : Obligation) → GoodObligation o → is_none (word_of rule (word_text o.word)) ≡ false → obligation_of (obligation_name o) (word_text o.word) ≡ o
obligation_back o g w =
    let n = stored o.len o.name g.named in
    let name : padded 16 (obligation_name o) ≡ o.name = padded_take 16 o.len o.name g.name_size (stored_short o.len o.name g.named) n.zeros_behind in
    let len : length (obligation_name o) ≡ o.len = length-take-le o.len o.name (omega (arith, g.name_size, stored_short o.len o.name g.named)) in
    let word : or_permit (word_of rule (word_text o.word)) ≡ o.word = word_back rule o.word w in
    λ i. record { name = name i; len = len i; word = word i }

obligation_read : (rest : Bytes) (s : Sofar) (o : Obligation) → GoodObligation o → Passes (obligation_tests s (word_text o.word) o) → (n : ℕ) (ls : List Bytes)
    → read_lines line_tests rest n s (bare_obligation o ∷ ls) ≡ read_lines line_tests rest (suc n) (with_obligation s o) ls
obligation_read rest s o g p n ls =
    let pieces : cut tab (bare_obligation o) ≡ obligation_fields o = cut_join tab (bytes "O") (obligation_name o ∷ word_text o.word ∷ []) (fields_free tab (obligation_fields o) refl (fields_of_obligation o g)) in
    let back = obligation_back o g p.1.1.1.0 in
    let fields : wrong_fields s (obligation_fields o) (obligation_line (obligation_name o) (word_text o.word)) ≡ false = rw (fields_of_obligation o g) in
    let passes : PassesLine line_tests line_numbered s (obligation_fields o) (obligation_line (obligation_name o) (word_text o.word)) = (fields, subst⁻¹ (λ x. Passes (obligation_tests s (word_text o.word) x)) back p) in
    read_step⁻ line_tests line_numbered rest n s (bare_obligation o) ls (subst⁻¹ (λ fs. PassesLine line_tests line_numbered s fs (line_of fs)) pieces passes)
    ∙ ap (λ x. read_lines line_tests rest (suc n) (extended s x) ls) (ap line_of pieces)
    ∙ ap (λ x. read_lines line_tests rest (suc n) (with_obligation s x) ls) back

obligations_read_lem : (rest : Bytes) (s : Sofar) (os : List Obligation) → All GoodObligation os → AllPass s os → (n : ℕ) (more : List Bytes)
    → read_lines line_tests rest n s (map bare_obligation os ++ more) ≡ read_lines line_tests rest (n + length os) (with_all s os) more
obligations_read_lem rest s [] g p n more = let e : n ≡ n + 0 = omega arith in ap (λ k. read_lines line_tests rest k s more) e
obligations_read_lem rest s (o ∷ os) g p n more =
    let e : suc n + length os ≡ n + suc (length os) = omega arith in
    obligation_read rest s o g.0 p.0 n (map bare_obligation os ++ more)
    ∙ obligations_read_lem rest (with_obligation s o) os g.1 p.1 (suc n) more
    ∙ ap (λ k. read_lines line_tests rest k (with_all (with_obligation s o) os) more) e

-- An element's lines, read as that element
abbrev pub bare_lines : List Attribute → Element → List Bytes
bare_lines attrs e = bare attrs e ∷ map bare_obligation (obligations_of e)

pub element_lines_lem : (rest : Bytes) (s : Sofar) (e : Element) → Good s → GoodElement s.attributes e → Passes (element_tests s (word_text e.word) e) → AllPass (with_element s (with_obligations [] e)) (obligations_of e) → (n : ℕ) (more : List Bytes)
    → read_lines line_tests rest n s (bare_lines s.attributes e ++ more) ≡ read_lines line_tests rest (n + suc e.obligations) (with_element s e) more
element_lines_lem rest s e g h p q n more =
    let os = obligations_of e in
    let count : suc n + length os ≡ n + suc e.obligations = omega (arith, obligations_counted e h.few_obligations) in
    element_line rest s e g (own_line s.attributes e h) p n (map bare_obligation os ++ more)
    ∙ obligations_read_lem rest (with_element s (with_obligations [] e)) os h.carried.each_good q (suc n) more
    ∙ ap (λ k. read_lines line_tests rest k (with_all (with_element s (with_obligations [] e)) os) more) count
    ∙ ap (λ x. read_lines line_tests rest (n + suc e.obligations) x more) (all_with s e os (few_obligations e) ∙ ap (with_element s) (own_obligations_lem e h.few_obligations h.shaped h.unused_zero))

-- An element that the writer took is good
pub passed_good : (s : Sofar) (o : Obligation) → length o.name ≡ 16 → Passes (obligation_tests s (word_text o.word) o) → GoodObligation o
passed_good s o size (f3, (f4, (f14, (f7, f)))) = record { named = f3; name_size = size; effect = word_allowed rule o.word f7 }

all_good : (s : Sofar) (os : List Obligation) → Good s → All (λ o. length o.name ≡ 16) os → AllPass s os → Good (with_all s os)
all_good s [] g z p = g
all_good s (o ∷ os) g z p = all_good (with_obligation s o) os (obligation_good s (word_text o.word) o (passed_good s o z.0 p.0) p.0 g) z.1 p.1

sizes_of_lem : (e : Element) → Shaped e → All (λ o. length o.name ≡ 16) (obligations_of e)
sizes_of_lem e g = go e.obligations
  where
    go : (n : ℕ) → All (λ o. length o.name ≡ 16) (take n (places_of e))
    go zero = tt
    go (suc zero) = (g.places_size.0, tt)
    go (suc (suc zero)) = g.places_size
    go (suc (suc (suc n))) = g.places_size

pub bare_good : (s : Sofar) (e : Element) → Good s → Shaped e → Passes (element_tests s (word_text e.word) e) → Good (with_element s (with_obligations [] e))
bare_good s e g shaped p =
    let line = element_line_good s (word_text e.word) e shaped.name_size shaped.masks_size p in
    element_good s (word_text e.word) e (with_obligations [] e) p (with_good s.attributes e [] line (none_carried e.kind)) g

pub taken_good : (s : Sofar) (e : Element) (t : Sofar) → Good s → Shaped e → ReadElement s e t → Good (with_element s e)
taken_good s e t g shaped r =
    let whole = all_with s e (obligations_of e) (few_obligations e) ∙ sym r.is ∙ element_kept s e t shaped r in
    subst Good whole (all_good (with_element s (with_obligations [] e)) (obligations_of e) (bare_good s e g shaped r.passes) (sizes_of_lem e shaped) r.obligations_pass)
