-- The lines of each element: how many stand before those of an element that is left, and a rule's one line struck.
use mathlib.Core.Path.{◌≡◌, refl, sym, ap, ◌∙◌}
use Prim.Native.Nat.{ℕ, zero, suc, ◌+◌, ◌≤◌, ◌<◌}
use native.Mathlib.Nat.{zero-add}
use native.Mathlib.Omega.{arith}
use mathlib.Core.Bool.{true}
use mathlib.Core.List.{List, [], ◌∷◌, ◌++◌, map, append_assoc}
use lib.Dec.{ltb}
use lib.ListN.{length, get_or, take, drop, set, take-append-drop, length-append, length-drop}
use lib.Seq.{length-take-le}
use borrow.Author.Tests.{ltb-true, ltb-false}
use Rattle.meaning.specs.Text.{Bytes, gathered, without}
use Rattle.meaning.specs.Model.{Attribute, kind_text, places_of}
use Rattle.meaning.specs.Claims.Texts.{All}
use Rattle.laws.proofs.Types.{Element, rule}
use Rattle.laws.proofs.Bools.{Test, passed, failed, test, contradiction}
use Rattle.laws.proofs.Text.{same_true}
use Rattle.laws.proofs.BadFields.{kind_same}
use Rattle.laws.proofs.Places.{lines_in}
use Rattle.laws.proofs.Bounds.{GoodElement, rule_bare}
use Rattle.trimmed_text.specs.Flags.{is_left, left_from, line_count, lines_by_element, rule_in}
use Rattle.trimmed_text.proofs.Left.{left_count, left_get, left_within, left_strike}

-- More elements have more lines
pub lines_rise : (es : List Element) (c d : ℕ) → c < d → c < length es → lines_in (take c es) < lines_in (take d es)
lines_rise es c zero l b = absurd (omega arith)
lines_rise [] c (suc d) l b = absurd (omega arith)
lines_rise (e ∷ es) zero (suc d) l b = omega arith
lines_rise (e ∷ es) (suc c) (suc d) l b = omega (arith, lines_rise es c d (omega arith) (omega arith))

pub lines_same : (es : List Element) (c d : ℕ) → c < length es → d < length es → lines_in (take c es) ≡ lines_in (take d es) → c ≡ d
lines_same es c d a b e = go (test (ltb c d)) (test (ltb d c))
  where
    go : Test (ltb c d) → Test (ltb d c) → c ≡ d
    go (passed x) y = absurd (omega (arith, lines_rise es c d (ltb-true c d x) a))
    go (failed x) (passed y) = absurd (omega (arith, lines_rise es d c (ltb-true d c y) b))
    go (failed x) (failed y) = omega (arith, ltb-false c d x, ltb-false d c y)

-- a rule has one
pub rule_lines_lem : (attrs : List Attribute) (es : List Element) → All (GoodElement attrs) es → (i : ℕ) → rule_in es i ≡ true → get_or (map line_count es) i 0 ≡ 1
rule_lines_lem attrs [] good i r = contradiction r refl
rule_lines_lem attrs (e ∷ es) good zero r = ap (λ k. suc (length (take k (places_of e)))) (rule_bare attrs e good.0 (kind_same e.kind rule (same_true (kind_text e.kind) (kind_text rule) r)))
rule_lines_lem attrs (e ∷ es) good (suc i) r = rule_lines_lem attrs es good.1 i r

-- The lines of each element: all that there are, and as many as it has
pub lines_count : (es : List Element) (ls : List Bytes) → length (lines_by_element es ls) ≡ length es
unfolding lines_by_element
lines_count [] ls = refl
lines_count (e ∷ es) ls = ap suc (lines_count es (drop (line_count e) ls))

pub lines_all : (es : List Element) (ls : List Bytes) → length ls ≡ lines_in es → gathered (λ l. l) (lines_by_element es ls) ≡ ls
unfolding lines_by_element
lines_all [] [] e = refl
lines_all [] (l ∷ ls) e = absurd (omega (arith, e))
lines_all (x ∷ es) ls e = ap (λ l. take (line_count x) ls ++ l) (lines_all es (drop (line_count x) ls) (omega (arith, e, length-drop (line_count x) ls))) ∙ take-append-drop (line_count x) ls

lines_at_lem : (es : List Element) (ls : List Bytes) (i : ℕ) → lines_in es ≤ length ls → i < length es → length (get_or (lines_by_element es ls) i []) ≡ get_or (map line_count es) i 0
unfolding lines_by_element
lines_at_lem [] ls i room l = absurd (omega arith)
lines_at_lem (e ∷ es) ls zero room l = length-take-le (line_count e) ls (omega arith)
lines_at_lem (e ∷ es) ls (suc i) room l = lines_at_lem es (drop (line_count e) ls) i (omega (arith, length-drop (line_count e) ls)) (omega arith)

-- before those of element c of those left stand the lines of c elements
lines_before : (struck : List ℕ) (i : ℕ) (es : List Element) (ls : List Bytes) (c : ℕ) → lines_in es ≤ length ls
    → length (gathered (λ l. l) (take c (left_from struck i (lines_by_element es ls)))) ≡ lines_in (take c (left_from struck i es))
unfolding lines_by_element left_from
lines_before struck i es ls zero room = refl
lines_before struck i [] ls (suc c) room = refl
lines_before struck i (e ∷ es) ls (suc c) room = go (test (is_left struck i)) (lines_before struck (i + 1) es behind c rest) (lines_before struck (i + 1) es behind (suc c) rest)
  where
    behind : List Bytes
    behind = drop (line_count e) ls

    rest : lines_in es ≤ length behind
    rest = omega (arith, length-drop (line_count e) ls)

    before : ℕ → List Bytes
    before k = gathered (λ l. l) (take k (left_from struck (i + 1) (lines_by_element es behind)))

    go : Test (is_left struck i) → length (before c) ≡ lines_in (take c (left_from struck (i + 1) es)) → length (before (suc c)) ≡ lines_in (take (suc c) (left_from struck (i + 1) es))
        → length (gathered (λ l. l) (take (suc c) (left_from struck i (lines_by_element (e ∷ es) ls)))) ≡ lines_in (take (suc c) (left_from struck i (e ∷ es)))
    go (passed x) own later = rw x (omega (arith, length-append (take (line_count e) ls) (before c), length-take-le (line_count e) ls (omega arith)))
    go (failed x) own later = rw x later

-- A list without an element of its second part, and lists without a list of one element
pub without_behind : {A : Type 0} (xs ys : List A) (n c : ℕ) → n ≡ length xs → without (n + c) (xs ++ ys) ≡ xs ++ without c ys
without_behind [] ys n c e = rw (e, zero-add)
without_behind (x ∷ xs) ys n c e =
    let one : n + c ≡ suc (length xs + c) = omega arith in
    rw one (ap (λ l. x ∷ l) (without_behind xs ys (length xs) c refl))

without_one : {A : Type 0} (xss : List (List A)) (c : ℕ) (ys : List A) → c < length xss → length (get_or xss c []) ≡ 1
    → without (length (gathered (λ xs. xs) (take c xss))) (gathered (λ xs. xs) xss ++ ys) ≡ gathered (λ xs. xs) (without c xss) ++ ys
without_one [] c ys l o = absurd (omega arith)
without_one ([] ∷ xss) zero ys l o = absurd (omega (arith, o))
without_one ((x ∷ []) ∷ xss) zero ys l o = refl
without_one ((x ∷ y ∷ xs) ∷ xss) zero ys l o = absurd (omega (arith, o))
without_one (xs ∷ xss) (suc c) ys l o =
    let before = gathered (λ xs. xs) (take c xss) in
    let whole = gathered (λ xs. xs) xss in
    ap (without (length (xs ++ before))) (append_assoc xs whole ys)
    ∙ ap (λ n. without n (xs ++ (whole ++ ys))) (length-append xs before)
    ∙ without_behind xs (whole ++ ys) (length xs) (length before) refl
    ∙ ap (λ zs. xs ++ zs) (without_one xss c ys (omega arith) o)
    ∙ sym (append_assoc xs (gathered (λ xs. xs) (without c xss)) ys)

-- One flag more strikes the line of an element that has one, before whatever stands behind
pub line_struck : (struck : List ℕ) (es : List Element) (ls more : List Bytes) (i : ℕ) → lines_in es ≤ length ls → i < length es → i < length struck → is_left struck i ≡ true → get_or (map line_count es) i 0 ≡ 1
    → without (lines_in (take (left_count struck 0 i) (left_from struck 0 es))) (gathered (λ l. l) (left_from struck 0 (lines_by_element es ls)) ++ more) ≡ gathered (λ l. l) (left_from (set struck i 1) 0 (lines_by_element es ls)) ++ more
line_struck struck es ls more i room l b left one =
    let each = lines_by_element es ls in
    let c = left_count struck 0 i in
    let here : is_left struck (0 + i) ≡ true = rw zero-add left in
    let below : i < length each = omega (arith, lines_count es ls) in
    ap (λ k. without k (gathered (λ l. l) (left_from struck 0 each) ++ more)) (sym (lines_before struck 0 es ls c room))
    ∙ without_one (left_from struck 0 each) c more (left_within struck 0 i each below here) (ap length (left_get struck 0 i each [] below here) ∙ lines_at_lem es ls i room l ∙ one)
    ∙ ap (λ ms. gathered (λ l. l) ms ++ more) (left_strike struck i each below b left)
