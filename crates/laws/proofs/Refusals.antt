-- A refusal's number is not 0: a C caller can tell it from a result.
use Prim.Native.Nat.{ℕ, zero, suc, ◌≤◌, ◌+◌}
use native.Mathlib.Omega.{arith}
use mathlib.Core.Bool.{Bool, true, false, cond, ◌&&◌}
use mathlib.Core.List.{List, [], ◌∷◌, ◌++◌}
use mathlib.Core.Option.{Option, none, some}
use lib.ListN.{length}
use lib.Dec.{ltb}
use Rattle.meaning.specs.Text.{Bytes, is_none, empty, gathered, same_name, cut, tab, front, last, newline}
use Rattle.meaning.specs.Model.{Attribute, Policy, Result, refused, given, ◌then◌, unless, unless_found, word_text, with_obligations, obligations_of}
use Rattle.meaning.specs.Reading.{Sofar, Line, Tests, line_of, word_of, lowest, wrong_fields, line_tests, element_tests, with_element, extended, read_lines, nothing, short, finished, read_text, read, obligation_tests, with_obligation}
use Rattle.meaning.specs.Report.{report, fitted, report_file}
use Rattle.meaning.specs.ValuePairs.{several_at, pairs_text, pairs_named}
use Rattle.meaning.specs.RuleByRule.{needless_named, without_line, strike_named}
use Rattle.meaning.specs.Joining.{both, first_differing, joined_text, joined}
use Rattle.meaning.specs.Writing.{header_tests, read_elements, write_file, read_element, element_lines, read_obligations}
use Rattle.laws.proofs.Types.{set, Element, Obligation}

abbrev pub Numbered : {A : Type 0} → Result A → Type 0
Numbered (refused n m) = 1 ≤ n
Numbered (given a) = Unit {0}

module _ {A : Type 0} where
  pub then_numbered : {B : Type 0} (r : Result B) (f : B → Result A) → Numbered r → ((b : B) → Numbered (f b)) → Numbered (r then f)
  then_numbered (refused n m) f h g = h
  then_numbered (given b) f h g = g b

  unless_numbered : (k n : ℕ) (r : Result A) → Numbered r → Numbered (unless k n r)
  unless_numbered zero n r h = h
  unless_numbered (suc k) n r h = omega arith

  either_numbered : (b : Bool) (r s : Result A) → Numbered r → Numbered s → Numbered (cond b r s)
  either_numbered true r s h g = h
  either_numbered false r s h g = g

lines_numbered : (tests : Sofar → Line → Tests) (rest : Bytes) (n : ℕ) (s : Sofar) (ls : List Bytes) → Numbered (read_lines tests rest n s ls)
lines_numbered tests rest n s [] = either_numbered (empty rest) (given s) (refused 2 n) tt (omega arith)
lines_numbered tests rest n s (l ∷ ls) =
    unless_numbered (lowest ((2, wrong_fields s (cut tab l) (line_of (cut tab l))) ∷ tests s (line_of (cut tab l)))) n (read_lines tests rest (suc n) (extended s (line_of (cut tab l))) ls)
    (lines_numbered tests rest (suc n) (extended s (line_of (cut tab l))) ls)

short_numbered : (t : Bytes) → Numbered (short t)
short_numbered t = either_numbered (ltb 16384 (length t)) (refused 1 0) (given t) (omega arith) tt

finished_numbered : (s : Sofar) → Numbered (finished s)
finished_numbered s = either_numbered (empty s.before) (refused 9 0) (given _) (omega arith) tt

pub read_numbered : (f : Bytes) → Numbered (read f)
unfolding read
read_numbered f =
    then_numbered (short f then (read_text line_tests)) finished
    (then_numbered (short f) (read_text line_tests) (short_numbered f) (λ t. lines_numbered line_tests (last [] (cut newline t)) 1 nothing (front (cut newline t))))
    finished_numbered

pub report_numbered : (room : ℕ) (f : Bytes) → Numbered (report_file room f)
unfolding report_file
report_numbered room f = then_numbered (read f) (λ p. fitted room (report f p)) (read_numbered f) (λ p. either_numbered (ltb room (length (report f p))) (refused 11 (length (report f p))) (given (report f p)) (omega arith) tt)

pub pairs_numbered : (p : Policy) (name : Bytes) → Numbered (pairs_named p name)
unfolding pairs_named
pairs_numbered p name = then_numbered (several_at 0 name p.attributes) (λ i. given (pairs_text p i)) (place_numbered 0 p.attributes) (λ i. tt)
  where
    place_numbered : (i : ℕ) (attrs : List Attribute) → Numbered (several_at i name attrs)
    place_numbered i [] = omega arith
    place_numbered i (a ∷ attrs) = either_numbered (a.several && same_name name a.name) (given i) (several_at (suc i) name attrs) tt (place_numbered (suc i) attrs)

pub strike_numbered : (f name : Bytes) → Numbered (strike_named f name)
unfolding strike_named
strike_numbered f name = go (needless_named f name)
  where
    go : (o : Option ℕ) → Numbered (without_line f o)
    go none = omega arith
    go (some k) = tt

pub joined_numbered : (w f : Bytes) (first : List Attribute) (g : Bytes) (second : List Attribute) → Numbered (joined w f first g second)
unfolding joined
joined_numbered w f first g second = go (first_differing first 1 second)
  where
    go : (o : Option ℕ) → Numbered (unless_found 19 o (unless (lowest ((7, is_none (word_of set w)) ∷ [])) (suc (length (both first second))) (read (joined_text w f first g second) then λ j. given (joined_text w f first g second))))
    go (some n) = omega arith
    go none = unless_numbered (lowest ((7, is_none (word_of set w)) ∷ [])) (suc (length (both first second))) _ (then_numbered (read (joined_text w f first g second)) _ (read_numbered (joined_text w f first g second)) (λ j. tt))

obligations_numbered : (n : ℕ) (s : Sofar) (os : List Obligation) → Numbered (read_obligations n s os)
obligations_numbered n s [] = tt
obligations_numbered n s (o ∷ os) = unless_numbered (lowest (obligation_tests s (word_text o.word) o)) n (read_obligations (suc n) (with_obligation s o) os) (obligations_numbered (suc n) (with_obligation s o) os)

element_numbered : (n : ℕ) (s : Sofar) (e : Element) → Numbered (read_element n s e)
element_numbered n s e =
    let own = with_element s (with_obligations [] e) in
    then_numbered (unless (lowest (element_tests s (word_text e.word) e)) n (read_obligations (suc n) own (obligations_of e))) (λ t. unless (cond (ltb 2 e.obligations) 14 0) (n + 3) (given t))
    (unless_numbered (lowest (element_tests s (word_text e.word) e)) n (read_obligations (suc n) own (obligations_of e)) (obligations_numbered (suc n) own (obligations_of e)))
    (λ t. unless_numbered (cond (ltb 2 e.obligations) 14 0) (n + 3) (given t) tt)

elements_numbered : (n : ℕ) (s : Sofar) (es : List Element) → Numbered (read_elements n s es)
elements_numbered n s [] = tt
elements_numbered n s (e ∷ es) = then_numbered (read_element n s e) (λ t. read_elements (n + suc e.obligations) t es) (element_numbered n s e) (λ t. elements_numbered (n + suc e.obligations) t es)

pub write_numbered : (room : ℕ) (header : Bytes) (es : List Element) → Numbered (write_file room header es)
unfolding write_file
write_numbered room header es =
    then_numbered (short header) _ (short_numbered header)
    (λ h. then_numbered (read_text header_tests h) _ (lines_numbered header_tests (last [] (cut newline h)) 1 nothing (front (cut newline h)))
    (λ s. then_numbered (read_elements (suc (length s.attributes)) s es then finished) _ (then_numbered (read_elements (suc (length s.attributes)) s es) finished (elements_numbered (suc (length s.attributes)) s es) finished_numbered)
    (λ p. let file = h ++ gathered (element_lines p.attributes) p.elements in
    then_numbered (short file) (fitted room) (short_numbered file) (λ t. either_numbered (ltb room (length t)) (refused 11 (length t)) (given t) (omega arith) tt))))
