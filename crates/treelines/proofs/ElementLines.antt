-- The line of an element, field by field; and the lines of a file.
use mathlib.Core.Path.{◌≡◌, ap, ◌∙◌}
use Prim.Native.Nat.{ℕ, ◌+◌, ◌/◌, ◌≤◌, ◌<◌}
use native.Mathlib.Omega.{arith}
use mathlib.Core.List.{List, [], ◌∷◌, ◌++◌}
use lib.ListN.{length, get_or}
use lib.Seq.{take_all}
use Rattle.std.proofs.lemmas.List.{get_or_default}
use Rattle.meaning.specs.Text.{Bytes, gathered, counting, newline, tab, line, decimal}
use Rattle.meaning.specs.Writing.{element_lines}
use Rattle.layout.specs.declared.Attributes.{Attributes}
use Rattle.layout.specs.Places.{attributes_of}
use Rattle.elements.specs.Listed.{blank}
use Rattle.laws.proofs.Types.{set, Word, Obligation, Element}
use Rattle.printing.specs.declared.Sink.{Sink}
use Rattle.printing.specs.Puts.{Puts}
use Rattle.printing.proofs.Laws.{then, line_next, line_behind, same_text}
use Rattle.printing.proofs.Walks.{taken}
use Rattle.treelines.specs.Writable.{Small, Writable}

abbrev field : Bytes → Bytes
field a = a ++ (tab ∷ [])

abbrev others : List Bytes → Bytes
others ts = gathered (λ t. tab ∷ t) ts

fields : (a b c d : Bytes) (ts : List Bytes) → field a ++ (field b ++ (field c ++ (d ++ (others ts ++ (newline ∷ []))))) ≡ line (a ∷ b ∷ c ∷ d ∷ ts)
fields a b c d ts =
    ap (λ t. field a ++ (field b ++ (field c ++ t))) (line_behind d ts)
    ∙ ap (λ t. field a ++ (field b ++ t)) (line_next c d ts)
    ∙ ap (λ t. field a ++ t) (line_next b c (d ∷ ts))
    ∙ line_next a b (c ∷ d ∷ ts)

-- kind, depth, name, word and targets, each put behind the one before
pub tree_line_lem : {a b c d e f g : Sink} (kind name word : Bytes) (depth : ℕ) (ts : List Bytes) → depth ≤ 7
    → Puts a (field kind) b × (b.at ≤ a.at + 2)
    → Puts b (field (decimal depth)) c × (c.at ≤ b.at + depth / 10 + 2)
    → Puts c (field name) d × (d.at ≤ c.at + 17)
    → Puts d word e × (e.at ≤ d.at + 19)
    → Puts e (others ts) f × (f.at ≤ e.at + 98316)
    → Puts f (newline ∷ []) g
    → Puts a (line (kind ∷ decimal depth ∷ name ∷ word ∷ ts)) g × (g.at ≤ a.at + 100000)
tree_line_lem {a = a} {g = g} kind name word depth ts small (one, h) (two, i) (three, j) (four, k) (five, l) six = (
  same_text (fields kind (decimal depth) name word ts) (then one (then two (then three (then four (then five six))))),
  omega (arith, h, i, j, k, l, six.wrote.moved),
)

-- the lines of the element at a place; behind the end of an array code reads this element
abbrev pub nowhere : Obligation
nowhere = record { name = []; len = 0; word = Word.Permit }

abbrev pub unread : Element
unread = record { kind = set; depth = 0; name = []; len = 0; word = Word.Permit; masks = []; obligations = 0; first = nowhere; second = nowhere }

abbrev pub lines_at : Bytes → Attributes → List Element → ℕ → Bytes
lines_at header a all i = element_lines (attributes_of header a) (get_or all i unread)

pub small_at : (list : List Element) (i : ℕ) → Writable list → i < length list → Small (get_or list i unread)
small_at list i w l = rw (get_or_default list i unread blank l) (w.each i l)

-- the attribute lines, and the lines of all elements
pub file_text : {x y z : Sink} (header : Bytes) (a : Attributes) (list : List Element)
    → Puts x header y
    → Puts y (gathered (lines_at header a list) (counting 0 (length list))) z
    → Puts x (header ++ gathered (element_lines (attributes_of header a)) list) z
file_text {y = y} {z = z} header a list head lines =
    then head (same_text (taken unread (element_lines (attributes_of header a)) list (length list) (omega arith) ∙ ap (gathered (element_lines (attributes_of header a))) (take_all (length list) list (omega arith))) lines)
