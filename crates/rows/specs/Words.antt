-- Words of bits: bit i says whether element i passes a test. A word for each request says which elements apply to it.
use Rattle.std.specs.Prelude.{ℕ, ◌+◌, ◌*◌, Bool, cond, List, [], ◌∷◌, map}
use Rattle.meaning.specs.declared.Decision.{Decision}
use Rattle.meaning.specs.Text.{counting}
use Rattle.meaning.specs.Deciding.{applies, is}
use Rattle.meaning.specs.declared.Element.{Element}
use Rattle.table.specs.declared.Row.{Row}
use Rattle.table.specs.Rows.{element_at}
use Rattle.table.specs.Tree.{before}
use Rattle.decisions.specs.Replies.{reply_at}

-- the word of some tests, the first one lowest
abbrev pub marks : List Bool → ℕ
marks [] = 0
marks (b ∷ bs) = cond b 1 0 + 2 * marks bs

-- the word of one test of k elements from i on
unfoldable pub word_from : (ℕ → Bool) → ℕ → ℕ → ℕ
word_from test i k = marks (map test (counting i k))

-- element i of a table applies to a request, by the test of an element's own target
unfoldable pub applies_at : List Row → (Element → Bool) → ℕ → Bool
applies_at t hit i = applies hit (before t i) (element_at t i)

-- element i, of n that flags leave, gives the decision
unfoldable pub gives_at : Decision → List Row → List ℕ → ℕ → (Element → Bool) → ℕ → Bool
gives_at d t struck n hit i = is d (reply_at hit t struck n i).decision

-- the word of request m: which elements apply to it
abbrev pub applying_at : List Row → ℕ → (ℕ → Element → Bool) → ℕ → ℕ
applying_at t n hit m = word_from (applies_at t (hit m)) 0 n
