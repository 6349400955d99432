-- The elements that a table stands for: a row for each, its word's number, its depth and six masks.
use Rattle.std.specs.Prelude.{ℕ, zero, suc, ◌≤◌, List, [], length, get_or, set, replicate}
use Rattle.std.proofs.Math.Option.{Option, none, some}
use Rattle.meaning.specs.declared.Kind.TheVariants.{Rule}
use Rattle.meaning.specs.declared.Word.{Word}
use Rattle.meaning.specs.declared.Word.TheVariants.{Permit, Deny, DenyOverrides, PermitOverrides, FirstApplicable, OnlyOneApplicable}
use Rattle.meaning.specs.declared.Element.{Element}
use Rattle.meaning.specs.Model.{unused}
use Rattle.table.specs.declared.Row.{Row}

-- the combining algorithms, and with the two effects before them the words, by their numbers
abbrev pub algorithm_at : ℕ → Word
algorithm_at zero = DenyOverrides
algorithm_at (suc zero) = PermitOverrides
algorithm_at (suc (suc zero)) = FirstApplicable
algorithm_at (suc (suc (suc n))) = OnlyOneApplicable

abbrev pub word_at : ℕ → Word
word_at zero = Permit
word_at (suc zero) = Deny
word_at (suc (suc n)) = algorithm_at n

-- a word's algorithm and its number; an effect, which combines nothing, counts as the last
abbrev pub algorithm_number : Word → ℕ
algorithm_number Permit = 3
algorithm_number Deny = 3
algorithm_number DenyOverrides = 0
algorithm_number PermitOverrides = 1
algorithm_number FirstApplicable = 2
algorithm_number OnlyOneApplicable = 3

abbrev pub algorithm_of : Word → Word
algorithm_of w = algorithm_at (algorithm_number w)

-- each word's number, and 6 for none
abbrev pub number_of_word : Option Word → ℕ
number_of_word (some Permit) = 0
number_of_word (some Deny) = 1
number_of_word (some DenyOverrides) = 2
number_of_word (some PermitOverrides) = 3
number_of_word (some FirstApplicable) = 4
number_of_word (some OnlyOneApplicable) = 5
number_of_word none = 6

-- the row of a word, a depth and masks
abbrev pub row_of : Option Word → ℕ → List ℕ → Row
row_of word depth masks = record { word = number_of_word word; depth = depth; masks = masks }

-- the table has n rows
abbrev pub Rows : List Row → ℕ → Type 0
Rows t n = n ≤ length t

-- the row of element i, and what it holds
abbrev pub no_row : Row
no_row = record { word = 0; depth = 0; masks = [] }

abbrev pub row_at : List Row → ℕ → Row
row_at t i = get_or t i no_row

unfoldable pub word_number : List Row → ℕ → ℕ
word_number t i = (row_at t i).word

unfoldable pub depth_of : List Row → ℕ → ℕ
depth_of t i = (row_at t i).depth

unfoldable pub masks_at : List Row → ℕ → List ℕ
masks_at t i = (row_at t i).masks

-- the table with another row of element i
abbrev pub with_row : List Row → ℕ → Row → List Row
with_row t i row = set t i row

-- element i; the table has neither kinds nor names nor obligations, and no decision looks at them
unfoldable pub element_at : List Row → ℕ → Element
element_at t i =
    record {
      kind = Rule;
      depth = depth_of t i;
      name = replicate 16 0;
      len = 0;
      word = word_at (word_number t i);
      masks = masks_at t i;
      obligations = 0;
      first = unused;
      second = unused;
    }
