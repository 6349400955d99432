-- The report, and what the program prints.
use Rattle.std.specs.Prelude.{ℕ, Bool, cond, List, [], ◌∷◌, ◌++◌, map, get_or}
use Rattle.meaning.specs.Text.{Bytes, bytes, gathered, if_some, join, comma, line, decimal}
use Rattle.meaning.specs.Model.{Element, name_of, Policy, Result, refused, given, ◌then◌, decision_text}
pub use Rattle.meaning.specs.Model.{fitted}
use Rattle.meaning.specs.Reading.{read}
use Rattle.meaning.specs.Deciding.{decision_on}
use Rattle.meaning.specs.Trimming.{name_at, rule_lines, first_change, trimmed}
use Rattle.meaning.specs.Segments.{applying_to, segments, segment_size, Conflict, conflicts}

-- `G`: first request, how many requests, decision, names of the applying elements by commas, or `-`
abbrev pub marked : List Bool → List Element → List Bytes
marked [] es = []
marked (b ∷ bs) [] = []
marked (b ∷ bs) (e ∷ es) = cond b (name_of e ∷ marked bs es) (marked bs es)

abbrev pub or_dash : List Bytes → Bytes
or_dash [] = bytes "-"
or_dash (n ∷ ns) = join comma (n ∷ ns)

abbrev pub segment_fields : Policy → ℕ → List Bytes
segment_fields p n = bytes "G" ∷ decimal n ∷ decimal (segment_size p n) ∷ decision_text (decision_on p n) ∷ or_dash (marked (applying_to p n) p.elements) ∷ []

-- `C`: parent, earlier child, later child, request
abbrev pub name_in : List Element → ℕ → Bytes
name_in es i = get_or (map name_of es) i []

abbrev pub conflict_fields : List Element → Conflict → List Bytes
conflict_fields es c = bytes "C" ∷ name_in es c.parent ∷ name_in es c.earlier ∷ name_in es c.later ∷ decimal c.request ∷ []

-- `X`: rule struck
abbrev pub struck_fields : Bytes → List Bytes
struck_fields n = bytes "X" ∷ n ∷ []

-- `K`: kept rule, first request whose decision or its obligations change without it in the trimmed policy
abbrev pub kept_fields : Bytes → ℕ → ℕ → List Bytes
kept_fields t k n = bytes "K" ∷ name_at t k ∷ decimal n ∷ []

abbrev pub kept_line : Bytes → ℕ → Bytes
kept_line t k = if_some (first_change t k) (λ n. line (kept_fields t k n))

-- The report: `G` lines by first request, `C` lines, `X` lines in the order struck, `K` lines in file order
unfoldable pub report : Bytes → Policy → Bytes
report f p =
    let t = trimmed f in
    gathered (λ n. line (segment_fields p n)) (segments p)
    ++ (gathered (λ c. line (conflict_fields p.elements c)) (conflicts p)
    ++ (gathered (λ n. line (struck_fields n)) t.struck
    ++ gathered (kept_line t.text) (rule_lines t.text)))

-- The operations: the trimmed text, and the report
unfoldable pub trim_file : ℕ → Bytes → Result Bytes
trim_file room f = read f then λ p. fitted room (trimmed f).text

unfoldable pub report_file : ℕ → Bytes → Result Bytes
report_file room f = read f then λ p. fitted room (report f p)

-- What the program prints: the report, built in a 65,536-byte buffer, or the line `E`, number and second number
abbrev pub printed : Result Bytes → Bytes
printed (refused n m) = line (bytes "E" ∷ decimal n ∷ decimal m ∷ [])
printed (given t) = t

unfoldable pub program : Bytes → Bytes
program f = printed (report_file 65536 f)
