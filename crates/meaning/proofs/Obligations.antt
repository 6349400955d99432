-- Obligations: their lines read and written, and each refusal of theirs; cases, computed.
use mathlib.Core.Path.{◌≡◌, refl}
use Prim.Native.Nat.{ℕ}
use Prim.Native.String.{String, ◌++◌ as ◌and◌}
use mathlib.Core.List.{List, [], ◌∷◌, ◌++◌}
use lib.ListN.{length, replicate}
use Rattle.meaning.specs.Text.{Bytes, bytes, gathered, counting, decimal}
use Rattle.meaning.specs.Model.{set, policy, rule, Word, deny_overrides, first_applicable, only_one_applicable, Decision, Obligation, Element, padded, unused, refused, given}
use Rattle.meaning.specs.Reading.{read}
use Rattle.meaning.specs.Deciding.{decide_file}
use Rattle.meaning.specs.Trimming.{first_change, trimmed}
use Rattle.meaning.specs.Segments.{segments, segment_size, children_of, conflicts}
use Rattle.meaning.specs.Report.{report, trim_file, report_file, program}
use Rattle.meaning.specs.Writing.{list_file, write_file}
use Rattle.meaning.proofs.Cases.{Case, gives, trims, prints, lists, writes, Each, one, bare}
use Rattle.meaning.proofs.Rows.{element}

abbrev log : String
log = "O\tlog\tpermit\n"

-- a policy with two obligations; with a rule
abbrev full : String
full = bare and log and "O\tslow\tdeny\n"

abbrev ruled : String
ruled = bare and "R\t1\tr\tpermit\t*\n"

abbrev pub as_read : List Case
as_read =
    -- 2: not just three fields; a small letter
    prints (bare and "O\tlog\n") "E\t2\t3\n"
    ∷ prints (bare and "O\tlog\tpermit\t*\n") "E\t2\t3\n"
    ∷ prints (bare and "o\tlog\tpermit\n") "E\t2\t3\n"
    -- 3: a bad name
    ∷ prints (bare and "O\t-log\tpermit\n") "E\t3\t3\n"
    ∷ prints (bare and "O\taaaaaaaaaaaaaaaaa\tpermit\n") "E\t3\t3\n"
    -- 4: two of equal name on one element, also if their words differ
    ∷ prints (bare and log and "O\tLOG\tdeny\n") "E\t4\t4\n"
    -- 7: a word other than the two
    ∷ prints (bare and "O\tlog\tdeny-overrides\n") "E\t7\t3\n"
    ∷ prints (bare and log and "O\tslow\tDeny\n") "E\t7\t4\n"
    -- 14: the third; before it 2, 3 and 4, behind it 7
    ∷ prints (full and "O\tlast\tpermit\n") "E\t14\t5\n"
    ∷ prints (full and "O\tlast\n") "E\t2\t5\n"
    ∷ prints (full and "O\t-\tno\n") "E\t3\t5\n"
    ∷ prints (full and "O\tSLOW\tno\n") "E\t4\t5\n"
    ∷ prints (full and "O\tlast\tno\n") "E\t14\t5\n"
    -- 14: first line, behind `A`, `M` and `R`; bad name and bad word there
    ∷ prints log "E\t14\t1\n"
    ∷ prints (one and log) "E\t14\t2\n"
    ∷ prints ("M\tx\ta\n" and log) "E\t14\t2\n"
    ∷ prints (ruled and log) "E\t14\t4\n"
    ∷ prints (ruled and "O\tlog\tno\n") "E\t14\t4\n"
    ∷ prints (ruled and "O\t-\tno\n") "E\t3\t4\n"
    -- 6: `A` or `M` behind an `O`
    ∷ prints (bare and log and "A\ty\ta\n") "E\t6\t4\n"
    ∷ prints (bare and log and "M\ty\ta\n") "E\t6\t4\n"
    ∷ []

pub as_read_lem : Each as_read
unfolding read report_file program
as_read_lem = (refl, (refl, (refl, (refl, (refl, (refl, (refl, (refl, (refl, (refl, (refl, (refl, (refl, (refl, (refl, (refl, (refl, (refl, (refl, (refl, (refl, tt)))))))))))))))))))))

-- 64 elements beside an obligation, and one more
abbrev pub rules_from : ℕ → ℕ → Bytes
rules_from n k = gathered (λ i. bytes "R\t1\tr" ++ decimal i ++ bytes "\tpermit\t*\n") (counting n k)

pub sixty_four : list_file 63 (bytes (bare and log) ++ rules_from 0 63) ≡ refused 12 64
unfolding read list_file
sixty_four = refl

pub sixty_five : list_file 63 (bytes (bare and log) ++ rules_from 0 64) ≡ refused 5 67
unfolding read list_file
sixty_five = refl

-- a place in the list, by its name, or by length and bytes
abbrev placed : ℕ → Bytes → Word → Obligation
placed n bs w = record { name = bs; len = n; word = w }

abbrev obligation : String → Word → Obligation
obligation n w = placed (length (bytes n)) (padded 16 (bytes n)) w

abbrev logged : Obligation
logged = obligation "log" Word.Permit

abbrev slow : Obligation
slow = obligation "slow" Word.Deny

abbrev plain : Element
plain = element policy 0 "top" deny_overrides (1 ∷ 0 ∷ 0 ∷ 0 ∷ 0 ∷ 0 ∷ [])

-- an element of so many obligations and with these places
abbrev counted : ℕ → Obligation → Obligation → Element → Element
counted n a b e = record { kind = e.kind; depth = e.depth; name = e.name; len = e.len; word = e.word; masks = e.masks; obligations = n; first = a; second = b }

abbrev stored : ℕ → Obligation → Obligation → Element
stored n a b = counted n a b plain

abbrev rule_with : ℕ → Obligation → Obligation → Element
rule_with n a b = counted n a b (element rule 1 "r" Word.Permit (1 ∷ 0 ∷ 0 ∷ 0 ∷ 0 ∷ 0 ∷ []))

-- two elements may share an obligation's name, with each other, with elements and attributes
abbrev shared : String
shared =
    one
    and "S\t0\ttop\tfirst-applicable\t*\n"
    and "O\tlog\tpermit\n"
    and "O\tx\tdeny\n"
    and "P\t1\tp\tdeny-overrides\t*\n"
    and "O\tp\tpermit\n"
    and "O\tLog\tpermit\n"
    and "R\t2\tr\tpermit\t*\n"

abbrev shared_list : List Element
shared_list =
    counted 2 logged (obligation "x" Word.Deny) (element set 0 "top" first_applicable (1 ∷ 0 ∷ 0 ∷ 0 ∷ 0 ∷ 0 ∷ []))
    ∷ counted 2 (obligation "p" Word.Permit) (obligation "Log" Word.Permit) (element policy 1 "p" deny_overrides (1 ∷ 0 ∷ 0 ∷ 0 ∷ 0 ∷ 0 ∷ []))
    ∷ element rule 2 "r" Word.Permit (1 ∷ 0 ∷ 0 ∷ 0 ∷ 0 ∷ 0 ∷ [])
    ∷ []

abbrev pub in_lists : List Case
in_lists =
    lists 3 shared (given shared_list)
    ∷ lists 2 shared (refused 12 3)
    ∷ writes 117 one shared_list (given (bytes shared))
    ∷ writes 116 one shared_list (refused 11 117)
    -- 3, the element's line: content in an unused place, of a rule too
    ∷ writes 999 one (stored 0 logged unused ∷ []) (refused 3 2)
    ∷ writes 999 one (stored 0 unused slow ∷ []) (refused 3 2)
    ∷ writes 999 one (stored 1 logged slow ∷ []) (refused 3 2)
    ∷ writes 999 one (stored 1 logged (placed 0 (padded 16 []) Word.Deny) ∷ []) (refused 3 2)
    ∷ writes 999 one (stored 1 logged (placed 1 (padded 16 []) Word.Permit) ∷ []) (refused 3 2)
    ∷ writes 999 one (stored 1 logged (placed 0 (replicate 15 0 ++ (1 ∷ [])) Word.Permit) ∷ []) (refused 3 2)
    ∷ writes 999 one (plain ∷ rule_with 0 unused slow ∷ []) (refused 3 3)
    -- 3, the obligation's line: no name, a bad one, a byte behind it
    ∷ writes 999 one (stored 1 unused unused ∷ []) (refused 3 3)
    ∷ writes 999 one (stored 2 logged unused ∷ []) (refused 3 4)
    ∷ writes 999 one (stored 2 logged (obligation "-" Word.Permit) ∷ []) (refused 3 4)
    ∷ writes 999 one (stored 1 (placed 2 (padded 16 (bytes "log")) Word.Permit) unused ∷ []) (refused 3 3)
    -- 4 and 7 on the obligation's line
    ∷ writes 999 one (stored 2 logged (obligation "Log" Word.Deny) ∷ []) (refused 4 4)
    ∷ writes 999 one (stored 1 (obligation "log" deny_overrides) unused ∷ []) (refused 7 3)
    ∷ writes 999 one (stored 2 logged (obligation "slow" only_one_applicable) ∷ []) (refused 7 4)
    -- 14 on the third's line, whatever the count; faults on the lines before come first
    ∷ writes 999 one (stored 3 logged slow ∷ []) (refused 14 5)
    ∷ writes 999 one (stored 255 logged slow ∷ []) (refused 14 5)
    ∷ writes 999 one (stored 3 logged (obligation "slow" deny_overrides) ∷ []) (refused 7 4)
    ∷ writes 999 one (stored 3 unused slow ∷ []) (refused 3 3)
    ∷ writes 999 "A\tx\ta\nA\ty\tb\n" (stored 3 logged slow ∷ []) (refused 8 3)
    -- 14 on the first's line of a rule, whatever the count; 3 before it, 7 behind it
    ∷ writes 999 one (plain ∷ rule_with 1 logged unused ∷ []) (refused 14 4)
    ∷ writes 999 one (plain ∷ rule_with 3 logged slow ∷ []) (refused 14 4)
    ∷ writes 999 one (plain ∷ rule_with 1 unused unused ∷ []) (refused 3 4)
    ∷ writes 999 one (plain ∷ rule_with 1 (obligation "log" deny_overrides) unused ∷ []) (refused 14 4)
    -- an `O` among the attribute lines is 14, behind 2 and 3
    ∷ writes 999 (one and log) (plain ∷ []) (refused 14 2)
    ∷ writes 999 (one and "O\tlog\n") (plain ∷ []) (refused 2 2)
    ∷ writes 999 (one and "O\t-\tno\n") (plain ∷ []) (refused 3 2)
    ∷ writes 999 (one and "O\tlog\tno\n") (plain ∷ []) (refused 14 2)
    -- lines of later elements count those of the obligations before them
    ∷ writes 999 one (stored 2 logged slow ∷ plain ∷ []) (refused 4 5)
    ∷ writes 999 one (stored 1 logged unused ∷ rule_with 1 logged unused ∷ []) (refused 14 5)
    ∷ []

pub in_lists_lem : Each in_lists
unfolding read list_file write_file
in_lists_lem = (refl, (refl, (refl, (refl, (refl, (refl, (refl, (refl, (refl, (refl, (refl, (refl, (refl, (refl, (refl, (refl, (refl, (refl, (refl, (refl, (refl, (refl, (refl, (refl, (refl, (refl, (refl, (refl, (refl, (refl, (refl, (refl, (refl, tt)))))))))))))))))))))))))))))))))

-- With a decision: in a buffer of just that room, one byte less, behind a bad request, and none with another decision; a rule kept
-- for its obligations alone, one struck where the bytes stay
abbrev service : String
service =
    "A\trole\toperator\ttech\nA\tact\tjog\tteach\n"
    and "S\t0\tarm\tpermit-overrides\t*\t*\nO\tlog\tpermit\n"
    and "P\t1\tbench\tfirst-applicable\t*\t*\nO\tslow\tpermit\n"
    and "R\t2\tb1\tpermit\toperator\tjog\nR\t2\tb2\tpermit\ttech\tjog\nR\t2\tb3\tdeny\toperator\tteach\n"

abbrev cared : String
cared = "P\t1\tcare\tdeny-overrides\ttech\t*\nO\talarm\tpermit\nO\tcall\tdeny\nR\t2\tc1\tpermit\t*\t*\n"

abbrev pub as_decided : List Case
as_decided =
    gives 9 (service and cared) "operator\tjog" (given (record { decision = Decision.Permit; obligations = bytes "log\nslow\n" }))
    ∷ gives 8 (service and cared) "operator\tjog" (refused 11 9)
    ∷ gives 0 (service and cared) "operator\tfly" (refused 10 2)
    ∷ gives 10 (service and cared) "tech\tteach" (given (record { decision = Decision.Permit; obligations = bytes "log\nalarm\n" }))
    ∷ gives 0 (service and cared) "operator\tteach" (given (record { decision = Decision.Deny; obligations = [] }))
    ∷ prints
    (service and cared and "R\t2\tc2\tpermit\t*\tjog\n")
    ("G\t0\t1\tpermit\tarm,bench,b1\nG\t1\t1\tdeny\tarm,bench,b3\nG\t2\t1\tpermit\tarm,bench,b2,care,c1,c2\nG\t3\t1\tpermit\tarm,bench,care,c1\n"
    and "X\tc2\nK\tb1\t0\nK\tb2\t2\nK\tb3\t1\nK\tc1\t3\n")
    ∷ trims (service and cared and "R\t2\tc2\tpermit\t*\tjog\n") (service and cared)
    ∷ []

pub decided_hold : Each as_decided
unfolding read decide_file first_change trimmed segments segment_size children_of conflicts report trim_file report_file program
decided_hold = (refl, (refl, (refl, (refl, (refl, (refl, (refl, tt)))))))
