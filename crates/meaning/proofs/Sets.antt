-- Sets of values at attributes of `M` lines: request lines, matching, the space and the limits; cases, computed.
use mathlib.Core.Path.{refl}
use Prim.Native.String.{String, ◌++◌ as ◌and◌}
use mathlib.Core.List.{List, [], ◌∷◌}
use Rattle.meaning.specs.Text.{bytes}
use Rattle.meaning.specs.Model.{Decision, not_applicable, Element, policy, deny_overrides, refused, given}
use Rattle.meaning.specs.Reading.{read}
use Rattle.meaning.specs.Deciding.{decide_file}
use Rattle.meaning.specs.Trimming.{first_change, trimmed}
use Rattle.meaning.specs.Segments.{segments, segment_size, children_of, conflicts}
use Rattle.meaning.specs.Report.{report, trim_file, report_file, program}
use Rattle.meaning.specs.Writing.{list_file, write_file}
use Rattle.meaning.proofs.Cases.{Case, decides, trims, prints, lists, writes, Each}
use Rattle.meaning.proofs.Rows.{element}

-- sets 0 to 2 are a, b and both; only those who have both are permitted and denied
abbrev badge : String
badge = "M\trole\ta\tb\n" and "A\tact\tx\ty\n" and "P\t0\ttop\tdeny-overrides\t*\t*\n" and "R\t1\tr1\tpermit\ta\t*\n" and "R\t1\tr2\tdeny\tb\tx\n"

abbrev badge_report : String
badge_report =
    "G\t0\t3\tpermit\ttop,r1\n"
    and "G\t2\t1\tdeny\ttop,r2\n"
    and "G\t3\t1\tnot-applicable\ttop\n"
    and "G\t4\t1\tdeny\ttop,r1,r2\n"
    and "C\ttop\tr1\tr2\t4\n"
    and "K\tr1\t0\n"
    and "K\tr2\t2\n"

-- no `A` line: one policy for each value, and both match the set of both
abbrev alone : String
alone =
    "M\tx\ta\tb\n"
    and "S\t0\ttop\tonly-one-applicable\t*\n"
    and "P\t1\tp\tdeny-overrides\ta\n"
    and "R\t2\tr1\tpermit\t*\n"
    and "P\t1\tq\tdeny-overrides\tb\n"
    and "R\t2\tr2\tpermit\t*\n"

abbrev alone_report : String
alone_report =
    "G\t0\t1\tpermit\ttop,p,r1\n"
    and "G\t1\t1\tpermit\ttop,q,r2\n"
    and "G\t2\t1\tindeterminate\ttop,p,r1,q,r2\n"
    and "K\tr1\t0\n"
    and "K\tr2\t1\n"

-- every set that has b is permitted already
abbrev spare : String
spare = "M\tx\ta\tb\tc\nP\t0\ttop\tfirst-applicable\t*\nR\t1\tr1\tpermit\ta,b\nR\t1\tr2\tpermit\tb\n"

abbrev top : String
top = "P\t0\ttop\tdeny-overrides\t*\n"

abbrev two_top : String
two_top = "P\t0\ttop\tdeny-overrides\t*\t*\n"

abbrev top_of : Element
top_of = element policy 0 "top" deny_overrides (3 ∷ 0 ∷ 0 ∷ 0 ∷ 0 ∷ 0 ∷ [])

abbrev pub sets : List Case
sets =
    -- reports over all sets: a target matches those that share a value with it
    prints badge badge_report
    ∷ prints alone alone_report
    ∷ trims spare "M\tx\ta\tb\tc\nP\t0\ttop\tfirst-applicable\t*\nR\t1\tr1\tpermit\ta,b\n"
    -- request lines: one value, or several in declared order, all of them too
    ∷ decides badge "a\tx" (given Decision.Permit)
    ∷ decides badge "b\tx" (given Decision.Deny)
    ∷ decides badge "a,b\tx" (given Decision.Deny)
    ∷ decides badge "A,B\tY" (given Decision.Permit)
    -- 10: wrong order, a value twice, no value, an empty piece or field, `*`
    ∷ decides badge "b,a\tx" (refused 10 1)
    ∷ decides badge "a,A\tx" (refused 10 1)
    ∷ decides badge "a,c\tx" (refused 10 1)
    ∷ decides badge ",a\tx" (refused 10 1)
    ∷ decides badge "a,\tx" (refused 10 1)
    ∷ decides badge "\tx" (refused 10 1)
    ∷ decides badge "*\tx" (refused 10 1)
    -- an `A` takes no list
    ∷ decides badge "a\tx,y" (refused 10 2)
    ∷ decides badge "a,b" (refused 10 0)
    -- 5: value 13, behind 3 and 4; an `A` may have more
    ∷ decides ("M\tx\ta\tb\tc\td\te\tf\tg\th\ti\tj\tk\tl\n" and top) "a,b,c,d,e,f,g,h,i,j,k,l" (given not_applicable)
    ∷ prints "M\tx\ta\tb\tc\td\te\tf\tg\th\ti\tj\tk\tl\tm\n" "E\t5\t1\n"
    ∷ prints "M\tx\ta\tb\tc\td\te\tf\tg\th\ti\tj\tk\tl\tA\n" "E\t4\t1\n"
    ∷ prints "M\tx\ta\tb\tc\td\te\tf\tg\th\ti\tj\tk\tl\t-\n" "E\t3\t1\n"
    ∷ decides ("A\tx\ta\tb\tc\td\te\tf\tg\th\ti\tj\tk\tl\tm\n" and top) "m" (given not_applicable)
    -- the space: 63 times 63, 63 times 127, 4,095 times 1 and times 2
    ∷ decides ("M\tx\ta\tb\tc\td\te\tf\nM\ty\ta\tb\tc\td\te\tf\n" and two_top) "a\tf" (given not_applicable)
    ∷ prints "M\tx\ta\tb\tc\td\te\tf\nM\ty\ta\tb\tc\td\te\tf\tg\n" "E\t5\t2\n"
    ∷ decides ("M\tx\ta\tb\tc\td\te\tf\tg\th\ti\tj\tk\tl\nM\ty\ta\n" and two_top) "l\ta" (given not_applicable)
    ∷ prints "M\tx\ta\tb\tc\td\te\tf\tg\th\ti\tj\tk\tl\nA\ty\ta\tb\n" "E\t5\t2\n"
    -- attribute 7 counts both
    ∷ prints "A\ta\tv\nM\tb\tv\nA\tc\tv\nM\td\tv\nA\te\tv\nM\tf\tv\nM\tg\tv\n" "E\t5\t7\n"
    -- 2, 4, 6, 8 as for an `A`
    ∷ prints "m\tx\ta\n" "E\t2\t1\n"
    ∷ prints "M\tx\n" "E\t2\t1\n"
    ∷ prints "A\tx\ta\nM\tX\tb\n" "E\t4\t2\n"
    ∷ prints ("M\tx\ta\tb\n" and top and "M\ty\ta\n") "E\t6\t3\n"
    ∷ prints ("M\tx\ta\tb\n" and "P\t0\ttop\tdeny-overrides\ta,b\n") "E\t8\t2\n"
    -- lists, read and written: a mask has a bit for each value
    ∷ lists 1 ("M\tx\ta\tb\n" and top) (given (top_of ∷ []))
    ∷ writes 999 "M\tx\ta\tb\n" (top_of ∷ []) (given (bytes ("M\tx\ta\tb\n" and top)))
    ∷ writes 999 "M\tx\ta\tb\tc\td\te\tf\tg\th\ti\tj\tk\tl\tm\n" (top_of ∷ []) (refused 5 1)
    ∷ []

pub sets_hold : Each sets
unfolding read decide_file first_change trimmed segments segment_size children_of conflicts report trim_file report_file program list_file write_file
sets_hold = (refl, (refl, (refl, (refl, (refl, (refl, (refl, (refl, (refl, (refl, (refl, (refl, (refl, (refl, (refl, (refl, (refl, (refl, (refl, (refl, (refl, (refl, (refl, (refl, (refl, (refl, (refl, (refl, (refl, (refl, (refl, (refl, (refl, (refl, tt))))))))))))))))))))))))))))))))))
