-- The request that a conflict is shown with: the lowest to which the parent applies and on which the children are opposed; cases,
-- computed.
use mathlib.Core.Path.{refl}
use Prim.Native.String.{String, ◌++◌ as ◌and◌}
use mathlib.Core.List.{List, [], ◌∷◌}
use Rattle.meaning.specs.Reading.{read}
use Rattle.meaning.specs.Trimming.{first_change, trimmed}
use Rattle.meaning.specs.Segments.{segments, segment_size, children_of, conflicts}
use Rattle.meaning.specs.Report.{report, report_file, program}
use Rattle.meaning.proofs.Cases.{Case, prints, Each}

-- opposed on requests 1 and 3
abbrev twice : String
twice = "A\tx\ta\tb\tc\td\n" and "P\t0\ttop\tfirst-applicable\t*\n" and "R\t1\tr1\tpermit\tb,c,d\n" and "R\t1\tr2\tdeny\tb,d\n"

abbrev twice_report : String
twice_report =
    "G\t0\t1\tnot-applicable\ttop\n"
    and "G\t1\t2\tpermit\ttop,r1,r2\n"
    and "G\t2\t1\tpermit\ttop,r1\n"
    and "C\ttop\tr1\tr2\t1\n"
    and "X\tr2\n"
    and "K\tr1\t1\n"

-- opposed on all six requests; the parent's own target matches 1, 2, 4 and 5, and it applies to 4 and 5
abbrev sheltered : String
sheltered =
    "A\tx\ta\tb\n"
    and "A\ty\tc\td\te\n"
    and "S\t0\ttop\tfirst-applicable\tb\t*\n"
    and "P\t1\tp\tdeny-overrides\t*\td,e\n"
    and "R\t2\tr1\tpermit\t*\t*\n"
    and "R\t2\tr2\tdeny\t*\t*\n"

abbrev sheltered_report : String
sheltered_report =
    "G\t0\t3\tnot-applicable\t-\n"
    and "G\t3\t1\tnot-applicable\ttop\n"
    and "G\t4\t2\tdeny\ttop,p,r1,r2\n"
    and "C\tp\tr1\tr2\t4\n"
    and "X\tr1\n"
    and "K\tr2\t4\n"

-- policies, the earlier of which denies: opposed on requests 1 and 2
abbrev denied : String
denied =
    "A\tx\ta\tb\tc\n"
    and "S\t0\ttop\tpermit-overrides\t*\n"
    and "P\t1\tno\tdeny-overrides\t*\n"
    and "R\t2\tr1\tdeny\t*\n"
    and "P\t1\tyes\tdeny-overrides\tb,c\n"
    and "R\t2\tr2\tpermit\t*\n"

abbrev denied_report : String
denied_report =
    "G\t0\t1\tdeny\ttop,no,r1\n"
    and "G\t1\t2\tpermit\ttop,no,r1,yes,r2\n"
    and "C\ttop\tno\tyes\t1\n"
    and "K\tr1\t0\n"
    and "K\tr2\t1\n"

abbrev pub shown : List Case
shown = prints twice twice_report ∷ prints sheltered sheltered_report ∷ prints denied denied_report ∷ []

pub shown_hold : Each shown
unfolding read first_change trimmed segments segment_size children_of conflicts report report_file program
shown_hold = (refl, (refl, (refl, tt)))
