-- Capital letters in names: which names are equal, where they are compared so, and what keeps its spelling; cases, computed.
use mathlib.Core.Path.{refl}
use Prim.Native.String.{String, ◌++◌ as ◌and◌}
use mathlib.Core.List.{List, [], ◌∷◌}
use Rattle.meaning.specs.Text.{bytes}
use Rattle.meaning.specs.Model.{Decision, not_applicable, Element, policy, rule, Word, deny_overrides, refused, given}
use Rattle.meaning.specs.Reading.{read}
use Rattle.meaning.specs.Deciding.{decide_file}
use Rattle.meaning.specs.Trimming.{first_change, trimmed}
use Rattle.meaning.specs.Segments.{segments, segment_size, children_of, conflicts}
use Rattle.meaning.specs.Report.{report, trim_file, report_file, program}
use Rattle.meaning.specs.Writing.{list_file, write_file}
use Rattle.meaning.proofs.Cases.{Case, decides, trims, prints, lists, writes, Each}
use Rattle.meaning.proofs.Rows.{element}

-- names in both cases, the same one in two pools in other letter case
abbrev spelled : String
spelled =
    "A\tRole\tLab-Tech\tguest\n"
    and "P\t0\tTop\tfirst-applicable\t*\n"
    and "R\t1\trole\tpermit\tLab-Tech\n"
    and "R\t1\tTOP2\tpermit\tLab-Tech\n"

abbrev spelled_report : String
spelled_report = "G\t0\t1\tpermit\tTop,role,TOP2\n" and "G\t1\t1\tnot-applicable\tTop\n" and "X\tTOP2\n" and "K\trole\t0\n"

abbrev one : String
one = "A\tx\ta\tb\nP\t0\tTop\tdeny-overrides\t*\n"

abbrev top : Element
top = element policy 0 "Top" deny_overrides (3 ∷ 0 ∷ 0 ∷ 0 ∷ 0 ∷ 0 ∷ [])

abbrev rule_of : String → Element
rule_of n = element rule 1 n Word.Permit (1 ∷ 0 ∷ 0 ∷ 0 ∷ 0 ∷ 0 ∷ [])

abbrev pub capitals : List Case
capitals =
    -- reports and trimmed texts keep each name's spelling
    prints spelled spelled_report
    ∷ trims spelled "A\tRole\tLab-Tech\tguest\nP\t0\tTop\tfirst-applicable\t*\nR\t1\trole\tpermit\tLab-Tech\n"
    -- and so do lists, read and written
    ∷ lists 1 one (given (top ∷ []))
    ∷ writes 999 "A\tX\tAa\tb\n" (top ∷ rule_of "R-z" ∷ []) (given (bytes "A\tX\tAa\tb\nP\t0\tTop\tdeny-overrides\t*\nR\t1\tR-z\tpermit\tAa\n"))
    -- a request line may have a value in any letter case
    ∷ decides spelled "Lab-Tech" (given Decision.Permit)
    ∷ decides spelled "lAB-tECH" (given Decision.Permit)
    ∷ decides spelled "lab-techs" (refused 10 1)
    -- the letters end at A and Z, at a and z
    ∷ prints "A\tAZ\taz\tAZ0\nP\t0\tZa\tdeny-overrides\t*\n" "G\t0\t2\tnot-applicable\tZa\n"
    ∷ prints "A\tx\t@\n" "E\t3\t1\n"
    ∷ prints "A\tx\t[\n" "E\t3\t1\n"
    ∷ prints "A\tx\t`\n" "E\t3\t1\n"
    ∷ prints "A\tx\t{\n" "E\t3\t1\n"
    -- and no other bytes are equal: bytes 16 and 32 below a letter
    ∷ prints "A\tx\tq\t1\tQ0\tA0\nP\t0\tTop\tdeny-overrides\t*\n" "G\t0\t4\tnot-applicable\tTop\n"
    ∷ decides one "A" (given not_applicable)
    ∷ decides one "!" (refused 10 1)
    -- 4: attribute, value, element, also in a list
    ∷ prints "A\tRole\ta\nA\trolE\tb\n" "E\t4\t2\n"
    ∷ prints "A\tx\taZ\tb\tAz\n" "E\t4\t1\n"
    ∷ prints (one and "R\t1\ttop\tpermit\t*\n") "E\t4\t3\n"
    ∷ writes 999 "A\tx\ta\tb\n" (top ∷ rule_of "tOP" ∷ []) (refused 4 3)
    ∷ writes 999 "A\tx\ta\tb\nA\tX\ta\n" (top ∷ []) (refused 4 2)
    -- 8: a target spells a value as its attribute line does
    ∷ prints (one and "R\t1\tr\tpermit\tA\n") "E\t8\t3\n"
    -- 2 and 7: letters and words have one spelling
    ∷ prints "a\tx\ta\n" "E\t2\t1\n"
    ∷ prints (one and "r\t1\tr1\tpermit\t*\n") "E\t2\t3\n"
    ∷ prints (one and "R\t1\tr1\tPermit\t*\n") "E\t7\t3\n"
    ∷ []

pub capitals_hold : Each capitals
unfolding read decide_file first_change trimmed segments segment_size children_of conflicts report trim_file report_file program list_file write_file
capitals_hold = (refl, (refl, (refl, (refl, (refl, (refl, (refl, (refl, (refl, (refl, (refl, (refl, (refl, (refl, (refl, (refl, (refl, (refl, (refl, (refl, (refl, (refl, (refl, (refl, tt))))))))))))))))))))))))
