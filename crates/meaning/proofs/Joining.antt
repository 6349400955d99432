-- Two files joined: the text, what it decides, 19, 7 and what reading it refuses; cases, computed.
use mathlib.Core.Path.{◌≡◌, refl}
use Prim.Native.String.{String, ◌++◌ as ◌and◌}
use mathlib.Core.List.{List, [], ◌∷◌, ◌++◌}
use Rattle.meaning.specs.Text.{bytes}
use Rattle.meaning.specs.Model.{Decision, not_applicable, indeterminate, Result, refused, given}
use Rattle.meaning.specs.Reading.{read}
use Rattle.meaning.specs.Deciding.{Outcome, decide_file}
use Rattle.meaning.specs.Joining.{joined_text, joined, join_file}
use Rattle.meaning.proofs.Cases.{Case, gives, joins, Each, one, bare, deep}
use Rattle.meaning.proofs.Obligations.{rules_from}

-- The maker's policy and the lab's. They share one attribute, whose name the lab spells otherwise, at another place
abbrev maker : String
maker =
    "A\trole\ttech\tguest\n"
    and "A\tact\tjog\tteach\n"
    and "S\t0\tmaker\tdeny-overrides\t*\t*\n"
    and "O\tlog\tdeny\n"
    and "P\t1\tsafety\tfirst-applicable\t*\tteach\n"
    and "R\t2\tno-guests\tdeny\tguest\t*\n"

abbrev lab : String
lab =
    "A\tnest\tn1\tn2\tn3\n"
    and "A\tAct\tjog\tteach\n"
    and "P\t0\tlab\tfirst-applicable\tn1,n2\t*\n"
    and "O\tLog\tpermit\n"
    and "O\tslow\tdeny\n"
    and "R\t1\tjog\tpermit\t*\tjog\n"
    and "R\t1\tteach\tpermit\tn1\t*\n"

-- their joined text by a word
abbrev over : String → String
over word =
    "A\trole\ttech\tguest\n"
    and "A\tact\tjog\tteach\n"
    and "A\tnest\tn1\tn2\tn3\n"
    and "S\t0\tjoined\t"
    and word
    and "\t*\t*\t*\n"
    and "S\t1\tmaker\tdeny-overrides\t*\t*\t*\n"
    and "O\tlog\tdeny\n"
    and "P\t2\tsafety\tfirst-applicable\t*\tteach\t*\n"
    and "R\t3\tno-guests\tdeny\tguest\t*\t*\n"
    and "P\t1\tlab\tfirst-applicable\t*\t*\tn1,n2\n"
    and "O\tLog\tpermit\n"
    and "O\tslow\tdeny\n"
    and "R\t2\tjog\tpermit\t*\tjog\t*\n"
    and "R\t2\tteach\tpermit\t*\t*\tn1\n"

abbrev only : Decision → String → Result Outcome
only d os = given (record { decision = d; obligations = bytes os })

abbrev pub texts : List Case
texts =
    joins 999 maker lab "deny-overrides" (given (bytes (over "deny-overrides")))
    ∷ joins 999 maker lab "permit-overrides" (given (bytes (over "permit-overrides")))
    ∷ joins 999 maker lab "first-applicable" (given (bytes (over "first-applicable")))
    ∷ joins 999 maker lab "only-one-applicable" (given (bytes (over "only-one-applicable")))
    -- a guest who teaches at nest 1: the maker denies, the lab permits
    ∷ gives 99 (over "deny-overrides") "guest\tteach\tn1" (only Decision.Deny "log\n")
    ∷ gives 99 (over "permit-overrides") "guest\tteach\tn1" (only Decision.Permit "Log\n")
    ∷ gives 99 (over "first-applicable") "guest\tteach\tn1" (only Decision.Deny "log\n")
    -- both first targets match, whatever the two decide
    ∷ gives 99 (over "only-one-applicable") "guest\tteach\tn1" (only indeterminate "")
    ∷ gives 99 (over "only-one-applicable") "tech\tjog\tn2" (only indeterminate "")
    -- the maker's alone matches
    ∷ gives 99 (over "only-one-applicable") "guest\tteach\tn3" (only Decision.Deny "log\n")
    ∷ gives 99 (over "only-one-applicable") "tech\tjog\tn3" (only not_applicable "")
    -- the lab's decision, as the maker's is not-applicable
    ∷ gives 99 (over "first-applicable") "tech\tteach\tn1" (only Decision.Permit "Log\n")
    ∷ gives 99 (over "deny-overrides") "tech\tjog\tn2" (only Decision.Permit "Log\n")
    ∷ gives 99 (over "deny-overrides") "tech\tteach\tn2" (only not_applicable "")
    ∷ []

pub texts_hold : Each texts
unfolding read decide_file joined_text joined join_file
texts_hold = (refl, (refl, (refl, (refl, (refl, (refl, (refl, (refl, (refl, (refl, (refl, (refl, (refl, (refl, tt))))))))))))))

-- One attribute, and a policy of one rule that denies, with an obligation
abbrev denying : String → String
denying n = one and ("P\t0\tp" and n and "\tdeny-overrides\t*\n") and ("O\to" and n and "\tdeny\n") and ("R\t1\tr" and n and "\tdeny\t*\n")

abbrev both : String → String
both word =
    one
    and ("S\t0\tjoined\t" and word and "\t*\n")
    and "P\t1\tp1\tdeny-overrides\t*\nO\to1\tdeny\nR\t2\tr1\tdeny\t*\n"
    and "P\t1\tp2\tdeny-overrides\t*\nO\to2\tdeny\nR\t2\tr2\tdeny\t*\n"

-- an `M` in common, and one that the first lacks
abbrev sets : String
sets = "M\tx\ta\tb\nP\t0\tp1\tdeny-overrides\ta\nR\t1\tr1\tpermit\t*\n"

abbrev others : String
others = "M\ty\tk\tl\nM\tx\ta\tb\nP\t0\tp2\tdeny-overrides\t*\tb\nR\t1\tr2\tdeny\tl\t*\n"

abbrev pub more : List Case
more =
    -- with the decision of both come the obligations of each that is asked, the first file's first
    joins 999 (denying "1") (denying "2") "permit-overrides" (given (bytes (both "permit-overrides")))
    ∷ gives 99 (both "permit-overrides") "a" (only Decision.Deny "o1\no2\n")
    ∷ gives 99 (both "deny-overrides") "a" (only Decision.Deny "o1\n")
    ∷ gives 99 (both "first-applicable") "a" (only Decision.Deny "o1\n")
    ∷ gives 99 (both "only-one-applicable") "a" (only indeterminate "")
    -- sets of values
    ∷ joins 999 sets others "first-applicable" (given (bytes "M\tx\ta\tb\nM\ty\tk\tl\nS\t0\tjoined\tfirst-applicable\t*\t*\nP\t1\tp1\tdeny-overrides\ta\t*\nR\t2\tr1\tpermit\t*\t*\nP\t1\tp2\tdeny-overrides\tb\t*\nR\t2\tr2\tdeny\t*\tl\n"))
    -- 11 with the text's bytes
    ∷ joins 132 (denying "1") (denying "2") "permit-overrides" (given (bytes (both "permit-overrides")))
    ∷ joins 131 (denying "1") (denying "2") "permit-overrides" (refused 11 132)
    ∷ []

pub more_hold : Each more
unfolding read decide_file joined_text joined join_file
more_hold = (refl, (refl, (refl, (refl, (refl, (refl, (refl, (refl, tt))))))))

-- attributes of one value, and a policy with its targets
abbrev named : String → String → String
named a n = ("A\t" and a and "\n") and ("P\t0\t" and n and "\tdeny-overrides\t*\n")

-- four attributes
abbrev four : String → String → String
four a n = ("A\t" and a and "1\ta\n") and ("A\t" and a and "2\ta\n") and ("A\t" and a and "3\ta\n") and ("A\t" and a and "4\ta\n") and ("P\t0\t" and n and "\tdeny-overrides\t*\t*\t*\t*\n")

abbrev pub refusals : List Case
refusals =
    -- 19: another letter; other values, their order, their letter case, one less, one more
    joins 999 (named "x\ta" "p1") ("M\tx\ta\n" and "P\t0\tp2\tdeny-overrides\t*\n") "deny-overrides" (refused 19 1)
    ∷ joins 999 (named "x\ta" "p1") (named "x\tb" "p2") "deny-overrides" (refused 19 1)
    ∷ joins 999 (named "x\ta\tb" "p1") (named "x\tb\ta" "p2") "deny-overrides" (refused 19 1)
    ∷ joins 999 (named "x\ta" "p1") (named "x\tA" "p2") "deny-overrides" (refused 19 1)
    ∷ joins 999 (named "x\ta\tb" "p1") (named "x\ta" "p2") "deny-overrides" (refused 19 1)
    ∷ joins 999 (named "x\ta" "p1") (named "x\ta\tb" "p2") "deny-overrides" (refused 19 1)
    -- a name in another letter case is equal: 19 where its values differ, and the first file's line where not
    ∷ joins 999 (named "x\ta" "p1") (named "X\tb" "p2") "deny-overrides" (refused 19 1)
    ∷ joins 999 (named "x\ta" "p1") (named "X\ta" "p2") "deny-overrides" (given (bytes "A\tx\ta\nS\t0\tjoined\tdeny-overrides\t*\nP\t1\tp1\tdeny-overrides\t*\nP\t1\tp2\tdeny-overrides\t*\n"))
    -- the lowest line of the second file
    ∷ joins 999 (four "x" "p1") ("A\ty\ta\nA\tx3\tb\nA\tx1\tc\n" and "P\t0\tp2\tdeny-overrides\t*\t*\t*\n") "deny-overrides" (refused 19 2)
    -- 7 with the line of `joined`: words of rules, another letter case, none; over six attributes too
    ∷ joins 999 (named "x\ta" "p1") (named "x\ta" "p2") "permit" (refused 7 2)
    ∷ joins 999 (named "x\ta" "p1") (named "y\ta" "p2") "Deny-overrides" (refused 7 3)
    ∷ joins 999 (named "x\ta" "p1") (named "y\ta" "p2") "" (refused 7 3)
    ∷ joins 999 (four "x" "p1") (four "y" "p2") "deny" (refused 7 9)
    -- 19 before 7; 7 before what reading the joined text refuses
    ∷ joins 999 (named "x\ta" "p1") (named "x\tb" "p1") "permit" (refused 19 1)
    ∷ joins 999 (named "x\ta" "p1") (named "x\ta" "p1") "permit" (refused 7 2)
    -- 5: attribute 7, with its line
    ∷ joins 999 (four "x" "p1") (four "y" "p2") "deny-overrides" (refused 5 7)
    -- 4: equal names of elements, letter case aside; an element named `joined`, in the first file or in the second
    ∷ joins 999 bare bare "deny-overrides" (refused 4 4)
    ∷ joins 999 bare (named "x\ta" "TOP") "deny-overrides" (refused 4 4)
    ∷ joins 999 (named "x\ta" "Joined") bare "deny-overrides" (refused 4 3)
    ∷ joins 999 bare (named "x\ta" "joined") "deny-overrides" (refused 4 4)
    -- 6: depth 7 becomes 8, with that line; depth 6 may be
    ∷ joins 999 (deep "7") (named "x\ta" "p2") "deny-overrides" (refused 6 10)
    ∷ joins 999 (named "x\ta" "p1") (deep "7") "deny-overrides" (refused 6 11)
    ∷ joins 0 (named "x\ta" "p1") (deep "6") "deny-overrides" (refused 11 251)
    -- the first file's refusal, then the second's, then 19
    ∷ joins 999 "" "A\tx\n" "deny-overrides" (refused 9 0)
    ∷ joins 999 bare "A\tx\n" "permit" (refused 2 1)
    ∷ joins 999 bare "A\tx\tb\n" "permit" (refused 9 0)
    ∷ []

pub refusals_hold : Each refusals
unfolding read joined_text joined join_file
refusals_hold = (refl, (refl, (refl, (refl, (refl, (refl, (refl, (refl, (refl, (refl, (refl, (refl, (refl, (refl, (refl, (refl, (refl, (refl, (refl, (refl, (refl, (refl, (refl, (refl, (refl, (refl, tt))))))))))))))))))))))))))

-- 64 elements with the set, and one more
pub sixty_four : join_file 0 (bytes (named "x\ta" "p1") ++ rules_from 0 31) (bytes (named "x\ta" "p2") ++ rules_from 31 30) (bytes "deny-overrides") ≡ refused 11 1109
unfolding read joined_text joined join_file
sixty_four = refl

pub sixty_five : join_file 0 (bytes (named "x\ta" "p1") ++ rules_from 0 31) (bytes (named "x\ta" "p2") ++ rules_from 31 31) (bytes "deny-overrides") ≡ refused 5 66
unfolding read joined_text joined join_file
sixty_five = refl
