-- Pairs of values that get another decision than one of the two alone: which are listed, in which order, 13 and 11; cases,
-- computed.
use mathlib.Core.Path.{refl}
use Prim.Native.String.{String, ◌++◌ as ◌and◌}
use mathlib.Core.List.{List, [], ◌∷◌}
use Rattle.meaning.specs.Text.{bytes}
use Rattle.meaning.specs.Model.{refused, given}
use Rattle.meaning.specs.Reading.{read}
use Rattle.meaning.specs.ValuePairs.{value_pairs, pairs_named, value_pairs_file}
use Rattle.meaning.proofs.Cases.{Case, pairs, Each}

-- the text that a name gets where there is room
abbrev tells : (file name text : String) → Case
tells f a t = pairs 999 f a (given (bytes t))

-- a file of one attribute: sets 0 to 2 are a, b and both
abbrev two : String → String
two tree = "M\tx\ta\tb\n" and tree

-- the pair is denied, as the later value is, or permitted, as the earlier one is
abbrev barred : String
barred = two ("P\t0\ttop\tdeny-overrides\t*\n" and "R\t1\tr1\tpermit\ta\n" and "R\t1\tr2\tdeny\tb\n")

abbrev freed : String
freed = two ("P\t0\ttop\tpermit-overrides\t*\n" and "R\t1\tr1\tpermit\ta\n" and "R\t1\tr2\tdeny\tb\n")

-- the policy's target takes one value and its rule the other, so only both are permitted
abbrev joint : String
joint = two ("P\t0\ttop\tdeny-overrides\ta\n" and "R\t1\tr\tpermit\tb\n")

-- each value alone is permitted by its own policy, and both policies match the pair
abbrev torn : String
torn =
    two
    ("S\t0\ttop\tonly-one-applicable\t*\n"
    and "P\t1\tp\tdeny-overrides\ta\n"
    and "R\t2\tr1\tpermit\t*\n"
    and "P\t1\tq\tdeny-overrides\tb\n"
    and "R\t2\tr2\tpermit\t*\n")

-- sets 0 to 6 of three values are a, b, a,b, c, a,c, b,c and all; here only all three are permitted
abbrev all_three : String
all_three = "M\tx\ta\tb\tc\n" and "S\t0\ttop\tdeny-overrides\ta\n" and "P\t1\tp\tdeny-overrides\tb\n" and "R\t2\tr\tpermit\tc\n"

-- a and b are alike, apart and together; c is another
abbrev alike : String
alike = "M\tx\ta\tb\tc\n" and "P\t0\ttop\tfirst-applicable\t*\n" and "R\t1\tr1\tpermit\ta,b\n" and "R\t1\tr2\tdeny\tc\n"

-- `M` first: request 2 × set + act. The pair is 4 with x and 5 with y
abbrev foremost : String
foremost = "M\tRole\ta\tb\n" and "A\tact\tx\ty\n" and "P\t0\ttop\tdeny-overrides\t*\t*\n" and "R\t1\tr1\tpermit\ta\t*\n" and "R\t1\tr2\tdeny\tb\tx\n"

-- `M` last: request 7 × act + set. The pairs are 2, 4 and 5 with x, and 9, 11 and 12 with y
abbrev hindmost : String
hindmost = "A\tact\tx\ty\n" and "M\trole\ta\tb\tc\n" and "P\t0\ttop\tdeny-overrides\t*\t*\n" and "R\t1\tr1\tpermit\t*\ta\n" and "R\t1\tr2\tdeny\tx\tc\n"

abbrev hindmost_pairs : String
hindmost_pairs =
    "D\t2\tpermit\tpermit\tnot-applicable\n"
    and "D\t4\tdeny\tpermit\tdeny\n"
    and "D\t5\tdeny\tnot-applicable\tdeny\n"
    and "D\t9\tpermit\tpermit\tnot-applicable\n"
    and "D\t11\tpermit\tpermit\tnot-applicable\n"

-- `M` in the middle and last: request 9 × act + 3 × role + zone. Each pair comes with all sets of the other `M`
abbrev middle : String
middle =
    "A\tact\tx\ty\n"
    and "M\trole\ta\tb\n"
    and "M\tzone\tp\tq\n"
    and "P\t0\ttop\tdeny-overrides\t*\t*\t*\n"
    and "R\t1\tr1\tpermit\tx\ta\t*\n"
    and "R\t1\tr2\tdeny\t*\tb\tp\n"

abbrev role_pairs : String
role_pairs =
    "D\t6\tdeny\tpermit\tdeny\n"
    and "D\t7\tpermit\tpermit\tnot-applicable\n"
    and "D\t8\tdeny\tpermit\tdeny\n"
    and "D\t15\tdeny\tnot-applicable\tdeny\n"
    and "D\t17\tdeny\tnot-applicable\tdeny\n"

abbrev zone_pairs : String
zone_pairs =
    "D\t5\tdeny\tdeny\tnot-applicable\n"
    and "D\t8\tdeny\tdeny\tpermit\n"
    and "D\t14\tdeny\tdeny\tnot-applicable\n"
    and "D\t17\tdeny\tdeny\tnot-applicable\n"

abbrev pub told : List Case
told =
    -- another decision than one value alone, the earlier or the later, or than both
    tells barred "x" "D\t2\tdeny\tpermit\tdeny\n"
    ∷ tells freed "x" "D\t2\tpermit\tpermit\tdeny\n"
    ∷ tells joint "x" "D\t2\tpermit\tnot-applicable\tnot-applicable\n"
    ∷ tells torn "x" "D\t2\tindeterminate\tpermit\tpermit\n"
    -- no line: both values decide as the pair does, a set of three, one value alone
    ∷ tells alike "x" "D\t4\tpermit\tpermit\tdeny\nD\t5\tpermit\tpermit\tdeny\n"
    ∷ tells all_three "x" ""
    ∷ tells "M\tx\ta\nP\t0\ttop\tdeny-overrides\t*\nR\t1\tr\tpermit\t*\n" "x" ""
    -- each choice of the other attributes; lines rise by number, whatever the pair
    ∷ tells foremost "Role" "D\t4\tdeny\tpermit\tdeny\nD\t5\tpermit\tpermit\tnot-applicable\n"
    ∷ tells hindmost "role" hindmost_pairs
    ∷ tells middle "role" role_pairs
    ∷ tells middle "zone" zone_pairs
    -- the name in other letter case
    ∷ tells foremost "rOLE" "D\t4\tdeny\tpermit\tdeny\nD\t5\tpermit\tpermit\tnot-applicable\n"
    -- 13: the name of an `A`, of an element, of a value, of nothing, no name at all
    ∷ pairs 999 foremost "act" (refused 13 0)
    ∷ pairs 999 foremost "top" (refused 13 0)
    ∷ pairs 999 foremost "a" (refused 13 0)
    ∷ pairs 999 foremost "rol" (refused 13 0)
    ∷ pairs 999 foremost "roles" (refused 13 0)
    ∷ pairs 999 foremost "" (refused 13 0)
    ∷ pairs 999 foremost "role\n" (refused 13 0)
    -- behind all of reading, before 11
    ∷ pairs 999 "" "y" (refused 9 0)
    ∷ pairs 999 (barred and "R\t1\tr3\tdeny\ta,b\n") "y" (refused 8 5)
    ∷ pairs 0 foremost "act" (refused 13 0)
    -- 11 with the bytes needed
    ∷ pairs 21 barred "x" (given (bytes "D\t2\tdeny\tpermit\tdeny\n"))
    ∷ pairs 20 barred "x" (refused 11 21)
    ∷ pairs 0 barred "x" (refused 11 21)
    ∷ pairs 0 all_three "x" (given [])
    ∷ []

pub told_hold : Each told
unfolding read value_pairs pairs_named value_pairs_file
told_hold = (refl, (refl, (refl, (refl, (refl, (refl, (refl, (refl, (refl, (refl, (refl, (refl, (refl, (refl, (refl, (refl, (refl, (refl, (refl, (refl, (refl, (refl, (refl, (refl, (refl, (refl, tt))))))))))))))))))))))))))
