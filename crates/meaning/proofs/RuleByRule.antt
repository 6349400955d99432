-- Trimming rule by rule: which rule is shown, what a name strikes, 15 and 11; cases, computed.
use mathlib.Core.Path.{refl}
use Prim.Native.String.{String, ◌++◌ as ◌and◌}
use mathlib.Core.List.{List, [], ◌∷◌}
use Rattle.meaning.specs.Text.{bytes}
use Rattle.meaning.specs.Model.{refused, given}
use Rattle.meaning.specs.Reading.{read}
use Rattle.meaning.specs.Trimming.{first_change}
use Rattle.meaning.specs.RuleByRule.{next_name, strike_named, next_rule_file, strike_file}
use Rattle.meaning.proofs.Cases.{Case, shows, strikes, Each, bare, three}

-- the name shown, or none where it is empty; and the text left, where there is room
abbrev named : (file name : String) → Case
named f n = shows 16 f (given (bytes n))

abbrev leaves : (file name text : String) → Case
leaves f n t = strikes 16384 f n (given (bytes t))

-- no needless rule has the name
abbrev not_struck : (file name : String) → Case
not_struck f n = strikes 16384 f n (refused 15 0)

-- the paper's report strikes r4 and then r3, which is needless at once
abbrev pub kept : String
kept =
    "A\trole\ttech\tguest\n"
    and "A\tact\tjog\tteach\n"
    and "P\t0\tcell\tfirst-applicable\t*\t*\n"
    and "R\t1\tr1\tpermit\ttech\t*\n"
    and "R\t1\tr2\tdeny\tguest\tteach\n"

abbrev pub third : String
third = "R\t1\tr3\tdeny\t*\tteach\n"

abbrev pub fourth : String
fourth = "R\t1\tr4\tpermit\ttech\tjog\n"

abbrev worked : String
worked = kept and third and fourth

-- the four rules of case 9, without the second, and without the first two
abbrev last : String
last = "R\t1\tr4\tdeny\tb\n"

abbrev fewer : String
fewer = "A\tx\ta\tb\tc\n" and "P\t0\ttop\tfirst-applicable\t*\n" and "R\t1\tr3\tpermit\ta,c\n"

abbrev others : String
others = "A\tx\ta\tb\tc\n" and "P\t0\ttop\tfirst-applicable\t*\n" and "R\t1\tr1\tpermit\ta\n" and "R\t1\tr3\tpermit\ta,c\n" and last

-- equal rules, of which either is needless while the other stands
abbrev pub one_twin : String
one_twin = "R\t1\tTwin-1\tpermit\t*\n"

abbrev pub other_twin : String
other_twin = "R\t1\ttwin-2\tpermit\t*\n"

abbrev pub twins : String
twins = bare and one_twin and other_twin

-- the first policy permits and settles; without its rule the second permits, but the obligation does not come
abbrev pub obliged : String
obliged =
    "A\tx\ta\n"
    and "S\t0\ttop\tpermit-overrides\t*\n"
    and "P\t1\tp\tdeny-overrides\t*\n"
    and "O\tlog\tpermit\n"
    and "R\t2\tr1\tpermit\t*\n"
    and "P\t1\tempty\tdeny-overrides\t*\n"
    and "P\t1\tq\tdeny-overrides\t*\n"

abbrev pub second : String
second = "R\t2\tr2\tpermit\t*\n"

abbrev pub in_turn : List Case
in_turn =
    -- shown and struck to the end: the paper's order
    named worked "r4"
    ∷ leaves worked "r4" (kept and third)
    ∷ named (kept and third) "r3"
    ∷ leaves (kept and third) "r3" kept
    ∷ named kept ""
    -- any needless rule may be struck, not only the one shown
    ∷ leaves worked "r3" (kept and fourth)
    -- the later twin is shown, the earlier can be struck, and then the other is needed
    ∷ named twins "twin-2"
    ∷ leaves twins "Twin-1" (bare and other_twin)
    ∷ not_struck (bare and other_twin) "twin-2"
    -- case 9: the fourth is shown, and then none; the second can be struck instead, and then the first is needless
    ∷ named (three and last) "r4"
    ∷ named three ""
    ∷ leaves (three and last) "r2" others
    ∷ leaves others "r1" (fewer and last)
    -- a policy without rules
    ∷ named bare ""
    -- the name in other letter case; it is shown as the file spells it
    ∷ leaves twins "tWIN-1" (bare and other_twin)
    ∷ named (bare and other_twin and one_twin) "Twin-1"
    -- a rule needed for its obligation alone
    ∷ named (obliged and second) "r2"
    ∷ leaves (obliged and second) "r2" obliged
    ∷ not_struck (obliged and second) "r1"
    -- 15: the name of a set, of a policy, also of an empty one, of an attribute, of an obligation, of nothing; no name at all
    ∷ not_struck (obliged and second) "top"
    ∷ not_struck (obliged and second) "q"
    ∷ not_struck (obliged and second) "empty"
    ∷ not_struck (obliged and second) "x"
    ∷ not_struck (obliged and second) "log"
    ∷ not_struck (obliged and second) "r"
    ∷ not_struck (obliged and second) "r22"
    ∷ not_struck (obliged and second) ""
    ∷ not_struck (obliged and second) "r2\n"
    ∷ not_struck (obliged and second) "r2-a-name-of-17-b"
    -- behind all of reading, before 11
    ∷ shows 0 "" (refused 9 0)
    ∷ strikes 0 "" "r" (refused 9 0)
    ∷ strikes 0 (twins and "R\t1\tr3\tdeny\ta\n") "none" (refused 8 5)
    ∷ strikes 0 twins "none" (refused 15 0)
    -- 11 with the bytes needed; where no rule is shown none are
    ∷ shows 6 twins (given (bytes "twin-2"))
    ∷ shows 5 twins (refused 11 6)
    ∷ shows 0 bare (given [])
    ∷ strikes 51 twins "twin-2" (given (bytes (bare and one_twin)))
    ∷ strikes 50 twins "twin-2" (refused 11 51)
    ∷ []

pub in_turn_hold : Each in_turn
unfolding read first_change next_name strike_named next_rule_file strike_file
in_turn_hold = (refl, (refl, (refl, (refl, (refl, (refl, (refl, (refl, (refl, (refl, (refl, (refl, (refl, (refl, (refl, (refl, (refl, (refl, (refl, (refl, (refl, (refl, (refl, (refl, (refl, (refl, (refl, (refl, (refl, (refl, (refl, (refl, (refl, (refl, (refl, (refl, (refl, (refl, tt))))))))))))))))))))))))))))))))))))))
