-- Accepting a proposal beside its original: 0, 16, 17, 18, and what comes before them; cases, computed.
use mathlib.Core.Path.{refl}
use Prim.Native.String.{String, ◌++◌ as ◌and◌}
use mathlib.Core.List.{List, [], ◌∷◌}
use Rattle.meaning.specs.Reading.{read}
use Rattle.meaning.specs.Trimming.{first_change}
use Rattle.meaning.specs.Accepting.{judged, accept_file}
use Rattle.meaning.proofs.Cases.{Case, accepts, Each, bare}
use Rattle.meaning.proofs.RuleByRule.{kept, third, fourth, one_twin, other_twin, twins, obliged, second}

-- the paper's report, and its lines before the second rule
abbrev worked : String
worked = kept and third and fourth

abbrev start : String
start = "A\trole\ttech\tguest\n" and "A\tact\tjog\tteach\n" and "P\t0\tcell\tfirst-applicable\t*\t*\n"

abbrev first : String
first = "R\t1\tr1\tpermit\ttech\t*\n"

-- the lines of `obliged` before its obligation's, that line, and those behind its rule's
abbrev before : String
before = "A\tx\ta\n" and "S\t0\ttop\tpermit-overrides\t*\n" and "P\t1\tp\tdeny-overrides\t*\n"

abbrev log : String
log = "O\tlog\tpermit\n"

abbrev behind : String
behind = "P\t1\tempty\tdeny-overrides\t*\n" and "P\t1\tq\tdeny-overrides\t*\n"

abbrev pub proposed : List Case
proposed =
    -- the paper's report: the text left; itself and one rule struck, whose topmost needless rule is r2 and not the one to strike next
    accepts worked kept 0 0
    ∷ accepts worked worked 18 5
    ∷ accepts worked (kept and third) 18 5
    ∷ accepts worked (kept and fourth) 18 6
    -- another choice of rules, which trimming does not come to
    ∷ accepts worked (start and first and third) 0 0
    -- too few: the first request that differs; 17 comes before 18
    ∷ accepts worked (start and first) 17 3
    ∷ accepts worked (start and "R\t1\tr2\tdeny\tguest\tteach\n") 17 0
    ∷ accepts worked (start and "R\t1\tr2\tdeny\tguest\tteach\n" and third and fourth) 17 1
    -- a file of which nothing is to be struck, and one without rules
    ∷ accepts kept kept 0 0
    ∷ accepts bare bare 0 0
    -- case 8: either of the twins may stay, not both and not none
    ∷ accepts twins (bare and one_twin) 0 0
    ∷ accepts twins (bare and other_twin) 0 0
    ∷ accepts twins twins 18 3
    ∷ accepts twins bare 17 0
    -- a rule needed for its obligation alone, and the first without which nothing changes
    ∷ accepts (obliged and second) obliged 0 0
    ∷ accepts (obliged and second) (obliged and second) 18 8
    ∷ accepts (obliged and second) (before and log and behind and second) 17 0
    -- 16: another letter case, which is an equal name; another value; a line that is no line of the original
    ∷ accepts twins (bare and "R\t1\ttwin-1\tpermit\t*\n") 16 3
    ∷ accepts twins ("A\tx\tb\n" and "P\t0\ttop\tdeny-overrides\t*\n" and one_twin) 16 1
    ∷ accepts twins (bare and one_twin and "R\t1\tr3\tpermit\t*\n") 16 4
    ∷ accepts kept (kept and third) 16 6
    -- lines exchanged: the first matches, with the one before it skipped
    ∷ accepts twins (bare and other_twin and one_twin) 16 4
    -- lines other than rules' left out: an obligation's, an empty policy's, and the same at the end, where no line tells
    ∷ accepts obliged (before and "R\t2\tr1\tpermit\t*\n" and behind) 16 4
    ∷ accepts obliged (before and log and "R\t2\tr1\tpermit\t*\n" and "P\t1\tq\tdeny-overrides\t*\n") 16 6
    ∷ accepts (obliged and second) (before and log and "R\t2\tr1\tpermit\t*\n" and "P\t1\tempty\tdeny-overrides\t*\n") 16 0
    ∷ accepts (bare and "O\tlog\tpermit\n") bare 16 0
    -- 16 comes before 17
    ∷ accepts worked (start and fourth and third) 16 5
    -- the original's refusal, then the proposal's, then 16
    ∷ accepts "" "A\tx\n" 9 0
    ∷ accepts (bare and "R\t1\tr\tallow\t*\n") "" 7 3
    ∷ accepts bare "" 9 0
    ∷ accepts twins ("A\tx\tb\n" and "P\t0\ttop\tdeny-overrides\t*\n" and "R\t1\tr\tpermit\tb\n") 8 3
    ∷ accepts twins (bare and "R\t1\tTwin-1\tpermit\t*") 2 3
    ∷ []

pub proposed_hold : Each proposed
unfolding read first_change judged accept_file
proposed_hold = (refl, (refl, (refl, (refl, (refl, (refl, (refl, (refl, (refl, (refl, (refl, (refl, (refl, (refl, (refl, (refl, (refl, (refl, (refl, (refl, (refl, (refl, (refl, (refl, (refl, (refl, (refl, (refl, (refl, (refl, (refl, (refl, tt))))))))))))))))))))))))))))))))
