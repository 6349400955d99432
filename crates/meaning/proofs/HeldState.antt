-- Trimming as a held state: what a step answers, and what stands in the place of its text afterwards; cases, computed.
use mathlib.Core.Path.{refl}
use Prim.Native.Nat.{ℕ}
use Prim.Native.String.{String, ◌++◌ as ◌and◌}
use mathlib.Core.List.{List, [], ◌∷◌}
use Rattle.meaning.specs.Reading.{read}
use Rattle.meaning.specs.Trimming.{first_change}
use Rattle.meaning.specs.HeldState.{step_on, step_file}
use Rattle.meaning.proofs.Cases.{Case, steps, Each, bare, three}
use Rattle.meaning.proofs.RuleByRule.{kept, third, fourth, obliged, second}

-- a rule is struck, and the text has so many bytes now; none is left; the text is refused
abbrev leaves : (text : String) (size : ℕ) (after : String) → Case
leaves f n t = steps f (record { number = 0; second = n; struck = 1 }) t

abbrev stays : (text : String) (size : ℕ) → Case
stays f n = steps f (record { number = 0; second = n; struck = 0 }) f

abbrev refuses : (text : String) (number second : ℕ) → Case
refuses f n m = steps f (record { number = n; second = m; struck = 0 }) f

-- the lines before r2 and r3, which are struck, and those behind them; the last of these has as many bytes as r2's
abbrev before : String
before =
    "A\tx\ta\tb\n"
    and "S\t0\ttop\tfirst-applicable\t*\n"
    and "P\t1\tp\tfirst-applicable\t*\n"
    and "O\tlog\tpermit\n"
    and "R\t2\tr1\tpermit\ta\n"

abbrev behind : String
behind = "P\t1\tq\tfirst-applicable\t*\n" and "O\tstop\tdeny\n" and "R\t2\tr4\tdeny\tb\n"

abbrev pub one_by_one : List Case
one_by_one =
    -- the paper's report: the last line is struck, and its bytes still stand behind the text
    leaves (kept and third and fourth) 129 (kept and third and fourth)
    ∷ leaves (kept and third) 109 (kept and third)
    -- a step after the end
    ∷ stays kept 109
    -- a line with others behind it, then the one before: those move down, and the old end stays behind the text
    ∷ leaves (before and "R\t2\tr2\tdeny\ta\n" and "R\t2\tr3\tpermit\ta\n" and behind) 154 (before and "R\t2\tr2\tdeny\ta\n" and behind and "y\nR\t2\tr4\tdeny\tb\n")
    ∷ leaves (before and "R\t2\tr2\tdeny\ta\n" and behind) 140 (before and behind and "R\t2\tr4\tdeny\tb\n")
    ∷ stays (before and behind) 140
    -- case 9: the fourth is struck, and the second is not
    ∷ leaves (three and "R\t1\tr4\tdeny\tb\n") 87 (three and "R\t1\tr4\tdeny\tb\n")
    ∷ stays three 87
    -- no rule; a rule needed for its obligation alone
    ∷ stays bare 31
    ∷ leaves (obliged and second) 135 (obliged and second)
    ∷ stays obliged 135
    -- a text that is refused, also for the line that a step would strike
    ∷ refuses "" 9 0
    ∷ refuses (kept and third and "R\t1\tr4\tpermit\ttech\tjog") 2 7
    ∷ refuses (kept and third and "R\t1\tr3\tpermit\ttech\tjog\n") 4 7
    ∷ []

pub one_by_one_hold : Each one_by_one
unfolding read first_change step_on step_file
one_by_one_hold =
    ((refl, refl), ((refl, refl), ((refl, refl), ((refl, refl), ((refl, refl), ((refl, refl), ((refl, refl), ((refl, refl), ((refl, refl), ((refl, refl), ((refl, refl), ((refl, refl), ((refl, refl), ((refl, refl), tt))))))))))))))
