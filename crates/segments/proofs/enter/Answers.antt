-- `enter`: if the search finds none, m opens a segment and is chained in its bucket; else the chains serve as they are. Assumes nothing.
use mathlib.Core.Path.{sym, ap, ◌∙◌}
use native.Mathlib.Omega.{arith}
use Rattle.meaning.specs.Text.{is_none}
use Rattle.laws.proofs.Found.{found_some, found_none}
use Rattle.laws.proofs.Search.{first_some}
use Rattle.table.specs.Tree.{place_or}
use Rattle.segments.proofs.Chains.{chained_same, chained_more}
use Rattle.segments.proofs.enter.Goals as goal

pub returns-in-Some : goal.returns-in-Some
returns-in-Some c =
    let earlier = found_some _ (sym c.first_alike.ensures ∙ c.in-Some.is) in
    (sym (ap (place_or _) earlier), omega (arith, (first_some _ 0 c.args.m _ earlier).high), chained_same c.requires.0 (ap is_none earlier))

pub returns : goal.returns
returns c =
    let none = found_none _ (sym c.first_alike.ensures ∙ c.in_default.is) in
    (sym (ap (place_or _) none), omega arith, chained_more c.requires.0 _ c.bucket-head.ensures c.requires.2 (ap is_none none))
