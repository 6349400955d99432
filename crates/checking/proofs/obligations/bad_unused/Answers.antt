-- `bad_unused` meets its contract: the chain is what the meaning says of the places.
use Rattle.std.proofs.Common.{◌∙◌, drop, rules, tests}
use Rattle.std.proofs.lemmas.Iterator.{YieldsList-from_slice}
use Rattle.std.proofs.lemmas.Iterator.Adapters.{YieldsList-from_skip}
use Rattle.std.proofs.lemmas.Iterator.Search.{any_from_yields_List}
use Rattle.meaning.specs.Model.{places_of}
use Rattle.meaning.specs.Reading.{other_content}
use Rattle.checking.proofs.Zeros.{any_is}
use Rattle.checking.proofs.obligations.bad_unused.Goals as goal

pub returns : goal.returns
returns c =
    let e = c.args.e in
    any_from_yields_List other_content _ _ _ c.any.ensures.ran (YieldsList-from_skip e.obligations (YieldsList-from_slice (places_of e) (cc (c.skip.ensures.source, c.iter.ensures.rest))) c.skip.ensures.count) (λ x b q k. search (rules, tests)) ∙ any_is other_content (drop e.obligations (places_of e))
