-- A target that is not `*` is the mask of its names, if there is one and it is not that of all values.
use mathlib.Core.Path.{◌≡◌, refl, sym, ap₂, ◌∙◌}
use mathlib.Core.Bool.{true, not}
use mathlib.Core.List.{List, map, map-id}
use mathlib.Core.Option.{Option, none, some}
use Prim.Native.Nat.{ℕ}
use lib.Dec.{eqb}
use borrow.Author.Rules.{rules}
use Rattle.meaning.specs.Text.{Bytes, cut, tab, comma}
use Rattle.meaning.specs.Model.{full}
use Rattle.meaning.specs.Reading.{mask_of, target_of}
use Rattle.laws.specs.Found.{found}
use Rattle.syntax.specs.Fields.{spelt}
use Rattle.syntax.proofs.Masks.{not_all}
use Rattle.syntax.proofs.target_mask.Goals as goal

exactly : (vs ns : List Bytes) → mask_of (map (spelt true) vs) (map (spelt true) ns) ≡ mask_of vs ns
exactly vs ns = ap₂ mask_of (map-id vs) (map-id ns)

pub returns : goal.returns
returns c = go (mask_of values names) refl
  where
    values : List Bytes
    values = cut tab c.args.values.now

    names : List Bytes
    names = cut comma c.args.field.now

    go : (o : Option ℕ) → mask_of values names ≡ o → c.filter.result ≡ found (target_of values c.args.field.now)
    go none e = rw (e, sym c.same.ensures ∙ c.if-same.false) (rw (c.names_mask.ensures.value, exactly values names, e) at c.filter.ensures)
    go (some m) e =
        let (b, called, is) = rw (c.names_mask.ensures.value, exactly values names, e) at c.filter.ensures in
        let other : b ≡ not (eqb m (full values)) = search rules in
        rw (e, sym c.same.ensures ∙ c.if-same.false, is, other) (not_all (eqb m (full values)) m)
