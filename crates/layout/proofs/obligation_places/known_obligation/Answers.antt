-- `known_obligation` meets its contract: by how many obligations there are, and by the name of each.
use Prim.Native.Nat.{ℕ}
use mathlib.Core.Path.{◌≡◌, sym, ap, ◌∙◌}
use mathlib.Core.Bool.{Bool}
use mathlib.Core.List.{List, [], ◌∷◌, map}
use lib.ListN.{take}
use Rattle.meaning.specs.Text.{Bytes, among_names}
use Rattle.meaning.specs.Model.{obligation_name}
use Rattle.layout.specs.declared.ElementPlaces.{ElementPlaces}
use Rattle.layout.specs.Places.{obligations_in, obligation_count}
use Rattle.layout.proofs.Obligations.{obligation_name_at, obligation_names, of_none, of_first, of_one, of_two_lem}
use Rattle.layout.proofs.obligation_places.known_obligation.Goals as goal

-- an answer on the first so many names is one on the obligations
answer : (f : Bytes) (places : List ElementPlaces) (i : ℕ) (name : Bytes) (n : ℕ) → n ≡ obligation_count places i → (r : Bool) → let at = obligation_name_at f places i in r ≡ among_names name (take n (at 0 ∷ at 1 ∷ []))
    → r ≡ among_names name (map obligation_name (obligations_in f places i))
answer f places i name n count r is =
    let at = obligation_name_at f places i in
    is ∙ ap (λ n. among_names name (take n (at 0 ∷ at 1 ∷ []))) count ∙ sym (ap (among_names name) (obligation_names f places i))

pub returns-then-count-eq0 : goal.returns-then-count-eq0
returns-then-count-eq0 c =
    let a = c.args in
    answer a.file.now a.places.now a.i a.name.now _ c.obligation_count-count.ensures.value _ (of_none a.name.now _ _ _ c.if-count-eq0.true)

pub returns-then-has_obligation : goal.returns-then-has_obligation
returns-then-has_obligation c =
    let a = c.args in
    answer a.file.now a.places.now a.i a.name.now _ c.obligation_count-count.ensures.value _ (of_first a.name.now _ _ _ c.if-count-eq0.false (sym c.has_obligation.ensures ∙ c.if-has_obligation.true))

pub returns-then-count-eq1 : goal.returns-then-count-eq1
returns-then-count-eq1 c =
    let a = c.args in
    answer a.file.now a.places.now a.i a.name.now _ c.obligation_count-count.ensures.value _ (of_one a.name.now _ _ _ c.if-count-eq1.true (sym c.has_obligation.ensures ∙ c.if-has_obligation.false))

pub returns : goal.returns
returns c =
    let a = c.args in
    let few = c.obligation_count-count.ensures.within in
    answer a.file.now a.places.now a.i a.name.now _ c.obligation_count-count.ensures.value _ (c.has_obligation-2.ensures ∙ of_two_lem a.name.now _ _ _ c.if-count-eq0.false c.if-count-eq1.false few (sym c.has_obligation.ensures ∙ c.if-has_obligation.false))
