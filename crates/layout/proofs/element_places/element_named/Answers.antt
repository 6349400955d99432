-- `element_named` meets its contract. The loop keeps the answer: the last element that has the name is the last before `i`.
use Prim.Native.Nat.{ℕ, ◌+◌, ◌-◌, ◌≤◌, ◌<◌}
use mathlib.Core.List.{List}
use mathlib.Core.Path.{refl, sym, ap, ◌∙◌}
use native.Mathlib.Omega.{arith}
use lib.ListN.{length}
use borrow.Author.Rules.{rules}
use Rattle.meaning.specs.Text.{Bytes}
use Rattle.laws.proofs.Search.{last_here, last_earlier, last_nowhere}
use Rattle.names.proofs.Ends.{other_end}
use Rattle.laws.specs.Found.{found}
use Rattle.layout.specs.declared.ElementPlaces.{ElementPlaces}
use Rattle.layout.specs.Places.{start_of, name_end, has_name, Named}
use Rattle.layout.proofs.element_places.element_named.Goals as goal

-- the places of the element below `i`
placed : {f : Bytes} {places : List ElementPlaces} {n : ℕ} → Named f places n → (i : ℕ) → 0 < i → i ≤ n → let k = i - 1 in (k < length places) × (start_of places k + 4 ≤ name_end places k) × (name_end places k ≤ length f)
placed named i some inside = (omega (arith, named.room), named.starts (i - 1) (omega arith), named.ends (i - 1) (omega arith))

pub loop-i-init : goal.loop-i-init
loop-i-init c = refl

pub offset_bounds-places-i : goal.offset_bounds-places-i
offset_bounds-places-i c = let (room, start, end) = placed c.requires c.loop-i.i (omega arith) (omega arith) in search rules

pub bounds-places-i : goal.bounds-places-i
bounds-places-i c =
    let (room, start, end) = placed c.requires c.loop-i.i (omega arith) (omega arith) in search rules

pub ends_otherwise-requires : goal.ends_otherwise-requires
ends_otherwise-requires c =
    let (room, start, end) = placed c.requires c.loop-i.i (omega arith) (omega arith) in (omega arith, end)

pub loop-i-preserved-then-ends_otherwise : goal.loop-i-preserved-then-ends_otherwise
loop-i-preserved-then-ends_otherwise c =
    let a = c.args in
    let (room, start, end) = placed c.requires c.loop-i.i (omega arith) (omega arith) in
    let i = c.loop-i.i - 1 in
    let other = other_end a.file.now a.name.now (start_of a.places.now i + 4) (name_end a.places.now i) start end (sym c.ends_otherwise.ensures ∙ c.if-ends_otherwise.true) in
    c.loop-i.invariant ∙ last_earlier (has_name a.file.now a.places.now a.name.now) c.loop-i.i (omega arith) other

pub offset_bounds-places-i-in-loop-i : goal.offset_bounds-places-i-in-loop-i
offset_bounds-places-i-in-loop-i c =
    let (room, start, end) = placed c.requires c.loop-i.i (omega arith) (omega arith) in search rules

pub bounds-places-i-in-loop-i : goal.bounds-places-i-in-loop-i
bounds-places-i-in-loop-i c =
    let (room, start, end) = placed c.requires c.loop-i.i (omega arith) (omega arith) in search rules

pub overflow_add-start : goal.overflow_add-start
overflow_add-start c =
    let (room, start, end) = placed c.requires c.loop-i.i (omega arith) (omega arith) in search rules

pub slice_bounds-same_name-count : goal.slice_bounds-same_name-count
slice_bounds-same_name-count c =
    let (room, start, end) = placed c.requires c.loop-i.i (omega arith) (omega arith) in search rules

pub slice_bounds-same_name-start : goal.slice_bounds-same_name-start
slice_bounds-same_name-start c =
    let (room, start, end) = placed c.requires c.loop-i.i (omega arith) (omega arith) in search rules

pub slice_bounds-same_name-end : goal.slice_bounds-same_name-end
slice_bounds-same_name-end c =
    let (room, start, end) = placed c.requires c.loop-i.i (omega arith) (omega arith) in search rules

pub returns-then-same_name : goal.returns-then-same_name
returns-then-same_name c =
    let a = c.args in
    sym (ap found (c.loop-i.invariant ∙ last_here (has_name a.file.now a.places.now a.name.now) c.loop-i.i (omega arith) (sym c.same_name.ensures ∙ c.if-same_name.true)))

pub loop-i-preserved : goal.loop-i-preserved
loop-i-preserved c =
    let a = c.args in
    c.loop-i.invariant ∙ last_earlier (has_name a.file.now a.places.now a.name.now) c.loop-i.i (omega arith) (sym c.same_name.ensures ∙ c.if-same_name.false)

pub returns : goal.returns
returns c =
    let a = c.args in
    sym (ap found (c.loop-i.invariant ∙ last_nowhere (has_name a.file.now a.places.now a.name.now) c.loop-i.i (omega arith)))
