-- `obligation_at` meets its contract: nothing, or an obligation whose name lies in the file.
use mathlib.Core.Path.{◌≡◌, ◌∙◌}
use mathlib.Core.Bool.{Bool, false}
use Prim.Native.Nat.{ℕ, ◌+◌, ◌≤◌, ◌<◌}
use native.Mathlib.Omega.{arith}
use mathlib.Core.List.{List}
use lib.Dec.{eqb}
use lib.ListN.{length}
use Rattle.meaning.specs.Text.{Bytes}
use Rattle.layout.specs.declared.ElementPlaces.{ElementPlaces}
use Rattle.layout.specs.declared.Span.{Span}
use Rattle.layout.specs.Places.{places_at, obligation_place, Obliged}
use Rattle.layout.proofs.Obligations.{name_there, no_name_there}
use Rattle.lists.proofs.Parts.{none_placed, one_placed}
use borrow.Author.Rules.{rules}
use Rattle.lists.proofs.element.obligation_at.Goals as goal

-- where an obligation's name stands, and that it is short
standing : (f : Bytes) (places : List ElementPlaces) (i k : ℕ) → Obliged f places i → k < 2 → {none : Bool} (name : Span) → name ≡ obligation_place (places_at places i) k → none ≡ eqb name.end 0 → none ≡ false
    → (name.start ≤ name.end) × (name.end + 1 < length f) × (name.end ≤ name.start + 16)
standing f places i k obliged which name is told some = rw is (obliged.starts k which, obliged.ends k which (name_there _ is told some), obliged.short k which)

pub returns-then-is_none : goal.returns-then-is_none
returns-then-is_none c =
    let a = c.args in
    c.unused.ensures ∙ none_placed a.file.now a.places.now a.i a.k (no_name_there _ c.obligation-at.ensures c.is_none.ensures c.if-is_none.true)

pub slice_bounds-padded_name-count : goal.slice_bounds-padded_name-count
slice_bounds-padded_name-count c =
    let here = standing c.args.file.now c.args.places.now c.args.i c.args.k c.requires.0 c.requires.1 _ c.obligation-at.ensures c.is_none.ensures c.if-is_none.false in omega arith

pub slice_bounds-padded_name-start : goal.slice_bounds-padded_name-start
slice_bounds-padded_name-start c =
    let here = standing c.args.file.now c.args.places.now c.args.i c.args.k c.requires.0 c.requires.1 _ c.obligation-at.ensures c.is_none.ensures c.if-is_none.false in omega arith

pub slice_bounds-padded_name-end : goal.slice_bounds-padded_name-end
slice_bounds-padded_name-end c =
    let here = standing c.args.file.now c.args.places.now c.args.i c.args.k c.requires.0 c.requires.1 _ c.obligation-at.ensures c.is_none.ensures c.if-is_none.false in omega arith

pub padded_name-name-requires : goal.padded_name-name-requires
padded_name-name-requires c =
    let here = standing c.args.file.now c.args.places.now c.args.i c.args.k c.requires.0 c.requires.1 _ c.obligation-at.ensures c.is_none.ensures c.if-is_none.false in search rules

pub overflow_add-at : goal.overflow_add-at
overflow_add-at c =
    let here = standing c.args.file.now c.args.places.now c.args.i c.args.k c.requires.0 c.requires.1 _ c.obligation-at.ensures c.is_none.ensures c.if-is_none.false in omega arith

pub bounds-file-at : goal.bounds-file-at
bounds-file-at c =
    let here = standing c.args.file.now c.args.places.now c.args.i c.args.k c.requires.0 c.requires.1 _ c.obligation-at.ensures c.is_none.ensures c.if-is_none.false in omega arith

pub overflow_sub-result : goal.overflow_sub-result
overflow_sub-result c =
    let here = standing c.args.file.now c.args.places.now c.args.i c.args.k c.requires.0 c.requires.1 _ c.obligation-at.ensures c.is_none.ensures c.if-is_none.false in omega arith

pub overflow_cast-result : goal.overflow_cast-result
overflow_cast-result c =
    let here = standing c.args.file.now c.args.places.now c.args.i c.args.k c.requires.0 c.requires.1 _ c.obligation-at.ensures c.is_none.ensures c.if-is_none.false in omega arith

pub returns : goal.returns
returns c =
    let a = c.args in
    let some = name_there _ c.obligation-at.ensures c.is_none.ensures c.if-is_none.false in
    rw c.obligation-at.ensures (one_placed a.file.now a.places.now a.i a.k some c.requires.0 c.requires.1 _ (rw c.obligation-at.ensures at c.padded_name-name.ensures) _ (rw c.obligation-at.ensures at c.effect_at-word.ensures))
