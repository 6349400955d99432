-- What a policy that is held gives to the search for a rule and to the text.
use mathlib.Core.Path.{◌≡◌, refl, sym, ap, ◌∙◌}
use Prim.Native.Nat.{ℕ, ◌-◌, ◌≤◌, ◌<◌}
use native.Mathlib.Omega.{arith}
use mathlib.Core.Bool.{true}
use mathlib.Core.List.{List}
use mathlib.Core.Option.{Option, some, map}
use lib.ListN.{length, set, length-set}
use Rattle.meaning.specs.Text.{Bytes}
use Rattle.meaning.specs.Trimming.{next_struck}
use Rattle.laws.proofs.Search.{last_some}
use Rattle.laws.proofs.Reading.{accepted}
use Rattle.table.specs.declared.Row.{Row}
use Rattle.table.specs.declared.Shape.{Shape}
use Rattle.table.specs.Shape.{hit_of}
use Rattle.outcomes.specs.Decided.{none_struck}
use Rattle.layout.specs.declared.ElementPlaces.{ElementPlaces}
use Rattle.layout.specs.Places.{Naming, Named}
use Rattle.trials.specs.Steady.{Steady}
use Rattle.trimming.specs.Decided as table-level
use Rattle.trimmed_text.specs.Held.{PolicyHeld}
use Rattle.trimmed_text.specs.Copied.{Copies}
use Rattle.trimmed_text.proofs.Table.{count_is}
use Rattle.trimmed_text.proofs.Tabled.{next_is}
use Rattle.trimmed_text.proofs.Placed.{copies_lined}
use Rattle.trimmed_text.proofs.Steadying.{steady}
use Rattle.trimmed_text.proofs.Whole.{line_of, next_line}

-- the places of names that lie in the file
pub naming_room : (f : Bytes) (places : List ElementPlaces) (n : ℕ) → 1 ≤ n → Naming f places n → n ≤ length places
naming_room f places n l naming = omega (arith, (naming.each (n - 1) (omega arith)).room)

module _ (f : List ℕ) (table : List Row) (places : List ElementPlaces) (s : Shape) (held : PolicyHeld f table places s) where
  pub sizes : length held.policy.elements ≡ s.n
  sizes = count_is f table places s.n held.policy held.elements

  pub places_room : s.n ≤ length places
  places_room = naming_room f places s.n held.ready.some held.naming

  pub steady_held : Steady f places table s
  steady_held = steady f held.policy held.is_read table places s held.elements held.obliged

  pub named_held : Named f places s.n
  named_held = record {
    room = places_room;
    starts = λ i l. (held.naming.each i l).starts;
    ends = λ i l. (held.naming.each i l).ends;
  }

  -- one flag set, where none was
  pub copies_held : (old : List ℕ) → old ≡ none_struck → (i flag : ℕ) → Copies f places (set old i flag) s.n
  copies_held old clear i flag =
      copies_lined f places (set old i flag) (length held.policy.attributes) s.n held.lined held.ready.some places_room
      (omega (arith, held.ready.few, length-set old i flag, ap length clear))

  -- a file that was read is short, and so is a part of it
  pub small_part : (needed : ℕ) → needed ≤ length f → needed < 4294967296
  small_part needed l = omega (arith, (accepted f held.policy held.is_read).size)

  -- The next rule to strike, by its place
  abbrev pub found : Option ℕ
  found = table-level.next_at f places table s.n (hit_of s) s.space none_struck

  -- it is one of the elements, and needless
  pub found_needless : (i : ℕ) → found ≡ some i → (i < s.n) × (table-level.needless_at f places table s.n (hit_of s) s.space none_struck i ≡ true)
  unfolding table-level.next_at
  found_needless i e = let x = last_some (table-level.needless_at f places table s.n (hit_of s) s.space none_struck) s.n i e in (x.below, x.holds)

  -- and by its line
  pub line_found : next_struck f ≡ map (line_of f held.policy held.is_read) found
  line_found =
      let p = held.policy in
      let h = held.is_read in
      next_line f p h ∙ ap (map (line_of f p h)) (sym (next_is f p h table places s.n held.elements sizes (hit_of s) s.space held.hits_are held.space_is none_struck refl))
