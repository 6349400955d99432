-- Trimming, over a file, its places, a table of elements and a flag for each: an element whose flag is not 0 is struck.
use Rattle.std.specs.Prelude.{ℕ, zero, suc, Bool, List, [], ◌∷◌, set}
use Rattle.std.proofs.Math.Option.{Option, none, some}
use Rattle.meaning.specs.Text.{Bytes, last_below}
use Rattle.meaning.specs.declared.Element.{Element}
use Rattle.table.specs.declared.Row.{Row}
use Rattle.layout.specs.declared.ElementPlaces.{ElementPlaces}
unfoldable pub use Rattle.trials.specs.Decided.{changes_at, first_change_at, shown_at, needless_at}

-- the flags at the end, and the places struck in order
pub record Struck : Type 0 where
  pub flags : List ℕ
  pub order : List ℕ

abbrev pub struck_first : ℕ → Struck → Struck
struck_first i s = record { flags = s.flags; order = i ∷ s.order }

abbrev pub onward : Option ℕ → List ℕ → (ℕ → Struck) → Struck
onward none struck next = record { flags = struck; order = [] }
onward (some i) struck next = struck_first i (next i)

-- A policy: its file, where its elements and their obligations stand there, its table, the number of its elements, which requests match an element's own target, and how many there are
module _ (f : Bytes) (places : List ElementPlaces) (t : List Row) (n : ℕ) (hit : ℕ → Element → Bool) (space : ℕ) where
  -- the next rule to strike: the last needless one
  unfoldable pub next_at : List ℕ → Option ℕ
  next_at struck = last_below (needless_at f places t n hit space struck) n

  -- while there is one, the next rule is struck
  unfoldable pub trimming_at : ℕ → List ℕ → Struck
  trimming_at zero struck = record { flags = struck; order = [] }
  trimming_at (suc fuel) struck = onward (next_at struck) struck (λ i. trimming_at fuel (set struck i 1))
