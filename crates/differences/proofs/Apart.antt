-- Whether a request gets something else under other flags, by what it gets under both.
use Prim.Native.Nat.{ℕ, ◌-◌, ◌%◌, ◌≤◌, ◌<◌}
use mathlib.Core.Path.{◌≡◌, sym, ◌∙◌}
use mathlib.Core.Bool.{Bool, true, false, not}
use mathlib.Core.List.{List}
use native.Mathlib.Nat.{sub-zero}
use native.Mathlib.Omega.{arith}
use lib.ListN.{length}
use borrow.Author.Tests.{not-true}
use Rattle.meaning.specs.Text.{Bytes}
use Rattle.meaning.specs.Deciding.{is}
use Rattle.meaning.specs.declared.Element.{Element}
use Rattle.table.specs.declared.Row.{Row}
use Rattle.table.specs.declared.Shape.{Shape}
use Rattle.table.specs.Shape.{hit_of}
use Rattle.decisions.specs.Replies.{reply_at}
use Rattle.decisions.proofs.Children.{first_left}
use Rattle.matching.specs.Hits.{HitsLaid}
use Rattle.outcomes.specs.Decided.{decided_at}
use Rattle.outcomes.specs.PolicyTable.{PolicyTable}
use Rattle.layout.specs.declared.ElementPlaces.{ElementPlaces}
use Rattle.layout.specs.Places.{Obliged}
use Rattle.differences.specs.Apart.{apart, Suspects, Untouched, Touched}

-- what a request gets is what the first element decides
pub first_is : {t : List Row} {flags : List ℕ} {s : Shape} → PolicyTable t flags s → (m : ℕ) → decided_at t s.n (hit_of s) flags m ≡ (reply_at (hit_of s m) t flags s.n 0).decision
unfolding decided_at
first_is {t} {flags} {s} ready m = rw sub-zero at (first_left (hit_of s m) t flags s.n 0 (omega (arith, ready.some)) ready.stays)

-- the places have room for the obligations of all elements
pub obligation_room : {f : Bytes} {places : List ElementPlaces} {t : List Row} {flags : List ℕ} {s : Shape} → ((i : ℕ) → i < s.n → Obliged f places i) → PolicyTable t flags s → s.n ≤ length places
obligation_room {s = s} obliged ready = let some = ready.some in omega (arith, (obliged (s.n - 1) (omega arith)).room)

-- Two lists of flags, and a request that gets another decision
module _ (f : Bytes) (places : List ElementPlaces) (t : List Row) (n : ℕ) (hit : ℕ → Element → Bool) (before struck : List ℕ) (m : ℕ) where
  pub decided_apart : not (is (decided_at t n hit before m) (decided_at t n hit struck m)) ≡ true → apart f places t n hit before struck m ≡ true
  unfolding apart decided_at
  decided_apart e = let other : is (decided_at t n hit before m) (decided_at t n hit struck m) ≡ false = not-true _ e in rw other

-- a request that no bit tells of, where the word tells which match an element struck
pub touched_suspects : (f : Bytes) (places : List ElementPlaces) (t : List Row) (before struck : List ℕ) (hits : List (List ℕ)) (s : Shape) → HitsLaid t hits s → Untouched f places t before struck s → (block on : ℕ) → Touched struck hits s.n block on → Suspects f places t before struck s block on
touched_suspects f places t before struck hits s laid untouched block on touched m l e off =
    untouched m l (λ i b gone. sym (rw e at (laid.hits_are i m b l)) ∙ touched (m % 64) i off b gone)
