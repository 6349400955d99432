-- An obligation's line: its tests by what the places and the tree show, and what it does to state and places.
use Rattle.std.specs.Prelude.{ℕ, zero, suc, ◌+◌, ◌-◌, ◌≤◌, ◌<◌, ◌≡◌, List, [], length, get_or, OnOk, OnErr}
use Rattle.meaning.specs.declared.Obligation.{Obligation}
use Rattle.meaning.specs.Text.{Bytes, cut, tab}
use Rattle.meaning.specs.Reading.{Sofar, lowest, nearest_obligations, obligation_of, obligation_tests}
use Rattle.refusals.specs.Numbers.{number_in}
use Rattle.layout.specs.declared.Tree.{Tree}
use Rattle.layout.specs.declared.ElementPlaces.{ElementPlaces}
use Rattle.layout.specs.Nearest.{Stands}
use Rattle.layout.specs.Places.{part, with_obligation, obligations_in, obligation_count, Obliged}
use Rattle.attribute_lines.specs.declared.State.{State}
use Rattle.attribute_lines.specs.Sofar.{refusal_of}
use Rattle.attribute_lines.specs.Steps.{Verdict}

-- the obligations of each of n elements lie in the file
abbrev pub AllObliged : Bytes → List ElementPlaces → ℕ → Type 0
AllObliged f places n = (i : ℕ) → i < n → Obliged f places i

-- the obligations of the last of n elements
abbrev pub last_obligations : Bytes → List ElementPlaces → ℕ → List Obligation
last_obligations f places zero = []
last_obligations f places (suc n) = obligations_in f places n

-- what was read so far is what a tree and the places stand for
pub record Follows (f : Bytes) (places : List ElementPlaces) (tree : Tree) (s : Sofar) : Type 0 where
  pub stands : Stands tree s.before
  pub obligations : nearest_obligations s.before ≡ last_obligations f places tree.len

-- the lowest of 3, 4, 14 and 7 that refuses a line of these fields; where that is 0 there is a place for the obligation
pub record ObligationRefusal (f : Bytes) (places : List ElementPlaces) (tree : Tree) (fs : List Bytes) (r : ℕ) : Type 0 where
  pub is_lowest : (s : Sofar) → Follows f places tree s → r ≡ lowest (obligation_tests s (get_or fs 2 []) (obligation_of (get_or fs 1 []) (get_or fs 2 [])))
  pub some : r ≡ 0 → 1 ≤ tree.len
  pub free : r ≡ 0 → obligation_count places (tree.len - 1) < 2

-- the places with the obligation of a line at `at`, behind the others of the last element
abbrev pub obliged : List ElementPlaces → Tree → ℕ → List Bytes → List ElementPlaces
obliged places tree at fs =
    let last = tree.len - 1 in
    with_obligation places last (obligation_count places last) (record { start = at + 2; end = at + 2 + length (get_or fs 1 []) })

-- the state behind it: attributes and elements stay
abbrev pub behind_obligation : State → ℕ → State
behind_obligation st end = record { at = end + 1; line = st.line + 1; attributes = st.attributes; space = st.space; tree = st.tree }

-- an obligation's line: its refusal and state and places as they were, or the state behind it and the obligation in the places
pub record ObligationStep (f : List ℕ) (places₀ places : List ElementPlaces) (st : State) (end : ℕ) (after : State) (r : Verdict) : Type 0 where
  pub refusal : (s : Sofar) → Follows f places₀ st.tree s → number_in r ≡ refusal_of s (cut tab (part f st.at end))
  pub state : OnOk r (after ≡ behind_obligation st end)
  pub laid : OnOk r (places ≡ obliged places₀ st.tree st.at (cut tab (part f st.at end)))
  pub stays : OnErr r (places ≡ places₀)
  pub same_state : OnErr r (after ≡ st)
