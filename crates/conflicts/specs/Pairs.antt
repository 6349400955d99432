-- Conflicts of pairs: by the elements' parents and rows, the request that shows each.
use Rattle.std.specs.Prelude.{ℕ, ◌≤◌, ◌<◌, ◌≡◌, Bool, ◌&&◌, ◌||◌, Option, Some, None, List, length, get_or}
use Rattle.meaning.specs.declared.Decision.{Decision}
use Rattle.meaning.specs.Text.{first_from}
use Rattle.meaning.specs.declared.Element.{Element}
use Rattle.table.specs.declared.Row.{Row}
use Rattle.table.specs.Tree.{place_or}
use Rattle.table.specs.Words.{word_in}
use Rattle.matching.specs.Hits.{bit_of}
use Rattle.rows.specs.Words.{applies_at, gives_at}

-- on request m element i applies, and of j and k one permits and the other denies: by a table, and by rows
unfoldable pub shows_at : (t : List Row) (struck : List ℕ) (n : ℕ) (hit : ℕ → Element → Bool) → (i j k m : ℕ) → Bool
shows_at t struck n hit i j k m =
    let permits = gives_at Decision.Permit t struck n (hit m) in
    let denies = gives_at Decision.Deny t struck n (hit m) in
    applies_at t (hit m) i && ((permits j && denies k) || (denies j && permits k))

unfoldable pub shown_by : (applied permits denies : List (List ℕ)) → (i j k m : ℕ) → Bool
shown_by applied permits denies i j k m = bit_of applied i m && ((bit_of permits j m && bit_of denies k m) || (bit_of denies j m && bit_of permits k m))

-- j and the later k are children of element i
pub record Later (parents : List (Option ℕ)) (n i j k : ℕ) : Type 0 where
  pub after : j < k
  pub within : k < n
  pub some : i < n
  pub child : get_or parents j None ≡ Some i
  pub sibling : get_or parents k None ≡ Some i

-- the places that are of no such pair are as they were
abbrev pub OthersStay : List (Option ℕ) → ℕ → List (List ℕ) → List (List ℕ) → Type 0
OthersStay parents n old new = (j k : ℕ) → ((i : ℕ) → Later parents n i j k → ⊥) → word_in new j k ≡ word_in old j k

-- A policy's parents, and whether i, j and k show a conflict on request m
module _ (parents : List (Option ℕ)) (shows : ℕ → ℕ → ℕ → ℕ → Bool) (n space : ℕ) where
  -- the first request that shows the conflict of j and k under i, or the number of requests
  unfoldable pub shown_for : ℕ → ℕ → ℕ → ℕ
  shown_for i j k = place_or space (first_from (shows i j k) 0 space)

  -- that request stands at place k of row j if k is a later child of j's parent i
  abbrev pub PairIs : List (List ℕ) → ℕ → ℕ → Type 0
  PairIs pairs j k = (i : ℕ) → Later parents n i j k → word_in pairs j k ≡ shown_for i j k

  abbrev pub PairsOf : List (List ℕ) → ℕ → Type 0
  PairsOf pairs j = (k : ℕ) → PairIs pairs j k

  abbrev pub Pairs : List (List ℕ) → Type 0
  Pairs pairs = (j : ℕ) → PairsOf pairs j

-- rows of 64 words for 64 elements, and at most 4,096 requests
pub record Laid (applied permits denies : List (List ℕ)) (space : ℕ) : Type 0 where
  pub small : space ≤ 4096
  pub applied_room : 64 ≤ length applied
  pub permits_room : 64 ≤ length permits
  pub denies_room : 64 ≤ length denies

-- parents of at most 64 elements, their rows, and 64 rows of pairs
pub record Pairing (parents : List (Option ℕ)) (applied permits denies : List (List ℕ)) (n space : ℕ) (pairs : List (List ℕ)) : Type 0 where
  pub few : n ≤ 64
  pub parents_room : n ≤ length parents
  pub rows : Laid applied permits denies space
  pub pairs_room : 64 ≤ length pairs
