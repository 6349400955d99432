-- The first request that shows a conflict: the lowest bit of the first block whose word has one.
use Prim.Native.Nat.{ℕ, ◌+◌, ◌*◌, ◌/◌, ◌%◌, ◌≤◌, ◌<◌, zero-le}
use mathlib.Core.Path.{◌≡◌, refl, sym, ap, ap₂, ◌∙◌}
use mathlib.Core.Bool.{Bool, false, ◌&&◌, ◌||◌}
use mathlib.Core.List.{List}
use mathlib.Core.Option.{Option, none, some}
use native.Mathlib.Omega.{arith}
use lib.Bits.{bit_and, bit_or}
use lib.Dec.{leb}
use borrow.Author.Tests.{leb-true, leb-false}
use Rattle.std.specs.Prelude.{Option as Found, unwrap_or}
use Rattle.meaning.specs.declared.Decision.{Decision}
use Rattle.meaning.specs.Text.{first_from}
use Rattle.meaning.specs.Deciding.{bit}
use Rattle.meaning.specs.declared.Element.{Element}
use Rattle.laws.specs.Found.{found}
use Rattle.laws.proofs.Bits.{bit_and_lem, bit_or_lem, bit_zero}
use Rattle.laws.proofs.Bools.{Test, passed, failed, test}
use Rattle.laws.proofs.Search.{first_some, first_is, first_absent}
use Rattle.table.specs.declared.Row.{Row}
use Rattle.table.specs.Tree.{place_or}
use Rattle.table.specs.Words.{word_in}
use Rattle.outcomes.proofs.Searching.{first_alike}
use Rattle.blocks.specs.Bits.{Lowest}
use Rattle.rows.specs.Rows.{Applied, Given}
use Rattle.conflicts.specs.Pairs.{shows_at, shown_by, shown_for, Pairs}

-- What is found of the requests, or else their number
module _ (t : ℕ → Bool) (space : ℕ) {r : ℕ} {o : Found ℕ} (first : o ≡ found (first_from t 0 space)) (is : r ≡ unwrap_or o space) where
  pub first_or : r ≡ place_or space (first_from t 0 space)
  first_or = is ∙ ap (λ x. unwrap_or x space) first ∙ go (first_from t 0 space)
    where
      go : (m : Option ℕ) → unwrap_or (found m) space ≡ place_or space m
      go none = refl
      go (some m) = refl

  pub first_within : r ≤ space
  first_within = rw first_or (go (first_from t 0 space) refl)
    where
      go : (m : Option ℕ) → first_from t 0 space ≡ m → place_or space m ≤ space
      go none e = omega arith
      go (some m) e = omega (arith, (first_some t 0 space m e).high)

-- The word of block b: its bits are the requests of the block that show the conflict
module _ (applied permits denies : List (List ℕ)) (i j k : ℕ) where
  abbrev pub shown : ℕ → Bool
  shown = shown_by applied permits denies i j k

  abbrev pub shown_in : ℕ → ℕ
  shown_in b = bit_and (word_in applied i b) (bit_or (bit_and (word_in permits j b) (word_in denies k b)) (bit_and (word_in denies j b) (word_in permits k b)))

  shown_bit : (b v : ℕ) → v < 64 → bit (shown_in b) v ≡ shown (64 * b + v)
  unfolding shown_by
  shown_bit b v l =
      let block : (64 * b + v) / 64 ≡ b = omega arith in
      let at : (64 * b + v) % 64 ≡ v = omega arith in
      rw (block, at)
      (bit_and_lem (word_in applied i b) _ v
      ∙ ap (λ x. bit (word_in applied i b) v && x)
      (bit_or_lem (bit_and (word_in permits j b) (word_in denies k b)) _ v
      ∙ ap₂ ◌||◌ (bit_and_lem (word_in permits j b) (word_in denies k b) v) (bit_and_lem (word_in denies j b) (word_in permits k b) v)))

  -- no request of the blocks before b shows it
  abbrev pub Unshown : ℕ → Type 0
  Unshown b = (m : ℕ) → m < 64 * b → shown m ≡ false

  module _ (b : ℕ) (so_far : Unshown b) where
    -- nor does one of block b below bit v
    unshown_to : (v : ℕ) → v ≤ 64 → ((u : ℕ) → u < v → bit (shown_in b) u ≡ false) → (m : ℕ) → m < 64 * b + v → shown m ≡ false
    unshown_to v most clear m l = go (test (leb (64 * b) m))
      where
        go : Test (leb (64 * b) m) → shown m ≡ false
        go (failed e) = so_far m (leb-false (64 * b) m e)
        go (passed e) =
            let low = leb-true (64 * b) m e in
            let at : 64 * b + m % 64 ≡ m = omega arith in
            rw at at (sym (shown_bit b (m % 64) (omega arith)) ∙ clear (m % 64) (omega arith))

    pub unshown_next : shown_in b ≡ 0 → Unshown (b + 1)
    unshown_next zero_word m l = unshown_to 64 (omega arith) (λ u h. rw zero_word (bit_zero u)) m (omega arith)

    module _ (space r : ℕ) (lowest : Lowest (shown_in b) r) where
      pub shown_first : 64 * b + r < space → first_from shown 0 space ≡ some (64 * b + r)
      shown_first inside =
          first_is shown 0 space (64 * b + r)
          record {
            low = zero-le;
            high = omega arith;
            holds = sym (shown_bit b r lowest.small) ∙ lowest.set;
            no_earlier = λ m l u. unshown_to r (omega (arith, lowest.small)) lowest.none_below m u;
          }

      pub shown_past : space ≤ 64 * b + r → first_from shown 0 space ≡ none
      shown_past past = first_absent shown 0 space (λ m l u. unshown_to r (omega (arith, lowest.small)) lowest.none_below m (omega arith))

    pub shown_none : (space : ℕ) → space ≤ 64 * b → first_from shown 0 space ≡ none
    shown_none space past = first_absent shown 0 space (λ m l u. so_far m (omega arith))

-- The rows of a table show what the table does
module _ (t : List Row) (struck : List ℕ) (n : ℕ) (hit : ℕ → Element → Bool) (space : ℕ) (applied permits denies : List (List ℕ))
    (applying : Applied t n hit space applied) (permitting : Given Decision.Permit t struck n hit space permits) (denying : Given Decision.Deny t struck n hit space denies) where
  shown_alike : (i j k m : ℕ) → i < n → j < n → k < n → m < space → shown_by applied permits denies i j k m ≡ shows_at t struck n hit i j k m
  unfolding shown_by shows_at
  shown_alike i j k m a b c l = λ x. applying i m a l x && ((permitting j m b l x && denying k m c l x) || (denying j m b l x && permitting k m c l x))

  pub pairs_by_table : (parents : List (Found ℕ)) (pairs : List (List ℕ)) → Pairs parents (shown_by applied permits denies) n space pairs → Pairs parents (shows_at t struck n hit) n space pairs
  unfolding shown_for
  pairs_by_table parents pairs paired j k i child =
      paired j k i child
      ∙ ap (place_or space) (first_alike _ _ 0 space (λ m l u. shown_alike i j k m child.some (omega (arith, child.after, child.within)) child.within (omega arith)))
