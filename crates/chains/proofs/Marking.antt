-- The words that `ask` keeps: the bits set, and those that the children from the next one on are still to set.
use Prim.Native.Nat.{ℕ, suc, ◌+◌, ◌-◌, ◌≤◌, ◌<◌}
use mathlib.Core.Path.{◌≡◌, refl, sym, ap, ◌∙◌}
use mathlib.Core.Bool.{Bool, true, false, not, ◌&&◌, ◌||◌, and-true, and-false, or-false}
use mathlib.Core.List.{List}
use lib.Bits.{bit_and, bit_or}
use lib.Dec.{eqb}
use lib.ListN.{length, get_or, set}
use lib.Seq.{get_or-set_same, get_or-set_other}
use borrow.Author.Tests.{eqb-true, eqb-false}
use Rattle.std.specs.Prelude.{Some, None}
use Rattle.meaning.specs.declared.Word.{Word}
use Rattle.meaning.specs.declared.Word.TheVariants.{FirstApplicable}
use Rattle.meaning.specs.declared.Element.{Element}
use Rattle.meaning.specs.Deciding.{bit}
use Rattle.laws.proofs.Bits.{bit_and_lem, bit_or_lem, bit_zero}
use Rattle.laws.specs.Found.{found}
use Rattle.laws.proofs.Bools.{Test, passed, failed, test}
use Rattle.table.specs.declared.Row.{Row}
use Rattle.table.specs.Rows.{word_at, word_number, depth_of}
use Rattle.table.specs.Tree.{next_child}
use Rattle.decisions.specs.Replies.{reply_at}
use Rattle.blocks.specs.declared.Effects.{Effects}
use Rattle.blocks.specs.Bits.{decision_bit, Answers}
use Rattle.chains.specs.Chain.{alike, asks, settles, chained_from, chained}
use Rattle.chains.proofs.Places.{none_in, at_child, no_child, one_child}

-- bits set in a word
set_bits : (l : List ℕ) (at w v j : ℕ) → at < length l → bit (get_or (set l at (bit_or (get_or l at 0) w)) j 0) v ≡ (bit (get_or l j 0) v || (eqb j at && bit w v))
set_bits l at w v j h = go (test (eqb j at))
  where
    go : Test (eqb j at) → bit (get_or (set l at (bit_or (get_or l at 0) w)) j 0) v ≡ (bit (get_or l j 0) v || (eqb j at && bit w v))
    go (passed e) = rw (e, eqb-true j at e, get_or-set_same l at (bit_or (get_or l at 0) w) 0 h) (bit_or_lem (get_or l at 0) w v)
    go (failed e) = rw (e, get_or-set_other l at j (bit_or (get_or l at 0) w) 0 (eqb-false j at e)) (sym (or-false (bit (get_or l j 0) v)))

regrouped : (x p q r : Bool) → (x || (p || (q || r))) ≡ (((x || p) || q) || r)
regrouped true p q r = refl
regrouped false true q r = refl
regrouped false false q r = refl

-- The children at depth k of a parent with the word w, asked from place `from` on, on the requests of `on`
module _ (t : List Row) (s : List ℕ) (hits : List (List ℕ)) (n block from k : ℕ) (w : Word) (on : ℕ) (first : Effects) where
  -- what `old` and all children come to, `given` and the children from place `at` on come to, which are asked on those of `left`
  abbrev pub Marking : (old given : List ℕ) (left at : ℕ) → Type 0
  Marking old given left at =
      (v : ℕ) (hit : Element → Bool) → Answers t hits n block v hit → (j : ℕ)
      → (bit (get_or old j 0) v || chained_from hit (decision_bit first v) t s n w k (bit on v) j from)
      ≡ (bit (get_or given j 0) v || chained_from hit (decision_bit first v) t s n w k (bit left v) j at)

  -- what is asked for in the end
  abbrev pub Marked : (old given : List ℕ) → Type 0
  Marked old given =
      (v : ℕ) (hit : Element → Bool) → Answers t hits n block v hit → (j : ℕ)
      → bit (get_or given j 0) v ≡ (bit (get_or old j 0) v || chained_from hit (decision_bit first v) t s n w k (bit on v) j from)

  module _ (old given : List ℕ) (left at : ℕ) (marking : Marking old given left at) where
    settles_all : ((v : ℕ) (hit : Element → Bool) (j : ℕ) → chained_from hit (decision_bit first v) t s n w k (bit left v) j at ≡ false) → Marked old given
    settles_all none v hit answers j = sym (marking v hit answers j ∙ ap (λ x. bit (get_or given j 0) v || x) (none v hit j) ∙ or-false (bit (get_or given j 0) v))

    -- no child is left, or none is asked any more, or none is asked at all
    pub ends : at ≤ n → None ≡ found (next_child t s n k at) → Marked old given
    ends l e = settles_all (λ v hit j. no_child hit (decision_bit first v) t s n w k (bit left v) j at l e)

    pub stops : left ≡ 0 → Marked old given
    stops e = settles_all (λ v hit j. none_in hit (decision_bit first v) t s n w k (bit left v) j at (n - at) (rw (e, bit_zero v)))

    pub effect_marks : asks w ≡ false → Marked old given
    effect_marks e = settles_all (λ v hit j. none_in hit (decision_bit first v) t s n w k (bit left v) j at (n - at) (rw (e, and-false (bit left v))))

    -- the next child, `child`, is asked, and those below it, and those behind it are left
    module _ (low : at ≤ n) (child : ℕ) (is : Some child ≡ found (next_child t s n k at)) (group : asks w ≡ true) (room : child < length given) (gives : Effects) (agrees ended left' : ℕ) (new : List ℕ)
        (replies : (v : ℕ) (hit : Element → Bool) → Answers t hits n block v hit → decision_bit gives v ≡ (reply_at hit t s n child).decision)
        (agreed : (v : ℕ) → bit agrees v ≡ alike (decision_bit first v) (decision_bit gives v))
        (settled : (v : ℕ) → bit ended v ≡ settles w (decision_bit gives v))
        (fewer : (v : ℕ) → bit left' v ≡ (bit left v && not (bit ended v))) where
      abbrev same : ℕ
      same = bit_and left agrees

      pub asks_one : ((v : ℕ) (hit : Element → Bool) → Answers t hits n block v hit → (j : ℕ)
          → bit (get_or new j 0) v
          ≡ (bit (get_or (set given child (bit_or (get_or given child 0) same)) j 0) v || chained_from hit (decision_bit first v) t s n (word_at (word_number t child)) (suc (depth_of t child)) (bit same v) j (child + 1)))
          → Marking old new left' (child + 1)
      asks_one below v hit answers j =
          let d = decision_bit first v in
          let one : (bit (get_or given j 0) v || at_child hit d t s n w k (bit left v) j child) ≡ (bit (get_or new j 0) v || chained_from hit d t s n w k (bit left' v) j (child + 1)) =
          rw (
            group,
            and-true (bit left v),
            ← replies v hit answers,
            ← agreed v,
            ← bit_and_lem left agrees v,
            ← settled v,
            ← fewer v,
            regrouped,
            ← set_bits given child same v j room,
            ← below v hit answers j,
          )
          in
          marking v hit answers j ∙ ap (λ x. bit (get_or given j 0) v || x) (one_child hit d t s n w k (bit left v) j at low child is) ∙ one

-- the first element is asked where it gives permit or deny, over words that are 0
pub root_asked : (t : List Row) (s : List ℕ) (hits : List (List ℕ)) (n block depth on : ℕ) (first : Effects) (zeros new : List ℕ)
    → ((v : ℕ) (hit : Element → Bool) → Answers t hits n block v hit → decision_bit first v ≡ (reply_at hit t s n 0).decision)
    → ((v : ℕ) → bit on v ≡ alike (decision_bit first v) (decision_bit first v))
    → depth ≡ depth_of t 0
    → ((j : ℕ) → j < n → get_or zeros j 0 ≡ 0)
    → Marked t s hits n block 0 depth FirstApplicable on first zeros new
    → (v : ℕ) (hit : Element → Bool) → Answers t hits n block v hit → (i : ℕ) → i < n → bit (get_or new i 0) v ≡ chained hit t s n i
unfolding chained
root_asked t s hits n block depth on first zeros new replies agreed deep clear marks v hit answers i l =
    marks v hit answers i
    ∙ rw (clear i l, bit_zero v, agreed v, replies v hit answers, deep)
