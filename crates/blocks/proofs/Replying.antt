-- What one bit of an element's words says, by the bit of the word that tests its target.
use Prim.Native.Nat.{ℕ, suc, ◌+◌, ◌<◌}
use mathlib.Core.Path.{◌≡◌, refl, sym, ap, ◌∙◌}
use mathlib.Core.Bool.{Bool, true, false, cond}
use mathlib.Core.List.{List, ◌∷◌}
use lib.Bits.{bit_and}
use Rattle.meaning.specs.declared.Word.{Word}
use Rattle.meaning.specs.declared.Decision.{Decision}
use Rattle.meaning.specs.declared.Decision.TheVariants.{NotApplicable}
use Rattle.meaning.specs.declared.Element.{Element}
use Rattle.meaning.specs.Deciding.{Reply as ChildReply, bit, combined}
use Rattle.laws.proofs.Bits.{bit_and_lem, bit_zero}
use Rattle.table.specs.declared.Row.{Row}
use Rattle.table.specs.Words.{word_in}
use Rattle.table.specs.Rows.{word_at, algorithm_number, algorithm_of, depth_of, element_at, word_number}
use Rattle.decisions.specs.Replies.{replies_from, reply_at}
use Rattle.decisions.proofs.Combining.{Settled, start}
use Rattle.decisions.proofs.Children.{reply_off, reply_on}
use Rattle.blocks.specs.declared.Effects.{Effects}
use Rattle.blocks.specs.declared.Replies.{Replies}
use Rattle.blocks.specs.Bits.{decision_bit, reply_bit, Answers}

-- words without a bit are the replies that nothing has come to
pub none_reply : (v : ℕ) → reply_bit (record { matched = 0; given = record { permits = 0; denies = 0 } }) v ≡ start
none_reply v = rw (bit_zero v)

-- Element `at`, whose word is w in this block
module _ (t : List Row) (struck : List ℕ) (hits : List (List ℕ)) (n block at w v : ℕ) (hit : Element → Bool) (answers : Answers t hits n block v hit) (l : at < n) (is : w ≡ word_in hits at block) where
  hit_is : (b : Bool) → bit w v ≡ b → hit (element_at t at) ≡ b
  hit_is b e = sym (answers at l) ∙ ap (λ x. bit x v) (sym is) ∙ e

  pub reply_none : w ≡ 0 → reply_bit (record { matched = 0; given = record { permits = 0; denies = 0 } }) v ≡ reply_at hit t struck n at
  reply_none e = none_reply v ∙ sym (reply_off hit t struck n at (hit_is false (rw e (bit_zero v))))

  -- its word is an effect's, and it gives that where it matches
  pub reply_effect : (given : Effects) (d : Decision) → decision_bit given v ≡ cond (bit w v) d NotApplicable → ((rs : List ChildReply) → combined (word_at (word_number t at)) rs ≡ d) → reply_bit (record { matched = w; given = given }) v ≡ reply_at hit t struck n at
  reply_effect given d is_given word = go (bit w v) refl
    where
      go : (b : Bool) → bit w v ≡ b → reply_bit (record { matched = w; given = given }) v ≡ reply_at hit t struck n at
      go true e = rw (is_given, e, reply_on hit t struck n at (hit_is true e), word)
      go false e = rw (is_given, e, reply_off hit t struck n at (hit_is false e))

  -- its children give this
  pub reply_group : (given : Effects) → decision_bit given v ≡ combined (word_at (word_number t at)) (replies_from hit t struck n (suc (depth_of t at)) (at + 1))
      → reply_bit (record { matched = w; given = record { permits = bit_and w given.permits; denies = bit_and w given.denies } }) v ≡ reply_at hit t struck n at
  reply_group given children = go (bit w v) refl
    where
      go : (b : Bool) → bit w v ≡ b → reply_bit (record { matched = w; given = record { permits = bit_and w given.permits; denies = bit_and w given.denies } }) v ≡ reply_at hit t struck n at
      go true e = rw (bit_and_lem w given.permits v, bit_and_lem w given.denies v, e, reply_on hit t struck n at (hit_is true e), ← children)
      go false e = rw (bit_and_lem w given.permits v, bit_and_lem w given.denies v, e, reply_off hit t struck n at (hit_is false e))

-- For each bit and the test that it answers: the replies so far, by an algorithm, stand for the children from one place up to another
abbrev pub Folded : (t : List Row) (struck : List ℕ) (hits : List (List ℕ)) (n block from depth : ℕ) → Word → Replies → ℕ → Type 0
Folded t struck hits n block from depth w so at =
    ((v : ℕ) → Settled (algorithm_number w) (reply_bit so v))
    × ((v : ℕ) (hit : Element → Bool) → Answers t hits n block v hit
    → combined (algorithm_of w) (replies_from hit t struck n depth from) ≡ combined (algorithm_of w) (reply_bit so v ∷ replies_from hit t struck n depth at))
