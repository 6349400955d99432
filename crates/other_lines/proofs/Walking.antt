-- One step over the lines of two texts: what is left of them gives what the whole of them gives.
use Rattle.std.specs.Prelude.{Some, None}
use mathlib.Core.Option.{some}
use mathlib.Core.Path.{◌≡◌, refl, sym, ap, ap₂, ◌∙◌}
use mathlib.Core.Bool.{true, false}
use mathlib.Core.List.{List, [], ◌∷◌}
use Prim.Native.Nat.{ℕ, zero, suc, ◌+◌, ◌-◌, ◌≤◌, ◌<◌}
use native.Mathlib.Numerals.{add-one}
use native.Mathlib.Omega.{arith}
use lib.ListN.{length, take, drop}
use Rattle.meaning.specs.Text.{Bytes, all, same, newline}
use Rattle.meaning.specs.Trimming.{file_lines, rule_line}
use Rattle.meaning.specs.Accepting.{first_other}
use Rattle.laws.proofs.Bools.{Test, passed, failed, test}
use Rattle.text.specs.Ended.{Ended}
use Rattle.text.proofs.Pieces.{EndsAt}
use Rattle.text.proofs.NextLine.{NextLine, no_line, next_line}
use Rattle.other_lines.specs.Told.{line_told}

-- What the loop keeps: so much of both is passed, and what is left finds what the whole finds
pub record Kept (f g : Bytes) (at from line : ℕ) : Type 0 where
  pub at_inside : at ≤ length f
  pub from_inside : from ≤ length g
  pub some_line : 1 ≤ line
  pub few : line ≤ from + 1
  pub original_ended : Ended (drop at f)
  pub proposal_ended : Ended (drop from g)
  pub finds : first_other line (file_lines (drop at f)) (file_lines (drop from g)) ≡ first_other 1 (file_lines f) (file_lines g)

told : {n : ℕ} → 1 ≤ n → Some n ≡ line_told (some n)
told {n = zero} l = absurd (omega arith)
told {n = suc n} l = refl

none_other : (n : ℕ) (os : List Bytes) → None ≡ line_told (first_other n os [])
none_other n os = go (test (all rule_line os))
  where
    go : Test (all rule_line os) → None ≡ line_told (first_other n os [])
    go (passed e) = rw e
    go (failed e) = rw e

module _ {f g : Bytes} {at from line : ℕ} (kept : Kept f g at from line) where
  -- the end of the proposal
  pub all_match : length g ≤ from → None ≡ line_told (first_other 1 (file_lines f) (file_lines g))
  all_match l = none_other line (file_lines (drop at f)) ∙ ap line_told (ap (first_other line (file_lines (drop at f))) (sym (no_line g from l)) ∙ kept.finds)

  -- its next line, at the end of the original
  module _ {to : ℕ} (to_ends : EndsAt newline g from to) (inside : from < length g) where
    proposed : NextLine g from to
    proposed = next_line g from to to_ends.value to_ends.within.1 kept.proposal_ended inside

    pub none_left : at ≡ length f → Some line ≡ line_told (first_other 1 (file_lines f) (file_lines g))
    none_left e = told kept.some_line ∙ ap line_told (sym (ap₂ (first_other line) (no_line f at (omega arith)) proposed.comes) ∙ kept.finds)

    -- beside the next line of the original
    module _ {end : ℕ} (ends : EndsAt newline f at end) (more : at ≡ length f → ⊥) where
      own : NextLine f at end
      own = next_line f at end ends.value ends.within.1 kept.original_ended (omega (arith, kept.at_inside))

      finds_next : first_other line (take (end - at) (drop at f) ∷ file_lines (drop (end + 1) f)) (take (to - from) (drop from g) ∷ file_lines (drop (to + 1) g)) ≡ first_other 1 (file_lines f) (file_lines g)
      finds_next = sym (ap₂ (first_other line) own.comes proposed.comes) ∙ kept.finds

      pub taken : same (take (end - at) (drop at f)) (take (to - from) (drop from g)) ≡ true → Kept f g (end + 1) (to + 1) (line + 1)
      taken e = record {
        at_inside = omega (arith, own.newline_there);
        from_inside = omega (arith, proposed.newline_there);
        some_line = omega arith;
        few = omega (arith, kept.few);
        original_ended = own.rest_ended;
        proposal_ended = proposed.rest_ended;
        finds = rw (add-one line) (rw e at finds_next);
      }

      -- a rule's line that is another is skipped, and with any other line the search ends
      module _ (e : same (take (end - at) (drop at f)) (take (to - from) (drop from g)) ≡ false) where
        pub skipped : rule_line (take (end - at) (drop at f)) ≡ true → Kept f g (end + 1) from line
        skipped r = record {
          at_inside = omega (arith, own.newline_there);
          from_inside = kept.from_inside;
          some_line = kept.some_line;
          few = kept.few;
          original_ended = own.rest_ended;
          proposal_ended = kept.proposal_ended;
          finds = ap (first_other line (file_lines (drop (end + 1) f))) proposed.comes ∙ rw (e, r) at finds_next;
        }

        pub found : rule_line (take (end - at) (drop at f)) ≡ false → Some line ≡ line_told (first_other 1 (file_lines f) (file_lines g))
        found r = told kept.some_line ∙ ap line_told (rw (e, r) at finds_next)
