-- Requests that have the marks and the decision of another one get the obligations that it gets.
use Prim.Native.Nat.{ℕ, ◌+◌, ◌<◌}
use mathlib.Core.Path.{◌≡◌, sym, ap, ap₂, ◌∙◌}
use mathlib.Core.Bool.{Bool, true, false, not, ◌&&◌}
use mathlib.Core.List.{List}
use lib.Bits.{bit_and}
use borrow.Author.Tests.{not-true}
use Rattle.meaning.specs.Text.{Bytes, same}
use Rattle.meaning.specs.Deciding.{bit}
use Rattle.laws.proofs.Bits.{bit_and_lem}
use Rattle.laws.proofs.Bools.{Test, passed, failed, test, contradiction, and_true}
use Rattle.outcomes.proofs.Searching.{up_to}
use Rattle.obligations.specs.Given.{given_text, effect, marks_in}
use Rattle.obligations.proofs.Texts.{text_alike}
use Rattle.differences.specs.Marks.{LikeMarks, others_given}
use Rattle.layout.specs.declared.ElementPlaces.{ElementPlaces}

-- request u is among those of `on`, and has the bit of request v
abbrev pub LikeBit : (word v on u : ℕ) → Type 0
LikeBit word v on u = (bit on u ≡ true) × (bit word u ≡ bit word v)

-- by the bit of request v, which is set or is not
module _ (word v on u : ℕ) where
  pub like_set : bit word v ≡ true → bit (bit_and on word) u ≡ true → LikeBit word v on u
  like_set set e = let (among, here) = and_true (bit on u) (bit word u) (sym (bit_and_lem on word u) ∙ e) in (among, here ∙ sym set)

  pub like_clear : bit word v ≡ false → (bit on u && not (bit word u)) ≡ true → LikeBit word v on u
  like_clear clear e = let (among, here) = and_true (bit on u) (not (bit word u)) e in (among, not-true (bit word u) here ∙ sym clear)

-- the marks of one element more
pub like_next : (words : List ℕ) (i v on so_far next : ℕ) → LikeMarks words i v on so_far → ((u : ℕ) → bit next u ≡ true → (bit so_far u ≡ true) × (marks_in words u i ≡ marks_in words v i)) → LikeMarks words (i + 1) v on next
like_next words i v on so_far next before step u set =
    let (still, here) = step u set in
    let (among, marks) = before u still in
    (among, up_to (λ j. marks_in words u j ≡ marks_in words v j) i marks here)

module _ (f : Bytes) (places : List ElementPlaces) (n : ℕ) (one other : List ℕ) (permits v : ℕ) where
  abbrev others : ℕ → Bool
  others = others_given f places n one other permits

  text_like : (words : List ℕ) (u : ℕ) → bit permits u ≡ bit permits v → ((i : ℕ) → i < n → marks_in words u i ≡ marks_in words v i) → given_text (effect (bit permits u)) (marks_in words u) f places n ≡ given_text (effect (bit permits v)) (marks_in words v) f places n
  text_like words u decision marks =
      ap (λ b. given_text (effect b) (marks_in words u) f places n) decision
      ∙ text_alike (effect (bit permits v)) f places (marks_in words u) (marks_in words v) n marks

  -- what is left to compare, when those like request v need no comparison
  pub left_next : (on left decided marked like next : ℕ) → ((u : ℕ) → bit on u ≡ true → bit left u ≡ false → others u ≡ false) → others v ≡ false → ((u : ℕ) → bit decided u ≡ true → LikeBit permits v left u) → LikeMarks one n v decided marked → LikeMarks other n v marked like → ((u : ℕ) → bit next u ≡ (bit left u && not (bit like u))) → (u : ℕ) → bit on u ≡ true → bit next u ≡ false → others u ≡ false
  left_next on left decided marked like next before here by-decision by_one by-other next-is u among off = go (test (bit left u)) (test (bit like u))
    where
      go : Test (bit left u) → Test (bit like u) → others u ≡ false
      go (failed x) _ = before u among x
      go (passed x) (failed y) = contradiction (next-is u ∙ ap₂ (λ a b. a && not b) x y) off
      go (passed x) (passed y) =
          let (in_one, others-like) = by-other u y in
          let (in-decided, ones-like) = by_one u in_one in
          let decision = (by-decision u in-decided).1 in
          ap₂ (λ s t. not (same s t)) (text_like one u decision ones-like) (text_like other u decision others-like) ∙ here
