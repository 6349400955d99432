-- Rows of bits: narrowed to the requests to which an element applies, and laid down for each element.
use Prim.Native.Nat.{ℕ, ◌+◌, ◌*◌, ◌/◌, ◌%◌, ◌≤◌, ◌<◌, zero-le}
use mathlib.Core.Path.{◌≡◌, refl, sym, ap, ◌∙◌}
use mathlib.Core.Bool.{Bool, true, false, not, ◌&&◌, and-true, and_assoc}
use mathlib.Core.List.{List, []}
use mathlib.Core.Logic.{◌≢◌}
use native.Mathlib.Omega.{arith}
use lib.Dec.{leb, eqb}
use lib.Bits.{bit_and}
use lib.ListN.{length, get_or, set, length-set, replicate, get_or-replicate}
use lib.Seq.{get_or-set_same, get_or-set_other}
use borrow.Author.Tests.{leb-true, leb-false, eqb-true, eqb-false, not-false}
use Rattle.meaning.specs.declared.Decision.{Decision}
use Rattle.meaning.specs.declared.Decision.TheVariants.{NotApplicable}
use Rattle.meaning.specs.declared.Element.{Element}
use Rattle.meaning.specs.Deciding.{Reply as ChildReply, bit, applies, is}
use Rattle.laws.proofs.Bits.{bit_and_lem}
use Rattle.laws.proofs.Search.{first_none}
use Rattle.laws.proofs.Bools.{Test, passed, failed, test}
use Rattle.table.specs.declared.Row.{Row}
use Rattle.table.specs.Rows.{element_at, depth_of}
use Rattle.table.specs.Words.{word_in}
use Rattle.std.specs.Prelude.{None}
use Rattle.laws.specs.Found.{found}
use Rattle.table.specs.Tree.{before, parent_of}
use Rattle.table.specs.declared.Shape.{Shape}
use Rattle.table.specs.Shape.{hit_of}
use Rattle.table.proofs.Above.{Parent, top}
use Rattle.table.proofs.Words.{SameWidths, with_word, word_here, word_elsewhere}
use Rattle.decisions.specs.Replies.{reply_at}
use Rattle.matching.specs.Hits.{bit_of, words_of, Rest}
use Rattle.matching.proofs.Copying.{PlaneCopied}
use Rattle.blocks.specs.declared.Replies.{Replies}
use Rattle.blocks.specs.Bits.{decision_by, reply_bit, Answers}
use Rattle.rows.specs.Words.{applies_at, gives_at}
use Rattle.rows.specs.Rows.{Applied, Given, Narrowed, AppliedRow, Marked}

-- Row `new` is `old` narrowed by the row `own`, up to word b
pub record Narrows (own old new : List ℕ) (b : ℕ) : Type 0 where
  pub size : length new ≡ length old
  pub done : (k : ℕ) → k < b → get_or new k 0 ≡ bit_and (get_or old k 0) (get_or own k 0)
  pub rest : (k : ℕ) → b ≤ k → get_or new k 0 ≡ get_or old k 0

module _ (own old : List ℕ) where
  pub narrows_none : Narrows own old old 0
  narrows_none = record { size = refl; done = λ k l. absurd (omega arith); rest = λ k l. refl }

  pub narrows_next : (new : List ℕ) (b : ℕ) → b < length new → Narrows own old new b → Narrows own old (set new b (bit_and (get_or new b 0) (get_or own b 0))) (b + 1)
  narrows_next new b room so_far =
      record {
        size = length-set new b (bit_and (get_or new b 0) (get_or own b 0)) ∙ so_far.size;
        done = λ k l. go k l (test (eqb k b));
        rest = λ k l. get_or-set_other new b k _ 0 (omega arith) ∙ so_far.rest k (omega arith);
      }
    where
      go : (k : ℕ) → k < b + 1 → Test (eqb k b) → get_or (set new b (bit_and (get_or new b 0) (get_or own b 0))) k 0 ≡ bit_and (get_or old k 0) (get_or own k 0)
      go k l (passed e) = rw (eqb-true k b e) (get_or-set_same new b _ 0 room ∙ ap (λ w. bit_and w (get_or own b 0)) (so_far.rest b (omega arith)))
      go k l (failed e) = let apart = eqb-false k b e in get_or-set_other new b k _ 0 apart ∙ so_far.done k (omega (arith, apart))

-- Element i with no parent, and with one
module _ (t : List Row) (hits : List (List ℕ)) (n blocks i : ℕ) (inside : i < n) (old mid : List ℕ)
    (own : (b : ℕ) → b < blocks → get_or mid b 0 ≡ bit_and (get_or old b 0) (word_in hits i b)) where
  own_bit : (b v : ℕ) (hit : Element → Bool) → b < blocks → Answers t hits n b v hit → bit (get_or mid b 0) v ≡ (bit (get_or old b 0) v && hit (element_at t i))
  own_bit b v hit l answers = ap (λ w. bit w v) (own b l) ∙ bit_and_lem (get_or old b 0) (word_in hits i b) v ∙ ap (λ x. bit (get_or old b 0) v && x) (answers i inside)

  pub narrowed_top : None ≡ found (parent_of t i) → Narrowed t hits n blocks i old mid
  unfolding element_at
  narrowed_top none b v hit l answers =
      own_bit b v hit l answers
      ∙ ap (λ x. bit (get_or old b 0) v && x) (sym (rw (top t i (sym none)) (and-true (hit (element_at t i)))))

  pub narrowed_up : (p : ℕ) (new : List ℕ) → Parent t (depth_of t i) i p → Narrowed t hits n blocks p mid new → Narrowed t hits n blocks i old new
  unfolding element_at
  narrowed_up p new found above b v hit l answers =
      above b v hit l answers
      ∙ ap (λ x. x && applies hit (before t p) (element_at t p)) (own_bit b v hit l answers)
      ∙ and_assoc (bit (get_or old b 0) v) (hit (element_at t i)) (applies hit (before t p) (element_at t p))
      ∙ ap (λ x. bit (get_or old b 0) v && x) (sym (rw found.above_is))

-- a word of ones has every bit
full : (v : ℕ) → v < 64 → bit 18446744073709551615 v ≡ true
full v l = not-false (bit 18446744073709551615 v) (first_none (λ k. not (bit 18446744073709551615 k)) 0 64 refl v zero-le (omega arith))

-- a row narrowed from ones
pub row_applied : (t : List Row) (hits : List (List ℕ)) (n blocks i : ℕ) (row : List ℕ) → blocks ≤ 64 → Narrowed t hits n blocks i (replicate 64 18446744073709551615) row → AppliedRow t hits n blocks i row
row_applied t hits n blocks i row few narrowed b v hit l u answers =
    narrowed b v hit l answers ∙ rw (get_or-replicate {A = ℕ} 64 b 18446744073709551615 0 (omega arith), full v u)

-- a word of row i that is none of its first ones
past_row : {blocks : ℕ} (i b : ℕ) → blocks ≤ 64 → (64 * i + b < 64 * (i + 1) → blocks ≤ b) → blocks ≤ b
past_row {blocks} i b few h = go (test (leb 64 b))
  where
    go : Test (leb 64 b) → blocks ≤ b
    go (passed e) = let past = leb-true 64 b e in omega arith
    go (failed e) = let inside = leb-false 64 b e in h (omega arith)

-- What each bit of the rows says, by the test of targets that it answers: of the elements and blocks before the k-th word, where 64 stand in a row; all other words are as they were
module _ (F : (Element → Bool) → ℕ → Bool) (t : List Row) (hits : List (List ℕ)) (n blocks : ℕ) where
  pub record Filled (old rows : List (List ℕ)) (k : ℕ) : Type 0 where
    pub size : length rows ≡ length old
    pub bits : (i b v : ℕ) (hit : Element → Bool) → i < n → b < blocks → v < 64 → 64 * i + b < k → Answers t hits n b v hit → bit (word_in rows i b) v ≡ F hit i
    pub others : (i b : ℕ) → (64 * i + b < k → blocks ≤ b) → word_in rows i b ≡ word_in old i b

  pub filled_none : (old : List (List ℕ)) → Filled old old 0
  filled_none old = record { size = refl; bits = λ i b v hit l u w a answers. absurd (omega arith); others = λ i b h. refl }

  module _ {old rows : List (List ℕ)} {k : ℕ} (so_far : Filled old rows k) (few : blocks ≤ 64) where
    -- all blocks of a row
    pub filled_end : (i : ℕ) → k ≡ 64 * i + blocks → Filled old rows (64 * (i + 1))
    filled_end i end =
        record {
          size = so_far.size;
          bits = λ j b v hit l u x a answers. so_far.bits j b v hit l u x (omega arith) answers;
          others = λ j b h. so_far.others j b (λ l. h (omega arith));
        }

    -- word b of row i is laid down
    pub filled_next : (i b w : ℕ) → k ≡ 64 * i + b → i < length rows → b < length (get_or rows i []) → b < blocks → ((v : ℕ) (hit : Element → Bool) → v < 64 → Answers t hits n b v hit → bit w v ≡ F hit i) → Filled old (set rows i (set (get_or rows i []) b w)) (k + 1)
    filled_next i b w at inside room block word =
        record {
          size = length-set rows i (set (get_or rows i []) b w) ∙ so_far.size;
          bits = λ j c v hit l u x a answers. go j c v hit l u x a answers (test (eqb j i)) (test (eqb c b));
          others = λ j c h. word_elsewhere rows i b w inside j c (λ e f. let no = h (omega arith) in omega arith) ∙ so_far.others j c (λ l. h (omega arith));
        }
      where
        new : List (List ℕ)
        new = with_word rows i b w inside

        stays : (j c v : ℕ) (hit : Element → Bool) → j < n → c < blocks → v < 64 → 64 * j + c < k → Answers t hits n c v hit → (j ≡ i → c ≢ b) → bit (word_in new j c) v ≡ F hit j
        stays j c v hit l u x a answers apart = ap (λ y. bit y v) (word_elsewhere rows i b w inside j c apart) ∙ so_far.bits j c v hit l u x a answers

        go : (j c v : ℕ) (hit : Element → Bool) → j < n → c < blocks → v < 64 → 64 * j + c < k + 1 → Answers t hits n c v hit → Test (eqb j i) → Test (eqb c b) → bit (word_in new j c) v ≡ F hit j
        go j c v hit l u x a answers (passed e) (passed f) =
            let there = eqb-true c b f in
            rw (eqb-true j i e, there) (ap (λ y. bit y v) (word_here rows i b w inside room) ∙ word v hit x (rw there at answers))
        go j c v hit l u x a answers (passed e) (failed f) =
            let same = eqb-true j i e in
            let apart = eqb-false c b f in
            stays j c v hit l u x (omega (arith, same, apart)) answers (λ _. apart)
        go j c v hit l u x a answers (failed e) _ =
            let apart = eqb-false j i e in
            stays j c v hit l u x (omega (arith, apart)) answers (λ same. absurd (apart same))

    -- a row is laid down
    pub filled_row : {i : ℕ} (row : List ℕ) (new : List (List ℕ)) → k ≡ 64 * i → length new ≡ length rows → ((b v : ℕ) (hit : Element → Bool) → b < blocks → v < 64 → Answers t hits n b v hit → bit (get_or row b 0) v ≡ F hit i) → PlaneCopied row blocks i rows new → Filled old new (64 * (i + 1))
    filled_row {i} row new from same here copied =
        record {
          size = same ∙ so_far.size;
          bits = λ j b v hit l u x a answers. go j b v hit l u x a answers (test (eqb j i));
          others = λ j b h. copied.others j b (λ e. past_row i b few (λ l. h (omega (arith, e)))) ∙ so_far.others j b (λ l. h (omega arith));
        }
      where
        go : (j b v : ℕ) (hit : Element → Bool) → j < n → b < blocks → v < 64 → 64 * j + b < 64 * (i + 1) → Answers t hits n b v hit → Test (eqb j i) → bit (word_in new j b) v ≡ F hit j
        go j b v hit l u x a answers (passed e) = rw (eqb-true j i e) (ap (λ y. bit y v) (copied.here b u) ∙ here b v hit u x answers)
        go j b v hit l u x a answers (failed e) =
            let other = eqb-false j i e in
            ap (λ y. bit y v) (copied.others j b (λ same. absurd (other same))) ∙ so_far.bits j b v hit l u x (omega (arith, other)) answers

-- no bit of them behind the requests, where the test fails if no target matches
pub filled_rest : (F : (Element → Bool) → ℕ → Bool) (t : List Row) (s : Shape) (hits : List (List ℕ)) {old rows : List (List ℕ)} {k : ℕ} → ((i : ℕ) → F (λ e. false) i ≡ false) → Marked t s hits → k ≡ 64 * s.n
    → Filled F t hits s.n (words_of s.space) old rows k → Rest s.n s.space old rows
filled_rest F t s hits none matched end filled =
    record {
      same_length = filled.size;
      clear = λ i m l past u. filled.bits i (m / 64) (m % 64) (λ e. false) l (omega arith) (omega arith) (omega (arith, matched.small)) (λ j a. matched.clear j m a past u) ∙ none i;
      others = λ i b h. filled.others i b (λ l. h (omega arith));
    }

-- all of them, of requests
pub filled_requests : (F : (Element → Bool) → ℕ → Bool) (t : List Row) (s : Shape) (hits : List (List ℕ)) {old rows : List (List ℕ)} {k : ℕ} → Marked t s hits → 64 * s.n ≤ k → Filled F t hits s.n (words_of s.space) old rows k
    → (i m : ℕ) → i < s.n → m < s.space → bit_of rows i m ≡ F (hit_of s m) i
filled_requests F t s hits matched all filled i m l u =
    filled.bits i (m / 64) (m % 64) (hit_of s m) l (omega arith) (omega arith) (omega (arith, matched.small)) (λ j a. matched.each j m a u)

-- an element applies, or gives a decision
abbrev pub applying : List Row → (Element → Bool) → ℕ → Bool
applying t hit i = applies hit (before t i) (element_at t i)

abbrev pub giving : Decision → List Row → List ℕ → ℕ → (Element → Bool) → ℕ → Bool
giving d t struck n hit i = is d (reply_at hit t struck n i).decision

-- Up to the k-th word, the rows say on which requests each element gives permit, and on which deny
pub record Gives (t : List Row) (struck : List ℕ) (hits : List (List ℕ)) (n blocks : ℕ) (old_permits permits old_denies denies : List (List ℕ)) (k : ℕ) : Type 0 where
  pub few : blocks ≤ 64
  pub permit_bits : Filled (giving Decision.Permit t struck n) t hits n blocks old_permits permits k
  pub permit_widths : SameWidths old_permits permits
  pub deny_bits : Filled (giving Decision.Deny t struck n) t hits n blocks old_denies denies k
  pub deny_widths : SameWidths old_denies denies

module _ (t : List Row) (s : Shape) (hits : List (List ℕ)) {old rows : List (List ℕ)} {k : ℕ} (matched : Marked t s hits) (all : 64 * s.n ≤ k) where
  pub applied_all : Filled (applying t) t hits s.n (words_of s.space) old rows k → Applied t s.n (hit_of s) s.space rows
  unfolding applies_at
  applied_all = filled_requests (applying t) t s hits matched all

  pub applied_rest : k ≡ 64 * s.n → Filled (applying t) t hits s.n (words_of s.space) old rows k → Rest s.n s.space old rows
  applied_rest = filled_rest (applying t) t s hits (λ i. refl) matched

  pub given_all : (d : Decision) (struck : List ℕ) → Filled (giving d t struck s.n) t hits s.n (words_of s.space) old rows k → Given d t struck s.n (hit_of s) s.space rows
  unfolding gives_at
  given_all d struck = filled_requests (giving d t struck s.n) t s hits matched all

  pub given_rest : (d : Decision) (struck : List ℕ) → is d NotApplicable ≡ false → k ≡ 64 * s.n → Filled (giving d t struck s.n) t hits s.n (words_of s.space) old rows k → Rest s.n s.space old rows
  unfolding reply_at
  given_rest d struck none = filled_rest (giving d t struck s.n) t s hits (λ i. none) matched

-- one of two decisions alone
permit_alone : (p d : Bool) → (p && not d) ≡ is Decision.Permit (decision_by p d)
permit_alone true true = refl
permit_alone true false = refl
permit_alone false true = refl
permit_alone false false = refl

deny_alone : (p d : Bool) → (d && not p) ≡ is Decision.Deny (decision_by p d)
deny_alone true true = refl
deny_alone true false = refl
deny_alone false true = refl
deny_alone false false = refl

-- Words of the replies with one of both decisions
module _ (w v : ℕ) (r : Replies) (reply : ChildReply) (is-reply : reply_bit r v ≡ reply) where
  pub permits_alone : bit w v ≡ (bit r.given.permits v && not (bit r.given.denies v)) → bit w v ≡ is Decision.Permit reply.decision
  permits_alone alone = alone ∙ permit_alone (bit r.given.permits v) (bit r.given.denies v) ∙ ap (λ x. is Decision.Permit x.decision) is-reply

  pub denies_alone : bit w v ≡ (bit r.given.denies v && not (bit r.given.permits v)) → bit w v ≡ is Decision.Deny reply.decision
  denies_alone alone = alone ∙ deny_alone (bit r.given.permits v) (bit r.given.denies v) ∙ ap (λ x. is Decision.Deny x.decision) is-reply
