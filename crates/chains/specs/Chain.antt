-- Which elements, with every element above them, are asked on a request and give the decision of the first.
use Prim.Native.Nat.{ℕ, zero, suc, ◌+◌, ◌-◌, ◌<◌, compare}
use Rattle.std.specs.Prelude.{◌≡◌, Bool, true, false, not, cond, ◌&&◌, ◌||◌, List, eqb, get_or, drop}
use Rattle.meaning.specs.declared.Word.{Word}
use Rattle.meaning.specs.declared.Decision.{Decision}
use Rattle.meaning.specs.declared.Element.{Element}
use Rattle.meaning.specs.Deciding.{is, bit, by_order}
use Rattle.table.specs.declared.Row.{Row}
use Rattle.table.specs.Rows.{word_at, word_number, depth_of}
use Rattle.decisions.specs.Replies.{reply_at}
use Rattle.blocks.specs.declared.Effects.{Effects}
use Rattle.blocks.specs.Bits.{decision_bit, Answers}

-- both are permit, or both deny
abbrev pub alike : Decision → Decision → Bool
alike d e = (is Decision.Permit d && is Decision.Permit e) || (is Decision.Deny d && is Decision.Deny e)

-- an algorithm asks children, an effect none
abbrev pub asks : Word → Bool
asks Word.Permit = false
asks Word.Deny = false
asks Word.DenyOverrides = true
asks Word.PermitOverrides = true
asks Word.FirstApplicable = true
asks Word.OnlyOneApplicable = true

-- a child's decision settles the answer, so that none behind it is asked; where only-one-applicable gives permit or deny, none behind the sole child matches
abbrev pub settles : Word → Decision → Bool
settles Word.Permit e = false
settles Word.Deny e = false
settles Word.DenyOverrides e = is Decision.Deny e || is Decision.Indeterminate e
settles Word.PermitOverrides e = is Decision.Permit e
settles Word.FirstApplicable e = not (is Decision.NotApplicable e)
settles Word.OnlyOneApplicable e = false

-- The elements of a table that flags leave, of n places, and the decision that is given
module _ (hit : Element → Bool) (d : Decision) (t : List Row) (struck : List ℕ) (n : ℕ) where
  -- element i gives it, and is asked: by a parent of word w whose next child is asked if b holds
  abbrev pub gives_asked : Word → Bool → ℕ → Bool
  gives_asked w b i = (b && asks w) && alike d (reply_at hit t struck n i).decision

  -- whether the child behind element i is asked
  abbrev pub asks_next : Word → Bool → ℕ → Bool
  asks_next w b i = b && not (settles w (reply_at hit t struck n i).decision)

  -- element j is one of the children at depth k that are asked and give it, of m places from place i on, or is so below one of them
  unfoldable pub chained_in : Word → ℕ → Bool → (j i m : ℕ) → Bool
  chained_in w k b j i zero = false
  chained_in w k b j i (suc m) =
      let gives = gives_asked w b i in
      let below = chained_in (word_at (word_number t i)) (suc (depth_of t i)) gives j (i + 1) m in
      let behind = chained_in w k (asks_next w b i) j (i + 1) m in
      let later = chained_in w k b j (i + 1) m in
      cond (eqb (get_or struck i 0) 0) (by_order (compare (depth_of t i) k) false ((eqb j i && gives) || (below || behind)) later) later

  abbrev pub chained_from : Word → ℕ → Bool → (j i : ℕ) → Bool
  chained_from w k b j i = chained_in w k b j i (n - i)

-- The first element gives permit or deny, and element j, with every element above it, is asked and gives the same; no element behind the first is asked beside it
unfoldable pub chained : (Element → Bool) → List Row → List ℕ → ℕ → ℕ → Bool
chained hit t struck n j =
    let d = (reply_at hit t struck n 0).decision in
    chained_from hit d t struck n Word.FirstApplicable (depth_of t 0) (alike d d) j 0

-- to the bits that the words of n elements had come those of the chained children, for each bit and the test that it answers
pub record Marks (t : List Row) (struck : List ℕ) (hits : List (List ℕ)) (n block from depth : ℕ) (word : Word) (on : ℕ) (first : Effects) (old new : List ℕ) : Type 0 where
  pub bits : (v : ℕ) (hit : Element → Bool) → Answers t hits n block v hit → (j : ℕ)
      → bit (get_or new j 0) v ≡ (bit (get_or old j 0) v || chained_from hit (decision_bit first v) t struck n word depth (bit on v) j from)
  pub behind : drop n new ≡ drop n old

-- each bit of the words of n elements says whether the element is chained; the words behind them stay
pub record ChainLaid (t : List Row) (struck : List ℕ) (hits : List (List ℕ)) (n block : ℕ) (old new : List ℕ) : Type 0 where
  pub bits : (v : ℕ) (hit : Element → Bool) → Answers t hits n block v hit → (i : ℕ) → i < n → bit (get_or new i 0) v ≡ chained hit t struck n i
  pub behind : drop n new ≡ drop n old
