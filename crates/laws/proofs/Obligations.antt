-- Obligations: where none come.
use mathlib.Core.Path.{◌≡◌, refl, ap}
use mathlib.Core.Logic.{◌⊎◌, inl, inr}
use Prim.Native.Nat.{ℕ, suc, ◌≤◌, ◌<◌, zero-le, compare, Ordering}
use native.Mathlib.Omega.{arith}
use mathlib.Core.Bool.{Bool, true, false, cond, ◌&&◌}
use mathlib.Core.List.{List, [], ◌∷◌}
use lib.ListN.{drop}
use lib.Dec.{compare_is_eq, is_le}
use borrow.Author.Tests.{eqb-true, leb-false}
use Rattle.laws.proofs.Types.{Word, deny_overrides, permit_overrides, first_applicable, only_one_applicable, Decision, not_applicable, Obligation, Element}
use Rattle.meaning.specs.Text.{Bytes, gathered, keep, same, line}
use Rattle.meaning.specs.Model.{obligation_name, obligations_of, word_text, decision_text}
use Rattle.meaning.specs.Deciding.{is, reply, child_replies, asked, is_next, own_obligations, obligations_from}
use Rattle.meaning.specs.Claims.Texts.{All}

-- No element before the first of a depth below n has obligations of decision d
abbrev pub Bare : Decision → ℕ → List Element → Type 0
Bare d n [] = Unit {0}
Bare d n (e ∷ es) = (e.depth < n) ⊎ ((own_obligations d e ≡ []) × Bare d n es)

either_empty : (b : Bool) → cond {A = Bytes} b [] [] ≡ []
either_empty true = refl
either_empty false = refl

-- then none come from there
module _ (hit : Element → Bool) (d : Decision) where
  pub bare_none : (n k : ℕ) (bs : List Bool) (es : List Element) → n ≤ k → Bare d n es → obligations_from hit d k bs es ≡ []
  bare_none n k bs [] l b = refl
  bare_none n k bs (e ∷ es) l (inl low) = go (compare e.depth k) refl
    where
      go : (o : Ordering) → compare e.depth k ≡ o → obligations_from hit d k bs (e ∷ es) ≡ []
      go Ordering.lt o = rw o
      go Ordering.eq o = let i : e.depth ≡ k = eqb-true e.depth k (ap compare_is_eq o) in absurd (omega arith)
      go Ordering.gt o = absurd (omega (arith, leb-false e.depth k (ap is_le o)))
  bare_none n k bs (e ∷ es) l (inr (none, b)) =
      go (compare e.depth k) refl (bare_none n k bs es l b) (bare_none n k (drop 1 bs) es l b)
      (bare_none n (suc k) (asked e.word (child_replies hit (suc k) es)) es (omega arith) b)
    where
      go : (o : Ordering) → compare e.depth k ≡ o → obligations_from hit d k bs es ≡ [] → obligations_from hit d k (drop 1 bs) es ≡ []
          → obligations_from hit d (suc k) (asked e.word (child_replies hit (suc k) es)) es ≡ [] → obligations_from hit d k bs (e ∷ es) ≡ []
      go Ordering.lt o here later below = rw o
      go Ordering.eq o here later below =
          rw (o, none, below, later) (rw (either_empty (is_next bs && is d (reply hit e (child_replies hit (suc k) es)).decision)))
      go Ordering.gt o here later below = rw (o, here)

all_bare : (d : Decision) (es : List Element) → All (λ e. own_obligations d e ≡ []) es → Bare d 0 es
all_bare d [] a = tt
all_bare d (e ∷ es) a = inr (a.0, all_bare d es a.1)

-- an element without obligations has none of any decision
pub no_own : (d : Decision) (e : Element) → obligations_of e ≡ [] → own_obligations d e ≡ []
no_own d e none = rw none

-- where no element has obligations none come
pub none_come : (hit : Element → Bool) (d : Decision) (k : ℕ) (bs : List Bool) (es : List Element) → All (λ e. obligations_of e ≡ []) es → obligations_from hit d k bs es ≡ []
none_come hit d k bs es a = bare_none hit d 0 k bs es zero-le (all_bare d es (go es a))
  where
    go : (es : List Element) → All (λ e. obligations_of e ≡ []) es → All (λ e. own_obligations d e ≡ []) es
    go [] a = tt
    go (e ∷ es) a = (no_own d e a.0, go es a.1)

-- None come with a decision that is no word
module _ (d : Decision) (no_word : (w : Word) → same (word_text w) (decision_text d) ≡ false) where
  none_spelled : (os : List Obligation) → gathered (λ o. line (obligation_name o ∷ [])) (keep (λ o. same (word_text o.word) (decision_text d)) os) ≡ []
  none_spelled [] = refl
  none_spelled (o ∷ os) = rw (no_word o.word) (none_spelled os)

  none_own : (es : List Element) → All (λ e. own_obligations d e ≡ []) es
  none_own [] = tt
  none_own (e ∷ es) = (none_spelled (obligations_of e), none_own es)

  none_with : (hit : Element → Bool) (k : ℕ) (bs : List Bool) (es : List Element) → obligations_from hit d k bs es ≡ []
  none_with hit k bs es = bare_none hit d 0 k bs es zero-le (all_bare d es (none_own es))

no_such_word : (w : Word) → same (word_text w) (decision_text not_applicable) ≡ false
no_such_word Word.Permit = refl
no_such_word Word.Deny = refl
no_such_word deny_overrides = refl
no_such_word permit_overrides = refl
no_such_word first_applicable = refl
no_such_word only_one_applicable = refl

pub not_applicable_none : (hit : Element → Bool) (k : ℕ) (bs : List Bool) (es : List Element) → obligations_from hit not_applicable k bs es ≡ []
not_applicable_none = none_with not_applicable no_such_word
