-- Elements one deeper that match alike: the same replies and the same obligations.
use mathlib.Core.Path.{◌≡◌, refl, ap, ◌∙◌}
use Prim.Native.Nat.compare
use Prim.Native.Nat.{ℕ, suc, ◌≤◌, ◌<◌, compare, Ordering}
use native.Mathlib.Omega.{arith}
use mathlib.Core.Bool.{Bool, cond}
use mathlib.Core.List.{List, [], ◌∷◌, ◌++◌}
use lib.ListN.{drop}
use lib.Dec.{compare_is_eq, is_le}
use borrow.Author.Tests.{eqb-true, leb-false}
use Rattle.meaning.specs.Model.{obligations_of}
use Rattle.meaning.specs.Deciding.{Reply, combined, reply, child_replies, asked, own_obligations, obligations_from}
use Rattle.meaning.specs.Claims.Texts.{All, Paired}
use Rattle.laws.proofs.Types.{Decision, Element, not_applicable}
use Rattle.laws.proofs.Unchanged.{over}

under : (e : Element) (k : ℕ) → e.depth < k → compare e.depth k ≡ Ordering.lt
under e k l = go (compare e.depth k) refl
  where
    go : (o : Ordering) → compare e.depth k ≡ o → compare e.depth k ≡ Ordering.lt
    go Ordering.lt o = o
    go Ordering.eq o = let i : e.depth ≡ k = eqb-true e.depth k (ap compare_is_eq o) in absurd (omega arith)
    go Ordering.gt o = absurd (omega (arith, leb-false e.depth k (ap is_le o)))

-- Children end where a shallower element stands
abbrev pub Ends : ℕ → List Element → Type 0
Ends d [] = Unit {0}
Ends d (x ∷ xs) = x.depth < d

ends_more : (d : ℕ) (more : List Element) → Ends d more → Ends (suc d) more
ends_more d [] h = tt
ends_more d (x ∷ xs) h = omega arith

abbrev pub Below : List Element → Type 0
Below es = All (λ x. 1 ≤ x.depth) es

-- An element and one that is one deeper and matches alike, each by its own test
module _ (hit deep : Element → Bool) where
  pub record OneDeeper (e x : Element) : Type 0 where
    pub depth : x.depth ≡ suc e.depth
    pub word : x.word ≡ e.word
    pub hits : deep x ≡ hit e
    pub obligations : obligations_of x ≡ obligations_of e

  pub reply_deeper : (e x : Element) (rs : List Reply) → OneDeeper e x → reply deep x rs ≡ reply hit e rs
  reply_deeper e x rs h = λ i. record { matched = h.hits i; decision = cond (h.hits i) (combined (h.word i) rs) not_applicable }

  pub own_deeper : (d : Decision) (e x : Element) → OneDeeper e x → own_obligations d x ≡ own_obligations d e
  own_deeper d e x h = rw h.obligations

  -- what stands behind them is shallower
  none_shallower : (d : ℕ) (more : List Element) → Ends d more → child_replies deep d more ≡ []
  none_shallower d [] h = refl
  none_shallower d (x ∷ xs) h = rw (under x d h)

  pub replies_deeper : (d : ℕ) (es xs more : List Element) → Paired OneDeeper es xs → Ends (suc d) more → child_replies deep (suc d) (xs ++ more) ≡ child_replies hit d es
  replies_deeper d [] [] more a h = none_shallower (suc d) more h
  replies_deeper d [] (x ∷ xs) more a h = absurd a
  replies_deeper d (e ∷ es) [] more a h = absurd a
  replies_deeper d (e ∷ es) (x ∷ xs) more a h =
      go (compare e.depth d) (ap (λ n. compare n (suc d)) a.0.depth ∙ compare.suc-suc e.depth d) refl
      (replies_deeper d es xs more a.1 h) (replies_deeper (suc d) es xs more a.1 (ends_more (suc d) more h))
    where
      go : (o : Ordering) → compare x.depth (suc d) ≡ compare e.depth d → compare e.depth d ≡ o
          → child_replies deep (suc d) (xs ++ more) ≡ child_replies hit d es → child_replies deep (suc (suc d)) (xs ++ more) ≡ child_replies hit (suc d) es
          → child_replies deep (suc d) ((x ∷ xs) ++ more) ≡ child_replies hit d (e ∷ es)
      go Ordering.lt i o later inner = rw (i, o)
      go Ordering.eq i o later inner = rw (i, o, later, inner, reply_deeper e x (child_replies hit (suc d) es) a.0)
      go Ordering.gt i o later inner = rw (i, o) later

  -- elements that are all deeper belong to a child before them
  pub skip_deeper : (es xs more : List Element) → Paired OneDeeper es xs → Below es → child_replies deep 1 (xs ++ more) ≡ child_replies deep 1 more
  skip_deeper [] [] more a h = refl
  skip_deeper [] (x ∷ xs) more a h = absurd a
  skip_deeper (e ∷ es) [] more a h = absurd a
  skip_deeper (e ∷ es) (x ∷ xs) more a h = rw (over x 1 (omega (arith, a.0.depth, h.0))) (skip_deeper es xs more a.1 h.1)

  -- The obligations, the same way
  none_shallower_own : (d : Decision) (k : ℕ) (bs : List Bool) (more : List Element) → Ends k more → obligations_from deep d k bs more ≡ []
  none_shallower_own d k bs [] h = refl
  none_shallower_own d k bs (x ∷ xs) h = rw (under x k h)

  pub obligations_deeper : (d : Decision) (k : ℕ) (bs : List Bool) (es xs more : List Element) → Paired OneDeeper es xs → Ends (suc k) more → obligations_from deep d (suc k) bs (xs ++ more) ≡ obligations_from hit d k bs es
  obligations_deeper d k bs [] [] more a h = none_shallower_own d (suc k) bs more h
  obligations_deeper d k bs [] (x ∷ xs) more a h = absurd a
  obligations_deeper d k bs (e ∷ es) [] more a h = absurd a
  obligations_deeper d k bs (e ∷ es) (x ∷ xs) more a h =
      go (compare e.depth k) (ap (λ n. compare n (suc k)) a.0.depth ∙ compare.suc-suc e.depth k) refl
      (obligations_deeper d k bs es xs more a.1 h) (obligations_deeper d k (drop 1 bs) es xs more a.1 h)
      (obligations_deeper d (suc k) (asked e.word (child_replies hit (suc k) es)) es xs more a.1 (ends_more (suc k) more h))
      (replies_deeper (suc k) es xs more a.1 (ends_more (suc k) more h))
    where
      go : (o : Ordering) → compare x.depth (suc k) ≡ compare e.depth k → compare e.depth k ≡ o
          → obligations_from deep d (suc k) bs (xs ++ more) ≡ obligations_from hit d k bs es → obligations_from deep d (suc k) (drop 1 bs) (xs ++ more) ≡ obligations_from hit d k (drop 1 bs) es
          → obligations_from deep d (suc (suc k)) (asked e.word (child_replies hit (suc k) es)) (xs ++ more) ≡ obligations_from hit d (suc k) (asked e.word (child_replies hit (suc k) es)) es
          → child_replies deep (suc (suc k)) (xs ++ more) ≡ child_replies hit (suc k) es
          → obligations_from deep d (suc k) bs ((x ∷ xs) ++ more) ≡ obligations_from hit d k bs (e ∷ es)
      go Ordering.lt i o here next below inner = rw (i, o)
      go Ordering.eq i o here next below inner = rw (i, o, inner, a.0.hits, a.0.word, own_deeper d e x a.0, below, next)
      go Ordering.gt i o here next below inner = rw (i, o) here

  pub skip_obligations : (d : Decision) (bs : List Bool) (es xs more : List Element) → Paired OneDeeper es xs → Below es → obligations_from deep d 1 bs (xs ++ more) ≡ obligations_from deep d 1 bs more
  skip_obligations d bs [] [] more a h = refl
  skip_obligations d bs [] (x ∷ xs) more a h = absurd a
  skip_obligations d bs (e ∷ es) [] more a h = absurd a
  skip_obligations d bs (e ∷ es) (x ∷ xs) more a h = rw (over x 1 (omega (arith, a.0.depth, h.0))) (skip_obligations d bs es xs more a.1 h.1)
