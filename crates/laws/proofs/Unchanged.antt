-- A policy that decides the same without one of its rules: what the file decides, and the obligations that come, stay.
use mathlib.Core.Path.{◌≡◌, refl, ap, subst}
use mathlib.Core.Logic.{inl, inr}
use Prim.Native.Nat.{ℕ, suc, ◌≤◌, ◌<◌, compare, Ordering}
use native.Mathlib.Omega.{arith}
use mathlib.Core.Bool.{Bool, true}
use mathlib.Core.List.{List, [], ◌∷◌}
use lib.ListN.{drop}
use lib.Dec.{compare_is_eq, is_le}
use borrow.Author.Tests.{eqb-true, leb-true, leb-false}
use Rattle.meaning.specs.Deciding.{Reply, reply, child_replies, first_decision, asked, obligations_from, outcome_of}
use Rattle.laws.proofs.Types.{Decision, Element}
use Rattle.laws.proofs.Obligations.{Bare, bare_none}

-- The first list is the second without one element; those before it, and it, are deeper than c
pub data Gone (c : ℕ) : List Element → List Element → Type 0 where
  gone : (e : Element) (es : List Element) → c < e.depth → Gone c es (e ∷ es)
  deeper : (e : Element) (xs ys : List Element) → c < e.depth → Gone c xs ys → Gone c (e ∷ xs) (e ∷ ys)

bare_gone : (d : Decision) (c : ℕ) (xs ys : List Element) → Gone c xs ys → Bare d (suc c) ys → Bare d (suc c) xs
bare_gone d c _ _ (gone e es l) (inl low) = absurd (omega arith)
bare_gone d c _ _ (gone e es l) (inr (none, b)) = b
bare_gone d c _ _ (deeper e xs ys l g) (inl low) = absurd (omega arith)
bare_gone d c _ _ (deeper e xs ys l g) (inr (none, b)) = inr (none, bare_gone d c xs ys g b)

pub over : (e : Element) (k : ℕ) → k < e.depth → compare e.depth k ≡ Ordering.gt
over e k l = go (compare e.depth k) refl
  where
    go : (o : Ordering) → compare e.depth k ≡ o → compare e.depth k ≡ Ordering.gt
    go Ordering.lt o = absurd (omega (arith, leb-true e.depth k (ap is_le o)))
    go Ordering.eq o = let i : e.depth ≡ k = eqb-true e.depth k (ap compare_is_eq o) in absurd (omega arith)
    go Ordering.gt o = o

module _ (hit : Element → Bool) where
  -- what is deeper than c is passed over at depth c and above
  gone_replies : (c k : ℕ) (xs ys : List Element) → k ≤ c → Gone c xs ys → child_replies hit k xs ≡ child_replies hit k ys
  gone_replies c k _ _ l (gone e es deep) = rw (over e k (omega arith))
  gone_replies c k _ _ l (deeper e xs ys deep g) = rw (over e k (omega arith), gone_replies c k xs ys l g)

  gone_obligations : (d : Decision) (c k : ℕ) (bs : List Bool) (xs ys : List Element) → k ≤ c → Gone c xs ys → obligations_from hit d k bs xs ≡ obligations_from hit d k bs ys
  gone_obligations d c k bs _ _ l (gone e es deep) = rw (over e k (omega arith))
  gone_obligations d c k bs _ _ l (deeper e xs ys deep g) = rw (over e k (omega arith), gone_obligations d c k bs xs ys l g)

  -- The first list is the second without a rule of a policy, which decides the same; none of the policy's rules has obligations
  pub data Same : List Element → List Element → Type 0 where
    parent : (e : Element) (xs ys : List Element) → Gone e.depth xs ys → ((d : Decision) → Bare d (suc e.depth) ys)
        → (reply hit e (child_replies hit (suc e.depth) xs)).decision ≡ (reply hit e (child_replies hit (suc e.depth) ys)).decision → Same (e ∷ xs) (e ∷ ys)
    later : (e : Element) (xs ys : List Element) → Same xs ys → Same (e ∷ xs) (e ∷ ys)

  -- the policy's decision, where its depth is k
  abbrev gives : Element → ℕ → List Element → Decision
  gives e k es = (reply hit e (child_replies hit (suc k) es)).decision

  reply_same : (e : Element) (rs ss : List Reply) → (reply hit e rs).decision ≡ (reply hit e ss).decision → reply hit e rs ≡ reply hit e ss
  reply_same e rs ss h = λ i. record { matched = hit e; decision = h i }

  -- every element over it gets the same replies
  same_replies : (k : ℕ) (xs ys : List Element) → Same xs ys → child_replies hit k xs ≡ child_replies hit k ys
  same_replies k _ _ (parent e xs ys g b h) = go (compare e.depth k) refl
    where
      go : (o : Ordering) → compare e.depth k ≡ o → child_replies hit k (e ∷ xs) ≡ child_replies hit k (e ∷ ys)
      go Ordering.lt o = rw o
      go Ordering.eq o =
          let i : e.depth ≡ k = eqb-true e.depth k (ap compare_is_eq o) in
          let one = reply_same e (child_replies hit (suc k) xs) (child_replies hit (suc k) ys) (subst (λ n. gives e n xs ≡ gives e n ys) i h) in
          rw (o, one, gone_replies e.depth k xs ys (omega arith) g)
      go Ordering.gt o = rw (o, gone_replies e.depth k xs ys (omega (arith, leb-false e.depth k (ap is_le o))) g)
  same_replies k _ _ (later e xs ys s) = go (compare e.depth k) refl (same_replies k xs ys s) (same_replies (suc k) xs ys s)
    where
      go : (o : Ordering) → compare e.depth k ≡ o → child_replies hit k xs ≡ child_replies hit k ys → child_replies hit (suc k) xs ≡ child_replies hit (suc k) ys
          → child_replies hit k (e ∷ xs) ≡ child_replies hit k (e ∷ ys)
      go Ordering.lt o here below = rw o
      go Ordering.eq o here below = rw (o, below, here)
      go Ordering.gt o here below = rw (o, here)

  -- and the same obligations come
  same_obligations : (d : Decision) (k : ℕ) (bs : List Bool) (xs ys : List Element) → Same xs ys → obligations_from hit d k bs xs ≡ obligations_from hit d k bs ys
  same_obligations d k bs _ _ (parent e xs ys g b h) = go (compare e.depth k) refl
    where
      go : (o : Ordering) → compare e.depth k ≡ o → obligations_from hit d k bs (e ∷ xs) ≡ obligations_from hit d k bs (e ∷ ys)
      go Ordering.lt o = rw o
      go Ordering.eq o =
          let i : e.depth ≡ k = eqb-true e.depth k (ap compare_is_eq o) in
          let one : gives e k xs ≡ gives e k ys = subst (λ n. gives e n xs ≡ gives e n ys) i h in
          let left = bare_none hit d (suc e.depth) (suc k) (asked e.word (child_replies hit (suc k) xs)) xs (omega arith) (bare_gone d e.depth xs ys g (b d)) in
          let right = bare_none hit d (suc e.depth) (suc k) (asked e.word (child_replies hit (suc k) ys)) ys (omega arith) (b d) in
          rw (o, left, right, one, gone_obligations d e.depth k (drop 1 bs) xs ys (omega arith) g)
      go Ordering.gt o = rw (o, gone_obligations d e.depth k bs xs ys (omega (arith, leb-false e.depth k (ap is_le o))) g)
  same_obligations d k bs _ _ (later e xs ys s) =
      go (compare e.depth k) refl (λ cs. same_obligations d k cs xs ys s) (same_obligations d (suc k) (asked e.word (child_replies hit (suc k) ys)) xs ys s)
    where
      go : (o : Ordering) → compare e.depth k ≡ o → ((cs : List Bool) → obligations_from hit d k cs xs ≡ obligations_from hit d k cs ys)
          → obligations_from hit d (suc k) (asked e.word (child_replies hit (suc k) ys)) xs ≡ obligations_from hit d (suc k) (asked e.word (child_replies hit (suc k) ys)) ys
          → obligations_from hit d k bs (e ∷ xs) ≡ obligations_from hit d k bs (e ∷ ys)
      go Ordering.lt o here below = rw o
      go Ordering.eq o here below = rw (o, same_replies (suc k) xs ys s, below, here (drop 1 bs))
      go Ordering.gt o here below = rw (o, here bs)

  same_first : (xs ys : List Element) → Same xs ys → first_decision hit xs ≡ first_decision hit ys
  same_first _ _ (parent e xs ys g b h) = h
  same_first _ _ (later e xs ys s) = rw (same_replies (suc e.depth) xs ys s)

  pub same_outcome_lem : (xs ys : List Element) → Same xs ys → outcome_of hit xs ≡ outcome_of hit ys
  same_outcome_lem xs ys s = rw (same_first xs ys s, same_obligations (first_decision hit ys) 0 (true ∷ []) xs ys s)
