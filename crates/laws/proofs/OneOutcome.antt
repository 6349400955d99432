-- Two requests to which the same elements apply get one outcome.
use mathlib.Core.Path.{◌≡◌, refl, sym, ap, ◌∙◌}
use mathlib.Core.Logic.{◌≢◌}
use Prim.Native.Nat.{ℕ, zero, suc, ◌≤◌, compare, Ordering}
use native.Mathlib.Omega.{arith}
use mathlib.Core.Bool.{Bool, true, false}
use mathlib.Core.List.{List, [], ◌∷◌}
use lib.ListN.{drop}
use lib.Dec.{compare_is_eq, is_le}
use borrow.Author.Tests.{leb-false, eqb-true, ne_eqb, eq-eqb}
use Rattle.meaning.specs.Text.{all}
use Rattle.meaning.specs.Deciding.{above, applies, is, Reply, reply, child_replies, first_decision, asked, is_next, obligations_from, outcome_of}
use Rattle.meaning.specs.Segments.{applying}
use Rattle.laws.proofs.Types.{Decision, not_applicable, indeterminate, Element}
use Rattle.laws.proofs.Bools.{Test, passed, failed, test, and_right, and_false}
use Rattle.laws.proofs.Obligations.{not_applicable_none}

-- What is above depth k is the same behind an element no less deep; above the next depth an element of depth k comes first
above_past : (k : ℕ) (e : Element) (before : List Element) → k ≤ e.depth → above k (e ∷ before) ≡ above k before
above_past zero e [] l = refl
above_past zero e (x ∷ before) l = refl
above_past (suc k) e before l = let other : e.depth ≢ k = omega arith in rw (ne_eqb e.depth k other)

above_own : (k : ℕ) (e : Element) (before : List Element) → e.depth ≡ k → above (suc k) (e ∷ before) ≡ e ∷ above k before
above_own k e before i = rw (eq-eqb e.depth k i)

-- of one request: all above an element's depth match, seen behind the element, and below it where it matches too
module _ (q : Element → Bool) (k : ℕ) (before : List Element) (x : all q (above k before) ≡ true) (e : Element) where
  matches_past : k ≤ e.depth → all q (above k (e ∷ before)) ≡ true
  matches_past l = ap (all q) (above_past k e before l) ∙ x

  matches_own : e.depth ≡ k → q e ≡ true → all q (above (suc k) (e ∷ before)) ≡ true
  matches_own i w = ap (all q) (above_own k e before i) ∙ rw (w, x)

module _ (q r : Element → Bool) where
  same_reply : (e : Element) (xs ys : List Reply) → q e ≡ r e → (q e ≡ true → xs ≡ ys) → reply q e xs ≡ reply r e ys
  same_reply e xs ys m h = go (test (q e))
    where
      go : Test (q e) → reply q e xs ≡ reply r e ys
      go (passed t) = rw (← m, t, h t)
      go (failed t) = rw (← m, t)

  -- Where all above depth k match on both, an element of that depth matches on both or none
  agree : (k : ℕ) (before : List Element) (e : Element) → all q (above k before) ≡ true → all r (above k before) ≡ true → e.depth ≡ k → applies q before e ≡ applies r before e → q e ≡ r e
  agree k before e x y i t =
      sym (and_right (q e) (all q (above e.depth before)) (ap (λ n. all q (above n before)) i ∙ x)) ∙ t
      ∙ and_right (r e) (all r (above e.depth before)) (ap (λ n. all r (above n before)) i ∙ y)

  same_replies : (k : ℕ) (es before : List Element) → all q (above k before) ≡ true → all r (above k before) ≡ true → applying q before es ≡ applying r before es → child_replies q k es ≡ child_replies r k es
  same_replies k [] before x y h = refl
  same_replies k (e ∷ es) before x y h =
      let here : applies q before e ≡ applies r before e = cc in
      let behind : applying q (e ∷ before) es ≡ applying r (e ∷ before) es = cc in
      go (compare e.depth k) refl here
      (λ l. same_replies k es (e ∷ before) (matches_past q k before x e l) (matches_past r k before y e l) behind)
      (λ i w v. same_replies (suc k) es (e ∷ before) (matches_own q k before x e i w) (matches_own r k before y e i v) behind)
    where
      go : (o : Ordering) → compare e.depth k ≡ o → applies q before e ≡ applies r before e → (k ≤ e.depth → child_replies q k es ≡ child_replies r k es)
          → (e.depth ≡ k → q e ≡ true → r e ≡ true → child_replies q (suc k) es ≡ child_replies r (suc k) es) → child_replies q k (e ∷ es) ≡ child_replies r k (e ∷ es)
      go Ordering.lt o t later inner = rw o
      go Ordering.eq o t later inner =
          let i : e.depth ≡ k = eqb-true e.depth k (ap compare_is_eq o) in
          let m = agree k before e x y i t in
          rw (o, same_reply e (child_replies q (suc k) es) (child_replies r (suc k) es) m (λ w. inner i w (sym m ∙ w)), later (omega arith))
      go Ordering.gt o t later inner = rw (o, later (omega (arith, leb-false e.depth k (ap is_le o))))

  pub same_decision : (es : List Element) → applying q [] es ≡ applying r [] es → first_decision q es ≡ first_decision r es
  same_decision [] h = refl
  same_decision (e ∷ es) h =
      let here : applies q [] e ≡ applies r [] e = cc in
      let behind : applying q (e ∷ []) es ≡ applying r (e ∷ []) es = cc in
      let m = agree e.depth [] e refl refl refl here in
      ap (λ a. a.decision) (same_reply e (child_replies q (suc e.depth) es) (child_replies r (suc e.depth) es) m
      (λ w. same_replies (suc e.depth) es (e ∷ []) (matches_own q e.depth [] refl e refl w) (matches_own r e.depth [] refl e refl (sym m ∙ w)) behind))

  -- The same obligations come with a decision; not-applicable, which comes with none, is left out here
  module _ (d : Decision) (other : is d not_applicable ≡ false) where
    same_obligations : (k : ℕ) (bs : List Bool) (es before : List Element) → all q (above k before) ≡ true → all r (above k before) ≡ true → applying q before es ≡ applying r before es
        → obligations_from q d k bs es ≡ obligations_from r d k bs es
    same_obligations k bs [] before x y h = refl
    same_obligations k bs (e ∷ es) before x y h =
        let here : applies q before e ≡ applies r before e = cc in
        let behind : applying q (e ∷ before) es ≡ applying r (e ∷ before) es = cc in
        go (compare e.depth k) refl here
        (λ cs l. same_obligations k cs es (e ∷ before) (matches_past q k before x e l) (matches_past r k before y e l) behind)
        (λ i w v. same_replies (suc k) es (e ∷ before) (matches_own q k before x e i w) (matches_own r k before y e i v) behind)
        (λ cs i w v. same_obligations (suc k) cs es (e ∷ before) (matches_own q k before x e i w) (matches_own r k before y e i v) behind)
      where
        go : (o : Ordering) → compare e.depth k ≡ o → applies q before e ≡ applies r before e
            → ((cs : List Bool) → k ≤ e.depth → obligations_from q d k cs es ≡ obligations_from r d k cs es)
            → (e.depth ≡ k → q e ≡ true → r e ≡ true → child_replies q (suc k) es ≡ child_replies r (suc k) es)
            → ((cs : List Bool) → e.depth ≡ k → q e ≡ true → r e ≡ true → obligations_from q d (suc k) cs es ≡ obligations_from r d (suc k) cs es)
            → obligations_from q d k bs (e ∷ es) ≡ obligations_from r d k bs (e ∷ es)
        go Ordering.lt o t later replies inner = rw o
        go Ordering.eq o t later replies inner = own (test (q e))
          where
            i : e.depth ≡ k
            i = eqb-true e.depth k (ap compare_is_eq o)

            m : q e ≡ r e
            m = agree k before e x y i t

            own : Test (q e) → obligations_from q d k bs (e ∷ es) ≡ obligations_from r d k bs (e ∷ es)
            own (passed w) =
                let v : r e ≡ true = sym m ∙ w in
                rw (o, ← m, w, replies i w v, inner (asked e.word (child_replies r (suc k) es)) i w v, later (drop 1 bs) (omega (arith, i)))
            own (failed w) = rw (o, ← m, w, other, and_false (is_next bs), later (drop 1 bs) (omega (arith, i)))
        go Ordering.gt o t later replies inner = rw (o, later bs (omega (arith, leb-false e.depth k (ap is_le o))))

  pub same_outcome_lem : (es : List Element) → applying q [] es ≡ applying r [] es → outcome_of q es ≡ outcome_of r es
  same_outcome_lem es h = rw (same_decision es h) (λ i. record { decision = first_decision r es; obligations = go (first_decision r es) i })
    where
      go : (d : Decision) → obligations_from q d 0 (true ∷ []) es ≡ obligations_from r d 0 (true ∷ []) es
      go Decision.Permit = same_obligations Decision.Permit refl 0 (true ∷ []) es [] refl refl h
      go Decision.Deny = same_obligations Decision.Deny refl 0 (true ∷ []) es [] refl refl h
      go not_applicable = not_applicable_none q 0 (true ∷ []) es ∙ sym (not_applicable_none r 0 (true ∷ []) es)
      go indeterminate = same_obligations indeterminate refl 0 (true ∷ []) es [] refl refl h
