-- Two files under one set that matches: it decides as its word does over what the two reply, and their obligations come.
use mathlib.Core.Path.{◌≡◌, refl, sym, ap, ◌∙◌}
use Prim.Native.Nat.{Ordering}
use Prim.Native.Nat.{suc, ◌≤◌, compare}
use native.Mathlib.Omega.{arith}
use mathlib.Core.Bool.{Bool, true, false, cond, ◌&&◌}
use mathlib.Core.List.{List, [], ◌∷◌, ◌++◌, map, append-nil}
use lib.ListN.{length, drop, get_or}
use Rattle.meaning.specs.Text.{Bytes}
use Rattle.meaning.specs.Model.{Policy, given, obligations_of}
use Rattle.meaning.specs.Reading.{read}
use Rattle.meaning.specs.Deciding.{is, Reply, combined, reply, child_replies, first_decision, asked, is_next, own_obligations, obligations_from, outcome_of}
use Rattle.meaning.specs.Claims.Texts.{Each, Paired}
use Rattle.meaning.specs.Claims.PolicyFile.{Placed}
use Rattle.laws.proofs.Types.{Decision, Element, not_applicable}
use Rattle.laws.proofs.Bools.{Test, passed, failed, test}
use Rattle.laws.proofs.Outcomes.{same_decision, decision_same}
use Rattle.laws.proofs.Bounds.{all_append}
use Rattle.laws.proofs.Obligations.{no_own}
use Rattle.laws.proofs.Unchanged.{over}
use Rattle.laws.proofs.WellFormed.{well_formed}
use Rattle.laws.proofs.Deeper.{Ends, Below, OneDeeper, reply_deeper, own_deeper, replies_deeper, skip_deeper, obligations_deeper, skip_obligations}

-- The first element at depth 0 and the others deeper, as in every accepted file
abbrev pub Rooted : List Element → Type 0
Rooted [] = ⊥
Rooted (e ∷ es) = (e.depth ≡ 0) × Below es

pub rooted : (f : Bytes) (p : Policy) → read f ≡ given p → Rooted p.elements
rooted f p h = let w = (well_formed f p).0 h in top p.elements w.some_element w.good.placed
  where
    later : (x : Element) (before es : List Element) → Each Placed (x ∷ before) es → Below es
    later x before [] a = tt
    later x before (e ∷ es) a = (a.0.0, later e (x ∷ before) es a.1)

    top : (es : List Element) → 1 ≤ length es → Each Placed [] es → Rooted es
    top [] l a = absurd (omega arith)
    top (e ∷ es) l a = (a.0.0, later e [] es a.1)

-- what a file replies, by the tests of its targets
abbrev pub reply_by : (Element → Bool) → List Element → Reply
reply_by hit es = record { matched = get_or (map hit es) 0 false; decision = first_decision hit es }

-- The obligations of a whole list are those from its first element
none_asked : (hit : Element → Bool) (d : Decision) (es : List Element) → Below es → obligations_from hit d 0 [] es ≡ []
none_asked hit d [] h = refl
none_asked hit d (e ∷ es) h = rw (over e 0 h.0) (none_asked hit d es h.1)

module _ (hit : Element → Bool) (e : Element) (es : List Element) (z : e.depth ≡ 0) (h : Below es) (d : Decision) where
  abbrev rs : List Reply
  rs = child_replies hit 1 es

  -- its own, and those of its children
  abbrev own : Bytes
  own = own_obligations d e ++ obligations_from hit d 1 (asked e.word rs) es

  top_reply : reply hit e rs ≡ reply_by hit (e ∷ es)
  top_reply = ap (λ n. reply hit e (child_replies hit (suc n) es)) (sym z)

  top_obligations : is d (reply hit e rs).decision ≡ true → obligations_from hit d 0 (true ∷ []) (e ∷ es) ≡ own
  top_obligations t =
      let o : compare e.depth 0 ≡ Ordering.eq = ap (λ n. compare n 0) z in
      rw (o, t, none_asked hit d es h) (append-nil own)

  -- which come where it is asked and gave that decision
  own_come : (b : Bool) → cond (b && is d (reply hit e rs).decision) own [] ≡ cond (b && is d (first_decision hit (e ∷ es))) (outcome_of hit (e ∷ es)).obligations []
  own_come b = go b (test (is d (reply hit e rs).decision))
    where
      alike : is d (reply hit e rs).decision ≡ is d (first_decision hit (e ∷ es))
      alike = ap (λ r. is d r.decision) top_reply

      go : (b : Bool) → Test (is d (reply hit e rs).decision) → cond (b && is d (reply hit e rs).decision) own [] ≡ cond (b && is d (first_decision hit (e ∷ es))) (outcome_of hit (e ∷ es)).obligations []
      go false t = refl
      go true (failed t) = let u : is d (first_decision hit (e ∷ es)) ≡ false = sym alike ∙ t in rw (t, u)
      go true (passed t) =
          let u : is d (first_decision hit (e ∷ es)) ≡ true = sym alike ∙ t in
          let i : d ≡ first_decision hit (e ∷ es) = same_decision d (first_decision hit (e ∷ es)) u in
          rw (t, u) (sym (top_obligations t) ∙ ap (λ x. obligations_from hit x 0 (true ∷ []) (e ∷ es)) i)

-- A whole file one deeper, with shallower elements behind it
module _ (hit deep : Element → Bool) where
  file_replies : (es xs more : List Element) → Rooted es → Paired (OneDeeper hit deep) es xs → Ends 2 more → child_replies deep 1 (xs ++ more) ≡ reply_by hit es ∷ child_replies deep 1 more
  file_replies [] xs more r a ends = absurd r
  file_replies (e ∷ es) [] more r a ends = absurd a
  file_replies (e ∷ es) (x ∷ xs) more (z, h) a ends =
      let o : compare x.depth 1 ≡ Ordering.eq = ap (λ n. compare n 1) (a.0.depth ∙ ap suc z) in
      let inner = replies_deeper hit deep 1 es xs more a.1 ends in
      rw (o, inner, skip_deeper hit deep es xs more a.1 h)
      (ap (λ y. y ∷ child_replies deep 1 more) (reply_deeper hit deep e x (child_replies hit 1 es) a.0 ∙ top_reply hit e es z h not_applicable))

  file_obligations : (es xs more : List Element) → Rooted es → Paired (OneDeeper hit deep) es xs → Ends 2 more → (d : Decision) (bs : List Bool)
      → obligations_from deep d 1 bs (xs ++ more) ≡ cond (is_next bs && is d (first_decision hit es)) (outcome_of hit es).obligations [] ++ obligations_from deep d 1 (drop 1 bs) more
  file_obligations [] xs more r a ends d bs = absurd r
  file_obligations (e ∷ es) [] more r a ends d bs = absurd a
  file_obligations (e ∷ es) (x ∷ xs) more (z, h) a ends d bs =
      let o : compare x.depth 1 ≡ Ordering.eq = ap (λ n. compare n 1) (a.0.depth ∙ ap suc z) in
      let inner = replies_deeper hit deep 1 es xs more a.1 ends in
      let below = obligations_deeper hit deep d 1 (asked e.word (child_replies hit 1 es)) es xs more a.1 ends in
      rw (o, inner, a.0.hits, a.0.word, own_deeper hit deep d e x a.0, below, skip_obligations hit deep d (drop 1 bs) es xs more a.1 h)
      (ap (λ y. y ++ obligations_from deep d 1 (drop 1 bs) more) (own_come hit e es z h d (is_next bs)))

  deeper_below : (es xs : List Element) → Paired (OneDeeper hit deep) es xs → Below xs
  deeper_below [] [] a = tt
  deeper_below [] (x ∷ xs) a = absurd a
  deeper_below (e ∷ es) [] a = absurd a
  deeper_below (e ∷ es) (x ∷ xs) a = (omega (arith, a.0.depth), deeper_below es xs a.1)

  shallow : (es xs : List Element) → Rooted es → Paired (OneDeeper hit deep) es xs → Ends 2 xs
  shallow [] xs r a = absurd r
  shallow (e ∷ es) [] r a = absurd a
  shallow (e ∷ es) (x ∷ xs) r a = omega (arith, a.0.depth, r.0)

-- which of two is asked, by places
next_first : (bs : List Bool) → is_next bs ≡ get_or bs 0 false
next_first [] = refl
next_first (b ∷ bs) = refl

next_second : (bs : List Bool) → is_next (drop 1 bs) ≡ get_or bs 1 false
next_second [] = refl
next_second (b ∷ []) = refl
next_second (b ∷ c ∷ bs) = refl

module _ (hit kit deep : Element → Bool) (es ds xs ys : List Element) (r : Rooted es) (s : Rooted ds) (a : Paired (OneDeeper hit deep) es xs) (b : Paired (OneDeeper kit deep) ds ys) where
  abbrev pub replies : List Reply
  replies = reply_by hit es ∷ reply_by kit ds ∷ []

  below_replies : child_replies deep 1 (xs ++ ys) ≡ replies
  below_replies =
      file_replies hit deep es xs ys r a (shallow kit deep ds ys s b)
      ∙ ap (λ l. reply_by hit es ∷ child_replies deep 1 l) (sym (append-nil ys))
      ∙ ap (λ l. reply_by hit es ∷ l) (file_replies kit deep ds ys [] s b tt)

  -- the obligations of each that is asked and gave that decision
  abbrev pub obligations_over : Decision → List Bool → Bytes
  obligations_over d bs =
      cond (get_or bs 0 false && is d (first_decision hit es)) (outcome_of hit es).obligations []
      ++ cond (get_or bs 1 false && is d (first_decision kit ds)) (outcome_of kit ds).obligations []

  below_obligations : (d : Decision) (bs : List Bool) → obligations_from deep d 1 bs (xs ++ ys) ≡ obligations_over d bs
  below_obligations d bs =
      file_obligations hit deep es xs ys r a (shallow kit deep ds ys s b) d bs
      ∙ ap (λ l. first (is_next bs) ++ obligations_from deep d 1 (drop 1 bs) l) (sym (append-nil ys))
      ∙ ap (λ l. first (is_next bs) ++ l) (file_obligations kit deep ds ys [] s b tt d (drop 1 bs) ∙ append-nil (second (is_next (drop 1 bs))))
      ∙ ap (λ c. first c ++ second (is_next (drop 1 bs))) (next_first bs)
      ∙ ap (λ c. first (get_or bs 0 false) ++ second c) (next_second bs)
    where
      first : Bool → Bytes
      first c = cond (c && is d (first_decision hit es)) (outcome_of hit es).obligations []

      second : Bool → Bytes
      second c = cond (c && is d (first_decision kit ds)) (outcome_of kit ds).obligations []

  module _ (root : Element) (z : root.depth ≡ 0) (t : deep root ≡ true) (bare : obligations_of root ≡ []) where
    pub set_decides : first_decision deep (root ∷ (xs ++ ys)) ≡ combined root.word replies
    set_decides = rw (t, z, below_replies)

    pub set_obligations : (outcome_of deep (root ∷ (xs ++ ys))).obligations ≡ obligations_over (first_decision deep (root ∷ (xs ++ ys))) (asked root.word replies)
    set_obligations =
        let d = first_decision deep (root ∷ (xs ++ ys)) in
        let deeper : Below (xs ++ ys) = all_append (λ x. 1 ≤ x.depth) xs ys (deeper_below hit deep es xs a) (deeper_below kit deep ds ys b) in
        let told : is d (reply deep root (child_replies deep 1 (xs ++ ys))).decision ≡ true = ap (λ x. is d x.decision) (top_reply deep root (xs ++ ys) z deeper d) ∙ decision_same d in
        top_obligations deep root (xs ++ ys) z deeper d told
        ∙ ap (λ l. l ++ obligations_from deep d 1 (asked root.word (child_replies deep 1 (xs ++ ys))) (xs ++ ys)) (no_own d root bare)
        ∙ ap (λ rs. obligations_from deep d 1 (asked root.word rs) (xs ++ ys)) below_replies
        ∙ below_obligations d (asked root.word replies)
