-- A mark for each element, in file order: whether it, with every element above it, was asked and gave the decision.
use mathlib.Core.Path.{◌≡◌, refl, sym, ap, ap₂, ◌∙◌, subst}
use Prim.Native.Nat.{ℕ, suc, ◌≤◌, ◌<◌, compare, Ordering}
use native.Mathlib.Omega.{arith}
use mathlib.Core.Bool.{Bool, true, false, cond, ◌&&◌, ◌||◌}
use mathlib.Core.List.{List, [], ◌∷◌, ◌++◌, append_assoc}
use lib.ListN.{length, drop}
use lib.Dec.{compare_is_eq, is_le}
use borrow.Author.Tests.{eqb-true, leb-true, leb-false}
use Rattle.laws.proofs.Types.{Decision, Element}
use Rattle.meaning.specs.Text.{Bytes}
use Rattle.meaning.specs.Deciding.{is, reply, child_replies, asked, is_next, by_order, own_obligations, obligations_from}
use Rattle.laws.proofs.Bools.{or_none_lem}

-- no mark
abbrev pub nones : List Element → List Bool
nones [] = []
nones (e ∷ es) = false ∷ nones es

-- marked here or there
abbrev pub either : List Bool → List Bool → List Bool
either [] ys = ys
either (x ∷ xs) [] = x ∷ xs
either (x ∷ xs) (y ∷ ys) = (x || y) ∷ either xs ys

-- the marks of decision d, of the children at depth k of which bs says who is asked, and of those below each that is marked
abbrev pub chain_from : (Element → Bool) → Decision → ℕ → List Bool → List Element → List Bool
chain_from hit d k bs [] = []
chain_from hit d k bs (e ∷ es) =
    let rs = child_replies hit (suc k) es in
    let given = is_next bs && is d (reply hit e rs).decision in
    let below = cond given (chain_from hit d (suc k) (asked e.word rs) es) (nones es) in
    let child = given ∷ either below (chain_from hit d k (drop 1 bs) es) in
    let later = false ∷ chain_from hit d k bs es in
    by_order (compare e.depth k) (false ∷ nones es) child later

-- the obligations of the elements that are marked
abbrev pub marked : Decision → List Bool → List Element → Bytes
marked d [] es = []
marked d (b ∷ bs) [] = []
marked d (b ∷ bs) (e ∷ es) = cond b (own_obligations d e) [] ++ marked d bs es

marked_none : (d : Decision) (es : List Element) → marked d (nones es) es ≡ []
marked_none d [] = refl
marked_none d (e ∷ es) = marked_none d es

marked_either : (d : Decision) (es : List Element) (ys : List Bool) → marked d (either (nones es) ys) es ≡ marked d ys es
marked_either d [] [] = refl
marked_either d [] (y ∷ ys) = refl
marked_either d (e ∷ es) [] = marked_none d es
marked_either d (e ∷ es) (y ∷ ys) = ap (λ t. cond y (own_obligations d e) [] ++ t) (marked_either d es ys)

-- marks among what is deeper than k, and marks behind it
pub data Inner (k : ℕ) : List Bool → List Element → Type 0 where
  in_none : (es : List Element) → Inner k (nones es) es
  in_deeper : (b : Bool) (bs : List Bool) (e : Element) (es : List Element) → k < e.depth → Inner k bs es → Inner k (b ∷ bs) (e ∷ es)

pub data Outer (k : ℕ) : List Bool → List Element → Type 0 where
  out_end : Outer k [] []
  out_any : (bs : List Bool) (e : Element) (es : List Element) → e.depth ≤ k → Outer k bs (e ∷ es)
  out_deeper : (bs : List Bool) (e : Element) (es : List Element) → k < e.depth → Outer k bs es → Outer k (false ∷ bs) (e ∷ es)

either_none : (k : ℕ) {ys : List Bool} {es : List Element} → Inner k ys es → either (nones es) ys ≡ ys
either_none k (in_none es) = go es
  where
    go : (es : List Element) → either (nones es) (nones es) ≡ nones es
    go [] = refl
    go (e ∷ es) = ap (λ l. false ∷ l) (go es)
either_none k (in_deeper b bs e es l i) = ap (λ l. b ∷ l) (either_none k i)

inner_either : (k : ℕ) {xs ys : List Bool} {es : List Element} → Inner k xs es → Inner k ys es → Inner k (either xs ys) es
inner_either k {ys = ys} (in_none es) j = subst (λ l. Inner k l es) (sym (either_none k j)) j
inner_either k {ys = ys} (in_deeper b bs e es l i) j = go j (λ zs m. inner_either k i m)
  where
    go : {ys : List Bool} → Inner k ys (e ∷ es) → ((zs : List Bool) → Inner k zs es → Inner k (either bs zs) es) → Inner k (either (b ∷ bs) ys) (e ∷ es)
    go (in_none _) more = in_deeper (b || false) (either bs (nones es)) e es l (more (nones es) (in_none es))
    go (in_deeper c cs _ _ m n) more = in_deeper (b || c) (either bs cs) e es l (more cs n)

merged : (d : Decision) (k : ℕ) {xs ys : List Bool} {es : List Element} → Inner k xs es → Outer k ys es → marked d (either xs ys) es ≡ marked d xs es ++ marked d ys es
merged d k {ys = ys} (in_none es) o = marked_either d es ys ∙ ap (λ t. t ++ marked d ys es) (sym (marked_none d es))
merged d k {ys = ys} (in_deeper b bs e es l i) o = go o (λ zs m. merged d k i m)
  where
    go : {ys : List Bool} → Outer k ys (e ∷ es) → ((zs : List Bool) → Outer k zs es → marked d (either bs zs) es ≡ marked d bs es ++ marked d zs es)
        → marked d (either (b ∷ bs) ys) (e ∷ es) ≡ marked d (b ∷ bs) (e ∷ es) ++ marked d ys (e ∷ es)
    go (out_any cs _ _ low) more = absurd (omega arith)
    go (out_deeper cs _ _ m n) more =
        ap₂ (λ c t. cond c (own_obligations d e) [] ++ t) (or_none_lem b) (more cs n)
        ∙ sym (append_assoc (cond b (own_obligations d e) []) (marked d bs es) (marked d cs es))

module _ (hit : Element → Bool) (d : Decision) where
  pub chain_inner : (k m : ℕ) (bs : List Bool) (es : List Element) → k < m → Inner k (chain_from hit d m bs es) es
  chain_inner k m bs [] l = in_none []
  chain_inner k m bs (e ∷ es) l =
      go (compare e.depth m) refl (λ cs. chain_inner k m cs es l) (λ cs. chain_inner k (suc m) cs es (omega arith))
    where
      go : (o : Ordering) → compare e.depth m ≡ o → ((cs : List Bool) → Inner k (chain_from hit d m cs es) es) → ((cs : List Bool) → Inner k (chain_from hit d (suc m) cs es) es) → Inner k (chain_from hit d m bs (e ∷ es)) (e ∷ es)
      go Ordering.lt o same below = rw o (in_none (e ∷ es))
      go Ordering.eq o same below =
          let i : e.depth ≡ m = eqb-true e.depth m (ap compare_is_eq o) in
          let cs = asked e.word (child_replies hit (suc m) es) in
          rw o (in_deeper _ _ e es (omega arith) (inner_either k (pick (is_next bs && is d (reply hit e (child_replies hit (suc m) es)).decision) (below cs)) (same (drop 1 bs))))
        where
          pick : (b : Bool) {xs : List Bool} → Inner k xs es → Inner k (cond b xs (nones es)) es
          pick true x = x
          pick false x = in_none es
      go Ordering.gt o same below = rw o (in_deeper false _ e es (omega (arith, leb-false e.depth m (ap is_le o))) (same bs))

  pub chain_outer : (k : ℕ) (bs : List Bool) (es : List Element) → Outer k (chain_from hit d k bs es) es
  chain_outer k bs [] = out_end
  chain_outer k bs (e ∷ es) = go (compare e.depth k) refl (chain_outer k bs es)
    where
      go : (o : Ordering) → compare e.depth k ≡ o → Outer k (chain_from hit d k bs es) es → Outer k (chain_from hit d k bs (e ∷ es)) (e ∷ es)
      go Ordering.lt o more = out_any _ e es (leb-true e.depth k (ap is_le o))
      go Ordering.eq o more = let i : e.depth ≡ k = eqb-true e.depth k (ap compare_is_eq o) in out_any _ e es (omega arith)
      go Ordering.gt o more = rw o (out_deeper _ e es (leb-false e.depth k (ap is_le o)) more)

  -- The obligations that come are those of the marked elements
  pub chain_obligations : (k : ℕ) (bs : List Bool) (es : List Element) → obligations_from hit d k bs es ≡ marked d (chain_from hit d k bs es) es
  chain_obligations k bs [] = refl
  chain_obligations k bs (e ∷ es) = go (compare e.depth k) refl (chain_obligations k bs es) (chain_obligations k (drop 1 bs) es) (chain_obligations (suc k) (asked e.word (child_replies hit (suc k) es)) es)
    where
      go : (o : Ordering) → compare e.depth k ≡ o → obligations_from hit d k bs es ≡ marked d (chain_from hit d k bs es) es
          → obligations_from hit d k (drop 1 bs) es ≡ marked d (chain_from hit d k (drop 1 bs) es) es
          → obligations_from hit d (suc k) (asked e.word (child_replies hit (suc k) es)) es ≡ marked d (chain_from hit d (suc k) (asked e.word (child_replies hit (suc k) es)) es) es
          → obligations_from hit d k bs (e ∷ es) ≡ marked d (chain_from hit d k bs (e ∷ es)) (e ∷ es)
      go Ordering.lt o here after below = rw o (sym (marked_none d es))
      go Ordering.eq o here after below = rw o (both (is_next bs && is d (reply hit e (child_replies hit (suc k) es)).decision))
        where
          both : (g : Bool) → cond g (own_obligations d e ++ obligations_from hit d (suc k) (asked e.word (child_replies hit (suc k) es)) es) [] ++ obligations_from hit d k (drop 1 bs) es
              ≡ cond g (own_obligations d e) [] ++ marked d (either (cond g (chain_from hit d (suc k) (asked e.word (child_replies hit (suc k) es)) es) (nones es)) (chain_from hit d k (drop 1 bs) es)) es
          both true =
              ap₂ (λ x y. (own_obligations d e ++ x) ++ y) below after
              ∙ append_assoc (own_obligations d e) (marked d (chain_from hit d (suc k) (asked e.word (child_replies hit (suc k) es)) es) es) (marked d (chain_from hit d k (drop 1 bs) es) es)
              ∙ ap (λ t. own_obligations d e ++ t) (sym (merged d k (chain_inner k (suc k) (asked e.word (child_replies hit (suc k) es)) es (omega arith)) (chain_outer k (drop 1 bs) es)))
          both false = after ∙ sym (marked_either d es (chain_from hit d k (drop 1 bs) es))
      go Ordering.gt o here after below = rw o here

  -- a mark for each element
  pub chain_length : (k : ℕ) (bs : List Bool) (es : List Element) → length (chain_from hit d k bs es) ≡ length es
  chain_length k bs [] = refl
  chain_length k bs (e ∷ es) = go (compare e.depth k) refl (λ n cs. chain_length n cs es)
    where
      nones_length : (es : List Element) → length (nones es) ≡ length es
      nones_length [] = refl
      nones_length (e ∷ es) = ap suc (nones_length es)

      either_length : (xs ys : List Bool) → length xs ≡ length ys → length (either xs ys) ≡ length ys
      either_length [] ys l = refl
      either_length (x ∷ xs) [] l = l
      either_length (x ∷ xs) (y ∷ ys) l = ap suc (either_length xs ys (omega (arith, l)))

      pick : (b : Bool) (xs : List Bool) → length xs ≡ length es → length (cond b xs (nones es)) ≡ length es
      pick true xs l = l
      pick false xs l = nones_length es

      go : (o : Ordering) → compare e.depth k ≡ o → ((n : ℕ) (cs : List Bool) → length (chain_from hit d n cs es) ≡ length es) → length (chain_from hit d k bs (e ∷ es)) ≡ suc (length es)
      go Ordering.lt o more = rw o (ap suc (nones_length es))
      go Ordering.eq o more =
          let own = chain_from hit d (suc k) (asked e.word (child_replies hit (suc k) es)) es in
          let g = is_next bs && is d (reply hit e (child_replies hit (suc k) es)).decision in
          let later = more k (drop 1 bs) in
          rw o (ap suc (either_length (cond g own (nones es)) (chain_from hit d k (drop 1 bs) es) (pick g own (more (suc k) (asked e.word (child_replies hit (suc k) es))) ∙ sym later) ∙ later))
      go Ordering.gt o more = rw o (ap suc (more k bs))
