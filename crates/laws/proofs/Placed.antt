-- Place and parent, as the tests have them and as the paper says them.
use mathlib.Core.Path.{◌≡◌, refl, sym, ap, subst}
use mathlib.Core.Logic.{◌≢◌}
use Prim.Native.Nat.{ℕ, zero, suc, ◌≤◌}
use native.Mathlib.Omega.{arith}
use mathlib.Core.Bool.{true, ◌&&◌}
use mathlib.Core.List.{List, [], ◌∷◌, ◌++◌}
use lib.Dec.{eqb, leb}
use borrow.Author.Tests.{leb-true, le-leb, eqb-true, eqb-false, eq-eqb, ne_eqb}
use Rattle.meaning.specs.Reading.{may_hold, parent_holds, well_placed}
use Rattle.meaning.specs.Claims.Texts.{All}
use Rattle.meaning.specs.Claims.PolicyFile.{parent_kind, HasParent, PlacedAt}
use Rattle.laws.proofs.Types.{Kind, set, policy, rule, Element}
use Rattle.laws.proofs.Bools.{Test, passed, failed, test, contradiction, and_true, never}

-- Kinds
may_hold_lem : (k : Kind) → may_hold (parent_kind k) k ≡ true
may_hold_lem set = refl
may_hold_lem policy = refl
may_hold_lem rule = refl

holds_kind : (h k : Kind) → may_hold h k ≡ true → h ≡ parent_kind k
holds_kind set set e = refl
holds_kind set policy e = refl
holds_kind set rule e = contradiction e refl
holds_kind policy set e = contradiction e refl
holds_kind policy policy e = contradiction e refl
holds_kind policy rule e = refl
holds_kind rule k e = contradiction e refl

-- Parents
parent_holds_lem : (m : ℕ) (k : Kind) (nearer : List Element) (parent : Element) (farther : List Element) → All (λ x. suc x.depth ≢ suc m) nearer → suc parent.depth ≡ suc m → parent.kind ≡ parent_kind k
    → parent_holds m k (nearer ++ (parent ∷ farther)) ≡ true
parent_holds_lem m k [] parent farther n d e = rw (eq-eqb parent.depth m (omega arith), e) (may_hold_lem k)
parent_holds_lem m k (x ∷ nearer) parent farther n d e = rw (ne_eqb x.depth m (λ i. n.0 (ap suc i))) (parent_holds_lem m k nearer parent farther n.1 d e)

holds_parent : (m : ℕ) (k : Kind) (before : List Element) → parent_holds m k before ≡ true → HasParent before k (suc m)
holds_parent m k [] h = contradiction h refl
holds_parent m k (x ∷ xs) h = go (test (eqb x.depth m)) (holds_parent m k xs)
  where
    go : Test (eqb x.depth m) → (parent_holds m k xs ≡ true → HasParent xs k (suc m)) → HasParent (x ∷ xs) k (suc m)
    go (passed e) later = record { nearer = []; parent = x; farther = xs; among = refl; nearest = tt; one_less = ap suc (eqb-true x.depth m e); right_kind = holds_kind x.kind k (rw e at h) }
    go (failed e) later =
        let p = later (rw e at h) in
        let other : suc x.depth ≢ suc m = λ i. eqb-false x.depth m e (omega arith) in
        record { nearer = x ∷ p.nearer; parent = p.parent; farther = p.farther; among = ap (λ zs. x ∷ zs) p.among; nearest = (other, p.nearest); one_less = p.one_less; right_kind = p.right_kind }

-- Places
first_placed : (k : Kind) (d : ℕ) → d ≡ 0 → k ≢ rule → well_placed k d [] ≡ true
first_placed set zero e n = refl
first_placed policy zero e n = refl
first_placed rule zero e n = absurd (n refl)
first_placed k (suc d) e n = absurd (omega arith)

placed_first : (k : Kind) (d : ℕ) → well_placed k d [] ≡ true → (d ≡ 0) × (k ≢ rule)
placed_first set zero h = (refl, λ e. never cc)
placed_first policy zero h = (refl, λ e. never cc)
placed_first rule zero h = contradiction h refl
placed_first k (suc d) h = contradiction h refl

pub placed_well : (before : List Element) (k : Kind) (d : ℕ) → d ≤ 7 → PlacedAt before k d → well_placed k d before ≡ true
placed_well [] k d l p = first_placed k d p.0 p.1
placed_well (e ∷ before) k zero l p = absurd (omega (arith, p.0))
placed_well (e ∷ before) k (suc m) l p =
    let h = p.2 in
    let holds : parent_holds m k (e ∷ before) ≡ true = subst (λ b. parent_holds m k b ≡ true) (sym h.among) (parent_holds_lem m k h.nearer h.parent h.farther h.nearest h.one_less h.right_kind) in
    rw (le-leb (suc m) 7 (omega arith), le-leb m e.depth (omega (arith, p.1))) holds

pub well_placed_lem : (before : List Element) (k : Kind) (d : ℕ) → well_placed k d before ≡ true → PlacedAt before k d
well_placed_lem [] k d h = placed_first k d h
well_placed_lem (e ∷ before) k zero h = contradiction h refl
well_placed_lem (e ∷ before) k (suc m) h =
    let (near, holds) = and_true (leb (suc m) 7 && leb m e.depth) (parent_holds m k (e ∷ before)) h in
    let step = leb-true m e.depth (and_true (leb (suc m) 7) (leb m e.depth) near).1 in
    (omega arith, omega arith, holds_parent m k (e ∷ before) holds)
