-- Which fields stand again behind, by sets of those passed.
use mathlib.Core.Path.{◌≡◌, refl, sym, ap, subst, ◌∙◌}
use mathlib.Core.Bool.{Bool, true, false, cond}
use mathlib.Core.List.{List, [], ◌∷◌, ◌++◌}
use Prim.Native.Nat.{ℕ, zero, suc, ◌-◌, ◌≤◌, ◌<◌}
use native.Mathlib.Omega.{arith}
use lib.ListN.{length, get_or, drop}
use lib.Dec.{eqb}
use borrow.Author.Tests.{eq-eqb}
use Rattle.meaning.specs.Text.{Bytes, among_names, repeated, cut, tab}
use Rattle.laws.proofs.Bools.{Test, passed, failed, test, contradiction, or_false}
use Rattle.repeats.specs.Marks.{hash_of, marked, with_mark, first_at, others_at, Kept, Caught, LastField, Passing}
use Rattle.repeats.proofs.Backward.{at_parts}
use Rattle.repeats.proofs.Marking.{kept_room, caught_room, mark_same, kept_more, caught_more, unmarked}

-- The fields behind a tab are the last ones of the text
data AfterTab (s : Bytes) (k : ℕ) : Type 0 where
  after : (p : Bytes) (ps : List Bytes) → cut tab s ≡ p ∷ (ps ++ cut tab (drop (suc k) s)) → AfterTab s k

after_tab : (s : Bytes) (k : ℕ) → k < length s → get_or s k 0 ≡ tab → AfterTab s k
after_tab [] k l e = absurd (omega arith)
after_tab (x ∷ s) zero l e = after [] [] (rw (eq-eqb x tab e))
after_tab (x ∷ s) (suc k) l e = go (test (eqb x tab)) (after_tab s k (omega arith) e)
  where
    go : Test (eqb x tab) → AfterTab s k → AfterTab (x ∷ s) (suc k)
    go (passed t) (after p ps q) = after [] (p ∷ ps) (rw (t, q))
    go (failed t) (after p ps q) = after (x ∷ p) ps (rw (t, q))

-- what the last fields keep of all
module _ (P : List Bytes → Type 0) (rest : (p : Bytes) (ps : List Bytes) → P (p ∷ ps) → P ps) where
  drops : (ps qs : List Bytes) → P (ps ++ qs) → P qs
  drops [] qs h = h
  drops (p ∷ ps) qs h = drops ps qs (rest p (ps ++ qs) h)

  from_start : (s : Bytes) (i : ℕ) → i ≤ length s → (0 < i → get_or s (i - 1) 0 ≡ tab) → P (cut tab s) → P (cut tab (drop i s))
  from_start s zero l t h = h
  from_start s (suc k) l t h =
      let place : suc k - 1 ≡ k = omega arith in
      go (after_tab s k (omega arith) (rw place at (t (omega arith))))
    where
      go : AfterTab s k → P (cut tab (drop (suc k) s))
      go (after p ps q) = drops (p ∷ ps) (cut tab (drop (suc k) s)) (subst P q h)

-- The field that ends at a place
module _ {s : Bytes} {end start h : ℕ} (l : LastField s end start h) (inside : end ≤ length s) where
  -- it stands again, so some field does
  pub again_repeated : among_names (first_at s start) (others_at s start) ≡ true → repeated (cut tab s) ≡ true
  again_repeated e = go (test (repeated (cut tab s)))
    where
      go : Test (repeated (cut tab s)) → repeated (cut tab s) ≡ true
      go (passed t) = t
      go (failed t) =
          let none = from_start (λ ps. repeated ps ≡ false) (λ p ps h. (or_false (among_names p ps) (repeated ps) h).1) s start (omega (arith, l.within)) l.before t in
          contradiction e (or_false (among_names (first_at s start) (others_at s start)) (repeated (others_at s start)) (rw (at_parts s start) at none)).0

  pub passing : (suspects ws : List ℕ) → Caught suspects (cut tab s) → Kept (marked suspects) ws (others_at s end) → Passing s start h suspects ws
  passing suspects ws caught kept =
      let from = rw (at_parts s start) at (from_start (Caught suspects) (λ p ps h. h.1) s start (omega (arith, l.within)) l.before caught) in
      record {
        within = omega (arith, l.within);
        hashed = l.hashed;
        kept = rw l.others kept;
        caught = λ a. ap (marked suspects) l.hashed ∙ from.0 a;
      }

  pub none_more : among_names (first_at s start) (others_at s start) ≡ false → repeated (others_at s end) ≡ false → repeated (cut tab (drop start s)) ≡ false
  none_more e f = rw (at_parts s start, e, l.others) f

-- A field passed: h is its hash, and it stands before fs
module _ (ws : List ℕ) (f : Bytes) (fs : List Bytes) (h : ℕ) (hashed : h ≡ hash_of f) where
  own_mark : length ws ≡ 256 → marked (with_mark ws h) (hash_of f) ≡ true
  own_mark room = subst (λ k. marked (with_mark ws h) k ≡ true) hashed (mark_same ws h room)

  pub kept_step : (t : ℕ → Bool) → Kept t ws fs → Kept t (with_mark ws h) (f ∷ fs)
  kept_step t kept = let room = kept_room t ws fs kept in ((λ e. own_mark room), kept_more ws h room t fs kept)

  -- a suspect if it has a mark among those passed
  pub caught_step : (passing : List ℕ) → Kept (λ k. true) passing fs → Caught ws fs → Caught (cond (marked passing h) (with_mark ws h) ws) (f ∷ fs)
  caught_step passing kept caught = go (marked passing h) refl
    where
      go : (b : Bool) → marked passing h ≡ b → Caught (cond b (with_mark ws h) ws) (f ∷ fs)
      go true e = let room = caught_room ws fs caught in ((λ a. own_mark room), caught_more ws h room fs caught)
      go false e = ((λ a. contradiction a (unmarked (λ k. true) passing f fs kept refl (ap (marked passing) (sym hashed) ∙ e))), caught)

-- A field to pass that no mark shows to stand again
module _ {s : Bytes} {at h : ℕ} {suspects passing : List ℕ} (p : Passing s at h suspects passing) where
  pub no_suspect : marked suspects h ≡ false → among_names (first_at s at) (others_at s at) ≡ false
  no_suspect e = go (test (among_names (first_at s at) (others_at s at)))
    where
      go : Test (among_names (first_at s at) (others_at s at)) → among_names (first_at s at) (others_at s at) ≡ false
      go (passed a) = contradiction (p.caught a) e
      go (failed a) = a

  pub no_suspect_kept : marked suspects h ≡ false → Kept (marked suspects) passing (first_at s at ∷ others_at s at)
  no_suspect_kept e = ((λ a. contradiction (ap (marked suspects) p.hashed ∙ a) e), p.kept)

  pub no_mark : marked suspects h ≡ true → marked passing h ≡ false → among_names (first_at s at) (others_at s at) ≡ false
  no_mark i e = unmarked (marked suspects) passing (first_at s at) (others_at s at) p.kept (ap (marked suspects) (sym p.hashed) ∙ i) (ap (marked passing) (sym p.hashed) ∙ e)

  pub mark_kept : Kept (marked suspects) (with_mark passing h) (first_at s at ∷ others_at s at)
  mark_kept = kept_step passing (first_at s at) (others_at s at) h p.hashed (marked suspects) p.kept
