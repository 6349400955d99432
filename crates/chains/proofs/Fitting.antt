-- Who is asked, by the meaning's list and by a test that goes from child to child: both mark the same children.
use mathlib.Core.Path.{◌≡◌, refl, sym}
use Prim.Native.Nat.{ℕ, compare, Ordering}
use mathlib.Core.Bool.{Bool, true, false, not, cond, ◌&&◌, or-false}
use mathlib.Core.List.{List, [], ◌∷◌, map}
use lib.ListN.{drop}
use Rattle.meaning.specs.Text.{keep}
use Rattle.meaning.specs.Deciding.{is, Reply, combined, reply, only_one, child_replies, up_to, if_sole, asked, is_next}
use Rattle.laws.proofs.Types.{Word, Decision, not_applicable, indeterminate, Element}
use Rattle.laws.proofs.Bools.{Test, passed, failed, test, contradiction}
use Rattle.laws.proofs.Outcomes.{decision_same}
use Rattle.chains.specs.Chain.{alike, asks, settles}
use Rattle.chains.proofs.Places.{idle}

-- a child that does not match gives not-applicable
abbrev Honest : List Reply → Type 0
Honest [] = Unit {0}
Honest (r ∷ rs) = (r.matched ≡ false → r.decision ≡ not_applicable) × Honest rs

pub honest : (hit : Element → Bool) (k : ℕ) (es : List Element) → Honest (child_replies hit k es)
honest hit k [] = tt
honest hit k (e ∷ es) = go (compare e.depth k) refl (honest hit k es)
  where
    go : (o : Ordering) → compare e.depth k ≡ o → Honest (child_replies hit k es) → Honest (child_replies hit k (e ∷ es))
    go Ordering.lt o later = rw o tt
    go Ordering.eq o later = rw o ((λ off. rw off), later)
    go Ordering.gt o later = rw o later

module _ (d : Decision) where
  -- of these children, those that `bs` asks and that give d are those that the test b, going on from child to child, asks and that give permit or deny as d does
  abbrev pub Fits : List Bool → Word → Bool → List Reply → Type 0
  Fits bs w b [] = Unit {0}
  Fits bs w b (r ∷ rs) = ((is_next bs && is d r.decision) ≡ ((b && asks w) && alike d r.decision)) × Fits (drop 1 bs) w (b && not (settles w r.decision)) rs

  pub fits_none : (w : Word) (b : Bool) (rs : List Reply) → (b && asks w) ≡ false → Fits [] w b rs
  fits_none w b [] e = tt
  fits_none w b (r ∷ rs) e = (rw e, fits_none w (b && not (settles w r.decision)) rs (idle b (not (settles w r.decision)) (asks w) e))

unlike_none : (d : Decision) → alike d not_applicable ≡ false
unlike_none Decision.Permit = refl
unlike_none Decision.Deny = refl
unlike_none not_applicable = refl
unlike_none indeterminate = refl

unlike_unsettled : (d : Decision) → alike d indeterminate ≡ false
unlike_unsettled Decision.Permit = refl
unlike_unsettled Decision.Deny = refl
unlike_unsettled not_applicable = refl
unlike_unsettled indeterminate = refl

-- d is permit or deny
is_alike : (d e f : Decision) → alike d f ≡ true → is d e ≡ alike d e
is_alike Decision.Permit e f h = sym (or-false (is Decision.Permit e))
is_alike Decision.Deny e f h = refl
is_alike not_applicable e f h = contradiction h refl
is_alike indeterminate e f h = contradiction h refl

-- The answer f is the decision d, permit or deny
module _ (d f : Decision) (same : alike d f ≡ true) where
  fits_up : (w : Word) → asks w ≡ true → (rs : List Reply) → Fits d (up_to (settles w) rs) w true rs
  fits_up w a [] = tt
  fits_up w a (r ∷ rs) = (rw a (is_alike d r.decision f same), go (test (settles w r.decision)) (fits_up w a rs))
    where
      go : Test (settles w r.decision) → Fits d (up_to (settles w) rs) w true rs → Fits d (cond (settles w r.decision) [] (up_to (settles w) rs)) w (not (settles w r.decision)) rs
      go (passed e) later = rw e (fits_none d w false rs refl)
      go (failed e) later = rw e later

  fits_matched : (rs : List Reply) → Honest rs → Fits d (map (λ r. r.matched) rs) Word.OnlyOneApplicable true rs
  fits_matched [] h = tt
  fits_matched (r ∷ rs) h = (go (test r.matched), fits_matched rs h.1)
    where
      go : Test r.matched → (r.matched && is d r.decision) ≡ alike d r.decision
      go (passed e) = rw e (is_alike d r.decision f same)
      go (failed e) = rw (e, h.0 e) (sym (unlike_none d))

fits_sole : (d : Decision) (rs ms : List Reply) (bs : List Bool) → alike d (only_one ms) ≡ true → Fits d bs Word.OnlyOneApplicable true rs → Fits d (if_sole ms bs) Word.OnlyOneApplicable true rs
fits_sole d rs [] bs h fits = contradiction h (unlike_none d)
fits_sole d rs (m ∷ []) bs h fits = fits
fits_sole d rs (m ∷ l ∷ ms) bs h fits = contradiction h (unlike_unsettled d)

pub fits_asked : (d : Decision) (w : Word) (rs : List Reply) → Honest rs → alike d (combined w rs) ≡ true → Fits d (asked w rs) w true rs
fits_asked d Word.Permit rs h same = fits_none d Word.Permit true rs refl
fits_asked d Word.Deny rs h same = fits_none d Word.Deny true rs refl
fits_asked d Word.DenyOverrides rs h same = fits_up d (combined Word.DenyOverrides rs) same Word.DenyOverrides refl rs
fits_asked d Word.PermitOverrides rs h same = fits_up d (combined Word.PermitOverrides rs) same Word.PermitOverrides refl rs
fits_asked d Word.FirstApplicable rs h same = fits_up d (combined Word.FirstApplicable rs) same Word.FirstApplicable refl rs
fits_asked d Word.OnlyOneApplicable rs h same = fits_sole d rs (keep (λ r. r.matched) rs) (map (λ r. r.matched) rs) same (fits_matched d (combined Word.OnlyOneApplicable rs) same rs h)

-- an element that gives d, permit or deny, matches, and its children are asked so
pub fits_below : (hit : Element → Bool) (d : Decision) (e : Element) (rs : List Reply) → Honest rs → alike d (reply hit e rs).decision ≡ true → Fits d (asked e.word rs) e.word true rs
fits_below hit d e rs h same = go (test (hit e))
  where
    go : Test (hit e) → Fits d (asked e.word rs) e.word true rs
    go (passed on) = fits_asked d e.word rs h (rw on at same)
    go (failed off) = let none : alike d not_applicable ≡ true = rw off at same in contradiction none (unlike_none d)

-- the first element is asked alone, where it gives permit or deny
decided_settles : (d : Decision) → alike d d ≡ true → settles Word.FirstApplicable d ≡ true
decided_settles Decision.Permit h = refl
decided_settles Decision.Deny h = refl
decided_settles not_applicable h = contradiction h refl
decided_settles indeterminate h = contradiction h refl

pub fits_first : (r : Reply) (rs : List Reply) → alike r.decision r.decision ≡ true → Fits r.decision (true ∷ []) Word.FirstApplicable (alike r.decision r.decision) (r ∷ rs)
fits_first r rs h =
    let d = r.decision in
    (rw (decision_same d, h), fits_none d Word.FirstApplicable (alike d d && not (settles Word.FirstApplicable d)) rs (rw (decided_settles d h, h)))
