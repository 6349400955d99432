-- Each element gives what the standard gives on its children.
use mathlib.Core.Path.{◌≡◌, refl, sym, ap, ap₂, ◌∙◌}
use Prim.Native.Nat.{ℕ, zero, suc, ◌<◌}
use native.Mathlib.Omega.{arith}
use mathlib.Core.Bool.{Bool, false, cond}
use mathlib.Core.List.{List, [], ◌∷◌, map, Memᴰ}
use mathlib.Core.Option.{some}
use lib.ListN.{length, get_or, drop}
use Rattle.meaning.specs.Text.{Bytes}
use Rattle.meaning.specs.Model.{Policy, given}
use Rattle.meaning.specs.Reading.{read}
use Rattle.meaning.specs.Deciding.{combined, child_replies, first_decision, hits}
use Rattle.meaning.specs.Claims.Standard.{standard}
use Rattle.meaning.specs.Segments.{depth_at, children_of, decision_at}
use Rattle.meaning.specs.Claims.Deciding.{reply_at, Standardly}
use Rattle.laws.proofs.Types.{Element, Word, not_applicable}
use Rattle.laws.proofs.Bools.{never}
use Rattle.laws.proofs.Lists.{map_map}
use Rattle.laws.proofs.Search.{some_some}
use Rattle.laws.proofs.Standard.{combined_standard}
use Rattle.laws.proofs.Children.{reply_of, child_only, accepted_steps, children_asked}

-- an element and its reply, at its place
module _ (hit : Element → Bool) where
  reply_at_lem : (es : List Element) (j : ℕ) → j < length es → reply_of hit (drop j es) ≡ some (record { matched = get_or (map hit es) j false; decision = first_decision hit (drop j es) })
  reply_at_lem [] j l = absurd (omega arith)
  reply_at_lem (e ∷ es) zero l = refl
  reply_at_lem (e ∷ es) (suc j) l = reply_at_lem es j (omega arith)

  decision_at_lem : (es : List Element) (i : ℕ) → i < length es → first_decision hit (drop i es)
      ≡ cond (get_or (map hit es) i false) (combined (get_or (map (λ e. e.word) es) i Word.Permit) (child_replies hit (suc (depth_at es i)) (drop (suc i) es))) not_applicable
  decision_at_lem [] i l = absurd (omega arith)
  decision_at_lem (e ∷ es) zero l = refl
  decision_at_lem (e ∷ es) (suc i) l = decision_at_lem es i (omega arith)

map_some : {A : Type 0} (xs ys : List A) → map some xs ≡ map some ys → xs ≡ ys
map_some [] [] h = refl
map_some [] (y ∷ ys) h = never cc
map_some (x ∷ xs) [] h = never cc
map_some (x ∷ xs) (y ∷ ys) h = let a : some x ≡ some y = cc in let b : map some xs ≡ map some ys = cc in ap₂ (λ z zs. z ∷ zs) (some_some a) (map_some xs ys b)

pub map_each : {A B : Type 0} (f g : A → B) (xs : List A) → ((x : A) → Memᴰ x xs → f x ≡ g x) → map f xs ≡ map g xs
map_each f g [] h = refl
map_each f g (x ∷ xs) h = ap₂ (λ y ys. y ∷ ys) (h x (Memᴰ.head refl)) (map_each f g xs (λ y m. h y (Memᴰ.tail m)))

pub replies : (f : Bytes) (p : Policy) → read f ≡ given p → (n i : ℕ) → i < length p.elements
    → child_replies (hits p n) (suc (depth_at p.elements i)) (drop (suc i) p.elements) ≡ map (reply_at p n) (children_of p.elements i)
replies f p h n i l =
    let es = p.elements in
    map_some _ _ (children_asked es (accepted_steps f p h) (hits p n) i l
    ∙ map_each (λ j. reply_of (hits p n) (drop j es)) (λ j. some (reply_at p n j)) (children_of es i) (λ j m. reply_at_lem (hits p n) es j (child_only es i j m).0)
    ∙ sym (map_map some (reply_at p n) (children_of es i)))

pub standardly : (f : Bytes) (p : Policy) → read f ≡ given p → Standardly p
standardly f p h = record { each_element = each; of_first = λ n. refl; gets = λ n. refl }
  where
    each : (n i : ℕ) → i < length p.elements → decision_at p n i
        ≡ cond (get_or (map (hits p n) p.elements) i false) (standard (get_or (map (λ e. e.word) p.elements) i Word.Permit) (map (reply_at p n) (children_of p.elements i))) not_applicable
    each n i l =
        let w = get_or (map (λ e. e.word) p.elements) i Word.Permit in
        decision_at_lem (hits p n) p.elements i l ∙ ap (λ d. cond (get_or (map (hits p n) p.elements) i false) d not_applicable) (ap (combined w) (replies f p h n i l) ∙ combined_standard w (map (reply_at p n) (children_of p.elements i)))
