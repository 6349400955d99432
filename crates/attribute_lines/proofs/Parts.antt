-- Where the fields of a line stand in the file.
use Prim.Native.Nat.{ℕ, suc, ◌+◌, ◌-◌, ◌≤◌, ◌<◌}
use mathlib.Core.Path.{◌≡◌, sym, ap, ◌∙◌, subst}
use mathlib.Core.List.{List, [], ◌∷◌, ◌++◌}
use native.Mathlib.Omega.{arith}
use lib.ListN.{length, take, drop, get_or, length-append, length-drop}
use lib.Seq.{length-take-le, take-append_seam, drop-append-add, take-take, take-add, drop_at, drop-drop, get_or-take, get_or-drop}
use Rattle.meaning.specs.Text.{Bytes, cut, join, tab, newline}
use Rattle.laws.proofs.Text.{Frees, join_cut, cut_join, cut_frees}
use Rattle.layout.specs.Places.{part, line_start}
use Rattle.attribute_lines.specs.Steps.{EndedLine}
use Rattle.attribute_lines.specs.declared.State.{State}

-- A part of a part, from its start and up to its end
module _ (f : Bytes) (at end n : ℕ) (short : at + n ≤ end) where
  pub part_front : take n (part f at end) ≡ part f at (at + n)
  part_front =
      let here : at + n - at ≡ n = omega arith in
      take-take n (end - at) (drop at f) (omega arith) ∙ rw here

  pub part_back : end ≤ length f → drop n (part f at end) ≡ part f (at + n) end
  part_back inside =
      let size : end - at ≡ n + (end - (at + n)) = omega arith in
      let front : length (take n (drop at f)) ≡ n = length-take-le n (drop at f) (omega (arith, length-drop at f)) in
      ap (λ m. drop n (take m (drop at f))) size
      ∙ ap (drop n) (take-add n (end - (at + n)) (drop at f))
      ∙ drop_at (take n (drop at f)) (take (end - (at + n)) (drop n (drop at f))) n front
      ∙ rw (drop-drop n at f)

pub part_length : (f : Bytes) (at end : ℕ) → end ≤ length f → length (part f at end) ≡ end - at
part_length f at end inside = length-take-le (end - at) (drop at f) (omega (arith, length-drop at f))

pub first_byte : (f : Bytes) (a b : ℕ) → a < b → get_or (part f a b) 0 0 ≡ get_or f a 0
first_byte f a b l = get_or-take (b - a) (drop a f) 0 0 (omega arith) ∙ get_or-drop a f 0 0 ∙ ap (λ m. get_or f m 0) (omega arith)

-- A field that starts at `at`, and the fields behind it up to `end`
pub record FieldAt (f : Bytes) (at end : ℕ) (field : Bytes) (others : List Bytes) : Type 0 where
  pub here : part f at (at + length field) ≡ field
  pub behind : cut tab (part f (at + length field + 1) end) ≡ others
  pub within : at + length field < end

pub field_at_lem : (f : Bytes) (at end : ℕ) (p : Bytes) (ps : List Bytes) → end ≤ length f → 1 ≤ length ps → cut tab (part f at end) ≡ p ∷ ps → FieldAt f at end p ps
field_at_lem f at end p [] inside some e = absurd (omega arith)
field_at_lem f at end p (q ∷ qs) inside some e =
    let others = join tab (q ∷ qs) in
    let text : part f at end ≡ p ++ tab ∷ others = sym (join_cut tab (part f at end)) ∙ ap (join tab) e in
    let frees : Frees tab (p ∷ q ∷ qs) = subst (Frees tab) e (cut_frees tab (part f at end)) in
    let size : length p + suc (length others) ≡ end - at = sym (length-append p (tab ∷ others)) ∙ sym (ap length text) ∙ part_length f at end inside in
    let place : at + length p + 1 ≡ at + (length p + 1) = omega arith in
    record {
      here = sym (part_front f at end (length p) (omega arith)) ∙ ap (take (length p)) text ∙ take-append_seam p (tab ∷ others);
      behind = ap (λ n. cut tab (part f n end)) place
          ∙ ap (cut tab) (sym (part_back f at end (length p + 1) (omega arith) inside) ∙ ap (drop (length p + 1)) text ∙ drop-append-add p (tab ∷ others) 1)
          ∙ cut_join tab q qs frees.1;
      within = omega arith;
    }

-- The next line starts behind the newline that ends this one
pub next_start : {f : Bytes} {st : State} {end : ℕ} (k : ℕ) → EndedLine f st end → st.at ≡ line_start f k → end + 1 ≡ line_start f (suc k)
unfolding line_start
next_start {f} k here e = ap (λ m. m + 1) (here.all_of_it ∙ ap (λ at. at + length (get_or (cut newline (drop at f)) 0 [])) e)
