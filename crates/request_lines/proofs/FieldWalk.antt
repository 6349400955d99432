-- The request of a line: the walk over the attributes and the fields in step, and the count of fields before it.
use Prim.Native.Nat.{ℕ, suc, ◌+◌, ◌-◌, ◌≤◌, ◌<◌, zero-le}
use mathlib.Core.Path.{◌≡◌, refl, sym, ap, ap₂, ◌∙◌, subst}
use mathlib.Core.Logic.{◌≢◌}
use mathlib.Core.Bool.{Bool}
use mathlib.Core.List.{List, [], ◌∷◌, ◌++◌, append_assoc, append-nil}
use mathlib.Core.Option.{none, some}
use Rattle.std.specs.Prelude.{Option, Some, None, Ok, Err}
use native.Mathlib.Nat.{sub-zero}
use native.Mathlib.Numerals.{add-one}
use native.Mathlib.Omega.{arith}
use lib.ListN.{length, take, drop, get_or, set, length-set, replicate}
use lib.Seq.{length-take-le, take-suc-set, drop-set-lt, drop-cons}
use borrow.Author.Tests.{eq-eqb, ne_eqb}
use Rattle.meaning.specs.Text.{Bytes, cut, tab}
use Rattle.meaning.specs.Model.{Attribute, Result, refused, given, ◌then◌}
use Rattle.meaning.specs.Deciding.{Request, chosen, values_of, request_line}
use Rattle.laws.proofs.Found.{found_some, found_none}
use Rattle.laws.specs.Found.{found}
use Rattle.requests.proofs.Laid.{laid}
use Rattle.requests.specs.Values.{request_with}
use Rattle.layout.specs.declared.Attributes.{Attributes}
use Rattle.layout.specs.Places.{place_at, values_in, severals_at, attribute_at, attributes_from, attributes_of}
use Rattle.layout.proofs.Laws.{attributes_walk, attributes_length}
use Rattle.refusals.specs.declared.Refusal.TheVariants.{BadRequest}
use Rattle.request_lines.specs.Asked.{AskedAs}

-- values that were read, put before those that are given
abbrev after : Request → Result Request → Result Request
after vs r = r then λ ws. given (vs ++ ws)

after_none : (r : Result Request) → after [] r ≡ r
after_none (refused n m) = refl
after_none (given ws) = refl

-- the first field: its value, or its place
module _ (place : ℕ) (x : Attribute) (attrs : List Attribute) (field : Bytes) (fields : List Bytes) (vs : Request) where
  first_value : (v : ℕ) → chosen x field ≡ some v
      → after vs (values_of place (x ∷ attrs) (field ∷ fields)) ≡ after (vs ++ (v ∷ [])) (values_of (suc place) attrs fields)
  first_value v is-value = rw is-value (regrouped (values_of (suc place) attrs fields))
    where
      regrouped : (r : Result Request) → after vs (r then λ ws. given (v ∷ ws)) ≡ after (vs ++ (v ∷ [])) r
      regrouped (refused n m) = refl
      regrouped (given ws) = rw (append_assoc vs (v ∷ []) ws)

  first_refused : chosen x field ≡ none → after vs (values_of place (x ∷ attrs) (field ∷ fields)) ≡ refused 10 place
  first_refused no_value = rw no_value

-- The values before i were found, and the attributes and the fields from i on are left
pub record Walked (f : Bytes) (a : Attributes) (line : Bytes) (values : List ℕ) (i : ℕ) : Type 0 where
  pub room : length values ≡ 6
  pub clear : drop a.len values ≡ drop a.len (replicate 6 0)
  pub so_far : after (take i values) (values_of (suc i) (attributes_from f a i (a.len - i)) (drop i (cut tab line))) ≡ values_of 1 (attributes_of f a) (cut tab line)

pub walk_starts : (f : Bytes) (a : Attributes) (line : Bytes) → Walked f a line (replicate 6 0) 0
walk_starts f a line = record { room = refl; clear = refl; so_far = rw sub-zero (after_none (values_of 1 (attributes_of f a) (cut tab line))) }

module _ {f : Bytes} {a : Attributes} {line : Bytes} {values : List ℕ} {i : ℕ} (w : Walked f a line values i) where
  -- the request of these values is what the line asks
  pub walk_ends : i ≡ a.len → a.len ≤ 6 → (severals : List Bool) → severals ≡ severals_at a
      → AskedAs a (Ok (record { several = severals; values = values; len = a.len })) (values_of 1 (attributes_of f a) (cut tab line))
  unfolding attributes_from
  walk_ends e few severals letters =
      let none_left : a.len - i ≡ 0 = omega arith in
      let all_found : given (take a.len values) ≡ values_of 1 (attributes_of f a) (cut tab line) = rw (none_left, append-nil, e) at w.so_far in
      let enough : a.len ≤ length values = omega (arith, w.room) in
      let whole = laid severals a.len values (take a.len values) enough refl w.clear ∙ ap (λ bs. request_with bs (take a.len values)) letters in
      subst (AskedAs a (Ok (record { several = severals; values = values; len = a.len }))) all_found (record { is = whole; count = length-take-le a.len values enough })

  -- what was found of attribute i, as its field and its values give it
  module _ (here : i < a.len) (few : a.len ≤ 6) (count : length (cut tab line) ≡ a.len) {those piece : Bytes} {r : Option ℕ} (values_are : those ≡ values_in f a i) (piece_is : piece ≡ get_or (cut tab line) i [])
      (told : r ≡ found (chosen (record { several = (place_at a i).several; name = []; values = cut tab those }) piece)) where
    is_found : r ≡ found (chosen (attribute_at f a i) (get_or (cut tab line) i []))
    is_found = told ∙ ap₂ (λ vs t. found (chosen (record { several = (place_at a i).several; name = []; values = cut tab vs }) t)) values_are piece_is

    fields_here : drop i (cut tab line) ≡ get_or (cut tab line) i [] ∷ drop (suc i) (cut tab line)
    fields_here = drop-cons (cut tab line) i [] (omega arith)

    pub walk_refused : r ≡ None → AskedAs a (Err (record { why = BadRequest; second = i + 1 })) (values_of 1 (attributes_of f a) (cut tab line))
    walk_refused e =
        let refusal = first_refused (suc i) (attribute_at f a i) (attributes_from f a (i + 1) (a.len - (i + 1))) (get_or (cut tab line) i []) (drop (suc i) (cut tab line)) (take i values) (found_none _ (sym is_found ∙ e)) in
        subst (AskedAs a (Err (record { why = BadRequest; second = i + 1 }))) (sym refusal ∙ (rw (attributes_walk f a a.len i here, fields_here) at w.so_far))
        (record { is = ap (λ m. record { why = BadRequest; second = m }) (add-one i); number = refl; low = omega arith })

    pub walk_on : {v : ℕ} → r ≡ Some v → Walked f a line (set values i v) (i + 1)
    walk_on {v} e =
        let value = first_value (suc i) (attribute_at f a i) (attributes_from f a (i + 1) (a.len - (i + 1))) (get_or (cut tab line) i []) (drop (suc i) (cut tab line)) (take i values) v (found_some _ (sym is_found ∙ e)) in
        let one_laid : take (suc i) (set values i v) ≡ take i values ++ (v ∷ []) = take-suc-set values i v (omega (arith, w.room)) in
        record {
          room = length-set values i v ∙ w.room;
          clear = drop-set-lt a.len values i v here ∙ w.clear;
          so_far = rw (add-one i, one_laid) (rw (add-one i) at (sym value ∙ (rw (attributes_walk f a a.len i here, fields_here) at w.so_far)));
        }

-- A line by its count of fields
module _ (f : Bytes) (a : Attributes) (line : Bytes) {pieces : ℕ} (counted : pieces ≡ length (cut tab line)) where
  pub wrong_count_lem : pieces ≢ a.len → AskedAs a (Err (record { why = BadRequest; second = 0 })) (request_line (attributes_of f a) line)
  wrong_count_lem n =
      let unequal : length (cut tab line) ≢ length (attributes_of f a) = λ e. n (counted ∙ e ∙ attributes_length f a) in
      rw (ne_eqb (length (cut tab line)) (length (attributes_of f a)) unequal) (record { is = refl; number = refl; low = zero-le })

  pub right_count : pieces ≡ a.len → values_of 1 (attributes_of f a) (cut tab line) ≡ request_line (attributes_of f a) line
  right_count e = rw (eq-eqb (length (cut tab line)) (length (attributes_of f a)) (sym counted ∙ e ∙ sym (attributes_length f a)))
