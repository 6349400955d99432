-- The attribute lines of the joined file, one by one, and the line of its set.
use mathlib.Core.Path.{◌≡◌, refl, sym, ap, ◌∙◌}
use mathlib.Core.Bool.{true, false, not, cond}
use mathlib.Core.List.{List, [], ◌∷◌, ◌++◌}
use Prim.Native.Nat.{ℕ, zero, suc, ◌+◌, ◌-◌, ◌≤◌}
use native.Mathlib.Omega.{arith}
use lib.ListN.{length, replicate, length-append}
use Rattle.meaning.specs.Text.{Bytes, bytes, keep, gathered, counting, cut, tab, newline, line}
use Rattle.meaning.specs.Model.{Attribute, letter_text, attribute_fields}
use Rattle.meaning.specs.Joining.{declared}
use Rattle.laws.proofs.Text.{Some, one_or_more, cut_some, join_cut}
use Rattle.laws.proofs.Lists.{gathered_keep}
use Rattle.layout.specs.declared.Attributes.{Attributes}
use Rattle.layout.specs.Places.{place_at, values_in, attribute_at, attributes_from, attributes_of, Standing}
use Rattle.attribute_lines.proofs.Parts.{part_length}
use Rattle.printing.specs.declared.Sink.{Sink}
use Rattle.printing.specs.Puts.{Puts}
use Rattle.printing.proofs.Laws.{then, same_text, line_next, line_behind}

-- a line's first two fields, and the others as they stand in a file, parted by tabs
attribute_line_lem : (letter name values : Bytes) → (letter ++ (tab ∷ [])) ++ ((name ++ (tab ∷ [])) ++ (values ++ (newline ∷ []))) ≡ line (letter ∷ name ∷ cut tab values)
attribute_line_lem letter name values =
    ap (λ t. (letter ++ (tab ∷ [])) ++ ((name ++ (tab ∷ [])) ++ (t ++ (newline ∷ [])))) (sym (join_cut tab values)) ∙ go (cut_some tab values)
  where
    go : {vs : List Bytes} → Some vs → (letter ++ (tab ∷ [])) ++ ((name ++ (tab ∷ [])) ++ line vs) ≡ line (letter ∷ name ∷ vs)
    go (one_or_more v vs) = ap (λ t. (letter ++ (tab ∷ [])) ++ t) (line_next name v vs) ∙ line_next letter name (v ∷ vs)

-- the line of attribute i
abbrev pub line_at : Bytes → Attributes → ℕ → Bytes
line_at f a i = line (attribute_fields (attribute_at f a i))

module _ (f : Bytes) (a : Attributes) (i : ℕ) (here : Standing f a i) where
  pub name_length : length (attribute_at f a i).name ≡ (place_at a i).values - 1 - (place_at a i).name
  name_length = part_length f (place_at a i).name ((place_at a i).values - 1) (omega (arith, here.line, here.inside))

  pub values_length : length (values_in f a i) ≡ (place_at a i).end - (place_at a i).values
  values_length = part_length f (place_at a i).values (place_at a i).end here.inside

  -- its letter, its name and its values, stored one behind the other
  pub attribute_put : {b c d e : Sink} {name all : List ℕ} → length f ≤ 16384 → Puts b (letter_text (place_at a i).several ++ (tab ∷ [])) c × (c.at ≤ b.at + 2) → name ≡ (attribute_at f a i).name → Puts c (name ++ (tab ∷ [])) d
      → all ≡ values_in f a i → Puts d (all ++ (newline ∷ [])) e → Puts b (line_at f a i) e × (e.at ≤ b.at + 16388)
  attribute_put {b} {e = e} short (letter, few) is named same_values all-put =
      let own = (attribute_at f a i).name in
      let all = values_in f a i in
      let values = same_text (ap (λ t. t ++ (newline ∷ [])) same_values) all-put in
      let name-put = same_text (ap (λ n. n ++ (tab ∷ [])) is) named in
      let within : e.at ≤ b.at + 16388 = omega (arith, few, name-put.wrote.moved, values.wrote.moved, length-append own (tab ∷ []), length-append all (newline ∷ []), name_length, values_length, here.name, here.line, here.inside) in
      (same_text (attribute_line_lem (letter_text (place_at a i).several) own all) (then letter (then name-put values)), within)

-- all attributes, by their numbers
module _ (f : Bytes) (a : Attributes) where
  numbered : (F : Attribute → Bytes) (i n : ℕ) → gathered (λ k. F (attribute_at f a k)) (counting i n) ≡ gathered F (attributes_from f a i n)
  unfolding attributes_from
  numbered F i zero = refl
  numbered F i (suc n) = let next : suc i ≡ i + 1 = omega arith in ap (λ t. F (attribute_at f a i) ++ t) (ap (λ k. gathered (λ k. F (attribute_at f a k)) (counting k n)) next ∙ numbered F (i + 1) n)

  pub all_lines : gathered (line_at f a) (counting 0 a.len) ≡ gathered (λ c. line (attribute_fields c)) (attributes_of f a)
  all_lines = numbered (λ c. line (attribute_fields c)) 0 a.len

  -- those whose names some others lack
  module _ (first : List Attribute) where
    abbrev pub alone_at : ℕ → Bytes
    alone_at j = cond (not (declared first (attribute_at f a j).name)) (line_at f a j) []

    pub alone_known : (j : ℕ) → declared first (attribute_at f a j).name ≡ true → alone_at j ≡ []
    alone_known j e = rw e

    pub alone_new : (j : ℕ) → declared first (attribute_at f a j).name ≡ false → line_at f a j ≡ alone_at j
    alone_new j e = sym (rw e)

    pub alone_lines : gathered alone_at (counting 0 a.len) ≡ gathered (λ c. line (attribute_fields c)) (keep (λ c. not (declared first c.name)) (attributes_of f a))
    alone_lines =
        numbered (λ c. cond (not (declared first c.name)) (line (attribute_fields c)) []) 0 a.len
        ∙ sym (gathered_keep (λ c. not (declared first c.name)) (λ c. line (attribute_fields c)) (attributes_of f a))

-- n times `*`, each behind its tab
pub stars : (i n : ℕ) → gathered (λ k. tab ∷ bytes "*") (counting i n) ≡ gathered (λ t. tab ∷ t) (replicate n (bytes "*"))
stars i zero = refl
stars i (suc n) = ap (λ t. tab ∷ bytes "*" ++ t) (stars (suc i) n)

-- the line of the set, by what is stored
pub set_line : (word : Bytes) (ts : List Bytes) → bytes "S\t0\tjoined\t" ++ (word ++ (gathered (λ t. tab ∷ t) ts ++ (newline ∷ []))) ≡ line (bytes "S" ∷ bytes "0" ∷ bytes "joined" ∷ word ∷ ts)
set_line word ts = ap (λ t. bytes "S\t0\tjoined\t" ++ t) (line_behind word ts)
