-- The joined text, by the places of the joined attributes among those of each file.
use mathlib.Core.Path.{◌≡◌, refl, sym, ap, ◌∙◌}
use mathlib.Core.Bool.{cond, not}
use mathlib.Core.List.{List, [], ◌∷◌, ◌++◌, map}
use Prim.Native.Nat.{ℕ, zero, suc, ◌+◌, ◌-◌, ◌≤◌}
use native.Mathlib.Omega.{arith}
use lib.ListN.{length, take, drop, get_or, replicate, length-append, length-map}
use lib.Seq.{drop-cons, take-append_seam}
use Rattle.meaning.specs.Text.{Bytes, bytes, keep, gathered, counting, cut, tab, line, decimal}
use Rattle.meaning.specs.Model.{Attribute, attribute_fields}
use Rattle.meaning.specs.Reading.{obligation_letter, depth_of}
use Rattle.meaning.specs.Trimming.{file_lines}
use Rattle.meaning.specs.Joining.{declared, both, place_in, target_for, deeper_line, tree_part, joined_text}
use Rattle.laws.proofs.Lists.{map_map}
use Rattle.laws.proofs.Rewritten.{gathered_append}
use Rattle.layout.specs.declared.Attributes.{Attributes}
use Rattle.layout.specs.Places.{attributes_of}
use Rattle.joined_text.proofs.Placed.{declared_place}
use Rattle.layout.proofs.Laws.{attributes_length}
use Rattle.printing.specs.declared.Sink.{Sink}
use Rattle.printing.specs.Puts.{Puts}
use Rattle.printing.proofs.Laws.{then, same_text}
use Rattle.joined_attributes.specs.declared.Placing.{Placing}
use Rattle.joined_attributes.specs.Placing.{listed, places_in}
use Rattle.joined_text.specs.Lines.{places_of, placed_target, deeper_placed, Joinable}

-- the places that are listed, taken by their numbers
numbered : (l : List ℕ) (k n : ℕ) → k + n ≤ length l → map (λ i. get_or l i 0) (counting k n) ≡ take n (drop k l)
numbered l k zero h = refl
numbered l k (suc n) h = ap (λ ms. get_or l k 0 ∷ ms) (numbered l (suc k) n (omega arith)) ∙ sym (ap (take (suc n)) (drop-cons l k 0 (omega arith)))

pub places_listed : (p : Placing) (ns : List ℕ) → p ≡ listed ns → places_of p ≡ ns
places_listed p ns e =
    let behind : List ℕ = replicate (12 - length ns) 0 in
    ap places_of e ∙ numbered (ns ++ behind) 0 (length ns) (omega (arith, length-append ns behind)) ∙ take-append_seam ns behind

-- a target by its place is the target for the attribute
module _ (own : List Attribute) where
  placed_target_lem : (ts : List Bytes) (c : Attribute) → placed_target (length own) ts (place_in own c.name) ≡ target_for own ts c
  placed_target_lem ts c = ap (λ b. cond b (get_or ts (place_in own c.name) []) (bytes "*")) (declared_place own c.name)

  placed_line : (attrs : List Attribute) (l : Bytes) → deeper_placed (places_in own attrs) (length own) l ≡ deeper_line attrs own l
  placed_line attrs l =
      let fs = cut tab l in
      let targets : map (placed_target (length own) (drop 4 fs)) (places_in own attrs) ≡ map (target_for own (drop 4 fs)) attrs =
      map_map (placed_target (length own) (drop 4 fs)) (λ c. place_in own c.name) attrs ∙ (λ i. map (λ c. placed_target_lem (drop 4 fs) c i) attrs) in
      ap (λ ts. cond (obligation_letter (get_or fs 0 [])) (line fs) (line (get_or fs 0 [] ∷ decimal (suc (depth_of (get_or fs 1 []))) ∷ get_or fs 2 [] ∷ get_or fs 3 [] ∷ ts))) targets

  -- the lines of a file
  pub tree_text_lem : (attrs : List Attribute) (p : Placing) (n : ℕ) (f : Bytes) (ls : List Bytes) → p ≡ listed (places_in own attrs) → n ≡ length own → ls ≡ drop (length own) (file_lines f) → gathered (deeper_placed (places_of p) n) ls ≡ tree_part attrs own f
  tree_text_lem attrs p n f ls is size lines_are =
      (λ i. gathered (deeper_placed (places_listed p (places_in own attrs) is i) (size i)) (lines_are i)) ∙ (λ i. gathered (λ l. placed_line attrs l i) (drop (length own) (file_lines f)))

-- the set's targets
stars : (attrs : List Attribute) → replicate (length attrs) (bytes "*") ≡ map (λ a. bytes "*") attrs
stars [] = refl
stars (a ∷ attrs) = ap (λ ts. bytes "*" ∷ ts) (stars attrs)

-- All of it: the first file's attribute lines, those of the second alone, the set's line, and the lines of both
module _ (w f g : Bytes) (a b : Attributes) (from other : ℕ) (first-joins : Joinable f a from) (second-joins : Joinable g b other) where
  abbrev first : List Attribute
  first = attributes_of f a

  abbrev second : List Attribute
  second = attributes_of g b

  pub whole_text : {x y z u v t : Sink} {p q : Placing} → p ≡ listed (places_in first (both first second)) → q ≡ listed (places_in second (both first second))
      → Puts x (gathered (λ c. line (attribute_fields c)) first) y
      → Puts y (gathered (λ c. line (attribute_fields c)) (keep (λ c. not (declared first c.name)) second)) z
      → Puts z (line (bytes "S" ∷ bytes "0" ∷ bytes "joined" ∷ w ∷ replicate p.len (bytes "*"))) u
      → Puts u (gathered (deeper_placed (places_of p) a.len) (file_lines (drop from f))) v
      → Puts v (gathered (deeper_placed (places_of q) b.len) (file_lines (drop other g))) t
      → Puts x (joined_text w f first g second) t
  unfolding joined_text
  whole_text {p = p} {q = q} p-is q-is one two three four fifth =
      let attrs = both first second in
      let size : p.len ≡ length attrs = ap (λ z. z.len) p-is ∙ length-map attrs (λ c. place_in first c.name) in
      let header = sym (gathered_append (λ c. line (attribute_fields c)) first (keep (λ c. not (declared first c.name)) second)) in
      let set = ap (λ ts. line (bytes "S" ∷ bytes "0" ∷ bytes "joined" ∷ w ∷ ts)) (ap (λ n. replicate n (bytes "*")) size ∙ stars attrs) in
      let own = tree_text_lem first attrs p a.len f (file_lines (drop from f)) p-is (sym (attributes_length f a)) (first-joins.other_lines ∙ ap (λ n. drop n (file_lines f)) (sym (attributes_length f a))) in
      let others = tree_text_lem second attrs q b.len g (file_lines (drop other g)) q-is (sym (attributes_length g b)) (second-joins.other_lines ∙ ap (λ n. drop n (file_lines g)) (sym (attributes_length g b))) in
      same_text (λ i. header i ++ (set i ++ (own i ++ others i))) (then (then one two) (then three (then four fifth)))
