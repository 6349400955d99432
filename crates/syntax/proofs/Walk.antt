-- The walk along the values and the names in step, by places in the two texts.
use mathlib.Core.Path.{◌≡◌, sym, ap, ◌∙◌}
use Rattle.std.specs.Prelude.{Some, None}
use Prim.Native.Nat.{ℕ, ◌+◌, ◌*◌, ◌-◌, ◌^◌, ◌≤◌, ◌<◌}
use native.Mathlib.Nat.{mul_assoc, pow-succ', le-mul_of_pos_right}
use native.Mathlib.Omega.{arith}
use mathlib.Core.Bool.{Bool, true, false}
use mathlib.Core.List.{List, [], ◌∷◌, map}
use mathlib.Core.Option.{Option}
use lib.ListN.{length, take, drop}
use lib.Pow.{pow_mono, pow_pos}
use Rattle.meaning.specs.Text.{Bytes, same, cut, tab, comma}
use Rattle.meaning.specs.Reading.{mask_of}
use Rattle.laws.proofs.Text.{Some as OneOrMore, one_or_more, cut_some}
use Rattle.laws.specs.Found.{found}
use Rattle.text.proofs.Pieces.{EndsAt, behind, piece_last, piece_more, piece_at_lem}
use Rattle.syntax.specs.Fields.{spelt}
use Rattle.syntax.proofs.Masks.{shifted, shifted_none, value_passed, value_missing, value_taken, names_taken, names_left}

abbrev pub part : Bytes → ℕ → ℕ → Bytes
part s at e = take (e - at) (drop at s)

-- The mask of the names in a text, of the values in another
abbrev pub named : Bool → Bytes → Bytes → Option ℕ
named exact values field = mask_of (map (spelt exact) (cut tab values)) (map (spelt exact) (cut comma field))

-- At the value of this bit, which starts at `at`; the current name runs from `name` to `end`
pub record Walked (exact : Bool) (values field : Bytes) (at name end bit taken : ℕ) : Type 0 where
  pub value_within : at ≤ length values
  pub name_ends : EndsAt comma field name end
  pub few_left : bit * 2 ^ length (cut tab (drop at values)) ≤ 65536
  pub low_bits : taken < bit
  pub same_mask : shifted bit taken (named exact (drop at values) (drop name field)) ≡ named exact values field

pub walk_starts : (exact : Bool) (values field : Bytes) {end : ℕ} → EndsAt comma field 0 end → length (cut tab values) ≤ 16 → Walked exact values field 0 0 end 1 0
walk_starts exact values field ends few =
    record {
      value_within = omega arith;
      name_ends = ends;
      few_left = omega (arith, pow_mono {i = length (cut tab values)} {j = 16} few);
      low_bits = omega arith;
      same_mask = shifted_none (named exact values field);
    }

-- The value that ends at e is behind: the names that are left start at `name`
pub record Passed (exact : Bool) (values field : Bytes) (e name end bit taken : ℕ) : Type 0 where
  pub missed : e ≡ length values → None ≡ found (named exact values field)
  pub next : e < length values → Walked exact values field (e + 1) name end (bit * 2) taken

some_spelt : (exact : Bool) {ns : List Bytes} → OneOrMore ns → OneOrMore (map (spelt exact) ns)
some_spelt exact (one_or_more n ns) = one_or_more (spelt exact n) (map (spelt exact) ns)

-- The value at `at` ends at e
module _ {exact : Bool} {values field : Bytes} {at name end bit taken e : ℕ} (w : Walked exact values field at name end bit taken) (h : EndsAt tab values at e) where
  value_first : cut tab (drop at values) ≡ part values at e ∷ behind tab values e
  value_first = piece_at_lem tab values at e h.value h.within.1

  value_more : e < length values → cut tab (drop at values) ≡ part values at e ∷ cut tab (drop (e + 1) values)
  value_more = piece_more tab values at e h.value

  value_last : e ≡ length values → cut tab (drop at values) ≡ part values at e ∷ []
  value_last = piece_last tab values at e h.value

  name_first : cut comma (drop name field) ≡ part field name end ∷ behind comma field end
  name_first = piece_at_lem comma field name end w.name_ends.value w.name_ends.within.1

  name_more : end < length field → cut comma (drop name field) ≡ part field name end ∷ cut comma (drop (end + 1) field)
  name_more = piece_more comma field name end w.name_ends.value

  name_last : end ≡ length field → cut comma (drop name field) ≡ part field name end ∷ []
  name_last = piece_last comma field name end w.name_ends.value

  -- a bit more fits, and twice the bit
  few_here : {ps : List Bytes} → cut tab (drop at values) ≡ part values at e ∷ ps → bit * 2 * 2 ^ length ps ≤ 65536
  few_here {ps} here = rw (here, pow-succ', ← mul_assoc) at w.few_left

  pub bit_fits : bit * 2 ≤ 65536
  bit_fits = omega (arith, few_here value_first, le-mul_of_pos_right (bit * 2) (pow_pos (length (behind tab values e))))

  -- the value is not the current name
  pub walk_passes : same (spelt exact (part values at e)) (spelt exact (part field name end)) ≡ false → Passed exact values field e name end bit taken
  walk_passes s =
      record {
        missed = λ m. ap found (sym (value_missing bit taken (ap (map (spelt exact)) (value_last m)) (ap (map (spelt exact)) name_first) s) ∙ w.same_mask);
        next = λ m. record {
          value_within = omega arith;
          name_ends = w.name_ends;
          few_left = few_here (value_more m);
          low_bits = omega (arith, w.low_bits);
          same_mask = sym (value_passed bit taken (ap (map (spelt exact)) (value_more m)) (ap (map (spelt exact)) name_first) s) ∙ w.same_mask;
        };
      }

  -- the value is the current name
  module _ (s : same (spelt exact (part values at e)) (spelt exact (part field name end)) ≡ true) where
    -- no value is left for the names that are
    pub walk_left : end < length field → e ≡ length values → None ≡ found (named exact values field)
    walk_left n m =
        let more = some_spelt exact (cut_some comma (drop (end + 1) field)) in
        ap found (sym (names_left bit taken (ap (map (spelt exact)) (value_last m)) (ap (map (spelt exact)) (name_more n)) s more) ∙ w.same_mask)

    pub walk_takes : {next : ℕ} → end < length field → EndsAt comma field (end + 1) next → e < length values → Walked exact values field (e + 1) (end + 1) next (bit * 2) (taken + bit)
    walk_takes n q m =
        record {
          value_within = omega arith;
          name_ends = q;
          few_left = few_here (value_more m);
          low_bits = omega (arith, w.low_bits);
          same_mask = sym (value_taken bit taken (ap (map (spelt exact)) (value_more m)) (ap (map (spelt exact)) (name_more n)) s) ∙ w.same_mask;
        }

    pub walk_ends : end ≡ length field → Some (taken + bit) ≡ found (named exact values field)
    walk_ends n = ap found (sym (names_taken bit taken (ap (map (spelt exact)) value_first) (ap (map (spelt exact)) (name_last n)) s) ∙ w.same_mask)
