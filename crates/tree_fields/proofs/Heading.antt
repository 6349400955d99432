-- The fields before the targets of a tree line, one behind the other.
use Prim.Native.Nat.{ℕ, ◌+◌, ◌≤◌}
use mathlib.Core.Path.{◌≡◌, sym}
use native.Mathlib.Omega.{arith}
use lib.ListN.{length}
use Rattle.meaning.specs.Text.{Bytes, cut, tab}
use Rattle.text.proofs.Pieces.{EndsAt}
use Rattle.text.proofs.Fields.{Starts, first_starts, field_end_is, field_text, another_field, next_starts}
use Rattle.tree_fields.specs.Headed.{field_end, ends_of, FieldIs, Headed}
use Rattle.tree_fields.specs.declared.FieldEnds.{FieldEnds}

field_here : {line : Bytes} {k at e : ℕ} → Starts line k at → EndsAt tab line at e → FieldIs line k at e
field_here s h = record { ordered = h.within.0; inside = h.within.1; is = field_text s h }

abbrev ends : (letter depth name word : ℕ) → FieldEnds
ends letter depth name word = record { letter = letter; depth = depth; name = name; word = word }

same_ends : {l d n w l' d' n' w' : ℕ} → l ≡ l' → d ≡ d' → n ≡ n' → w ≡ w' → ends l d n w ≡ ends l' d' n' w'
same_ends l d n w = rw (l, d, n, w)

-- each field ends as `end_of` says it, from behind the field before
module _ (line : Bytes) (four : 4 ≤ length (cut tab line)) {letter : ℕ} (letter_ends : EndsAt tab line 0 letter) where
  pub depth_starts : Starts line 1 (letter + 1)
  depth_starts = next_starts (first_starts line) letter_ends (omega arith)

  module _ {depth : ℕ} (depth_ends : EndsAt tab line (letter + 1) depth) where
    pub name_starts : Starts line 2 (depth + 1)
    name_starts = next_starts depth_starts depth_ends (omega arith)

    module _ {name : ℕ} (name_ends : EndsAt tab line (depth + 1) name) where
      pub word_starts : Starts line 3 (name + 1)
      word_starts = next_starts name_starts name_ends (omega arith)

      module _ {word : ℕ} (word_ends : EndsAt tab line (name + 1) word) where
        pub ends_are : ends letter depth name word ≡ ends_of line
        ends_are =
            let letter_is : letter ≡ field_end line 0 = omega (arith, field_end_is (first_starts line) letter_ends) in
            let depth_is : depth ≡ field_end line 1 = omega (arith, letter_is, field_end_is depth_starts depth_ends) in
            let name_is : name ≡ field_end line 2 = omega (arith, depth_is, field_end_is name_starts name_ends) in
            let word_is : word ≡ field_end line 3 = omega (arith, name_is, field_end_is word_starts word_ends) in
            same_ends letter_is depth_is name_is word_is

        pub headed : Headed line (ends letter depth name word)
        headed =
            record {
              letter = field_here (first_starts line) letter_ends;
              depth = field_here depth_starts depth_ends;
              name = field_here name_starts name_ends;
              word = field_here word_starts word_ends;
              targets = λ more. (another_field word_starts word_ends (omega arith), sym (next_starts word_starts word_ends (omega arith)).fields);
            }
