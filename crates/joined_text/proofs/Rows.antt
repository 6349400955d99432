-- Lines one deeper, field by field.
use mathlib.Core.Path.{◌≡◌, sym, ap, ◌∙◌, subst}
use mathlib.Core.Logic.{inl, inr}
use mathlib.Core.Bool.{true, false}
use mathlib.Core.List.{List, [], ◌∷◌, ◌++◌, map, append_assoc}
use Prim.Native.Nat.{ℕ, suc, ◌+◌, ◌-◌, ◌*◌, ◌/◌, ◌≤◌}
use native.Mathlib.Omega.{arith}
use lib.ListN.{length, take, drop, get_or, length-append}
use Rattle.meaning.specs.Text.{Bytes, gathered, cut, tab, newline, line, decimal}
use Rattle.meaning.specs.Reading.{obligation_letter, depth_of}
use Rattle.laws.proofs.Bools.{contradiction}
use Rattle.laws.proofs.Text.{join_cut}
use Rattle.laws.proofs.Rewritten.{gathered_map}
use Rattle.text.proofs.Pieces.{piece_first}
use Rattle.printing.specs.declared.Sink.{Sink}
use Rattle.printing.specs.Puts.{Puts}
use Rattle.printing.proofs.Laws.{then, same_text, line_behind}
use Rattle.printing.proofs.LineFields.{field}
use Rattle.joined_text.specs.Lines.{placed_target, head_text, deepened, deeper_placed, Fits}
use Rattle.joined_text.proofs.Targets.{piece_short}

-- the first field of a line stands up to its end
pub first_field : (row : Bytes) (to : ℕ) → to ≡ length (get_or (cut tab row) 0 []) → take (to - 0) (drop 0 row) ≡ get_or (cut tab row) 0 []
first_field row to e = sym (piece_first tab row 0 to (omega arith) (omega (arith, piece_short tab row 0)))

abbrev field_at : Bytes → ℕ → Bytes
field_at row k = get_or (cut tab row) k []

-- a field and its tab take no more room than the line and one byte
pub field_room : (row : Bytes) (k : ℕ) {t : Bytes} {a b : Sink} → t ≡ field_at row k → Puts a (field t) b → b.at ≤ a.at + length row + 1
field_room row k {t} e w = omega (arith, w.wrote.moved, length-append t (tab ∷ []), ap length e, piece_short tab row k)

-- The fields before the targets
module _ (row : Bytes) {a b c d e : Sink} where
  pub head_row_lem : {letter name word : Bytes} {depth : ℕ} → letter ≡ field_at row 0 → depth ≡ depth_of (field_at row 1) → depth ≤ 8 → name ≡ field_at row 2 → word ≡ field_at row 3
      → Puts a (field letter) b
      → Puts b (field (decimal (depth + 1))) c × (c.at ≤ b.at + (depth + 1) / 10 + 2)
      → Puts c (field name) d
      → Puts d word e
      → Puts a (head_text (cut tab row)) e × (e.at ≤ a.at + 3 * length row + 5)
  head_row_lem {letter} {name} {word} {depth} letter-is depth_is shallow name_is word-is one (two, i) three four =
      let next : depth + 1 ≡ suc (depth_of (field_at row 1)) = omega (arith, depth_is) in
      let text : field letter ++ (field (decimal (depth + 1)) ++ (field name ++ word)) ≡ head_text (cut tab row) =
      append_assoc letter (tab ∷ []) _
      ∙ ap (λ t. letter ++ (tab ∷ t)) (append_assoc (decimal (depth + 1)) (tab ∷ []) (field name ++ word) ∙ ap (λ t. decimal (depth + 1) ++ (tab ∷ t)) (append_assoc name (tab ∷ []) word))
      ∙ (λ h. letter-is h ++ (tab ∷ decimal (next h) ++ (tab ∷ name_is h ++ (tab ∷ word-is h)))) in (
        same_text text (then one (then two (then three four))),
        omega (arith, field_room row 0 letter-is one, i, field_room row 2 name_is three, four.wrote.moved, ap length word-is, piece_short tab row 3),
      )

-- with the targets behind them
head_behind : (fs : List Bytes) (F : ℕ → Bytes) (ks : List ℕ) → head_text fs ++ (gathered (λ k. tab ∷ F k) ks ++ (newline ∷ [])) ≡ line (get_or fs 0 [] ∷ decimal (suc (depth_of (get_or fs 1 []))) ∷ get_or fs 2 [] ∷ get_or fs 3 [] ∷ map F ks)
head_behind fs F ks =
    let a = get_or fs 0 [] in
    let b = decimal (suc (depth_of (get_or fs 1 []))) in
    let c = get_or fs 2 [] in
    let d = get_or fs 3 [] in
    let rest = gathered (λ k. tab ∷ F k) ks ++ (newline ∷ []) in
    append_assoc a (tab ∷ b ++ (tab ∷ c ++ (tab ∷ d))) rest
    ∙ ap (λ t. a ++ (tab ∷ t)) (append_assoc b (tab ∷ c ++ (tab ∷ d)) rest ∙ ap (λ t. b ++ (tab ∷ t)) (append_assoc c (tab ∷ d) rest))
    ∙ ap (λ t. a ++ (tab ∷ b ++ (tab ∷ c ++ (tab ∷ d ++ (t ++ (newline ∷ [])))))) (sym (gathered_map (λ t. tab ∷ t) F ks))
    ∙ regroup a b c d (gathered (λ t. tab ∷ t) (map F ks))
    ∙ line_behind a (b ∷ c ∷ d ∷ map F ks)
  where
    regroup : (a b c d e : Bytes) → a ++ (tab ∷ b ++ (tab ∷ c ++ (tab ∷ d ++ (e ++ (newline ∷ []))))) ≡ a ++ ((tab ∷ b ++ (tab ∷ c ++ (tab ∷ d ++ e))) ++ (newline ∷ []))
    regroup a b c d e = ap (λ t. a ++ t) (sym (append_assoc (tab ∷ b) (tab ∷ c ++ (tab ∷ d ++ e)) (newline ∷ []) ∙ ap (λ t. tab ∷ b ++ t) (append_assoc (tab ∷ c) (tab ∷ d ++ e) (newline ∷ []) ∙ ap (λ t. tab ∷ c ++ t) (append_assoc (tab ∷ d) e (newline ∷ [])))))

-- A tree line
module _ (row : Bytes) (ks : List ℕ) (n : ℕ) {a b c d : Sink} where
  pub deeper_row : (targets : Bytes) → cut tab targets ≡ drop 4 (cut tab row) → length targets ≤ length row
      → Puts a (head_text (cut tab row)) b × (b.at ≤ a.at + 3 * length row + 5)
      → Puts b (gathered (λ k. tab ∷ placed_target n (cut tab targets) k) ks) c × (c.at ≤ b.at + 12 * (length targets + 2))
      → Puts c (newline ∷ []) d
      → Puts a (line (deepened ks n (cut tab row))) d × (d.at ≤ a.at + 16 * (length row + 2))
  deeper_row targets are short (one, i) (two, j) three = (
    same_text (head_behind (cut tab row) (placed_target n (cut tab targets)) ks ∙ (λ h. line (get_or (cut tab row) 0 [] ∷ decimal (suc (depth_of (get_or (cut tab row) 1 []))) ∷ get_or (cut tab row) 2 [] ∷ get_or (cut tab row) 3 [] ∷ map (placed_target n (are h)) ks))) (then one (then two three)),
    omega (arith, i, j, three.wrote.moved),
  )

-- Any line behind the attribute lines
module _ (row : Bytes) (ks : List ℕ) (n : ℕ) {a b : Sink} where
  pub kept_row_lem : obligation_letter (get_or (cut tab row) 0 []) ≡ true → Puts a (row ++ (newline ∷ [])) b → Puts a (deeper_placed ks n row) b × (b.at ≤ a.at + 16 * (length row + 2))
  kept_row_lem e w = (
    rw e (subst (λ t. Puts a (t ++ (newline ∷ [])) b) (sym (join_cut tab row)) w),
    omega (arith, w.wrote.moved, length-append row (newline ∷ [])),
  )

  pub other_row : obligation_letter (get_or (cut tab row) 0 []) ≡ false → Puts a (line (deepened ks n (cut tab row))) b × (b.at ≤ a.at + 16 * (length row + 2)) → Puts a (deeper_placed ks n row) b × (b.at ≤ a.at + 16 * (length row + 2))
  other_row e (w, l) = (rw e w, l)

pub has_targets : (row : Bytes) → Fits row → obligation_letter (get_or (cut tab row) 0 []) ≡ false → 5 ≤ length (cut tab row)
has_targets row (inl e) h = contradiction e h
has_targets row (inr l) h = l
