-- One step on flags and on bytes: a rule that is left and its line, and what is left without it.
use mathlib.Core.Path.{◌≡◌, refl, sym, ap, ◌∙◌}
use Prim.Native.Nat.{ℕ, zero, suc, ◌+◌, ◌≤◌, ◌<◌}
use native.Mathlib.Nat.{zero-add, add-zero}
use native.Mathlib.Omega.{arith}
use mathlib.Core.Bool.{true, false}
use mathlib.Core.List.{List, [], ◌∷◌, ◌++◌, map, append_assoc}
use lib.ListN.{length, get_or, take, drop, set, length-set, length-drop, length-append, take-append-drop, length-map}
use lib.Seq.{length-take-le, take-append_seam}
use Rattle.meaning.specs.declared.Element.{Element}
use Rattle.meaning.specs.Text.{Bytes, without, front, gathered}
use Rattle.meaning.specs.Model.{name_of, Policy, given}
use Rattle.meaning.specs.Reading.{read}
use Rattle.meaning.specs.Trimming.{lines, is_rule_line, name_at, strike, first_change, needless}
use Rattle.meaning.specs.Report.{name_in}
use Rattle.meaning.specs.Claims.Trimming.{is_rule}
use Rattle.laws.proofs.Bools.{contradiction, and_true}
use Rattle.laws.proofs.Reading.{accepted}
use Rattle.laws.proofs.Lines.{unlines, text_unlines}
use Rattle.laws.proofs.Places.{lines_in}
use Rattle.laws.proofs.Bounds.{bounded}
use Rattle.laws.proofs.Striking.{Lacking, strike_without, strike_read}
use Rattle.laws.proofs.ElementLines.{file_count, rule_line_at, name_line_at}
use Rattle.trimmed_text.specs.Flags.{is_left, Clear, left_from, left_policy, lines_by_element, lines_left, text_left, changes_at, first_change_at, rule_in, kept_at, needless_at}
use Rattle.trimmed_text.proofs.Left.{left_count, count_rises, left_all, left_get, left_within, left_strike, left_map}
use Rattle.trimmed_text.proofs.ByElement.{lines_rise, lines_same, rule_lines_lem, lines_all, without_behind, line_struck}

-- The text left is accepted, as the policy left, and its lines are the lines left; each element has a flag
pub record Stands (f : Bytes) (p : Policy) (struck : List ℕ) : Type 0 where
  pub accepts : read (text_left f p struck) ≡ given (left_policy p struck)
  pub pieces : lines (text_left f p struck) ≡ lines_left f p struck ++ ([] ∷ [])
  pub room : length p.elements ≤ length struck

-- the line of place i in the text left: behind the attributes' lines and those of the elements left before it
abbrev pub line_at : Policy → List ℕ → ℕ → ℕ
line_at p struck i = length p.attributes + lines_in (take (left_count struck 0 i) (left_from struck 0 p.elements))

-- lines rise with their places
pub line_rises : (p : Policy) (struck : List ℕ) (i j : ℕ) → i < length p.elements → is_left struck i ≡ true → i < j → line_at p struck i < line_at p struck j
line_rises p struck i j l e more =
    let here : is_left struck (0 + i) ≡ true = rw zero-add e in
    omega (arith, lines_rise (left_from struck 0 p.elements) (left_count struck 0 i) (left_count struck 0 j) (count_rises struck 0 i j more here) (left_within struck 0 i p.elements l here))

-- the elements before a rule that is struck are the first of all
pub record Before (es front : List Element) : Type 0 where
  pub first : take (length front) es ≡ front
  pub fewer : length front < length es

pub struck_behind : {f : Bytes} {p : Policy} {k : ℕ} → (x : Lacking f p k) → Before p.elements x.front
struck_behind x = record {
  first = ap (take (length x.front)) x.whole ∙ take-append_seam x.front (x.gone ∷ x.back);
  fewer = omega (arith, ap length x.whole, length-append x.front (x.gone ∷ x.back));
}

-- a rule has a place
pub rule_below : (es : List Element) (i : ℕ) → rule_in es i ≡ true → i < length es
rule_below [] i e = contradiction e refl
rule_below (x ∷ es) zero e = omega arith
rule_below (x ∷ es) (suc i) e = let l = rule_below es i e in omega arith

-- a rule that is left
module _ (p : Policy) (struck : List ℕ) (i : ℕ) (kept : kept_at p struck i ≡ true) where
  pub kept_left : is_left struck i ≡ true
  kept_left = (and_true (is_left struck i) (rule_in p.elements i) kept).0

  pub kept_rule : rule_in p.elements i ≡ true
  kept_rule = (and_true (is_left struck i) (rule_in p.elements i) kept).1

  pub kept_below : i < length p.elements
  kept_below = rule_below p.elements i kept_rule

module _ (f : Bytes) (p : Policy) (h : read f ≡ given p) where
  abbrev own : List Bytes
  own = front (lines f)

  counted : length own ≡ length p.attributes + lines_in p.elements
  counted = file_count f p h

  -- No place is struck: all is left
  module _ (struck : List ℕ) (clear : Clear struck) where
    lines_whole : lines_left f p struck ≡ own
    lines_whole =
        let a = length p.attributes in
        rw (left_all struck clear 0 (lines_by_element p.elements (drop a own)), lines_all p.elements (drop a own) (omega (arith, length-drop a own, counted))) (take-append-drop a own)

    pub text_whole : text_left f p struck ≡ f
    unfolding text_left
    text_whole = ap unlines lines_whole ∙ sym (text_unlines f (front (lines f)) (accepted f p h).text.pieces)

    pub stands_whole : length p.elements ≤ length struck → Stands f p struck
    stands_whole room = record {
      accepts = ap read text_whole ∙ h ∙ rw (left_all struck clear 0 p.elements);
      pieces = ap lines text_whole ∙ (accepted f p h).text.pieces ∙ ap (λ ls. ls ++ ([] ∷ [])) (sym lines_whole);
      room = room;
    }

  module _ (struck : List ℕ) (s : Stands f p struck) where
    abbrev text : Bytes
    text = text_left f p struck

    -- What stands at a place that is left stands on its line
    at_line : {A : Type 0} (F : Element → A) (d : A) (i : ℕ) → i < length p.elements → is_left struck i ≡ true
        → get_or (map F (left_from struck 0 p.elements)) (left_count struck 0 i) d ≡ get_or (map F p.elements) i d
    at_line F d i l e =
        ap (λ xs. get_or xs (left_count struck 0 i) d) (left_map F struck 0 p.elements)
        ∙ left_get struck 0 i (map F p.elements) d (rw length-map l) (rw zero-add e)

    pub rule_line_lem : (i : ℕ) → i < length p.elements → is_left struck i ≡ true → is_rule_line text (line_at p struck i) ≡ rule_in p.elements i
    rule_line_lem i l e = rule_line_at text (left_policy p struck) s.accepts (left_count struck 0 i) ∙ at_line is_rule false i l e

    pub rule_name : (i : ℕ) → i < length p.elements → is_left struck i ≡ true → name_at text (line_at p struck i) ≡ name_in p.elements i
    rule_name i l e = name_line_at text (left_policy p struck) s.accepts (left_count struck 0 i) ∙ at_line name_of [] i l e

    -- A rule that is left
    module _ (i : ℕ) (kept : kept_at p struck i ≡ true) where
      abbrev is_left_lem : is_left struck i ≡ true
      is_left_lem = kept_left p struck i kept

      abbrev below : i < length p.elements
      below = kept_below p struck i kept

      pub kept_line_lem : is_rule_line text (line_at p struck i) ≡ true
      kept_line_lem = rule_line_lem i below is_left_lem ∙ kept_rule p struck i kept

      -- its line struck, and its flag set
      strike_lines : lines (strike (line_at p struck i) text) ≡ lines_left f p (set struck i 1) ++ ([] ∷ [])
      strike_lines =
          let k = line_at p struck i in
          let a = length p.attributes in
          let es = p.elements in
          let behind = drop a own in
          let before = lines_in (take (left_count struck 0 i) (left_from struck 0 es)) in
          let left = gathered (λ ls. ls) (left_from struck 0 (lines_by_element es behind)) in
          let one = rule_lines_lem p.attributes es (bounded f p h).elements_good i (kept_rule p struck i kept) in
          strike_without text (left_policy p struck) s.accepts k kept_line_lem
          ∙ ap (without k) (s.pieces ∙ append_assoc (take a own) left ([] ∷ []))
          ∙ without_behind (take a own) (left ++ ([] ∷ [])) a before (sym (length-take-le a own (omega (arith, counted))))
          ∙ ap (λ ls. take a own ++ ls) (line_struck struck es behind ([] ∷ []) i (omega (arith, counted, length-drop a own)) below (omega (arith, below, s.room)) is_left_lem one)
          ∙ sym (append_assoc (take a own) (gathered (λ ls. ls) (left_from (set struck i 1) 0 (lines_by_element es behind))) ([] ∷ []))

      pub strike_flag : strike (line_at p struck i) text ≡ text_left f p (set struck i 1)
      unfolding text_left
      strike_flag = text_unlines (strike (line_at p struck i) text) (lines_left f p (set struck i 1)) strike_lines

      policy_left : read (strike (line_at p struck i) text) ≡ given (left_policy p (set struck i 1))
      policy_left =
          let x = strike_read text (left_policy p struck) s.accepts (line_at p struck i) kept_line_lem in
          let b = struck_behind x in
          let c = left_count struck 0 i in
          let es = p.elements in
          let within = left_within struck 0 i es below (rw zero-add is_left_lem) in
          let at : c ≡ length x.front = lines_same (left_from struck 0 es) c (length x.front) within b.fewer (omega (arith, x.place, ap lines_in b.first)) in
          let others : x.front ++ x.back ≡ left_from (set struck i 1) 0 es =
          sym (without_behind x.front (x.gone ∷ x.back) c 0 at)
          ∙ rw add-zero (ap (without c) (sym x.whole))
          ∙ left_strike struck i es below (omega (arith, below, s.room)) is_left_lem in
          x.others ∙ ap (λ l. given (record { attributes = p.attributes; elements = l })) others

      pub stands_next : Stands f p (set struck i 1)
      stands_next = record {
        accepts = rw strike_flag at policy_left;
        pieces = rw strike_flag at strike_lines;
        room = rw (length-set struck i 1) s.room;
      }

      -- the first request that changes, and whether it is needless
      pub change_flag : first_change text (line_at p struck i) ≡ first_change_at p struck i
      unfolding first_change first_change_at changes_at
      change_flag = rw (s.accepts, strike_flag, stands_next.accepts)

      pub needless_flag : needless text (line_at p struck i) ≡ needless_at p struck i
      unfolding needless_at
      needless_flag = rw (kept_line_lem, change_flag, kept)
