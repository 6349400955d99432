-- Accepting: a proposal is accepted exactly if it is sound, and refused as the request says. Our own trimmed text is sound.
use mathlib.Core.Path.{◌≡◌, refl, sym, ap, ◌∙◌, subst}
use mathlib.Core.Logic.{◌↔◌}
use Prim.Native.Nat.{ℕ, suc, ◌<◌, zero-le}
use native.Mathlib.Omega.{arith}
use mathlib.Core.Bool.{true, false, ◌&&◌}
use mathlib.Core.List.{List, [], ◌∷◌, ◌++◌, map}
use mathlib.Core.Option
use mathlib.Core.Option.{Option, none, some}
use lib.ListN.{length}
use Rattle.meaning.specs.Text.{Bytes, bytes, any, keep, front, first_from, same, join, tab}
use Rattle.meaning.specs.Model.{Policy, Result, refused, given, unless_found}
use Rattle.meaning.specs.Reading.{read_lines, read}
use Rattle.meaning.specs.Trimming.{lines, field_of, rule_line, first_changed, needless, trimmed, file_lines}
use Rattle.meaning.specs.Writing.{header_tests}
use Rattle.meaning.specs.Accepting.{first_other, first_needless, judged}
use Rattle.meaning.specs.Claims.PolicyFile.{WellFormed}
use Rattle.meaning.specs.Claims.Writing.{attribute_line}
use Rattle.meaning.specs.Claims.Trimming.{Alike, Needless, FirstChange, stays}
use Rattle.meaning.specs.Claims.Accepting.{LeavesOut, up_to, kept, left_out, Sound, Unsound, other_line, line_left_over, other_outcome, needless_rule}
use Rattle.laws.proofs.Bools.{Test, passed, failed, test, contradiction, and_true}
use Rattle.laws.proofs.Text.{same_true}
use Rattle.laws.proofs.Search.{none-some, some_some, first_some, first_none, first_is, first_absent}
use Rattle.laws.proofs.Reading.{refused-given, given_given, front_snoc, accepted}
use Rattle.laws.proofs.FirstBad.{refused_refused}
use Rattle.laws.proofs.Rewritten.{only, header_attributes}
use Rattle.laws.proofs.Trimming as trimming-laws
use Rattle.laws.proofs.Trimming.{rule_needless, rule_within, not_needless, alike_of, change_of, alike_none, change_is, trimmed_steps, steps_alike, steps_end}
use Rattle.laws.proofs.FileLines.{file_lines_lem}
use Rattle.laws.proofs.OwnLines.{steps_own}
use Rattle.laws.proofs.OtherLines.{Found, other, over, leaves_out, none_other, found_so, so_found}

-- The lines that are compared
pub proposal_lines : (f : Bytes) (p : Policy) (w : WellFormed f p) → file_lines f ≡ map (join tab) w.rows
proposal_lines f p w = ap front (file_lines_lem f p w).are ∙ front_snoc (map (join tab) w.rows) []

-- The attribute lines stay, and with them the attributes
pub rule_no_attribute : (l : Bytes) → rule_line l ≡ true → attribute_line l ≡ false
rule_no_attribute l r = rw (same_true (field_of 0 l) (bytes "R") r)

attributes_stay : {os ls rest : List Bytes} → LeavesOut os ls rest → rest ≡ [] → keep attribute_line ls ≡ keep attribute_line os
attributes_stay (up_to rest) e = rw e
attributes_stay (kept l os ls rest x) e = go (test (attribute_line l)) (attributes_stay x e)
  where
    go : Test (attribute_line l) → keep attribute_line ls ≡ keep attribute_line os → keep attribute_line (l ∷ ls) ≡ keep attribute_line (l ∷ os)
    go (passed i) later = rw (i, later)
    go (failed i) later = rw (i, later)
attributes_stay (left_out o os ls rest r x) e = rw (rule_no_attribute o r) (attributes_stay x e)

same_attributes : (f g : Bytes) (p q : Policy) → read f ≡ given p → read g ≡ given q → LeavesOut (file_lines f) (file_lines g) [] → q.attributes ≡ p.attributes
same_attributes f g p q h i x =
    ap (λ s. s.attributes) (given_given (sym (header_attributes g q i) ∙ ap (λ ls. read_lines header_tests [] 1 (only []) ls) (attributes_stay x refl) ∙ header_attributes f p h))

-- The first needless rule, by its line
module _ (g : Bytes) (q : Policy) (i : read g ≡ given q) where
  abbrev found : Option ℕ
  found = first_from (needless g) 0 (length (lines g))

  none_needless : first_needless g ≡ none → (k : ℕ) → Needless g k → ⊥
  none_needless e k n = go found refl
    where
      go : (o : Option ℕ) → found ≡ o → ⊥
      go none z = contradiction (rule_needless g k n) (first_none (needless g) 0 (length (lines g)) z k zero-le (omega (arith, rule_within g k n.rule_line)))
      go (some j) z = none-some (sym e ∙ ap (Option.map suc) z)

  needless_none : ((k : ℕ) → Needless g k → ⊥) → first_needless g ≡ none
  needless_none needed = ap (Option.map suc) (first_absent (needless g) 0 (length (lines g)) (λ k l u. go k (test (needless g k))))
    where
      go : (k : ℕ) → Test (needless g k) → needless g k ≡ false
      go k (passed e) = absurd (needed k (trimming-laws.needless_rule g q i k e))
      go k (failed e) = e

  -- topmost
  record Topmost (n : ℕ) : Type 0 where
    place : ℕ
    line : n ≡ suc place
    is_needless : Needless g place
    no_earlier : (j : ℕ) → j < place → Needless g j → ⊥

  topmost : (n : ℕ) → first_needless g ≡ some n → Topmost n
  topmost n e = go found refl
    where
      go : (o : Option ℕ) → found ≡ o → Topmost n
      go none z = none-some (sym (ap (Option.map suc) z) ∙ e)
      go (some k) z =
          let x = first_some (needless g) 0 (length (lines g)) k z in
          record {
            place = k;
            line = some_some (sym e ∙ ap (Option.map suc) z);
            is_needless = trimming-laws.needless_rule g q i k x.holds;
            no_earlier = λ j l. not_needless g j (x.no_earlier j zero-le l);
          }

  topmost_found : (k : ℕ) → Needless g k → ((j : ℕ) → j < k → Needless g j → ⊥) → first_needless g ≡ some (suc k)
  topmost_found k n earlier =
      ap (Option.map suc) (first_is (needless g) 0 (length (lines g)) k (record {
        low = zero-le;
        high = omega (arith, rule_within g k n.rule_line);
        holds = rule_needless g k n;
        no_earlier = λ j l u. go j u (test (needless g j));
      }))
    where
      go : (j : ℕ) → j < k → Test (needless g j) → needless g j ≡ false
      go j u (passed e) = absurd (earlier j u (trimming-laws.needless_rule g q i j e))
      go j u (failed e) = e

module _ (f : Bytes) (p : Policy) (g : Bytes) (q : Policy) (h : read f ≡ given p) (i : read g ≡ given q) where
  abbrev other_lines_lem : Option ℕ
  other_lines_lem = first_other 1 (file_lines f) (file_lines g)

  abbrev changed : Option ℕ
  changed = first_changed (given p) (given q)

  -- What is told, by what is found first
  data Verdict : Result Bytes → Type 0 where
    line_found : (n : ℕ) → other_lines_lem ≡ some n → Verdict (refused 16 n)
    change_found : (n : ℕ) → LeavesOut (file_lines f) (file_lines g) [] → FirstChange p q n → Verdict (refused 17 n)
    rule_found : (n : ℕ) → LeavesOut (file_lines f) (file_lines g) [] → Alike p q → Topmost g q i n → Verdict (refused 18 n)
    none_found : Sound f p g q → Verdict (given g)

  verdict : Verdict (judged f p g q)
  unfolding judged
  verdict = by_line other_lines_lem refl changed refl (first_needless g) refl
    where
      by_rule : LeavesOut (file_lines f) (file_lines g) [] → Alike p q → (o : Option ℕ) → first_needless g ≡ o → Verdict (unless_found 18 o (given g))
      by_rule x a none e = none_found (record { leaves_out = x; alike = a; none_needless = none_needless g q i e })
      by_rule x a (some n) e = rule_found n x a (topmost g q i n e)

      by_change : LeavesOut (file_lines f) (file_lines g) [] → (c : Option ℕ) → changed ≡ c → (o : Option ℕ) → first_needless g ≡ o → Verdict (unless_found 17 c (unless_found 18 o (given g)))
      by_change x none d o e = by_rule x (alike_of p q (same_attributes f g p q h i x) d) o e
      by_change x (some n) d o e = change_found n x (change_of p q (same_attributes f g p q h i x) n d)

      by_line : (l : Option ℕ) → other_lines_lem ≡ l → (c : Option ℕ) → changed ≡ c → (o : Option ℕ) → first_needless g ≡ o → Verdict (unless_found 16 l (unless_found 17 c (unless_found 18 o (given g))))
      by_line none b c d o e = by_change (leaves_out (file_lines f) (file_lines g) b) c d o e
      by_line (some n) b c d o e = line_found n b

  -- and by what is sound
  sound_given : Sound f p g q → judged f p g q ≡ given g
  unfolding judged
  sound_given s = rw (none_other (file_lines f) (file_lines g) s.leaves_out, alike_none p q s.alike, needless_none g q i s.none_needless)

  pub accepting : (t : Bytes) → judged f p g q ≡ given t ↔ (Sound f p g q × (t ≡ g))
  accepting t = (λ e. go verdict e, λ s. sound_given s.0 ∙ ap given (sym s.1))
    where
      go : {r : Result Bytes} → Verdict r → r ≡ given t → Sound f p g q × (t ≡ g)
      go (line_found n x) e = refused-given e
      go (change_found n x y) e = refused-given e
      go (rule_found n x y z) e = refused-given e
      go (none_found s) e = (s, sym (given_given e))

  told : {n m : ℕ} → Unsound f p g q n m → judged f p g q ≡ refused n m
  unfolding judged
  told (other_line n x) = rw (so_found (file_lines f) (file_lines g) n (other n x))
  told (line_left_over x) = rw (so_found (file_lines f) (file_lines g) 0 (over x))
  told (other_outcome n x c) = rw (none_other (file_lines f) (file_lines g) x, change_is p q n c)
  told (needless_rule k x a n earlier) = rw (none_other (file_lines f) (file_lines g) x, alike_none p q a, topmost_found g q i k n earlier)

  line_told : {n : ℕ} → Found (file_lines f) (file_lines g) n → Unsound f p g q 16 n
  line_told (other n x) = other_line n x
  line_told (over x) = line_left_over x

  pub not_accepting : (n m : ℕ) → judged f p g q ≡ refused n m ↔ Unsound f p g q n m
  not_accepting n m = (λ e. go verdict e, told)
    where
      as_told : (k l : ℕ) → ◌≡◌ {A = Result Bytes} (refused k l) (refused n m) → Unsound f p g q k l → Unsound f p g q n m
      as_told k l e u = let (a, b) = refused_refused e in subst (λ x. Unsound f p g q x m) a (subst (Unsound f p g q k) b u)

      go : {r : Result Bytes} → Verdict r → r ≡ refused n m → Unsound f p g q n m
      go (line_found l x) e = as_told 16 l e (line_told (found_so (file_lines f) (file_lines g) l x))
      go (change_found l x y) e = as_told 17 l e (other_outcome l x y)
      go (rule_found l x a z) e = as_told 18 l e (subst (Unsound f p g q 18) (sym z.line) (needless_rule z.place x a z.is_needless z.no_earlier))
      go (none_found s) e = refused-given (sym e)

-- Our own trimmed text
kept_out : (names ls : List Bytes) → LeavesOut ls (keep (stays names) ls) []
kept_out names [] = up_to []
kept_out names (l ∷ ls) = go (test (rule_line l && any (same (field_of 2 l)) names)) (kept_out names ls)
  where
    go : Test (rule_line l && any (same (field_of 2 l)) names) → LeavesOut ls (keep (stays names) ls) [] → LeavesOut (l ∷ ls) (keep (stays names) (l ∷ ls)) []
    go (passed e) x = rw e (left_out l ls (keep (stays names) ls) [] (and_true (rule_line l) (any (same (field_of 2 l)) names) e).0 x)
    go (failed e) x = rw e (kept l ls (keep (stays names) ls) [] x)

keep_ended : (names ls : List Bytes) → keep (stays names) (ls ++ ([] ∷ [])) ≡ keep (stays names) ls ++ ([] ∷ [])
keep_ended names [] = refl
keep_ended names (l ∷ ls) = go (test (stays names l)) (keep_ended names ls)
  where
    go : Test (stays names l) → keep (stays names) (ls ++ ([] ∷ [])) ≡ keep (stays names) ls ++ ([] ∷ []) → keep (stays names) (l ∷ ls ++ ([] ∷ [])) ≡ keep (stays names) (l ∷ ls) ++ ([] ∷ [])
    go (passed e) later = rw (e, later)
    go (failed e) later = rw (e, later)

pub own_trimmed : (f : Bytes) (p : Policy) → read f ≡ given p → (q : Policy) × (read (trimmed f).text ≡ given q) × Sound f p (trimmed f).text q
own_trimmed f p h =
    let s = trimmed_steps f p h in
    let names = (trimmed f).struck in
    let own = file_lines f in
    let (q, i, a) = steps_alike s p h in
    let whole : lines (trimmed f).text ≡ keep (stays names) own ++ ([] ∷ []) = steps_own s ∙ ap (keep (stays names)) (accepted f p h).text.pieces ∙ keep_ended names own in
    let left : file_lines (trimmed f).text ≡ keep (stays names) own = ap front whole ∙ front_snoc (keep (stays names) own) [] in
    (q, i, record { leaves_out = rw left (kept_out names own); alike = a; none_needless = steps_end s })
