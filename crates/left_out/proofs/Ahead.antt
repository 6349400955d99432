-- Lines that a proposal still has to match: some of them taken at once, or passed over.
use mathlib.Core.Path.{◌≡◌, refl, sym, ap, ◌∙◌}
use native.Mathlib.Omega.{arith}
use mathlib.Core.Bool.{false}
use mathlib.Core.List.{List, [], ◌∷◌, ◌++◌, append_assoc}
use lib.ListN.{length, length-append}
use Rattle.meaning.specs.Text.{Bytes, cut, join, newline}
use Rattle.meaning.specs.Trimming.{rule_line}
use Rattle.laws.proofs.Bools.{contradiction, never}
use Rattle.laws.proofs.Text.{Frees, cut_append, join_cut}
use Rattle.laws.proofs.Lines.{unlines}
use Rattle.meaning.specs.Claims.Accepting.{LeavesOut, up_to, kept, left_out}
use Rattle.laws.proofs.OtherLines.{taken}

-- Lines that both begin with
pub taken_all : (xs os ls rest : List Bytes) → LeavesOut (xs ++ os) (xs ++ ls) rest → LeavesOut os ls rest
taken_all [] os ls rest x = x
taken_all (y ∷ xs) os ls rest x = taken_all xs os ls rest (taken refl x)

-- The original's next line is not the proposal's
pub passed_over : {o : Bytes} {os ls rest : List Bytes} → LeavesOut (o ∷ os) ls rest → rest ≡ [] → ((ms : List Bytes) → ls ≡ o ∷ ms → ⊥) → LeavesOut os ls rest
passed_over (up_to rest) e other = never cc
passed_over (kept l os ls rest x) e other = absurd (other ls refl)
passed_over (left_out o os ls rest r x) e other = x

-- lines of which none is a rule's are there
plain_one : {o : Bytes} {os ls rest : List Bytes} → LeavesOut (o ∷ os) ls rest → rest ≡ [] → rule_line o ≡ false → (ms : List Bytes) × (ls ≡ o ∷ ms) × LeavesOut os ms rest
plain_one (up_to rest) e plain = never cc
plain_one (kept l os ls rest x) e plain = (ls, refl, x)
plain_one (left_out o os ls rest r x) e plain = contradiction r plain

-- none of them is a rule line
abbrev pub Plain : List Bytes → Type 0
Plain [] = Unit {0}
Plain (l ∷ ls) = (rule_line l ≡ false) × Plain ls

pub plain_lines : (xs os ls rest : List Bytes) → Plain xs → LeavesOut (xs ++ os) ls rest → rest ≡ [] → (ms : List Bytes) × (ls ≡ xs ++ ms)
plain_lines [] os ls rest plain x e = (ls, refl)
plain_lines (y ∷ xs) os ls rest plain x e =
    let (ms, here, later) = plain_one x e plain.0 in
    let (ns, there) = plain_lines xs os ms rest plain.1 later e in
    (ns, here ∙ ap (λ zs. y ∷ zs) there)

-- A text of lines that begins with the text of some begins with these
pub record Begun (xs ls : List Bytes) (r : Bytes) : Type 0 where
  pub others : List Bytes
  pub are : ls ≡ xs ++ others
  pub text : r ≡ unlines others
  pub free : Frees newline others

pub begun : (xs ls : List Bytes) (r : Bytes) → Frees newline xs → Frees newline ls → unlines ls ≡ unlines xs ++ r → Begun xs ls r
begun [] ls r xf lf e = record { others = ls; are = refl; text = sym e; free = lf }
begun (x ∷ xs) [] r xf lf e =
    absurd (omega (arith, ap length e, length-append ((x ++ (newline ∷ [])) ++ unlines xs) r, length-append (x ++ (newline ∷ [])) (unlines xs), length-append x (newline ∷ [])))
begun (x ∷ xs) (l ∷ ls) r xf lf e =
    let whole : l ++ (newline ∷ unlines ls) ≡ x ++ (newline ∷ (unlines xs ++ r)) =
    sym (append_assoc l (newline ∷ []) (unlines ls)) ∙ e ∙ append_assoc (x ++ (newline ∷ [])) (unlines xs) r ∙ append_assoc x (newline ∷ []) (unlines xs ++ r) in
    let pieces : l ∷ cut newline (unlines ls) ≡ x ∷ cut newline (unlines xs ++ r) =
    sym (cut_append newline l (unlines ls) lf.0) ∙ ap (cut newline) whole ∙ cut_append newline x (unlines xs ++ r) xf.0 in
    let first : l ≡ x = cc in
    let behind : cut newline (unlines ls) ≡ cut newline (unlines xs ++ r) = cc in
    let rest : unlines ls ≡ unlines xs ++ r = sym (join_cut newline (unlines ls)) ∙ ap (join newline) behind ∙ join_cut newline (unlines xs ++ r) in
    let later = begun xs ls r xf.1 lf.1 rest in
    record { others = later.others; are = (λ i. first i ∷ later.are i); text = later.text; free = later.free }
