-- Proposals by their lines: what the search for a line that isn't the next original one finds.
use mathlib.Core.Path.{◌≡◌, refl, sym, ap, ◌∙◌, subst}
use Prim.Native.Nat.{ℕ, suc, ◌+◌}
use native.Mathlib.Nat.{add-zero}
use native.Mathlib.Omega.{arith}
use mathlib.Core.Bool.{true, false, false≢true}
use mathlib.Core.List.{List, [], ◌∷◌, ◌++◌, append_assoc}
use mathlib.Core.Option.{Option, none, some}
use lib.ListN.{length}
use Rattle.meaning.specs.Text.{Bytes, all, same}
use Rattle.meaning.specs.Trimming.{rule_line}
use Rattle.meaning.specs.Accepting.{first_other}
use Rattle.meaning.specs.Claims.Accepting.{LeavesOut, up_to, kept, left_out, Match, OtherLine, LeftOver}
use Rattle.laws.proofs.Bools.{Test, passed, failed, test, contradiction, and_true, never}
use Rattle.laws.proofs.Text.{same_true, same_refl}
use Rattle.laws.proofs.Search.{some_some}

-- a rule line of the proposal may be left out too
drop_rule : {os ls rest : List Bytes} (l : Bytes) → rule_line l ≡ true → LeavesOut os (l ∷ ls) rest → LeavesOut os ls rest
drop_rule l r (kept l' os ls rest x) = left_out l' os ls rest r x
drop_rule l r (left_out o os ls' rest s x) = left_out o os _ rest s (drop_rule l r x)

-- An original line that is the next proposal line may be taken at once
pub taken : {o l : Bytes} {os ls rest : List Bytes} → o ≡ l → LeavesOut (o ∷ os) (l ∷ ls) rest → LeavesOut os ls rest
taken e (kept l' os ls rest y) = y
taken e (left_out o' os ls' rest r y) = drop_rule _ (rw (← e) r) y

-- one that isn't is a rule's, and is left out
skipped : {o l : Bytes} {os ls rest : List Bytes} → same o l ≡ false → LeavesOut (o ∷ os) (l ∷ ls) rest → (rule_line o ≡ true) × LeavesOut os (l ∷ ls) rest
skipped e (kept l' os ls rest y) = contradiction (same_refl l') e
skipped e (left_out o' os ls' rest r y) = (r, y)

-- Behind the original's end nothing matches
pub at_the_end : {os ls rest : List Bytes} → LeavesOut os ls rest → os ≡ [] → ls ≡ []
at_the_end (up_to rest) e = refl
at_the_end (kept l os ls rest x) e = never cc
at_the_end (left_out o os ls rest r x) e = never cc

nothing_left : {ls rest : List Bytes} {l : Bytes} → LeavesOut [] (l ∷ ls) rest → ⊥
nothing_left x = let none-there = at_the_end x refl in never cc

-- where the proposal has ended, what is left over are rule lines, if the rest is
rules_left : (os : List Bytes) → all rule_line os ≡ true → LeavesOut os [] []
rules_left [] e = up_to []
rules_left (o ∷ os) e = let (r, later) = and_true (rule_line o) (all rule_line os) e in left_out o os [] [] r (rules_left os later)

rules_same : {os rest : List Bytes} → LeavesOut os [] rest → all rule_line os ≡ all rule_line rest
rules_same (up_to rest) = refl
rules_same (left_out o os ls rest r x) = rw r (rules_same x)

-- Of lines that match the first ones do
first_match : {os ms rest : List Bytes} → LeavesOut os ms rest → (xs ys : List Bytes) → ms ≡ xs ++ ys → Match os xs
first_match (up_to rest) [] ys e = (rest, up_to rest)
first_match (up_to rest) (x ∷ xs) ys e = never cc
first_match (kept l os ls rest y) [] ys e = (l ∷ os, up_to (l ∷ os))
first_match (kept l os ls rest y) (x ∷ xs) ys e =
    let first : l ≡ x = cc in
    let (r, z) = first_match y xs ys cc in
    (r, subst (λ m. LeavesOut (l ∷ os) (m ∷ xs) r) first (kept l os xs r z))
first_match (left_out o os ls rest s y) xs ys e = let (r, z) = first_match y xs ys e in (r, left_out o os xs r s z)

-- so none of them is another
none_match : {os ls rest : List Bytes} {n : ℕ} → OtherLine os ls n → LeavesOut os ls rest → ⊥
none_match o x = o.not_matching (first_match x (o.before ++ (o.other ∷ [])) o.after (o.are ∙ sym (append_assoc o.before (o.other ∷ []) o.after)))

-- What the search from number k on may find: nothing, a line, or one that is left over
data Told (k : ℕ) (os ls : List Bytes) : Option ℕ → Type 0 where
  no_other : LeavesOut os ls [] → Told k os ls none
  one_other : (m : ℕ) → OtherLine os ls (suc m) → Told k os ls (some (k + m))
  one_over : LeftOver os ls → Told k os ls (some 0)

-- an original line that the proposal has, and one that it leaves out
told_taken : (k : ℕ) (l : Bytes) (os ls : List Bytes) {x : Option ℕ} → Told (suc k) os ls x → Told k (l ∷ os) (l ∷ ls) x
told_taken k l os ls (no_other y) = no_other (kept l os ls [] y)
told_taken k l os ls (one_other m y) =
    let next : k + suc m ≡ suc k + m = omega arith in
    let (rest, match) = y.matching in
    subst (λ n. Told k (l ∷ os) (l ∷ ls) (some n)) next (one_other (suc m) (record {
      before = l ∷ y.before;
      other = y.other;
      after = y.after;
      are = ap (λ ms. l ∷ ms) y.are;
      place = ap suc y.place;
      matching = (rest, kept l os y.before rest match);
      not_matching = λ z. y.not_matching (z.0, taken refl z.1);
    }))
told_taken k l os ls (one_over y) =
    let (rest, match) = y.matching in
    one_over (record { matching = (rest, kept l os ls rest match); left_over = λ rest z. y.left_over rest (taken refl z) })

starts_so : (before after ls : List Bytes) (other l : Bytes) → l ∷ ls ≡ before ++ (other ∷ after) → (ms : List Bytes) × (before ++ (other ∷ []) ≡ l ∷ ms)
starts_so [] after ls other l e = let first : other ≡ l = cc in ([], ap (λ x. x ∷ []) first)
starts_so (x ∷ before) after ls other l e = let first : x ≡ l = cc in (before ++ (other ∷ []), ap (λ y. y ∷ before ++ (other ∷ [])) first)

module _ (k : ℕ) (o l : Bytes) (os ls : List Bytes) (unlike : same o l ≡ false) where
  pass : {ms rest : List Bytes} → (ns : List Bytes) × (ms ≡ l ∷ ns) → LeavesOut (o ∷ os) ms rest → LeavesOut os ms rest
  pass {ms} {rest} (ns, e) x = subst (λ y. LeavesOut os y rest) (sym e) (skipped unlike (subst (λ y. LeavesOut (o ∷ os) y rest) e x)).1

  told_skipped : rule_line o ≡ true → {x : Option ℕ} → Told k os (l ∷ ls) x → Told k (o ∷ os) (l ∷ ls) x
  told_skipped r (no_other y) = no_other (left_out o os (l ∷ ls) [] r y)
  told_skipped r (one_other m y) =
      let (rest, match) = y.matching in
      one_other m (record {
        before = y.before;
        other = y.other;
        after = y.after;
        are = y.are;
        place = y.place;
        matching = (rest, left_out o os y.before rest r match);
        not_matching = λ z. y.not_matching (z.0, pass (starts_so y.before y.after ls y.other l y.are) z.1);
      })
  told_skipped r (one_over y) =
      let (rest, match) = y.matching in
      one_over (record { matching = (rest, left_out o os (l ∷ ls) rest r match); left_over = λ rest z. y.left_over rest (skipped unlike z).1 })

-- the first proposal line itself
first_other_lem : (k : ℕ) (os ls : List Bytes) (l : Bytes) → (Match os (l ∷ []) → ⊥) → Told k os (l ∷ ls) (some k)
first_other_lem k os ls l none_so = subst (λ n. Told k os (l ∷ ls) (some n)) (add-zero k) (one_other 0 (record { before = []; other = l; after = ls; are = refl; place = refl; matching = (os, up_to os); not_matching = none_so }))

told : (k : ℕ) (os ls : List Bytes) → Told k os ls (first_other k os ls)
told k os [] = go (test (all rule_line os))
  where
    go : Test (all rule_line os) → Told k os [] (first_other k os [])
    go (passed e) = rw e (no_other (rules_left os e))
    go (failed e) = rw e (one_over (record { matching = (os, up_to os); left_over = λ rest x. sym (rules_same x) ∙ e }))
told k [] (l ∷ ls) = first_other_lem k [] ls l (λ m. nothing_left m.1)
told k (o ∷ os) (l ∷ ls) = go (test (same o l)) (test (rule_line o)) (told (suc k) os ls) (told k os (l ∷ ls))
  where
    go : Test (same o l) → Test (rule_line o) → Told (suc k) os ls (first_other (suc k) os ls) → Told k os (l ∷ ls) (first_other k os (l ∷ ls)) → Told k (o ∷ os) (l ∷ ls) (first_other k (o ∷ os) (l ∷ ls))
    go (passed e) r next skip = rw e (subst (λ x. Told k (o ∷ os) (x ∷ ls) (first_other (suc k) os ls)) (same_true o l e) (told_taken k o os ls next))
    go (failed e) (passed r) next skip = rw (e, r) (told_skipped k o l os ls e r skip)
    go (failed e) (failed r) next skip = rw (e, r) (first_other_lem k (o ∷ os) ls l (λ m. contradiction (skipped e m.1).0 r))

-- Nothing is found exactly if only rule lines are left out
pub leaves_out : (os ls : List Bytes) → first_other 1 os ls ≡ none → LeavesOut os ls []
leaves_out os ls h = go (told 1 os ls) h
  where
    go : {x : Option ℕ} → Told 1 os ls x → x ≡ none → LeavesOut os ls []
    go (no_other y) e = y
    go (one_other m y) e = never cc
    go (one_over y) e = never cc

not_over : {os ls : List Bytes} → LeftOver os ls → LeavesOut os ls [] → ⊥
not_over y x = false≢true (sym (y.left_over [] x))

pub none_other : (os ls : List Bytes) → LeavesOut os ls [] → first_other 1 os ls ≡ none
none_other os ls x = go (told 1 os ls)
  where
    go : {o : Option ℕ} → Told 1 os ls o → o ≡ none
    go (no_other y) = refl
    go (one_other m y) = absurd (none_match y x)
    go (one_over y) = absurd (not_over y x)

-- What is found is another line, or 0 where one is left over
pub data Found (os ls : List Bytes) : ℕ → Type 0 where
  other : (n : ℕ) → OtherLine os ls n → Found os ls n
  over : LeftOver os ls → Found os ls 0

pub found_so : (os ls : List Bytes) (n : ℕ) → first_other 1 os ls ≡ some n → Found os ls n
found_so os ls n h = go (told 1 os ls) h
  where
    go : {x : Option ℕ} → Told 1 os ls x → x ≡ some n → Found os ls n
    go (no_other y) e = never cc
    go (one_other m y) e = let at : suc m ≡ n = omega (arith, some_some e) in subst (Found os ls) at (other (suc m) y)
    go (one_over y) e = let at : 0 ≡ n = cc in subst (Found os ls) at (over y)

-- and each of these is found
other_at : (k : ℕ) (os before after : List Bytes) (l : Bytes) → Match os before → (Match os (before ++ (l ∷ [])) → ⊥) → first_other k os (before ++ (l ∷ after)) ≡ some (k + length before)
other_at k [] [] after l m none_so = ap some (sym (add-zero k))
other_at k [] (x ∷ before) after l m none_so = absurd (nothing_left m.1)
other_at k (o ∷ os) [] after l m none_so = go (test (same o l)) (test (rule_line o)) (other_at k os [] after l)
  where
    go : Test (same o l) → Test (rule_line o) → (Match os [] → (Match os (l ∷ []) → ⊥) → first_other k os (l ∷ after) ≡ some (k + 0)) → first_other k (o ∷ os) (l ∷ after) ≡ some (k + 0)
    go (passed e) r skip = absurd (none_so (os, subst (λ x. LeavesOut (o ∷ os) (x ∷ []) os) (same_true o l e) (kept o os [] os (up_to os))))
    go (failed e) (passed r) skip = rw (e, r) (skip (os, up_to os) (λ z. none_so (z.0, left_out o os (l ∷ []) z.0 r z.1)))
    go (failed e) (failed r) skip = rw (e, r) (ap some (sym (add-zero k)))
other_at k (o ∷ os) (x ∷ before) after l (rest, m) none_so = go (test (same o x)) (other_at (suc k) os before after l) (other_at k os (x ∷ before) after l)
  where
    go : Test (same o x) → (Match os before → (Match os (before ++ (l ∷ [])) → ⊥) → first_other (suc k) os (before ++ (l ∷ after)) ≡ some (suc k + length before))
        → (Match os (x ∷ before) → (Match os (x ∷ before ++ (l ∷ [])) → ⊥) → first_other k os (x ∷ before ++ (l ∷ after)) ≡ some (k + suc (length before)))
        → first_other k (o ∷ os) (x ∷ before ++ (l ∷ after)) ≡ some (k + suc (length before))
    go (passed e) next skip =
        let same_line = same_true o x e in
        let moved : suc k + length before ≡ k + suc (length before) = omega arith in
        rw e (next (rest, taken same_line m) (λ z. none_so (z.0, subst (λ y. LeavesOut (o ∷ os) (y ∷ before ++ (l ∷ [])) z.0) same_line (kept o os (before ++ (l ∷ [])) z.0 z.1)))) ∙ ap some moved
    go (failed e) next skip =
        let (r, y) = skipped e m in
        rw (e, r) (skip (rest, y) (λ z. none_so (z.0, left_out o os (x ∷ before ++ (l ∷ [])) z.0 r z.1)))

pub so_found : (os ls : List Bytes) (n : ℕ) → Found os ls n → first_other 1 os ls ≡ some n
so_found os ls n (other m y) =
    let at : 1 + length y.before ≡ m = omega (arith, y.place) in
    ap (first_other 1 os) y.are ∙ other_at 1 os y.before y.after y.other y.matching y.not_matching ∙ ap some at
so_found os ls n (over y) = go (told 1 os ls)
  where
    go : {x : Option ℕ} → Told 1 os ls x → x ≡ some 0
    go (no_other x) = absurd (not_over y x)
    go (one_other m x) = absurd (none_match x y.matching.1)
    go (one_over x) = refl
