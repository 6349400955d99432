-- The lines that trimming leaves are the file's lines, without exactly the rule lines whose names are among the struck.
use mathlib.Core.Path.{◌≡◌, refl, sym, ap, ◌∙◌, subst}
use Prim.Native.Nat.{ℕ, zero, suc}
use mathlib.Core.Bool.{Bool, true, false, not, ◌&&◌, ◌||◌}
use mathlib.Core.List.{List, [], ◌∷◌, ◌++◌, map}
use lib.ListN.{get_or}
use Rattle.meaning.specs.Text.{Bytes, any, keep, without, front, same, same_name, among_names, cut, tab}
use Rattle.meaning.specs.Model.{name_of, Policy, given}
use Rattle.meaning.specs.Reading.{Line, attribute_line, tree_line, other_line, line_of, element_of, Sofar, line_tests, extended, read_lines, nothing, read, obligation_line, obligation_of, nearest_with}
use Rattle.meaning.specs.Trimming.{lines, field_of, rule_line, name_at, strike}
use Rattle.meaning.specs.Claims.Trimming.{Needless, Trims, none_left, last_struck, stays}
use Rattle.laws.proofs.Types.{rule, Obligation, Element}
use Rattle.laws.proofs.Bools.{Test, passed, failed, test, contradiction, or_false, or_true, and_true}
use Rattle.laws.proofs.Text.{same_true, same_refl}
use Rattle.laws.proofs.Names.{name_refl, not_same}
use Rattle.laws.proofs.Reading.{line_numbered, PassesLine, read_step, accepted}
use Rattle.laws.proofs.Lines.{tree_fields}
use Rattle.laws.proofs.Bounds.{padded_name}
use Rattle.laws.proofs.Striking.{other-refused, RuleLine, a_rule_line, no_line, rule_line_of, strike_without}

abbrev name_in : Bytes → Bytes
name_in l = field_of 2 l

-- a rule's line of this name
abbrev called : Bytes → Bytes → Bool
called n l = rule_line l && same (name_in l) n

-- each rule's name is on one line
NamesOnce : List Bytes → Type 0
NamesOnce [] = Unit {0}
NamesOnce (l ∷ ls) = (rule_line l ≡ true → any (called (name_in l)) ls ≡ false) × NamesOnce ls

abbrev names : Sofar → List Bytes
names s = map name_of s.before

nearest_known : (n : Bytes) (o : Obligation) (es : List Element) → among_names n (map name_of es) ≡ true → among_names n (map name_of (nearest_with o es)) ≡ true
nearest_known n o [] h = h
nearest_known n o (e ∷ es) h = h

-- a name that is there stays
known_stays : (n : Bytes) (s : Sofar) (l : Line) → among_names n (names s) ≡ true → among_names n (names (extended s l)) ≡ true
known_stays n s (attribute_line a) h = h
known_stays n s (tree_line k d m w ts) h = or_true (same_name n (name_of (element_of s.attributes k d m w ts))) (among_names n (names s)) h
known_stays n s (obligation_line m w) h = nearest_known n (obligation_of m w) s.before h
known_stays n s other_line h = h

-- a rule line that is read has a name that was not there, and then is
record NameAdded (s : Sofar) (l : Bytes) : Type 0 where
  was_new : among_names (name_in l) (names s) ≡ false
  is_known : among_names (name_in l) (names (extended s (line_of (cut tab l)))) ≡ true

rule_read : (s : Sofar) (l : Bytes) → rule_line l ≡ true → PassesLine line_tests line_numbered s (cut tab l) (line_of (cut tab l)) → NameAdded s l
rule_read s l r t = go (line_of (cut tab l)) refl (rule_line_of (cut tab l) r) t
  where
    go : (x : Line) → line_of (cut tab l) ≡ x → RuleLine x → PassesLine line_tests line_numbered s (cut tab l) x → NameAdded s l
    go x e (a_rule_line d n w ts) (f2, (f3, (f4, f))) =
        let m : name_in l ≡ name_of (element_of s.attributes rule d n w ts) = ap (λ fs. get_or fs 2 []) (tree_fields (cut tab l) rule d n w ts e) ∙ sym (padded_name s.attributes rule d n w ts) in
        record { was_new = subst (λ y. among_names y (names s) ≡ false) (sym m) f4; is_known = rw (e, m, name_refl (name_of (element_of s.attributes rule d n w ts))) }
    go x e no_line (f2, f) = other-refused s (cut tab l) f2

-- no later rule line has a name that is there
later_names_lem : (n : Bytes) (rest : Bytes) (k : ℕ) (s : Sofar) (ls : List Bytes) (z : Sofar) → read_lines line_tests rest k s ls ≡ given z → among_names n (names s) ≡ true → any (called n) ls ≡ false
later_names_lem n rest k s [] z h e = refl
later_names_lem n rest k s (l ∷ ls) z h e =
    let (a, b) = read_step line_tests line_numbered rest k s l ls z h in
    go (test (rule_line l)) a (later_names_lem n rest (suc k) (extended s (line_of (cut tab l))) ls z b (known_stays n s (line_of (cut tab l)) e))
  where
    go : Test (rule_line l) → PassesLine line_tests line_numbered s (cut tab l) (line_of (cut tab l)) → any (called n) ls ≡ false → any (called n) (l ∷ ls) ≡ false
    go (passed r) t ih = rw (r, not_same (name_in l) n (names s) (rule_read s l r t).was_new e, ih)
    go (failed r) t ih = rw (r, ih)

lines_once : (rest : Bytes) (k : ℕ) (s : Sofar) (ls : List Bytes) (z : Sofar) → read_lines line_tests rest k s ls ≡ given z → NamesOnce ls
unfolding NamesOnce
lines_once rest k s [] z h = tt
lines_once rest k s (l ∷ ls) z h =
    let (a, b) = read_step line_tests line_numbered rest k s l ls z h in
    (λ r. later_names_lem (name_in l) rest (suc k) (extended s (line_of (cut tab l))) ls z b (rule_read s l r a).is_known, lines_once rest (suc k) (extended s (line_of (cut tab l))) ls z b)

once_ended : (ls : List Bytes) → NamesOnce ls → NamesOnce (ls ++ ([] ∷ []))
unfolding NamesOnce
once_ended [] h = (λ r. refl, tt)
once_ended (l ∷ ls) h = (λ r. ended_any (called (name_in l)) ls refl (h.0 r), once_ended ls h.1)
  where
    ended_any : (p : Bytes → Bool) (ms : List Bytes) → p [] ≡ false → any p ms ≡ false → any p (ms ++ ([] ∷ [])) ≡ false
    ended_any p [] e a = rw e
    ended_any p (m ∷ ms) e a = let b = or_false (p m) (any p ms) a in rw (b.0, ended_any p ms e b.1)

file_once : (f : Bytes) (p : Policy) → read f ≡ given p → NamesOnce (lines f)
file_once f p h =
    let a = accepted f p h in
    subst NamesOnce (sym a.text.pieces) (once_ended (front (lines f)) (lines_once [] 1 nothing (front (lines f)) a.sofar a.text.lines_read))

-- Keeping
keep_all : (c : Bytes → Bool) (ls : List Bytes) → any c ls ≡ false → keep (λ l. not (c l)) ls ≡ ls
keep_all c [] h = refl
keep_all c (l ∷ ls) h = let a = or_false (c l) (any c ls) h in rw (a.0, keep_all c ls a.1)

keep_same : (p q : Bytes → Bool) → ((l : Bytes) → p l ≡ q l) → (ls : List Bytes) → keep p ls ≡ keep q ls
keep_same p q h [] = refl
keep_same p q h (l ∷ ls) = rw (h l, keep_same p q h ls)

keep_keep : (p q : Bytes → Bool) (ls : List Bytes) → keep p (keep q ls) ≡ keep (λ l. q l && p l) ls
keep_keep p q [] = refl
keep_keep p q (l ∷ ls) = go (test (q l)) (keep_keep p q ls)
  where
    go : Test (q l) → keep p (keep q ls) ≡ keep (λ l. q l && p l) ls → keep p (keep q (l ∷ ls)) ≡ keep (λ l. q l && p l) (l ∷ ls)
    go (passed e) ih = rw (e, ih)
    go (failed e) ih = rw (e, ih)

any_at : (p : Bytes → Bool) (ls : List Bytes) (k : ℕ) → p [] ≡ false → p (get_or ls k []) ≡ true → any p ls ≡ true
any_at p [] k e h = contradiction h e
any_at p (l ∷ ls) zero e h = rw h
any_at p (l ∷ ls) (suc k) e h = or_true (p l) (any p ls) (any_at p ls k e h)

-- To strike a rule line is to leave out the rule line of that name
without_keep : (k : ℕ) (ls : List Bytes) → NamesOnce ls → rule_line (get_or ls k []) ≡ true → without k ls ≡ keep (λ l. not (called (name_in (get_or ls k [])) l)) ls
unfolding NamesOnce
without_keep k [] o r = refl
without_keep zero (l ∷ ls) o r = rw (r, same_refl (name_in l)) (sym (keep_all (called (name_in l)) ls (o.0 r)))
without_keep (suc k) (l ∷ ls) o r = go (test (called (name_in (get_or ls k [])) l)) (without_keep k ls o.1 r)
  where
    go : Test (called (name_in (get_or ls k [])) l) → without k ls ≡ keep (λ l. not (called (name_in (get_or ls k [])) l)) ls → l ∷ without k ls ≡ keep (λ l. not (called (name_in (get_or ls k [])) l)) (l ∷ ls)
    go (passed e) ih =
        let a = and_true (rule_line l) (same (name_in l) (name_in (get_or ls k []))) e in
        let n = same_true (name_in l) (name_in (get_or ls k [])) a.1 in
        contradiction (any_at (called (name_in l)) ls k refl (rw (r, n, same_refl (name_in (get_or ls k []))))) (o.0 a.0)
    go (failed e) ih = rw (e, ← ih)

-- The lines left by the steps of trimming
pub none_gone : (ls : List Bytes) → ls ≡ keep (stays []) ls
none_gone [] = refl
none_gone (l ∷ ls) = go (test (rule_line l)) (none_gone ls)
  where
    go : Test (rule_line l) → ls ≡ keep (stays []) ls → l ∷ ls ≡ keep (stays []) (l ∷ ls)
    go (passed e) ih = rw (e, ← ih)
    go (failed e) ih = rw (e, ← ih)

both_stay : (r s a : Bool) → (not (r && s) && not (r && a)) ≡ not (r && (s || a))
both_stay true true a = refl
both_stay true false a = refl
both_stay false s a = refl

pub one_gone : (f : Bytes) (k : ℕ) → Needless f k → (struck : List Bytes) → keep (stays struck) (lines (strike k f)) ≡ keep (stays (name_at f k ∷ struck)) (lines f)
one_gone f k n struck =
    let gone : lines (strike k f) ≡ keep (λ l. not (called (name_at f k) l)) (lines f) =
    strike_without f n.policy n.is_accepted k n.rule_line ∙ without_keep k (lines f) (file_once f n.policy n.is_accepted) n.rule_line in
    ap (keep (stays struck)) gone
    ∙ keep_keep (stays struck) (λ l. not (called (name_at f k) l)) (lines f)
    ∙ keep_same (λ l. not (called (name_at f k) l) && stays struck l) (stays (name_at f k ∷ struck)) (λ l. both_stay (rule_line l) (same (name_in l) (name_at f k)) (any (same (name_in l)) struck)) (lines f)

pub steps_own : {f t : Bytes} {struck : List Bytes} → Trims f struck t → lines t ≡ keep (stays struck) (lines f)
steps_own (none_left f needed) = none_gone (lines f)
steps_own (last_struck f k struck t n l s) = steps_own s ∙ one_gone f k n struck
