-- The first bad line of a text, under any tests: a text is refused exactly by it, and else what each line keeps holds at the end.
use mathlib.Core.Path.{◌≡◌, refl, sym, ap, ◌∙◌, subst}
use Prim.Native.Nat.{ℕ, zero, suc, ◌≤◌}
use native.Mathlib.Omega.{arith}
use mathlib.Core.Bool.{cond}
use mathlib.Core.List.{List, [], ◌∷◌, ◌++◌, map, map-append, append-nil}
use lib.ListN.{length, length-append}
use lib.Seq.{append_snoc}
use lib.Dec.{lit≤}
use Rattle.meaning.specs.Text.{Bytes, empty, front, last, gathered, cut, join, newline, tab, line}
use Rattle.meaning.specs.Model.{Result, refused, given, unless}
use Rattle.meaning.specs.Reading.{Line, line_of, Sofar, Tests, lowest, wrong_fields, extended, read_lines, nothing, read_text}
use Rattle.laws.proofs.Bools.{never}
use Rattle.laws.proofs.Text.{join_cut, cut_some, Frees}
use Rattle.laws.proofs.Reading.{refused-given, lowest_zero, Numbered, PassesLine, read_step, read_end, front_snoc, lines_of, ReadText, read_text_lem}
use Rattle.laws.proofs.Lines.{text_unlines, cut_unlines, rows_lines}
use Rattle.laws.proofs.Rewritten.{unlines_fields}

pub refused_refused : {A : Type 0} {a b c d : ℕ} → ◌≡◌ {A = Result A} (refused a b) (refused c d) → (a ≡ c) × (b ≡ d)
refused_refused h = (cc, cc)

pub unless_refused : {A : Type 0} (c n m : ℕ) (r : Result A) → c ≡ n → 1 ≤ n → unless c m r ≡ refused n m
unless_refused zero n m r e l = absurd (omega arith)
unless_refused (suc c) n m r e l = ap (λ x. refused x m) e

-- the lines of a text around one of them
front_mid : {A : Type 0} (xs : List A) (x y : A) (ys : List A) → front (xs ++ (x ∷ y ∷ ys)) ≡ xs ++ (x ∷ front (y ∷ ys))
front_mid [] x y ys = refl
front_mid (z ∷ []) x y ys = refl
front_mid (z ∷ w ∷ xs) x y ys = ap (λ l. z ∷ l) (front_mid (w ∷ xs) x y ys)

last_mid : {A : Type 0} (d : A) (xs : List A) (x : A) (ys : List A) → last d (xs ++ (x ∷ ys)) ≡ last x ys
last_mid d [] x ys = refl
last_mid d (z ∷ xs) x ys = last_mid z xs x ys

module _ (tests : Sofar → Line → Tests) (numbered : (s : Sofar) (l : Line) → Numbered (tests s l)) where
  abbrev pub all_tests : Sofar → List Bytes → Tests
  all_tests s fs = (2, wrong_fields s fs (line_of fs)) ∷ tests s (line_of fs)

  -- Why a line is refused, by its fields and the pieces behind it: it is not ended by a newline, or it is tested
  pub data Fails (s : Sofar) (fs : List Bytes) (n : ℕ) : List Bytes → Type 0 where
    unended : n ≡ 2 → Fails s fs n []
    tested : {l : Bytes} {ls : List Bytes} → lowest (all_tests s fs) ≡ n → 1 ≤ n → Fails s fs n (l ∷ ls)

  tested_at : (s : Sofar) (fs : List Bytes) (n : ℕ) (ls : List Bytes) (l : Bytes) → lowest (all_tests s fs) ≡ n → 1 ≤ n → Fails s fs n (ls ++ (l ∷ []))
  tested_at s fs n [] l e i = tested e i
  tested_at s fs n (x ∷ ls) l e i = tested e i

  -- What each line keeps, of what was read so far and of the fields of the lines read
  module _ (Inv : Sofar → List (List Bytes) → Type 0)
      (step : (s : Sofar) (done : List (List Bytes)) (fs : List Bytes) → PassesLine tests numbered s fs (line_of fs) → Inv s done → Inv (extended s (line_of fs)) (done ++ (fs ∷ [])))
      (start : Inv nothing []) where
    pub record FirstBad (f : Bytes) (n m : ℕ) : Type 0 where
      pub sofar : Sofar
      pub before : List (List Bytes)
      pub held : Inv sofar before
      pub bad : Bytes
      pub after : List Bytes
      pub are : cut newline f ≡ map (join tab) before ++ (bad ∷ after)
      pub is_line : bad ≡ [] → 1 ≤ length after
      pub fails : Fails sofar (cut tab bad) n after
      pub second : m ≡ suc (length before)

    module _ (f rest : Bytes) where
      abbrev AtLine : List (List Bytes) → List Bytes → Type 0
      AtLine done ls = cut newline f ≡ map (join tab) done ++ (ls ++ (rest ∷ []))

      next_line : (done : List (List Bytes)) (l : Bytes) (ls : List Bytes) → AtLine done (l ∷ ls) → AtLine (done ++ (cut tab l ∷ [])) ls
      next_line done l ls at =
          at ∙ sym (append_snoc (map (join tab) done) l (ls ++ (rest ∷ []))) ∙ ap (λ x. (map (join tab) done ++ (x ∷ [])) ++ (ls ++ (rest ∷ []))) (sym (join_cut tab l))
          ∙ ap (λ x. x ++ (ls ++ (rest ∷ []))) (sym (map-append (join tab) done (cut tab l ∷ [])))

      first_bad : (j : ℕ) (s : Sofar) (ls : List Bytes) (done : List (List Bytes)) → AtLine done ls → Inv s done → j ≡ suc (length done) → (n m : ℕ) → read_lines tests rest j s ls ≡ refused n m → FirstBad f n m
      first_bad j s [] done at held count n m h = go rest refl h
        where
          go : (r : Bytes) → rest ≡ r → cond (empty r) (given s) (refused 2 j) ≡ refused n m → FirstBad f n m
          go [] e i = refused-given (sym i)
          go (x ∷ xs) e i =
              let (a, b) = refused_refused i in
              record { sofar = s; before = done; held = held; bad = x ∷ xs; after = []; are = at ∙ ap (λ r. map (join tab) done ++ (r ∷ [])) e; is_line = λ y. never cc; fails = unended (sym a); second = sym b ∙ count }
      first_bad j s (l ∷ ls) done at held count n m h =
          go (lowest (all_tests s fs)) refl h
          (λ p r. first_bad (suc j) (extended s (line_of fs)) ls (done ++ (fs ∷ [])) (next_line done l ls at) (step s done fs p held) (omega (arith, count, length-append done (fs ∷ []))) n m r)
        where
          fs : List Bytes
          fs = cut tab l

          later : Result Sofar
          later = read_lines tests rest (suc j) (extended s (line_of fs)) ls

          go : (c : ℕ) → lowest (all_tests s fs) ≡ c → unless c j later ≡ refused n m → (PassesLine tests numbered s fs (line_of fs) → later ≡ refused n m → FirstBad f n m) → FirstBad f n m
          go zero e i more = more (lowest_zero (all_tests s fs) (lit≤ tt, numbered s (line_of fs)) e) i
          go (suc c) e i more =
              let (a, b) = refused_refused i in
              record { sofar = s; before = done; held = held; bad = l; after = ls ++ (rest ∷ []); are = at; is_line = λ y. omega (arith, length-append ls (rest ∷ [])); fails = tested_at s fs n ls rest (e ∙ a) (omega arith); second = sym b ∙ count }

    pub text_refused : (f : Bytes) (n m : ℕ) → read_text tests f ≡ refused n m → FirstBad f n m
    text_refused f n m h = first_bad f (last [] (cut newline f)) 1 nothing (front (cut newline f)) [] (lines_of (cut_some newline f)) start refl n m h

    -- or all lines are read
    lines_held : (n : ℕ) (s : Sofar) (ls : List Bytes) (done : List (List Bytes)) (z : Sofar) → read_lines tests [] n s ls ≡ given z → Inv s done → Inv z (done ++ map (cut tab) ls)
    lines_held n s [] done z h held = subst (λ x. Inv x (done ++ [])) (read_end tests numbered [] n s z h).1 (rw (append-nil done) held)
    lines_held n s (l ∷ ls) done z h held =
        let (p, r) = read_step tests numbered [] n s l ls z h in
        rw append_snoc at (lines_held (suc n) (extended s (line_of (cut tab l))) ls (done ++ (cut tab l ∷ [])) z r (step s done (cut tab l) p held))

    pub text_given : (f : Bytes) (z : Sofar) → ReadText tests numbered f z (front (cut newline f)) → (rows : List (List Bytes)) × (f ≡ gathered line rows) × Inv z rows
    text_given f z t =
        let ls = front (cut newline f) in
        (map (cut tab) ls, text_unlines f ls t.pieces ∙ unlines_fields ls, lines_held 1 nothing ls [] z t.lines_read start)

  -- And the other way: behind lines that are read, whatever follows, a line that fails is refused
  module _ (s : Sofar) (before : List (List Bytes)) (reads : (rest : Bytes) (more : List Bytes) → read_lines tests rest 1 nothing (map (join tab) before ++ more) ≡ read_lines tests rest (suc (length before)) s more) where
    pub bad_refused : (f bad : Bytes) (after : List Bytes) (n : ℕ) → cut newline f ≡ map (join tab) before ++ (bad ∷ after) → (bad ≡ [] → 1 ≤ length after) → Fails s (cut tab bad) n after → read_text tests f ≡ refused n (suc (length before))
    bad_refused f bad [] n are is (unended e) =
        rw (are, last_mid [] ls bad [], front_snoc ls bad) (ap (read_lines tests bad 1 nothing) (sym (append-nil ls)) ∙ reads bad [] ∙ no_newline bad is)
      where
        ls : List Bytes
        ls = map (join tab) before

        no_newline : (r : Bytes) → (r ≡ [] → 1 ≤ 0) → cond (empty r) (given s) (refused 2 (suc (length before))) ≡ refused n (suc (length before))
        no_newline [] i = absurd (omega (arith, i refl))
        no_newline (x ∷ xs) i = rw e
    bad_refused f bad (y ∷ ys) n are is (tested e l) =
        let fs = cut tab bad in
        let later = read_lines tests (last y ys) (suc (suc (length before))) (extended s (line_of fs)) (front (y ∷ ys)) in
        rw (are, last_mid [] (map (join tab) before) bad (y ∷ ys), front_mid (map (join tab) before) bad y ys)
        (reads (last y ys) (bad ∷ front (y ∷ ys)) ∙ unless_refused (lowest (all_tests s fs)) n (suc (length before)) later e l)

    -- and a text of just these lines is read
    pub rows_read : (f : Bytes) → f ≡ gathered line before → Frees newline (map (join tab) before) → read_text tests f ≡ given s
    rows_read f text free =
        let ls = map (join tab) before in
        read_text_lem tests numbered f ls (ap (cut newline) (text ∙ rows_lines before) ∙ cut_unlines ls free) ∙ ap (read_lines tests [] 1 nothing) (sym (append-nil ls)) ∙ reads [] []
