-- What meets the claims is settled: a tool that does gives the defined segments, conflicts, trimmed text and report.
use mathlib.Core.Path.{◌≡◌, refl, sym, ap, ap₂, ◌∙◌, subst}
use mathlib.Core.Logic.{◌⊎◌, inl, inr, ◌↔◌}
use Prim.Native.Nat.{ℕ, ◌<◌}
use native.Mathlib.Omega.{arith}
use mathlib.Core.Bool.{true}
use mathlib.Core.List.Memᴰ
use mathlib.Core.List.{List, [], ◌∷◌, ◌++◌, map, Memᴰ}
use lib.ListN.{length}
use Rattle.meaning.specs.Text.{Bytes, counting, cut, join, tab, newline}
use Rattle.meaning.specs.Model.{Policy, given}
use Rattle.meaning.specs.Reading.{read}
use Rattle.meaning.specs.Trimming.{lines, is_rule_line, name_at, rule_lines, Trimmed, trimmed}
use Rattle.meaning.specs.Segments.{segments, segment_size, Conflict, conflicts}
use Rattle.meaning.specs.Report.{report}
use Rattle.meaning.specs.Claims.Texts.{Ordered, Rising}
use Rattle.meaning.specs.Claims.Segments.{Segmented, Before, ConflictsListed}
use Rattle.meaning.specs.Claims.Trimming.{Trims, FirstChange, Reported, ReportOf, TrimsSoundly}
use Rattle.meaning.specs.Claims.ReportLines.{segment_row, conflict_row, struck_row, kept_row, field_lines}
use Rattle.meaning.specs.Claims.Promises.{Settled}
use Rattle.laws.proofs.Text.{join_cut}
use Rattle.laws.proofs.Search.{neither_lower, keep_only}
use Rattle.laws.proofs.Reading.{given_given}
use Rattle.laws.proofs.Trimming.{steps_settle}
use Rattle.laws.proofs.Decided.{map_each}
use Rattle.laws.proofs.Segments.{segmented}
use Rattle.laws.proofs.Conflicts.{conflicts_listed}
use Rattle.laws.proofs.Demand3.{trims_soundly}

-- Ordered lists that have the same elements are equal
module _ {A : Type 0} (before : A → A → Type 0) (one_way : (x y : A) → before x y → before y x → ⊥) where
  pub ordered_same : (xs ys : List A) → Ordered before xs → Ordered before ys → ((z : A) → Memᴰ z xs ↔ Memᴰ z ys) → xs ≡ ys
  ordered_same [] [] a b h = refl
  ordered_same [] (y ∷ ys) a b h = absurd (Memᴰ.not-nil ((h y).1 (Memᴰ.head refl)))
  ordered_same (x ∷ xs) [] a b h = absurd (Memᴰ.not-nil ((h x).0 (Memᴰ.head refl)))
  ordered_same (x ∷ xs) (y ∷ ys) a b h =
      let e = first (Memᴰ.cases_cons ((h x).0 (Memᴰ.head refl))) (Memᴰ.cases_cons ((h y).1 (Memᴰ.head refl))) in
      ap (λ w. w ∷ xs) e ∙ ap (λ zs. y ∷ zs) (ordered_same xs ys a.1 b.1 (λ z. (λ m. there z e m (Memᴰ.cases_cons ((h z).0 (Memᴰ.tail m))), λ m. back z e m (Memᴰ.cases_cons ((h z).1 (Memᴰ.tail m))))))
    where
      first : (x ≡ y) ⊎ Memᴰ x ys → (y ≡ x) ⊎ Memᴰ y xs → x ≡ y
      first (inl e) m = e
      first (inr n) (inl e) = sym e
      first (inr n) (inr m) = absurd (one_way x y (a.0 y m) (b.0 x n))

      there : (z : A) → x ≡ y → Memᴰ z xs → (z ≡ y) ⊎ Memᴰ z ys → Memᴰ z ys
      there z e m (inl d) = let l = a.0 z m in let k : before x x = subst (before x) (d ∙ sym e) l in absurd (one_way x x k k)
      there z e m (inr n) = n

      back : (z : A) → x ≡ y → Memᴰ z ys → (z ≡ x) ⊎ Memᴰ z xs → Memᴰ z xs
      back z e m (inl d) = let l = b.0 z m in let k : before y y = subst (before y) (d ∙ e) l in absurd (one_way y y k k)
      back z e m (inr n) = n

rising_same : (xs ys : List ℕ) → Rising xs → Rising ys → ((n : ℕ) → Memᴰ n xs ↔ Memᴰ n ys) → xs ≡ ys
rising_same = ordered_same (λ n m. n < m) (λ x y a b. omega arith)

before_one_way : (c d : Conflict) → Before c d → Before d c → ⊥
before_one_way c d (inl a) (inl b) = omega arith
before_one_way c d (inl a) (inr (e, b)) = omega arith
before_one_way c d (inr (e, a)) (inl b) = omega arith
before_one_way c d (inr (e, inl a)) (inr (g, inl b)) = omega arith
before_one_way c d (inr (e, inl a)) (inr (g, inr (x, b))) = omega arith
before_one_way c d (inr (e, inr (x, a))) (inr (g, inl b)) = omega arith
before_one_way c d (inr (e, inr (x, a))) (inr (g, inr (y, b))) = omega arith

-- Segments
module _ (p : Policy) (firsts others : List ℕ) (size count : ℕ → ℕ) (a : Segmented firsts size p) (b : Segmented others count p) where
  -- a first request of one is a first request of the other
  first_too : (s : ℕ) → Memᴰ s firsts → Memᴰ s others
  first_too s m =
      let (t, n, e) = b.in_one s (a.by_first s m).0 in
      Memᴰ.cast (neither_lower s t (λ l. (b.by_first t n).1 s l (sym e)) (λ l. (a.by_first s m).1 t l e)) n

  same_size : (s : ℕ) → Memᴰ s firsts → size s ≡ count s
  same_size s m =
      let (ns, r, i, l) = a.counted s m in
      let (ms, q, j, k) = b.counted s (first_too s m) in
      sym l ∙ ap length (rising_same ns ms r q (λ n. (λ m. (j n).1 ((i n).0 m), λ m. (i n).1 ((j n).0 m)))) ∙ k

same_segments : (p : Policy) (firsts others : List ℕ) (size count : ℕ → ℕ) → Segmented firsts size p → Segmented others count p → (firsts ≡ others) × ((s : ℕ) → Memᴰ s firsts → size s ≡ count s)
same_segments p firsts others size count a b = (
  rising_same firsts others a.rising b.rising (λ s. (first_too p firsts others size count a b s, first_too p others firsts count size b a s)),
  same_size p firsts others size count a b,
)

-- Conflicts
same_conflicts : (p : Policy) (cs ds : List Conflict) → ConflictsListed cs p → ConflictsListed ds p → cs ≡ ds
same_conflicts p cs ds a b =
    ordered_same Before before_one_way cs ds a.in_order b.in_order (λ c. (λ m. b.each_listed c (a.no_other c m), λ m. a.each_listed c (b.no_other c m)))

-- A text is settled by its field lines
fields_joined : (ls : List Bytes) → map (join tab) (map (cut tab) ls) ≡ ls
fields_joined [] = refl
fields_joined (l ∷ ls) = rw (join_cut tab l, fields_joined ls)

text_again : (t : Bytes) → join newline (map (join tab) (field_lines t)) ≡ t
text_again t = ap (join newline) (fields_joined (lines t)) ∙ join_cut newline t

pub fields_settle : (t u : Bytes) → field_lines t ≡ field_lines u → t ≡ u
fields_settle t u e = sym (text_again t) ∙ ap (λ ls. join newline (map (join tab) ls)) e ∙ text_again u

-- The first request that needs a rule
same_change : (p q : Policy) (n m : ℕ) → FirstChange p q n → FirstChange p q m → n ≡ m
same_change p q n m a b = neither_lower n m (λ l. a.differs (b.no_earlier n l)) (λ l. b.differs (a.no_earlier m l))

-- The lines of a report
module _ {p q : Policy} {t : Trimmed} {r s : Bytes} (a : Reported p q t r) (b : Reported p q t s) where
  same_segment_rows : map (segment_row p a.size) a.firsts ≡ map (segment_row p b.size) b.firsts
  same_segment_rows =
      let (firsts, sizes) = same_segments p a.firsts b.firsts a.size b.size a.segmented b.segmented in
      map_each _ _ a.firsts (λ n m. ap (λ c. segment_row p (λ i. c) n) (sizes n m)) ∙ ap (map (segment_row p b.size)) firsts

  same_conflict_rows : map (conflict_row p.elements) a.conflicts ≡ map (conflict_row p.elements) b.conflicts
  same_conflict_rows = ap (map (conflict_row p.elements)) (same_conflicts p a.conflicts b.conflicts a.listed b.listed)

  same_needed : (k : ℕ) → is_rule_line t.text k ≡ true → a.needed_by k ≡ b.needed_by k
  same_needed k rule =
      let (x, h, c) = a.needed k rule in
      let (y, i, d) = b.needed k rule in
      same_change q x (a.needed_by k) (b.needed_by k) c (subst (λ z. FirstChange q z (b.needed_by k)) (given_given (sym i ∙ h)) d)

  same_kept_rows : map (λ k. kept_row (name_at t.text k) (a.needed_by k)) (rule_lines t.text) ≡ map (λ k. kept_row (name_at t.text k) (b.needed_by k)) (rule_lines t.text)
  same_kept_rows = map_each _ _ (rule_lines t.text) (λ k m. ap (kept_row (name_at t.text k)) (same_needed k (keep_only (is_rule_line t.text) k (counting 0 (length (lines t.text))) m).1))

  same_text : r ≡ s
  same_text =
      fields_settle r s (a.rows
      ∙ ap₂ (λ gs ls. gs ++ ls) same_segment_rows (ap₂ (λ cs ls. cs ++ ls) same_conflict_rows (ap (λ ks. map struck_row t.struck ++ (ks ++ (([] ∷ []) ∷ []))) same_kept_rows))
      ∙ sym b.rows)

-- What trimming leaves, and the report
same_left : {f : Bytes} (t u : Trimmed) → Trims f t.struck t.text → Trims f u.struck u.text → t ≡ u
same_left t u a b = let (names, texts) = steps_settle a b in λ i. record { text = texts i; struck = names i }

same_report : {f : Bytes} {p : Policy} {r s : Bytes} → ReportOf f p r → ReportOf f p s → r ≡ s
same_report {p = p} {s = s} a b =
    let left : b.left ≡ a.left = same_left b.left a.left b.steps a.steps in
    let policy : b.policy_left ≡ a.policy_left = given_given (sym b.left_accepted ∙ ap (λ t. read t.text) left ∙ a.left_accepted) in
    same_text a.reported (subst (λ t. Reported p a.policy_left t s) left (subst (λ q. Reported p q b.left s) policy b.reported))

reported_of : {trim : Bytes → Trimmed} {tell : Bytes → Policy → Bytes} {f : Bytes} {p : Policy} → TrimsSoundly trim tell f p → ReportOf f p (tell f p)
reported_of {trim = trim} {f = f} s = record { left = trim f; steps = s.steps; policy_left = s.policy; left_accepted = s.is_accepted; reported = s.reported }

pub reporting : (f : Bytes) (p : Policy) → read f ≡ given p → (r : Bytes) → ReportOf f p r ↔ (r ≡ report f p)
reporting f p h r =
    let own = reported_of (trims_soundly f p h) in
    (λ a. same_report a own, λ e. subst (ReportOf f p) (sym e) own)

pub settled : Settled
settled = record {
  segmented = λ p firsts size a. same_segments p firsts (segments p) size (segment_size p) a (segmented p);
  listed = λ p cs a. same_conflicts p cs (conflicts p) a (conflicts_listed p);
  trimmed_so = λ trim tell meets f p h. same_left (trim f) (trimmed f) (meets f p h).steps (trims_soundly f p h).steps;
  reported_so = λ trim tell meets f p h. (reporting f p h (tell f p)).0 (reported_of (meets f p h));
}
