-- Trimming rule by rule: what is shown, and what a name strikes.
use mathlib.Core.Path.{◌≡◌, refl, sym, ap, ◌∙◌}
use mathlib.Core.Logic.{◌↔◌}
use Prim.Native.Nat.{ℕ, zero, suc, ◌+◌, ◌<◌, zero-le}
use native.Mathlib.Omega.{arith}
use mathlib.Core.Bool.{Bool, true, false, ◌&&◌}
use mathlib.Core.List.Memᴰ
use mathlib.Core.List.{List, [], ◌∷◌, Memᴰ}
use mathlib.Core.Option.{Option, none, some}
use lib.ListN.{length, take, length-append}
use lib.Seq.{take-append_seam}
use Rattle.meaning.specs.Text.{Bytes, same_name, is_name}
use Rattle.meaning.specs.Model.{name_of, Attribute, Policy, refused, given}
use Rattle.meaning.specs.Reading.{read}
use Rattle.meaning.specs.Trimming.{lines, is_rule_line, name_at, strike, needless, next_struck}
use Rattle.meaning.specs.Report.{name_in}
use Rattle.meaning.specs.RuleByRule.{next_name, needless_named, without_line, strike_named}
use Rattle.meaning.specs.Claims.Texts.{All, Name, EqualNames}
use Rattle.meaning.specs.Claims.Texts as texts-of
use Rattle.meaning.specs.Claims.PolicyFile.{NewName}
use Rattle.meaning.specs.Claims.Trimming.{Needless, Trims, none_left, last_struck}
use Rattle.meaning.specs.Claims.RuleByRule.{ShowsNext, NeedlessRule}
use Rattle.laws.proofs.Types.{Element}
use Rattle.laws.proofs.Bools.{Test, passed, failed, test, contradiction, and_true}
use Rattle.laws.proofs.Names.{name_alike, equal_names}
use Rattle.laws.proofs.Search.{none-some, neither_lower, first_some, first_none, last_is}
use Rattle.laws.proofs.Reading.{refused-given, given_given}
use Rattle.laws.proofs.FirstBad.{refused_refused}
use Rattle.laws.proofs.Bounds.{GoodElement, bounded, named}
use Rattle.laws.proofs.Places.{lines_in}
use Rattle.laws.proofs.Striking.{strike_read}
use Rattle.laws.proofs.ElementLines.{name_line_at}
use Rattle.laws.proofs.WellFormed.{well_formed}
use Rattle.laws.proofs.Spelling.{texts}
use Rattle.laws.proofs.Trimming.{needless_rule, rule_needless, rule_within, next_none, none_next, next_last}

-- an element's name is a name
name_in_lem : (attrs : List Attribute) (es : List Element) → All (GoodElement attrs) es → (i : ℕ) → i < length es → is_name (name_in es i) ≡ true
name_in_lem attrs [] good i l = absurd (omega arith)
name_in_lem attrs (e ∷ es) good zero l = (named e good.0.named).is_name
name_in_lem attrs (e ∷ es) good (suc i) l = name_in_lem attrs es good.1 i (omega arith)

-- No two elements have equal names: those behind some have other names, and so have those behind each other
behind_others : (before es : List Element) → texts-of.Each NewName before es → (x : Element) → Memᴰ x before → (j : ℕ) → j < length es → EqualNames (name_in es j) (name_of x) → ⊥
behind_others before [] new x m j l e = absurd (omega arith)
behind_others before (y ∷ es) new x m zero l e = new.0 (name_of x, Memᴰ.map name_of m, e)
behind_others before (y ∷ es) new x m (suc j) l e = behind_others (y ∷ before) es new.1 x (Memᴰ.tail m) j (omega arith) e

behind_each : (before es : List Element) → texts-of.Each NewName before es → (i j : ℕ) → i < j → j < length es → EqualNames (name_in es j) (name_in es i) → ⊥
behind_each before [] new i j u l e = absurd (omega arith)
behind_each before (x ∷ es) new i zero u l e = absurd (omega arith)
behind_each before (x ∷ es) new zero (suc j) u l e = behind_others (x ∷ before) es new.1 x (Memᴰ.head refl) j (omega arith) e
behind_each before (x ∷ es) new (suc i) (suc j) u l e = behind_each (x ∷ before) es new.1 i j (omega arith) (omega arith) e

module _ (f : Bytes) (p : Policy) (h : read f ≡ given p) where
  -- so elements that have one name are one
  pub one_element : (name : Bytes) (i j : ℕ) → i < length p.elements → j < length p.elements → same_name name (name_in p.elements i) ≡ true → same_name name (name_in p.elements j) ≡ true → i ≡ j
  one_element name i j l m e d =
      let es = p.elements in
      let apart = behind_each [] es ((well_formed f p).0 h).good.new_names in
      neither_lower i j (λ u. apart i j u m (equals j i d e)) (λ u. apart j i u l (equals i j e d))
    where
      equals : (i j : ℕ) → same_name name (name_in p.elements i) ≡ true → same_name name (name_in p.elements j) ≡ true → EqualNames (name_in p.elements i) (name_in p.elements j)
      equals i j e d = (equal_names (name_in p.elements i) (name_in p.elements j)).holds (sym (name_alike name (name_in p.elements i) (name_in p.elements j) e) ∙ d)

  -- A rule line is that of an element, whose name it has
  record RuleAt (k : ℕ) : Type 0 where
    place : ℕ
    inside : place < length p.elements
    line : length p.attributes + lines_in (take place p.elements) ≡ k
    called : name_at f k ≡ name_in p.elements place

  rule_at : (k : ℕ) → is_rule_line f k ≡ true → RuleAt k
  rule_at k r =
      let x = strike_read f p h k r in
      let c = length x.front in
      let line : length p.attributes + lines_in (take c p.elements) ≡ k = ap (λ es. length p.attributes + lines_in (take c es)) x.whole ∙ ap (λ es. length p.attributes + lines_in es) (take-append_seam x.front (x.gone ∷ x.back)) ∙ x.place in
      record { place = c; inside = omega (arith, ap length x.whole, length-append x.front (x.gone ∷ x.back)); line = line; called = ap (name_at f) (sym line) ∙ name_line_at f p h c }

  pub rule_name : (k : ℕ) → is_rule_line f k ≡ true → Name (name_at f k)
  rule_name k r =
      let x = rule_at k r in
      rw x.called ((texts.names (name_in p.elements x.place)).0 (name_in_lem p.attributes p.elements (bounded f p h).elements_good x.place x.inside))

  -- rule lines that have one name are one
  one_line : (name : Bytes) (j k : ℕ) → is_rule_line f j ≡ true → is_rule_line f k ≡ true → same_name name (name_at f j) ≡ true → same_name name (name_at f k) ≡ true → j ≡ k
  one_line name j k r s e d =
      let x = rule_at j r in
      let y = rule_at k s in
      let one = one_element name x.place y.place x.inside y.inside (rw x.called at e) (rw y.called at d) in
      sym x.line ∙ ap (λ c. length p.attributes + lines_in (take c p.elements)) one ∙ y.line

  -- The last needless rule is the next one
  pub next_is : (k : ℕ) → Needless f k → ((j : ℕ) → k < j → Needless f j → ⊥) → next_struck f ≡ some k
  next_is k n no_later = last_is (needless f) (length (lines f)) k (record { below = rule_within f k n.rule_line; holds = rule_needless f k n; no_later = λ j u l. go j u (test (needless f j)) })
    where
      go : (j : ℕ) → k < j → Test (needless f j) → needless f j ≡ false
      go j u (passed e) = absurd (no_later j u (needless_rule f p h j e))
      go j u (failed e) = e

  -- its name is shown, and has a byte
  pub next_shown : (k : ℕ) → next_struck f ≡ some k → next_name f ≡ name_at f k
  unfolding next_name
  next_shown k e = rw e

  pub none_shown : next_struck f ≡ none → next_name f ≡ []
  unfolding next_name
  none_shown e = rw e

  shown_none : next_name f ≡ [] → next_struck f ≡ none
  shown_none e = go (next_struck f) refl
    where
      go : (o : Option ℕ) → next_struck f ≡ o → next_struck f ≡ none
      go none i = i
      go (some k) i = absurd (omega (arith, (rule_name k (next_last f p h k i).0.rule_line).size.0, ap length (sym (next_shown k i) ∙ e)))

  -- A needless rule is found by its name, and no other line is
  abbrev wanted : Bytes → ℕ → Bool
  wanted name k = needless f k && same_name name (name_at f k)

  by_name : (name : Bytes) (r : NeedlessRule f name) → needless_named f name ≡ some r.place
  by_name name r = go (needless_named f name) refl
    where
      own : same_name name (name_at f r.place) ≡ true
      own = (equal_names name (name_at f r.place)).tests r.has_name

      there : wanted name r.place ≡ true
      there = rw (rule_needless f r.place r.is_needless) own

      go : (o : Option ℕ) → needless_named f name ≡ o → needless_named f name ≡ some r.place
      go none i = contradiction there (first_none (wanted name) 0 (length (lines f)) i r.place zero-le (omega (arith, rule_within f r.place r.is_needless.rule_line)))
      go (some j) i =
          let (a, b) = and_true (needless f j) (same_name name (name_at f j)) (first_some (wanted name) 0 (length (lines f)) j i).holds in
          i ∙ ap some (one_line name j r.place (needless_rule f p h j a).rule_line r.is_needless.rule_line b own)

  found : (name : Bytes) (k : ℕ) → needless_named f name ≡ some k → (r : NeedlessRule f name) × (r.place ≡ k)
  found name k i =
      let (a, b) = and_true (needless f k) (same_name name (name_at f k)) (first_some (wanted name) 0 (length (lines f)) k i).holds in
      (record { place = k; is_needless = needless_rule f p h k a; has_name = (equal_names name (name_at f k)).holds b }, refl)

  pub striking : (name t : Bytes) → strike_named f name ≡ given t ↔ ((r : NeedlessRule f name) × (t ≡ strike r.place f))
  unfolding strike_named
  striking name t = (λ e. there (needless_named f name) refl e, λ x. rw (by_name name x.0) (ap given (sym x.1)))
    where
      there : (o : Option ℕ) → needless_named f name ≡ o → without_line f o ≡ given t → (r : NeedlessRule f name) × (t ≡ strike r.place f)
      there none i e = refused-given e
      there (some k) i e = let (r, at-k) = found name k i in (r, sym (given_given e) ∙ ap (λ j. strike j f) (sym at-k))

  pub no_needless_rule : (name : Bytes) (n m : ℕ) → strike_named f name ≡ refused n m ↔ ((NeedlessRule f name → ⊥) × (n ≡ 15) × (m ≡ 0))
  unfolding strike_named
  no_needless_rule name n m = (λ e. there (needless_named f name) refl e, λ x. back (needless_named f name) refl x)
    where
      there : (o : Option ℕ) → needless_named f name ≡ o → without_line f o ≡ refused n m → (NeedlessRule f name → ⊥) × (n ≡ 15) × (m ≡ 0)
      there none i e = let (x, y) = refused_refused e in (λ r. none-some (sym i ∙ by_name name r), sym x, sym y)
      there (some k) i e = refused-given (sym e)

      back : (o : Option ℕ) → needless_named f name ≡ o → (NeedlessRule f name → ⊥) × (n ≡ 15) × (m ≡ 0) → without_line f o ≡ refused n m
      back none i (other, x, y) = rw (x, y)
      back (some k) i (other, x, y) = absurd (other (found name k i).0)

-- What is shown is the first name of those that trimming strikes
abbrev pub first_of : List Bytes → Bytes
first_of [] = []
first_of (n ∷ ns) = n

pub first_shown : {f t : Bytes} {names : List Bytes} → Trims f names t → (p : Policy) → read f ≡ given p → next_name f ≡ first_of names
first_shown (none_left f needed) p h = none_shown f p h (none_next f p h needed)
first_shown (last_struck f k names t n l s) p h = next_shown f p h k (next_is f p h k n l)

pub showing : (f : Bytes) (p : Policy) → read f ≡ given p → ShowsNext f (next_name f)
showing f p h = record {
  next_named = λ name later t s. first_shown s p h;
  none_named = (λ e. next_none f (shown_none f p h e), λ needed. none_shown f p h (none_next f p h needed));
}
