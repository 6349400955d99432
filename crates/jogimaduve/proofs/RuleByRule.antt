-- What `jogimaduve_next_rule` and `jogimaduve_strike` answer and write, in the paper's words and for every input, from their contracts
-- alone; and that showing and striking until none is named ends in what `jogimaduve_trim` writes.
use mathlib.Core.Path.{◌≡◌, refl, sym, ap, ◌∙◌, subst}
use mathlib.Core.Logic.{◌↔◌}
use Prim.Native.Nat.{ℕ, ◌-◌, ◌≤◌, zero-le}
use native.Mathlib.Omega.{arith}
use mathlib.Core.Bool.{false, not, ◌&&◌, cond}
use mathlib.Core.List.{List, [], ◌∷◌}
use lib.Dec.{eqb}
use lib.ListN.{length}
use borrow.Author.Tests.{eqb-true, eqb-false, ne_eqb}
use Rattle.std.proofs.lemmas.List.{nil_from_length}
use Rattle.meaning.specs.declared.Answer.{Answer}
use Rattle.meaning.specs.Text.{Bytes}
use Rattle.meaning.specs.Model.{Policy, given, ◌then◌}
use Rattle.meaning.specs.Reading.{read}
use Rattle.meaning.specs.Deciding.{decide_file}
use Rattle.meaning.specs.Trimming.{name_at, strike, trimmed}
use Rattle.meaning.specs.Report.{trim_file}
use Rattle.meaning.specs.RuleByRule.{next_name, strike_named}
use Rattle.meaning.specs.Operations.{answered, lent}
use Rattle.meaning.specs.Claims.Texts.{All, Name}
use Rattle.meaning.specs.Claims.PolicyFile.{WellFormed}
use Rattle.meaning.specs.Claims.Refusals.{Refuses}
use Rattle.meaning.specs.Claims.Trimming.{Needless, Trims, none_left, last_struck}
use Rattle.meaning.specs.Claims.RuleByRule.{NeedlessRule}
use Rattle.meaning.specs.Claims.Operations.{Writes}
use Rattle.laws.proofs.Bools.{Test, passed, failed, test}
use Rattle.laws.proofs.Names.{name_refl, equal_names}
use Rattle.laws.proofs.Reading.{given_given, step_then, accepted}
use Rattle.laws.proofs.WellFormed.{well_formed}
use Rattle.laws.proofs.Refused.{refuses}
use Rattle.laws.proofs.Trimming.{trimmed_steps, none_more, steps_settle}
use Rattle.laws.proofs.Answers.{decides_alike, same_end_alike}
use Rattle.laws.proofs.Demand3.{trims_soundly}
use Rattle.laws.proofs.RuleByRule.{rule_name, first_shown, showing, striking, no_needless_rule}
use Rattle.laws.proofs.Operations.{gave}
use Rattle.jogimaduve.specs.Told.{told}
use Rattle.jogimaduve.proofs.Operate.{NextRule, Strike, Operate, written, trims, shows_next, strikes}
use Rattle.jogimaduve.proofs.Demand3.{told as decided, told_is, telling}

-- A file and a buffer for the name of the next rule
pub record Shows (o : NextRule) (f b : Bytes) : Type 0 where
  -- a file that is refused
  pub no_file : (n m : ℕ) → Refuses f n m → (o.answer f b ≡ told n m) × (o.after f b ≡ b)
  -- none is named exactly if no rule is needless, and the buffer stays
  pub none_named : (p : Policy) → WellFormed f p → (o.answer f b ≡ told 0 0) ↔ ((k : ℕ) → Needless f k → ⊥)
  pub none_written : o.answer f b ≡ told 0 0 → o.after f b ≡ b
  -- else the name of the rule that trimming strikes first and no other byte, or 11
  pub next_named : (p : Policy) → WellFormed f p → (name : Bytes) (later : List Bytes) (t : Bytes) → Trims f (name ∷ later) t → Writes 11 (given name) (o.answer f b) b (o.after f b)

-- A file, the name of a rule and a buffer for the text that is left
pub record Strikes (rule : Bytes) (o : Strike rule) (f b : Bytes) : Type 0 where
  -- a file that is refused; 15 where no needless rule has the name
  pub no_file : (n m : ℕ) → Refuses f n m → (o.answer f b ≡ told n m) × (o.after f b ≡ b)
  pub no_rule : (p : Policy) → WellFormed f p → (NeedlessRule f rule → ⊥) → (o.answer f b ≡ told 15 0) × (o.after f b ≡ b)
  -- else the file without that line, or 11
  pub the_text : (p : Policy) → WellFormed f p → (r : NeedlessRule f rule) → Writes 11 (given (strike r.place f)) (o.answer f b) b (o.after f b)

-- a buffer for the name, and one for the text
abbrev pub Buffers : Type 0
Buffers = Bytes × Bytes

-- A round: the next rule is shown in the first buffer, and struck by the name that was written there into the second. The text stays
-- where no rule is named, or one of the two calls is refused
abbrev pub after_round : Operate → Bytes → Buffers → Bytes
after_round o f (b, c) =
    let name = written o.next_rule f b in
    let shown = o.next_rule.answer f b in
    cond (eqb shown.number 0 && not (eqb shown.second 0) && eqb ((o.strike name).answer f c).number 0) (written (o.strike name) f c) f

abbrev pub after_rounds : Operate → Bytes → List Buffers → Bytes
after_rounds o f [] = f
after_rounds o f (bs ∷ rounds) = after_rounds o (after_round o f bs) rounds

-- room for every name, and for every file
abbrev pub Roomy : Buffers → Type 0
Roomy (b, c) = (16 ≤ length b) × (16384 ≤ length c)

-- Showing and striking a policy file
pub record RuleByRule (o : Operate) (f : Bytes) : Type 0 where
  -- whichever rule is struck: what is left is answered alike on every request line
  pub any_strike : (rule c : Bytes) → ((o.strike rule).answer f c).number ≡ 0 → (r b : Bytes) → decided o (written (o.strike rule) f c) r b ≡ decided o f r b
  -- any rounds, with any buffers: what is left is answered alike, and is trimmed to the same text
  pub alike : (rounds : List Buffers) (r b : Bytes) → decided o (after_rounds o f rounds) r b ≡ decided o f r b
  pub same_trimming : (rounds : List Buffers) (b : Bytes) → (o.trim.answer (after_rounds o f rounds) b ≡ o.trim.answer f b) × (o.trim.after (after_rounds o f rounds) b ≡ o.trim.after f b)
  -- none is named exactly if what is left is the trimmed text
  pub ends_trimmed : (rounds : List Buffers) (b c : Bytes) → (o.trim.answer f c).number ≡ 0 → (o.next_rule.answer (after_rounds o f rounds) b ≡ told 0 0) ↔ (after_rounds o f rounds ≡ written o.trim f c)
  -- and it comes to that: with room, a round for each rule that trimming strikes is enough
  pub comes_to_end : (names : List Bytes) (t : Bytes) → Trims f names t → (rounds : List Buffers) → All Roomy rounds → length names ≤ length rounds → after_rounds o f rounds ≡ t

-- What both write of an accepted file
module _ (f : Bytes) (p : Policy) (h : read f ≡ given p) where
  shown_writes : (o : NextRule) (b : Bytes) → Writes 11 (given (next_name f)) (o.answer f b) b (o.after f b)
  shown_writes o b =
      let wanted : (read f then λ p. given (next_name f)) ≡ given (next_name f) = rw h in
      subst (λ r. Writes 11 r (o.answer f b) b (o.after f b)) wanted (shows_next o f b)

  struck_writes : (rule : Bytes) (o : Strike rule) (b : Bytes) (r : NeedlessRule f rule) → Writes 11 (given (strike r.place f)) (o.answer f b) b (o.after f b)
  struck_writes rule o b r =
      let wanted : (read f then λ p. strike_named f rule) ≡ given (strike r.place f) = rw h ((striking f p h rule (strike r.place f)).1 (r, refl)) in
      subst (λ x. Writes 11 x (o.answer f b) b (o.after f b)) wanted (strikes rule o f b)

  -- the name that is written where showing is answered 0
  name_written : (o : NextRule) (b : Bytes) → (o.answer f b).number ≡ 0 → (written o f b ≡ next_name f) × ((o.answer f b).second ≡ length (next_name f))
  name_written o b d =
      let x = gave (shown_writes o b) d in
      let is : x.result ≡ next_name f = sym (given_given x.is) in
      (x.taken ∙ is, x.told ∙ ap length is)

  -- none is named exactly if no rule is needless
  named_none : (o : NextRule) (b : Bytes) → (o.answer f b ≡ told 0 0) ↔ ((k : ℕ) → Needless f k → ⊥)
  named_none o b = (
    λ e. (showing f p h).none_named.0 (nil_from_length (next_name f) (sym (name_written o b (ap (λ a. a.number) e)).1 ∙ ap (λ a. a.second) e)),
    λ needed. let none : next_name f ≡ [] = (showing f p h).none_named.1 needed in
        ((shown_writes o b).written_so [] (ap given none) zero-le).0,
  )

pub shows : (o : NextRule) (f b : Bytes) → Shows o f b
shows o f b = record {
  no_file = λ n m x. let h = (refuses f n m).1 x in (shows_next o f b).refused_so n m (rw h);
  none_named = λ p w. named_none f p ((well_formed f p).1 w) o b;
  none_written = λ e. rw e at (gave (shows_next o f b) (ap (λ a. a.number) e)).behind;
  next_named = λ p w name later t s.
      let h = (well_formed f p).1 w in
      subst (λ n. Writes 11 (given n) (o.answer f b) b (o.after f b)) (first_shown s p h) (shown_writes f p h o b);
}

pub strikes_rule : (rule : Bytes) (o : Strike rule) (f b : Bytes) → Strikes rule o f b
strikes_rule rule o f b = record {
  no_file = λ n m x. let h = (refuses f n m).1 x in (strikes rule o f b).refused_so n m (rw h);
  no_rule = λ p w none_named.
      let h = (well_formed f p).1 w in
      let e = (no_needless_rule f p h rule 15 0).1 (none_named, refl, refl) in
      (strikes rule o f b).refused_so 15 0 (rw (h, e));
  the_text = λ p w r. struck_writes f p ((well_formed f p).1 w) rule o b r;
}

-- What a round leaves: a text on the way of trimming; a rule fewer is to be struck where there was room
record OneRound (o : Operate) (f : Bytes) (bs : Buffers) (names : List Bytes) (t : Bytes) : Type 0 where
  later : List Bytes
  steps : Trims (after_round o f bs) later t
  policy : Policy
  is_accepted : read (after_round o f bs) ≡ given policy
  fewer : Roomy bs → length later ≤ length names - 1

one_round : (o : Operate) (bs : Buffers) {f t : Bytes} {names : List Bytes} → Trims f names t → (p : Policy) → read f ≡ given p → OneRound o f bs names t
one_round o (b, c) (none_left f needed) p h =
    let none = (named_none f p h o.next_rule b).1 needed in
    let stays : after_round o f (b, c) ≡ f = rw none in
    record { later = []; steps = rw stays (none_left f needed); policy = p; is_accepted = rw stays h; fewer = λ room. omega arith }
one_round o (b, c) (last_struck f k names t n l s) p h = go (test (eqb shown.number 0)) (test (eqb struck.number 0))
  where
    name : Bytes
    name = written o.next_rule f b

    shown : Answer
    shown = o.next_rule.answer f b

    struck : Answer
    struck = (o.strike name).answer f c

    next : next_name f ≡ name_at f k
    next = first_shown (last_struck f k names t n l s) p h

    own_name : Name (name_at f k)
    own_name = rule_name f p h k n.rule_line

    -- the rule that has the name that was written
    own_rule : shown.number ≡ 0 → NeedlessRule f name
    own_rule d = record { place = k; is_needless = n; has_name = (equal_names name (name_at f k)).holds (rw ((name_written f p h o.next_rule b d).0, next) (name_refl (name_at f k))) }

    -- it has a byte
    some_byte : shown.number ≡ 0 → eqb shown.second 0 ≡ false
    some_byte d = ne_eqb shown.second 0 (λ z. omega (arith, own_name.size.0, ap length next, (name_written f p h o.next_rule b d).1, z))

    -- with room both calls are answered 0
    room_shown : 16 ≤ length b → shown.number ≡ 0
    room_shown room = ap (λ a. a.number) ((shown_writes f p h o.next_rule b).written_so (next_name f) refl (omega (arith, ap length next, own_name.size.1))).0

    room_struck : shown.number ≡ 0 → 16384 ≤ length c → struck.number ≡ 0
    room_struck d room = ap (λ a. a.number) ((struck_writes f p h name (o.strike name) c (own_rule d)).written_so (strike k f) refl (omega (arith, (accepted (strike k f) n.policy_left n.left_accepted).size))).0

    stays : after_round o f (b, c) ≡ f → (Roomy (b, c) → ⊥) → OneRound o f (b, c) (name_at f k ∷ names) t
    stays same short = record { later = name_at f k ∷ names; steps = rw same (last_struck f k names t n l s); policy = p; is_accepted = rw same h; fewer = λ room. absurd (short room) }

    go : Test (eqb shown.number 0) → Test (eqb struck.number 0) → OneRound o f (b, c) (name_at f k ∷ names) t
    go (failed e) y = stays (rw e) (λ room. eqb-false shown.number 0 e (room_shown room.0))
    go (passed e) (failed y) = stays (rw (e, some_byte (eqb-true shown.number 0 e), y)) (λ room. eqb-false struck.number 0 y (room_struck (eqb-true shown.number 0 e) room.1))
    go (passed e) (passed y) =
        let d = eqb-true shown.number 0 e in
        let x = gave (struck_writes f p h name (o.strike name) c (own_rule d)) (eqb-true struck.number 0 y) in
        let goes : after_round o f (b, c) ≡ strike k f = rw (e, some_byte d, y) (x.taken ∙ sym (given_given x.is)) in
        record { later = names; steps = rw goes s; policy = n.policy_left; is_accepted = rw goes n.left_accepted; fewer = λ room. omega arith }

-- What any rounds leave
record Rounds (o : Operate) (f : Bytes) (rounds : List Buffers) (t : Bytes) : Type 0 where
  later : List Bytes
  steps : Trims (after_rounds o f rounds) later t
  policy : Policy
  is_accepted : read (after_rounds o f rounds) ≡ given policy

any_rounds : (o : Operate) (rounds : List Buffers) {f t : Bytes} {names : List Bytes} → Trims f names t → (p : Policy) → read f ≡ given p → Rounds o f rounds t
any_rounds o [] {names = names} s p h = record { later = names; steps = s; policy = p; is_accepted = h }
any_rounds o (bs ∷ rounds) s p h =
    let x = one_round o bs s p h in
    let y = any_rounds o rounds x.steps x.policy x.is_accepted in
    record { later = y.later; steps = y.steps; policy = y.policy; is_accepted = y.is_accepted }

enough_rounds : (o : Operate) (rounds : List Buffers) {f t : Bytes} {names : List Bytes} → Trims f names t → (p : Policy) → read f ≡ given p → All Roomy rounds → length names ≤ length rounds → after_rounds o f rounds ≡ t
enough_rounds o [] s p h room l = none_more s l
enough_rounds o (bs ∷ rounds) s p h room l =
    let x = one_round o bs s p h in
    enough_rounds o rounds x.steps x.policy x.is_accepted room.1 (omega (arith, x.fewer room.0, l))

module _ (o : Operate) (f : Bytes) (p : Policy) (h : read f ≡ given p) where
  left_by : (rounds : List Buffers) → Rounds o f rounds (trimmed f).text
  left_by rounds = any_rounds o rounds (trimmed_steps f p h) p h

  same_text : (rounds : List Buffers) → (trimmed (after_rounds o f rounds)).text ≡ (trimmed f).text
  same_text rounds = let x = left_by rounds in (steps_settle (trimmed_steps (after_rounds o f rounds) x.policy x.is_accepted) x.steps).1

  same_decisions : (rounds : List Buffers) (room : ℕ) (r : Bytes) → decide_file room (after_rounds o f rounds) r ≡ decide_file room f r
  same_decisions rounds room r =
      let x = left_by rounds in
      same_end_alike (trimmed_steps f p h) x.steps p x.policy h x.is_accepted room r

  same_trim : (rounds : List Buffers) (room : ℕ) → trim_file room (after_rounds o f rounds) ≡ trim_file room f
  unfolding trim_file
  same_trim rounds room = rw ((left_by rounds).is_accepted, h, same_text rounds)

  pub text_is : (c : Bytes) → (o.trim.answer f c).number ≡ 0 → written o.trim f c ≡ (trimmed f).text
  text_is c d =
      let x = gave (trims o.trim f c) d in
      let wanted : (read f then λ p. given (trimmed f).text) ≡ given (trimmed f).text = rw h in
      x.taken ∙ given_given (sym x.is ∙ wanted)

  ends : (rounds : List Buffers) (b c : Bytes) → (o.trim.answer f c).number ≡ 0 → (o.next_rule.answer (after_rounds o f rounds) b ≡ told 0 0) ↔ (after_rounds o f rounds ≡ written o.trim f c)
  ends rounds b c d =
      let left = after_rounds o f rounds in
      let x = left_by rounds in
      let none = named_none left x.policy x.is_accepted o.next_rule b in (
        λ e. (steps_settle (none_left left (none.0 e)) x.steps).1 ∙ sym (text_is c d),
        λ e. none.1 (subst (λ t. (k : ℕ) → Needless t k → ⊥) (sym (e ∙ text_is c d)) (trims_soundly f p h).none_needless),
      )

-- A strike by a name
strike_alike : (o : Operate) (f : Bytes) (p : Policy) → read f ≡ given p → (rule c : Bytes) → ((o.strike rule).answer f c).number ≡ 0 → (room : ℕ) (r : Bytes)
    → decide_file room (written (o.strike rule) f c) r ≡ decide_file room f r
strike_alike o f p h rule c d room r =
    let x = gave (strikes rule (o.strike rule) f c) d in
    let struck = (step_then (read f) (λ p. strike_named f rule) x.result x.is).2 in
    let (own, is) = (striking f p h rule x.result).0 struck in
    let n = own.is_needless in
    ap (λ t. decide_file room t r) (x.taken ∙ is) ∙ decides_alike f (strike own.place f) n.policy n.policy_left n.is_accepted n.left_accepted n.alike room r

pub rule_by_rule : (o : Operate) (f : Bytes) (p : Policy) → WellFormed f p → RuleByRule o f
rule_by_rule o f p w =
    let h = (well_formed f p).1 w in
    record {
      any_strike = λ rule c d r b. told_is o (written (o.strike rule) f c) r b ∙ ap (telling b) (strike_alike o f p h rule c d (length b) r) ∙ sym (told_is o f r b);
      alike = λ rounds r b. told_is o (after_rounds o f rounds) r b ∙ ap (telling b) (same_decisions o f p h rounds (length b) r) ∙ sym (told_is o f r b);
      same_trimming = λ rounds b.
          let left = after_rounds o f rounds in
          let same = same_trim o f p h rounds (length b) in
          (o.trim.answer_is left b ∙ ap (answered length) same ∙ sym (o.trim.answer_is f b), o.trim.after_is left b ∙ ap (lent b) same ∙ sym (o.trim.after_is f b));
      ends_trimmed = ends o f p h;
      comes_to_end = λ names t s rounds room l. enough_rounds o rounds s p h room l;
    }
