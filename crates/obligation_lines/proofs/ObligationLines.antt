-- An obligation's line that is read: what it laid down is the obligation of the nearest element, and the state behind it.
use Rattle.std.specs.Prelude.{None, Ok, Err}
use mathlib.Core.Path.{◌≡◌, refl, sym, ap, ap₂, ◌∙◌, subst, subst⁻¹}
use mathlib.Core.Logic.{◌≢◌, ⊎_elim}
use Prim.Native.Nat.{ℕ, zero, suc, ◌+◌, ◌-◌, ◌≤◌, ◌<◌, zero-le, suc-le-suc}
use native.Mathlib.Omega.{arith}
use mathlib.Core.Bool.{true, false, not}
use mathlib.Core.List.{List, [], ◌∷◌}
use lib.Dec.{eqb, leb, ltb}
use lib.ListN.{length, get_or}
use borrow.Author.Tests.{leb-true, ltb-true, eqb-true, eqb-false, not-false}
use Rattle.meaning.specs.declared.Word.{Word}
use Rattle.meaning.specs.Text.{Bytes, bytes, is_none, cut, join, tab}
use Rattle.meaning.specs.Model.{padded}
use Rattle.meaning.specs.Reading.{word_of, or_permit, obligation_of, obligation_tests, line_tests, Sofar, nearest_obligations, nearest_with, well_followed}
use Rattle.laws.proofs.Types.{rule, Element, Obligation}
use Rattle.laws.proofs.Bools.{Test, passed, failed, test, contradiction, and_true}
use Rattle.laws.proofs.Text.{join_cut}
use Rattle.laws.proofs.Lines.{obligation_fields_lem}
use Rattle.laws.proofs.Words.{word_again, word_allowed, word_had}
use Rattle.laws.proofs.Bounds.{stored}
use Rattle.laws.proofs.Reading.{Passes, lowest_zero, obligation_numbered}
use Rattle.table.specs.declared.Row.{Row}
use Rattle.layout.specs.declared.Tree.{Tree}
use Rattle.layout.specs.declared.ElementPlaces.{ElementPlaces}
use Rattle.layout.specs.Nearest.{nearest, Stands}
use Rattle.layout.specs.Places.{part, effect_at, obligation_in, obligation_count, elements_to, Named, line_start, lines_to, Lined}
use Rattle.layout.proofs.Slots.{count_is, obliging_length, clear_still}
use Rattle.layout.proofs.Obligations.{obligations_in_lem}
use Rattle.layout.proofs.Obliging.{Oblige, elements_obliged, named_still, lined_obliged, obliged_still}
use Rattle.attribute_lines.specs.declared.State.{State}
use Rattle.attribute_lines.specs.Sofar.{refusal_of, ObligationLine}
use Rattle.attribute_lines.specs.Steps.{Verdict, BeforeLine, EndedLine, read_sofar, Next, StepIs}
use Rattle.attribute_lines.proofs.LineKinds.{wrong_refused}
use Rattle.attribute_lines.proofs.ObligationShape.{not_three, is_obligation, by_obligation_tests}
use Rattle.attribute_lines.proofs.Parts.{first_byte, part_length, field_at_lem, next_start}
use Rattle.obligation_lines.specs.Obligations.{last_obligations, Follows, obliged, behind_obligation, ObligationStep}
use Rattle.obligation_lines.proofs.ObligationTests.{rule_found, none_followed, followed}

-- What was read so far is what the state stands for
last_are : (f : List ℕ) (table : List Row) (places : List ElementPlaces) (n : ℕ) → nearest_obligations (elements_to f table places n) ≡ last_obligations f places n
unfolding elements_to
last_are f table places zero = refl
last_are f table places (suc n) = obligations_in_lem f table places n

pub follows : {f : List ℕ} {table : List Row} {places : List ElementPlaces} {st : State} → BeforeLine f table places st → Follows f places st.tree (read_sofar f table places st)
follows ready = record { stands = ready.tree; obligations = last_are _ _ _ _ }

-- A tree stands for the elements whatever their obligations are
stands_with : {tree : Tree} (o : Obligation) (es : List Element) → Stands tree es → Stands tree (nearest_with o es)
unfolding nearest
stands_with o [] s = s
stands_with o (e ∷ es) s = record { room = s.room; count = s.count; last = s.last; kinds = s.kinds }

-- The effect is told by its first byte
effect_first : (w : Bytes) → is_none (word_of rule w) ≡ false → effect_at (get_or w 0 0) ≡ or_permit (word_of rule w)
effect_first w h =
    let x = or_permit (word_of rule w) in
    ap (λ t. effect_at (get_or t 0 0)) (sym (word_again rule w h)) ∙ ⊎_elim (λ (e : x ≡ Word.Permit). rw e) (λ (e : x ≡ Word.Deny). rw e) (word_allowed rule x (word_had rule w h))

word_some : (w : Bytes) → is_none (word_of rule w) ≡ false → 1 ≤ length w
word_some w h =
    let x = or_permit (word_of rule w) in
    subst (λ t. 1 ≤ length t) (word_again rule w h) (⊎_elim (λ (e : x ≡ Word.Permit). rw e (omega arith)) (λ (e : x ≡ Word.Deny). rw e (omega arith)) (word_allowed rule x (word_had rule w h)))

-- Where name and effect of an obligation's line stand
record Stood (f : Bytes) (at end : ℕ) (name word : Bytes) : Type 0 where
  pub name_is : part f (at + 2) (at + 2 + length name) ≡ name
  pub word_at : get_or f (at + 2 + length name + 1) 0 ≡ get_or word 0 0
  pub within : at + 2 + length name < end

stood : (f : Bytes) (at end : ℕ) (name word : Bytes) → end ≤ length f → 1 ≤ length word → cut tab (part f at end) ≡ bytes "O" ∷ name ∷ word ∷ [] → Stood f at end name word
stood f at end name word inside some are =
    let first = field_at_lem f at end (bytes "O") (name ∷ word ∷ []) inside (suc-le-suc zero-le) are in
    let two : at + 1 + 1 ≡ at + 2 = omega arith in
    let second = field_at_lem f (at + 2) end name (word ∷ []) inside (suc-le-suc zero-le) (subst (λ m. cut tab (part f m end) ≡ name ∷ word ∷ []) two first.behind) in
    let third : part f (at + 2 + length name + 1) end ≡ word = sym (join_cut tab (part f (at + 2 + length name + 1) end)) ∙ ap (join tab) second.behind in
    let size = sym (part_length f (at + 2 + length name + 1) end inside) ∙ ap length third in
    record { name_is = second.here; word_at = sym (first_byte f (at + 2 + length name + 1) end (omega (arith, size))) ∙ ap (λ x. get_or x 0 0) third; within = second.within }

module _ {f : List ℕ} {table : List Row} {places : List ElementPlaces} {st : State} {end n : ℕ} (ready : BeforeLine f table places st) (here : EndedLine f st end) (line : ObligationLine (cut tab (part f st.at end)) n) where
  abbrev fs : List Bytes
  fs = cut tab (part f st.at end)

  abbrev s : Sofar
  s = read_sofar f table places st

  abbrev name : Bytes
  name = get_or fs 1 []

  abbrev word : Bytes
  word = get_or fs 2 []

  abbrev m : ℕ
  m = st.tree.len - 1

  abbrev start : ℕ
  start = st.at + 2

  module _ (read : refusal_of s fs ≡ 0) where
    three : n ≡ 3
    three = go (test (eqb n 3))
      where
        go : Test (eqb n 3) → n ≡ 3
        go (passed e) = eqb-true n 3 e
        go (failed e) = absurd (omega (arith, sym (wrong_refused line_tests s fs (not_three s fs n line (eqb-false n 3 e))) ∙ read))

    passes : Passes (obligation_tests s word (obligation_of name word))
    passes = lowest_zero (obligation_tests s word (obligation_of name word)) (obligation_numbered s word (obligation_of name word)) (sym (by_obligation_tests s fs n line three line_tests) ∙ read)

    -- there is a nearest element, with a place left
    well : well_followed s.before ≡ true
    well = not-false (well_followed s.before) passes.1.1.0

    some : st.tree.len ≢ 0
    some none = contradiction well (none_followed f places st.tree fs none s.before ready.tree)

    one_more : st.tree.len ≡ suc m
    one_more = omega (arith, some)

    free : obligation_count places m < 2
    free =
        let is = followed f places st.tree fs some ready.in_file.shallow s.before ready.tree (follows ready).obligations in
        ltb-true (obligation_count places m) 2 (and_true (not (rule_found (get_or st.tree.kinds st.tree.depth None))) (ltb (obligation_count places m) 2) (sym is ∙ well)).1

    there : Stood f st.at end name word
    there = stood f st.at end name word (omega (arith, here.ends)) (word_some word passes.1.1.1.0) (obligation_fields_lem fs name word (is_obligation s fs n line three))

    behind : Oblige f places m (obligation_count places m) start (start + length name)
    behind =
        let (long, short) = and_true (leb 1 (length name)) (leb (length name) 16) (stored (length name) (padded 16 name) passes.0).size in
        record {
          place = free;
          counted = refl;
          obliged = ready.obliged m (omega (arith, one_more));
          starts = omega (arith, leb-true 1 (length name) long);
          inside = omega (arith, there.within, here.ends);
          short = omega (arith, leb-true (length name) 16 short);
        }

    abbrev places' : List ElementPlaces
    places' = obliged places st.tree st.at fs

    -- the nearest element has it
    it_is : obligation_in f start (start + length name) ≡ obligation_of name word
    it_is = let effect = ap effect_at there.word_at ∙ effect_first word passes.1.1.1.0 in
        λ i. record { name = padded 16 (there.name_is i); len = length (there.name_is i); word = effect i }

    elements : elements_to f table places' st.tree.len ≡ nearest_with (obligation_of name word) s.before
    elements =
        ap (elements_to f table places') one_more
        ∙ elements_obliged f places m (obligation_count places m) start (start + length name) behind table
        ∙ ap₂ (λ o n. nearest_with o (elements_to f table places n)) it_is (sym one_more)

    own_count : length (nearest_obligations s.before) ≡ obligation_count places m
    own_count = ap length ((follows ready).obligations ∙ ap (last_obligations f places) one_more) ∙ count_is f places m

    -- the state behind the line
    obligation_next : Next f table places table places' st end (behind_obligation st end)
    obligation_next =
        let next-line = next_start (st.attributes.len + lines_to places st.tree.len) here ready.lined.next in
        record {
          ready = record {
            in_file = record {
              inside = omega (arith, here.ends);
              lines_passed = omega (arith, ready.in_file.lines_passed, here.starts);
              attributes = ready.in_file.attributes;
              space_is = ready.in_file.space_is;
              shallow = ready.in_file.shallow;
              few = ready.in_file.few;
            };
            rooms = record {
              rows = ready.rooms.rows;
              pairs = omega (arith, ready.rooms.pairs, obliging_length places m (obligation_count places m) start (start + length name) behind.obliged.room free);
              named = subst⁻¹ (Named f places') one_more (named_still f places m (obligation_count places m) start (start + length name) behind (subst (Named f places) one_more ready.rooms.named));
            };
            tree = subst⁻¹ (Stands st.tree) elements (stands_with (obligation_of name word) s.before ready.tree);
            lined = subst⁻¹ (λ n. Lined (line_start f) places' st.attributes.len n (end + 1)) one_more (lined_obliged f places m (obligation_count places m) start (start + length name) behind (line_start f) st.attributes.len st.at (end + 1) (subst (λ n. Lined (line_start f) places st.attributes.len n st.at) one_more ready.lined) (next-line ∙ ap (λ n. line_start f (suc (st.attributes.len + lines_to places n))) one_more));
            places_are = ready.places_are;
            clear = clear_still places m (obligation_count places m) start (start + length name) behind.obliged.room free st.tree.len (omega (arith, one_more)) ready.clear;
            obliged = λ i l. obliged_still f places m (obligation_count places m) start (start + length name) behind (λ j h. ready.obliged j (omega (arith, one_more))) i (omega (arith, one_more));
          };
          at_next = refl;
          line_next = refl;
          laid = (λ i. record { sofar = record { attributes = s.attributes; before = elements i }; table = table; places = places' })
              ∙ sym (rw (is_obligation s fs n line three, ← ready.tree.count, own_count));
        }

  -- what the code tells of the line is the step of reading over it
  pub obligation_told : {p : List ElementPlaces} {after : State} {r : Verdict} → ObligationStep f places p st end after r → StepIs f table places table p st end after r
  obligation_told {p} {after} {r} step = go r step
    where
      go : (r : Verdict) → ObligationStep f places p st end after r → StepIs f table places table p st end after r
      go (Ok done) step =
          let refusal = step.refusal s (follows ready) in
          record { refusal = refusal; next = rw (step.laid, step.state) (obligation_next (sym refusal)); stays = tt }
      go (Err why) step = record { refusal = step.refusal s (follows ready); next = tt; stays = record { table_is = refl; places_are = step.stays; state_is = step.same_state } }
