-- A name strikes the line of the needless rule that has it.
use mathlib.Core.Path.{◌≡◌, refl, sym, ap, ◌∙◌}
use Prim.Native.Nat.{ℕ, ◌<◌}
use native.Mathlib.Omega.{arith}
use mathlib.Core.Bool.{true, false}
use mathlib.Core.List.{List}
use mathlib.Core.Option.{Option, none, some}
use lib.ListN.{length, set}
use Rattle.meaning.specs.declared.Answer.{Answer}
use Rattle.meaning.specs.Text.{Bytes, last_below, same_name}
use Rattle.meaning.specs.Model.{Policy, given}
use Rattle.meaning.specs.Reading.{read}
use Rattle.meaning.specs.Trimming.{name_at}
use Rattle.meaning.specs.RuleByRule.{strike_named, strike_file}
use Rattle.meaning.specs.Operations.{strike_answer, strike_lent}
use Rattle.meaning.specs.Report.{name_in}
use Rattle.meaning.specs.Claims.RuleByRule.{NeedlessRule}
use Rattle.laws.proofs.Bools.{contradiction}
use Rattle.laws.proofs.Search.{last_some, last_none}
use Rattle.laws.proofs.Names.{equal_names}
use Rattle.laws.proofs.Trimming.{needless_rule, rule_needless}
use Rattle.laws.proofs.RuleByRule.{one_element, striking, no_needless_rule}
use Rattle.table.specs.declared.Row.{Row}
use Rattle.table.specs.declared.Shape.{Shape}
use Rattle.table.specs.Shape.{hit_of}
use Rattle.outcomes.specs.Decided.{none_struck}
use Rattle.layout.specs.declared.ElementPlaces.{ElementPlaces}
use Rattle.layout.specs.Places.{has_name}
use Rattle.printing.specs.Fitted.{Fitted}
use Rattle.trimming.specs.Decided as table-level
use Rattle.trimmed_text.specs.Flags.{needless_at}
use Rattle.trimmed_text.specs.Held.{PolicyHeld}
use Rattle.trimmed_text.specs.Copied.{copied}
use Rattle.trimmed_text.proofs.Table.{name_at_lem}
use Rattle.trimmed_text.proofs.Tabled.{needless_is}
use Rattle.trimmed_text.proofs.Placed.{text_copied}
use Rattle.trimmed_text.proofs.Whole.{line_of, name_of_line, needless_line, line_needless, strike_line}
use Rattle.trimmed_text.proofs.Held.{sizes}

module _ (f : List ℕ) (table : List Row) (places : List ElementPlaces) (s : Shape) (held : PolicyHeld f table places s) (name : Bytes) where
  abbrev p : Policy
  p = held.policy

  abbrev h : read f ≡ given p
  h = held.is_read

  abbrev size : length p.elements ≡ s.n
  size = sizes f table places s held

  -- whether element i is needless, by the table and by the policy
  by_table : (i : ℕ) → i < s.n → table-level.needless_at f places table s.n (hit_of s) s.space none_struck i ≡ needless_at p none_struck i
  by_table i l = needless_is f p h table places s.n held.elements size (hit_of s) s.space held.hits_are held.space_is none_struck refl i l

  -- its name on its line, in the policy and in the file
  line_name : (i : ℕ) → i < s.n → name_at f (line_of f p h i) ≡ name_in p.elements i
  line_name i l = name_of_line f p h i (omega (arith, size))

  has_name_lem : (i : ℕ) → i < s.n → has_name f places name i ≡ same_name name (name_in p.elements i)
  has_name_lem i l = ap (same_name name) (sym (name_at_lem f table places s.n p held.elements i l))

  -- a needless rule of this name is an element that has it
  record Found : Type 0 where
    place : ℕ
    inside : place < s.n
    called : has_name f places name place ≡ true
    is_needless : needless_at p none_struck place ≡ true

  rule_found : NeedlessRule f name → Found
  rule_found r =
      let x = line_needless f p h r.place (rule_needless f r.place r.is_needless) in
      let l : x.place < s.n = omega (arith, x.inside, size) in
      let own : name_at f r.place ≡ name_in p.elements x.place = ap (name_at f) (sym x.line) ∙ line_name x.place l in
      record { place = x.place; inside = l; called = has_name_lem x.place l ∙ ap (same_name name) (sym own) ∙ (equal_names name (name_at f r.place)).tests r.has_name; is_needless = x.is_needless }

  -- 15 where there is none
  none_struck_so : (out : Bytes) → (NeedlessRule f name → ⊥) → (record { number = 15; second = 0 } ≡ strike_answer f name out) × (out ≡ strike_lent f name out)
  unfolding strike_file
  none_struck_so out none_named = let e = (no_needless_rule f p h name 15 0).1 (none_named, refl, refl) in (rw (h, e), rw (h, e))

  abbrev last : Option ℕ
  last = last_below (has_name f places name) s.n

  -- no element has the name
  pub no_element : last ≡ none → (out : Bytes) → (record { number = 15; second = 0 } ≡ strike_answer f name out) × (out ≡ strike_lent f name out)
  no_element none_there out = none_struck_so out (λ r. go (rule_found r))
    where
      go : Found → ⊥
      go x = contradiction x.called (last_none (has_name f places name) s.n none_there x.place x.inside)

  -- an element has it
  module _ (i : ℕ) (is : last ≡ some i) where
    pub here : (i < s.n) × (has_name f places name i ≡ true)
    here = let x = last_some (has_name f places name) s.n i is in (x.below, x.holds)

    -- it is not needless
    pub needed : table-level.needless_at f places table s.n (hit_of s) s.space none_struck i ≡ false → (out : Bytes) → (record { number = 15; second = 0 } ≡ strike_answer f name out) × (out ≡ strike_lent f name out)
    needed not out = none_struck_so out (λ r. go (rule_found r))
      where
        go : Found → ⊥
        go x =
            let one = one_element f p h name x.place i (omega (arith, x.inside, size)) (omega (arith, here.0, size)) (sym (has_name_lem x.place x.inside) ∙ x.called) (sym (has_name_lem i here.0) ∙ here.1) in
            contradiction x.is_needless (ap (needless_at p none_struck) one ∙ sym (by_table i here.0) ∙ not)

    -- it is
    module _ (needless : table-level.needless_at f places table s.n (hit_of s) s.space none_struck i ≡ true) where
      abbrev rule : needless_at p none_struck i ≡ true
      rule = sym (by_table i here.0) ∙ needless

      own_rule : NeedlessRule f name
      own_rule = record {
        place = line_of f p h i;
        is_needless = needless_rule f p h (line_of f p h i) (needless_line f p h i rule);
        has_name = (equal_names name (name_at f (line_of f p h i))).holds (ap (same_name name) (line_name i here.0) ∙ sym (has_name_lem i here.0) ∙ here.1);
      }

      text_is : strike_named f name ≡ given (copied f places (set none_struck i 1) s.n)
      unfolding own_rule
      text_is = (striking f p h name (copied f places (set none_struck i 1) s.n)).1 (own_rule, sym (strike_line f p h i rule ∙ text_copied f p h table places (set none_struck i 1) (length p.attributes) s.n refl held.elements size held.lined held.ready.some))

      pub strike_fitted : (old : List ℕ) → old ≡ none_struck → {out new : Bytes} {a : Answer} → Fitted out (copied f places (set old i 1) s.n) new a → (a ≡ strike_answer f name out) × (new ≡ strike_lent f name out)
      unfolding strike_file
      strike_fitted old clear fits = (fits.answers ∙ rw (h, text_is, clear), fits.lends ∙ rw (h, text_is, clear))
