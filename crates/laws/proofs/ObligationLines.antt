-- An element's lines as the paper says them, its own and its obligations', and the element that is written as them.
use mathlib.Core.Path.{◌≡◌, refl, sym, ap, ap₂, ◌∙◌, subst}
use Prim.Native.Nat.{◌-◌, ◌≤◌}
use native.Mathlib.Omega.{arith}
use mathlib.Core.Bool.{false}
use mathlib.Core.List.{List, [], ◌∷◌, ◌++◌, map}
use lib.ListN.{length, get_or, replicate}
use lib.Seq.{length-take-le}
use Rattle.meaning.specs.Text.{Bytes, bytes, gathered}
use Rattle.meaning.specs.Model.{Attribute, obligation_name, unused, places_of, obligations_of, with_obligations, word_text}
use Rattle.meaning.specs.Reading.{may_have_obligations}
use Rattle.meaning.specs.Writing.{element_fields, obligation_fields}
use Rattle.meaning.specs.Claims.Texts.{All, Paired}
use Rattle.meaning.specs.Claims.PolicyFile.{GoodAttribute, ObligationLine, ElementLines, TreeLines}
use Rattle.laws.proofs.Types.{Kind, set, policy, rule, Obligation, Element}
use Rattle.laws.proofs.Bools.{contradiction}
use Rattle.laws.proofs.Words.{HasWord}
use Rattle.laws.proofs.Places.{GoodObligation, Carried, own_obligations_lem, obligations_with, places_with_lem, few_obligations}
use Rattle.laws.proofs.Bounds.{GoodElement, own_line, with_good, stored, stored_short, length_padded}
use Rattle.laws.proofs.Rewritten.{line_fields}
use Rattle.laws.proofs.LinesBack.{padded_take}
use Rattle.laws.proofs.TreeLines.{stored_name, name_short, tree_line_of, of_tree_line}

-- A good obligation is written as an obligation line of it
obligation_line_of : (o : Obligation) → GoodObligation o → ObligationLine (obligation_fields o) o
obligation_line_of o g =
    let n = stored o.len o.name g.named in
    let short = stored_short o.len o.name g.named in
    record {
      name = obligation_name o;
      are_fields = refl;
      is_name = n.is_name;
      name_bytes = sym (padded_take 16 o.len o.name g.name_size short n.zeros_behind);
      name_length = sym (length-take-le o.len o.name (omega (arith, g.name_size)));
      called = refl;
      effect = g.effect;
    }

obligation_lines_of : (os : List Obligation) → All GoodObligation os → Paired ObligationLine (map obligation_fields os) os
obligation_lines_of [] g = tt
obligation_lines_of (o ∷ os) g = (obligation_line_of o g.0, obligation_lines_of os g.1)

-- and an obligation line has a good one, which is written so
record OfObligations (ls : List (List Bytes)) (os : List Obligation) : Type 0 where
  pub good : All GoodObligation os
  pub fields : ls ≡ map obligation_fields os

of_obligation_lines : (ls : List (List Bytes)) (os : List Obligation) → Paired ObligationLine ls os → OfObligations ls os
of_obligation_lines [] [] x = record { good = tt; fields = refl }
of_obligation_lines [] (o ∷ os) x = absurd x
of_obligation_lines (l ∷ ls) [] x = absurd x
of_obligation_lines (l ∷ ls) (o ∷ os) x =
    let y = x.0 in
    let n = y.name in
    let own : GoodObligation o = record {
      named = rw (y.name_bytes, y.name_length) (stored_name n y.is_name);
      name_size = ap length y.name_bytes ∙ length_padded 16 n (name_short n y.is_name);
      effect = y.effect;
    } in
    let fields : l ≡ obligation_fields o = y.are_fields ∙ ap (λ m. bytes "O" ∷ m ∷ word_text o.word ∷ []) (sym y.called) in
    let later = of_obligation_lines ls os x.1 in
    record { good = (own, later.good); fields = rw (fields, later.fields) }

-- An element by the count and places of its obligations
with_again : (os : List Obligation) (e : Element) → length os ≤ 2 → e.obligations ≡ length os → places_of e ≡ os ++ replicate (2 - length os) unused → with_obligations os e ≡ e
with_again os e l c p =
    let q : places_of (with_obligations os e) ≡ places_of e = places_with_lem os e l ∙ sym p in
    let a : get_or os 0 unused ≡ e.first = cc in
    let b : get_or os 1 unused ≡ e.second = cc in
    λ i. record { kind = e.kind; depth = e.depth; name = e.name; len = e.len; word = e.word; masks = e.masks; obligations = sym c i; first = a i; second = b i }

pub may_not : (k : Kind) → may_have_obligations k ≡ false → k ≡ rule
may_not set h = contradiction refl h
may_not policy h = contradiction refl h
may_not rule h = refl

module _ (attrs : List Attribute) (attributes_good : All GoodAttribute attrs) (few : length attrs ≤ 6) where
  -- a good element's lines
  element_lines_of : (e : Element) → GoodElement attrs e → HasWord e → ElementLines attrs (line_fields attrs e) e
  element_lines_of e g w =
      let own = own_obligations_lem e g.few_obligations g.shaped g.unused_zero in
      let c = g.carried in
      record {
        own = element_fields attrs e;
        behind = map obligation_fields (obligations_of e);
        are = refl;
        tree_line = tree_line_of attrs attributes_good few e (own_line attrs e g) w;
        carried = obligations_of e;
        obligation_lines = obligation_lines_of (obligations_of e) c.each_good;
        at_most_two = few_obligations e;
        none_on_rule = λ r. c.rule_bare (ap may_have_obligations r);
        names_once = c.names_once;
        count = sym (ap (λ x. x.obligations) own);
        places = sym (ap places_of own) ∙ places_with_lem (obligations_of e) e (few_obligations e);
      }

  record OfElement (ls : List (List Bytes)) (e : Element) : Type 0 where
    pub good : GoodElement attrs e
    pub fields : ls ≡ line_fields attrs e
    pub word : HasWord e

  of_element_lines : (ls : List (List Bytes)) (e : Element) → ElementLines attrs ls e → OfElement ls e
  of_element_lines ls e x =
      let t = of_tree_line attrs attributes_good few x.own e x.tree_line in
      let os = x.carried in
      let d = of_obligation_lines x.behind os x.obligation_lines in
      let again = with_again os e x.at_most_two x.count x.places in
      let back : obligations_of e ≡ os = sym (ap obligations_of again) ∙ obligations_with os e x.at_most_two in
      let c : Carried e.kind os = record { at_most_two = x.at_most_two; each_good = d.good; names_once = x.names_once; rule_bare = λ h. x.none_on_rule (may_not e.kind h) } in
      record { good = subst (GoodElement attrs) again (with_good attrs e os t.good c); fields = x.are ∙ rw (t.fields, d.fields, back); word = t.word }

  -- all of them
  pub lines_of : (es : List Element) → All (GoodElement attrs) es → All HasWord es → TreeLines attrs (map (line_fields attrs) es) es
  lines_of [] g w = tt
  lines_of (e ∷ es) g w = (element_lines_of e g.0 w.0, lines_of es g.1 w.1)

  pub record OfLines (ls : List (List (List Bytes))) (es : List Element) : Type 0 where
    pub good : All (GoodElement attrs) es
    pub fields : gathered (λ l. l) ls ≡ gathered (line_fields attrs) es
    pub words : All HasWord es

  pub of_lines : (ls : List (List (List Bytes))) (es : List Element) → TreeLines attrs ls es → OfLines ls es
  of_lines [] [] x = record { good = tt; fields = refl; words = tt }
  of_lines [] (e ∷ es) x = absurd x
  of_lines (l ∷ ls) [] x = absurd x
  of_lines (l ∷ ls) (e ∷ es) x =
      let own = of_element_lines l e x.0 in
      let later = of_lines ls es x.1 in
      record { good = (own.good, later.good); fields = ap₂ (λ a b. a ++ b) own.fields later.fields; words = (own.word, later.words) }
