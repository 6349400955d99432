-- `obligation_refusal` meets its contract: the law of each answer, by what was found on the way to it.
use Prim.Native.Nat.{◌-◌}
use mathlib.Core.Path.{◌≡◌, refl, sym, ap, ◌∙◌}
use Rattle.std.specs.Prelude.{Option, None}
use Rattle.std.specs.Option.{is_some}
use mathlib.Core.Bool.{Bool, true, false, not}
use mathlib.Core.List.{List, [], map}
use native.Mathlib.Omega.{arith}
use lib.ListN.{get_or}
use Rattle.meaning.specs.Text.{Bytes, is_none, among_names, cut, tab, is_name}
use Rattle.meaning.specs.Model.{obligation_name}
use Rattle.meaning.specs.Reading.{word_of}
use Rattle.laws.proofs.Types.{Word, rule}
use Rattle.syntax.proofs.Fields.{no_word}
use Rattle.laws.specs.Found.{found}
use Rattle.layout.specs.Places.{obligations_in}
use Rattle.obligation_lines.proofs.ObligationTests.{rule_found, rule_told, bad_name_lem, no_element, known_name, behind_rule, third, bad_word, good_obligation}
use Rattle.obligation_lines.proofs.obligation_refusal.Goals as goal
use Rattle.obligation_lines.proofs.obligation_refusal.Goals.{Else-tree-eq0, Else-known_obligation, Else-eq}

-- what is known once a test has passed
named : (c : Else-tree-eq0) → is_name (get_or (cut tab c.args.line.now) 1 []) ≡ true
named c = sym (c.is_name.ensures ∙ ap is_name c.field-name.ensures) ∙ c.if-not-is_name.false

-- whether the nearest element has an obligation of this name
known_told : {name field : Bytes} (taken : List Bytes) {r : Bool} → name ≡ field → r ≡ among_names name taken → among_names field taken ≡ r
known_told taken e r = sym (r ∙ ap (λ n. among_names n taken) e)

fresh : (c : Else-known_obligation) → among_names (get_or (cut tab c.args.line.now) 1 []) (map obligation_name (obligations_in c.args.file.now c.args.places.now (c.args.tree.len - 1))) ≡ false
fresh c = known_told _ c.field-name.ensures c.known_obligation.ensures ∙ c.if-known_obligation.false

other : (c : Else-eq) → rule_found (get_or c.args.tree.kinds c.args.tree.depth None) ≡ false
other c = rule_told _ refl refl refl _ c.eq.ensures ∙ c.if-eq.false

-- whether the word is missing
word_told : {word field : Bytes} {o : Option Word} {r : Bool} → word ≡ field → o ≡ found (word_of rule word) → is_some o ≡ not r → is_none (word_of rule field) ≡ r
word_told {field = field} e o r = no_word (word_of rule field) (o ∙ ap (λ w. found (word_of rule w)) e) r

pub returns-then-not-is_name : goal.returns-then-not-is_name
returns-then-not-is_name c = bad_name_lem _ _ _ _ (sym (c.is_name.ensures ∙ ap is_name c.field-name.ensures) ∙ c.if-not-is_name.true)

pub returns-then-tree-eq0 : goal.returns-then-tree-eq0
returns-then-tree-eq0 c = no_element _ _ _ _ (sym (c.is_name.ensures ∙ ap is_name c.field-name.ensures) ∙ c.if-not-is_name.false) c.if-tree-eq0.true

pub known_obligation-requires : goal.known_obligation-requires
known_obligation-requires c = c.requires.1 (c.args.tree.len - 1) (omega arith)

pub returns-then-known_obligation : goal.returns-then-known_obligation
returns-then-known_obligation c =
    known_name _ _ _ _ (named (goal.at.returns-then-known_obligation c).Else-tree-eq0) c.if-tree-eq0.false (known_told _ c.field-name.ensures c.known_obligation.ensures ∙ c.if-known_obligation.true)

pub returns-then-eq : goal.returns-then-eq
returns-then-eq c =
    let at = goal.at.returns-then-eq c in
    behind_rule _ _ _ _ (named at.Else-tree-eq0) c.if-tree-eq0.false (fresh at.Else-known_obligation) c.requires.0 (rule_told _ refl refl refl _ c.eq.ensures ∙ c.if-eq.true)

pub returns-then-obligation_count-ge2 : goal.returns-then-obligation_count-ge2
returns-then-obligation_count-ge2 c =
    let at = goal.at.returns-then-obligation_count-ge2 c in
    third _ _ _ _ (named at.Else-tree-eq0) c.if-tree-eq0.false (fresh at.Else-known_obligation) c.requires.0 (other at.Else-eq) (omega (arith, c.obligation_count.ensures.value, c.if-obligation_count-ge2.true))

pub returns-then-is_none : goal.returns-then-is_none
returns-then-is_none c =
    let at = goal.at.returns-then-is_none c in
    bad_word _ _ _ _ (named at.Else-tree-eq0) c.if-tree-eq0.false (fresh at.Else-known_obligation) c.requires.0 (other at.Else-eq) (omega (arith, c.obligation_count.ensures.value, c.if-obligation_count-ge2.false))
    (word_told c.field.ensures c.word_of.ensures c.is_none.ensures ∙ c.if-is_none.true)

pub returns : goal.returns
returns c =
    let at = goal.at.returns c in
    good_obligation _ _ _ _ (named at.Else-tree-eq0) c.if-tree-eq0.false (fresh at.Else-known_obligation) c.requires.0 (other at.Else-eq) (omega (arith, c.obligation_count.ensures.value, c.if-obligation_count-ge2.false))
    (word_told c.field.ensures c.word_of.ensures c.is_none.ensures ∙ c.if-is_none.false)
