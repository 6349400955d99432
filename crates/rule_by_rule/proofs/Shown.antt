-- What is shown is the name of the rule that the search finds.
use mathlib.Core.Path.{◌≡◌, refl, sym, ap, ◌∙◌}
use Prim.Native.Nat.{ℕ}
use native.Mathlib.Omega.{arith}
use mathlib.Core.List.{List}
use mathlib.Core.Option.{Option, none, some, map}
use Rattle.std.specs.Prelude.{Option as Found}
use Rattle.std.specs.Option.{ForSome}
use Rattle.laws.specs.Found.{found as as_found}
use Rattle.laws.proofs.Found.{found_some}
use Rattle.meaning.specs.declared.Answer.{Answer}
use Rattle.meaning.specs.Text.{Bytes, if_some}
use Rattle.meaning.specs.Trimming.{name_at}
use Rattle.meaning.specs.RuleByRule.{next_name, next_rule_file}
use Rattle.meaning.specs.Operations.{next_rule_answer, next_rule_lent}
use Rattle.table.specs.declared.Row.{Row}
use Rattle.table.specs.declared.Shape.{Shape}
use Rattle.layout.specs.declared.ElementPlaces.{ElementPlaces}
use Rattle.layout.specs.Places.{NameAt}
use Rattle.printing.specs.Fitted.{Fitted}
use Rattle.trimmed_text.specs.Held.{PolicyHeld}
use Rattle.trimmed_text.proofs.Table.{name_at_lem}
use Rattle.trimmed_text.proofs.Whole.{line_of, name_of_line}
use Rattle.trimmed_text.proofs.Held.{sizes, found, found_needless, line_found}
use Rattle.rule_by_rule.specs.Shown.{name_or_none}

-- what the search finds has a name in the file
pub named_found : (f : List ℕ) (table : List Row) (places : List ElementPlaces) (s : Shape) (held : PolicyHeld f table places s) {next : Found ℕ} → next ≡ as_found (found f table places s held) → ForSome next (λ i. NameAt f places i)
named_found f table places s held is = λ i e. held.naming.each i (found_needless f table places s held i (found_some _ (sym is ∙ e))).0

module _ (f : List ℕ) (table : List Row) (places : List ElementPlaces) (s : Shape) (held : PolicyHeld f table places s) (next : Found ℕ) (is : next ≡ as_found (found f table places s held)) where
  name_is : next_name f ≡ name_or_none f places next
  unfolding next_name
  name_is = ap (λ o. if_some o (name_at f)) (line_found f table places s held) ∙ rw is (go (found f table places s held) refl)
    where
      go : (o : Option ℕ) → found f table places s held ≡ o → if_some (map (line_of f held.policy held.is_read) o) (name_at f) ≡ name_or_none f places (as_found o)
      go none e = refl
      go (some i) e =
          let l = (found_needless f table places s held i e).0 in
          name_of_line f held.policy held.is_read i (omega (arith, l, sizes f table places s held)) ∙ name_at_lem f table places s.n held.policy held.elements i l

  pub show_fitted : {out new : Bytes} {a : Answer} → Fitted out (name_or_none f places next) new a → (a ≡ next_rule_answer f out) × (new ≡ next_rule_lent f out)
  unfolding next_rule_file
  show_fitted fits = (fits.answers ∙ rw (held.is_read, name_is), fits.lends ∙ rw (held.is_read, name_is))
