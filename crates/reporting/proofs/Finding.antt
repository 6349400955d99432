-- What was found, from what the functions that find it lay down.
use mathlib.Core.Path.{◌≡◌, sym, ap, ◌∙◌, subst}
use Prim.Native.Nat.{ℕ, zero, suc, ◌≤◌}
use native.Mathlib.Omega.{arith}
use mathlib.Core.List.{List, ◌++◌, map}
use mathlib.Core.Option.{Option, none, some}
use lib.ListN.{length, take, drop, get_or, set, length-take}
use lib.Seq.{take_at}
use mathlib.Core.Bool.{Bool}
use Rattle.meaning.specs.declared.Decision.{Decision}
use Rattle.meaning.specs.Text.{Bytes, counting}
use Rattle.meaning.specs.declared.Element.{Element}
use Rattle.table.specs.declared.Row.{Row}
use Rattle.std.specs.Prelude.{Option as Found, None}
use Rattle.laws.specs.Found.{found}
use Rattle.table.specs.Tree.{parent_of}
use Rattle.table.specs.declared.Shape.{Shape}
use Rattle.table.specs.Shape.{hit_of}
use Rattle.matching.specs.Hits.{HitsLaid}
use Rattle.blocks.specs.declared.Effects.{Effects}
use Rattle.outcomes.specs.Decided.{none_struck, outcome_at}
use Rattle.outcomes.specs.PolicyTable.{OutcomesLaid}
use Rattle.outcomes.proofs.Laying.{laid_at_lem}
use Rattle.trimming.specs.Decided.{onward, shown_at, next_at, trimming_at}
use Rattle.trials.specs.Trial.{Laid}
use Rattle.trimming.specs.Trims.{Trims}
use Rattle.trimmed_text.proofs.Steadying.{steady}
use Rattle.layout.specs.declared.ElementPlaces.{ElementPlaces}
use Rattle.layout.specs.Places.{Naming}
use Rattle.rows.specs.Rows.{Applied, Given}
use Rattle.segments.specs.Sizes.{size_at}
use Rattle.segments.specs.Across.{word_across}
use Rattle.segments.proofs.Columns.{across_applying}
use Rattle.conflicts.specs.Pairs.{shown_by, Pairs}
use Rattle.conflicts.proofs.Showing.{pairs_by_table}
use Rattle.report_lines.specs.Ready.{Ordered}
use Rattle.reporting.specs.Found.{trimmed_at, SegmentsFound, ConflictsFound, RulesFound}
use Rattle.trimmed_text.specs.Held.{PolicyHeld}
use Rattle.reporting.proofs.StruckText.{order_below}

-- striking takes no more steps than there are
order_few : (f : Bytes) (places : List ElementPlaces) (t : List Row) (n : ℕ) (hit : ℕ → Element → Bool) (space : ℕ) (steps : ℕ) (struck : List ℕ) → length (trimming_at f places t n hit space steps struck).order ≤ steps
unfolding trimming_at
order_few f places t n hit space zero struck = omega arith
order_few f places t n hit space (suc k) struck = go (next_at f places t n hit space struck) (λ i. order_few f places t n hit space k (set struck i 1))
  where
    go : (o : Option ℕ) → ((i : ℕ) → length (trimming_at f places t n hit space k (set struck i 1)).order ≤ k) → length (onward o struck (λ i. trimming_at f places t n hit space k (set struck i 1))).order ≤ suc k
    go none later = omega arith
    go (some i) later = omega (arith, later i)

module _ (t : List Row) (s : Shape) where
  -- the rules, from the flags that striking left
  module _ (f : Bytes) (places : List ElementPlaces) (outcomes : List Effects) (flags old order : List ℕ) (behind shown : List (Found ℕ)) (count : ℕ) (trims : Trims f places t outcomes s none_struck flags old order count) where
    pub rules_found : shown ≡ map (λ i. found (shown_at f places t s.n (hit_of s) s.space flags i)) (counting 0 s.n) ++ behind → RulesFound f places t s.n (hit_of s) s.space order shown count
    rules_found e =
        let end = trimmed_at f places t s.n (hit_of s) s.space in
        record {
          struck = ap (take count) trims.order_is ∙ take_at end.order (drop count old) count (sym trims.count_is);
          counted = trims.count_is;
          few = omega (arith, trims.count_is, order_few f places t s.n (hit_of s) s.space s.n none_struck);
          stays = subst (λ fs. get_or fs 0 0 ≡ 0) trims.flags_are trims.ready.stays;
          needed = λ i l. laid_at_lem None (λ j. found (shown_at f places t s.n (hit_of s) s.space flags j)) s.n behind e i l ∙ ap (λ fs. found (shown_at f places t s.n (hit_of s) s.space fs i)) trims.flags_are;
        }

  -- segments, from the words of all requests
  pub segments_found : (words sizes : List ℕ) {decided : List Decision} (rows : List (List ℕ)) (a b : List ℕ) → Applied t s.n (hit_of s) s.space rows → words ≡ map (word_across rows s.n) (counting 0 s.space) ++ a
      → sizes ≡ map (size_at words s.space) (counting 0 s.space) ++ b → (outcomes : List Effects) (y : List Decision) → OutcomesLaid t none_struck outcomes s → decided ≡ map (outcome_at outcomes) (counting 0 s.space) ++ y → SegmentsFound t s.n (hit_of s) s.space words sizes decided
  segments_found words sizes rows a b applied marked measured outcomes y holds decides =
      record {
        applying = λ m l. laid_at_lem 0 (word_across rows s.n) s.space a marked m l ∙ across_applying t s.n (hit_of s) s.space rows applied m l;
        sized = λ m l. laid_at_lem 0 (size_at words s.space) s.space b measured m l;
        told = λ m l. laid_at_lem Decision.Permit (outcome_at outcomes) s.space y decides m l ∙ holds.outcomes_are m l;
      }

  -- conflicts, from the rows
  pub conflicts_found : (rows permits denies : List (List ℕ)) (parents : List (Found ℕ)) (pairs : List (List ℕ)) (x : List (Found ℕ)) → Applied t s.n (hit_of s) s.space rows → Given Decision.Permit t none_struck s.n (hit_of s) s.space permits → Given Decision.Deny t none_struck s.n (hit_of s) s.space denies
      → parents ≡ map (λ i. found (parent_of t i)) (counting 0 s.n) ++ x → Pairs parents (shown_by rows permits denies) s.n s.space pairs → ConflictsFound t s.n (hit_of s) s.space parents pairs
  conflicts_found rows permits denies parents pairs x applied permitted denied above paired =
      record {
        parented = λ j l. laid_at_lem None (λ i. found (parent_of t i)) s.n x above j l;
        paired = pairs_by_table t none_struck s.n (hit_of s) s.space rows permits denies applied permitted denied parents pairs paired;
      }

-- what trimming asks, of a policy that is held
pub laid : (f : List ℕ) (table : List Row) (places : List ElementPlaces) (hits : List (List ℕ)) (outcomes : List Effects) (s : Shape) (held : PolicyHeld f table places s) → HitsLaid table hits s → OutcomesLaid table none_struck outcomes s → Laid f places table none_struck hits outcomes s
laid f table places hits outcomes s held matched holds = record { steady = steady f held.policy held.is_read table places s held.elements held.obliged; ready = held.ready; matched = matched; holds = holds }

-- each place struck has a name
pub struck_named : (f : Bytes) (places : List ElementPlaces) (t : List Row) (n : ℕ) (hit : ℕ → Element → Bool) (space : ℕ) (order : List ℕ) (shown : List (Found ℕ)) (count : ℕ) → Naming f places n → RulesFound f places t n hit space order shown count → Ordered f places (take count order)
struck_named f places t n hit space order shown count naming rules =
    let struck = (trimmed_at f places t n hit space).order in
    subst (Ordered f places) (sym rules.struck)
    (record { few = omega (arith, naming.few, rules.few, rules.counted); each = λ k l. naming.each (get_or struck k 0) (order_below f places t n hit space k l) })

-- and they are in the list
pub struck_counted : (f : Bytes) (places : List ElementPlaces) (t : List Row) (n : ℕ) (hit : ℕ → Element → Bool) (space : ℕ) (order : List ℕ) (shown : List (Found ℕ)) (count : ℕ) → RulesFound f places t n hit space order shown count → count ≤ length order
struck_counted f places t n hit space order shown count rules = omega (arith, ap length rules.struck, length-take count order, rules.counted)
