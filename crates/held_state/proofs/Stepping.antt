-- A step: none is left, or the lines of the rule that is found are struck.
use mathlib.Core.Path.{◌≡◌, refl, sym, ap, ap₂, ◌∙◌}
use mathlib.Core.Logic.{◌≢◌}
use Prim.Native.Nat.{ℕ, ◌+◌, ◌-◌, ◌≤◌, ◌<◌}
use native.Mathlib.Omega.{arith}
use mathlib.Core.Bool.{true, false}
use mathlib.Core.List.{List, ◌++◌, append-nil}
use mathlib.Core.Option.{none, some, map}
use lib.Dec.{eqb}
use lib.ListN.{length, take, drop, get_or, set, length-append, length-drop}
use lib.Seq.{drop-length, length-take-le, get_or-set_same, get_or-set_other}
use borrow.Author.Tests.{eq-eqb}
use Rattle.std.specs.Prelude.{Some, None}
use Rattle.meaning.specs.Text.{Bytes}
use Rattle.laws.specs.Found.{found as as_found}
use Rattle.laws.proofs.Found.{found_some, found_none}
use Rattle.meaning.specs.Model.{given}
use Rattle.meaning.specs.Trimming.{strike, next_struck}
use Rattle.meaning.specs.HeldState.{Step, step_on, step_file}
use Rattle.meaning.specs.Operations.{lent, step_answer, step_lent}
use Rattle.laws.proofs.HeldState.{step_none, step_some}
use Rattle.table.specs.declared.Row.{Row}
use Rattle.table.specs.declared.Shape.{Shape}
use Rattle.table.specs.Shape.{hit_of}
use Rattle.outcomes.specs.Decided.{none_struck}
use Rattle.layout.specs.declared.ElementPlaces.{ElementPlaces}
use Rattle.layout.specs.Places.{start_of}
use Rattle.trimmed_text.specs.Flags.{is_left, needless_at}
use Rattle.trimmed_text.specs.Held.{PolicyHeld}
use Rattle.trimmed_text.specs.Copied.{lines_end, Copies}
use Rattle.trimmed_text.proofs.Tabled.{needless_is}
use Rattle.trimmed_text.proofs.Placed.{text_copied}
use Rattle.trimmed_text.proofs.Copying.{lines_lie}
use Rattle.trimmed_text.proofs.Whole.{none_clear, line_of, strike_line}
use Rattle.trimmed_text.proofs.Held.{sizes, copies_held, found, found_needless, line_found}
use Rattle.held_state.specs.Closed.{closed}
use Rattle.held_state.proofs.Gap.{one_struck}

-- of flags of which one is set the others are left
others_left : (i j : ℕ) → j ≢ i → is_left (set none_struck i 1) j ≡ true
others_left i j other = eq-eqb (get_or (set none_struck i 1) j 0) 0 (get_or-set_other none_struck i j 1 0 other ∙ none_clear j)

module _ (f : List ℕ) (table : List Row) (places : List ElementPlaces) (s : Shape) (held : PolicyHeld f table places s) where
  step_read : (x : Step) → step_on f ≡ x → step_file f ≡ given x
  unfolding step_file
  step_read x e = rw (held.is_read, e)

  -- no rule is found
  pub none_left : None ≡ as_found (found f table places s held) → (record { number = 0; second = length f; struck = 0 } ≡ step_answer f) × (f ≡ step_lent f)
  none_left is =
      let none-next : next_struck f ≡ none = line_found f table places s held ∙ ap (map (line_of f held.policy held.is_read)) (found_none _ (sym is)) in
      let e = step_read _ (step_none f none-next) in
      let whole : lent f (given f) ≡ f = ap (λ x. f ++ x) (drop-length f) ∙ append-nil f in
      (rw e, rw e (sym whole))

  -- a rule is found
  module _ (next : ℕ) (is : Some next ≡ as_found (found f table places s held)) where
    rule_found : found f table places s held ≡ some next
    rule_found = found_some _ (sym is)

    pub here : next < s.n
    here = (found_needless f table places s held next rule_found).0

    copies : Copies f places (set none_struck next 1) s.n
    copies = copies_held f table places s held none_struck refl next 1

    -- its lines lie in the text
    pub gap_lies : (end : ℕ) → end ≡ lines_end f places s.n next → (start_of places next ≤ end) × (end ≤ length f)
    gap_lies end e = rw e (lines_lie f places (set none_struck next 1) s.n copies next here)

    flag : is_left (set none_struck next 1) next ≡ false
    flag = ap (λ x. eqb x 0) (get_or-set_same none_struck next 1 0 (omega (arith, here, held.ready.few)))

    -- without them it is what striking the rule's line leaves
    text_left_lem : strike (line_of f held.policy held.is_read next) f ≡ take (start_of places next) f ++ drop (lines_end f places s.n next) f
    text_left_lem =
        let p = held.policy in
        let h = held.is_read in
        let size = sizes f table places s held in
        let by-table = needless_is f p h table places s.n held.elements size (hit_of s) s.space held.hits_are held.space_is none_struck refl next here in
        let rule : needless_at p none_struck next ≡ true = sym by-table ∙ (found_needless f table places s held next rule_found).1 in
        strike_line f p h next rule
        ∙ text_copied f p h table places (set none_struck next 1) (length p.attributes) s.n refl held.elements size held.lined held.ready.some
        ∙ one_struck f places (set none_struck next 1) s.n copies next here flag (others_left next)

    step_is : step_file f ≡ given (record { text = take (start_of places next) f ++ drop (lines_end f places s.n next) f; struck = true })
    step_is =
        let next-is : next_struck f ≡ some (line_of f held.policy held.is_read next) = line_found f table places s held ∙ ap (map (line_of f held.policy held.is_read)) rule_found in
        step_read _ (step_some f _ next-is ∙ ap (λ t. record { text = t; struck = true }) text_left_lem)

    pub struck_so : (end : ℕ) → end ≡ lines_end f places s.n next → {new : Bytes} → new ≡ closed f (start_of places next) end
        → (record { number = 0; second = length f - (end - start_of places next); struck = 1 } ≡ step_answer f) × (new ≡ step_lent f)
    struck_so end e moved =
        let start = start_of places next in
        let (low, high) = gap_lies end e in
        let step : step_file f ≡ given (record { text = take start f ++ drop end f; struck = true }) = rw e step_is in
        let size : length (take start f ++ drop end f) ≡ start + (length f - end) =
        length-append (take start f) (drop end f) ∙ ap₂ (λ a b. a + b) (length-take-le start f (omega arith)) (length-drop end f) in
        let told : length f - (end - start) ≡ length (take start f ++ drop end f) = omega arith in
        (rw step (λ i. record { number = 0; second = told i; struck = 1 }), moved ∙ rw (step, size))
