-- The answer to a request, from what was read of the file and of the request line.
use Rattle.std.specs.Prelude.{Result as Told, Ok, Err}
use mathlib.Core.Path.{◌≡◌, refl, sym, ap, ap₂, ◌∙◌, subst}
use Prim.Native.Nat.{ℕ, ◌≤◌}
use native.Mathlib.Omega.{arith}
use mathlib.Core.List.{List}
use lib.ListN.{length, take, replicate, get_or-replicate}
use Rattle.meaning.specs.declared.Decided.{Decided}
use Rattle.meaning.specs.Text.{Bytes}
use Rattle.meaning.specs.Model.{Policy, severals, Result, refused, given, ◌then◌}
use Rattle.meaning.specs.Reading.{read}
use Rattle.meaning.specs.Deciding.{Request, request_line, Outcome, matches, decide, decide_file}
use Rattle.meaning.specs.Operations.{lent, decided_by, decide_answer, decide_lent}
use Rattle.requests.specs.Values.{values_of, severals_of}
use Rattle.requests.proofs.Laid.{values_with}
use Rattle.table.specs.declared.Row.{Row}
use Rattle.table.specs.declared.Shape.{Shape}
use Rattle.table.specs.Rows.{depth_of}
use Rattle.layout.specs.declared.ElementPlaces.{ElementPlaces}
use Rattle.layout.specs.Places.{attributes_of, severals_at}
use Rattle.obligations.specs.Given.{outcome_left}
use Rattle.obligations.proofs.Left.{outcome_whole}
use Rattle.deciding.specs.Told.{outcome_on, outcome_for, Told as ToldAs, Asking}
use Rattle.requests.specs.declared.Request.{Request as Asked}
use Rattle.refusals.specs.declared.Refused.{Refused}
use Rattle.refusals.specs.Numbers.{number_of}
use Rattle.request_lines.specs.Asked.{AskedAs}
use Rattle.reader.specs.declared.Policy.{Policy as PolicyRead}
use Rattle.reader.specs.Told.{policy_shape, ReadPolicy}
use Rattle.reader.proofs.FileRead.{few}
use Rattle.jogimaduve.proofs.Shaping.{letters_are}

-- a refusal's answer: its two numbers and no bytes
abbrev refused_by : ℕ → ℕ → Decided
refused_by n m = record { number = n; second = m; length = 0 }

-- what deciding answers, and the buffer afterwards, by what it gives
abbrev Answers : Bytes → Bytes → Decided → Result Outcome → Type 0
Answers old new r x = (r ≡ decided_by x) × (new ≡ lent old (x then λ o. given o.obligations))

-- a file that is refused
pub refusal_answered : (f : Bytes) {n m : ℕ} → read f ≡ refused n m → (request out : Bytes) → (refused_by n m ≡ decide_answer f request out) × (out ≡ decide_lent f request out)
unfolding decide_file
refusal_answered f h request out = (rw h, rw h)

module _ (f : List ℕ) (table : List Row) (places : List ElementPlaces) (r : PolicyRead) (p : Policy) (h : read f ≡ given p) (holds : ReadPolicy f table places r p) (request out : Bytes) where
  -- what a request of the policy gets, for this buffer
  abbrev gets : Request → Result Outcome
  gets q = outcome_for (length out) (decide p q)

  decides_so : decide_file (length out) f request ≡ (request_line p.attributes request then gets)
  unfolding decide_file
  decides_so = rw h

  answered_so : (new : Bytes) (d : Decided) → Answers out new d (request_line p.attributes request then gets) → (d ≡ decide_answer f request out) × (new ≡ decide_lent f request out)
  answered_so new d x = (x.0 ∙ ap decided_by (sym decides_so), x.1 ∙ ap (λ y. lent out (y then λ o. given o.obligations)) (sym decides_so))

  -- the line asks the same of the policy's attributes
  asked_policy : (x : Told Asked Refused) → AskedAs r.attributes x (request_line (attributes_of f r.attributes) request) → AskedAs r.attributes x (request_line p.attributes request)
  asked_policy x asks = subst (λ attrs. AskedAs r.attributes x (request_line attrs request)) (sym holds.attributes) asks

  -- a request line that is refused
  pub request_refused : (x : Refused) → AskedAs r.attributes (Err x) (request_line (attributes_of f r.attributes) request)
      → (refused_by (number_of x.why) x.second ≡ decide_answer f request out) × (out ≡ decide_lent f request out)
  request_refused x asks = answered_so out (refused_by (number_of x.why) x.second) (go (request_line p.attributes request) (asked_policy (Err x) asks))
    where
      go : (y : Result Request) → AskedAs r.attributes (Err x) y → Answers out out (refused_by (number_of x.why) x.second) (y then gets)
      go (given q) t = elim t [ ]
      go (refused n m) t = (ap (λ z. refused_by (number_of z.why) z.second) t.is ∙ ap (λ k. refused_by k m) (sym t.number), refl)

  -- a request that is decided
  module _ (a : Asked) (asks : AskedAs r.attributes (Ok a) (request_line (attributes_of f r.attributes) request)) where
    pub asking : {s : Shape} → s ≡ policy_shape r → Asking f table places s.n a
    asking shaped =
        let small = few f table places r p h holds in
        rw shaped (record { rows = omega (arith, holds.rooms.rows, small); some = holds.some; few = small; each = holds.obliged; values = go (request_line p.attributes request) (asked_policy (Ok a) asks) })
      where
        go : (x : Result Request) → AskedAs r.attributes (Ok a) x → a.len ≤ 6
        go (refused n m) t = elim t [ ]
        go (given q) t = rw (t.is, t.count) holds.spaced.standing.few

    pub request_decided : {s : Shape} → s ≡ policy_shape r → depth_of table 0 ≡ 0 → (new : Bytes) (d : Decided) → ToldAs out new (outcome_on f table places s.n a) d → (d ≡ decide_answer f request out) × (new ≡ decide_lent f request out)
    request_decided shaped top new d is_told = answered_so new d (go (request_line p.attributes request) (asked_policy (Ok a) asks))
      where
        told : ToldAs out new (outcome_on f table places r.elements a) d
        told = subst (λ s. ToldAs out new (outcome_on f table places s.n a) d) shaped is_told

        go : (x : Result Request) → AskedAs r.attributes (Ok a) x → Answers out new d (x then gets)
        go (refused k m) t = elim t [ ]
        go (given q) t =
            let letters : severals_of a ≡ severals p.attributes = ap severals_of t.is ∙ ap (λ k. take k (severals_at r.attributes)) t.count ∙ letters_are f table places r p h holds in
            let values : values_of a ≡ q = ap values_of t.is ∙ values_with (severals_at r.attributes) q in
            let same : outcome_on f table places r.elements a ≡ decide p q =
            ap₂ (λ bs vs. outcome_left (matches bs vs) f table places (replicate 64 0) r.elements) letters values
            ∙ sym (outcome_whole f table places (replicate 64 0) r.elements p q holds.elements (λ k l. get_or-replicate 64 k 0 0 (omega (arith, l, few f table places r p h holds))) holds.some top) in
            (told.answers ∙ ap (λ o. decided_by (outcome_for (length out) o)) same, told.lends ∙ ap (λ o. lent out (outcome_for (length out) o then λ x. given x.obligations)) same)
