-- The table of the definitions and appendix C's loops give the same.
use mathlib.Core.Path.{◌≡◌, refl}
use mathlib.Core.Bool.{Bool, true, false, cond, ◌||◌}
use mathlib.Core.List.{List, [], ◌∷◌, map}
use mathlib.Core.Option.{some, none}
use Rattle.meaning.specs.Text.{keep}
use Rattle.meaning.specs.Deciding.{is, Reply, gives, first, only_one, combined}
use Rattle.meaning.specs.Claims.Standard.{deny_overrides_algorithm, permit_overrides_algorithm, first_applicable_algorithm, only_one_applicable_algorithm, standard}
use Rattle.laws.proofs.Types.{Word, deny_overrides, permit_overrides, first_applicable, only_one_applicable, Decision, not_applicable, indeterminate}
use Rattle.laws.proofs.Bools.{Test, passed, failed, test}

abbrev decisions : List Reply → List Decision
decisions rs = map (λ r. r.decision) rs

-- deny-overrides with what was seen so far
deny_loop : (permit : Bool) (rs : List Reply) → cond (gives Decision.Deny rs || gives indeterminate rs) Decision.Deny (cond (permit || gives Decision.Permit rs) Decision.Permit not_applicable) ≡ deny_overrides_algorithm permit (decisions rs)
deny_loop true [] = refl
deny_loop false [] = refl
deny_loop permit (r ∷ rs) = go r.decision permit (deny_loop permit rs) (deny_loop true rs)
  where
    go : (d : Decision) (permit : Bool) → cond (gives Decision.Deny rs || gives indeterminate rs) Decision.Deny (cond (permit || gives Decision.Permit rs) Decision.Permit not_applicable) ≡ deny_overrides_algorithm permit (decisions rs)
        → cond (gives Decision.Deny rs || gives indeterminate rs) Decision.Deny Decision.Permit ≡ deny_overrides_algorithm true (decisions rs)
        → cond ((is Decision.Deny d || gives Decision.Deny rs) || (is indeterminate d || gives indeterminate rs)) Decision.Deny (cond (permit || (is Decision.Permit d || gives Decision.Permit rs)) Decision.Permit not_applicable) ≡ deny_overrides_algorithm permit (d ∷ decisions rs)
    go Decision.Permit true ih seen = seen
    go Decision.Permit false ih seen = seen
    go Decision.Deny permit ih seen = refl
    go not_applicable permit ih seen = ih
    go indeterminate permit ih seen = either (gives Decision.Deny rs)
      where
        either : (b : Bool) → cond (b || true) Decision.Deny (cond (permit || gives Decision.Permit rs) Decision.Permit not_applicable) ≡ Decision.Deny
        either true = refl
        either false = refl

-- permit-overrides, the same
abbrev Loop : List Reply → Bool → Bool → Type 0
Loop rs error deny = cond (gives Decision.Permit rs) Decision.Permit (cond (deny || gives Decision.Deny rs) Decision.Deny (cond (error || gives indeterminate rs) indeterminate not_applicable)) ≡ permit_overrides_algorithm error deny (decisions rs)

permit_loop : (error deny : Bool) (rs : List Reply) → Loop rs error deny
permit_loop true true [] = refl
permit_loop true false [] = refl
permit_loop false true [] = refl
permit_loop false false [] = refl
permit_loop error deny (r ∷ rs) = go r.decision error deny (permit_loop error deny rs) (permit_loop true deny rs) (permit_loop error true rs)
  where
    go : (d : Decision) (error deny : Bool) → Loop rs error deny → Loop rs true deny → Loop rs error true
        → cond (is Decision.Permit d || gives Decision.Permit rs) Decision.Permit (cond (deny || (is Decision.Deny d || gives Decision.Deny rs)) Decision.Deny (cond (error || (is indeterminate d || gives indeterminate rs)) indeterminate not_applicable)) ≡ permit_overrides_algorithm error deny (d ∷ decisions rs)
    go Decision.Permit error deny ih erred denied = refl
    go Decision.Deny error true ih erred denied = denied
    go Decision.Deny error false ih erred denied = denied
    go not_applicable error deny ih erred denied = ih
    go indeterminate true deny ih erred denied = erred
    go indeterminate false deny ih erred denied = erred

first_loop : (rs : List Reply) → first rs ≡ first_applicable_algorithm (decisions rs)
first_loop [] = refl
first_loop (r ∷ rs) = go r.decision (first_loop rs)
  where
    go : (d : Decision) → first rs ≡ first_applicable_algorithm (decisions rs) → cond (is not_applicable d) (first rs) d ≡ first_applicable_algorithm (d ∷ decisions rs)
    go Decision.Permit ih = refl
    go Decision.Deny ih = refl
    go not_applicable ih = ih
    go indeterminate ih = refl

-- only-one-applicable, with one selected and with none
selected_loop : (s : Reply) (rs : List Reply) → only_one (s ∷ keep (λ r. r.matched) rs) ≡ only_one_applicable_algorithm (some s.decision) rs
selected_loop s [] = refl
selected_loop s (r ∷ rs) = go (test r.matched) (selected_loop s rs)
  where
    go : Test r.matched → only_one (s ∷ keep (λ r. r.matched) rs) ≡ only_one_applicable_algorithm (some s.decision) rs → only_one (s ∷ keep (λ r. r.matched) (r ∷ rs)) ≡ only_one_applicable_algorithm (some s.decision) (r ∷ rs)
    go (passed e) ih = rw e
    go (failed e) ih = rw e ih

only_loop : (rs : List Reply) → only_one (keep (λ r. r.matched) rs) ≡ only_one_applicable_algorithm none rs
only_loop [] = refl
only_loop (r ∷ rs) = go (test r.matched) (only_loop rs)
  where
    go : Test r.matched → only_one (keep (λ r. r.matched) rs) ≡ only_one_applicable_algorithm none rs → only_one (keep (λ r. r.matched) (r ∷ rs)) ≡ only_one_applicable_algorithm none (r ∷ rs)
    go (passed e) ih = rw e (selected_loop r rs)
    go (failed e) ih = rw e ih

pub combined_standard : (w : Word) (rs : List Reply) → combined w rs ≡ standard w rs
combined_standard Word.Permit rs = refl
combined_standard Word.Deny rs = refl
combined_standard deny_overrides rs = deny_loop false rs
combined_standard permit_overrides rs = permit_loop false false rs
combined_standard first_applicable rs = first_loop rs
combined_standard only_one_applicable rs = only_loop rs
