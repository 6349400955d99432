-- The `M` attribute that has a name: where it stands, and 13 where there is none.
use mathlib.Core.Path.{◌≡◌, refl, sym, ap, ◌∙◌, subst}
use Prim.Native.Nat.{ℕ, suc, ◌+◌}
use native.Mathlib.Nat.{zero-add}
use native.Mathlib.Omega.{arith}
use mathlib.Core.Bool.{Bool, true, false, ◌&&◌}
use mathlib.Core.List.Memᴰ
use mathlib.Core.List.{List, [], ◌∷◌, ◌++◌, map-append, Memᴰ}
use lib.ListN.{length}
use Rattle.meaning.specs.Text.{Bytes, same_name}
use Rattle.meaning.specs.Model.{Attribute, refused, given}
use Rattle.meaning.specs.ValuePairs.{several_at}
use Rattle.meaning.specs.Claims.Texts.{DistinctNames}
use Rattle.meaning.specs.Claims.PolicyFile.{attribute_names}
use Rattle.meaning.specs.Claims.ValuePairs.{NamedAttribute}
use Rattle.laws.proofs.Bools.{Test, passed, failed, test, and_true}
use Rattle.laws.proofs.Reading.{refused-given, given_given}
use Rattle.laws.proofs.Names.{equal_names, name_alike}

-- a place that is found is that of such an attribute
pub found_named : (j : ℕ) (name : Bytes) (attrs : List Attribute) (i : ℕ) → several_at j name attrs ≡ given i → (a : NamedAttribute attrs name) × (i ≡ j + length a.before)
found_named j name [] i h = refused-given h
found_named j name (a ∷ attrs) i h = go (test (a.several && same_name name a.name)) (found_named (suc j) name attrs i)
  where
    go : Test (a.several && same_name name a.name) → (several_at (suc j) name attrs ≡ given i → (b : NamedAttribute attrs name) × (i ≡ suc j + length b.before)) → (b : NamedAttribute (a ∷ attrs) name) × (i ≡ j + length b.before)
    go (passed e) later =
        let (several, named) = and_true a.several (same_name name a.name) e in
        let here : j ≡ i = given_given (rw e at h) in
        (record { before = []; attribute = a; behind = attrs; in_file = refl; is_several = several; has_name = (equal_names name a.name).holds named }, omega (arith, here))
    go (failed e) later =
        let (b, place) = later (rw e at h) in
        (record { before = a ∷ b.before; attribute = b.attribute; behind = b.behind; in_file = ap (λ l. a ∷ l) b.in_file; is_several = b.is_several; has_name = b.has_name }, omega (arith, place))

-- and it is found, as no other attribute has its name
named_at : (j : ℕ) (name : Bytes) (before : List Attribute) (a : Attribute) (behind : List Attribute) → DistinctNames (attribute_names (before ++ (a ∷ behind))) → a.several ≡ true → same_name name a.name ≡ true
    → several_at j name (before ++ (a ∷ behind)) ≡ given (j + length before)
named_at j name [] a behind d several named = let here : j + 0 ≡ j = omega arith in rw (several, named, here)
named_at j name (b ∷ before) a behind d several named =
    let next : suc j + length before ≡ j + suc (length before) = omega arith in
    rw (other b.several (test (same_name name b.name))) (named_at (suc j) name before a behind d.1 several named ∙ ap given next)
  where
    in_behind : Memᴰ a.name (attribute_names (before ++ (a ∷ behind)))
    in_behind = rw (map-append (λ x. x.name) before (a ∷ behind)) (Memᴰ.append_right (attribute_names before) (Memᴰ.head refl))

    other : (several : Bool) → Test (same_name name b.name) → (several && same_name name b.name) ≡ false
    other true (failed e) = e
    other false (failed e) = refl
    other s (passed e) = absurd (d.0 (a.name, in_behind, (equal_names b.name a.name).holds (sym (name_alike name b.name a.name e) ∙ named)))

pub named_found : (name : Bytes) (attrs : List Attribute) → DistinctNames (attribute_names attrs) → (a : NamedAttribute attrs name) → several_at 0 name attrs ≡ given (length a.before)
named_found name attrs d a =
    ap (several_at 0 name) a.in_file
    ∙ named_at 0 name a.before a.attribute a.behind (subst (λ l. DistinctNames (attribute_names l)) a.in_file d) a.is_several ((equal_names name a.attribute.name).tests a.has_name)
    ∙ ap given (zero-add (length a.before))

-- no other refusal comes
pub refused_13 : (j : ℕ) (name : Bytes) (attrs : List Attribute) (n m : ℕ) → several_at j name attrs ≡ refused n m → (n ≡ 13) × (m ≡ 0)
refused_13 j name [] n m h = let x : 13 ≡ n = cc in let y : 0 ≡ m = cc in (sym x, sym y)
refused_13 j name (a ∷ attrs) n m h = go (test (a.several && same_name name a.name)) (refused_13 (suc j) name attrs n m)
  where
    go : Test (a.several && same_name name a.name) → (several_at (suc j) name attrs ≡ refused n m → (n ≡ 13) × (m ≡ 0)) → (n ≡ 13) × (m ≡ 0)
    go (passed e) later = let s : given j ≡ refused n m = rw e at h in refused-given (sym s)
    go (failed e) later = later (rw e at h)
