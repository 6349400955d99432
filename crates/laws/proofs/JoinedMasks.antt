-- Masks put at other attributes: full ones match every request, and a file's own match as they do in the file.
use mathlib.Core.Path.{◌≡◌, refl, sym, ap, ap₂, ◌∙◌}
use Prim.Native.Nat.{ℕ, zero, suc, ◌-◌, ◌^◌, ◌≤◌, ◌<◌}
use native.Mathlib.Omega.{arith}
use mathlib.Core.Bool.{Bool, true, false, cond, ◌&&◌}
use mathlib.Core.List.{List, [], ◌∷◌, ◌++◌, map, Memᴰ}
use lib.ListN.{length, replicate, length-replicate, get_or-replicate}
use Rattle.meaning.specs.Text.{any, same_name, repeated}
use Rattle.meaning.specs.Model.{Attribute, full, choices, sizes, severals}
use Rattle.meaning.specs.Deciding.{Request, bit, members, in_field, within}
use Rattle.meaning.specs.Joining.{declared}
use Rattle.meaning.specs.Claims.Texts.{All}
use Rattle.meaning.specs.Claims.PolicyFile.{GoodAttribute, marks_mask, attribute_names}
use Rattle.laws.proofs.Bools.{Test, passed, failed, test, or_false}
use Rattle.laws.proofs.Names.{name_alike}
use Rattle.laws.proofs.Sets.{set_of_lem}
use Rattle.laws.proofs.Marks.{mask_full}
use Rattle.laws.proofs.Matched.{mark_bit}
use Rattle.laws.proofs.Requests.{Fits}
use Rattle.laws.proofs.Raised.{mask_for}
use Rattle.laws.proofs.OwnNames.{name_turned, NoneNamed, Once, here, later, value_for, own_values}

-- Full masks match all: each value is in them, and so is a value of each set
bit_full : (n v : ℕ) → v < n → bit ((2 ^ n) - 1) v ≡ true
bit_full n v l =
    let whole : (2 ^ n) - 1 ≡ marks_mask (replicate n true) = omega (arith, mask_full (replicate n true) (all_marked n), ap (λ k. 2 ^ k) (length-replicate n true)) in
    ap (λ m. bit m v) whole ∙ mark_bit (replicate n true) v ∙ get_or-replicate n v true false l
  where
    all_marked : (n : ℕ) → All (λ b. b ≡ true) (replicate n true)
    all_marked zero = tt
    all_marked (suc n) = (refl, all_marked n)

full_field : (a : Attribute) → GoodAttribute a → (v : ℕ) → v < choices a → in_field a.several (full a.values) v ≡ true
full_field a g v l = go (test a.several)
  where
    some : (vs : List ℕ) → 1 ≤ length vs → All (λ w. w < length a.values) vs → any (bit (full a.values)) vs ≡ true
    some [] h d = absurd (omega arith)
    some (w ∷ vs) h d = rw (bit_full (length a.values) w d.0)

    go : Test a.several → in_field a.several (full a.values) v ≡ true
    go (failed e) = rw e (bit_full (length a.values) v (rw e at l))
    go (passed e) =
        let below : v < 2 ^ length a.values - 1 = rw e at l in
        let s = (set_of_lem (length a.values) v (rw e at g.few_values) below).0 in
        rw e (some (members v) s.some_value s.declared)

pub within_full : (attrs : List Attribute) (zs : List ℕ) (r : Request) → All GoodAttribute attrs → Fits (sizes attrs) r → within (severals attrs) (map (λ c. full c.values) attrs ++ zs) r ≡ true
within_full [] zs [] g f = refl
within_full [] zs (v ∷ vs) g f = absurd f
within_full (a ∷ attrs) zs [] g f = refl
within_full (a ∷ attrs) zs (v ∷ vs) g f = rw (full_field a g.0 v f.0) (within_full attrs zs vs g.1 f.1)

-- A file's masks for another attribute: that of its first attribute if it has that name, else those of the others
mask_first : (a : Attribute) (own : List Attribute) (m : ℕ) (ms : List ℕ) (c : Attribute) → mask_for (a ∷ own) (m ∷ ms) c ≡ cond (same_name a.name c.name) m (mask_for own ms c)
mask_first a own m ms c = go (test (same_name c.name a.name))
  where
    go : Test (same_name c.name a.name) → mask_for (a ∷ own) (m ∷ ms) c ≡ cond (same_name a.name c.name) m (mask_for own ms c)
    go (passed e) = rw (name_turned a.name c.name, e)
    go (failed e) = rw (name_turned a.name c.name, e)

and_swap : (a b c : Bool) → (a && (b && c)) ≡ (b && (a && c))
and_swap true b c = refl
and_swap false true c = refl
and_swap false false c = refl

-- One mask put at the attribute of its name, where all values were: one test more
module _ (a : Attribute) (m : ℕ) (M : Attribute → ℕ) where
  abbrev put : Attribute → ℕ
  put c = cond (same_name a.name c.name) m (M c)

  put_none : (attrs : List Attribute) → NoneNamed a.name attrs → map put attrs ≡ map M attrs
  put_none [] n = refl
  put_none (c ∷ attrs) n = rw (n c (Memᴰ.head refl)) (ap (λ xs. M c ∷ xs) (put_none attrs (λ x k. n x (Memᴰ.tail k))))

  put_within : (attrs : List Attribute) (zs : List ℕ) (r : Request) → All GoodAttribute attrs → Once a.name attrs → Fits (sizes attrs) r
      → ((c : Attribute) → Memᴰ c attrs → same_name a.name c.name ≡ true → (c.several ≡ a.several) × (M c ≡ full c.values))
      → within (severals attrs) (map put attrs ++ zs) r ≡ (in_field a.several m (value_for attrs r a) && within (severals attrs) (map M attrs ++ zs) r)
  put_within attrs zs [] g (here {attrs = more} e n) f h = absurd f
  put_within attrs zs (v ∷ r) g (here {c = c} {attrs = more} e n) f h =
      let (letter, all) = h c (Memᴰ.head refl) e in
      let whole : in_field c.several (M c) v ≡ true = ap (λ x. in_field c.several x v) all ∙ full_field c g.0 v f.0 in
      let own : put c ≡ m = rw e in
      let value : value_for (c ∷ more) (v ∷ r) a ≡ v = rw e in
      ap₂ (λ x xs. in_field c.several x v && within (severals more) (xs ++ zs) r) own (put_none more n)
      ∙ ap₂ (λ b x. in_field b m x && within (severals more) (map M more ++ zs) r) letter (sym value)
      ∙ ap (λ b. in_field a.several m (value_for (c ∷ more) (v ∷ r) a) && (b && within (severals more) (map M more ++ zs) r)) (sym whole)
  put_within attrs zs [] g (later {attrs = more} e o) f h = absurd f
  put_within attrs zs (v ∷ r) g (later {c = c} {attrs = more} e o) f h =
      let other : put c ≡ M c = rw e in
      let value : value_for (c ∷ more) (v ∷ r) a ≡ value_for more r a = rw e in
      ap₂ (λ x b. in_field c.several x v && b) other (put_within more zs r g.1 o f.1 (λ x k. h x (Memᴰ.tail k)))
      ∙ and_swap (in_field c.several (M c) v) (in_field a.several m (value_for more r a)) (within (severals more) (map M more ++ zs) r)
      ∙ ap (λ x. in_field a.several m x && (in_field c.several (M c) v && within (severals more) (map M more ++ zs) r)) (sym value)

-- A file's own masks, put at its own attributes
pub masks_match : (own : List Attribute) (ms : List ℕ) (attrs : List Attribute) (zs : List ℕ) (r : Request) → All GoodAttribute attrs → length own ≤ length ms → repeated (attribute_names own) ≡ false → Fits (sizes attrs) r
    → ((a : Attribute) → Memᴰ a own → Once a.name attrs × ((c : Attribute) → Memᴰ c attrs → same_name a.name c.name ≡ true → c.several ≡ a.several))
    → within (severals attrs) (map (mask_for own ms) attrs ++ zs) r ≡ within (severals own) ms (own_values attrs r own)
masks_match [] ms attrs zs r g l d f h = within_full attrs zs r g f
masks_match (a ∷ own) [] attrs zs r g l d f h = absurd (omega arith)
masks_match (a ∷ own) (m ∷ ms) attrs zs r g l d f h =
    let (fresh, apart) = or_false (declared own a.name) (repeated (attribute_names own)) d in
    let (one, letters) = h a (Memᴰ.head refl) in
    ap (λ xs. within (severals attrs) (xs ++ zs) r) (firsts attrs)
    ∙ put_within a m (mask_for own ms) attrs zs r g one f (λ c k e. (letters c k e, lacks c e fresh))
    ∙ ap (λ b. in_field a.several m (value_for attrs r a) && b) (masks_match own ms attrs zs r g (omega arith) apart f (λ b k. h b (Memᴰ.tail k)))
  where
    firsts : (cs : List Attribute) → map (mask_for (a ∷ own) (m ∷ ms)) cs ≡ map (λ c. cond (same_name a.name c.name) m (mask_for own ms c)) cs
    firsts [] = refl
    firsts (c ∷ cs) = ap₂ (λ x xs. x ∷ xs) (mask_first a own m ms c) (firsts cs)

    lacks : (c : Attribute) → same_name a.name c.name ≡ true → declared own a.name ≡ false → mask_for own ms c ≡ full c.values
    lacks c e fresh = rw (alike own ∙ fresh)
      where
        alike : (bs : List Attribute) → declared bs c.name ≡ declared bs a.name
        alike [] = refl
        alike (b ∷ bs) = rw (← name_alike a.name c.name b.name e, alike bs)
