-- A field of a request line: what is chosen is named so but for letter case, and what is named so is chosen.
use mathlib.Core.Path.{◌≡◌, refl, sym, ap, ap₂, ◌∙◌}
use Prim.Native.Nat.{ℕ, zero, suc, ◌+◌, ◌-◌, ◌/◌, ◌^◌, ◌≤◌, ◌<◌}
use native.Mathlib.Nat.{div-one}
use native.Mathlib.Numerals.{add-one}
use native.Mathlib.Omega.{arith}
use mathlib.Core.Bool.{true, false, cond}
use mathlib.Core.List.{List, [], ◌∷◌, map, Memᴰ}
use mathlib.Core.Option.{Option, none, some}
use lib.ListN.{length, get_or, length-map}
use lib.Dec.{lit<}
use lib.Pow.{shr-shr}
use Rattle.meaning.specs.Text.{Bytes, all, keep, counting, lower, same_name, among_names, repeated, cut, join, tab, comma, is_name}
use Rattle.meaning.specs.Model.{Attribute, full, choices}
use Rattle.meaning.specs.Reading.{mask_of}
use Rattle.meaning.specs.Deciding.{bit, members, value_of, less_one, set_of, chosen}
use Rattle.meaning.specs.Writing.{value_names}
use Rattle.meaning.specs.Claims.Texts.{EqualNames}
use Rattle.meaning.specs.Claims.PolicyFile.{GoodAttribute}
use Rattle.meaning.specs.Claims.Requests.{value_text, IsValue}
use Rattle.laws.proofs.Bools.{Test, passed, failed, test, never, contradiction, or_false, and_true}
use Rattle.laws.proofs.Search.{any_has, keep_none, counting_only, some_some, none-some}
use Rattle.laws.proofs.Text.{Some, one_or_more, cut_some, join_cut, cut_join, Free, Frees, join_free, same_true, name_free, names_free}
use Rattle.laws.proofs.Bits.{bit_above}
use Rattle.laws.proofs.Names.{name_refl, name_alike, names_distinct}
use Rattle.laws.proofs.LetterCase.{equal_lower, lower_equal, lower_join, repeated_lower, names_lower, lower_cut}
use Rattle.laws.proofs.Targets.{mask_names, some_names, mask_nil, mask_again, names_named}

-- What is chosen is below the attribute's count
value_below : (i : ℕ) (f : Bytes) (vs : List Bytes) (v : ℕ) → value_of i f vs ≡ some v → v < i + length vs
value_below i f [] v h = never cc
value_below i f (x ∷ vs) v h = go (test (same_name f x)) (value_below (suc i) f vs v)
  where
    go : Test (same_name f x) → (value_of (suc i) f vs ≡ some v → v < suc i + length vs) → v < i + length (x ∷ vs)
    go (passed e) ih = let s : some i ≡ some v = rw e at h in let z : i ≡ v = cc in omega arith
    go (failed e) ih = let l = ih (rw e at h) in omega arith

some_lower : {ns : List Bytes} → Some ns → Some (map lower ns)
some_lower (one_or_more n ns) = one_or_more (lower n) (map lower ns)

-- a field has a name, so its mask has a bit
pub some_named_bit : (vs : List Bytes) (f : Bytes) (m : ℕ) → mask_of (map lower vs) (map lower (cut comma f)) ≡ some m → 0 < m
some_named_bit vs f m e = some_names (map lower vs) m (rw (mask_names (map lower vs) (map lower (cut comma f)) m e).0 (some_lower (cut_some comma f)))

-- the mask of a set's names, in small letters
pub record SetNames (vs : List Bytes) (f : Bytes) (v : ℕ) : Type 0 where
  pub mask_names_are : value_names (map lower vs) (v + 1) ≡ map lower (cut comma f)
  pub mask_below : v + 1 < 2 ^ length vs

set_names : (vs : List Bytes) (f : Bytes) (v : ℕ) → set_of vs f ≡ some v → SetNames vs f v
set_names vs f v h = go (mask_of (map lower vs) (map lower (cut comma f))) refl
  where
    go : (o : Option ℕ) → mask_of (map lower vs) (map lower (cut comma f)) ≡ o → SetNames vs f v
    go none e = none-some (rw e at h)
    go (some m) e =
        let z : m - 1 ≡ v = some_some (rw e at h) in
        let (names, below) = mask_names (map lower vs) (map lower (cut comma f)) m e in
        let some-bit = some_named_bit vs f m e in
        let back : m ≡ v + 1 = omega arith in
        record { mask_names_are = rw (← back) names; mask_below = rw (← back, ← length-map vs lower) below }

pub chosen_below : (a : Attribute) (f : Bytes) (v : ℕ) → chosen a f ≡ some v → v < choices a
chosen_below a f v h = go (test a.several)
  where
    go : Test a.several → v < choices a
    go (passed e) = let below = (set_names a.values f v (rw e at h)).mask_below in rw e (omega arith)
    go (failed e) = let l = value_below 0 f a.values v (rw e at h) in rw e (omega arith)

get_or_in : (vs : List Bytes) (v : ℕ) → v < length vs → Memᴰ (get_or vs v []) vs
get_or_in [] v l = absurd (omega arith)
get_or_in (x ∷ xs) zero l = Memᴰ.head refl
get_or_in (x ∷ xs) (suc v) l = Memᴰ.tail (get_or_in xs v (omega arith))

-- A name equal to a value's is found at that value's number
value_found : (i v : ℕ) (f : Bytes) (vs : List Bytes) → repeated vs ≡ false → v < length vs → same_name f (get_or vs v []) ≡ true → value_of i f vs ≡ some (i + v)
value_found i v f [] d l s = absurd (omega arith)
value_found i zero f (x ∷ xs) d l s = let e : i ≡ i + 0 = omega arith in rw s (ap some e)
value_found i (suc v) f (x ∷ xs) d l s =
    let (a, b) = or_false (among_names x xs) (repeated xs) d in
    let e : suc i + v ≡ i + suc v = omega arith in
    rw (other a (test (same_name f x))) (value_found (suc i) v f xs b (omega arith) s ∙ ap some e)
  where
    other : among_names x xs ≡ false → Test (same_name f x) → same_name f x ≡ false
    other a (passed e) = contradiction (any_has (same_name x) (get_or xs v []) (get_or_in xs v (omega arith)) (sym (name_alike f x (get_or xs v []) e) ∙ s)) a
    other a (failed e) = e

-- what is found is the value of an equal name
found_value : (i : ℕ) (f : Bytes) (vs : List Bytes) (w : ℕ) → value_of i f vs ≡ some w → (v : ℕ) × (w ≡ i + v) × (same_name f (get_or vs v []) ≡ true)
found_value i f [] w h = none-some h
found_value i f (x ∷ xs) w h = go (test (same_name f x)) (found_value (suc i) f xs w)
  where
    go : Test (same_name f x) → (value_of (suc i) f xs ≡ some w → (v : ℕ) × (w ≡ suc i + v) × (same_name f (get_or xs v []) ≡ true)) → (v : ℕ) × (w ≡ i + v) × (same_name f (get_or (x ∷ xs) v []) ≡ true)
    go (passed e) ih = let s : some i ≡ some w = rw e at h in let z : i ≡ w = some_some s in (0, omega arith, e)
    go (failed e) ih = let (v, a, b) = ih (rw e at h) in (suc v, omega arith, b)

-- The names of a set's values, by the bits of its mask
names_at : (name : ℕ → Bytes) (vs : List Bytes) (m i k : ℕ) → ((j : ℕ) → j < length vs → get_or vs j [] ≡ name (i + j)) → length vs ≤ k → m < 2 ^ (i + length vs)
    → value_names vs (m / 2 ^ i) ≡ map name (keep (bit m) (counting i k))
names_at name [] m i k named l h =
    let low : (x : ℕ) → Memᴰ x (counting i k) → bit m x ≡ false = λ x c. bit_above m (i + 0) x h (omega (arith, (counting_only i k x c).0)) in
    sym (ap (map name) (keep_none (bit m) (counting i k) low))
names_at name (v ∷ vs) m i zero named l h = absurd (omega arith)
names_at name (v ∷ vs) m i (suc k) named l h =
    let half : m / 2 ^ i / 2 ≡ m / 2 ^ suc i = shr-shr m i 1 ∙ ap (λ e. m / 2 ^ e) (add-one i) in
    let further : i + length (v ∷ vs) ≡ suc i + length vs = omega arith in
    let later = names_at name vs m (suc i) k (λ j u. named (suc j) (omega arith) ∙ ap name (omega arith)) (omega arith) (rw further at h) in
    go (test (bit m i)) (ap (value_names vs) half ∙ later) (named 0 (omega arith) ∙ ap name (omega arith))
  where
    go : Test (bit m i) → value_names vs (m / 2 ^ i / 2) ≡ map name (keep (bit m) (counting (suc i) k)) → v ≡ name i → value_names (v ∷ vs) (m / 2 ^ i) ≡ map name (keep (bit m) (counting i (suc k)))
    go (passed e) later first = rw (e, later) (ap (λ x. x ∷ map name (keep (bit m) (counting (suc i) k))) first)
    go (failed e) later first = rw (e, later)

names_of : (vs : List Bytes) (v : ℕ) → length vs ≤ 12 → v + 1 < 2 ^ length vs → value_names vs (v + 1) ≡ map (λ w. get_or vs w []) (members v)
names_of vs v few l = ap (value_names vs) (sym (div-one (v + 1))) ∙ names_at (λ w. get_or vs w []) vs (v + 1) 0 12 (λ j u. ap (λ w. get_or vs w []) (omega arith)) few (let whole : 0 + length vs ≡ length vs = omega arith in rw whole l)

-- A field that is chosen is the text of its number but for letter case
set_spelled : (f : Bytes) (vs : List Bytes) (v : ℕ) → length vs ≤ 12 → set_of vs f ≡ some v → lower f ≡ lower (join comma (map (λ w. get_or vs w []) (members v)))
set_spelled f vs v few h =
    let s = set_names vs f v h in
    let names : map lower (map (λ w. get_or vs w []) (members v)) ≡ map lower (cut comma f) = ap (map lower) (sym (names_of vs v few s.mask_below)) ∙ sym (names_lower vs (v + 1)) ∙ s.mask_names_are in
    ap lower (sym (join_cut comma f)) ∙ lower_join comma (cut comma f) refl ∙ ap (join comma) (sym names) ∙ sym (lower_join comma (map (λ w. get_or vs w []) (members v)) refl)

field_spelled : (a : Attribute) (f : Bytes) (v : ℕ) → GoodAttribute a → chosen a f ≡ some v → lower f ≡ lower (value_text a v)
field_spelled a f v g h = go (test a.several)
  where
    go : Test a.several → lower f ≡ lower (value_text a v)
    go (passed e) = rw e (set_spelled f a.values v (rw e at g.few_values) (rw e at h))
    go (failed e) =
        let (k, x, y) = found_value 0 f a.values v (rw e at h) in
        rw e (same_true (lower f) (lower (get_or a.values k [])) y ∙ ap (λ w. lower (get_or a.values w [])) (omega arith))

-- The text of a number is chosen as that number
some_named : (vs : List Bytes) (m : ℕ) → repeated vs ≡ false → 0 < m → m < 2 ^ length vs → Some (value_names vs m)
some_named vs m r p l = go (value_names vs m) refl
  where
    go : (ns : List Bytes) → value_names vs m ≡ ns → Some (value_names vs m)
    go [] e =
        let again : mask_of vs [] ≡ some m = rw e at (mask_again vs m r l) in
        let none_left : 0 ≡ m = some_some (sym (mask_nil vs) ∙ again) in
        absurd (omega arith)
    go (n ∷ ns) e = rw e (one_or_more n ns)

pub cut_again : (b : ℕ) {ns : List Bytes} → Some ns → Frees b ns → cut b (join b ns) ≡ ns
cut_again b (one_or_more n ns) f = cut_join b n ns f

set_again : (vs : List Bytes) (v : ℕ) → length vs ≤ 12 → all is_name vs ≡ true → repeated vs ≡ false → v < full vs → set_of vs (join comma (map (λ w. get_or vs w []) (members v))) ≡ some v
set_again vs v few named r l =
    let below : v + 1 < 2 ^ length vs = omega arith in
    let texts = names_of vs v few below in
    let pieces : cut comma (join comma (value_names vs (v + 1))) ≡ value_names vs (v + 1) = cut_again comma (some_named vs (v + 1) r (omega arith) below) (names_free comma (value_names vs (v + 1)) refl (names_named vs (v + 1) named)) in
    let mask = mask_again (map lower vs) (v + 1) (repeated_lower vs ∙ r) (rw (length-map vs lower) below) in
    let spelled : mask_of (map lower vs) (map lower (cut comma (join comma (map (λ w. get_or vs w []) (members v))))) ≡ some (v + 1) =
    ap (λ ns. mask_of (map lower vs) (map lower (cut comma (join comma ns)))) (sym texts)
    ∙ ap (λ ns. mask_of (map lower vs) (map lower ns)) pieces
    ∙ ap (mask_of (map lower vs)) (sym (names_lower vs (v + 1)))
    ∙ mask in
    ap less_one spelled ∙ ap some (omega arith)

field_again : (a : Attribute) (v : ℕ) → GoodAttribute a → v < choices a → chosen a (value_text a v) ≡ some v
field_again a v g l = go (test a.several)
  where
    go : Test a.several → chosen a (value_text a v) ≡ some v
    go (passed e) = rw e (set_again a.values v (rw e at g.few_values) g.values_named (names_distinct a.values g.distinct) (rw e at l))
    go (failed e) = rw e (value_found 0 v (get_or a.values v []) a.values (names_distinct a.values g.distinct) (rw e at l) (name_refl (get_or a.values v [])) ∙ ap some (omega arith))

-- it holds no tab
named_at : (vs : List Bytes) (k : ℕ) → k < length vs → all is_name vs ≡ true → is_name (get_or vs k []) ≡ true
named_at [] k l h = absurd (omega arith)
named_at (v ∷ vs) zero l h = (and_true (is_name v) (all is_name vs) h).0
named_at (v ∷ vs) (suc k) l h = named_at vs k (omega arith) (and_true (is_name v) (all is_name vs) h).1

pub field_free : (a : Attribute) (v : ℕ) → GoodAttribute a → v < choices a → Free tab (value_text a v)
field_free a v g l = go (test a.several)
  where
    go : Test a.several → Free tab (value_text a v)
    go (passed e) =
        let below : v < full a.values = rw e at l in
        let few : length a.values ≤ 12 = rw e at g.few_values in
        rw (e, ← names_of a.values v few (omega arith)) (join_free tab comma (value_names a.values (v + 1)) refl (names_free tab (value_names a.values (v + 1)) refl (names_named a.values (v + 1) g.values_named)))
    go (failed e) = rw e (name_free tab (get_or a.values v []) refl (named_at a.values v (rw e at l) g.values_named))

-- Letter case aside, a field is chosen as another is
value_lower : (i : ℕ) (f g : Bytes) (vs : List Bytes) → lower f ≡ lower g → value_of i f vs ≡ value_of i g vs
value_lower i f g [] e = refl
value_lower i f g (x ∷ xs) e = rw (e, value_lower (suc i) f g xs e)

chosen_lower : (a : Attribute) (f g : Bytes) → lower f ≡ lower g → chosen a f ≡ chosen a g
chosen_lower a f g e =
    let pieces : map lower (cut comma f) ≡ map lower (cut comma g) = lower_cut comma f (lit< tt) ∙ ap (cut comma) e ∙ sym (lower_cut comma g (lit< tt)) in
    ap₂ (λ x y. cond a.several x y) (ap (λ ns. less_one (mask_of (map lower a.values) ns)) pieces) (value_lower 0 f g a.values e)

-- What names a number is chosen as that number, and what is chosen names it
pub named_chosen : (a : Attribute) (f : Bytes) (v : ℕ) → GoodAttribute a → v < choices a → EqualNames f (value_text a v) → chosen a f ≡ some v
named_chosen a f v g l e = chosen_lower a f (value_text a v) (equal_lower f (value_text a v) e) ∙ field_again a v g l

pub chosen_named : (a : Attribute) (f : Bytes) (v : ℕ) → GoodAttribute a → chosen a f ≡ some v → EqualNames f (value_text a v)
chosen_named a f v g h = lower_equal f (value_text a v) (field_spelled a f v g h)

-- so what is a value, or a set, is chosen, and nothing else is
pub value_chosen : (a : Attribute) (f : Bytes) → GoodAttribute a → IsValue a f → (v : ℕ) × (chosen a f ≡ some v)
value_chosen a f g (v, l, e) = (v, named_chosen a f v g l e)

pub none_chosen : (a : Attribute) (f : Bytes) → GoodAttribute a → (IsValue a f → ⊥) → chosen a f ≡ none
none_chosen a f g n = go (chosen a f) refl
  where
    go : (o : Option ℕ) → chosen a f ≡ o → chosen a f ≡ none
    go none e = e
    go (some v) e = absurd (n (v, chosen_below a f v e, chosen_named a f v g e))
