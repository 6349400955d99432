-- An element's lines one deeper are the lines of that element, raised.
use mathlib.Core.Path.{◌≡◌, refl, sym, ap, ap₂, ◌∙◌, subst}
use Prim.Native.Nat.{ℕ, suc, ◌+◌, ◌≤◌}
use native.Mathlib.Omega.{arith}
use mathlib.Core.Bool.{Bool, true, false}
use mathlib.Core.List.{List, [], ◌∷◌, ◌++◌, map, append_assoc, Memᴰ}
use lib.ListN.{length, get_or, drop}
use Rattle.meaning.specs.Text.{Bytes, bytes, gathered, same_name, decimal}
use Rattle.meaning.specs.Model.{Attribute, obligations_of, padded, full}
use Rattle.meaning.specs.Reading.{obligation_letter, obligation_of, or_empty, target_of, masks_of, bad_masks}
use Rattle.meaning.specs.Writing.{target_texts, element_fields, obligation_fields}
use Rattle.meaning.specs.Joining.{target_for}
use Rattle.meaning.specs.Claims.Texts.{All, Paired}
use Rattle.meaning.specs.Claims.PolicyFile.{GoodAttribute}
use Rattle.laws.proofs.Types.{rule, Element, Obligation}
use Rattle.laws.proofs.Bools.{Test, passed, failed, test, contradiction, never}
use Rattle.laws.proofs.Words.{allowed_word, word_same}
use Rattle.laws.proofs.Names.{names_distinct}
use Rattle.laws.proofs.Targets.{mask_read}
use Rattle.laws.proofs.Places.{GoodObligation}
use Rattle.laws.proofs.Bounds.{GoodElement, masks_good}
use Rattle.laws.proofs.Fields.{digit}
use Rattle.laws.proofs.Rewritten.{line_fields}
use Rattle.laws.proofs.LinesBack.{padded_take, masks_back, obligation_back}
use Rattle.laws.proofs.Raised.{mask_for, Raised}
use Rattle.laws.proofs.JoinedText.{deep_row, deep_fields, kind_letter, deep_element}

-- Two lists that begin with those that pass a test, and go on with one that does not
module _ {A : Type 0} (t : A → Bool) where
  abbrev pub Stops : List A → Type 0
  Stops [] = Unit {0}
  Stops (x ∷ xs) = t x ≡ false

  pub parted : (xs ys us vs : List A) → All (λ x. t x ≡ true) xs → All (λ y. t y ≡ true) ys → Stops us → Stops vs → xs ++ us ≡ ys ++ vs → (xs ≡ ys) × (us ≡ vs)
  parted [] [] us vs a b c d e = (refl, e)
  parted [] (y ∷ ys) [] vs a b c d e = never cc
  parted [] (y ∷ ys) (u ∷ us) vs a b c d e = let i : u ≡ y = cc in contradiction b.0 (rw i at c)
  parted (x ∷ xs) [] us [] a b c d e = never cc
  parted (x ∷ xs) [] us (v ∷ vs) a b c d e = let i : x ≡ v = cc in contradiction a.0 (sym (ap t (sym i)) ∙ d)
  parted (x ∷ xs) (y ∷ ys) us vs a b c d e =
      let i : x ≡ y = cc in
      let later : xs ++ us ≡ ys ++ vs = cc in
      let (p, q) = parted xs ys us vs a.1 b.1 c d later in
      (ap₂ (λ z zs. z ∷ zs) i p, q)

-- Obligations' lines, and behind them an element's
abbrev pub obligation_row : List Bytes → Bool
obligation_row fs = obligation_letter (get_or fs 0 [])

pub all_obligations : (os : List Obligation) → All (λ fs. obligation_row fs ≡ true) (map obligation_fields os)
all_obligations [] = tt
all_obligations (o ∷ os) = (refl, all_obligations os)

pub stops_obligations : (attrs : List Attribute) (es : List Element) → Stops obligation_row (gathered (line_fields attrs) es)
stops_obligations attrs [] = tt
stops_obligations attrs (e ∷ es) = kind_letter e.kind

-- Obligations by their lines
obligation_same : (o u : Obligation) → GoodObligation o → GoodObligation u → obligation_fields o ≡ obligation_fields u → o ≡ u
obligation_same o u g h e =
    sym (obligation_back o g (allowed_word rule o.word g.effect))
    ∙ ap (λ fs. obligation_of (get_or fs 1 []) (get_or fs 2 [])) e
    ∙ obligation_back u h (allowed_word rule u.word h.effect)

obligations_same : (os us : List Obligation) → All GoodObligation os → All GoodObligation us → map obligation_fields os ≡ map obligation_fields us → os ≡ us
obligations_same [] [] g h e = refl
obligations_same [] (u ∷ us) g h e = never cc
obligations_same (o ∷ os) [] g h e = never cc
obligations_same (o ∷ os) (u ∷ us) g h e = ap₂ (λ x xs. x ∷ xs) (obligation_same o u g.0 h.0 (ap (λ l. get_or l 0 []) e)) (obligations_same os us g.1 h.1 (ap (drop 1) e))

-- Masks by their target fields
pub masks_read : (attrs : List Attribute) → All GoodAttribute attrs → length attrs ≤ 6 → (e : Element) → GoodElement attrs e → e.masks ≡ padded 6 (masks_of attrs (target_texts attrs e.masks))
masks_read attrs good few e g =
    let m = masks_back attrs e.masks good g.masked in
    sym (padded_take 6 (length attrs) e.masks g.shaped.masks_size few m.zeros_behind) ∙ ap (padded 6) (sym m.masks)

pub star_masks : (attrs : List Attribute) → masks_of attrs (map (λ a. bytes "*") attrs) ≡ map (λ c. full c.values) attrs
star_masks [] = refl
star_masks (a ∷ attrs) = ap (λ ms. full a.values ∷ ms) (star_masks attrs)

-- attributes of equal name have the same values
abbrev pub SameValues : (attrs own : List Attribute) → Type 0
SameValues attrs own = (c a : Attribute) → Memᴰ c attrs → Memᴰ a own → same_name c.name a.name ≡ true → c.values ≡ a.values

mask_for_lem : (own : List Attribute) (ms : List ℕ) (c : Attribute) → All GoodAttribute own → bad_masks own ms ≡ false → ((a : Attribute) → Memᴰ a own → same_name c.name a.name ≡ true → c.values ≡ a.values)
    → or_empty (target_of c.values (target_for own (target_texts own ms) c)) ≡ mask_for own ms c
mask_for_lem [] ms c g h v = refl
mask_for_lem (a ∷ own) [] c g h v = contradiction refl h
mask_for_lem (a ∷ own) (m ∷ ms) c g h v = go (test (same_name c.name a.name)) (mask_for_lem own ms c g.1 (masks_good a own m ms h).others (λ b i. v b (Memᴰ.tail i)))
  where
    go : Test (same_name c.name a.name) → or_empty (target_of c.values (target_for own (target_texts own ms) c)) ≡ mask_for own ms c
        → or_empty (target_of c.values (target_for (a ∷ own) (target_texts (a ∷ own) (m ∷ ms)) c)) ≡ mask_for (a ∷ own) (m ∷ ms) c
    go (passed e) later =
        let b = masks_good a own m ms h in
        rw (e, v a (Memᴰ.head refl) e) (ap or_empty (mask_read a.values m g.0.values_named (names_distinct a.values g.0.distinct) b.not_empty b.no_high_bit))
    go (failed e) later = rw e later

masks_for : (own : List Attribute) (ms : List ℕ) (attrs : List Attribute) → All GoodAttribute own → bad_masks own ms ≡ false → SameValues attrs own → masks_of attrs (map (target_for own (target_texts own ms)) attrs) ≡ map (mask_for own ms) attrs
masks_for own ms [] g h v = refl
masks_for own ms (c ∷ attrs) g h v = ap₂ (λ x xs. x ∷ xs) (mask_for_lem own ms c g h (λ a. v c a (Memᴰ.head refl))) (masks_for own ms attrs g h (λ d a i. v d a (Memᴰ.tail i)))

-- A depth by its digit
pub depth_same : (d e : ℕ) → d ≤ 8 → e ≤ 8 → decimal d ≡ decimal e → d ≡ e
depth_same d e l m h = let i : 48 + d ≡ 48 + e = ap (λ x. get_or x 0 0) (sym (digit d (omega arith)) ∙ h ∙ digit e (omega arith)) in omega arith

-- The elements of a file, one deeper, at the start of some others
module _ (attrs own : List Attribute) (attrs-good : All GoodAttribute attrs) (own-good : All GoodAttribute own) (few : length attrs ≤ 6) (agree : SameValues attrs own) where
  raised : (e r : Element) → GoodElement own e → GoodElement attrs r → element_fields attrs r ≡ deep_fields attrs own e → map obligation_fields (obligations_of r) ≡ map obligation_fields (obligations_of e) → Raised attrs own e r
  raised e r g h same behind = record {
    depth = depth_same r.depth (suc e.depth) (omega (arith, h.shallow)) (omega (arith, g.shallow)) (ap (λ fs. get_or fs 1 []) same);
    word = word_same r.word e.word (ap (λ fs. get_or fs 3 []) same);
    obligations = obligations_same (obligations_of r) (obligations_of e) h.carried.each_good g.carried.each_good behind;
    masks = masks_read attrs attrs-good few r h ∙ ap (λ fs. padded 6 (masks_of attrs (drop 4 fs))) same ∙ ap (padded 6) (masks_for own e.masks attrs own-good g.masked agree);
  }

  abbrev deep_lines : Element → List (List Bytes)
  deep_lines e = deep_fields attrs own e ∷ map obligation_fields (obligations_of e)

  stops_deep : (es : List Element) (more : List (List Bytes)) → Stops obligation_row more → Stops obligation_row (gathered deep_lines es ++ more)
  stops_deep [] more s = s
  stops_deep (e ∷ es) more s = kind_letter e.kind

  pub record Begins (es whole : List Element) (more : List (List Bytes)) : Type 0 where
    pub taken : List Element
    pub rest : List Element
    pub are : whole ≡ taken ++ rest
    pub all_raised : Paired (Raised attrs own) es taken
    pub rest_good : All (GoodElement attrs) rest
    pub left : gathered (line_fields attrs) rest ≡ more

  begins : (es whole : List Element) (more : List (List Bytes)) → All (GoodElement own) es → All (GoodElement attrs) whole → Stops obligation_row more → gathered (line_fields attrs) whole ≡ gathered deep_lines es ++ more → Begins es whole more
  begins [] whole more g h s e = record { taken = []; rest = whole; are = refl; all_raised = tt; rest_good = h; left = e }
  begins (x ∷ es) [] more g h s e = never cc
  begins (x ∷ es) (r ∷ whole) more g h s e =
      let own_line : element_fields attrs r ≡ deep_fields attrs own x = ap (λ l. get_or l 0 []) e in
      let behind : map obligation_fields (obligations_of r) ++ gathered (line_fields attrs) whole ≡ (map obligation_fields (obligations_of x) ++ gathered deep_lines es) ++ more = ap (drop 1) e in
      let (os, later) = parted obligation_row (map obligation_fields (obligations_of r)) (map obligation_fields (obligations_of x)) (gathered (line_fields attrs) whole) (gathered deep_lines es ++ more)
      (all_obligations (obligations_of r)) (all_obligations (obligations_of x)) (stops_obligations attrs whole) (stops_deep es more s) (behind ∙ append_assoc (map obligation_fields (obligations_of x)) (gathered deep_lines es) more) in
      let b = begins es whole more g.1 h.1 s later in
      record { taken = r ∷ b.taken; rest = b.rest; are = ap (λ l. r ∷ l) b.are; all_raised = (raised x r g.0 h.0 own_line os, b.all_raised); rest_good = b.rest_good; left = b.left }

  -- the lines of a file, one deeper
  deep_behind : (os : List Obligation) (rows more : List (List Bytes)) → map (deep_row attrs own) rows ≡ more → map (deep_row attrs own) (map obligation_fields os ++ rows) ≡ map obligation_fields os ++ more
  deep_behind [] rows more h = h
  deep_behind (o ∷ os) rows more h = ap (λ l. obligation_fields o ∷ l) (deep_behind os rows more h)

  deep_lines_lem : (es : List Element) → All (GoodElement own) es → map (deep_row attrs own) (gathered (line_fields own) es) ≡ gathered deep_lines es
  deep_lines_lem [] g = refl
  deep_lines_lem (e ∷ es) g = ap₂ (λ x xs. x ∷ xs) (deep_element attrs own e g.0.shallow) (deep_behind (obligations_of e) (gathered (line_fields own) es) (gathered deep_lines es) (deep_lines_lem es g.1))

  pub file_begins : (es whole : List Element) (more : List (List Bytes)) → All (GoodElement own) es → All (GoodElement attrs) whole → Stops obligation_row more
      → gathered (line_fields attrs) whole ≡ map (deep_row attrs own) (gathered (line_fields own) es) ++ more → Begins es whole more
  file_begins es whole more g h s e = begins es whole more g h s (e ∙ ap (λ l. l ++ more) (deep_lines_lem es g))

  pub stops_file : (es : List Element) (more : List (List Bytes)) → All (GoodElement own) es → Stops obligation_row more → Stops obligation_row (map (deep_row attrs own) (gathered (line_fields own) es) ++ more)
  stops_file es more g s = subst (λ l. Stops obligation_row (l ++ more)) (sym (deep_lines_lem es g)) (stops_deep es more s)
