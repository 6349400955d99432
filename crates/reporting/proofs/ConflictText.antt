-- The `C` lines, from the pairs of a table, are those of the policy that was read into it.
use mathlib.Core.Path.{◌≡◌, refl, sym, ap, ap₂, ◌∙◌}
use Prim.Native.Nat.{ℕ, zero, suc, ◌+◌, ◌-◌, ◌<◌}
use native.Mathlib.Numerals.{add-one}
use native.Mathlib.Omega.{arith}
use mathlib.Core.Bool.{Bool, true, cond, ◌&&◌, ◌||◌}
use mathlib.Core.List.{List, [], ◌∷◌, ◌++◌, reverse, Memᴰ}
use lib.Dec.{ltb}
use lib.ListN.{length, get_or}
use Rattle.meaning.specs.declared.Decision.{Decision}
use Rattle.meaning.specs.Text.{Bytes, bytes, keep, gathered, if_some, counting, first_from, line, decimal}
use Rattle.meaning.specs.Model.{Policy, space as space_of}
use Rattle.meaning.specs.Deciding.{is as is_of, hits}
use Rattle.meaning.specs.Segments.{children_of, decision_at, shows, Conflict, pairs as pairs_of, conflict_of, conflicts}
use Rattle.meaning.specs.Report.{name_in as name_of_place, conflict_fields}
use Rattle.meaning.specs.declared.Element.{Element}
use Rattle.laws.proofs.Bools.{Test, passed, failed, test}
use Rattle.laws.proofs.Search.{counting_only, counting_rising, keep_only, keep_rising}
use Rattle.laws.proofs.Lists.{gathered_alike, gathered_keep, gathered_twice, gathered_one, pairs_first, pairs_alike}
use Rattle.table.specs.declared.Row.{Row}
use Rattle.table.specs.Tree.{parent_of, place_or}
use Rattle.table.specs.Words.{word_in}
use Rattle.std.specs.Prelude.{Option as Found, None}
use Rattle.laws.specs.Found.{found}
use Rattle.outcomes.proofs.Searching.{first_alike}
use Rattle.layout.specs.declared.ElementPlaces.{ElementPlaces}
use Rattle.layout.specs.Places.{name_in, elements_to}
use Rattle.trimmed_text.proofs.Table.{count_is, name_at_lem}
use Rattle.rows.specs.Words.{gives_at}
use Rattle.conflicts.specs.Pairs.{shows_at, Later}
use Rattle.conflicts.proofs.PairSteps.{some_eq}
use Rattle.report_lines.specs.Lines.{is_parent, conflict_line, is_child, later_line, later_lines, pair_lines, conflict_text}
use Rattle.reporting.proofs.Applying.{applies_at_lem}
use Rattle.reporting.proofs.Searched.{first_or}
use Rattle.reporting.proofs.ChildPlaces.{children_are}
use Rattle.reporting.proofs.Giving.{gives_is}

-- the line of a pair, the children among c places from j on, and the lines of their pairs
module _ (f : Bytes) (places : List ElementPlaces) (n : ℕ) (parents : List (Found ℕ)) (pairs : List (List ℕ)) (s i : ℕ) where
  abbrev line_of : ℕ × ℕ → Bytes
  line_of q = conflict_line f places pairs s i q.0 q.1

  abbrev child : ℕ → Bool
  child = is_child f places n parents pairs s i

  abbrev kept : ℕ → ℕ → List ℕ
  kept j c = keep child (counting j c)

  abbrev lines_from : ℕ → ℕ → Bytes
  lines_from j c = gathered (later_lines f places n parents pairs s i) (counting j c)

  -- the lines are gathered from the pairs
  pair_lines_lem : (j c : ℕ) → j + c ≡ n → lines_from j c ≡ gathered line_of (pairs_of (kept j c))
  unfolding later_lines later_line
  pair_lines_lem j zero whole = refl
  pair_lines_lem j (suc c) whole = go (test (child j)) (pair_lines_lem (suc j) c (omega arith))
    where
      go : Test (child j) → lines_from (suc j) c ≡ gathered line_of (pairs_of (kept (suc j) c)) → lines_from j (suc c) ≡ gathered line_of (pairs_of (kept j (suc c)))
      go (passed e) later =
          let behind : n - (j + 1) ≡ c = omega arith in
          rw (e, behind, add-one j) (ap₂ (λ xs ys. xs ++ ys) (sym (gathered_keep child (λ k. line_of (j, k)) (counting (suc j) c))) later ∙ sym (pairs_first line_of j (kept (suc j) c)))
      go (failed e) later = rw e later

module _ (f : Bytes) (table : List Row) (places : List ElementPlaces) (n : ℕ) (p : Policy) (is : p.elements ≡ reverse (elements_to f table places n)) (hit : ℕ → Element → Bool) (space : ℕ) (hits_are : (m : ℕ) → hit m ≡ hits p m) (space_is : space ≡ space_of p.attributes) where
  -- the line of a conflict, and the conflicts of a parent
  abbrev written : Conflict → Bytes
  written c = line (conflict_fields p.elements c)

  abbrev of_parent : ℕ → List Conflict
  of_parent i = gathered (conflict_of p i) (pairs_of (children_of p.elements i))

  module _ (parents : List (Found ℕ)) (struck : List ℕ) (clear : (k : ℕ) → get_or struck k 0 ≡ 0)
      (parented : (j : ℕ) → j < n → get_or parents j None ≡ found (parent_of table j))
      (pairs : List (List ℕ))
      (paired : (j k i : ℕ) → Later parents n i j k → word_in pairs j k ≡ place_or space (first_from (shows_at table struck n hit i j k) 0 space)) where
    gives : (d : Decision) (m j : ℕ) → j < n → gives_at d table struck n (hit m) j ≡ is_of d (decision_at p m j)
    gives = gives_is f table places n p is hit hits_are struck clear

    -- what a request shows, and the first that shows it
    shows_is : (i j k m : ℕ) → i < n → j < n → k < n → shows_at table struck n hit i j k m ≡ shows p i j k m
    unfolding shows_at
    shows_is i j k m a b c =
        λ x. applies_at_lem f table places n p is hit hits_are m i a x && ((gives Decision.Permit m j b x && gives Decision.Deny m k c x) || (gives Decision.Deny m j b x && gives Decision.Permit m k c x))

    first_is : (i j k : ℕ) → i < n → j < n → k < n → first_from (shows_at table struck n hit i j k) 0 space ≡ first_from (shows p i j k) 0 space
    first_is i j k a b c = first_alike (shows_at table struck n hit i j k) (shows p i j k) 0 space (λ m low high. shows_is i j k m a b c)

    -- the request of a pair of children
    pair_is : (i j k : ℕ) → i < n → j < k → k < n → is_parent parents j i ≡ true → is_parent parents k i ≡ true → word_in pairs j k ≡ place_or space (first_from (shows p i j k) 0 space)
    pair_is i j k a b c x y =
        paired j k i record { after = b; within = c; some = a; child = some_eq _ _ x; sibling = some_eq _ _ y }
        ∙ ap (place_or space) (first_is i j k a (omega arith) c)

    -- the line of a pair
    line_is : (i j k : ℕ) → i < n → j < k → k < n → is_parent parents j i ≡ true → is_parent parents k i ≡ true → conflict_line f places pairs space i j k ≡ gathered written (conflict_of p i (j, k))
    unfolding conflict_line
    line_is i j k a b c x y =
        (λ t. let m = pair_is i j k a b c x y t in cond (ltb m space) (line (bytes "C" ∷ name i a t ∷ name j (omega arith) t ∷ name k c t ∷ decimal m ∷ [])) [])
        ∙ first_or (shows p i j k) space (λ m. line (bytes "C" ∷ name_of_place p.elements i ∷ name_of_place p.elements j ∷ name_of_place p.elements k ∷ decimal m ∷ []))
        ∙ sym (gathered_one written (λ m. record { parent = i; earlier = j; later = k; request = m }) (first_from (shows p i j k) 0 space))
        ∙ ap (λ c. gathered written (if_some (first_from (shows p i j k) 0 c) (λ m. record { parent = i; earlier = j; later = k; request = m } ∷ []))) space_is
      where
        name : (i : ℕ) → i < n → name_in f places i ≡ name_of_place p.elements i
        name i l = sym (name_at_lem f table places n p is i l)

    -- the lines of a parent
    parent_lines : (i : ℕ) → i < n → pair_lines f places n parents pairs space i ≡ gathered written (of_parent i)
    unfolding pair_lines
    parent_lines i l =
        pair_lines_lem f places n parents pairs space i 0 n (omega arith)
        ∙ pairs_alike (line_of f places n parents pairs space i) (λ q. gathered written (conflict_of p i q)) children (keep_rising its (counting 0 n) (counting_rising 0 n))
        (λ j k a b u. line_is i j k l u (below k b) (parent j a) (parent k b))
        ∙ ap (λ js. gathered (λ q. gathered written (conflict_of p i q)) (pairs_of js)) (children_are f table places n p is parents parented i)
        ∙ sym (gathered_twice written (conflict_of p i) (pairs_of (children_of p.elements i)))
      where
        its : ℕ → Bool
        its j = is_parent parents j i

        children : List ℕ
        children = keep its (counting 0 n)

        below : (j : ℕ) → Memᴰ j children → j < n
        below j m = omega (arith, counting_only 0 n j (keep_only its j (counting 0 n) m).0)

        parent : (j : ℕ) → Memᴰ j children → is_parent parents j i ≡ true
        parent j m = (keep_only its j (counting 0 n) m).1

    -- the `C` lines
    pub conflicts_are : conflict_text f places n parents pairs space ≡ gathered (λ c. line (conflict_fields p.elements c)) (conflicts p)
    unfolding conflict_text conflicts
    conflicts_are =
        gathered_alike (pair_lines f places n parents pairs space) (λ i. gathered written (of_parent i)) (counting 0 n) (λ i m. parent_lines i (omega (arith, counting_only 0 n i m)))
        ∙ ap (λ k. gathered (λ i. gathered written (of_parent i)) (counting 0 k)) (sym (count_is f table places n p is))
        ∙ sym (gathered_twice written of_parent (counting 0 (length p.elements)))
