-- The plane of a target: from the last attribute to the first, and then copied to its element's words.
use mathlib.Core.Path.{◌≡◌, refl, ap, ◌∙◌}
use Prim.Native.Nat.{ℕ, zero, suc, ◌+◌, ◌-◌, ◌*◌, ◌/◌, ◌%◌, ◌≤◌, ◌<◌}
use native.Mathlib.Nat.{mul_comm, le_refl, le_trans, le-mul_of_pos_right, mod-lt}
use native.Mathlib.Omega.{arith}
use mathlib.Core.Bool.{Bool, true, false, ◌&&◌}
use mathlib.Core.List.{List, [], ◌∷◌}
use lib.Dec.{eqb}
use lib.ListN.{length, take, drop, get_or, set, replicate, get_or-replicate}
use lib.Seq.{get_or-set_other, drop-cons}
use borrow.Author.Tests.{eqb-true, eqb-false}
use Rattle.meaning.specs.Model.{product}
use Rattle.meaning.specs.Deciding.{bit, in_field, within, request_of}
use Rattle.laws.proofs.Bits.{bit_zero, bit_above}
use Rattle.laws.proofs.Bools.{Test, passed, failed, test}
use Rattle.laws.proofs.Requests.{Positive, product_pos}
use Rattle.requests.proofs.Laws.{rest_cons, rest_none, counts_positive, positive_at}
use Rattle.requests.proofs.Targets.{letters_cons}
use Rattle.table.specs.declared.Row.{Row}
use Rattle.table.specs.Rows.{element_at, masks_at}
use Rattle.table.specs.declared.Shape.{Shape}
use Rattle.table.specs.Shape.{counts_of, severals_of, hit_of}
use Rattle.table.specs.Words.{word_in}
use Rattle.matching.specs.Hits.{Hits}
use Rattle.matching.specs.Planes.{laid, Clear, Plane}
use Rattle.matching.proofs.Copying.{PlaneCopied}
use Rattle.matching.proofs.Spreading.{spreads}

-- the requests of the later attributes are some, and no more than all
later : (i : ℕ) (ss : List ℕ) → Positive ss → (0 < product (drop i ss)) × (product (drop i ss) ≤ product ss)
later zero ss p = (product_pos ss p, le_refl (product ss))
later (suc i) [] p = (omega arith, omega arith)
later (suc i) (s ∷ ss) p =
    let (some, few) = later i ss p.1 in
    (some, le_trans few (rw mul_comm (le-mul_of_pos_right (product ss) p.0)))

-- the plane before any attribute: the one request of none
abbrev pub one : List ℕ
one = set (replicate 64 0) 0 1

one_clear : Clear one 1
one_clear m a b = go (test (eqb (m / 64) 0))
  where
    go : Test (eqb (m / 64) 0) → laid one m ≡ false
    go (passed t) = let word = eqb-true (m / 64) 0 t in rw word (bit_above 1 1 (m % 64) (omega arith) (omega arith))
    go (failed t) =
        rw (get_or-set_other {A = ℕ} (replicate 64 0) 0 (m / 64) 1 0 (eqb-false (m / 64) 0 t), get_or-replicate {A = ℕ} 64 (m / 64) 0 0 (omega arith))
        (bit_zero (m % 64))

module _ (bs : List Bool) (masks counts : List ℕ) (len : ℕ) where
  -- request m of the attributes from place a on matches their masks
  abbrev pub passes : ℕ → ℕ → Bool
  passes a m = within (drop a (take len bs)) (drop a masks) (request_of (drop a (take len counts)) m)

  -- the attributes from place a on are looked at
  pub record Looks (plane : List ℕ) (size a : ℕ) : Type 0 where
    pub few : a ≤ len
    pub all : size ≡ product (drop a (take len counts))
    pub bits : Plane plane size (passes a)

  module _ (letters : length bs ≡ 6) (room : length masks ≡ 6) (short : len ≤ 6) (six : length counts ≡ 6) where
    pub looks_none : Looks one 1 len
    looks_none =
        let none = rest_none len len counts (omega arith) refl in
        record {
          few = le_refl len;
          all = rw none;
          bits = record { bits = λ m l. rw none (first m l); clear = one_clear };
        }
      where
        first : (m : ℕ) → m < 1 → laid one m ≡ true
        first zero l = refl
        first (suc m) l = absurd (omega arith)

    -- the attribute before place a
    module _ (some : 0 < product (take len counts)) (small : product (take len counts) ≤ 4096) (plane : List ℕ) (size a : ℕ) (so_far : Looks plane size a) (more : 0 < a) where
      back : a - 1 + 1 ≡ a
      back = omega arith

      counts_at : drop (a - 1) (take len counts) ≡ get_or counts (a - 1) 0 ∷ drop a (take len counts)
      counts_at = rw back at (rest_cons len (a - 1) counts (omega (arith, so_far.few)) (omega arith))

      letters_at : drop (a - 1) (take len bs) ≡ get_or bs (a - 1) false ∷ drop a (take len bs)
      letters_at = rw back at (letters_cons len (a - 1) bs (omega (arith, so_far.few)) (omega arith))

      masks_at_lem : drop (a - 1) masks ≡ get_or masks (a - 1) 0 ∷ drop a masks
      masks_at_lem = let next : suc (a - 1) ≡ a = omega arith in rw next at (drop-cons masks (a - 1) 0 (omega (arith, so_far.few)))

      next_size : get_or counts (a - 1) 0 * size ≡ product (drop (a - 1) (take len counts))
      next_size = rw (so_far.all, counts_at)

      pub size_some : 0 < size
      size_some = rw so_far.all (later a (take len counts) (counts_positive (take len counts) some)).0

      pub count_some : 0 < get_or counts (a - 1) 0
      count_some = positive_at len (a - 1) counts (omega (arith, so_far.few)) (omega arith) (counts_positive (take len counts) some)

      pub next_small : get_or counts (a - 1) 0 * size ≤ 4096
      next_small = rw next_size (le_trans (later (a - 1) (take len counts) (counts_positive (take len counts) some)).1 small)

      pub looks_next : (new : List ℕ) → Plane new (get_or counts (a - 1) 0 * size) (spreads (in_field (get_or bs (a - 1) false) (get_or masks (a - 1) 0)) plane size) → Looks new (get_or counts (a - 1) 0 * size) (a - 1)
      looks_next new spread =
          record {
            few = omega (arith, so_far.few);
            all = next_size;
            bits = record { bits = λ m l. spread.bits m l ∙ one_more m; clear = spread.clear };
          }
        where
          one_more : (m : ℕ) → spreads (in_field (get_or bs (a - 1) false) (get_or masks (a - 1) 0)) plane size m ≡ passes (a - 1) m
          one_more m =
              ap (λ b. in_field (get_or bs (a - 1) false) (get_or masks (a - 1) 0) (m / size) && b) (so_far.bits.bits (m % size) (mod-lt m size_some))
              ∙ rw (letters_at, counts_at, masks_at_lem, so_far.all)

module _ (t : List Row) (s : Shape) where
  pub hits_none : (hits : List (List ℕ)) → Hits t 0 (hit_of s) s.space hits
  hits_none hits i m l k = absurd (omega arith)

  pub hits_next : {i words : ℕ} {masks plane : List ℕ} {old new : List (List ℕ)} → words ≤ 64 → s.space ≤ 64 * words → Hits t i (hit_of s) s.space old → masks ≡ masks_at t i
      → ((m : ℕ) → m < s.space → laid plane m ≡ within (severals_of s) masks (request_of (counts_of s) m))
      → PlaneCopied plane words i old new → Hits t (i + 1) (hit_of s) s.space new
  unfolding element_at hit_of
  hits_next {i} {words} {masks} {plane} {old} {new} few enough so_far own here copied j m l k = go (test (eqb j i))
    where
      go : Test (eqb j i) → bit (word_in new j (m / 64)) (m % 64) ≡ hit_of s m (element_at t j)
      go (passed e) = rw (eqb-true j i e) (ap (λ x. bit x (m % 64)) (copied.here (m / 64) (omega arith)) ∙ here m k ∙ ap (λ ms. within (severals_of s) ms (request_of (counts_of s) m)) own)
      go (failed e) =
          let other = eqb-false j i e in
          ap (λ x. bit x (m % 64)) (copied.others j (m / 64) (λ same. absurd (other same))) ∙ so_far j m (omega (arith, other)) k
