-- Chains of requests that open a segment: the search in one, and one request more.
use Prim.Native.Nat.{ℕ, ◌+◌, ◌-◌, ◌≤◌, ◌<◌, zero-le}
use mathlib.Core.Path.{◌≡◌, refl, sym, ap, ◌∙◌}
use mathlib.Core.Logic.{◌≢◌}
use mathlib.Core.Bool.{true, false}
use mathlib.Core.List.{List}
use mathlib.Core.Option.{Option, none, some}
use native.Mathlib.Omega.{arith}
use borrow.Author.Count.{below_more}
use borrow.Author.Tests.{eqb-true, eqb-false}
use lib.Dec.{eqb}
use lib.ListN.{get_or, set, length-set, replicate, length-replicate, get_or-replicate}
use lib.Seq.{get_or-set_same, get_or-set_other}
use Rattle.meaning.specs.Text.{is_none, first_from}
use Rattle.laws.proofs.Bools.{Test, passed, failed, test, contradiction}
use Rattle.laws.proofs.Search.{First, first_some, first_none, first_is, first_absent}
use Rattle.segments.specs.Sizes.{alike, opens_at}
use Rattle.segments.specs.Chains.{bucket_of, bucket_at, Opens, Links, Chained}

-- Request m and one that may have its word
module _ (ws : List ℕ) (m k : ℕ) where
  bucket_same : alike ws m k ≡ true → bucket_at ws k ≡ bucket_at ws m
  bucket_same same = ap bucket_of (eqb-true (get_or ws k 0) (get_or ws m 0) same)

  -- if it opens a segment, it is the first with m's word; and the first opens a segment
  opens_first : k < m → opens_at ws k ≡ true → alike ws m k ≡ true → First (alike ws m) 0 m k
  opens_first below opens same =
      record { low = zero-le; high = omega arith; holds = same; no_earlier = λ j l u. rw (← eqb-true (get_or ws k 0) (get_or ws m 0) same) (go (first_from (alike ws k) 0 k) refl j l u) }
    where
      go : (o : Option ℕ) → first_from (alike ws k) 0 k ≡ o → (j : ℕ) → 0 ≤ j → j < k → alike ws k j ≡ false
      go none e j l u = first_none (alike ws k) 0 k e j l (omega arith)
      go (some i) e j l u = contradiction opens (ap is_none e)

  first_opens : First (alike ws m) 0 m k → opens_at ws k ≡ true
  first_opens first =
      let earlier : (j : ℕ) → 0 ≤ j → j < 0 + k → alike ws k j ≡ false =
      λ j l u. rw (eqb-true (get_or ws k 0) (get_or ws m 0) first.holds) (first.no_earlier j l (omega arith)) in
      ap is_none (first_absent (alike ws k) 0 k earlier)

-- The search for m's word, come to a link: a request that opens a segment in m's bucket, or none; if a request has the word, it is this or one still to come
pub record Searching (ws : List ℕ) (m link : ℕ) : Type 0 where
  pub most : link ≤ m
  pub there : (k : ℕ) → link ≡ k + 1 → Opens ws (bucket_at ws m) k
  pub left : (k : ℕ) → k < m → opens_at ws k ≡ true → alike ws m k ≡ true → k < link

module _ {ws : List ℕ} {m link : ℕ} where
  pub search_from : Links ws (bucket_at ws m) m link → Searching ws m link
  search_from head =
      record { most = head.most; there = head.there; left = λ k below opens same. head.last k below (record { opens = opens; bucket = bucket_same ws m k same }) }

  module _ (so_far : Searching ws m link) where
    pub search_none : link ≡ 0 → first_from (alike ws m) 0 m ≡ none
    search_none end = go (first_from (alike ws m) 0 m) refl
      where
        go : (o : Option ℕ) → first_from (alike ws m) 0 m ≡ o → first_from (alike ws m) 0 m ≡ none
        go none e = e
        go (some k) e =
            let first = first_some (alike ws m) 0 m k e in
            let below : k < m = omega (arith, first.high) in
            absurd (omega (arith, so_far.left k below (first_opens ws m k first) first.holds))

    module _ (k : ℕ) (at : link ≡ k + 1) where
      pub search_some : alike ws m k ≡ true → first_from (alike ws m) 0 m ≡ some k
      search_some same = first_is (alike ws m) 0 m k (opens_first ws m k (omega arith) (so_far.there k at).opens same)

      pub search_on : {next : ℕ} → alike ws m k ≡ false → Links ws (bucket_at ws k) k next → Searching ws m next
      search_on other links =
          let here = (so_far.there k at).bucket in
          record {
            most = omega arith;
            there = λ j e. let o = links.there j e in record { opens = o.opens; bucket = o.bucket ∙ here };
            left =
                λ j l opens same.
                let apart : j ≢ k = λ e. contradiction (rw e at same) other in
                links.last j (omega (arith, so_far.left j l opens same)) (record { opens = opens; bucket = bucket_same ws m j same ∙ sym here });
          }

-- The links that the search follows: the head of m's bucket, and from there on the one behind each
module _ {ws heads links : List ℕ} {m : ℕ} (chained : Chained ws heads links m) where
  pub head_links : (b : ℕ) → (b ≡ bucket_at ws m) × (b < 1021) → Links ws (bucket_at ws m) m (get_or heads b 0)
  head_links b is = rw (← is.0) (chained.head b is.1)

  pub next_links : {link : ℕ} → Searching ws m link → 0 < link → Links ws (bucket_at ws (link - 1)) (link - 1) (get_or links (link - 1) 0)
  next_links {link} so_far more = let at : link ≡ link - 1 + 1 = omega arith in chained.link (link - 1) (omega arith) (so_far.there (link - 1) at).opens

-- One request more: links where it is not in the bucket, and where it is
module _ {ws : List ℕ} {b m : ℕ} where
  links_same : {link : ℕ} → (Opens ws b m → ⊥) → Links ws b m link → Links ws b (m + 1) link
  links_same shut links = record { most = omega arith; there = links.there; last = below_more _ m links.last (λ o. absurd (shut o)) }

  links_here : Opens ws b m → Links ws b (m + 1) (m + 1)
  links_here o = record { most = omega arith; there = λ k e. let at : k ≡ m = omega arith in rw at o; last = λ k l other. l }

-- the chains before all requests, and after one that opens no segment, or does
pub chained_none : (ws : List ℕ) → Chained ws (replicate 1021 0) (replicate 4096 0) 0
chained_none ws =
    record {
      heads_room = omega (arith, length-replicate {A = ℕ} 1021 0);
      links_room = omega (arith, length-replicate {A = ℕ} 4096 0);
      head = λ b l. rw (get_or-replicate {A = ℕ} 1021 b 0 0 l) record { most = zero-le; there = λ k e. absurd (omega arith); last = λ k below o. absurd (omega arith) };
      link = λ k l opens. absurd (omega arith);
    }

module _ {ws heads links : List ℕ} {m : ℕ} (so_far : Chained ws heads links m) where
  pub chained_same : opens_at ws m ≡ false → Chained ws heads links (m + 1)
  chained_same shut =
      record {
        heads_room = so_far.heads_room;
        links_room = so_far.links_room;
        head = λ b l. links_same (λ o. contradiction o.opens shut) (so_far.head b l);
        link = below_more _ m so_far.link (λ opens. contradiction opens shut);
      }

  pub chained_more : (b : ℕ) → (b ≡ bucket_at ws m) × (b < 1021) → m < 4096 → opens_at ws m ≡ true → Chained ws (set heads b (m + 1)) (set links m (get_or heads b 0)) (m + 1)
  chained_more b (is, small) few opens =
      record {
        heads_room = rw length-set so_far.heads_room;
        links_room = rw length-set so_far.links_room;
        head = λ a l. head_at a l (test (eqb a b));
        link =
            below_more _ m
            (λ k l o. let apart : k ≢ m = omega arith in rw (get_or-set_other links m k (get_or heads b 0) 0 apart) (so_far.link k l o))
            (λ o. rw (get_or-set_same links m (get_or heads b 0) 0 (omega (arith, so_far.links_room)), ← is) (so_far.head b small));
      }
    where
      head_at : (a : ℕ) → a < 1021 → Test (eqb a b) → Links ws a (m + 1) (get_or (set heads b (m + 1)) a 0)
      head_at a l (passed e) =
          let at : a ≡ b = eqb-true a b e in
          rw (at, get_or-set_same heads b (m + 1) 0 (omega (arith, so_far.heads_room))) (links_here (record { opens = opens; bucket = sym is }))
      head_at a l (failed e) =
          let apart : a ≢ b = eqb-false a b e in
          rw (get_or-set_other heads b a (m + 1) 0 apart) (links_same (λ o. apart (sym o.bucket ∙ sym is)) (so_far.head a l))
