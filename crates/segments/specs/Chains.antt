-- Chains of the requests that open a segment, one chain for each bucket of words: a word is found without a pass over all requests.
use Rattle.std.specs.Prelude.{ℕ, ◌+◌, ◌%◌, ◌≤◌, ◌<◌, ◌≡◌, true, List, length, get_or}
use Rattle.segments.specs.Sizes.{opens_at}

-- the bucket of a word, and of request k's word
abbrev pub bucket_of : ℕ → ℕ
bucket_of word = word % 1021

abbrev pub bucket_at : List ℕ → ℕ → ℕ
bucket_at ws k = bucket_of (get_or ws k 0)

-- request k opens a segment of bucket b
pub record Opens (ws : List ℕ) (b k : ℕ) : Type 0 where
  pub opens : opens_at ws k ≡ true
  pub bucket : bucket_at ws k ≡ b

-- a link to the last of these before m: k + 1, or 0 if there is none
pub record Links (ws : List ℕ) (b m link : ℕ) : Type 0 where
  pub most : link ≤ m
  pub there : (k : ℕ) → link ≡ k + 1 → Opens ws b k
  pub last : (k : ℕ) → k < m → Opens ws b k → k < link

-- after m requests: each head links the last of its bucket, and each request that opens a segment the one before it in its bucket
pub record Chained (ws heads links : List ℕ) (m : ℕ) : Type 0 where
  pub heads_room : 1021 ≤ length heads
  pub links_room : 4096 ≤ length links
  pub head : (b : ℕ) → b < 1021 → Links ws b m (get_or heads b 0)
  pub link : (k : ℕ) → k < m → opens_at ws k ≡ true → Links ws (bucket_at ws k) k (get_or links k 0)
