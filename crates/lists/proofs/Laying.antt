-- Values laid one by one over the start of a list; the places behind them are as they were.
use mathlib.Core.Path.{◌≡◌, ap, ◌∙◌}
use Prim.Native.Nat.{ℕ, suc, ◌+◌, ◌-◌, ◌≤◌, ◌<◌}
use native.Mathlib.Numerals.{add-one}
use native.Mathlib.Omega.{arith}
use mathlib.Core.List.{List, ◌++◌, append_assoc}
use lib.ListN.{length, take, drop, get_or, set, replicate}
use lib.Seq.{take-suc, drop-cons, set_at, length-take-le, take-length}
use Rattle.std.proofs.lemmas.List.{drop-replicate}

module _ {X : Type 0} where
  abbrev pub laid : List X → ℕ → List X → List X
  laid xs n ys = take n xs ++ drop n ys

  -- one more
  pub laid_next : (xs ys : List X) (n : ℕ) (d : X) → n < length xs → n < length ys → set (laid xs n ys) n (get_or xs n d) ≡ laid xs (n + 1) ys
  laid_next xs ys n d l m =
      ap (λ zs. set (take n xs ++ zs) n (get_or xs n d)) (drop-cons ys n d m)
      ∙ set_at (take n xs) (get_or ys n d) (drop (suc n) ys) (get_or xs n d) n (length-take-le n xs (omega arith))
      ∙ rw (add-one n, take-suc xs n d l, append_assoc)

  -- all of them, over as many places or more of one value
  pub laid_all : (xs : List X) (n : ℕ) (x : X) → length xs ≤ n → laid xs (length xs) (replicate n x) ≡ xs ++ replicate (n - length xs) x
  laid_all xs n x l = rw (take-length xs, drop-replicate (length xs) n x)
