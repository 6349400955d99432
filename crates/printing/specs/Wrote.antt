-- A text that is laid over a list from a place on, and cut where the list ends.
use Rattle.std.specs.Prelude.{◌≡◌, ℕ, ◌+◌, List, length}
use Rattle.std.proofs.lemmas.List.Edits.{sets}

-- x with t laid over it from n on is y, and m is the place behind t
pub record Wrote (x : List ℕ) (n : ℕ) (t y : List ℕ) (m : ℕ) : Type 0 where
  pub moved : m ≡ n + length t
  pub laid : y ≡ sets x n t
