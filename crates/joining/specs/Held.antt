-- What is known of a file that was read, and what a text gets that is read and given.
use Rattle.std.specs.Prelude.{◌≡◌, ℕ, length}
use Rattle.meaning.specs.declared.Answer.{Answer}
use Rattle.meaning.specs.Text.{Bytes}
use Rattle.meaning.specs.Model.{Policy, Result, given, ◌then◌, fitted}
use Rattle.meaning.specs.Reading.{read}
use Rattle.meaning.specs.Operations.{answered, lent}
use Rattle.layout.specs.declared.Attributes.{Attributes}
use Rattle.layout.specs.Places.{attributes_of, AllStanding, line_start}

-- its policy, where its attributes stand, and where the lines behind them start
pub record FileHeld (f : Bytes) (a : Attributes) (from : ℕ) : Type 0 where
  pub policy : Policy
  pub is_read : read f ≡ given policy
  pub attributes : policy.attributes ≡ attributes_of f a
  pub standing : AllStanding f a
  pub starts : from ≡ line_start f a.len

-- a text for a buffer, if reading accepts it
abbrev pub if_accepted : ℕ → Bytes → Result Bytes
if_accepted room t = read t then λ j. fitted room t

pub record Accepted (t old new : Bytes) (r : Answer) : Type 0 where
  pub answers : r ≡ answered length (if_accepted (length old) t)
  pub lends : new ≡ lent old (if_accepted (length old) t)
