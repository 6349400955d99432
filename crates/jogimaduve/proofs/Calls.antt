-- A policy that is held in the caller's memory, and calls on it: steps, decisions and refused requests.
use Prim.Native.Nat.{ℕ, suc}
use mathlib.Core.Bool.{cond}
use mathlib.Core.List.{List, [], ◌∷◌, ◌++◌}
use lib.Dec.{eqb}
use lib.ListN.{length, take, drop}
use Rattle.meaning.specs.declared.Decided.{Decided}
use Rattle.meaning.specs.Text.{Bytes}
use Rattle.jogimaduve.proofs.Operate.{Operate}
use Rattle.jogimaduve.proofs.Demand3.{told}

-- A held state: the caller's memory, of which the first bytes are the text left so far
pub record Held : Type 0 where
  pub memory : Bytes
  pub size : ℕ

abbrev pub text_of : Held → Bytes
text_of s = take s.size s.memory

-- a policy file handed in is a fresh state, whatever is behind it
abbrev pub fresh : (file behind : Bytes) → Held
fresh f behind = record { memory = f ++ behind; size = length f }

-- A call: a step, or a request line with a buffer for its obligations, which is decided or refused
pub data Call : Type 0 where
  step : Call
  decide : (request buffer : Bytes) → Call

-- A step is lent the text alone; unless it is refused, it tells how long the text is now
abbrev pub stepped : Operate → Held → Held
stepped o s =
    let answer = o.step.answer (text_of s) in
    record { memory = o.step.after (text_of s) ++ drop s.size s.memory; size = cond (eqb answer.number 0) answer.second s.size }

-- the state after some calls, and what the decisions among them are told: the answer and the buffer
abbrev pub after_calls : Operate → Held → List Call → Held
after_calls o s [] = s
after_calls o s (step ∷ cs) = after_calls o (stepped o s) cs
after_calls o s (decide r b ∷ cs) = after_calls o s cs

abbrev pub told_by : Operate → Held → List Call → List (Decided × Bytes)
told_by o s [] = []
told_by o s (step ∷ cs) = told_by o (stepped o s) cs
told_by o s (decide r b ∷ cs) = told o (text_of s) r b ∷ told_by o s cs

-- what they are told of one file; how many of the calls are steps
abbrev pub told_of : Operate → Bytes → List Call → List (Decided × Bytes)
told_of o f [] = []
told_of o f (step ∷ cs) = told_of o f cs
told_of o f (decide r b ∷ cs) = told o f r b ∷ told_of o f cs

abbrev pub steps_in : List Call → ℕ
steps_in [] = 0
steps_in (step ∷ cs) = suc (steps_in cs)
steps_in (decide r b ∷ cs) = steps_in cs
