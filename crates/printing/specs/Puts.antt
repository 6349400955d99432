-- A text that is put into a sink.
use Rattle.std.specs.Prelude.{◌≡◌, ℕ, List}
use Rattle.printing.specs.declared.Sink.{Sink}
use Rattle.printing.specs.Wrote.{Wrote}

-- a sink, behind a text that was put into it: the same buffer, with the text laid over it
pub record Puts (old : Sink) (text : List ℕ) (new : Sink) : Type 0 where
  pub buffer : new.out.ghost_name ≡ old.out.ghost_name
  pub wrote : Wrote old.out.now old.at text new.out.now new.at
