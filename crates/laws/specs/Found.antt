-- What the definitions find, as code returns it.
use Rattle.std.specs.Prelude.{Option, Some, None}
use Rattle.std.proofs.Math.Option.{Option as Maybe, none, some}

abbrev pub found : {A : Type 0} → Maybe A → Option A
found none = None
found (some x) = Some x
