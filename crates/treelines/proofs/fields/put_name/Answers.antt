-- `put_name` meets its contract: the name is what stands at the start of its 16 bytes.
use mathlib.Core.Path.{◌≡◌}
use native.Mathlib.Omega.{arith}
use lib.ListN.{length}
use Rattle.treelines.proofs.Words.{name_put}
use borrow.Author.Rules.{rules}
use Rattle.treelines.proofs.fields.put_name.Goals as goal

pub returns : goal.returns
returns c =
    let a = c.args in
    let size : length a.name ≡ 16 = search rules in
    name_put a.name a.len (omega arith) c.requires.0 c.put_field.ensures
