-- `most_values` meets its contract, by the letter.
use Rattle.attribute_lines.proofs.most_values.Goals as goal

pub returns-then-several : goal.returns-then-several
returns-then-several c = rw c.if-several.true

pub returns-else-several : goal.returns-else-several
returns-else-several c = rw c.if-several.false
