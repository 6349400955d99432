-- `put_target` meets its contract: the two cases of a target's text.
use Rattle.meaning.specs.Text.{cut, tab}
use Rattle.treelines.proofs.TargetTexts.{star, not_star}
use Rattle.treelines.proofs.targets.put_target.Goals as goal

pub returns-then-mask-full_mask : goal.returns-then-mask-full_mask
returns-then-mask-full_mask c =
    star (cut tab c.args.values.now) c.args.count c.args.mask _ c.requires.0 c.full_mask.ensures c.if-mask-full_mask.true c.put_bytes.ensures

pub returns-else-mask-full_mask : goal.returns-else-mask-full_mask
returns-else-mask-full_mask c =
    not_star (cut tab c.args.values.now) c.args.count c.args.mask _ c.requires.0 c.full_mask.ensures c.if-mask-full_mask.false c.put_values.ensures
