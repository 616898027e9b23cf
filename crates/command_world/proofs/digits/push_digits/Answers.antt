use Rattle.std.proofs.Common.{◌∙◌, rules}
use Rattle.std.specs.Slice.Iter.{chunks_rest}
use Rattle.hex.specs.Hex.{lower_digits}
use Rattle.command_world.proofs.Blocks.{block_after, no_block}
use Rattle.command_world.proofs.digits.push_digits.Goals as goal

pub blocks-2-init : goal.blocks-2-init
blocks-2-init c = (search rules, tt, search rules, search rules)

pub blocks-2-preserved : goal.blocks-2-preserved
blocks-2-preserved c =
    let steps = c.in-Some.ensures.steps in (
      search rules,
      tt,
      steps.0 ∙ c.blocks-2.invariant.2,
      block_after lower_digits _ _ _ (chunks_rest c.blocks-2.block-iterator) c.in-Some.block.now (chunks_rest c.next.new.self) steps.1.0 c.in_ok-push_block.ensures c.blocks-2.invariant.3,
    )

pub returns : goal.returns
returns c = no_block lower_digits _ _ (chunks_rest c.blocks-2.block-iterator) c.in-None.ensures.steps.1.0 c.blocks-2.invariant.3
