use Rattle.std.proofs.Common.{◌≡◌, ◌++◌}
use Rattle.std.specs.Slice.Iter.{chunks_rest, chunks_size}
use Rattle.hex.specs.Hex.{encode_lower}
use Rattle.command_world.proofs.digits.push_digits.Given as goal

-- the digits so far, and after them those of the blocks that are left
abbrev pub invariant-blocks-2 : goal.invariant-blocks-2
invariant-blocks-2 l =
    (goal.iterator-blocks-2).can_next l.block-iterator
    × (goal.iterator-blocks-2).is_finite l.block-iterator
    × (chunks_size l.block-iterator ≡ 1024)
    × (l.text.items ++ encode_lower (chunks_rest l.block-iterator) ≡ l.fn.text.items ++ encode_lower l.fn.bytes)
