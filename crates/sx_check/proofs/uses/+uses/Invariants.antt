use Rattle.std.proofs.Common.{◌≡◌, ◌++◌, drop, take}
use Rattle.std.specs.List.{list_any}
use Rattle.sx_check.specs.Uses.{block_uses}
use Rattle.sx_check.specs.Scopes.{definitions, is_flawed, seen_in}
use Rattle.sx_check.specs.Seen.{Knows}
use Rattle.sx_lang.specs.View.{block_of}
use Rattle.sx_check.proofs.uses.+uses.Given as goal

abbrev pub invariant-in_block-loop-i : goal.invariant-in_block-loop-i
invariant-in_block-loop-i l = (list_any (is_flawed l.flaw l.decls) (block_uses (seen_in l.scope ++ definitions (block_of (take l.i l.block.items)))
    (block_of (drop l.i l.block.items))) ≡ list_any (is_flawed l.flaw l.decls) (block_uses (seen_in l.scope) (block_of l.block.items)))
    × Knows l.seen (seen_in l.scope ++ definitions (block_of (take l.i l.block.items)))
