use Rattle.std.proofs.Common.{◌≡◌, ◌+◌, ◌≤◌, drop, length}
use Rattle.sx_lang.specs.View.{block_of}
use Rattle.sx_check.specs.Scopes.{definitions}
use Rattle.sx_check.proofs.seen.definitions.Given as goal

abbrev pub invariant-loop-s : goal.invariant-loop-s
invariant-loop-s l = (l.count ≤ l.s-index) × (l.count + length (definitions (block_of (drop l.s-index l.statements))) ≡ length (definitions (block_of l.statements)))
