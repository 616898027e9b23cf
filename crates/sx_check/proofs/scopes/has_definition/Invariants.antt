use Rattle.std.proofs.Common.{◌≡◌, drop}
use Rattle.sx_check.specs.Uses.{is_seen}
use Rattle.sx_check.specs.Scopes.{definitions}
use Rattle.sx_lang.specs.View.{block_of}
use Rattle.sx_check.proofs.scopes.has_definition.Given as goal

abbrev pub invariant-loop-s : goal.invariant-loop-s
invariant-loop-s l = is_seen (definitions (block_of (drop l.s-index l.statements))) l.x ≡ is_seen (definitions (block_of l.statements)) l.x
