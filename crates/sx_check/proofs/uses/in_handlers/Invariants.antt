use Rattle.std.proofs.Common.{◌≡◌, drop, map}
use Rattle.std.specs.List.{list_any}
use Rattle.sx_check.specs.Uses.{handlers_uses}
use Rattle.sx_check.specs.Scopes.{is_flawed}
use Rattle.sx_lang.specs.View.{handler_of}
use Rattle.sx_check.proofs.uses.in_handlers.Given as goal

abbrev pub invariant-loop-h : goal.invariant-loop-h
invariant-loop-h l = list_any (is_flawed l.flaw l.decls) (handlers_uses (map handler_of (drop l.h-index l.handlers))) ≡ list_any (is_flawed l.flaw l.decls) (handlers_uses (map handler_of l.handlers))
