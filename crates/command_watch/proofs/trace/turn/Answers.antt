use Rattle.std.proofs.Common.{◌∙◌, ◌+◌, ◌∷◌, ◌++◌, [], Bool, true, ap, length, subst, sym}
use Rattle.command_promise.proofs.Laws.{ends-same}
use Rattle.command_watch.specs.Following.{Heeded}
use Rattle.command_watch.specs.Output.{broken_line}
use Rattle.command_watch.proofs.Written.{said_broken}
use Rattle.command_watch.proofs.trace.turn.Goals as goal

pub returns-in-Ok-true-clause-turns : goal.returns-in-Ok-true-clause-turns
returns-in-Ok-true-clause-turns g c = λ p items s counted item_of more.
    let i = c.args.item.now in
    let P : Bool → Type 0 = λ b. Heeded p items i c.item.new.self b in
    let h : P true = subst P c.in-Ok-true.field-0-test (c.in-Ok-true.ensures p items s counted) in
    ends-same _ _ _ _ _ _ (said_broken p item_of (items ++ i ∷ []) (length items + 1) more (h []) ∙ ap broken_line (sym counted)) c.finish_broken.ensures.ends
