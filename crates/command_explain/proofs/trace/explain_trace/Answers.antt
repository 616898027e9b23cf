use Rattle.std.proofs.Common.{inl, refl, []}
use Rattle.command_promise.proofs.Laws.{told-stop, ends-out-of-memory, prefix-none}
use Rattle.sx_mean.specs.View.{app_as}
use Rattle.command_explain.specs.Output.{explain_from}
use Rattle.command_explain.proofs.trace.explain_trace.Goals as goal

pub returns-in-Err-clause-rest : goal.returns-in-Err-clause-rest
returns-in-Err-clause-rest g c = λ means is limit m0 defined aside noted b.
    told-stop b
    (λ more. ends-out-of-memory _ _ _ (explain_from (app_as c.args.deployment.now.app) (means.item c.args.deployment.now.names) [] more) (λ t. prefix-none _ _ _ refl) refl)

pub returns-in-Ok-clause-wanted : goal.returns-in-Ok-clause-wanted
returns-in-Ok-clause-wanted g c = c.explain_lines.ensures.wanted

pub returns-in-Err-clause-wanted : goal.returns-in-Err-clause-wanted
returns-in-Err-clause-wanted g c = λ means is six. inl (refl, refl)
