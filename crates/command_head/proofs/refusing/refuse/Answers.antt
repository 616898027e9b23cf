use Rattle.std.proofs.Common.{◌≡◌, ◌∙◌, ℕ, List, sym, ap, subst}
use Rattle.command_promise.specs.declared.status.Status.TheVariants.{Refused}
use Rattle.command_promise.specs.Told.{Output}
use Rattle.command_promise.proofs.Laws.{ends-same}
use Rattle.sx_entries.specs.declared.fault.DeployError.{DeployError}
use Rattle.command_head.specs.Refused.{fault_line}
use Rattle.command_head.specs.Ends.{EndsRefused}
use Rattle.command_text.proofs.Ends.{never_six}
use Rattle.command_head.proofs.refusing.refuse.Goals as goal

pub returns-in-Fault : goal.returns-in-Fault
returns-in-Fault g c =
    let P : DeployError → Type 0 = λ e. EndsRefused g.K.Sink.tells (g.K.Sink.at c.args.output.now) (g.K.Sink.at c.finish.new.output) c.finish.result e in
    let said : List ℕ → Output = λ t. record { text = t; status = Refused } in
    let text : c.as_slice.result.now ≡ fault_line c.in-Fault.fault = c.as_slice.ensures.value ∙ c.fault_line.ensures in
    subst P (sym c.in-Fault.is) (ends-same _ _ _ _ _ _ (ap said (sym text)) c.finish.ensures.ends, never_six _ Refused c.finish.ensures.status (λ e. cc e))
