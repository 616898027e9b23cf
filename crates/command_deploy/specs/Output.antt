-- What a command that deploys writes, and its exit status, over what it writes after the head of a
-- deployment, and its status there.
use Rattle.std.specs.Prelude.{ℕ, List, Result, Ok, Err}
use Rattle.sx_io.specs.Reading.{Answer}
use Rattle.command_promise.specs.declared.status.Status.{Status}
use Rattle.command_promise.specs.declared.status.Status.TheVariants.{Refused, ReadFailed}
use Rattle.command_promise.specs.Told.{Output, unread_output}
use Rattle.sx_entries.specs.declared.fault.Place.TheVariants.{Nowhere}
use Rattle.sx_entries.specs.declared.fault.DeployFault.{DeployFault}
use Rattle.sx_entries.specs.Fault.{fault}
use Rattle.command_promise.specs.Head.{Head, Found, TooLong, NoMark, Unread, head}
use Rattle.sx_deploy.specs.Deployment.{Deployed}
use Rattle.command_head.specs.Meanings.{Meaning}
use Rattle.command_head.specs.Refused.{fault_output}

-- what is written after the head of a deployment, by the texts of its modules' images and the
-- answers to come
abbrev pub OwnOutput : Type 0
OwnOutput = Deployed → List (List ℕ) → List Answer → Output

-- whether a line after the head of a deployment may want memory, by the lines between them
abbrev pub Wants : Type 1
Wants = Deployed → List Answer → List ℕ → Type 0

-- what follows from a deployment that was read and the answers after it, or from the rule that it
-- breaks
abbrev pub by_deployment : {A : Type 0} → (Deployed → List Answer → A) → (DeployFault → A)
    → Result Deployed DeployFault → List Answer → A
by_deployment own broken (Ok d) more = own d more
by_deployment own broken (Err f) more = broken f

-- what follows from an input's head; if a read failed before it was whole, this
abbrev pub by_head : {A : Type 0} → (Deployed → List Answer → A) → (DeployFault → A) → A → Meaning
    → Head → A
by_head own broken unread meaning (Found text more) = by_deployment own broken (meaning text) more
by_head own broken unread meaning TooLong = broken (fault 1 Nowhere)
by_head own broken unread meaning NoMark = broken (fault 2 Nowhere)
by_head own broken unread meaning Unread = unread

-- what is written of a whole input, over what is written after its head
abbrev pub deploy_output : OwnOutput → Meaning → List (List ℕ) → List Answer → Output
deploy_output own meaning texts answers =
    by_head (λ d. own d texts) fault_output unread_output meaning (head answers)

-- the exit status, of the answers alone, over the status after the head
abbrev pub deploy_status : (Deployed → List Answer → Status) → Meaning → List Answer → Status
deploy_status own meaning answers = by_head own (λ f. Refused) ReadFailed meaning (head answers)

-- the exit status by the deployment that was read
abbrev pub found_status : (Deployed → List Answer → Status) → Result Deployed DeployFault
    → List Answer → Status
found_status own r more = by_deployment own (λ f. Refused) r more
