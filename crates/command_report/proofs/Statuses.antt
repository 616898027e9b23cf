-- The statuses of a command that reports on a deployment.
use Rattle.std.proofs.Common.{◌≡◌, ℕ, ◌+◌, List, [], ◌∷◌, length, nat_lt, refl, Result, Ok, Err}
use Rattle.sx_io.specs.Reading.{Answer, Line, End, Long, Fault}
use Rattle.command_promise.specs.declared.status.Status.{Status}
use Rattle.command_promise.specs.declared.status.Status.TheVariants.{Done, Refused, Misused, ReadFailed}
use Rattle.command_promise.proofs.Endings.{pick, Faultless}
use Rattle.command_promise.specs.Head.{Head, Found, TooLong, NoMark, Unread, head_behind, is_mark, most_bytes}
use Rattle.sx_deploy.specs.Deployment.{Deployed}
use Rattle.sx_entries.specs.declared.fault.DeployFault.{DeployFault}
use Rattle.command_head.specs.Meanings.{Meaning}
use Rattle.command_report.specs.Output.{Report, report_output, report_head, report_all}
use Rattle.command_report.specs.Promise.{IsAcceptedDeployment, IsGoodHead}

accepted_zero : (report : Report) (r : Result Deployed DeployFault) → IsAcceptedDeployment r → (report_output report r).status ≡ Done
accepted_zero report (Ok d) h = refl
accepted_zero report (Err f) h = absurd h

pub head_zero : (report : Report) (meaning : Meaning) (h : Head) → IsGoodHead meaning h → (report_head report meaning h).status ≡ Done
head_zero report meaning (Found text more) g = accepted_zero report (meaning text) g
head_zero report meaning TooLong g = absurd g
head_zero report meaning NoMark g = absurd g
head_zero report meaning Unread g = absurd g

pub said_not : (report : Report) (n : Status) (r : Result Deployed DeployFault) → (Done ≡ n → ⊥) → (Refused ≡ n → ⊥) → (report_output report r).status ≡ n → ⊥
said_not report n (Ok d) zero one e = zero e
said_not report n (Err f) zero one e = one e

pub head_not_two : (report : Report) (meaning : Meaning) (h : Head) → (report_head report meaning h).status ≡ Misused → ⊥
head_not_two report meaning (Found text more) e = said_not report Misused (meaning text) (λ x. cc x) (λ x. cc x) e
head_not_two report meaning TooLong e = cc e
head_not_two report meaning NoMark e = cc e
head_not_two report meaning Unread e = cc e

behind_not_four : (report : Report) (meaning : Meaning) (text : List ℕ) (answers : List Answer) → Faultless answers → (report_head report meaning (head_behind text answers)).status ≡ ReadFailed → ⊥
behind_not_four report meaning text [] u e = cc e
behind_not_four report meaning text (End ∷ more) u e = cc e
behind_not_four report meaning text (Long ∷ more) u e = cc e
behind_not_four report meaning text (Fault ∷ more) u e = u
behind_not_four report meaning text (Line line ∷ more) u e =
    pick (is_mark line) (Found text more) _ (λ h. (report_head report meaning h).status ≡ ReadFailed → ⊥) (said_not report ReadFailed (meaning text) (λ x. cc x) (λ x. cc x))
    (pick (nat_lt most_bytes (length text + length line + 1)) TooLong _ (λ h. (report_head report meaning h).status ≡ ReadFailed → ⊥) (λ x. cc x) (behind_not_four report meaning _ more u)) e

pub report_not_four : (report : Report) (meaning : Meaning) (answers : List Answer) → Faultless answers → (report_all report meaning answers).status ≡ ReadFailed → ⊥
report_not_four report meaning answers u e = behind_not_four report meaning [] answers u e
