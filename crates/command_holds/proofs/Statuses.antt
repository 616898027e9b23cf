-- The statuses of `holds`.
use Rattle.std.proofs.Common.{◌≡◌, ℕ, ◌+◌, List, [], ◌∷◌, length, nat_lt, Result, Ok, Err}
use Rattle.sx_io.specs.Reading.{Answer, Line, End, Long, Fault}
use Rattle.command_promise.specs.declared.status.Status.TheVariants.{Misused, ReadFailed}
use Rattle.command_promise.proofs.Endings.{pick, Faultless}
use Rattle.command_promise.specs.Head.{Head, Found, TooLong, NoMark, Unread, head, head_behind, is_mark, most_bytes}
use Rattle.sx_deploy.specs.Deployment.{Deployed}
use Rattle.sx_entries.specs.declared.fault.DeployFault.{DeployFault}
use Rattle.sx_watch.specs.declared.reading.PropertyFault.{PropertyFault}
use Rattle.sx_watch.specs.Watched.{PropertyTree}
use Rattle.command_holds.specs.Output.{Decision, Holds, Unknown, Meanings, holds_all}
use Rattle.command_holds.specs.Parts.{holds_found, holds_head, holds_property, holds_second}

property_not_four : (decision : Decision) (r : Result PropertyTree PropertyFault) → (holds_property decision r).status ≡ ReadFailed → ⊥
property_not_four Holds (Ok p) e = cc e
property_not_four (Unknown words) (Ok p) e = cc e
property_not_four decision (Err f) e = cc e

second_not_four : (means : Meanings) (decision : Decision) (d : Deployed) (text : List ℕ) (answers : List Answer) → Faultless answers
    → (holds_second means decision d (head_behind text answers)).status ≡ ReadFailed → ⊥
second_not_four means decision d text [] u e = cc e
second_not_four means decision d text (End ∷ more) u e = cc e
second_not_four means decision d text (Long ∷ more) u e = cc e
second_not_four means decision d text (Fault ∷ more) u e = u
second_not_four means decision d text (Line line ∷ more) u e =
    pick (is_mark line) (Found text more) _ (λ h. (holds_second means decision d h).status ≡ ReadFailed → ⊥) (property_not_four decision (means.property d.names d.app text))
    (pick (nat_lt most_bytes (length text + length line + 1)) TooLong _ (λ h. (holds_second means decision d h).status ≡ ReadFailed → ⊥) (λ x. cc x)
    (second_not_four means decision d _ more u)) e

found_not_four : (means : Meanings) (decision : Decision) (r : Result Deployed DeployFault) (answers : List Answer) → Faultless answers → (holds_found means decision r answers).status ≡ ReadFailed → ⊥
found_not_four means decision (Ok d) answers u e = second_not_four means decision d [] answers u e
found_not_four means decision (Err f) answers u e = cc e

behind_not_four : (means : Meanings) (decision : Decision) (text : List ℕ) (answers : List Answer) → Faultless answers → (holds_head means decision (head_behind text answers)).status ≡ ReadFailed → ⊥
behind_not_four means decision text [] u e = cc e
behind_not_four means decision text (End ∷ more) u e = cc e
behind_not_four means decision text (Long ∷ more) u e = cc e
behind_not_four means decision text (Fault ∷ more) u e = u
behind_not_four means decision text (Line line ∷ more) u e =
    pick (is_mark line) (Found text more) _ (λ h. (holds_head means decision h).status ≡ ReadFailed → ⊥) (found_not_four means decision (means.deployment text) more u)
    (pick (nat_lt most_bytes (length text + length line + 1)) TooLong _ (λ h. (holds_head means decision h).status ≡ ReadFailed → ⊥) (λ x. cc x)
    (behind_not_four means decision _ more u)) e

pub all_not_four : (means : Meanings) (decision : Decision) (answers : List Answer) → Faultless answers → (holds_all means decision answers).status ≡ ReadFailed → ⊥
all_not_four means decision answers u e = behind_not_four means decision [] answers u e

property_not_two : (decision : Decision) (r : Result PropertyTree PropertyFault) → (holds_property decision r).status ≡ Misused → ⊥
property_not_two Holds (Ok p) e = cc e
property_not_two (Unknown words) (Ok p) e = cc e
property_not_two decision (Err f) e = cc e

second_not_two : (means : Meanings) (decision : Decision) (d : Deployed) (h : Head) → (holds_second means decision d h).status ≡ Misused → ⊥
second_not_two means decision d (Found text more) e = property_not_two decision (means.property d.names d.app text) e
second_not_two means decision d TooLong e = cc e
second_not_two means decision d NoMark e = cc e
second_not_two means decision d Unread e = cc e

found_not_two : (means : Meanings) (decision : Decision) (r : Result Deployed DeployFault) (answers : List Answer) → (holds_found means decision r answers).status ≡ Misused → ⊥
found_not_two means decision (Ok d) answers e = second_not_two means decision d (head answers) e
found_not_two means decision (Err f) answers e = cc e

pub head_not_two : (means : Meanings) (decision : Decision) (h : Head) → (holds_head means decision h).status ≡ Misused → ⊥
head_not_two means decision (Found text more) e = found_not_two means decision (means.deployment text) more e
head_not_two means decision TooLong e = cc e
head_not_two means decision NoMark e = cc e
head_not_two means decision Unread e = cc e
