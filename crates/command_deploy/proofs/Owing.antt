-- What is due of some lines of a command that deploys is due of more of them too, and its status, once its own part owes as it must.
use Rattle.std.proofs.Common.{◌≡◌, ◌⊎◌, inl, inr, ℕ, ◌+◌, ◌<◌, Bool, true, false, List, [], ◌∷◌, ◌++◌, length, nat_lt, refl, subst, arith, Result, Ok, Err}
use Rattle.sx_io.specs.Reading.{Answer, Line, End, Long, Fault, newline}
use Rattle.command_promise.specs.declared.status.Status.{Status}
use Rattle.command_promise.specs.declared.status.Status.TheVariants.{Done, Refused, Misused, ReadFailed, OutOfMemory}
use Rattle.command_promise.specs.Status.{status_number}
use Rattle.command_promise.proofs.Due.{lines_then, EndsUnread, Due, due-behind}
use Rattle.command_promise.proofs.Endings.{pick, Unfinished, Faultless}
use Rattle.sx_entries.specs.declared.fault.DeployFault.{DeployFault}
use Rattle.sx_entries.specs.declared.fault.Place.TheVariants.{Nowhere}
use Rattle.sx_entries.specs.Fault.{fault}
use Rattle.command_promise.specs.Head.{Head, Found, TooLong, NoMark, Unread, head, head_behind, is_mark, most_bytes}
use Rattle.sx_deploy.specs.Deployment.{Deployed, IsRead}
use Rattle.command_head.specs.Meanings.{Meaning, IsMeaning}
use Rattle.command_head.specs.Refused.{fault_output}
use Rattle.command_deploy.specs.Afterwards.{found_output, head_output, head_status}
use Rattle.command_deploy.specs.Output.{deploy_output, deploy_status, found_status}
use Rattle.command_deploy.specs.Promise.{OwnPart}

-- the status of the input, or the command was cut short
abbrev pub CutOr : OwnPart → Status → Status → Type 0
CutOr part status n = part.Cut status ⊎ (status ≡ n)

-- What the own part owes of each deployment: more is due of more lines, its status is that of the
-- answers unless it is cut short, and it is so with none of the statuses whose numbers are below 5.
pub record Owes (part : OwnPart) : Type 0 where
  pub due : (text : List ℕ) (d : Deployed) → IsRead text (Ok d) → (texts : List (List ℕ)) (ls : List (List ℕ)) → Due (λ more. part.output d texts (lines_then ls more))
  pub ends : (d : Deployed) (texts : List (List ℕ)) (more : List Answer) → EndsUnread (part.output d texts more)
  pub status : (d : Deployed) (texts : List (List ℕ)) (more : List Answer) → CutOr part (part.output d texts more).status (part.status d more)
  pub starved : part.Cut OutOfMemory
  pub cut : (n : Status) → status_number n < 5 → part.Cut n → ⊥
  pub not_zero : (d : Deployed) (answers : List Answer) → Unfinished answers → part.status d answers ≡ Done → ⊥
  pub not_four : (d : Deployed) (answers : List Answer) → Faultless answers → part.status d answers ≡ ReadFailed → ⊥
  pub not_two : (d : Deployed) (answers : List Answer) → part.status d answers ≡ Misused → ⊥

-- memory runs out with a status above these
pub memory_above : (n : Status) → status_number n < 5 → n ≡ OutOfMemory → ⊥
memory_above n few six = let P : Status → Type 0 = λ s. status_number s < 5 in omega (arith, subst P six few)

-- ---- what is due

found_ends : (part : OwnPart) → Owes part → (texts : List (List ℕ)) (r : Result Deployed DeployFault) (more : List Answer) → EndsUnread (found_output part.output texts r more)
found_ends part owes texts (Ok d) more e = owes.ends d texts more e
found_ends part owes texts (Err f) more e = absurd (cc e)

head_ends : (part : OwnPart) → Owes part → (meaning : Meaning) (texts : List (List ℕ)) (h : Head) → EndsUnread (head_output part.output meaning texts h)
head_ends part owes meaning texts (Found text more) e = found_ends part owes texts (meaning text) more e
head_ends part owes meaning texts TooLong e = absurd (cc e)
head_ends part owes meaning texts NoMark e = absurd (cc e)
head_ends part owes meaning texts Unread e = ([], refl)

due_found : (part : OwnPart) → Owes part → (text : List ℕ) (texts : List (List ℕ)) (r : Result Deployed DeployFault) (ls : List (List ℕ)) → IsRead text r
    → Due (λ more. found_output part.output texts r (lines_then ls more))
due_found part owes text texts (Ok d) ls read = owes.due text d read texts ls
due_found part owes text texts (Err f) ls read = inl (fault_output f, λ x. cc x, λ more. refl)

due_head_line : (part : OwnPart) → Owes part → (meaning : Meaning) → IsMeaning meaning → (texts : List (List ℕ)) (text l : List ℕ) (ls : List (List ℕ)) (p q : Bool) → is_mark l ≡ p
    → nat_lt most_bytes (length text + length l + 1) ≡ q → Due (λ more. head_output part.output meaning texts (head_behind (text ++ l ++ newline ∷ []) (lines_then ls more)))
    → Due (λ more. head_output part.output meaning texts (head_behind text (Line l ∷ lines_then ls more)))
due_head_line part owes meaning is texts text l ls true q x y d =
    due-behind (λ more. head_output part.output meaning texts (head_behind text (Line l ∷ lines_then ls more))) (λ more. found_output part.output texts (meaning text) (lines_then ls more)) []
    (λ more. rw x refl) (due_found part owes text texts (meaning text) ls (is text))
due_head_line part owes meaning is texts text l ls false true x y d = inl (fault_output (fault 1 Nowhere), λ e. cc e, λ more. rw (x, y) refl)
due_head_line part owes meaning is texts text l ls false false x y d =
    due-behind (λ more. head_output part.output meaning texts (head_behind text (Line l ∷ lines_then ls more)))
    (λ more. head_output part.output meaning texts (head_behind (text ++ l ++ newline ∷ []) (lines_then ls more))) [] (λ more. rw (x, y) refl) d

due_head : (part : OwnPart) → Owes part → (meaning : Meaning) → IsMeaning meaning → (texts : List (List ℕ)) (ls : List (List ℕ)) (text : List ℕ)
    → Due (λ more. head_output part.output meaning texts (head_behind text (lines_then ls more)))
due_head part owes meaning is texts [] text =
    inr (
      [],
      λ more. head_output part.output meaning texts (head_behind text more),
      λ more. refl,
      refl,
      λ e. cc e,
      λ more. head_ends part owes meaning texts (head_behind text more),
    )
due_head part owes meaning is texts (l ∷ ls) text =
    due_head_line part owes meaning is texts text l ls (is_mark l) (nat_lt most_bytes (length text + length l + 1)) refl refl
    (due_head part owes meaning is texts ls (text ++ l ++ newline ∷ []))

pub due_all : (part : OwnPart) → Owes part → (meaning : Meaning) → IsMeaning meaning → (texts : List (List ℕ)) (ls : List (List ℕ))
    → Due (λ more. deploy_output part.output meaning texts (lines_then ls more))
due_all part owes meaning is texts ls = due_head part owes meaning is texts ls []

-- ---- the status

found_same : (part : OwnPart) → Owes part → (texts : List (List ℕ)) (r : Result Deployed DeployFault) (more : List Answer)
    → CutOr part (found_output part.output texts r more).status (found_status part.status r more)
found_same part owes texts (Ok d) more = owes.status d texts more
found_same part owes texts (Err f) more = inr refl

head_same : (part : OwnPart) → Owes part → (meaning : Meaning) (texts : List (List ℕ)) (h : Head) → CutOr part (head_output part.output meaning texts h).status (head_status part.status meaning h)
head_same part owes meaning texts (Found text more) = found_same part owes texts (meaning text) more
head_same part owes meaning texts TooLong = inr refl
head_same part owes meaning texts NoMark = inr refl
head_same part owes meaning texts Unread = inr refl

pub output_status : (part : OwnPart) → Owes part → (meaning : Meaning) (texts : List (List ℕ)) (answers : List Answer)
    → CutOr part (deploy_output part.output meaning texts answers).status (deploy_status part.status meaning answers)
output_status part owes meaning texts answers = head_same part owes meaning texts (head answers)

-- a status of a number below 5 that isn't that of the answers
status_not : (part : OwnPart) → Owes part → (n status other : Status) → status_number n < 5 → CutOr part status other → (other ≡ n → ⊥) → status ≡ n → ⊥
status_not part owes n status other few (inl cut) h e = owes.cut n few (subst part.Cut e cut)
status_not part owes n status other few (inr same) h e = h (cc (same, e))

pub output_not : (part : OwnPart) → Owes part → (n : Status) → status_number n < 5 → (meaning : Meaning) (texts : List (List ℕ)) (answers : List Answer) → (deploy_status part.status meaning answers ≡ n → ⊥)
    → (deploy_output part.output meaning texts answers).status ≡ n → ⊥
output_not part owes n few meaning texts answers h e =
    status_not part owes n (deploy_output part.output meaning texts answers).status (deploy_status part.status meaning answers) few (output_status part owes meaning texts answers) h e

-- ---- statuses that answers of a kind don't give

found_not : (part : OwnPart) (n : Status) (r : Result Deployed DeployFault) (more : List Answer) → (Refused ≡ n → ⊥) → ((d : Deployed) → part.status d more ≡ n → ⊥) → found_status part.status r more ≡ n → ⊥
found_not part n (Ok d) more one h e = h d e
found_not part n (Err f) more one h e = one e

-- answers that no end of the input ends don't give status 0
behind_not_zero : (part : OwnPart) → Owes part → (meaning : Meaning) (text : List ℕ) (answers : List Answer) → Unfinished answers → head_status part.status meaning (head_behind text answers) ≡ Done → ⊥
behind_not_zero part owes meaning text [] u e = u
behind_not_zero part owes meaning text (End ∷ more) u e = u
behind_not_zero part owes meaning text (Long ∷ more) u e = cc e
behind_not_zero part owes meaning text (Fault ∷ more) u e = cc e
behind_not_zero part owes meaning text (Line line ∷ more) u e =
    pick (is_mark line) (Found text more) _ (λ h. head_status part.status meaning h ≡ Done → ⊥)
    (found_not part Done (meaning text) more (λ x. cc x) (λ d. owes.not_zero d more u))
    (pick (nat_lt most_bytes (length text + length line + 1)) TooLong _ (λ h. head_status part.status meaning h ≡ Done → ⊥) (λ x. cc x) (behind_not_zero part owes meaning _ more u)) e

pub not_zero : (part : OwnPart) → Owes part → (meaning : Meaning) (answers : List Answer) → Unfinished answers → deploy_status part.status meaning answers ≡ Done → ⊥
not_zero part owes meaning answers u = behind_not_zero part owes meaning [] answers u

-- answers without a read that failed don't give status 4
behind_not_four : (part : OwnPart) → Owes part → (meaning : Meaning) (text : List ℕ) (answers : List Answer) → Faultless answers → head_status part.status meaning (head_behind text answers) ≡ ReadFailed → ⊥
behind_not_four part owes meaning text [] u e = cc e
behind_not_four part owes meaning text (End ∷ more) u e = cc e
behind_not_four part owes meaning text (Long ∷ more) u e = cc e
behind_not_four part owes meaning text (Fault ∷ more) u e = u
behind_not_four part owes meaning text (Line line ∷ more) u e =
    pick (is_mark line) (Found text more) _ (λ h. head_status part.status meaning h ≡ ReadFailed → ⊥)
    (found_not part ReadFailed (meaning text) more (λ x. cc x) (λ d. owes.not_four d more u))
    (pick (nat_lt most_bytes (length text + length line + 1)) TooLong _ (λ h. head_status part.status meaning h ≡ ReadFailed → ⊥) (λ x. cc x) (behind_not_four part owes meaning _ more u)) e

pub not_four : (part : OwnPart) → Owes part → (meaning : Meaning) (answers : List Answer) → Faultless answers → deploy_status part.status meaning answers ≡ ReadFailed → ⊥
not_four part owes meaning answers u = behind_not_four part owes meaning [] answers u

-- no answers give status 2
pub not_two : (part : OwnPart) → Owes part → (meaning : Meaning) (h : Head) → head_status part.status meaning h ≡ Misused → ⊥
not_two part owes meaning (Found text more) e = found_not part Misused (meaning text) more (λ x. cc x) (λ d. owes.not_two d more) e
not_two part owes meaning TooLong e = cc e
not_two part owes meaning NoMark e = cc e
not_two part owes meaning Unread e = cc e
