-- From a head that was read to what the command says.
use Rattle.std.proofs.Common.{◌≡◌, ℕ, ◌∙◌, Bool, List, refl, sym, ap, Result, Ok, Err, subst}
use Rattle.std.specs.Prelude.{IfErr, IfOk}
use Rattle.sx_io.specs.Streams.{SourceAt, SinkAt}
use Rattle.sx_io.specs.Next.{Ahead}
use Rattle.command_promise.specs.declared.status.Status.{Status}
use Rattle.command_promise.specs.declared.status.Status.TheVariants as exit
use Rattle.command_promise.specs.Told.{CommandEnds, command_at, Output, Told, unread_output}
use Rattle.command_promise.proofs.Laws.{ends-same, ends-out-of-memory, prefix-none, told-stop, begun-got, told-reads}
use Rattle.sx_entries.specs.Fault.{fault}
use Rattle.sx_entries.specs.Gives.{GivesOne}
use Rattle.sx_entries.specs.declared.fault.DeployError.{DeployError}
use Rattle.sx_entries.specs.declared.fault.DeployError.TheVariants.{Fault, OutOfMemory}
use Rattle.sx_deploy.specs.Deployment.{IsRead}
use Rattle.sx_deploy.specs.SeenDeployment.{deployed_as}
use Rattle.sx_deploy.specs.declared.deployment.Deployment.{Deployment}
use Rattle.sx_deploy.proofs.Meanings.{one_meaning}
use Rattle.command_head.specs.Meanings.{Meaning, IsMeaning}
use Rattle.command_report.specs.Output.{Report, report_output, report_head, report_all}
use Rattle.command_head.specs.Refused.{fault_output}
use Rattle.command_head.specs.Ends.{EndsRefused}
use Rattle.sx_io.specs.Reading.{Answer}
use Rattle.command_promise.specs.Reads.{Reads, anything}
use Rattle.command_promise.specs.Got.{Got}
use Rattle.command_promise.proofs.Takings.{got-also}
use Rattle.sx_entries.specs.declared.fault.Place.TheVariants.{Nowhere}
use Rattle.command_promise.specs.Head.{Head, Found, TooLong, NoMark, Unread, head, head_lines}
use Rattle.command_promise.specs.HeadRead.{HeadRead}
use Rattle.command_promise.specs.declared.head.HeadFault.{HeadFault}
use Rattle.command_promise.specs.declared.head.HeadFault.TheVariants as none
use Rattle.command_head.specs.Headless.{EndsHeadless}
use Rattle.command_head.specs.Found.{IsFound, RunsOutBehindHead}

-- what is written of a text
pub report_read : {to_tell : Bool} {k0 k1 : SinkAt} {status : Status} (report : Report) (text : List ℕ) (r : Result Deployment DeployError) → GivesOne deployed_as r (IsRead text)
    → IfOk r (λ d. CommandEnds to_tell k0 k1 status (report_output report (Ok (deployed_as d)))) → IfErr r (λ e. EndsRefused to_tell k0 k1 status e)
    → (meaning : Meaning) → IsMeaning meaning → CommandEnds to_tell k0 k1 status (report_output report (meaning text))
report_read {to_tell} {k0} {k1} {status} report text (Ok d) read good bad meaning is =
    ends-same _ _ _ _ _ _ (ap (report_output report) (one_meaning text (meaning text) (Ok (deployed_as d)) (is text) read)) good
report_read {to_tell} {k0} {k1} {status} report text (Err (Fault f)) read good bad meaning is =
    ends-same _ _ _ _ _ _ (ap (report_output report) (one_meaning text (meaning text) (Err f) (is text) read)) bad.0
report_read {to_tell} {k0} {k1} {status} report text (Err OutOfMemory) read good bad meaning is =
    rw (bad.0, bad.1) (ends-out-of-memory to_tell k0 k0 (report_output report (meaning text)) (λ t. prefix-none _ _ _ refl) refl)

found_is : (status : Status) (text : List ℕ) (answers more : List Answer) → head answers ≡ Found text more → RunsOutBehindHead status answers
found_is status text answers more e = λ six. let P : Head → Type 0 = IsFound in subst P (sym e) tt

-- a head was read, and judged
pub report_found : {tells to_tell : Bool} {s0 s1 : SourceAt} {k0 k1 : SinkAt} {now : Ahead} {status : Status} (report : Report) (meaning : Meaning) (text other : List ℕ) → other ≡ text
    → Got tells head_lines head_lines s0 s1 now head (λ more. Found text more) Unread anything → CommandEnds to_tell k0 k1 status (report_output report (meaning other))
    → Told tells to_tell head_lines (command_at s0 k0) (command_at s1 k1) status (report_all report meaning) (RunsOutBehindHead status)
report_found {tells} {to_tell} {s0} {s1} {k0} {k1} {now} {status} report meaning text other e b w =
    told-stop (begun-got (report_head report meaning) refl (got-also (RunsOutBehindHead status) (found_is status text) b))
    (λ more. ends-same _ _ _ _ _ _ (ap (λ (t : List ℕ). report_output report (meaning t)) (sym e)) w)

-- there is none
report_none : {tells to_tell : Bool} {s0 s1 : SourceAt} {k0 k1 : SinkAt} {status : Status} (report : Report) (meaning : Meaning) (h : Head) (o : Output) → report_head report meaning h ≡ o
    → Reads tells head_lines s0 s1 head Unread (λ answers. head answers ≡ h) → CommandEnds to_tell k0 k1 status o → (status ≡ exit.OutOfMemory → ⊥)
    → Told tells to_tell head_lines (command_at s0 k0) (command_at s1 k1) status (report_all report meaning) (RunsOutBehindHead status)
report_none report meaning h o e r w never = told-reads (report_head report meaning) o refl r (λ answers q. (ap (report_head report meaning) q ∙ e, λ six. absurd (never six))) w

-- memory ran out, and nothing was written
report_starved : {tells to_tell : Bool} {s0 s1 : SourceAt} {k : SinkAt} {now : Ahead} (report : Report) (meaning : Meaning) → HeadRead tells s0 s1 now (Err none.OutOfMemory)
    → Told tells to_tell head_lines (command_at s0 k) (command_at s1 k) exit.OutOfMemory (report_all report meaning) (RunsOutBehindHead exit.OutOfMemory)
report_starved {tells} {to_tell} {s0} {s1} {k} report meaning (text, b) =
    told-stop (begun-got (report_head report meaning) refl (got-also (RunsOutBehindHead exit.OutOfMemory) (found_is exit.OutOfMemory text) b))
    (λ more. ends-out-of-memory to_tell k k (report_output report (meaning text)) (λ t. prefix-none k.written k.written _ refl) refl)

-- there is none, or no memory for one
pub report_headless : {tells to_tell : Bool} {s0 s1 : SourceAt} {k0 k1 : SinkAt} {status : Status} (now : Ahead) (report : Report) (meaning : Meaning) (why : HeadFault) → HeadRead tells s0 s1 now (Err why)
    → EndsHeadless to_tell k0 k1 status why → Told tells to_tell head_lines (command_at s0 k0) (command_at s1 k1) status (report_all report meaning) (RunsOutBehindHead status)
report_headless {tells} {to_tell} {s0} {s1} {k0} {k1} {status} now report meaning none.TooLong r w = report_none report meaning TooLong (fault_output (fault 1 Nowhere)) refl r w.0 w.1
report_headless {tells} {to_tell} {s0} {s1} {k0} {k1} {status} now report meaning none.NoMark r w = report_none report meaning NoMark (fault_output (fault 2 Nowhere)) refl r w.0 w.1
report_headless {tells} {to_tell} {s0} {s1} {k0} {k1} {status} now report meaning none.Failed r w = report_none report meaning Unread unread_output refl r w.0 w.1
report_headless {tells} {to_tell} {s0} {s1} {k0} {k1} {status} now report meaning none.OutOfMemory r w = rw (w.0, w.1) (report_starved {k = k0} {now = now} report meaning r)
