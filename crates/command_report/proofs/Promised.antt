-- What follows for a command that reports from what it wrote and read.
use Rattle.std.proofs.Common.{◌≡◌, ◌≤◌, ◌+◌, ◌∙◌, ℕ, Bool, List, [], ◌++◌, length, sym, ap}
use Rattle.std.specs.Prelude.{IsTrue}
use Rattle.sx_io.specs.Reading.{Broken, Ended, longest, scan}
use Rattle.command_promise.specs.declared.status.Status.{Status}
use Rattle.command_promise.specs.declared.status.Status.TheVariants.{Misused, ReadFailed}
use Rattle.command_promise.specs.Told.{Output, CommandAt, Told}
use Rattle.command_promise.proofs.Laws.{told-quiet, told-some}
use Rattle.command_promise.proofs.Endings.{faultless}
use Rattle.command_promise.proofs.Further.{no-further}
use Rattle.command_promise.specs.Head.{Head, head, head_lines}
use Rattle.command_head.specs.Meanings.{Meaning, IsMeaning}
use Rattle.command_report.specs.Output.{Report, report_head, report_all}
use Rattle.command_head.specs.Found.{RunsOutBehindHead}
use Rattle.command_report.specs.Promise.{ReportPromise, IsHead}
use Rattle.command_head.proofs.Known.{known, is_known}
use Rattle.command_text.proofs.Ends.{came, faults_of}
use Rattle.command_report.proofs.Statuses.{head_zero, head_not_two, report_not_four, said_not}

pub report_not_two : {report : Report} {tells to_tell : Bool} {m0 m1 : CommandAt} {status : Status} → ReportPromise report tells to_tell m0 m1 status → status ≡ Misused → ⊥
report_not_two {report} said two =
    let w = told-some (said.told known is_known) in
    head_not_two report known (head w.0) (sym (w.1.0.whole (λ five. cc (sym two ∙ five)) (λ six. cc (sym two ∙ six))).0 ∙ two)

report_no_further : {tells to_tell : Bool} {m0 m1 : CommandAt} {status : Status} (report : Report) (bytes rest text : List ℕ) → Told tells to_tell head_lines m0 m1 status (report_all report known) (RunsOutBehindHead status)
    → IsTrue tells → m0.source.rest ≡ bytes ++ rest → IsHead bytes text → length rest ≤ longest + length m1.source.rest
report_no_further report bytes rest text told t e h =
    no-further bytes rest told.reads t e h.0
    (λ y d. said_not report ReadFailed (known text) (λ x. cc x) (λ x. cc x) (ap (λ (x : Head). (report_head report known x).status) (sym (h.1 Broken y)) ∙ ap (λ (o : Output). o.status) d))

pub report_promise : {tells to_tell : Bool} {m0 m1 : CommandAt} {status : Status} (report : Report)
    → ((meaning : Meaning) → IsMeaning meaning → Told tells to_tell head_lines m0 m1 status (report_all report meaning) (RunsOutBehindHead status)) → ReportPromise report tells to_tell m0 m1 status
report_promise {tells} {to_tell} {m0} {m1} {status} report told = record {
  told = told;
  no_further = λ bytes rest text t e h. report_no_further report bytes rest text (told known is_known) t e h;
  faults = faults_of (λ bytes e. report_not_four report known (scan head_lines Ended [] bytes) (faultless head_lines [] bytes) e) (told known is_known);
  complete = λ meaning is t good quiet.
      let answers = scan head_lines Ended [] m0.source.rest in
      came to_tell m0 m1 status (report_all report meaning answers) (told-quiet (told meaning is) t quiet.0 quiet.1) (head_zero report meaning (head answers) good);
}
