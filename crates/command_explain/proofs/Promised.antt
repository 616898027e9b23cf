-- What follows for `explain` from what it wrote and read.
use Rattle.std.proofs.Common.{◌≡◌, ◌∙◌, ℕ, Bool, List, [], ◌++◌, sym, ap, subst}
use Rattle.std.specs.Prelude.{IsTrue}
use Rattle.std.proofs.lemmas.List.{append-nil}
use Rattle.sx_io.specs.Reading.{Answer, Broken, Ended, scan}
use Rattle.command_promise.specs.declared.status.Status.{Status}
use Rattle.command_promise.specs.declared.status.Status.TheVariants.{Done, Misused, OutOfMemory}
use Rattle.command_promise.specs.Reads.{AtEnd, AtFault, Decides, Enough, Left}
use Rattle.command_promise.specs.Told.{CommandAt, CommandEnds, Told}
use Rattle.command_promise.proofs.Due.{streams-within}
use Rattle.command_promise.proofs.Laws.{told-all, told-fault, told-no-write-fault, told-quiet, told-some, told-write-fault}
use Rattle.command_promise.proofs.Endings.{faultless, unfinished}
use Rattle.command_promise.specs.Head.{head}
use Rattle.command_text.specs.Faults.{TellsFaults}
use Rattle.command_text.proofs.Ends.{came}
use Rattle.sx_deploy.proofs.ValidApp.{app_valid}
use Rattle.sx_explain.proofs.Caused.{legal_has_causes}
use Rattle.command_explain.specs.Meant.{AreMeanings, Meanings}
use Rattle.command_explain.specs.Output.{explain_all}
use Rattle.command_head.specs.Found.{RunsOutBehindHead}
use Rattle.command_head.specs.Wanting.{RanOutAt}
use Rattle.command_explain.specs.Wants.{explain_may}
use Rattle.command_explain.specs.Promise.{ExplainPromise, input_of}
use Rattle.command_explain.specs.Trace.{explain_lines}
use Rattle.command_explain.proofs.Found.{are_meant, meant}
use Rattle.command_explain.proofs.Owing.{due_all}
use Rattle.command_explain.proofs.Statuses.{head_legal, head_not_two, head_zero, not_four, not_zero}

faults_are : {tells to_tell : Bool} {m0 m1 : CommandAt} {status : Status} {also : List Answer → Type 0} (means : Meanings)
    → Told tells to_tell explain_lines m0 m1 status (explain_all means) also → TellsFaults m0 m1 status
faults_are {tells} {to_tell} {m0} {m1} {status} means told = record {
  read = λ four.
      told-fault told (λ five. cc (four, five)) (λ six. cc (four, six))
      (λ bytes e. not_four means (scan explain_lines Ended [] bytes) (faultless explain_lines [] bytes) (sym e ∙ four));
  write = λ five. told-write-fault told five;
  no_write = λ other. told-no-write-fault told other;
}

-- status 0 is that of the whole input
whole_zero : (left : Left) (tells to_tell : Bool) (m0 m1 : CommandAt) (taken : List ℕ) (means : Meanings) (also : List Answer → Type 0) → IsTrue tells
    → m0.source.rest ≡ taken ++ m1.source.rest
    → Decides left tells explain_lines m0.source m1.source taken (λ answers. CommandEnds to_tell m0.sink m1.sink Done (explain_all means answers) × also answers)
    → (explain_all means (input_of m0)).status ≡ Done
whole_zero AtEnd tells to_tell m0 m1 taken means also t e d =
    let all : m0.source.rest ≡ taken = (e ∙ ap (λ (v : List ℕ). taken ++ v) (d.1 t).rest ∙ append-nil taken) in
    ap (λ bytes. (explain_all means (scan explain_lines Ended [] bytes)).status) all ∙ sym (d.2.0.whole (λ x. cc x) (λ x. cc x)).0
whole_zero AtFault tells to_tell m0 m1 taken means also t e d =
    absurd (not_zero means (scan explain_lines Broken [] taken) (unfinished explain_lines [] taken) (sym (d.2.0.whole (λ x. cc x) (λ x. cc x)).0))
whole_zero Enough tells to_tell m0 m1 taken means also t e d =
    absurd (not_zero means (scan explain_lines Broken [] (taken ++ [])) (unfinished explain_lines [] (taken ++ []))
    (sym ((d.2 Broken []).0.whole (λ x. cc x) (λ x. cc x)).0))

zero_is : {tells to_tell : Bool} {m0 m1 : CommandAt} {status : Status} {also : List Answer → Type 0} (means : Meanings)
    → Told tells to_tell explain_lines m0 m1 status (explain_all means) also → IsTrue tells → status ≡ Done → (explain_all means (input_of m0)).status ≡ Done
zero_is {tells} {to_tell} {m0} {m1} {status} {also} means told t zero =
    let r = told.reads in
    let P : Status → Type 0 = λ s. Decides r.left tells explain_lines m0.source m1.source r.taken (λ answers. CommandEnds to_tell m0.sink m1.sink s (explain_all means answers) × also answers) in
    whole_zero r.left tells to_tell m0 m1 r.taken means also t (r.from_source t) (subst P zero r.decides)

pub explain_promise : {tells to_tell : Bool} {m0 m1 : CommandAt} {status : Status}
    → ((means : Meanings) → AreMeanings means → Told tells to_tell explain_lines m0 m1 status (explain_all means) (RunsOutBehindHead status))
    → ((means : Meanings) → AreMeanings means → status ≡ OutOfMemory → RanOutAt explain_lines (explain_may means) tells m0 m1) → ExplainPromise tells to_tell m0 m1 status
explain_promise {tells} {to_tell} {m0} {m1} {status} told memory = record {
  told = told;
  streams = λ means is. streams-within explain_lines (explain_all means) (due_all means) (told means is);
  faults = faults_are meant (told meant are_meant);
  read_all = λ zero t.
      told-all (told meant are_meant) (λ five. cc (zero, five)) (λ six. cc (zero, six))
      (λ bytes e. not_zero meant (scan explain_lines Broken [] bytes) (unfinished explain_lines [] bytes) (sym e ∙ zero)) t;
  exact = λ means is t quiet. told-quiet (told means is) t quiet.0 quiet.1;
  legal = λ means is t zero. head_zero means (head (input_of m0)) (zero_is means (told means is) t zero);
  complete = λ means is t good quiet.
      came to_tell m0 m1 status (explain_all means (input_of m0)) (told-quiet (told means is) t quiet.0 quiet.1) (head_legal means (head (input_of m0)) good);
  memory = memory;
  causes = λ text d read items legal. legal_has_causes d.app items (app_valid text d read) legal;
}

-- what was told doesn't end with the status for other words
pub explain_not_two : {tells to_tell : Bool} {m0 m1 : CommandAt} {status : Status} → ExplainPromise tells to_tell m0 m1 status → status ≡ Misused → ⊥
explain_not_two says two =
    let w = told-some (says.told meant are_meant) in
    head_not_two meant (head w.0) (sym (w.1.0.whole (λ five. cc (two, five)) (λ six. cc (two, six))).0 ∙ two)
