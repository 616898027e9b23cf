-- What follows for a command that deploys from what it wrote and read.
use Rattle.std.proofs.Common.{◌≡◌, ◌∙◌, ◌⊎◌, inl, inr, ℕ, ◌++◌, Bool, List, [], sym, ap, subst, arith, Option}
use Rattle.std.specs.Prelude.{IsTrue}
use Rattle.sx_io.specs.Streams.{SinkAt}
use Rattle.sx_io.specs.Reading.{Answer, Broken, Ended, longest, scan}
use Rattle.command_promise.specs.declared.status.Status.{Status}
use Rattle.command_promise.specs.declared.status.Status.TheVariants.{Done, Misused, ReadFailed, OutOfMemory}
use Rattle.command_promise.specs.Told.{CommandAt, Output, Told}
use Rattle.command_promise.proofs.Laws.{told-all, told-quiet, told-some}
use Rattle.command_promise.proofs.Endings.{unfinished, faultless}
use Rattle.command_promise.proofs.Due.{streams-by}
use Rattle.sx_tag.specs.Mac.{Mac}
use Rattle.command_promise.specs.Head.{head, head_lines}
use Rattle.sx_deploy.specs.Deployment.{Deployed}
use Rattle.spec_run.specs.Accepted.{AreByteTexts, AreImages}
use Rattle.command_text.specs.Faults.{TellsFaults}
use Rattle.command_text.proofs.Ends.{faults_of}
use Rattle.command_head.specs.Begun.{ReadsAs, Starved}
use Rattle.command_head.specs.Meanings.{Meaning}
use Rattle.command_head.specs.Wanting.{RanOutAt}
use Rattle.command_head.proofs.Known.{known, is_known}
use Rattle.command_deploy.specs.Afterwards.{DeployTold, ToldWith}
use Rattle.command_deploy.specs.Output.{deploy_output, deploy_status}
use Rattle.command_deploy.specs.Promise.{DeployPromise, OwnPart}
use Rattle.command_deploy.proofs.Owing.{CutOr, Owes, due_all, not_four, not_two, not_zero, output_not, output_status}

-- what is said of a whole input, where no read and no write failed
abbrev QuietlyTold : Bool → CommandAt → CommandAt → Status → Output → Type 0
QuietlyTold to_tell m0 m1 status o = (status ≡ OutOfMemory) ⊎ ((status ≡ o.status) × (IsTrue to_tell → m1.sink.written ≡ m0.sink.written ++ o.text))

-- it came to its end, or was cut short
came_or_cut : (part : OwnPart) → Owes part → (to_tell : Bool) (m0 m1 : CommandAt) (status n : Status) (o : Output) → QuietlyTold to_tell m0 m1 status o → CutOr part o.status n → n ≡ Done
    → part.Cut status ⊎ ((status ≡ Done) × (IsTrue to_tell → m1.sink.written ≡ m0.sink.written ++ o.text))
came_or_cut part owes to_tell m0 m1 status n o (inl six) same none = inl (subst part.Cut (sym six) owes.starved)
came_or_cut part owes to_tell m0 m1 status n o (inr all) (inl cut) none = inl (subst part.Cut (sym all.0) cut)
came_or_cut part owes to_tell m0 m1 status n o (inr all) (inr same) none = inr (all.0 ∙ same ∙ none, all.1)

exactly : (part : OwnPart) → Owes part → (to_tell : Bool) (m0 m1 : CommandAt) (status n : Status) (o : Output) → QuietlyTold to_tell m0 m1 status o → CutOr part o.status n
    → part.Cut status ⊎ (status ≡ n)
exactly part owes to_tell m0 m1 status n o (inl six) same = inl (subst part.Cut (sym six) owes.starved)
exactly part owes to_tell m0 m1 status n o (inr all) (inl cut) = inl (subst part.Cut (sym all.0) cut)
exactly part owes to_tell m0 m1 status n o (inr all) (inr same) = inr (all.0 ∙ same)

with_faults : {tells to_tell : Bool} {m0 m1 : CommandAt} {status : Status} {also : List Answer → Type 0} (part : OwnPart) → Owes part → (meaning : Meaning) (texts : List (List ℕ))
    → Told tells to_tell head_lines m0 m1 status (deploy_output part.output meaning texts) also → TellsFaults m0 m1 status
with_faults part owes meaning texts told =
    faults_of (λ bytes e.
    let answers = scan head_lines Ended [] bytes in
    output_not part owes ReadFailed (omega arith) meaning texts answers (not_four part owes meaning answers (faultless head_lines [] bytes)) e) told

with_all : {tells to_tell : Bool} {m0 m1 : CommandAt} {status : Status} {also : List Answer → Type 0} (part : OwnPart) → Owes part → (meaning : Meaning) (texts : List (List ℕ))
    → Told tells to_tell head_lines m0 m1 status (deploy_output part.output meaning texts) also → status ≡ Done → IsTrue tells → m1.source.rest ≡ []
with_all {tells} {to_tell} {m0} {m1} {status} {also} part owes meaning texts told none t =
    told-all told (λ five. cc (none, five)) (λ six. cc (none, six))
    (λ bytes e.
    let answers = scan head_lines Broken [] bytes in
    output_not part owes Done (omega arith) meaning texts answers (not_zero part owes meaning answers (unfinished head_lines [] bytes)) (sym e ∙ none)) t

-- images that realize their modules, with what the own part keeps of them, and what was told of the command with them
says_with : {tells to_tell : Bool} {m0 m1 : CommandAt} {status : Status} (mac : Mac) (part : OwnPart) → Owes part → (w : ToldWith mac part.output tells to_tell m0 m1 status)
    → part.With w.deployment w.texts → (status ≡ OutOfMemory → RanOutAt head_lines part.MayWant tells m0 m1) → DeployPromise mac part tells to_tell m0 m1 status
says_with {tells} {to_tell} {m0} {m1} {status} mac part owes w own memory = record {
  says = inr (record {
    deployment = w.deployment;
    texts = w.texts;
    headed = w.headed;
    realize = w.realize;
    made = w.made;
    told = w.told;
    streams = λ meaning is. streams-by longest (deploy_output part.output meaning w.texts) (due_all part owes meaning is w.texts) (w.told meaning is);
    own = own;
    complete = λ meaning is t good quiet.
        let answers = scan head_lines Ended [] m0.source.rest in
        came_or_cut part owes to_tell m0 m1 status (deploy_status part.status meaning answers) (deploy_output part.output meaning w.texts answers)
        (told-quiet (w.told meaning is) t quiet.0 quiet.1) (output_status part owes meaning w.texts answers) good;
  });
  faults = with_faults part owes known w.texts (w.told known is_known);
  read_all = with_all part owes known w.texts (w.told known is_known);
  exact = λ meaning is t quiet.
      let answers = scan head_lines Ended [] m0.source.rest in
      exactly part owes to_tell m0 m1 status (deploy_status part.status meaning answers) (deploy_output part.output meaning w.texts answers)
      (told-quiet (w.told meaning is) t quiet.0 quiet.1) (output_status part owes meaning w.texts answers);
  memory = memory;
}

says_starved : {tells : Bool} {m0 m1 : CommandAt} {status : Status} (mac : Mac) (part : OwnPart) → Owes part → (to_tell : Bool) → Starved tells m0 m1 status
    → (status ≡ OutOfMemory → RanOutAt head_lines part.MayWant tells m0 m1) → DeployPromise mac part tells to_tell m0 m1 status
says_starved {tells} {m0} {m1} {status} mac part owes to_tell s memory = record {
  says = inl s;
  faults = record {
    read = λ four. absurd (cc (s.six, four));
    write = λ five. absurd (cc (s.six, five));
    no_write = λ other. ap (λ (k : SinkAt). k.faults) s.sink;
  };
  read_all = λ none t. absurd (cc (s.six, none));
  exact = λ meaning is t quiet. inl (subst part.Cut (sym s.six) owes.starved);
  memory = memory;
}

-- What the own part keeps of any images that realize their modules, it keeps of those that were made.
pub deploy_says : {tells to_tell : Bool} {m0 m1 : CommandAt} {status : Status} (mac : Mac) (part : OwnPart) → Owes part
    → ((deployment : Option (List ℕ)) (texts : List (List ℕ)) → AreByteTexts texts → ((d : Deployed) → ReadsAs deployment d → AreImages mac d texts) → part.With deployment texts)
    → DeployTold mac part.output part.MayWant tells to_tell m0 m1 status → DeployPromise mac part tells to_tell m0 m1 status
deploy_says {tells} {to_tell} {m0} {m1} {status} mac part owes keeps told =
    elim told.says [
      | inl s ↦ says_starved mac part owes to_tell s told.memory
      | inr w ↦ says_with mac part owes w (keeps w.deployment w.texts w.bytes w.realize) told.memory
    ]

-- a command that was told doesn't end with the status for other words
with_not_two : {tells to_tell : Bool} {m0 m1 : CommandAt} {status : Status} {also : List Answer → Type 0} (part : OwnPart) → Owes part → (meaning : Meaning) (texts : List (List ℕ))
    → Told tells to_tell head_lines m0 m1 status (deploy_output part.output meaning texts) also → status ≡ Misused → ⊥
with_not_two part owes meaning texts told two =
    let w = told-some told in
    output_not part owes Misused (omega arith) meaning texts w.0 (not_two part owes meaning (head w.0))
    (sym (w.1.0.whole (λ five. cc (two, five)) (λ six. cc (two, six))).0 ∙ two)

pub deploy_not_two : {tells to_tell : Bool} {m0 m1 : CommandAt} {status : Status} (mac : Mac) (part : OwnPart) → Owes part → DeployPromise mac part tells to_tell m0 m1 status → status ≡ Misused → ⊥
deploy_not_two mac part owes says two =
    elim says.says [
      | inl starved ↦ cc (starved.six, two)
      | inr r ↦ with_not_two part owes known r.texts (r.told known is_known) two
    ]
