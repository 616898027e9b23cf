-- What follows for `watch` from what it wrote and read.
use Rattle.std.proofs.Common.{◌≡◌, ◌∙◌, ◌⊎◌, ℕ, Bool, List, [], ◌++◌, inl, inr, sym, ap, subst}
use Rattle.std.specs.Prelude.{◌≢◌, IsTrue}
use Rattle.std.proofs.lemmas.List.{append-nil}
use Rattle.sx_io.specs.Streams.{SinkAt, SourceAt}
use Rattle.sx_io.specs.Reading.{Answer, Broken, Ended, scan}
use Rattle.command_promise.specs.declared.status.Status.{Status}
use Rattle.command_promise.specs.declared.status.Status.TheVariants.{Misused, ReadFailed, WriteFailed, OutOfMemory}
use Rattle.command_promise.specs.Reads.{AtEnd, AtFault, Decides, Enough, Left}
use Rattle.command_promise.specs.Told.{CommandAt, CommandEnds, Output, Told}
use Rattle.command_promise.proofs.Due.{streams-within}
use Rattle.command_promise.proofs.Laws.{ends-same, told-all, told-fault, told-no-write-fault, told-some, told-write-fault, ran-out}
use Rattle.command_promise.proofs.Endings.{faultless, unfinished}
use Rattle.command_promise.specs.Head.{head}
use Rattle.command_text.specs.Faults.{TellsFaults}
use Rattle.command_head.specs.Found.{RunsOutBehindHead}
use Rattle.command_property.proofs.Known.{is_known, known}
use Rattle.command_explain.specs.Promise.{EndsAs}
use Rattle.command_explain.proofs.Found.{are_meant as are_read, meant as read}
use Rattle.command_watch.specs.Meant.{AreMeanings, Meanings}
use Rattle.command_watch.specs.Output.{watch_all, watch_lines}
use Rattle.command_watch.specs.Promise.{WatchPromise, input_of}
use Rattle.command_watch.proofs.Cut.{settled}
use Rattle.command_watch.proofs.Owing.{due_all}
use Rattle.command_watch.proofs.Statuses.{head_not_two, not_four, not_zero}

-- what texts and lines mean
pub meant : Meanings
meant = record { trace = read; property = known }

pub are_meant : AreMeanings meant
unfolding meant
are_meant = record { trace = are_read; property = is_known }

faults_are : {tells to_tell : Bool} {m0 m1 : CommandAt} {status : Status} {also : List Answer → Type 0} (means : Meanings)
    → Told tells to_tell watch_lines m0 m1 status (watch_all means) also → TellsFaults m0 m1 status
faults_are {tells} {to_tell} {m0} {m1} {status} means told = record {
  read = λ four.
      told-fault told (λ five. cc (four, five)) (λ six. cc (four, six))
      (λ bytes e. not_four means (scan watch_lines Ended [] bytes) (faultless watch_lines [] bytes) (sym e ∙ four));
  write = λ five. told-write-fault told five;
  no_write = λ other. told-no-write-fault told other;
}

-- What is written, and the status, are those of the whole input.
module _ (to_tell : Bool) (k0 k1 : SinkAt) (status : Status) (means : Meanings) (four : status ≢ ReadFailed) (five : status ≢ WriteFailed) where
  -- what ends so, or memory ran out
  ends_as : (o : Output) → CommandEnds to_tell k0 k1 status o → (status ≡ OutOfMemory) ⊎ ((status ≡ o.status) × (IsTrue to_tell → k1.written ≡ k0.written ++ o.text))
  ends_as o w =
      elim (ran-out status) [
        | inl six ↦ inl six
        | inr six ↦ inr (w.whole five six)
      ]

  -- where a read failed, that isn't said
  not_unread : (bytes : List ℕ) → status ≢ OutOfMemory → CommandEnds to_tell k0 k1 status (watch_all means (scan watch_lines Broken [] bytes))
      → (watch_all means (scan watch_lines Broken [] bytes)).status ≡ ReadFailed → ⊥
  not_unread bytes six w e = four ((w.whole five six).0 ∙ e)

  whole_input : (left : Left) (tells : Bool) (s0 s1 : SourceAt) (taken : List ℕ) (also : List Answer → Type 0) → IsTrue tells → s0.rest ≡ taken ++ s1.rest
      → Decides left tells watch_lines s0 s1 taken (λ answers. CommandEnds to_tell k0 k1 status (watch_all means answers) × also answers)
      → (status ≡ OutOfMemory) ⊎ CommandEnds to_tell k0 k1 status (watch_all means (scan watch_lines Ended [] s0.rest))
  whole_input AtEnd tells s0 s1 taken also t e d =
      let P : List ℕ → Type 0 = λ bytes. CommandEnds to_tell k0 k1 status (watch_all means (scan watch_lines Ended [] bytes)) in
      inr (subst P (sym (e ∙ ap (λ (v : List ℕ). taken ++ v) (d.1 t).rest ∙ append-nil taken)) d.2.0)
  whole_input AtFault tells s0 s1 taken also t e d =
      let P : List ℕ → Type 0 = λ bytes. CommandEnds to_tell k0 k1 status (watch_all means (scan watch_lines Ended [] bytes)) in
      elim (ran-out status) [
        | inl six ↦ inl six
        | inr six ↦ inr (subst P (sym e) (ends-same _ _ _ _ _ _ (sym (settled watch_lines (watch_all means) taken (due_all means) (not_unread taken six d.2.0) Ended s1.rest)) d.2.0))
      ]
  whole_input Enough tells s0 s1 taken also t e d =
      let P : List ℕ → Type 0 = λ bytes. CommandEnds to_tell k0 k1 status (watch_all means (scan watch_lines Ended [] bytes)) in
      inr (subst P (sym e) (d.2 Ended s1.rest).0)

exact_of : {tells to_tell : Bool} {m0 m1 : CommandAt} {status : Status} {also : List Answer → Type 0} (means : Meanings)
    → Told tells to_tell watch_lines m0 m1 status (watch_all means) also → IsTrue tells → status ≢ ReadFailed → status ≢ WriteFailed
    → EndsAs to_tell m0 m1 status (watch_all means (input_of m0))
exact_of {tells} {to_tell} {m0} {m1} {status} {also} means told t four five =
    let r = told.reads in
    elim (whole_input to_tell m0.sink m1.sink status means four five r.left tells m0.source m1.source r.taken also t (r.from_source t) r.decides) [
      | inl six ↦ inl six
      | inr w ↦ ends_as to_tell m0.sink m1.sink status means four five (watch_all means (input_of m0)) w
    ]

pub watch_promise : {tells to_tell : Bool} {m0 m1 : CommandAt} {status : Status}
    → ((means : Meanings) → AreMeanings means → Told tells to_tell watch_lines m0 m1 status (watch_all means) (RunsOutBehindHead status))
    → (status ≡ OutOfMemory → m1.sink ≡ m0.sink) → WatchPromise tells to_tell m0 m1 status
watch_promise {tells} {to_tell} {m0} {m1} {status} told starved = record {
  told = told;
  streams = λ means is. streams-within watch_lines (watch_all means) (due_all means) (told means is);
  faults = faults_are meant (told meant are_meant);
  read_all = λ zero t.
      told-all (told meant are_meant) (λ five. cc (zero, five)) (λ six. cc (zero, six))
      (λ bytes e. not_zero meant (scan watch_lines Broken [] bytes) (unfinished watch_lines [] bytes) (sym e ∙ zero)) t;
  exact = λ means is. exact_of means (told means is);
  memory = starved;
}

-- what was told doesn't end with the status for other words
pub watch_not_two : {tells to_tell : Bool} {m0 m1 : CommandAt} {status : Status} → WatchPromise tells to_tell m0 m1 status → status ≡ Misused → ⊥
watch_not_two says two =
    let w = told-some (says.told meant are_meant) in
    head_not_two meant (head w.0) (sym (w.1.0.whole (λ five. cc (two, five)) (λ six. cc (two, six))).0 ∙ two)
