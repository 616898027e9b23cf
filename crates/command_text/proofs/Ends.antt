-- What follows for a command from what it wrote and read.
use Rattle.std.proofs.Common.{◌≡◌, ◌∙◌, ◌⊎◌, inl, inr, ℕ, Bool, List, [], ◌++◌, sym, ap}
use Rattle.sx_io.specs.Reading.{Answer, Ended, always, longest, scan}
use Rattle.command_promise.specs.declared.status.Status.{Status}
use Rattle.command_promise.specs.declared.status.Status.TheVariants.{Done, ReadFailed, WriteFailed, OutOfMemory}
use Rattle.command_promise.specs.Told.{CommandAt, Output, Told}
use Rattle.std.specs.Prelude.{IsTrue}
use Rattle.command_promise.proofs.Laws.{told-fault, told-write-fault, told-no-write-fault}
use Rattle.command_text.specs.Faults.{TellsFaults}
use Rattle.command_text.specs.Ended.{CameToItsEnd}
use Rattle.std.proofs.lemmas.List.{append-nil}

-- a status that `finish` gives isn't that of lack of memory
pub never_six : (status ended : Status) → ((status ≡ WriteFailed → ⊥) → status ≡ ended)
    → (ended ≡ OutOfMemory → ⊥) → status ≡ OutOfMemory → ⊥
never_six status ended e n six = n (sym (e (λ five. cc (sym five ∙ six))) ∙ six)

-- an input that is to be run to its end came to it
pub came : (to_tell : Bool) (m0 m1 : CommandAt) (status : Status) (o : Output)
    → (status ≡ OutOfMemory) ⊎ ((status ≡ o.status) × (IsTrue to_tell → m1.sink.written ≡ m0.sink.written ++ o.text)) → o.status ≡ Done → CameToItsEnd to_tell m0 m1 status o
came to_tell m0 m1 status o (inl six) zero = inl six
came to_tell m0 m1 status o (inr all) zero = inr (all.0 ∙ zero, all.1)

-- a status tells of faults, where no answers of an input without a read that failed give status 4
pub faults_of : {tells to_tell : Bool} {m0 m1 : CommandAt} {status : Status} {F : List Answer → Output} {also : List Answer → Type 0}
    → ((bytes : List ℕ) → (F (scan (always longest) Ended [] bytes)).status ≡ ReadFailed → ⊥)
    → Told tells to_tell (always longest) m0 m1 status F also → TellsFaults m0 m1 status
faults_of {tells} {to_tell} {m0} {m1} {status} {F} {also} never told = record {
  read = λ four. told-fault told (λ five. cc (sym four ∙ five)) (λ six. cc (sym four ∙ six)) (λ bytes e. never bytes (sym e ∙ four));
  write = λ five. told-write-fault told five;
  no_write = λ other. told-no-write-fault told other;
}

-- all lines of a text are written if nothing of it is left
pub all_lines : (text whole left : List ℕ) → text ++ left ≡ whole → left ≡ [] → text ≡ whole
all_lines text whole left h e = sym (append-nil text) ∙ ap (λ (v : List ℕ). text ++ v) (sym e) ∙ h
