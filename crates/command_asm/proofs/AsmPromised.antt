-- What follows for `asm` from what it wrote and read.
use Rattle.std.proofs.Common.{◌≡◌, ◌⊎◌, inl, inr, ℕ, ◌+◌, Bool, List, [], ◌∷◌, ◌++◌, length, nat_lt, sym, ◌∙◌, Option, Some, None}
use Rattle.std.specs.Option.{option_or}
use Rattle.std.specs.Prelude.{IsTrue, Result, Ok, Err}
use Rattle.sx_io.specs.Reading.{Answer, Line, End, Long, Fault, Broken, Ended, scan}
use Rattle.command_promise.specs.declared.status.Status.{Status}
use Rattle.command_promise.specs.declared.status.Status.TheVariants.{Done, ReadFailed, OutOfMemory}
use Rattle.command_promise.specs.Reads.{anything}
use Rattle.command_promise.specs.Told.{Output, CommandAt, Told}
use Rattle.command_promise.proofs.Laws.{told-all, told-quiet}
use Rattle.command_promise.proofs.Endings.{pick, Faultless, Unfinished, faultless, unfinished}
use Rattle.sx_asm.specs.declared.error.AsmError.{AsmError}
use Rattle.sx_asm.specs.declared.error.AsmError.TheVariants as error
use Rattle.command_asm.specs.Assembling.{Gathered, Whole, broken_at, with_line, asm_lines, most_bytes, gather, judged, code_at, asm_fault_output, told_code, asm_input, asm_all, AsmPromise}
use Rattle.sx_asm.specs.Assembled.{assembled}
use Rattle.command_text.proofs.Ends.{came, faults_of}

-- ---- statuses

refused_not_four : (e : AsmError) → (asm_fault_output e).status ≡ ReadFailed → ⊥
refused_not_four (error.Fault rule number) e = cc e
refused_not_four error.OutOfMemory e = cc e

told_not_four : (at : ℕ) (r : Result (List ℕ) AsmError) → (told_code at r).status ≡ ReadFailed → ⊥
told_not_four at (Ok code) e = cc e
told_not_four at (Err f) e = refused_not_four f e

whole_not_four : (at : ℕ) (g : Gathered) → (asm_input at (Whole g)).status ≡ ReadFailed → ⊥
whole_not_four at g e = told_not_four at (code_at at g) e

gather_not_four : (at number count : ℕ) (g : Gathered) (answers : List Answer) → Faultless answers
    → (asm_input at (gather number count g answers)).status ≡ ReadFailed → ⊥
gather_not_four at number count g [] u e = whole_not_four at g e
gather_not_four at number count g (End ∷ more) u e = whole_not_four at g e
gather_not_four at number count g (Long ∷ more) u e = whole_not_four at (broken_at number g) e
gather_not_four at number count g (Fault ∷ more) u e = u
gather_not_four at number count g (Line line ∷ more) u e =
    pick (nat_lt most_bytes (count + (length line + 1))) (Whole (broken_at number g)) _ (λ i. (asm_input at i).status ≡ ReadFailed → ⊥)
    (whole_not_four at (broken_at number g)) (gather_not_four at (number + 1) (count + (length line + 1)) (with_line number line g) more u) e

-- answers without a read that failed don't give status 4
asm_not_four : (at : ℕ) (answers : List Answer) → Faultless answers → (asm_all at answers).status ≡ ReadFailed → ⊥
asm_not_four at answers u e = gather_not_four at 1 0 _ answers u e

-- ---- status 0

either_not_zero : (at number : ℕ) (bad : Option ℕ) (r : Result (List ℕ) AsmError)
    → (told_code at (judged (option_or bad (Some number)) r)).status ≡ Done → ⊥
either_not_zero at number None r e = cc e
either_not_zero at number (Some n) r e = cc e

broken_not_zero : (at number : ℕ) (g : Gathered) → (asm_input at (Whole (broken_at number g))).status ≡ Done → ⊥
broken_not_zero at number g e = either_not_zero at number g.bad (assembled at g.text) e

gather_not_zero : (at number count : ℕ) (g : Gathered) (answers : List Answer) → Unfinished answers
    → (asm_input at (gather number count g answers)).status ≡ Done → ⊥
gather_not_zero at number count g [] u e = u
gather_not_zero at number count g (End ∷ more) u e = u
gather_not_zero at number count g (Long ∷ more) u e = broken_not_zero at number g e
gather_not_zero at number count g (Fault ∷ more) u e = cc e
gather_not_zero at number count g (Line line ∷ more) u e =
    pick (nat_lt most_bytes (count + (length line + 1))) (Whole (broken_at number g)) _ (λ i. (asm_input at i).status ≡ Done → ⊥)
    (broken_not_zero at number g) (gather_not_zero at (number + 1) (count + (length line + 1)) (with_line number line g) more u) e

-- answers that no end of the input ends don't give status 0
asm_not_zero : (at : ℕ) (answers : List Answer) → Unfinished answers → (asm_all at answers).status ≡ Done → ⊥
asm_not_zero at answers u e = gather_not_zero at 1 0 _ answers u e

-- ---- the promise

-- what was told of an input of which nothing failed
abbrev Quiet : Bool → CommandAt → CommandAt → Status → Output → Type 0
Quiet to_tell m0 m1 status o =
    (status ≡ OutOfMemory) ⊎ ((status ≡ o.status) × (IsTrue to_tell → m1.sink.written ≡ m0.sink.written ++ o.text))

exactly : (to_tell : Bool) (m0 m1 : CommandAt) (status : Status) (o : Output) → Quiet to_tell m0 m1 status o
    → (status ≡ OutOfMemory) ⊎ (status ≡ o.status)
exactly to_tell m0 m1 status o (inl six) = inl six
exactly to_tell m0 m1 status o (inr all) = inr all.0

pub asm_promise : {tells to_tell : Bool} {m0 m1 : CommandAt} {status : Status} (at : ℕ)
    → Told tells to_tell asm_lines m0 m1 status (asm_all at) anything → AsmPromise at tells to_tell m0 m1 status
asm_promise {tells} {to_tell} {m0} {m1} {status} at told =
    let o = asm_all at (scan asm_lines Ended [] m0.source.rest) in record {
      told = told;
      faults = faults_of (λ bytes e. asm_not_four at (scan asm_lines Ended [] bytes) (faultless asm_lines [] bytes) e) told;
      read_all = λ zero.
          told-all told (λ five. cc (zero, five)) (λ six. cc (zero, six))
          (λ bytes e. asm_not_zero at (scan asm_lines Broken [] bytes) (unfinished asm_lines [] bytes) (sym e ∙ zero));
      complete = λ t zero quiet. came to_tell m0 m1 status o (told-quiet told t quiet.0 quiet.1) zero;
      exact = λ t quiet. exactly to_tell m0 m1 status o (told-quiet told t quiet.0 quiet.1);
    }
