-- What the command `asm` writes, and its exit status: a function of an address and of the answers
-- that the lines of its input give.
use Rattle.std.specs.Prelude.{ℕ, ◌+◌, ◌≡◌, ◌⊎◌, ◌==◌, nat_lt, Bool, IsTrue, if◌then◌else◌, List, []}
use Rattle.std.specs.Prelude.{◌∷◌, ◌++◌, length, codes, Option, Some, None, Result, Ok, Err}
use Rattle.std.specs.Option.{option_or}
use Rattle.std.specs.Str.{is_utf8}
use Rattle.sx_io.specs.Reading.{Answer, Line, End, Long, Fault, Ended, Limit, always, longest}
use Rattle.sx_io.specs.Reading.{newline, scan}
use Rattle.command_promise.specs.declared.status.Status.{Status}
use Rattle.command_promise.specs.declared.status.Status.TheVariants.{Done, OutOfMemory, NoCode}
use Rattle.command_promise.specs.Reads.{anything}
use Rattle.command_promise.specs.Told.{Output, CommandAt, Told, unread_output}
use Rattle.sx_asm.specs.declared.error.AsmError.{AsmError}
use Rattle.sx_asm.specs.declared.error.AsmError.TheVariants as error
use Rattle.sx_asm.specs.Assembled.{assembled}
use Rattle.command_text.specs.Faults.{IsFaultless, TellsFaults}
use Rattle.command_text.specs.Ended.{CameToItsEnd}
use Rattle.command_asm.specs.Listing.{listing}
use Rattle.command_text.specs.Output.{end_line}
use Rattle.command_text.specs.Refusals.{fault_output}

-- From the answers to a text.

-- each line has at most 4,096 bytes before its newline
abbrev pub asm_lines : Limit
asm_lines = always longest

-- the most bytes of a text, with a newline for each line
abbrev pub most_bytes : ℕ
most_bytes = 262144

-- The text of the lines before the first one that breaks rule 1 by its length or by bytes that
-- aren't UTF-8, each with one newline, and that line's number, if there is one.
pub record Gathered : Type 0 where
  pub text : List ℕ
  pub bad : Option ℕ

-- no line has come yet
abbrev pub nothing : Gathered
nothing = record { text = []; bad = None }

-- the line with this number breaks rule 1, unless one before it does
abbrev pub broken_at : ℕ → Gathered → Gathered
broken_at number g = record { text = g.text; bad = option_or g.bad (Some number) }

-- the text with one more line, if it is UTF-8 and no line before it breaks rule 1
abbrev pub with_text : ℕ → List ℕ → Option ℕ → List ℕ → Gathered
with_text number text (Some bad) line = record { text = text; bad = Some bad }
with_text number text None line =
    if is_utf8 line then record { text = text ++ line ++ newline ∷ []; bad = None }
    else record { text = text; bad = Some number }

-- the line with this number after those that have come
abbrev pub with_line : ℕ → List ℕ → Gathered → Gathered
with_line number line g = with_text number g.text g.bad line

-- what was read: all that is to be judged; or a read failed before
pub data Input : Type 0 where
  Whole : Gathered → Input
  Unread : Input

-- The input from the line with this number on, where this many bytes have come. It is read on after
-- a line that isn't UTF-8, but not after a limit.
abbrev pub gather : ℕ → ℕ → Gathered → List Answer → Input
gather number count g [] = Whole g
gather number count g (End ∷ more) = Whole g
gather number count g (Long ∷ more) = Whole (broken_at number g)
gather number count g (Fault ∷ more) = Unread
gather number count g (Line line ∷ more) =
    if nat_lt most_bytes (count + (length line + 1)) then Whole (broken_at number g)
    else gather (number + 1) (count + (length line + 1)) (with_line number line g) more

-- the whole input
abbrev pub input : List Answer → Input
input answers = gather 1 0 nothing answers

-- From a text to what is written.

-- Where this line breaks rule 1, the first line that does: this one, or the one that the answer for
-- those before it names.
abbrev pub first_bad : ℕ → Result (List ℕ) AsmError → ℕ
first_bad bad (Ok code) = bad
first_bad bad (Err (error.Fault rule number)) = if rule == 1 then number else bad
first_bad bad (Err error.OutOfMemory) = bad

-- the code, or the fault of rule 1 if a line breaks it
abbrev pub judged : Option ℕ → Result (List ℕ) AsmError → Result (List ℕ) AsmError
judged None code = code
judged (Some bad) code = Err (error.Fault 1 (first_bad bad code))

-- the code of what was gathered, or the first rule that it breaks and the first line that breaks it
abbrev pub code_at : ℕ → Gathered → Result (List ℕ) AsmError
code_at at g = judged g.bad (assembled at g.text)

-- status 10: a rule is broken; no text gives the error `OutOfMemory`
abbrev pub asm_fault_output : AsmError → Output
asm_fault_output (error.Fault rule number) = fault_output (codes "fault asm A") rule number NoCode
asm_fault_output error.OutOfMemory = record { text = []; status = OutOfMemory }

-- the listing of the code, or the fault
abbrev pub told_code : ℕ → Result (List ℕ) AsmError → Output
told_code at (Ok code) = record { text = listing at code ++ end_line; status = Done }
told_code at (Err e) = asm_fault_output e

-- what `asm` writes of what was read
abbrev pub asm_input : ℕ → Input → Output
asm_input at (Whole g) = told_code at (code_at at g)
asm_input at Unread = unread_output

-- the command `asm`
abbrev pub asm_all : ℕ → List Answer → Output
asm_all at answers = asm_input at (input answers)

-- what is written for the whole input, as it was at the start
abbrev pub asm_of : ℕ → CommandAt → Output
asm_of at m0 = asm_all at (scan asm_lines Ended [] m0.source.rest)

-- What the command promises, of its streams at its start (m0) and at its end (m1). Status 0 says
-- that the input was read to its end.
pub record AsmPromise (at : ℕ) (tells to_tell : Bool) (m0 m1 : CommandAt)
    (status : Status) : Type 0 where
  pub told : Told tells to_tell asm_lines m0 m1 status (asm_all at) anything
  pub faults : TellsFaults m0 m1 status
  pub read_all : status ≡ Done → IsTrue tells → m1.source.rest ≡ []
  pub complete : IsTrue tells → (asm_of at m0).status ≡ Done → IsFaultless m0 m1
      → CameToItsEnd to_tell m0 m1 status (asm_of at m0)
  pub exact : IsTrue tells → IsFaultless m0 m1
      → (status ≡ OutOfMemory) ⊎ (status ≡ (asm_of at m0).status)
