-- What the command `dis` writes: a function of its address, and of the answers that the lines of
-- its input give.
use Rattle.std.specs.Prelude.{ℕ, ◌+◌, ◌%◌, ◌≡◌, ◌==◌, ◌&&◌, nat_le, nat_lt, Bool, IsTrue}
use Rattle.std.specs.Prelude.{if◌then◌else◌, List, [], ◌∷◌, ◌++◌, length, codes}
use Rattle.std.specs.Prelude.{Option, Some, None, Result, Ok, Err}
use Rattle.hex.specs.Hex.{decode_of}
use Rattle.hex.specs.declared.error.FromHexError.{FromHexError}
use Rattle.sx_io.specs.Reading.{Answer, Line, End, Long, Fault, Ended, Limit, always, longest, scan}
use Rattle.command_promise.specs.declared.status.Status.{Status}
use Rattle.command_promise.specs.declared.status.Status.TheVariants.{Done, OutOfMemory, NoCode}
use Rattle.command_promise.specs.Reads.{anything}
use Rattle.command_promise.specs.Told.{CommandAt, Output, Told, unread_output}
use Rattle.command_text.specs.Faults.{IsFaultless, TellsFaults}
use Rattle.command_asm.specs.Listing.{listing}
use Rattle.command_text.specs.Output.{line, end_line}
use Rattle.command_text.specs.Refusals.{fault_output}

-- each line has at most 4,096 bytes before its newline
abbrev pub dis_lines : Limit
dis_lines = always longest

-- the most lines, blank ones counted
abbrev pub most_lines : ℕ
most_lines = 65536

-- the most bytes that all lines together write
abbrev pub most_code : ℕ
most_code = 8192

-- What the lines of an input write: bytes; or none, since the line with this number is the first
-- that breaks the rule of lines, or since a read failed before.
pub data HexInput : Type 0 where
  Bytes : List ℕ → HexInput
  BadLine : (number : ℕ) → HexInput
  Unread : HexInput

-- the bytes, if the text was hexadecimal
abbrev pub decoded : Result (List ℕ) FromHexError → Option (List ℕ)
decoded (Ok bytes) = Some bytes
decoded (Err e) = None

-- The bytes that the line with this number, counted from 1, writes in hexadecimal. None if it
-- breaks the rule of lines: it doesn't write whole bytes, or it is one line too many.
unfoldable pub line_bytes : ℕ → List ℕ → Option (List ℕ)
line_bytes number text = if nat_lt most_lines number then None else decoded (decode_of text)

-- these bytes come before those that are given
abbrev pub in_front : List ℕ → HexInput → HexInput
in_front bytes (Bytes more) = Bytes (bytes ++ more)
in_front bytes (BadLine number) = BadLine number
in_front bytes Unread = Unread

-- what a line and those after it write
abbrev pub on_line : ℕ → Option (List ℕ) → HexInput → HexInput
on_line number None rest = BadLine number
on_line number (Some bytes) rest = in_front bytes rest

-- what the lines from the one with this number on write
abbrev pub hex_input : ℕ → List Answer → HexInput
hex_input number [] = Bytes []
hex_input number (End ∷ more) = Bytes []
hex_input number (Long ∷ more) = BadLine number
hex_input number (Fault ∷ more) = Unread
hex_input number (Line text ∷ more) =
    on_line number (line_bytes number text) (hex_input (number + 1) more)

-- This many bytes can be listed from this address on: both are even, the bytes are few enough, and
-- none lies above 0xFFFF.
abbrev pub is_listed : ℕ → ℕ → Bool
is_listed at count =
    count % 2 == 0 && at % 2 == 0 && nat_le count most_code && nat_le (at + count) 65536

-- the line that says that the bytes cannot be listed
unfoldable pub unlisted_line : List ℕ
unlisted_line = line (codes "fault hex B2 -")

-- status 10: this line is the first that breaks the rule of lines
abbrev pub broken_line : ℕ → Output
broken_line number = fault_output (codes "fault hex B") 1 number NoCode

-- status 10: the bytes can't be listed from the address on
abbrev pub unlisted : Output
unlisted = record { text = unlisted_line; status = NoCode }

-- the listing of the bytes, if they can be listed
abbrev pub dis_bytes : ℕ → List ℕ → Output
dis_bytes at bytes = if is_listed at (length bytes)
    then record { text = listing at bytes ++ end_line; status = Done } else unlisted

-- what `dis` writes of what was read
abbrev pub dis_given : ℕ → HexInput → Output
dis_given at (Bytes bytes) = dis_bytes at bytes
dis_given at (BadLine number) = broken_line number
dis_given at Unread = unread_output

-- the command `dis`
abbrev pub dis_all : ℕ → List Answer → Output
dis_all at answers = dis_given at (hex_input 1 answers)

-- what `dis` writes for the whole of an input
abbrev pub dis_input : ℕ → List ℕ → Output
dis_input at input = dis_all at (scan dis_lines Ended [] input)

-- What the command `dis` says of its streams at its start (m0) and at its end (m1). It takes no
-- memory. Status 0 says that the input was read to its end. If no read and no write failed, an
-- input that is to be listed is listed, and the status of any input is the defined one.
pub record DisPromise (at : ℕ) (tells to_tell : Bool) (m0 m1 : CommandAt)
    (status : Status) : Type 0 where
  pub told : Told tells to_tell dis_lines m0 m1 status (dis_all at) anything
  pub memory : status ≡ OutOfMemory → ⊥
  pub faults : TellsFaults m0 m1 status
  pub read_all : status ≡ Done → IsTrue tells → m1.source.rest ≡ []
  pub complete : IsTrue tells → (dis_input at m0.source.rest).status ≡ Done → IsFaultless m0 m1
      → (status ≡ Done)
      × (IsTrue to_tell → m1.sink.written ≡ m0.sink.written ++ (dis_input at m0.source.rest).text)
  pub exact : IsTrue tells → IsFaultless m0 m1 → status ≡ (dis_input at m0.source.rest).status
