-- What follows for `dis` from what it wrote and read.
use Rattle.std.proofs.Common.{◌≡◌, ◌∙◌, ◌⊎◌, inl, inr, ℕ, ◌+◌, Bool, List, [], ◌∷◌, ◌++◌, length, refl, sym, ap, Option, Some, None}
use Rattle.sx_io.specs.Streams.{SourceAt, SinkAt}
use Rattle.sx_io.specs.Reading.{Answer, Line, End, Long, Fault, Ended, Broken, scan}
use Rattle.std.specs.Prelude.{IsTrue}
use Rattle.command_promise.specs.declared.status.Status.{Status}
use Rattle.command_promise.specs.declared.status.Status.TheVariants.{Done, ReadFailed, OutOfMemory}
use Rattle.command_promise.specs.Reads.{anything}
use Rattle.command_promise.specs.Told.{CommandEnds, CommandAt, Output, Told, command_at}
use Rattle.command_promise.proofs.Laws.{told-all, told-quiet, told-reads}
use Rattle.command_promise.proofs.Endings.{pick, Faultless, Unfinished, faultless, unfinished}
use Rattle.command_asm.specs.Disassembling.{HexInput, Bytes, BadLine, Unread, in_front, on_line, hex_input, line_bytes, is_listed, unlisted, dis_lines, dis_bytes, dis_given, dis_all, DisPromise}
use Rattle.command_asm.specs.Kept.{ReadsGiven}
use Rattle.command_text.proofs.Ends.{faults_of}

abbrev IsUnread : HexInput → Type 0
IsUnread (Bytes bytes) = ⊥
IsUnread (BadLine number) = ⊥
IsUnread Unread = Unit {0}

abbrev IsBytes : HexInput → Type 0
IsBytes (Bytes bytes) = Unit {0}
IsBytes (BadLine number) = ⊥
IsBytes Unread = ⊥

unread_in_front : (bytes : List ℕ) (g : HexInput) → IsUnread (in_front bytes g) → IsUnread g
unread_in_front bytes (Bytes more) h = h
unread_in_front bytes (BadLine number) h = h
unread_in_front bytes Unread h = h

bytes_in_front : (bytes : List ℕ) (g : HexInput) → IsBytes (in_front bytes g) → IsBytes g
bytes_in_front bytes (Bytes more) h = h
bytes_in_front bytes (BadLine number) h = h
bytes_in_front bytes Unread h = h

unread_line : (number : ℕ) (o : Option (List ℕ)) (g : HexInput) → IsUnread (on_line number o g)
    → IsUnread g
unread_line number None g h = absurd h
unread_line number (Some bytes) g h = unread_in_front bytes g h

bytes_line : (number : ℕ) (o : Option (List ℕ)) (g : HexInput) → IsBytes (on_line number o g)
    → IsBytes g
bytes_line number None g h = absurd h
bytes_line number (Some bytes) g h = bytes_in_front bytes g h

-- answers without a read that failed are read
faultless_read : (number : ℕ) (answers : List Answer) → Faultless answers
    → IsUnread (hex_input number answers) → ⊥
faultless_read number [] u h = h
faultless_read number (End ∷ more) u h = h
faultless_read number (Long ∷ more) u h = h
faultless_read number (Fault ∷ more) u h = u
faultless_read number (Line text ∷ more) u h =
    faultless_read (number + 1) more u
    (unread_line number (line_bytes number text) (hex_input (number + 1) more) h)

-- answers that no end of the input ends write no bytes
unfinished_none : (number : ℕ) (answers : List Answer) → Unfinished answers
    → IsBytes (hex_input number answers) → ⊥
unfinished_none number [] u h = u
unfinished_none number (End ∷ more) u h = u
unfinished_none number (Long ∷ more) u h = h
unfinished_none number (Fault ∷ more) u h = h
unfinished_none number (Line text ∷ more) u h =
    unfinished_none (number + 1) more u
    (bytes_line number (line_bytes number text) (hex_input (number + 1) more) h)

bytes_not_four : (at : ℕ) (bytes : List ℕ) → (dis_bytes at bytes).status ≡ ReadFailed → ⊥
bytes_not_four at bytes e =
    pick (is_listed at (length bytes)) _ unlisted (λ o. o.status ≡ ReadFailed → ⊥)
    (λ x. cc x) (λ x. cc x) e

four_unread : (at : ℕ) (g : HexInput) → (dis_given at g).status ≡ ReadFailed → IsUnread g
four_unread at (Bytes bytes) e = absurd (bytes_not_four at bytes e)
four_unread at (BadLine number) e = absurd (cc e)
four_unread at Unread e = tt

zero_bytes : (at : ℕ) (g : HexInput) → (dis_given at g).status ≡ Done → IsBytes g
zero_bytes at (Bytes bytes) e = tt
zero_bytes at (BadLine number) e = absurd (cc e)
zero_bytes at Unread e = absurd (cc e)

never_four : (at : ℕ) (bytes : List ℕ) → (dis_all at (scan dis_lines Ended [] bytes)).status ≡ ReadFailed
    → ⊥
never_four at bytes e =
    let answers = scan dis_lines Ended [] bytes in
    faultless_read 1 answers (faultless dis_lines [] bytes) (four_unread at (hex_input 1 answers) e)

never_zero : (at : ℕ) (bytes : List ℕ) → (dis_all at (scan dis_lines Broken [] bytes)).status ≡ Done
    → ⊥
never_zero at bytes e =
    let answers = scan dis_lines Broken [] bytes in
    unfinished_none 1 answers (unfinished dis_lines [] bytes) (zero_bytes at (hex_input 1 answers) e)

-- the lines were read, and what they write was told
pub told_given : {tells to_tell : Bool} {s0 s1 : SourceAt} {k0 k1 : SinkAt} {status : Status}
    (at : ℕ) (g : HexInput) → ReadsGiven tells s0 s1 g → CommandEnds to_tell k0 k1 status (dis_given at g)
    → Told tells to_tell dis_lines (command_at s0 k0) (command_at s1 k1) status (dis_all at) anything
told_given {tells} {to_tell} {s0} {s1} {k0} {k1} {status} at g r w =
    told-reads (dis_given at) (dis_given at g) refl r (λ answers q. (ap (dis_given at) q, tt)) w

-- where nothing failed, and memory never runs out, all that is defined was written
ended : (to_tell : Bool) (m0 m1 : CommandAt) (status : Status) (o : Output) → (status ≡ OutOfMemory → ⊥)
    → (status ≡ OutOfMemory) ⊎ ((status ≡ o.status) × (IsTrue to_tell → m1.sink.written ≡ m0.sink.written ++ o.text))
    → (status ≡ o.status) × (IsTrue to_tell → m1.sink.written ≡ m0.sink.written ++ o.text)
ended to_tell m0 m1 status o never (inl six) = absurd (never six)
ended to_tell m0 m1 status o never (inr all) = all

pub dis_promise : {tells to_tell : Bool} {m0 m1 : CommandAt} {status : Status} (at : ℕ)
    → Told tells to_tell dis_lines m0 m1 status (dis_all at) anything → (status ≡ OutOfMemory → ⊥)
    → DisPromise at tells to_tell m0 m1 status
dis_promise {tells} {to_tell} {m0} {m1} {status} at told never = record {
  told = told;
  memory = never;
  faults = faults_of (never_four at) told;
  read_all = λ zero.
      told-all told (λ five. cc (zero, five)) (λ six. cc (zero, six))
      (λ bytes e. never_zero at bytes (sym e ∙ zero));
  complete = λ t good quiet.
      let o = dis_all at (scan dis_lines Ended [] m0.source.rest) in
      ((ended to_tell m0 m1 status o never (told-quiet told t quiet.0 quiet.1)).0 ∙ good, (ended to_tell m0 m1 status o never (told-quiet told t quiet.0 quiet.1)).1);
  exact = λ t quiet.
      let o = dis_all at (scan dis_lines Ended [] m0.source.rest) in
      (ended to_tell m0 m1 status o never (told-quiet told t quiet.0 quiet.1)).0;
}
