-- What `dis` keeps of its input while it reads.
use Rattle.std.specs.Prelude.{ℕ, ◌≡◌, ◌<◌, ◌++◌, Bool, true, false, List, length}
use Rattle.sx_io.specs.Streams.{SourceAt}
use Rattle.command_promise.specs.Reads.{Reads}
use Rattle.command_asm.specs.declared.disassembling.Code.{Code}
use Rattle.command_asm.specs.declared.disassembling.Reading.{Reading}
use Rattle.command_asm.specs.declared.disassembling.Reading.TheVariants as reading
use Rattle.command_asm.specs.Disassembling.{HexInput, Bytes, BadLine, Unread, hex_input}
use Rattle.command_asm.specs.Disassembling.{dis_lines}
use Rattle.command_asm.specs.Disassembling.{most_code}

-- what is kept of these bytes: all of them, or the sign that they are too many
abbrev pub KeptOf : (is_over : Bool) → (kept bytes : List ℕ) → Type 0
KeptOf false kept bytes = kept ≡ bytes
KeptOf true kept bytes = most_code < length bytes

-- the code's kept bytes are those of these lines
abbrev pub KeepsBytes : Code → List ℕ → Type 0
KeepsBytes code bytes = KeptOf code.is_over code.kept.items bytes

-- whatever was kept, these bytes were kept after it
abbrev pub KeepsMore : (old new : Code) → List ℕ → Type 0
KeepsMore old new bytes =
    (before : List ℕ) → KeepsBytes old before → KeepsBytes new (before ++ bytes)

-- a call read lines that write this
abbrev pub ReadsGiven : Bool → SourceAt → SourceAt → HexInput → Type 0
ReadsGiven tells s0 s1 g =
    Reads tells dis_lines s0 s1 (hex_input 1) Unread (λ answers. hex_input 1 answers ≡ g)

-- how the reading ended, and what was kept
abbrev pub CodeRead : Bool → SourceAt → SourceAt → Code → Reading → Type 0
CodeRead tells s0 s1 code reading.AtEnd =
    (bytes : List ℕ) × KeepsBytes code bytes × ReadsGiven tells s0 s1 (Bytes bytes)
CodeRead tells s0 s1 code (reading.BadLine number) = ReadsGiven tells s0 s1 (BadLine number)
CodeRead tells s0 s1 code reading.Failed = ReadsGiven tells s0 s1 Unread
