-- What the code that reads a text says of it. Nobody has to believe this file.
use Rattle.std.specs.Prelude.{◌≡◌, Bool, Result, Ok, Err, string_bytes}
use Rattle.sx_io.specs.Streams.{SourceAt}
use Rattle.command_promise.specs.Reads.{Reads, anything}
use Rattle.command_asm.specs.declared.assembling.GatheredText.{GatheredText}
use Rattle.command_asm.specs.declared.assembling.GatherFault.{GatherFault}
use Rattle.command_asm.specs.declared.assembling.GatherFault.TheVariants as fault
use Rattle.command_asm.specs.Assembling.{Gathered, Whole, Unread, asm_lines, input}

-- a text by its bytes
abbrev pub gathered_bytes : GatheredText → Gathered
gathered_bytes g = record { text = string_bytes g.text; bad = g.bad }

-- what a call took of the input, and answered: all that is to be judged, that a read failed, or
-- that memory ran out
abbrev pub Gathers : Bool → SourceAt → SourceAt → Result GatheredText GatherFault → Type 0
Gathers tells s0 s1 (Ok g) =
    Reads tells asm_lines s0 s1 input Unread (λ answers. input answers ≡ Whole (gathered_bytes g))
Gathers tells s0 s1 (Err fault.Failed) =
    Reads tells asm_lines s0 s1 input Unread (λ answers. input answers ≡ Unread)
Gathers tells s0 s1 (Err fault.OutOfMemory) = Reads tells asm_lines s0 s1 input Unread anything
