-- What the program promises: what its command does, of its streams at its start (m0) and at its end
-- (m1).
use Rattle.std.specs.Prelude.{ℕ, ◌≡◌, Bool, List, Option, Some, None}
use Rattle.command_promise.specs.declared.status.Status.{Status}
use Rattle.command_promise.specs.declared.status.Status.TheVariants.{Misused, OutOfMemory}
use Rattle.command_promise.specs.Told.{CommandEnds, CommandAt}
use Rattle.sx_asm.specs.Assembled.{assembled}
use Rattle.sx_tag.specs.Mac.{Mac}
use Rattle.sx_top.specs.declared.words.Command.{Command}
use Rattle.sx_top.specs.declared.words.Command.TheVariants.{Run, Check, Explain, Snap, Gen, Asm}
use Rattle.sx_top.specs.declared.words.Command.TheVariants.{Batch, Dis, Drive, Holds, Lines, Watch}
use Rattle.sx_top.specs.declared.words.Command.TheVariants.{Describe}
use Rattle.command_asm.specs.Assembling.{AsmPromise}
use Rattle.sx_top.specs.Commands.{command_of}
use Rattle.command_asm.specs.Disassembling.{DisPromise}
use Rattle.command_text.specs.Refusals.{misuse_output}
use Rattle.command_run.specs.Promise.{RunPromise}
use Rattle.command_run.specs.Tells.{LinesPromise}
use Rattle.command_batch.specs.Promise.{BatchPromise}
use Rattle.command_gen.specs.Promise.{GenPromise}
use Rattle.command_check.specs.Output.{CheckPromise}
use Rattle.command_describe.specs.Output.{DescribePromise}
use Rattle.command_explain.specs.Promise.{ExplainPromise}
use Rattle.command_drive.specs.Promise.{DrivePromise}
use Rattle.command_snap.specs.Promise.{SnapPromise}
use Rattle.command_watch.specs.Promise.{WatchPromise}
use Rattle.command_holds.specs.Promise.{HoldsPromise}

-- Words that are no command: one line says so, without memory, and nothing is read.
pub record MisusePromise (to_tell : Bool) (m0 m1 : CommandAt) (status : Status) : Type 0 where
  pub ends : CommandEnds to_tell m0.sink m1.sink status misuse_output
  pub unread : m1.source ≡ m0.source
  pub memory : status ≡ OutOfMemory → ⊥

-- The command `gen` for n samples. Nothing is read.
pub record GenReadsNothing (mac : Mac) (n : ℕ) (to_tell : Bool) (m0 m1 : CommandAt)
    (status : Status) : Type 0 where
  pub told : GenPromise mac n to_tell m0.sink m1.sink status
  pub unread : m1.source ≡ m0.source

-- what a command promises
abbrev pub CommandPromise : Mac → Option Command → Bool → Bool → CommandAt → CommandAt
    → Status → Type 0
CommandPromise mac None tells to_tell m0 m1 status = MisusePromise to_tell m0 m1 status
CommandPromise mac (Some Run) tells to_tell m0 m1 status =
    RunPromise assembled mac tells to_tell m0 m1 status
CommandPromise mac (Some Check) tells to_tell m0 m1 status = CheckPromise tells to_tell m0 m1 status
CommandPromise mac (Some Explain) tells to_tell m0 m1 status = ExplainPromise tells to_tell m0 m1 status
CommandPromise mac (Some Watch) tells to_tell m0 m1 status = WatchPromise tells to_tell m0 m1 status
CommandPromise mac (Some Drive) tells to_tell m0 m1 status = DrivePromise mac tells to_tell m0 m1 status
CommandPromise mac (Some Snap) tells to_tell m0 m1 status = SnapPromise mac tells to_tell m0 m1 status
CommandPromise mac (Some Holds) tells to_tell m0 m1 status = HoldsPromise tells to_tell m0 m1 status
CommandPromise mac (Some (Gen n)) tells to_tell m0 m1 status = GenReadsNothing mac n to_tell m0 m1 status
CommandPromise mac (Some (Asm at)) tells to_tell m0 m1 status = AsmPromise at tells to_tell m0 m1 status
CommandPromise mac (Some (Dis at)) tells to_tell m0 m1 status = DisPromise at tells to_tell m0 m1 status
CommandPromise mac (Some Lines) tells to_tell m0 m1 status =
    LinesPromise assembled mac tells to_tell m0 m1 status
CommandPromise mac (Some Describe) tells to_tell m0 m1 status = DescribePromise tells to_tell m0 m1 status
CommandPromise mac (Some Batch) tells to_tell m0 m1 status =
    BatchPromise assembled mac tells to_tell m0 m1 status

-- The program: it does the command that the words name. Status 2 comes for other words alone.
pub record ProgramPromise (mac : Mac) (words : List (List ℕ)) (tells to_tell : Bool)
    (m0 m1 : CommandAt)
    (status : Status) : Type 0 where
  pub told : CommandPromise mac (command_of words) tells to_tell m0 m1 status
  pub usage : status ≡ Misused → command_of words ≡ None
