-- What the command `run` promises, of its streams at its start (m0) and at its end (m1). Of the
-- assembler nothing is said here but that the code of an `asm` line is what it gives.
use Rattle.std.specs.Prelude.{ℕ, ◌+◌, ◌≡◌, Bool, List, length, Option, Ok, All}
use Rattle.sx_io.specs.Reading.{Answer}
use Rattle.command_promise.specs.declared.status.Status.{Status}
use Rattle.command_promise.specs.declared.status.Status.TheVariants.{OutOfMemory}
use Rattle.command_promise.specs.Told.{CommandAt}
use Rattle.sx_tag.specs.Mac.{Mac}
use Rattle.sx_trace.specs.declared.items.Item.{Item}
use Rattle.sx_model.specs.Legal.{Legal, before}
use Rattle.sx_model.specs.Consequences.{TellsReader}
use Rattle.sx_model.specs.order.Legal.{LegalInOrder}
use Rattle.sx_model.specs.order.Turns.{OneAtATime}
use Rattle.sx_model.specs.order.Given.{IsGiven}
use Rattle.sx_explain.specs.Causes.{HasCauses}
use Rattle.sx_explain.specs.Finished.{EventsAreFinished}
use Rattle.sx_explain.specs.Sending.{TakenBehind}
use Rattle.sx_deploy.specs.Deployment.{Deployed, IsRead}
use Rattle.spec_run.specs.Accepted.{setting_of}
use Rattle.command_head.specs.Begun.{ReadsAs}
use Rattle.command_deploy.specs.Promise.{DeployPromise, OwnPart}
use Rattle.sx_sched.specs.Lines.{Line}
use Rattle.sx_sched.specs.Reading.{Assembler}
use Rattle.law_isolation.specs.Guarded.{GuardedRun}
use Rattle.law_forgery.specs.Forgery.{ForgedIsForgery}
use Rattle.law_forgery.specs.Named.{NamesAgree}
use Rattle.law_forgery.specs.Unseen.{RunsKeysUnseen}
use Rattle.law_connections.specs.Found.{KeysFound}
use Rattle.law_connections.specs.LinksUnseen.{LinksAreUnseen}
use Rattle.law_connections.specs.Unlinks.{HasMoved}
use Rattle.command_run.specs.Output.{items_of, run_deployed}
use Rattle.command_world.specs.Compiled.{compiled_texts}
use Rattle.command_world.specs.Schedule.{judged_line, schedule}
use Rattle.command_world.specs.Status.{schedule_status}
use Rattle.command_world.specs.Turning.{MayRunOut}

-- Whatever the schedule is, the items of its run with these images are legal up to the first that
-- is forged (`legal`), with each act in the order of its handler (`order`); a node shows one event
-- at a time (`turns`), and values are in range (`given`). At the first that is forged a tag was
-- accepted that nobody who holds its key had made (`forged`). If the images are the compiler's,
-- which they are (`made` of `DeploysWith`), the keys of connections show in nothing but tags up to
-- it (`links`), and there are settings with any other such keys (`moved`). The run is a script, in
-- which each thing that happens leaves each private section alone (`guarded`).
pub record RunsWith (assemble : Assembler) (mac : Mac) (deployment : Option (List ℕ))
    (texts : List (List ℕ)) : Type 0 where
  pub legal : (d : Deployed) → ReadsAs deployment d → (schedule : List Answer)
      → Legal d.app (before (items_of assemble mac d texts schedule))
  pub order : (d : Deployed) → ReadsAs deployment d → (schedule : List Answer)
      → LegalInOrder d.app (before (items_of assemble mac d texts schedule))
  pub turns : (d : Deployed) → ReadsAs deployment d → (schedule : List Answer)
      → OneAtATime d.app (before (items_of assemble mac d texts schedule))
  pub given : (d : Deployed) → ReadsAs deployment d → (schedule : List Answer)
      → All IsGiven (before (items_of assemble mac d texts schedule))
  pub forged : (d : Deployed) → ReadsAs deployment d → (answers : List Answer)
      → ForgedIsForgery (setting_of mac d texts) (schedule assemble d.names 1 answers).lines
  pub links : (d : Deployed) → ReadsAs deployment d → texts ≡ compiled_texts d
      → (answers : List Answer)
      → LinksAreUnseen (setting_of mac d texts) (schedule assemble d.names 1 answers).lines
  pub moved : (d : Deployed) → ReadsAs deployment d → texts ≡ compiled_texts d
      → HasMoved (setting_of mac d texts)
  pub guarded : (d : Deployed) (lines : List Line) → GuardedRun (setting_of mac d texts) lines

-- memory may run out at this line of the schedule, after these
abbrev pub run_may : Assembler → Deployed → List Answer → List ℕ → Type 0
run_may assemble d earlier text =
    MayRunOut (judged_line assemble d.names (length earlier + 1) text)

-- what is `run`'s own after the head; it is cut short only if memory runs out
abbrev pub run_part : Assembler → Mac → OwnPart
run_part assemble mac = record {
  output = run_deployed assemble mac;
  status = schedule_status assemble;
  Cut = λ status. status ≡ OutOfMemory;
  MayWant = run_may assemble;
  With = RunsWith assemble mac;
}

-- the command `run`
abbrev pub RunDeployPromise : Assembler → Mac → Bool → Bool → CommandAt → CommandAt
    → Status → Type 0
RunDeployPromise assemble mac = DeployPromise mac (run_part assemble mac)

-- What `run` promises, and beside it what a reader may take from each legal trace: that follows
-- from what is legal. So does what each reading, taking and output in it rests on (`causes`): the
-- word that is taken was sent by a handler of the module that the connection comes from, and the
-- value that is put out is the next that the handler of the module's latest event emits. From order
-- and turns it follows that an event is finished before its node shows anything else (`finished`),
-- and that what a handler emits before it sends was put out before the word is taken (`behind`). Of
-- the keys of nodes and modules a run shows nothing but tags (`keys`), so names in place of them do
-- as well (`named`). Unless a key is found by code of no deployed module, none is guessed (`found`).
pub record RunPromise (assemble : Assembler) (mac : Mac) (tells to_tell : Bool) (m0 m1 : CommandAt)
    (status : Status) : Type 0 where
  pub says : RunDeployPromise assemble mac tells to_tell m0 m1 status
  pub reader : (d : Deployed) (items : List Item) → Legal d.app items → TellsReader d.app items
  pub causes : (text : List ℕ) (d : Deployed) → IsRead text (Ok d) → (items : List Item)
      → Legal d.app items → HasCauses d.app items
  pub finished : (d : Deployed) (items : List Item) → LegalInOrder d.app items
      → OneAtATime d.app items → EventsAreFinished d.app items
  pub behind : (text : List ℕ) (d : Deployed) → IsRead text (Ok d) → (items : List Item)
      → LegalInOrder d.app items → TakenBehind d.app items
  pub keys : RunsKeysUnseen
  pub named : NamesAgree
  pub found : KeysFound
