-- What the command `gen` writes: the images and, of the run of the workload of sx_bulk, counts.
use Rattle.std.specs.Prelude.{ℕ, zero, suc, ◌+◌, ◌≡◌, ◌⊎◌, Bool, List, [], ◌∷◌, Result, Ok, Err}
use Rattle.sx_asm.specs.Assembled.{assembled}
use Rattle.sx_io.specs.Counts as count
use Rattle.sx_io.specs.Reading.{Answer, Line, End}
use Rattle.sx_io.specs.Streams.{SinkAt}
use Rattle.command_promise.specs.declared.status.Status.{Status}
use Rattle.command_promise.specs.declared.status.Status.TheVariants.{Done, WriteFailed, OutOfMemory}
use Rattle.command_promise.specs.Told.{Output, CommandEnds, behind, unread_output}
use Rattle.sx_tag.specs.Mac.{Mac}
use Rattle.sx_entries.specs.declared.fault.DeployFault.{DeployFault}
use Rattle.sx_trace.specs.Names.{NameLists}
use Rattle.sx_deploy.specs.Deployment.{Deployed, IsRead}
use Rattle.spec_run.specs.Setting.{Setting}
use Rattle.spec_run.specs.State.{Acted, switched_on}
use Rattle.spec_run.specs.Accepted.{AreImages, setting_of}
use Rattle.spec_run.specs.Run.{run}
use Rattle.sx_bulk.specs.Bulk as bulk
use Rattle.command_head.specs.Meanings.{Meaning, IsMeaning}
use Rattle.command_head.specs.Refused.{fault_output}
use Rattle.command_gen.specs.Counts.{counts, summary}
use Rattle.command_world.specs.Broken.{broken_output}
use Rattle.command_world.specs.Compiled.{compiled_texts}
use Rattle.command_world.specs.Images.{images_text}
use Rattle.command_world.specs.Schedule.{Stop, AtEnd, Breaks, schedule}
use Rattle.command_world.specs.Schedule as sched
use Rattle.command_world.specs.Status.{schedule_status}
use Rattle.command_deploy.specs.Output.{found_status}

-- the answers of this many of the workload's lines, from the i-th on, and the end after them
abbrev pub answers_from : ℕ → ℕ → List Answer
answers_from zero i = End ∷ []
answers_from (suc more) i = Line (bulk.line i) ∷ answers_from more (i + 1)

-- the workload that carries n samples, as the lines of an input
unfoldable pub workload : ℕ → List Answer
workload n = answers_from (bulk.lines n) 0

-- what is written of a run that came to the end of its lines, or stopped at one that breaks a rule
abbrev pub told_at : ℕ → Acted → Stop → Output
told_at n a AtEnd =
    record { text = summary (bulk.lines n) (counts a.items) a.world.steps; status = Done }
told_at n a sched.Unread = unread_output
told_at n a (Breaks rule number) = broken_output rule number

-- the workload's run where all is switched on
unfoldable pub gen_run : ℕ → NameLists → Setting → Output
gen_run n names set =
    let x = schedule assembled names 1 (workload n) in
    told_at n (run set (switched_on set) x.lines) x.stop

-- the images, and what is written of the run
abbrev pub gen_deployed : Mac → List (List ℕ) → ℕ → Deployed → Output
gen_deployed mac texts n d =
    behind (images_text d.names.modules texts) (gen_run n d.names (setting_of mac d texts))

-- what `gen` writes of its deployment
abbrev pub gen_found : Mac → List (List ℕ) → ℕ → Result Deployed DeployFault → Output
gen_found mac texts n (Ok d) = gen_deployed mac texts n d
gen_found mac texts n (Err f) = fault_output f

-- the command `gen`
abbrev pub gen_all : Mac → Meaning → List (List ℕ) → ℕ → Output
gen_all mac meaning texts n = gen_found mac texts n (meaning bulk.head)

-- memory ran out before the images were made, and nothing was written
pub record GenStarved (k0 k1 : SinkAt) (status : Status) : Type 0 where
  pub six : status ≡ OutOfMemory
  pub same : k1 ≡ k0

-- there are images that realize the modules and follow from the deployment alone, and with them
-- what is defined was written
pub record GenWith (mac : Mac) (n : ℕ) (to_tell : Bool) (k0 k1 : SinkAt)
    (status : Status) : Type 0 where
  pub texts : List (List ℕ)
  pub realize : (d : Deployed) → IsRead bulk.head (Ok d) → AreImages mac d texts
  pub made : (d : Deployed) → IsRead bulk.head (Ok d) → texts ≡ compiled_texts d
  pub ends : (meaning : Meaning) → IsMeaning meaning
      → CommandEnds to_tell k0 k1 status (gen_all mac meaning texts n)

-- the command `gen` wrote what is defined, or memory ran out before the images were made
abbrev pub GenWrote : Mac → ℕ → Bool → SinkAt → SinkAt → Status → Type 0
GenWrote mac n to_tell k0 k1 status =
    GenStarved k0 k1 status ⊎ GenWith mac n to_tell k0 k1 status

-- The command `gen` for n samples, of its sink at the start (k0) and at the end (k1). Whatever the
-- images are, its status is that of the workload if no write failed and memory sufficed, and
-- that is 0. Status 5 comes exactly of one write that failed.
pub record GenPromise (mac : Mac) (n : ℕ) (to_tell : Bool) (k0 k1 : SinkAt)
    (status : Status) : Type 0 where
  pub says : GenWrote mac n to_tell k0 k1 status
  pub exact : (meaning : Meaning) → IsMeaning meaning → (count.Rose k0.faults k1.faults → ⊥)
      → (status ≡ OutOfMemory)
      ⊎ (status ≡ found_status (schedule_status assembled) (meaning bulk.head) (workload n))
  pub good : (count.Rose k0.faults k1.faults → ⊥) → (status ≡ OutOfMemory) ⊎ (status ≡ Done)
  pub write : status ≡ WriteFailed → k1.faults ≡ count.next_count k0.faults
  pub no_write : (status ≡ WriteFailed → ⊥) → k1.faults ≡ k0.faults
