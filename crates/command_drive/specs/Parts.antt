-- What a part of an honest run does to the program's run, and to its output. Nobody has to believe
-- this file: the promise doesn't cite it.
use Rattle.std.specs.Prelude.{ℕ, ◌+◌, ◌≡◌, ◌<◌, ◌≤◌, ◌^◌, Bool, true, false, if◌then◌else◌, List}
use Rattle.std.specs.Prelude.{[], ◌∷◌, ◌++◌, length, slice_get, Some, Result, Ok, Err, IsTrue}
use Rattle.std.specs.List.{list_any}
use Rattle.sx_io.specs.Streams.{SinkAt}
use Rattle.sx_io.specs.Reading.{Answer, Line}
use Rattle.command_promise.specs.declared.status.Status.TheVariants.{OutOfMemory}
use Rattle.command_promise.specs.Told.{CommandEnds, Output, behind}
use Rattle.command_promise.specs.Parts.{DoesPart}
use Rattle.command_promise.specs.declared.turned.Turned.{Turned}
use Rattle.command_promise.specs.declared.turned.Turned.TheVariants.{On, Stop}
use Rattle.sx_tag.specs.Mac.{Mac}
use Rattle.sx_trace.specs.Names.{NameLists}
use Rattle.sx_sched.specs.Lines as lines
use Rattle.sx_mean.specs.Validity.{same_device}
use Rattle.sx_mean.specs.declared.apps.Part.{Part}
use Rattle.sx_deploy.specs.Deployment.{Deployed}
use Rattle.sx_deploy.specs.SeenDeployment.{deployed_as}
use Rattle.sx_deploy.specs.declared.deployment.Deployment.{Deployment}
use Rattle.spec_run.specs.Setting.{Setting}
use Rattle.sx_drive.specs.declared.said.Drove.{Drove}
use Rattle.sx_drive.specs.declared.said.Drove.TheVariants.{Done, Long}
use Rattle.sx_drive.specs.Honest.{Driven, Honest, Said, SaidItem, SaidLine, each, reads}
use Rattle.sx_drive.specs.Driving.{Follows, IsDrivenSensor, Kept, drove_of}
use Rattle.command_drive.specs.declared.readings.ReadingLine.{ReadingLine}
use Rattle.command_drive.specs.declared.readings.ReadingLine.TheVariants as says
use Rattle.command_drive.specs.Output.{long_output, said_text, told_run}
use Rattle.command_text.specs.Output.{line}
use Rattle.command_drive.specs.Input.{Readings, readings_from}

-- what is written of these readings, from where a run came
abbrev pub readings_output : NameLists → Setting → Honest → Readings → Output
readings_output names set h x = told_run names (each (reads set) x.readings h) x.stop

-- what is written of the readings from the line with this number on
unfoldable pub drive_from : Deployed → Setting → Honest → ℕ → List Answer → Output
drive_from d set h number answers =
    readings_output d.names set h (readings_from d number answers)

-- a module drives a device
abbrev pub drives : ℕ → Part → Bool
drives device p = same_device (Some device) p.device

-- one of these modules drives a device
abbrev pub is_driven : List Part → ℕ → Bool
is_driven parts device = list_any (drives device) parts

-- the reading is one that an honest run can have
abbrev pub IsGiven : Deployed → ReadingLine → Type 0
IsGiven d says.Blank = Unit {0}
IsGiven d (says.Reading device value) = IsDrivenSensor d device × (value < 32768)

-- A line of an honest run with indices, lengths and values in their ranges. Its other numbers are
-- those of their types.
abbrev pub IsNamed : NameLists → lines.Line → Type 0
IsNamed n (lines.Take node at len) = (node < length n.nodes) × (1 ≤ len) × (len ≤ 384)
IsNamed n (lines.Give packet node at) = node < length n.nodes
IsNamed n (lines.Sense device value) =
    (device < length n.devices) × (slice_get n.sensors device ≡ Some true) × (value < 2 ^ 15)
IsNamed n (lines.Ask m) = m < length n.modules
IsNamed n (lines.Answer m boot packet) = m < length n.modules
IsNamed n (lines.Load m) = m < length n.modules
IsNamed n (lines.Call m entry input output) = m < length n.modules
IsNamed n _ = ⊥

-- a line is so; of an item nothing is asked
abbrev pub IsNamedSaid : NameLists → Said → Type 0
IsNamedSaid names (SaidLine line) = IsNamed names line
IsNamedSaid names (SaidItem i) = Unit {0}

-- all are so
abbrev pub AreNamed : NameLists → List Said → Type 0
AreNamed names [] = Unit {0}
AreNamed names (x ∷ said) = IsNamedSaid names x × AreNamed names said

-- what a part says, and what is written after it; what has no room ends the command
abbrev pub part_output : NameLists → Driven → (Honest → List Answer → Output) → List Answer → Output
part_output names a left more =
    behind (said_text names a.said) (if a.honest.long then long_output else left a.honest more)

-- whatever follows the part, all that it says was written; or the command ended
abbrev pub TellsPart : Bool → SinkAt → SinkAt → NameLists → Driven → Turned → Type 0
TellsPart to_tell k0 k1 names a turned =
    (left : Honest → List Answer → Output)
    → DoesPart to_tell k0 k1 (part_output names a left) turned (left a.honest)

-- all that a part says was said; or if memory ran out, a part of it
abbrev pub SaysAll : {E : Type 0} → List Said → Result Drove E → Driven → Type 0
SaysAll said (Ok drove) a = (said ≡ a.said) × (drove ≡ drove_of a.honest.long)
SaysAll said (Err e) a = (rest : List Said) × (said ++ rest ≡ a.said)

-- if memory ran out, all that was said is written
abbrev pub TellsSaid : Bool → SinkAt → SinkAt → NameLists → List Said → Turned → Type 0
TellsSaid to_tell k0 k1 names said turned = turned ≡ Stop OutOfMemory → IsTrue to_tell
    → k1.written ≡ k0.written ++ said_text names said

-- the command stopped, since a line had no room
abbrev pub StopsLong : Bool → SinkAt → SinkAt → Turned → Type 0
StopsLong to_tell k0 k1 On = ⊥
StopsLong to_tell k0 k1 (Stop status) = CommandEnds to_tell k0 k1 status long_output

-- how a command goes on after a part
abbrev pub EndsPart : {E : Type 0} → Bool → SinkAt → SinkAt → Result Drove E → Turned → Type 0
EndsPart to_tell k0 k1 (Ok Done) turned = (turned ≡ On) × (k1 ≡ k0)
EndsPart to_tell k0 k1 (Ok Long) turned = StopsLong to_tell k0 k1 turned
EndsPart to_tell k0 k1 (Err e) turned = (turned ≡ Stop OutOfMemory) × (k1 ≡ k0)

-- whichever run there was, it did this part, or the command ended
abbrev pub PlaysPart : Mac → Deployment → Bool → SinkAt → SinkAt → Kept → Kept → Turned
    → (Setting → Honest → Driven) → Type 0
PlaysPart mac d to_tell k0 k1 old new turned act =
    (set : Setting) (h : Honest) → Follows mac d old set h
    → TellsPart to_tell k0 k1 d.names (act set h) turned
    × (turned ≡ On → Follows mac d new set (act set h).honest × ((act set h).honest.long ≡ false))

-- The line with this number was judged in this run, and what its reading shows was written;
-- or the command ended.
pub record TurnsLine (mac : Mac) (d : Deployment) (to_tell : Bool) (k0 k1 : SinkAt) (new : Kept)
    (number : ℕ) (text : List ℕ) (turned : Turned) (set : Setting) (h : Honest) : Type 0 where
  pub next : Honest
  pub follows : turned ≡ On → Follows mac d new set next
  pub short : turned ≡ On → next.long ≡ false
  pub does : DoesPart to_tell k0 k1
      (λ more. drive_from (deployed_as d) set h number (Line text ∷ more)) turned
      (drive_from (deployed_as d) set next (number + 1))

-- in whichever run there was, if no line was left out of it
abbrev pub TurnsFrom : Mac → Deployment → Bool → SinkAt → SinkAt → Kept → Kept → ℕ → List ℕ
    → Turned → Type 0
TurnsFrom mac d to_tell k0 k1 old new number text turned =
    (set : Setting) (h : Honest) → Follows mac d old set h → h.long ≡ false
    → TurnsLine mac d to_tell k0 k1 new number text turned set h
