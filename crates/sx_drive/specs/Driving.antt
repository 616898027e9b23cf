-- What the program keeps of an honest run, and what a call makes of it.
use Rattle.std.specs.Prelude.{◌≡◌, ◌⊎◌, ℕ, ◌<◌, ◌≤◌, ◌==◌, ◌||◌, Bool, false, true, List, [], ◌∷◌}
use Rattle.std.specs.Prelude.{◌++◌, flat_map, length, map, min, slice_get, Option, Some, None, IsSome}
use Rattle.std.specs.Prelude.{Result, Ok, Err}
use Rattle.std.specs.List.{position_from}
use Rattle.sx_tag.specs.Mac.{Mac}
use Rattle.sx_mean.specs.Application.{PartTree}
use Rattle.sx_mean.specs.Validity.{same_device}
use Rattle.sx_trace.specs.declared.items.Item.{Item}
use Rattle.sx_trace.specs.declared.items.Item.TheVariants.{Packet, Done}
use Rattle.sx_sched.specs.Lines.{Line}
use Rattle.sx_sched.specs.Seen.{line_of}
use Rattle.sx_deploy.specs.declared.deployment.Deployment.{Deployment}
use Rattle.sx_deploy.specs.Deployment.{Deployed}
use Rattle.sx_deploy.specs.Law.{IsSoundDeployment}
use Rattle.sx_deploy.specs.SeenDeployment.{deployed_as}
use Rattle.spec_run.specs.Setting.{Setting}
use Rattle.spec_run.specs.Law.{IsSoundSetting}
use Rattle.sx_world.specs.Held.{Held}
use Rattle.sx_world.specs.InMemory.{world_setting}
use Rattle.sx_world.specs.Standing.{Stands}
use Rattle.sx_drive.specs.declared.said.Said.{Said as Told}
use Rattle.sx_drive.specs.declared.callee.Callee.{Callee as CodeCallee}
use Rattle.sx_drive.specs.declared.said.Drove.{Drove}
use Rattle.sx_drive.specs.declared.said.Drove.TheVariants as drove
use Rattle.sx_drive.specs.Honest.{Said, SaidLine, SaidItem, Callee, Honest, Driven, MOST_LINES}
use Rattle.sx_drive.specs.Honest.{reads, driver_of, packets_of}

-- what a value of the code says
abbrev pub said_of : Told → List Said
said_of x = SaidLine (line_of x.line) ∷ map SaidItem x.items.items

-- what values of the code say, in order
abbrev pub all_said : List Told → List Said
all_said said = flat_map said_of said

-- the program's world, the packets that wait, what the last line showed, whether a line was left
-- out, and whether memory ran out
pub record Kept : Type 0 where
  pub world : Held
  pub waiting : List ℕ
  pub shown : List Item
  pub long : Bool
  pub ran_out : Bool

-- the packets that the last line showed wait after the others
abbrev pub queued : Kept → Kept
queued k = record {
  world = k.world;
  waiting = k.waiting ++ packets_of k.shown;
  shown = k.shown;
  long = k.long;
  ran_out = k.ran_out;
}

-- with these packets waiting
abbrev pub waits : Kept → List ℕ → Kept
waits k ks = record {
  world = k.world;
  waiting = ks;
  shown = k.shown;
  long = k.long;
  ran_out = k.ran_out;
}

-- a line was left out, or a schedule has no room for one more
abbrev pub is_full : Kept → Bool
is_full k = k.long || (k.world.performed == 65536)

-- a line is left out
abbrev pub left : Kept → Kept
left k = record {
  world = k.world;
  waiting = k.waiting;
  shown = [];
  long = true;
  ran_out = k.ran_out;
}

-- With the images of this setting it is where an honest run does, and its world hasn't run out
-- of memory.
pub record Follows (mac : Mac) (deployment : Deployment) (kept : Kept) (set : Setting)
    (h : Honest) : Type 0 where
  pub setting : set ≡ world_setting mac deployment kept.world
  pub world : Stands set kept.world h.world
  pub waiting : kept.waiting ≡ h.waiting
  pub shown : kept.shown ≡ h.shown
  pub long : kept.long ≡ h.long
  pub room : h.world.lines ≤ MOST_LINES
  pub memory : kept.world.ran_out ≡ false

-- It is where some honest run of a deployment that is sound does, with images that realize their
-- modules.
pub record GoesOn (mac : Mac) (deployment : Deployment) (kept : Kept) : Type 0 where
  pub set : Setting
  pub honest : Honest
  pub follows : Follows mac deployment kept set honest
  pub deployed : IsSoundDeployment (deployed_as deployment)
  pub sound : IsSoundSetting set

-- what was said is a prefix of what is due, after what was said before
pub record SaysFront (before after due : List Said) : Type 0 where
  pub front : List Said
  pub rest : List Said
  pub added : after ≡ before ++ front
  pub prefix : front ++ rest ≡ due

-- The line that was said last is there with as many items as the world's last act gave.
pub record SaysLast (left : Held) (said : List Said) : Type 0 where
  pub earlier : List Said
  pub line : Line
  pub items : List Item
  pub parts : said ≡ earlier ++ SaidLine line ∷ map SaidItem items
  pub whole : length items ≡ left.made

-- No line was performed, and nothing was said; or all that the last one gave was said.
abbrev pub LosesNothing : Held → Held → List Said → List Said → Type 0
LosesNothing old new before after = ((new ≡ old) × (after ≡ before)) ⊎ SaysLast new after

-- It was where an honest run does, and is where this leads, and all that this says was said.
abbrev pub Did : Mac → Deployment → Kept → Kept → List Told → List Told
    → (Setting → Honest → Driven) → Type 0
Did mac deployment old new before after act =
    (set : Setting) (h : Honest) → Follows mac deployment old set h
    → Follows mac deployment new set (act set h).honest
    × (all_said after ≡ all_said before ++ (act set h).said)
    × LosesNothing old.world new.world (all_said before) (all_said after)

-- Memory ran out: a part of what this says was said, and with it all that was performed.
abbrev pub Wanted : Mac → Deployment → Kept → Kept → List Told → List Told
    → (Setting → Honest → Driven) → Type 0
Wanted mac deployment old new before after act =
    (set : Setting) (h : Honest) → Follows mac deployment old set h
    → SaysFront (all_said before) (all_said after) (act set h).said
    × LosesNothing old.world new.world (all_said before) (all_said after)

-- a call did this, or ran out of memory
abbrev pub Does : {X E : Type 0} → Mac → Deployment → Result X E → Kept → Kept → List Told
    → List Told → (Setting → Honest → Driven) → Type 0
Does mac deployment (Ok x) old new before after act = Did mac deployment old new before after act
Does mac deployment (Err e) old new before after act = Wanted mac deployment old new before after act

-- how far a run came
abbrev pub drove_of : Bool → Drove
drove_of false = drove.Done
drove_of true = drove.Long

-- a reading of this sensor with this value
abbrev pub reading : ℕ → ℕ → Setting → Honest → Driven
reading d v set = reads set (record { device = d; value = v })

-- the device is a sensor that a module drives
pub record IsDrivenSensor (d : Deployed) (device : ℕ) : Type 0 where
  pub there : device < length d.names.devices
  pub sensor : slice_get d.names.sensors device ≡ Some true
  pub driven : IsSome (driver_of d.app device)

-- the module is one of the deployment's, and so is its node
pub record IsCallee (d : Deployed) (x : Callee) : Type 0 where
  pub part : x.part < length d.names.modules
  pub node : x.node < length d.names.nodes

-- the index of the module that drives a device
abbrev pub driver_at : List PartTree → ℕ → Option ℕ
driver_at parts d = position_from (λ (q : PartTree). same_device (Some d) q.device) 0 parts

-- the packet that an item shows
abbrev pub packet_in : Item → Option ℕ
packet_in (Packet k len) = Some k
packet_in _ = None

-- how many packets an item says that a call made
abbrev pub pieces_in : Item → Option ℕ
pieces_in (Done m status k) = Some (min k 16)
pieces_in _ = None

-- the callee as plain data
abbrev pub callee_of : CodeCallee → Callee
callee_of x = record { part = x.part; node = x.node }
