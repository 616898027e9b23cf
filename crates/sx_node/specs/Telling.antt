-- What a step tells, where it says whether anything is seen.
--     silent      nothing is seen
--     told      what is seen, where a step said whether that is anything
--     Tells      an attempt at a step, settled, was told so
--     IsIdle      code outside goes on
--     IsAtHome      a module runs whose next instruction passes every test but that for a device
--     IsDeepAtHome      it passes that one, too, and so do the words after it
use Rattle.std.specs.Prelude.{◌≡◌, ◌<◌, Bool, true, false, None}
use Rattle.sx_rules.specs.Access.{in_order}
use Rattle.sx_bus.specs.Devices.{device_at}
use Rattle.spec_machine.specs.declared.kinds.Event.TheVariants.{Quiet}
use Rattle.spec_machine.specs.declared.kinds.Seen.{Seen}
use Rattle.spec_machine.specs.State.{State}
use Rattle.spec_machine.specs.Run.{untouched, Outcome}
use Rattle.spec_machine.specs.Step.{settled_step, own_of, pc_of, word_outside}
use Rattle.sx_executor.specs.Occupancy.{IsAhead}

-- nothing is seen
abbrev pub silent : Seen
silent = record { touch = untouched; event = Quiet }

-- what is seen: this, where the step said that anything is
abbrev pub told : Bool → Seen → Seen
told true seen = seen
told false seen = silent

-- A step of a node `s` that attempted this is settled as `t`. It said whether anything is seen, and
-- left that.
abbrev pub Tells : State → Outcome → Bool → Seen → State → Type 0
Tells s outcome is_seen seen t = (t ≡ (settled_step s outcome).state)
    × (told is_seen seen ≡ (settled_step s outcome).shown)

-- No module runs, and the last instruction was of none.
pub record IsIdle (s : State) : Type 0 where
  pub runs : s.cur ≡ 0
  pub went_on : s.last ≡ 0

-- A module runs, the last instruction was its own, and PC is at a word of its public section, to
-- which it may go on.
pub record IsAtHome (s : State) : Type 0 where
  pub runs : 0 < s.cur
  pub held : own_of s ≡ s.cur
  pub went_on : s.last ≡ s.cur
  pub outside : word_outside s.sections.live (pc_of s) ≡ true
  pub ordered : in_order s.sections.live s.cur (pc_of s) ≡ true

-- The same, where no device is at PC, and the two words after it may be extension words of the
-- instruction.
pub record IsDeepAtHome (s : State) : Type 0 where
  pub home : IsAtHome s
  pub bare : device_at s.devices (pc_of s) ≡ None
  pub ahead : IsAhead s.sections.live s.devices s.cur (pc_of s)
