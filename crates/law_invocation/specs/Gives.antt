-- What it means that an invocation gives something: it returns with all done. The windows are in
-- low memory, where nothing refuses them.
use Rattle.std.specs.Prelude.{◌≡◌, ℕ, ◌<◌, ◌≤◌, List, [], Option, Some, None}
use Rattle.sx_rules.specs.declared.section.Section.{Section}
use Rattle.sx_rules.specs.Access.{Lives}
use Rattle.sx_bus.specs.declared.devices.Window.{Window}
use Rattle.sx_bus.specs.Devices.{device_at}
use Rattle.spec_invocation.specs.Protocol.{all_done}
use Rattle.spec_invocation.specs.Setup.{Setup, Call}
use Rattle.spec_invocation.specs.ModuleState.{ModuleState}
use Rattle.spec_invocation.specs.Marks.{Mark}
use Rattle.spec_invocation.specs.Progress.{Progress, Returns}
use Rattle.spec_invocation.specs.Acts.{own_window}
use Rattle.spec_invocation.specs.Invocation.{invoke}

-- what a module is asked that is to return to address 0
abbrev pub asked : ℕ → ℕ → ℕ → Call
asked e input output = record { entry = e; input = input; output = output; back = 0 }

-- where the in-window is
abbrev pub low_input : ℕ
low_input = 0x40

-- where the out-window is
abbrev pub low_output : ℕ
low_output = 0x80

-- the end of low memory; the out-window ends there
abbrev pub low_end : ℕ
low_end = 0x0200

-- what a module is asked with its windows there
abbrev pub low_call : ℕ → Call
low_call e = asked e low_input low_output

-- no section and no device begins in low memory; the module's own section is live
pub record IsLowFree (su : Setup) (devices : List Window) : Type 0 where
  pub lives : Lives su.live su.section
  pub sections : (x : Section) → Lives su.live x → (low_end ≤ x.layout.pub_from)
      × (low_end ≤ x.layout.priv_from)
  pub free : (at : ℕ) → at < low_end → device_at devices at ≡ None

-- where an invocation begins
abbrev pub beginning : ModuleState → List ℕ → List Window → Progress
beginning st mem devices =
    record { state = st; mem = mem; devices = devices; marks = []; pieces = [] }

-- The invocation of this entry returns with all done, and with this state, these devices, marks and
-- pieces, whatever memory it leaves.
pub record InvocationGives (su : Setup) (e : ℕ) (p : Progress) (st : ModuleState)
    (devices : List Window) (marks : List Mark) (pieces : List (List ℕ)) : Type 0 where
  pub mem : List ℕ
  pub is : invoke su (low_call e) p
      ≡ Returns all_done (record {
        state = st;
        mem = mem;
        devices = devices;
        marks = marks;
        pieces = pieces;
      })

-- the index of a device, if there is one
abbrev pub index_in : Option (ℕ × Window) → Option ℕ
index_in None = None
index_in (Some d) = Some d.0

-- the index of the module's own device, if it has one
abbrev pub own_device : Setup → List Window → Option ℕ
own_device su devices = index_in (own_window su devices)
