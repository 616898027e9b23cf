-- One invocation of a module, by the entry protocol (own): its steps in order, each as a
-- definition.
use Rattle.std.specs.Prelude.{◌==◌, nat_lt, Bool, true, false, ◌&&◌, ◌||◌, not, if◌then◌else◌}
use Rattle.std.specs.Prelude.{Option, Some}
use Rattle.sx_lang.specs.declared.tree.DeviceKind.{DeviceKind}
use Rattle.sx_lang.specs.declared.tree.DeviceKind.TheVariants.{Sensor}
use Rattle.sx_mean.specs.Application.{declared_kind}
use Rattle.sx_rules.specs.declared.access.Violation.TheVariants as bad
use Rattle.sx_rules.specs.Access.{in_public}
use Rattle.spec_machine.specs.Memory.{even}
use Rattle.spec_invocation.specs.Protocol.{set_key_entry, attest_entry, input_entry, sample_entry}
use Rattle.spec_invocation.specs.Protocol.{set_key_size, set_key_kind, ask_size, ask_kind}
use Rattle.spec_invocation.specs.Protocol.{event_size, event_kind, no_entry, bad_window}
use Rattle.spec_invocation.specs.Setup.{Setup, Call}
use Rattle.spec_invocation.specs.Windows.{in_window_size, out_window_size, is_bad_window}
use Rattle.spec_invocation.specs.Progress.{Progress, Invoked, Returns, Violates}
use Rattle.spec_invocation.specs.Entries.{with_received, set_key, attest, input, sample}

-- step 1: the return address without bit 0 lies in the public section
abbrev pub returns_inside : Setup → Call → Bool
returns_inside s c = in_public s.section (even c.back)

-- the module drives a sensor
abbrev pub is_sensor_driver : Option DeviceKind → Bool
is_sensor_driver (Some Sensor) = true
is_sensor_driver _ = false

-- step 2: there is no such entry
abbrev pub is_no_entry : Setup → Call → Bool
is_no_entry s c =
    nat_lt sample_entry c.entry
    || ((c.entry == sample_entry) && not (is_sensor_driver (declared_kind s.tree.decls)))

-- step 3: one of the windows is bad
abbrev pub has_bad_windows : Setup → Call → Bool
has_bad_windows s c =
    is_bad_window s c.input in_window_size || is_bad_window s c.output out_window_size

-- the four entries
unfoldable pub entered : Setup → Call → Progress → Invoked
entered s c p =
    if c.entry == set_key_entry then
    with_received s c set_key_size set_key_kind p (λ packet. set_key s packet p)
    else if c.entry == attest_entry then
    with_received s c ask_size ask_kind p (λ packet. attest s c packet p)
    else if c.entry == input_entry then
    with_received s c event_size event_kind p (λ packet. input s c packet p)
    else sample s c p

-- an invocation
unfoldable pub invoke : Setup → Call → Progress → Invoked
invoke s c p =
    if returns_inside s c then Violates bad.Illegal p
    else if is_no_entry s c then Returns no_entry p
    else if has_bad_windows s c then Returns bad_window p
    else entered s c p
