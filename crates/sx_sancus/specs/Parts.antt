-- Parts of the plans of module instructions, on a machine.
use Rattle.std.specs.Prelude.{◌≡◌, ℕ, ◌-◌, ◌||◌, ◌&&◌, nat_le, not, Bool, false, if◌then◌else◌}
use Rattle.std.specs.Prelude.{List, slice_index}
use Rattle.std.specs.List.{list_any}
use Rattle.sx_bus.specs.declared.devices.Window.{Window}
use Rattle.sx_bus.specs.Devices.{places_of}
use Rattle.sx_rules.specs.declared.access.Access.TheVariants.{Read}
use Rattle.sx_rules.specs.declared.access.Violation.TheVariants as bad
use Rattle.sx_rules.specs.declared.section.Layout.{Layout}
use Rattle.sx_rules.specs.declared.section.Section.{Section}
use Rattle.sx_rules.specs.Access.{holder, section_of}
use Rattle.sx_rules.specs.Admission.{admitted}
use Rattle.sx_tag.specs.Mac.{Mac}
use Rattle.sx_tag.specs.Keys.{section_key}
use Rattle.spec_machine.specs.Protect.{layout_in, provider_in, identity_at, wiped}
use Rattle.spec_machine.specs.Memory.{bytes_from}
use Rattle.spec_machine.specs.Ranges.{passes_end, meets_device}
use Rattle.spec_machine.specs.Given.{Given, untouched_with}
use Rattle.spec_machine.specs.ModuleRows.{answer, attested, buffers, own_key}
use Rattle.spec_machine.specs.Run.{Outcome, Violated, exec}
use Rattle.sx_executor.specs.declared.buffer.Buffer.{Buffer}
use Rattle.sx_executor.specs.Machine.{Machine, reaches}

-- the buffer is as two registers name it: its place, and how many bytes it has
abbrev pub IsNamedBuffer : List ℕ → ℕ → ℕ → Buffer → Type 0
IsNamedBuffer regs at n b = (b.at ≡ slice_index regs at) × (b.count ≡ slice_index regs n)

-- it is the 16 bytes at the place in a register
abbrev pub IsSixteenBytes : List ℕ → ℕ → Buffer → Type 0
IsSixteenBytes regs at b = (b.at ≡ slice_index regs at) × (b.count ≡ 16)

-- it is that of the key at R9, which is empty where the module's own key is used
abbrev pub IsKeyPlace : List ℕ → Buffer → Type 0
IsKeyPlace regs b = (b.at ≡ slice_index regs 9) × (b.count ≡ (if own_key regs then 0 else 16))

-- no device at one of these places meets it
abbrev pub IsOff : List ℕ → Buffer → Type 0
IsOff places b = meets_device places b.at b.count ≡ false

-- none of these devices does
abbrev pub IsApart : List Window → Buffer → Type 0
IsApart devices b = IsOff (places_of devices) b

-- the 16 bytes at an address go to the rest, once they were tested
abbrev pub given_tag : Machine → ℕ → (List ℕ → Outcome) → Outcome
given_tag m at rest =
    if not (passes_end at 16 || false) then
    (if not (meets_device (places_of m.devices) at 16 || false) then
    (if reaches m Read at 16 then rest (bytes_from m.mem at 16) else Violated bad.Read)
    else Violated bad.Device)
    else Violated bad.Range

-- the running code may read each byte of a public section
abbrev pub reads_public : Machine → Layout → Bool
reads_public m l = reaches m Read l.pub_from (l.pub_to - l.pub_from)

-- the bytes of a public section
abbrev pub public_of : Machine → Layout → List ℕ
public_of m l = bytes_from m.mem l.pub_from (l.pub_to - l.pub_from)

-- the module whose public section holds the address, attested with this tag
abbrev pub attested_by : Mac → Given → Machine → ℕ → Section → List ℕ → Outcome
attested_by mac g m at own tag =
    let other = section_of m.sections.live (holder m.sections.live at) in
    exec m.sections m.own (attested mac g own tag other) (untouched_with g m.mem)

-- the answer of an instruction that does nothing else
abbrev pub answer_outcome : Given → Machine → ℕ → Outcome
answer_outcome g m id = exec m.sections m.own (answer g id) (untouched_with g m.mem)

-- what follows the tests of all buffers that R9 to R15 name
abbrev pub tested_buffers : List ℕ → List Window → Outcome → Outcome
tested_buffers regs devices rest =
    if nat_le (slice_index regs 11) 32 && nat_le (slice_index regs 13) 32 then
    (if not (list_any (λ b. passes_end b.at b.count) (buffers regs)) then
    (if not (list_any (λ b. meets_device (places_of devices) b.at b.count) (buffers regs)) then rest
    else Violated bad.Device)
    else Violated bad.Range)
    else Violated bad.Range

-- the machine after the module that the registers name was admitted, where no rule refuses it
abbrev pub after_admission : Mac → Machine → List ℕ → Machine
after_admission mac m base =
    let l = layout_in m.regs in
    let provider = provider_in m.regs in
    let key = section_key mac base provider (identity_at m.mem l) in
    record m { mem = wiped m.mem l; sections = admitted m.sections l provider key }
