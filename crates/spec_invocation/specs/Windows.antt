-- The caller's windows, which a module reads and writes byte by byte.
use Rattle.std.specs.Prelude.{ℕ, zero, suc, ◌+◌, ◌%◌, ◌/◌, Bool, ◌||◌, if◌then◌else◌, List, [], ◌∷◌}
use Rattle.std.specs.Prelude.{slice_index, slice_set, Option, Some, None, Result, Ok, Err}
use Rattle.sx_rules.specs.declared.access.Access.TheVariants.{Read, Write}
use Rattle.sx_rules.specs.declared.access.Violation.{Violation}
use Rattle.sx_rules.specs.declared.access.Violation.TheVariants as bad
use Rattle.sx_rules.specs.Access.{may}
use Rattle.sx_bus.specs.declared.devices.Window.{Window}
use Rattle.sx_bus.specs.Devices.{device_at}
use Rattle.spec_machine.specs.Ranges.{meets, passes_end}
use Rattle.spec_invocation.specs.Setup.{Setup}

-- how many bytes the in-window has
abbrev pub in_window_size : ℕ
in_window_size = 40

-- how many bytes the out-window has
abbrev pub out_window_size : ℕ
out_window_size = 384

-- a window passes the end of memory or meets the module's private section
abbrev pub is_bad_window : Setup → ℕ → ℕ → Bool
is_bad_window s at n =
    passes_end at n || meets at n s.section.layout.priv_from s.section.layout.priv_to

-- a word's two bytes, the low one first
abbrev pub two : ℕ → List ℕ
two v = v % 256 ∷ v / 256 ∷ []

-- no byte of a device's word is read or written
abbrev pub unless_device : {T : Type 0} → Option ℕ → T → Result T Violation
unless_device None x = Ok x
unless_device (Some device) x = Err bad.Device

-- one byte: the access table first, and then the devices
unfoldable pub read_byte : Setup → List Window → List ℕ → ℕ → Result ℕ Violation
read_byte s devices mem at =
    if may s.live s.section.id Read at then unless_device (device_at devices at)
    (slice_index mem at) else Err bad.Read

-- the same of a write
unfoldable pub write_byte : Setup → List Window → List ℕ → ℕ → ℕ → Result (List ℕ) Violation
write_byte s devices mem at b =
    if may s.live s.section.id Write at then unless_device (device_at devices at)
    (slice_set mem at b) else Err bad.Write

-- the rest, where the first byte was allowed
abbrev pub then_ : {A B : Type 0} → Result A Violation → (A → Result B Violation)
    → Result B Violation
then_ (Ok a) f = f a
then_ (Err v) f = Err v

-- n bytes from an address on, in rising order, or the violation at the first that is refused
unfoldable pub read_bytes : Setup → List Window → List ℕ → ℕ → ℕ → Result (List ℕ) Violation
read_bytes s devices mem at zero = Ok []
read_bytes s devices mem at (suc n) =
    then_ (read_byte s devices mem at) (λ b. then_ (read_bytes s devices mem (at + 1) n)
    (λ bs. Ok (b ∷ bs)))

-- bytes written from an address on, in rising order, or the violation at the first that is refused
unfoldable pub write_bytes : Setup → List Window → List ℕ → ℕ → List ℕ → Result (List ℕ) Violation
write_bytes s devices mem at [] = Ok mem
write_bytes s devices mem at (b ∷ bs) =
    then_ (write_byte s devices mem at b) (λ m. write_bytes s devices m (at + 1) bs)
