-- What is known of sections and devices together.
--     Occupied      the devices and the sections of a node
--     IsExtension      an extension word may be at an address
--     IsAhead      extension words may be at the two words after an address
--     IsVacant      neither a section nor a device keeps any code from a word and the two after it
--     is_bare, is_vacant      a page has no byte of a section and no device, nor has the next one
--     IsVacantIndex      what is kept for each page
--     has_deep, has_deep_text, has_deep_data      a byte lies in the deep part of a home, in its text, or in its data
--     IsDeep, IsDeepData      what holds of the places of the two
--     KeepsDeep      beside these sections and devices all their places are such
use Rattle.std.specs.Prelude.{◌≡◌, ℕ, ◌+◌, ◌==◌, ◌<◌, nat_lt, Bool, true, false, ◌&&◌, not, List}
use Rattle.std.specs.Prelude.{None, slice_index_or}
use Rattle.sx_rules.specs.declared.section.Section.{Section}
use Rattle.sx_rules.specs.Access.{Sections, extends}
use Rattle.sx_rules.specs.Pages.{is_open}
use Rattle.sx_bus.specs.declared.devices.Window.{Window}
use Rattle.sx_bus.specs.Devices.{device_at}
use Rattle.sx_bus.specs.Windows.{has_place}
use Rattle.spec_machine.specs.Memory.{even}
use Rattle.spec_machine.specs.Ranges.{meets_device}
use Rattle.spec_machine.specs.Registers.{onward}
use Rattle.spec_machine.specs.Run.{device_of}
use Rattle.sx_executor.specs.declared.home.Deep.{Deep}
use Rattle.sx_executor.specs.Gaps.{IsApart}
use Rattle.sx_executor.specs.Homes.{within, IsCode, IsData}
use Rattle.sx_executor.specs.Readable.{IsReadable}

-- the devices of a node and its sections
pub record Occupied : Type 0 where
  pub devices : List Window
  pub sections : Sections

-- an extension word of code of the module `own` may be at the address, where no device is
pub record IsExtension (live : List Section) (devices : List Window) (own at : ℕ) : Type 0 where
  pub extended : (extends live own (even at) && extends live own (even at + 1)) ≡ true
  pub bare : device_of devices at ≡ None

-- the two words after the one at the address may be extension words of code of the module `own`
pub record IsAhead (live : List Section) (devices : List Window) (own at : ℕ) : Type 0 where
  pub second : IsExtension live devices own (onward at 2)
  pub third : IsExtension live devices own (onward at 4)

-- no section has a byte of the word at the address, no device is there, and the two words after it
-- may be extension words of any code
pub record IsVacant (live : List Section) (devices : List Window) (at : ℕ) : Type 0 where
  pub apart : IsApart live at
  pub bare : device_at devices at ≡ None
  pub ahead : (own : ℕ) → IsAhead live devices own at

-- there is such a page, no section meets it, and none of the devices' places is there
abbrev pub is_bare : List Section → List ℕ → ℕ → Bool
is_bare live places page = nat_lt page 256 && (is_open live page && not (has_place page places))

-- the same of the next page too
unfoldable pub is_vacant : List Section → List ℕ → ℕ → Bool
is_vacant live places page = is_bare live places page && is_bare live places (page + 1)

-- what is kept for each of the 256 pages: whether it is vacant
abbrev pub IsVacantIndex : List Bool → List Section → List ℕ → Type 0
IsVacantIndex pages live places =
    (page : ℕ) → page < 256 → slice_index_or pages page false ≡ is_vacant live places page

-- the byte lies in the deep part of the home of the module `id`
abbrev pub has_deep : Deep → ℕ → ℕ → Bool
has_deep d id at = (id == d.id) && within d.from d.to at

-- it lies in the public part of that home
abbrev pub has_deep_text : Deep → ℕ → Bool
has_deep_text d at = within d.from d.text_to at

-- it lies in the private part of that home
abbrev pub has_deep_data : Deep → ℕ → ℕ → Bool
has_deep_data d id at = (id == d.id) && within d.data_from d.data_to at

-- the word at the address and the two after it are code of the module `id`, and no device has a byte
-- of them
pub record IsDeep (live : List Section) (places : List ℕ) (id at : ℕ) : Type 0 where
  pub first : IsCode live id at
  pub second : IsCode live id (at + 2)
  pub third : IsCode live id (at + 4)
  pub bare : meets_device places at 5 ≡ false
  pub ends : at + 4 < 65536

-- the byte at the address is data of the module `id`, and no device has it
pub record IsDeepData (live : List Section) (places : List ℕ) (id at : ℕ) : Type 0 where
  pub own : IsData live id at
  pub bare : meets_device places at 1 ≡ false

-- beside these sections and devices all places of the deep part are such, all code may read the text,
-- and the data are the module's own
pub record KeepsDeep (d : Deep) (live : List Section) (places : List ℕ) : Type 0 where
  pub deep : (at : ℕ) → within d.from d.to at ≡ true → IsDeep live places d.id at
  pub text : (at : ℕ) → within d.from d.text_to at ≡ true → IsReadable live places at
  pub private : (at : ℕ) → within d.data_from d.data_to at ≡ true → IsDeepData live places d.id at
