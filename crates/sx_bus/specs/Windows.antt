-- The devices of a node as it keeps them: new ones, and the index of pages where one is.
use Rattle.std.specs.Prelude.{◌≡◌, ℕ, ◌/◌, ◌==◌, ◌<◌, Bool, false, List, slice_index_or, All}
use Rattle.std.specs.List.{list_any}
use Rattle.sx_bus.specs.declared.devices.Window.{Window}

-- each device has the value 0 and isn't fresh
abbrev pub AreNew : List Window → Type 0
AreNew windows = All (λ w. (w.value ≡ 0) × (w.fresh ≡ false)) windows

-- one of the places lies on the page, which is 256 bytes from a multiple of 256 on
abbrev pub has_place : ℕ → List ℕ → Bool
has_place page places = list_any (λ place. place / 256 == page) places

-- what is kept for each of the 256 pages: whether a device is there
abbrev pub IsDeviceIndex : List Bool → List ℕ → Type 0
IsDeviceIndex pages places =
    (page : ℕ) → page < 256 → slice_index_or pages page false ≡ has_place page places
