-- The devices of a node, each of which is one word of its memory (own profile).
--     ArePlaces      where devices may be
--     HaveSamples      what values devices have
--     powered_on      a list of devices as the node is switched on
--     places_of, device_at      the devices' places, and the device at a byte
--     sensed, cleared, all_stale      the devices after a sample, a read of it, and a reset
use Rattle.std.specs.Prelude.{◌≡◌, ◌≢◌, ℕ, zero, suc, ◌+◌, ◌%◌, ◌<◌, ◌≤◌, nat_lt, nat_le, Bool}
use Rattle.std.specs.Prelude.{true, false, ◌&&◌, List, [], ◌∷◌, length, map, All, AllPairs, Option}
use Rattle.std.specs.List.{position_from}
use Rattle.sx_bus.specs.declared.devices.Kind.{Kind}
use Rattle.sx_bus.specs.declared.devices.Window.{Window}

-- at most 32 devices, at distinct even places below the interrupt vectors
pub record ArePlaces (places : List ℕ) : Type 0 where
  pub count : length places ≤ 32
  pub even : All (λ place. place % 2 ≡ 0) places
  pub below : All (λ place. place < 0xFFE0) places
  pub distinct : AllPairs (λ place other. place ≢ other) places

-- the devices as the node is switched on: each has the value 0 and isn't fresh
abbrev pub powered_on : List (ℕ × Kind) → List Window
powered_on devices = map (λ d. record { at = d.0; kind = d.1; value = 0; fresh = false }) devices

-- the addresses of the devices
abbrev pub places_of : List Window → List ℕ
places_of windows = map (λ w. w.at) windows

-- the device's word holds the byte
abbrev pub on_word : ℕ → Window → Bool
on_word at w = nat_le w.at at && nat_lt at (w.at + 2)

-- the index of the first device whose word holds the byte
abbrev pub device_at : List Window → ℕ → Option ℕ
device_at windows at = position_from (on_word at) 0 windows

-- each value is one that a sensor can give
abbrev pub HaveSamples : List Window → Type 0
HaveSamples windows = All (λ w. w.value < 32768) windows

-- the devices with a change of the one at the index
abbrev pub with_changed : (Window → Window) → List Window → ℕ → List Window
with_changed change [] device = []
with_changed change (w ∷ rest) zero = change w ∷ rest
with_changed change (w ∷ rest) (suc device) = w ∷ with_changed change rest device

-- a device without a fresh sample
abbrev pub stale : Window → Window
stale w = record w { fresh = false }

-- the devices after a sensor took a sample
abbrev pub with_sample : List Window → ℕ → ℕ → List Window
with_sample windows device value =
    with_changed (λ w. record w { value = value; fresh = true }) windows device

-- the devices after the sample of one was read
abbrev pub cleared : List Window → ℕ → List Window
cleared windows device = with_changed stale windows device

-- the devices after a reset of the node: no sample is fresh, and the values stay
abbrev pub all_stale : List Window → List Window
all_stale windows = map stale windows
