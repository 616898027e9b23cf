-- Ranges that no device meets.
use Rattle.std.proofs.Common.{◌≡◌, ℕ, ◌+◌, ◌<◌, Bool, cond, List, [], ◌∷◌, Some, None, refl, ap, ◌∙◌}
use Rattle.sx_bus.specs.declared.devices.Window.{Window}
use Rattle.sx_bus.specs.Devices.{on_word, places_of, device_at}
use Rattle.std.specs.List.{position_from}
use Rattle.std.proofs.lemmas.Bool.{or_parts}
use Rattle.spec_machine.specs.Ranges.{meets, meets_device}
use Rattle.spec_machine.specs.Run.{device_of, found}
use Rattle.sx_executor.specs.Machine.{IsClear}
use Rattle.sx_executor.proofs.Rights.{byte_apart}

pub none_at : (devices : List Window) (at n i j : ℕ) → IsClear devices at n → i < n → position_from (on_word (at + i)) j devices ≡ None
none_at [] at n i j clear below = refl
none_at (w ∷ rest) at n i j clear below =
    let parts = or_parts (meets at n w.at (w.at + 2)) (meets_device (places_of rest) at n) clear in
    ap (λ (b : Bool). cond b (Some j) (position_from (on_word (at + i)) (j + 1) rest)) (byte_apart at n w.at (w.at + 2) i parts.0 below)
    ∙ none_at rest at n i (j + 1) parts.1 below

-- no device's word holds a byte of such a range
pub each_clear : (devices : List Window) (at n i : ℕ) → IsClear devices at n → i < n → device_of devices (at + i) ≡ None
each_clear devices at n i clear below = ap (found devices) (none_at devices at n i 0 clear below)

-- no device's word holds a byte that none is found at
pub none_found : (devices : List Window) (at : ℕ) → device_at devices at ≡ None → device_of devices at ≡ None
none_found devices at h = ap (found devices) h
