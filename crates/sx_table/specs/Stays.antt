-- What stays of a row.
use Rattle.std.specs.Prelude.{ℕ, ◌+◌, ◌==◌, ◌&&◌, ◌||◌, Bool, true, false, List, [], ◌∷◌, map}
use Rattle.std.specs.Prelude.{slice_get, unwrap_or}
use Rattle.std.specs.Prelude.{Option, Some, None}
use Rattle.std.specs.Global.{Vec}
use Rattle.sx_mean.specs.declared.apps.AppDevice.{AppDevice}
use Rattle.sx_mean.specs.Application.{AppTree, PartTree}
pub use Rattle.sx_table.specs.declared.stays.Freed.{Freed}
pub use Rattle.sx_table.specs.declared.stays.Freed.TheVariants.{Nobody, Only, AtNode}
use Rattle.sx_table.specs.Boxes.{Interval}
use Rattle.sx_table.specs.Places.{fills_each}

abbrev pub item_lists : List (Vec Interval) → List (List Interval)
item_lists xs = map (λ v. v.items) xs

-- the list of an index
abbrev pub values_at : List (List Interval) → ℕ → List Interval
values_at xss n = unwrap_or (slice_get xss n) []

-- the bit of an index is set
abbrev pub is_set : List Bool → ℕ → Bool
is_set bs n = unwrap_or (slice_get bs n) false

abbrev pub is_part_at : ℕ → Option PartTree → Bool
is_part_at n None = false
is_part_at n (Some q) = q.node == n

abbrev pub is_device_at : ℕ → Option AppDevice → Bool
is_device_at n None = false
is_device_at n (Some d) = d.node == n

abbrev pub part_at : List PartTree → ℕ → ℕ → Bool
part_at qs n m = is_part_at n (slice_get qs m)

abbrev pub device_at : List AppDevice → ℕ → ℕ → Bool
device_at ds n d = is_device_at n (slice_get ds d)

-- the module, or device, is freed
abbrev pub frees_module : AppTree → Freed → ℕ → Bool
frees_module app Nobody m = false
frees_module app (Only k) m = k == m
frees_module app (AtNode n) m = part_at app.parts n m

abbrev pub frees_device : AppTree → Freed → ℕ → Bool
frees_device app Nobody d = false
frees_device app (Only k) d = k == d
frees_device app (AtNode n) d = device_at app.devices n d

-- a list has what another has, unless that is freed, and each list
abbrev pub list_stays : AppTree → Freed → ℕ → List Interval → List (List Interval) → Bool
list_stays app freed n xs new = frees_device app freed n || fills_each (values_at new n) xs

abbrev pub values_stay : AppTree → Freed → ℕ → List (List Interval) → List (List Interval) → Bool
values_stay app freed n [] new = true
values_stay app freed n (xs ∷ xss) new = list_stays app freed n xs new
    && values_stay app freed (n + 1) xss new
