-- What an invocation's marks show in a run: their items, and the ledger and devices after them.
use Rattle.std.specs.Prelude.{ℕ, Bool, true, false, List, [], ◌∷◌, ◌++◌, Some}
use Rattle.sx_bus.specs.declared.devices.Window.{Window}
use Rattle.sx_bus.specs.Devices.{cleared}
use Rattle.sx_mean.specs.Application.{AppTree}
use Rattle.sx_ledger.specs.Made.{Made}
use Rattle.sx_trace.specs.declared.items.Item.{Item}
use Rattle.sx_trace.specs.declared.items.Item.TheVariants as item
use Rattle.spec_invocation.specs.Marks.{Mark, Wrapped, Unwrapped, Sampled, Actuated}
use Rattle.spec_run.specs.Setting.{device_number}
use Rattle.spec_run.specs.Observation.{Observed, read_item, write_item, has_wrapped, has_unwrapped}

-- the items of a mark of the m-th module, on node n at a boot of it, and the ledger after it
abbrev pub mark_observed : AppTree → ℕ → ℕ → ℕ → Mark → List Made → Observed
mark_observed app n m boot (Wrapped header body own) ledger =
    has_wrapped m boot header body own ledger
mark_observed app n m boot (Unwrapped header body own) ledger =
    record { items = has_unwrapped app m boot header body ledger; ledger = ledger }
mark_observed app n m boot (Sampled k v) ledger =
    record { items = read_item app (Some m) (device_number app n k) v ∷ []; ledger = ledger }
mark_observed app n m boot (Actuated k v) ledger =
    record { items = write_item app (Some m) (device_number app n k) v ∷ []; ledger = ledger }

-- the items of marks, in order, and the ledger after them
abbrev pub marks_observed : AppTree → ℕ → ℕ → ℕ → List Mark → List Made → Observed
marks_observed app n m boot [] ledger = record { items = []; ledger = ledger }
marks_observed app n m boot (mark ∷ marks) ledger =
    let first = mark_observed app n m boot mark ledger in
    let rest = marks_observed app n m boot marks first.ledger in
    record { items = first.items ++ rest.items; ledger = rest.ledger }

-- the node's devices after marks: a sensor that was read isn't fresh
abbrev pub devices_after : List Mark → List Window → List Window
devices_after [] devices = devices
devices_after (Wrapped header body own ∷ marks) devices = devices_after marks devices
devices_after (Unwrapped header body own ∷ marks) devices = devices_after marks devices
devices_after (Sampled k v ∷ marks) devices = devices_after marks (cleared devices k)
devices_after (Actuated k v ∷ marks) devices = devices_after marks devices

-- an item of a node that was reset, that was busy or that used up its steps
abbrev pub is_stop : Item → Bool
is_stop (item.Reset n cause) = true
is_stop (item.Busy n) = true
is_stop (item.Budget n) = true
is_stop _ = false

-- an item of a node that used up its steps
abbrev pub is_budget : Item → Bool
is_budget (item.Budget n) = true
is_budget _ = false
