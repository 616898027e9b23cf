-- A node shows one event at a time.
use Rattle.std.specs.Prelude.{◌≡◌, ℕ, ◌==◌, Bool, true, false, List, ◌∷◌, ◌++◌, slice_get, Some}
use Rattle.std.specs.List.{list_any}
use Rattle.sx_trace.specs.declared.items.Item.{Item}
use Rattle.sx_trace.specs.declared.items.Item.TheVariants.{Reset, Protect, Sense, Read, Drain}
use Rattle.sx_trace.specs.declared.items.Item.TheVariants.{Vouch, Open, Take, Out, Raw, Done}
use Rattle.sx_mean.specs.Application.{PartTree, AppTree}
use Rattle.sx_model.specs.Consequences.{is_part_at, is_device_at}

-- the item is of something that happens at the node, beside a reset and what a line is answered
abbrev pub is_at_node : AppTree → ℕ → Item → Bool
is_at_node app n (Protect k o) = k == n
is_at_node app n (Sense d v) = is_device_at n (slice_get app.devices d)
is_at_node app n (Drain d) = is_device_at n (slice_get app.devices d)
is_at_node app n (Raw d v) = is_device_at n (slice_get app.devices d)
is_at_node app n (Read m v) = is_part_at n (slice_get app.parts m)
is_at_node app n (Vouch m a) = is_part_at n (slice_get app.parts m)
is_at_node app n (Open m c side epoch) = is_part_at n (slice_get app.parts m)
is_at_node app n (Take m c i v) = is_part_at n (slice_get app.parts m)
is_at_node app n (Out m v) = is_part_at n (slice_get app.parts m)
is_at_node app n (Done m status k) = is_part_at n (slice_get app.parts m)
is_at_node app n _ = false

-- an event of the module begins
abbrev pub begins : ℕ → Item → Bool
begins m (Read k v) = k == m
begins m (Vouch k a) = k == m
begins m (Open k c side epoch) = k == m
begins m (Take k c i v) = k == m
begins m _ = false

-- the module is done, or its node is reset
abbrev pub ends : AppTree → ℕ → Item → Bool
ends app m (Done k status n) = k == m
ends app m (Reset n cause) = is_part_at n (slice_get app.parts m)
ends app m _ = false

-- the module writes an output, or is done
abbrev pub goes_on : ℕ → Item → Bool
goes_on m (Out k v) = k == m
goes_on m (Done k status n) = k == m
goes_on m _ = false

-- After an event of a module began, its node shows nothing but the module's outputs, until the
-- module is done or the node is reset.
abbrev pub OneAtATime : AppTree → List Item → Type 0
OneAtATime app items =
    (before between behind : List Item) (first item : Item) (m : ℕ) (q : PartTree)
    → items ≡ before ++ first ∷ between ++ item ∷ behind → slice_get app.parts m ≡ Some q
    → begins m first ≡ true → list_any (ends app m) between ≡ false
    → is_at_node app q.node item ≡ true
    → goes_on m item ≡ true
