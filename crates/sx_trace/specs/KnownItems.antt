-- The items that a deployment can have.
use Rattle.std.specs.Prelude.{◌≢◌, ℕ, ◌^◌, ◌<◌, List, length, Option, Some, None}
use Rattle.sx_trace.specs.Names.{NameLists}
use Rattle.sx_trace.specs.declared.items.Item.{Item}
use Rattle.sx_trace.specs.declared.items.Item.TheVariants.{Reset, Protect, Sense, Read, Drain, Ask}
use Rattle.sx_trace.specs.declared.items.Item.TheVariants.{Attested, Denied, Vouch, Open, Take, Out}
use Rattle.sx_trace.specs.declared.items.Item.TheVariants.{Raw, Done, Packet, Forged, Busy, Skip}
use Rattle.sx_trace.specs.declared.items.Item.TheVariants.{Budget}
use Rattle.sx_trace.specs.Items.{item_text}

-- an index of the list, or none
abbrev pub IsIndexOrNone : List (List ℕ) → Option ℕ → Type 0
IsIndexOrNone names None = Unit {0}
IsIndexOrNone names (Some i) = i < length names

-- the item's indices are below the lengths of their lists
abbrev pub IsNamedItem : NameLists → Item → Type 0
IsNamedItem n (Reset node why) = node < length n.nodes
IsNamedItem n (Protect node m) = (node < length n.nodes) × IsIndexOrNone n.modules m
IsNamedItem n (Sense d value) = d < length n.devices
IsNamedItem n (Read m value) = m < length n.modules
IsNamedItem n (Drain d) = d < length n.devices
IsNamedItem n (Ask m challenge) = m < length n.modules
IsNamedItem n (Attested m boot) = m < length n.modules
IsNamedItem n (Denied m) = m < length n.modules
IsNamedItem n (Vouch m challenge) = m < length n.modules
IsNamedItem n (Open m link side epoch) = (m < length n.modules) × (link < length n.links)
IsNamedItem n (Take m link number value) = (m < length n.modules) × (link < length n.links)
IsNamedItem n (Out m value) = m < length n.modules
IsNamedItem n (Raw d value) = d < length n.devices
IsNamedItem n (Done m status pieces) = m < length n.modules
IsNamedItem n (Packet number len) = Unit {0}
IsNamedItem n (Forged m) = IsIndexOrNone n.modules m
IsNamedItem n (Busy node) = node < length n.nodes
IsNamedItem n (Skip node) = node < length n.nodes
IsNamedItem n (Budget node) = node < length n.nodes

-- the item's numbers are those that an item has room for
abbrev pub IsSizedItem : Item → Type 0
IsSizedItem (Reset node why) = Unit {0}
IsSizedItem (Protect node m) = Unit {0}
IsSizedItem (Sense d value) = value < 2 ^ 16
IsSizedItem (Read m value) = value < 2 ^ 16
IsSizedItem (Drain d) = Unit {0}
IsSizedItem (Ask m challenge) = challenge < 2 ^ 128
IsSizedItem (Attested m boot) = boot < 2 ^ 32
IsSizedItem (Denied m) = Unit {0}
IsSizedItem (Vouch m challenge) = challenge < 2 ^ 128
IsSizedItem (Open m link side epoch) = epoch < 2 ^ 8
IsSizedItem (Take m link number value) = (number < 2 ^ 32) × (value < 2 ^ 16)
IsSizedItem (Out m value) = value < 2 ^ 16
IsSizedItem (Raw d value) = value < 2 ^ 16
IsSizedItem (Done m status pieces) = (status < 2 ^ 16) × (pieces < 2 ^ 16)
IsSizedItem (Packet number len) = (number < 2 ^ 32) × (len < 2 ^ 16)
IsSizedItem (Forged m) = Unit {0}
IsSizedItem (Busy node) = Unit {0}
IsSizedItem (Skip node) = Unit {0}
IsSizedItem (Budget node) = Unit {0}

-- an item that a deployment of these names can have
abbrev pub IsItem : NameLists → Item → Type 0
IsItem n item = IsNamedItem n item × IsSizedItem item

-- the line is that of no item
abbrev pub IsNoItem : NameLists → List ℕ → Type 0
IsNoItem n line = (item : Item) → IsItem n item → item_text n item ≢ line
