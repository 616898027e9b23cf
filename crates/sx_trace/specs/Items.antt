-- The lines of items.
use Rattle.std.specs.Prelude.{ℕ, ◌==◌, if◌then◌else◌, List, [], ◌∷◌, codes, decimal, Option, Some}
use Rattle.std.specs.Prelude.{None, unwrap_or, slice_get}
use Rattle.std.specs.List.{join_with_byte}
use Rattle.sx_lang.specs.declared.sides.Side.{Side}
use Rattle.sx_lang.specs.declared.sides.Side.TheVariants.{From, To}
use Rattle.sx_trace.specs.Names.{NameLists, deployer}
use Rattle.sx_trace.specs.declared.items.Cause.{Cause}
use Rattle.sx_trace.specs.declared.items.Cause.TheVariants as cause
use Rattle.sx_trace.specs.declared.items.Item.{Item}
use Rattle.sx_trace.specs.declared.items.Item.TheVariants.{Reset, Protect, Sense, Read, Drain, Ask}
use Rattle.sx_trace.specs.declared.items.Item.TheVariants.{Attested, Denied, Vouch, Open, Take, Out}
use Rattle.sx_trace.specs.declared.items.Item.TheVariants.{Raw, Done, Packet, Forged, Busy, Skip}
use Rattle.sx_trace.specs.declared.items.Item.TheVariants.{Budget}

-- the name at an index of its list
abbrev pub name_at : List (List ℕ) → ℕ → List ℕ
name_at names i = unwrap_or (slice_get names i) []

-- the name at an index of its list, or another word where there is no index
abbrev pub name_or : List ℕ → List (List ℕ) → Option ℕ → List ℕ
name_or other names None = other
name_or other names (Some i) = name_at names i

-- the word of a cause
abbrev pub cause_word : Cause → List ℕ
cause_word cause.Order = codes "order"
cause_word cause.Fetch = codes "fetch"
cause_word cause.Read = codes "read"
cause_word cause.Write = codes "write"
cause_word cause.Device = codes "device"
cause_word cause.Illegal = codes "illegal"
cause_word cause.Range = codes "range"
cause_word cause.Asked = codes "asked"

-- the word of a side
abbrev pub side_word : Side → List ℕ
side_word From = codes "from"
side_word To = codes "to"

-- the words of an epoch: none for 0, else one
abbrev pub epoch_words : ℕ → List (List ℕ)
epoch_words epoch = if epoch == 0 then [] else decimal epoch ∷ []

-- the words of an item
abbrev pub item_words : NameLists → Item → List (List ℕ)
item_words n (Reset node why) = codes "reset" ∷ name_at n.nodes node ∷ cause_word why ∷ []
item_words n (Protect node m) =
    codes "protect" ∷ name_at n.nodes node ∷ name_or (codes "-") n.modules m ∷ []
item_words n (Sense d value) = codes "sense" ∷ name_at n.devices d ∷ decimal value ∷ []
item_words n (Read m value) = codes "read" ∷ name_at n.modules m ∷ decimal value ∷ []
item_words n (Drain d) = codes "drain" ∷ name_at n.devices d ∷ []
item_words n (Ask m challenge) = codes "ask" ∷ name_at n.modules m ∷ decimal challenge ∷ []
item_words n (Attested m boot) = codes "attested" ∷ name_at n.modules m ∷ decimal boot ∷ []
item_words n (Denied m) = codes "denied" ∷ name_at n.modules m ∷ []
item_words n (Vouch m challenge) = codes "vouch" ∷ name_at n.modules m ∷ decimal challenge ∷ []
item_words n (Open m link side epoch) =
    codes "open" ∷ name_at n.modules m ∷ name_at n.links link ∷ side_word side ∷ epoch_words epoch
item_words n (Take m link number value) =
    codes "take" ∷ name_at n.modules m ∷ name_at n.links link ∷ decimal number ∷ decimal value ∷ []
item_words n (Out m value) = codes "out" ∷ name_at n.modules m ∷ decimal value ∷ []
item_words n (Raw d value) = codes "raw" ∷ name_at n.devices d ∷ decimal value ∷ []
item_words n (Done m status pieces) =
    codes "done" ∷ name_at n.modules m ∷ decimal status ∷ decimal pieces ∷ []
item_words n (Packet number len) = codes "packet" ∷ decimal number ∷ decimal len ∷ []
item_words n (Forged m) = codes "forged" ∷ name_or deployer n.modules m ∷ []
item_words n (Busy node) = codes "busy" ∷ name_at n.nodes node ∷ []
item_words n (Skip node) = codes "skip" ∷ name_at n.nodes node ∷ []
item_words n (Budget node) = codes "budget" ∷ name_at n.nodes node ∷ []

-- words with a space between each and the next
abbrev pub spaced_words : List (List ℕ) → List ℕ
spaced_words words = join_with_byte 32 words

-- an item's line, without its newline
unfoldable pub item_text : NameLists → Item → List ℕ
item_text n item = spaced_words (item_words n item)
