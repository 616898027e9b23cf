-- What the items of a line say of its packets.
use Rattle.std.proofs.Common.{◌≡◌, ℕ, List, ◌∷◌, Option, Some, None, refl}
use Rattle.sx_trace.specs.declared.items.Item.{Item}
use Rattle.sx_trace.specs.declared.items.Item.TheVariants as item
use Rattle.sx_drive.specs.Honest.{packets_of, made_by}
use Rattle.sx_drive.specs.Driving.{packet_in, pieces_in}

-- a packet, if any, before others
abbrev pub packet_and : Option ℕ → List ℕ → List ℕ
packet_and None ks = ks
packet_and (Some k) ks = k ∷ ks

pub packets_next : (x : Item) (items : List Item) → packets_of (x ∷ items) ≡ packet_and (packet_in x) (packets_of items)
packets_next (item.Reset a b) items = refl
packets_next (item.Protect a b) items = refl
packets_next (item.Sense a b) items = refl
packets_next (item.Read a b) items = refl
packets_next (item.Drain a) items = refl
packets_next (item.Ask a b) items = refl
packets_next (item.Attested a b) items = refl
packets_next (item.Denied a) items = refl
packets_next (item.Vouch a b) items = refl
packets_next (item.Open a b c e) items = refl
packets_next (item.Take a b c e) items = refl
packets_next (item.Out a b) items = refl
packets_next (item.Raw a b) items = refl
packets_next (item.Done a b c) items = refl
packets_next (item.Packet a b) items = refl
packets_next (item.Forged a) items = refl
packets_next (item.Busy a) items = refl
packets_next (item.Skip a) items = refl
packets_next (item.Budget a) items = refl

-- how many packets a call made, if an item says so, else what follows says
abbrev pub pieces_or : Option ℕ → ℕ → ℕ
pieces_or None n = n
pieces_or (Some k) n = k

pub made_next : (x : Item) (items : List Item) → made_by (x ∷ items) ≡ pieces_or (pieces_in x) (made_by items)
made_next (item.Reset a b) items = refl
made_next (item.Protect a b) items = refl
made_next (item.Sense a b) items = refl
made_next (item.Read a b) items = refl
made_next (item.Drain a) items = refl
made_next (item.Ask a b) items = refl
made_next (item.Attested a b) items = refl
made_next (item.Denied a) items = refl
made_next (item.Vouch a b) items = refl
made_next (item.Open a b c e) items = refl
made_next (item.Take a b c e) items = refl
made_next (item.Out a b) items = refl
made_next (item.Raw a b) items = refl
made_next (item.Done a b c) items = refl
made_next (item.Packet a b) items = refl
made_next (item.Forged a) items = refl
made_next (item.Busy a) items = refl
made_next (item.Skip a) items = refl
made_next (item.Budget a) items = refl
