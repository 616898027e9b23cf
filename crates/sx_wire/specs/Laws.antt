-- A packet has one spelling: what reads a packet's bytes gives back the packet.
use Rattle.std.specs.Prelude.{◌≡◌, ℕ, ◌<◌, List, length}
use Rattle.sx_wire.specs.declared.packets.EventPacket.{EventPacket}
use Rattle.sx_wire.specs.declared.packets.SetKeyPacket.{SetKeyPacket}
use Rattle.sx_wire.specs.Headers.{ask_of}
use Rattle.sx_wire.specs.Packets.{event_packet, set_key_packet}

-- the fields are words and the byte strings have their widths, as the types of a packet say
pub record IsEvent (p : EventPacket) : Type 0 where
  pub link : p.link < 65536
  pub number : p.number < 65536
  pub cipher : length p.cipher ≡ 2
  pub mac : length p.mac ≡ 16

-- the fields of a set-key packet have their widths
pub record IsSetKey (p : SetKeyPacket) : Type 0 where
  pub link : p.link < 65536
  pub «end» : p.«end» < 65536
  pub cipher : length p.cipher ≡ 16
  pub mac : length p.mac ≡ 16

-- two event packets with the same bytes are equal
abbrev pub EventSpelledOnce : Type 0
EventSpelledOnce =
    (p q : EventPacket) → IsEvent p → IsEvent q → event_packet p ≡ event_packet q → p ≡ q

-- two set-key packets with the same bytes are equal
abbrev pub SetKeySpelledOnce : Type 0
SetKeySpelledOnce =
    (p q : SetKeyPacket) → IsSetKey p → IsSetKey q → set_key_packet p ≡ set_key_packet q → p ≡ q

-- two challenges with the same ask packet are equal
abbrev pub AskSpelledOnce : Type 0
AskSpelledOnce = (a b : List ℕ) → ask_of a ≡ ask_of b → a ≡ b
