-- The packets of the code as bytes, and which bytes are read as one. The connection field is a word
-- with the connection's number in the low byte and the epoch in the high one.
use Rattle.std.specs.Prelude.{ℕ, ◌==◌, ◌&&◌, Bool, List, ◌++◌, length}
use Rattle.byteorder.specs.Endian.{little_bytes}
use Rattle.sx_wire.specs.declared.packets.EventPacket.{EventPacket}
use Rattle.sx_wire.specs.declared.packets.SetKeyPacket.{SetKeyPacket}
use Rattle.sx_wire.specs.Headers.{header, begins}

-- a set-key packet, 38 bytes: its header, the encrypted connection key and the tag
abbrev pub set_key_packet : SetKeyPacket → List ℕ
set_key_packet p = header 1 (little_bytes 2 p.link) (little_bytes 2 p.«end») ++ p.cipher ++ p.mac

-- an event, 24 bytes: its header, the encrypted word and the tag
abbrev pub event_packet : EventPacket → List ℕ
event_packet p = header 3 (little_bytes 2 p.link) (little_bytes 2 p.number) ++ p.cipher ++ p.mac

-- bytes with the length and the first two bytes of a set-key packet
abbrev pub is_set_key : List ℕ → Bool
is_set_key bytes = (length bytes == 38) && begins 1 bytes

-- bytes with the length and the first two bytes of an event
abbrev pub is_event : List ℕ → Bool
is_event bytes = (length bytes == 24) && begins 3 bytes
