-- A memory in one piece.
use Rattle.std.specs.Prelude.{ℕ, List}
use Rattle.sx_bus.specs.declared.flat.FlatBus.{FlatBus}

-- its bytes
abbrev pub bytes_of : FlatBus → List ℕ
bytes_of bus = bus.memory.items
