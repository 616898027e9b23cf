-- Plans: what an instruction does, apart from any memory.
use Rattle.std.specs.Prelude.{ℕ, Bool, List}
use Rattle.sx_rules.specs.declared.access.Violation.{Violation}
use Rattle.spec_machine.specs.declared.kinds.Event.{Event}
use Rattle.spec_machine.specs.declared.kinds.Exchange.{Exchange}

-- A plan asks for one access after the other; what it reads decides how it goes on. It never sees
-- the memory, the sections or the devices: only the executor does.
pub data Plan : Type 0 where
  -- the end of a plain instruction, with the registers
  Done : List ℕ → Plan
  -- the end of a module instruction, with the registers, the event and the exchange
  Tell : List ℕ → Event → Exchange → Plan
  Stop : Violation → Plan
  -- an extension word is fetched
  Fetch : ℕ → (ℕ → Plan) → Plan
  -- a word, or in byte form a byte, is read or written
  Load : Bool → ℕ → (ℕ → Plan) → Plan
  Store : Bool → ℕ → ℕ → Plan → Plan
  -- a test, and the violation where it fails
  Need : Bool → Violation → Plan → Plan
  -- this many bytes from an address on must be open to writes
  Writable : ℕ → ℕ → Plan → Plan
  -- this many bytes from an address on are read, or these bytes are written there
  Bytes : ℕ → ℕ → (List ℕ → Plan) → Plan
  Put : ℕ → List ℕ → Plan → Plan
