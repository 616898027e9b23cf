-- Where a run of the source is.
use Rattle.std.specs.Prelude.{ℕ, false, List, [], Bool, Option, Some, None, map, replicate}
use Rattle.std.specs.Prelude.{◌==◌}
use Rattle.std.specs.Option.{option_map_or}
use Rattle.sx_mean.specs.Application.{AppTree}

-- the number is there, and is this one
abbrev pub contains : Option ℕ → ℕ → Bool
contains o n = option_map_or (λ k. k == n) o false

-- a device: its last value, and whether no one took it yet
pub record Reading : Type 0 where
  pub value : ℕ
  pub fresh : Bool

-- an end of a connection: the epoch with which it is open, and at a receiving end the next number
-- that it takes
pub record EndView : Type 0 where
  pub epoch : Option ℕ
  pub next : ℕ

-- what a module still owes of an event: its emits, and how many pieces
pub record Pending : Type 0 where
  pub emits : List ℕ
  pub pieces : ℕ

-- these emits and this many pieces are owed
abbrev pub owing : List ℕ → ℕ → Option Pending
owing emits pieces = Some (record { emits = emits; pieces = pieces })

-- a module that is present: its cells, its ends in their order, and the event that is pending, if
-- any
pub record Present : Type 0 where
  pub cells : List ℕ
  pub ends : List EndView
  pub pending : Option Pending

-- a challenge that a module vouched for, at a boot
pub record Vouched : Type 0 where
  pub challenge : ℕ
  pub boot : ℕ

-- the boot at which a module was attested, and the connections' epochs then: no end of it opens
-- with an earlier one
pub record Attestation : Type 0 where
  pub boot : ℕ
  pub floors : List ℕ

-- a module: itself at its node; and at the deployer its open challenge, what it vouched for, and
-- when it was last attested
pub record Standing : Type 0 where
  pub present : Option Present
  pub asked : Option ℕ
  pub vouched : List Vouched
  pub attested : Option Attestation

-- this many connection fields: of 256 connections and 256 epochs
unfoldable pub FIELDS : ℕ
FIELDS = 65536

-- the nodes' boots, the devices, the modules, the connections' epochs, the words that were sent
-- over each connection in each epoch (those of connection c in epoch e at index c + 256 e), and the
-- number of asks
pub record Model : Type 0 where
  pub boots : List ℕ
  pub devices : List Reading
  pub modules : List Standing
  pub epochs : List ℕ
  pub sent : List (List ℕ)
  pub asks : ℕ

-- at power-on nothing was asked or sent, and no module is present
abbrev pub power_on : AppTree → Model
power_on app = record {
  boots = replicate app.nodes 0;
  devices = map (λ d. record { value = 0; fresh = false }) app.devices;
  modules =
      map (λ p. record { present = None; asked = None; vouched = []; attested = None }) app.parts;
  epochs = map (λ l. 0) app.links;
  sent = replicate FIELDS [];
  asks = 0;
}
