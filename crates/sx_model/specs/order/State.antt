-- Where a run of the source is where acts keep their order: the model's own State but for what
-- is pending.
use Rattle.std.specs.Prelude.{ℕ, false, List, [], Option, Some, None, map, replicate}
use Rattle.sx_mean.specs.declared.events.Act.{Act}
use Rattle.sx_mean.specs.Application.{AppTree}
use Rattle.sx_model.specs.State.{Reading, EndView, Vouched, Attestation, FIELDS}

-- what a module still owes of an event: its acts from the first emit on, and how many pieces there
-- are so far
pub record Pending : Type 0 where
  pub acts : List Act
  pub pieces : ℕ

-- these acts are owed, after this many pieces
abbrev pub owing : List Act → ℕ → Option Pending
owing acts pieces = Some (record { acts = acts; pieces = pieces })

-- a module that is present: its cells, its ends in their order, and the event that is pending, if
-- any
pub record Present : Type 0 where
  pub cells : List ℕ
  pub ends : List EndView
  pub pending : Option Pending

-- a module: itself at its node; and at the deployer its open challenge, what it vouched for, and
-- when it was last attested
pub record Standing : Type 0 where
  pub present : Option Present
  pub asked : Option ℕ
  pub vouched : List Vouched
  pub attested : Option Attestation

-- the nodes' boots, the devices, the modules, the connections' epochs, the words that were sent
-- over each connection in each epoch (those of connection c in epoch e at index c + 256 e), and the
-- number of asks
pub record Model : Type 0 where
  pub boots : List ℕ
  pub devices : List Reading
  pub modules : List Standing
  pub epochs : List ℕ
  pub sent : List (List ℕ)
  pub asks : ℕ

-- at power-on nothing was asked or sent, and no module is present
abbrev pub power_on : AppTree → Model
power_on app = record {
  boots = replicate app.nodes 0;
  devices = map (λ d. record { value = 0; fresh = false }) app.devices;
  modules =
      map (λ p. record { present = None; asked = None; vouched = []; attested = None }) app.parts;
  epochs = map (λ l. 0) app.links;
  sent = replicate FIELDS [];
  asks = 0;
}
