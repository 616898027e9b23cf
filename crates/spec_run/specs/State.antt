-- Where a run is: the nodes, the packets, the deployer, the ledger, and the counts of lines and
-- node steps.
use Rattle.std.specs.Prelude.{ℕ, ◌+◌, List, [], ◌∷◌, map, None}
use Rattle.sx_trace.specs.declared.items.Item.{Item}
use Rattle.spec_run.specs.Ledger.{Made}
use Rattle.sx_bus.specs.Devices.{powered_on}
use Rattle.spec_machine.specs.State.{State, power_on}
use Rattle.spec_run.specs.Setting.{Setting, windows_at}
use Rattle.sx_deployer.specs.Granting.{DeployerState}

-- where a run is: its nodes, packets, deployer and ledger, and how many lines and steps there
-- were
pub record World : Type 0 where
  pub nodes : List State
  pub packets : List (List ℕ)
  pub deployer : DeployerState
  pub ledger : List Made
  pub lines : ℕ
  pub steps : ℕ

-- what an act leaves, and its items
pub record Acted : Type 0 where
  pub world : World
  pub items : List Item

-- the nodes with these keys, from the n-th on
abbrev pub nodes_from : Setting → ℕ → List (List ℕ) → List State
nodes_from set n [] = []
nodes_from set n (key ∷ keys) = power_on key (powered_on (windows_at n set.app.devices set.places))
    ∷ nodes_from set (n + 1) keys

-- the world in which each node is switched on, and nothing has happened
abbrev pub switched_on : Setting → World
switched_on set = record {
  nodes = nodes_from set 0 set.keys;
  packets = [];
  deployer = record {
    asks = 0;
    open_asks = map (λ p. None) set.app.parts;
    attested =
        map (λ p. None) set.app.parts;
    epochs = map (λ l. 0) set.app.links;
  };
  ledger = [];
  lines = 0;
  steps = 0;
}
