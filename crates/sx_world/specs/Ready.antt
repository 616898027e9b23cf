-- What performing a line requires of where a run is.
use Rattle.std.specs.Prelude.{◌≡◌, ℕ, ◌+◌, ◌<◌, ◌≤◌, List, length, slice_get, Some}
use Rattle.spec_machine.specs.State.{State}
use Rattle.spec_machine.specs.NodeLaws.{shapes}
use Rattle.sx_deploy.specs.Deployment.{Deployed}
use Rattle.spec_run.specs.Setting.{Site, windows_at}
use Rattle.sx_world.specs.Held.{Running}

-- Nodes, modules and devices are those of the deployment, whose texts lie in memory, and no counter
-- is at its last value.
pub record IsReady (d : Deployed) (sites : List Site) (k : Running) : Type 0 where
  pub nodes : length k.nodes ≡ length d.names.nodes
  pub boots : (n : ℕ) (s : State) → slice_get k.nodes n ≡ Some s → s.boot < 4294967295
  pub devices : (n : ℕ) (s : State) → slice_get k.nodes n ≡ Some s
      → shapes s.devices ≡ windows_at n d.app.devices d.places
  pub steps : k.steps + 1000000 ≤ 18446744073709551615
  pub packets : length k.packets ≤ 4294967000
  pub asks : k.deployer.state.asks < 4294967295
  pub targets : length k.deployer.targets ≡ length d.app.parts
  pub as_many : length sites ≡ length d.app.parts
  pub at_nodes : (m : ℕ) (site : Site) → slice_get sites m ≡ Some site → site.node < length k.nodes
  pub texts : (m : ℕ) (site : Site) → slice_get sites m ≡ Some site
      → site.layout.pub_from + length site.text ≤ 65536
