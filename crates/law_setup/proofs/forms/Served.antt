-- A module that is loaded at its node while it is set up, and what is done there for it.
use Rattle.std.specs.Prelude.{◌≡◌, ◌≢◌, ℕ, List, slice_get, slice_set, Some}
use Rattle.sx_rules.specs.declared.section.Section.{Section}
use Rattle.sx_rules.specs.Access.{Lives}
use Rattle.sx_mean.specs.Application.{PartTree}
use Rattle.sx_mean.specs.Ends.{ends_of}
use Rattle.sx_trace.specs.declared.items.Item.{Item}
use Rattle.spec_machine.specs.State.{State}
use Rattle.spec_machine.specs.Node.{IsNode}
use Rattle.spec_machine.specs.NodeLaws.{shapes}
use Rattle.spec_invocation.specs.ModuleState.{ModuleState, state_of}
use Rattle.sx_image.specs.Image.{StandsProtected, private_bytes, public_bytes}
use Rattle.sx_sched.specs.Lines.{Line}
use Rattle.spec_run.specs.Setting.{Site, Setting, windows_at}
use Rattle.sx_deployer.specs.Granting.{DeployerState}
use Rattle.spec_run.specs.Deployer.{key_of}
use Rattle.spec_run.specs.Ledger.{Made}
use Rattle.spec_run.specs.State.{World}
use Rattle.spec_run.specs.Run.{run}
use Rattle.spec_run.specs.Law.{image_at}
use Rattle.law_calls.specs.Calls.{Callee}
use Rattle.law_setup.proofs.forms.ByLine.{shown_by}
use Rattle.law_setup.proofs.forms.Loaded.{StandsHigh}

-- a module as it is called
abbrev pub callee : ℕ → PartTree → Site → Section → State → Callee
callee m q site sec s = record { number = m; part = q; site = site; section = sec; node = s }

-- the state that its private section represents on a node
abbrev pub state_on : Setting → ℕ → PartTree → Site → State → ModuleState
state_on set m q site s = state_of q.tree (ends_of set.app m) (private_bytes site.layout s.mem)

-- what is done to a node for the module of a section: no module runs there after it, it wasn't
-- reset, sections and devices are as before, and so are the bytes of the other sections
pub record Serves (sec : Section) (s t : State) : Type 0 where
  pub node : IsNode t
  pub idle : t.cur ≡ 0
  pub boot : t.boot ≡ s.boot
  pub key : t.key ≡ s.key
  pub sections : t.sections ≡ s.sections
  pub devices : t.devices ≡ s.devices
  pub texts : (x : Section) → Lives s.sections.live x
      → public_bytes x.layout t.mem ≡ public_bytes x.layout s.mem
  pub others : (x : Section) → Lives s.sections.live x → sec.id ≢ x.id
      → private_bytes x.layout t.mem ≡ private_bytes x.layout s.mem

-- the m-th module is loaded at its node, in this state and with the key that the deployer computes;
-- no module runs there, and the node was never reset
pub record IsServed (set : Setting) (m : ℕ) (q : PartTree) (site : Site) (sec : Section) (s : State) (st : ModuleState) : Type 0 where
  pub part : slice_get set.app.parts m ≡ Some q
  pub sited : slice_get set.sites m ≡ Some site
  pub node : IsNode s
  pub idle : s.cur ≡ 0
  pub boot : s.boot ≡ 0
  pub stands : StandsProtected (image_at site) sec s
  pub key : sec.key ≡ key_of set site 0
  pub windows : shapes s.devices ≡ windows_at site.node set.app.devices set.places
  pub low : StandsHigh s
  pub state : state_on set m q site s ≡ st

-- lines show these items, and line by line these; after them the n-th node is in this state, and
-- these are the packets, the deployer's record and the ledger
pub record Moves (set : Setting) (w : World) (lines : List Line) (items : List Item) (shown : List (List Item)) (n : ℕ) (t : State) (ps : List (List ℕ))
    (d : DeployerState) (made : List Made) : Type 0 where
  pub world : World
  pub is : run set w lines ≡ record { world = world; items = items }
  pub each : shown_by set w lines ≡ shown
  pub nodes : world.nodes ≡ slice_set w.nodes n t
  pub packets : world.packets ≡ ps
  pub deployer : world.deployer ≡ d
  pub ledger : world.ledger ≡ made
