-- What one call of a deployed module does: what its invocation says, and nothing else.
use Rattle.std.specs.Prelude.{◌≡◌, ◌≢◌, ℕ, ◌+◌, ◌≤◌, List, [], ◌∷◌, ◌++◌, length, slice_get, Some}
use Rattle.sx_lang.specs.Sizes.{module_cost}
use Rattle.sx_mean.specs.Application.{PartTree}
use Rattle.sx_mean.specs.Ends.{ends_of}
use Rattle.sx_trace.specs.declared.items.Item.{Item}
use Rattle.sx_trace.specs.declared.items.Item.TheVariants as item
use Rattle.sx_rules.specs.declared.access.Violation.{Violation}
use Rattle.sx_rules.specs.declared.section.Section.{Section}
use Rattle.sx_rules.specs.Access.{Lives}
use Rattle.spec_machine.specs.Registers.{set_reg}
use Rattle.spec_machine.specs.State.{State, reset}
use Rattle.spec_machine.specs.Node.{IsNode}
use Rattle.spec_machine.specs.NodeLaws.{shapes}
use Rattle.spec_invocation.specs.Setup.{Setup, Call}
use Rattle.spec_invocation.specs.ModuleState.{ModuleState, state_of}
use Rattle.spec_invocation.specs.Marks.{Mark}
use Rattle.spec_invocation.specs.Progress.{Progress, Invoked}
use Rattle.spec_invocation.specs.Invocation.{invoke}
use Rattle.sx_image.specs.Image.{StandsProtected, private_bytes, public_bytes, setup_at}
use Rattle.sx_image.specs.Image.{progress_at}
use Rattle.sx_image.specs.Realizes.{KeepsOutside, Stand, exit_registers}
use Rattle.spec_run.specs.Setting.{Site, Setting, windows_at}
use Rattle.spec_run.specs.State.{World, Acted}
use Rattle.spec_run.specs.Observation.{cause_of}
use Rattle.spec_run.specs.Acts.{with_node}
use Rattle.spec_run.specs.Run.{Register, call_registers, call}
use Rattle.spec_run.specs.Law.{image_at}
use Rattle.law_calls.specs.Shown.{marks_observed, devices_after}

-- A deployed module as it is called: its number in the application and its part there, its site,
-- the section that it is, and its node.
pub record Callee : Type 0 where
  pub number : ℕ
  pub part : PartTree
  pub site : Site
  pub section : Section
  pub node : State

-- the module is protected on its node in this world, and no module runs there
pub record StandsIdle (set : Setting) (w : World) (c : Callee) : Type 0 where
  pub part : slice_get set.app.parts c.number ≡ Some c.part
  pub sited : slice_get set.sites c.number ≡ Some c.site
  pub there : slice_get w.nodes c.site.node ≡ Some c.node
  pub idle : c.node.cur ≡ 0
  pub stands : StandsProtected (image_at c.site) c.section c.node

-- the same, on a node that is as nodes of a run are (CallableInRuns)
pub record IsCallable (set : Setting) (w : World) (c : Callee) : Type 0 where
  pub part : slice_get set.app.parts c.number ≡ Some c.part
  pub sited : slice_get set.sites c.number ≡ Some c.site
  pub there : slice_get w.nodes c.site.node ≡ Some c.node
  pub node : IsNode c.node
  pub idle : c.node.cur ≡ 0
  pub stands : StandsProtected (image_at c.site) c.section c.node
  pub windows : shapes c.node.devices ≡ windows_at c.site.node set.app.devices set.places

-- what is constant while the module runs
abbrev pub setup_of : Setting → Callee → Setup
setup_of set c = setup_at set.mac c.part.tree (ends_of set.app c.number) c.section c.node

-- the state that its private section represents
abbrev pub state_at : Setting → Callee → ModuleState
state_at set c =
    state_of c.part.tree (ends_of set.app c.number) (private_bytes c.site.layout c.node.mem)

-- its invocation, by what the caller asks
abbrev pub invoked : Setting → Callee → Call → Invoked
invoked set c asks = invoke (setup_of set c) asks (progress_at (setup_of set c) c.node)

-- registers with these set, one after the other
abbrev pub with_set : List ℕ → List Register → List ℕ
with_set regs [] = regs
with_set regs (r ∷ rs) = with_set (set_reg regs r.number r.value) rs

-- the node with the registers of a call set; PC is the module's entry
abbrev pub called : Callee → Call → State
called c asks = record c.node {
  regs = with_set c.node.regs (call_registers c.site asks.entry asks.input asks.output);
  last = 0;
}

-- what a call leaves and shows: the node in this state, the ledger after the marks, these steps
-- more, and the items of the marks and then a last one
abbrev pub ended : Setting → World → Callee → List Mark → State → ℕ → Item → Acted
ended set w c marks after steps last =
    let o = marks_observed set.app c.site.node c.number c.node.boot marks w.ledger in
    record {
      world = with_node w c.site.node after o.ledger (w.steps + steps);
      items = o.items ++ last ∷ [];
    }

-- The node t after a call that returned with this status. The private section represents the
-- invocation's new state, the pieces are in the out-window, the registers are those of the exit,
-- and a sensor that was read isn't fresh. The number of resets, the key, the table of sections, all
-- texts, the other modules' private sections and the bytes outside, but where pieces go, stay.
pub record IsReturned (set : Setting) (c : Callee) (asks : Call) (status : ℕ) (p : Progress)
    (t : State) : Type 0 where
  pub node : IsNode t
  pub idle : t.cur ≡ 0
  pub boot : t.boot ≡ c.node.boot
  pub key : t.key ≡ c.node.key
  pub sections : t.sections ≡ c.node.sections
  pub stands : StandsProtected (image_at c.site) c.section t
  pub registers : t.regs ≡ exit_registers (called c asks) status (length p.pieces)
  pub state : state_of c.part.tree (ends_of set.app c.number) (private_bytes c.site.layout t.mem)
      ≡ p.state
  pub outside : KeepsOutside (setup_of set c) asks.output p.pieces c.node.mem t.mem
  pub pieces : Stand t.mem asks.output p.pieces
  pub devices : t.devices ≡ devices_after p.marks c.node.devices
  pub windows : shapes t.devices ≡ shapes c.node.devices
  pub texts : (x : Section) → Lives c.node.sections.live x
      → public_bytes x.layout t.mem ≡ public_bytes x.layout c.node.mem
  pub others : (x : Section) → Lives c.node.sections.live x → c.section.id ≢ x.id
      → private_bytes x.layout t.mem ≡ private_bytes x.layout c.node.mem

-- The call returned: within the bound of steps it shows the items of the invocation's marks and
-- then `done`, and leaves the node so.
pub record HasReturned (set : Setting) (w : World) (c : Callee) (asks : Call) (status : ℕ)
    (p : Progress) : Type 0 where
  pub after : State
  pub returned : IsReturned set c asks status p after
  pub steps : ℕ
  pub few : steps ≤ 4096 + module_cost c.part.tree
  pub is : call set w asks.entry asks.input asks.output (Some c.site)
      ≡ ended set w c p.marks after steps (item.Done c.number status (length p.pieces))

-- The call was broken off: within the bound of steps it shows the items of the marks that were made
-- until then and the reset of the node, with the violation's cause.
pub record HasReset (set : Setting) (w : World) (c : Callee) (asks : Call) (v : Violation)
    (p : Progress) : Type 0 where
  pub steps : ℕ
  pub few : steps ≤ 4096 + module_cost c.part.tree
  pub is : call set w asks.entry asks.input asks.output (Some c.site)
      ≡ ended set w c p.marks (reset c.node) steps (item.Reset c.site.node (cause_of v))
