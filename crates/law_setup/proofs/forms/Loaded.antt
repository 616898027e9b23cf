-- What loading a deployed module does.
use Rattle.std.specs.Prelude.{◌≡◌, ℕ, ◌+◌, ◌<◌, ◌≤◌, [], ◌∷◌, slice_get, Some, None, All}
use Rattle.sx_mean.specs.Application.{PartTree}
use Rattle.sx_mean.specs.Ends.{ends_of}
use Rattle.sx_rules.specs.declared.section.Section.{Section}
use Rattle.sx_rules.specs.Access.{Lives}
use Rattle.sx_rules.specs.Admission.{refusal, admitted}
use Rattle.sx_bus.specs.Devices.{places_of}
use Rattle.sx_trace.specs.declared.items.Item.TheVariants as item
use Rattle.spec_machine.specs.State.{State}
use Rattle.spec_machine.specs.Node.{IsNode}
use Rattle.spec_invocation.specs.ModuleState.{initial_state}
use Rattle.sx_image.specs.Image.{private_bytes, public_bytes}
use Rattle.spec_run.specs.Setting.{Site, Setting}
use Rattle.spec_run.specs.Deployer.{key_of, list_at}
use Rattle.spec_run.specs.State.{World}
use Rattle.spec_run.specs.Acts.{with_node}
use Rattle.spec_run.specs.Run.{load}
use Rattle.spec_run.specs.Law.{IsLawfulSetting}
use Rattle.law_setup.proofs.forms.Settled.{ModuleStands}

-- no section and no device of a node begins below 0x0200
pub record StandsHigh (s : State) : Type 0 where
  pub sections : (x : Section) → Lives s.sections.live x
      → (512 ≤ x.layout.pub_from) × (512 ≤ x.layout.priv_from)
  pub devices : All (λ at. 512 ≤ at) (places_of s.devices)

-- The m-th module may be loaded at its node: no module runs there, the node was never reset, and
-- nothing refuses the section.
pub record IsLoadable (set : Setting) (w : World) (m : ℕ) (q : PartTree) (site : Site) (s : State) : Type 0 where
  pub part : slice_get set.app.parts m ≡ Some q
  pub sited : slice_get set.sites m ≡ Some site
  pub there : slice_get w.nodes site.node ≡ Some s
  pub node : IsNode s
  pub idle : s.cur ≡ 0
  pub boot : s.boot ≡ 0
  pub key : s.key ≡ list_at set.keys site.node
  pub low : StandsHigh s
  pub high : (512 ≤ site.layout.pub_from) × (512 ≤ site.layout.priv_from)
  pub free : refusal s.sections site.layout (places_of s.devices) ≡ None
  pub bytes : All (λ b. b < 256) site.text

-- the node after it: one more section, with the module's text and its first state; the other
-- sections' bytes are as before
pub record IsLoaded (set : Setting) (m : ℕ) (q : PartTree) (site : Site) (s t : State) : Type 0 where
  pub node : IsNode t
  pub idle : t.cur ≡ 0
  pub boot : t.boot ≡ 0
  pub key : t.key ≡ s.key
  pub devices : t.devices ≡ s.devices
  pub sections : t.sections ≡ admitted s.sections site.layout site.provider (key_of set site 0)
  pub stands : ModuleStands set m q site (initial_state q.tree (ends_of set.app m)) t
  pub public : (x : Section) → Lives s.sections.live x
      → public_bytes x.layout t.mem ≡ public_bytes x.layout s.mem
  pub private : (x : Section) → Lives s.sections.live x
      → private_bytes x.layout t.mem ≡ private_bytes x.layout s.mem

-- loading shows that the module was protected, and changes its node alone
pub record LoadDoes (set : Setting) (w : World) (m : ℕ) (q : PartTree) (site : Site) (s : State) : Type 0 where
  pub after : State
  pub loaded : IsLoaded set m q site s after
  pub is : load set w (Some site)
      ≡ record {
        world = with_node w site.node after w.ledger (w.steps + 1);
        items = item.Protect site.node (Some m) ∷ [];
      }

abbrev pub ModuleLoaded : Type 0
ModuleLoaded = (set : Setting) (w : World) (m : ℕ) (q : PartTree) (site : Site) (s : State)
    → IsLawfulSetting set → IsLoadable set w m q site s → LoadDoes set w m q site s
