-- One module is set up.
use Rattle.std.specs.Prelude.{◌≡◌, ℕ, ◌<◌, List, ◌∷◌, ◌++◌, length, map, slice_get, slice_index, Option, Some, None}
use Rattle.sx_rules.specs.declared.section.Section.{Section}
use Rattle.sx_rules.specs.Access.{Lives}
use Rattle.sx_rules.specs.Admission.{admitted}
use Rattle.sx_mean.specs.Application.{PartTree}
use Rattle.sx_mean.specs.Ends.{ends_of}
use Rattle.sx_mean.specs.Places.{initial_cells}
use Rattle.spec_machine.specs.State.{State}
use Rattle.spec_machine.specs.Node.{IsNode}
use Rattle.spec_machine.specs.NodeLaws.{shapes}
use Rattle.sx_image.specs.Image.{private_bytes, public_bytes}
use Rattle.spec_invocation.specs.ModuleState.{ModuleState}
use Rattle.spec_run.specs.Setting.{Site, Setting, windows_at}
use Rattle.sx_wire.specs.Headers.{ask_packet}
use Rattle.sx_deployer.specs.Granting.{after_ask}
use Rattle.spec_run.specs.Deployer.{after_acceptance, key_of, set_key, set_key_entry}
use Rattle.spec_run.proofs.acts.Asking.{expected}
use Rattle.spec_run.specs.State.{World}
use Rattle.spec_run.specs.Law.{IsLawfulSetting}
use Rattle.spec_honest.specs.Course.{part_items}
use Rattle.law_setup.specs.Schedule.{part_lines}
use Rattle.law_setup.proofs.forms.ByLine.{part_shown}
use Rattle.law_setup.proofs.forms.Settled.{ModuleStands}
use Rattle.law_setup.proofs.forms.Loaded.{IsLoadable}
use Rattle.law_setup.proofs.forms.Served.{Moves}
use Rattle.law_setup.proofs.forms.Acting.{first_end}
use Rattle.law_setup.proofs.forms.Attesting.{grants_at, vouched_entry}

-- a module with its first cells and all ends open in epoch 0
abbrev pub first_state : Setting → ℕ → PartTree → ModuleState
first_state set m q = record {
  cells = initial_cells q.tree.decls;
  ends = map (first_end set) (ends_of set.app m);
}

-- The module was set up: its node has one more section, where it is with all ends open; the
-- bytes of the other sections are as before, and the lines showed what the source predicts.
pub record SetsUp (set : Setting) (w : World) (m : ℕ) (q : PartTree) (site : Site) (s : State) : Type 0 where
  pub after : State
  pub node : IsNode after
  pub idle : after.cur ≡ 0
  pub boot : after.boot ≡ 0
  pub key : after.key ≡ s.key
  pub devices : after.devices ≡ s.devices
  pub sections : after.sections ≡ admitted s.sections site.layout site.provider (key_of set site 0)
  pub stands : ModuleStands set m q site (first_state set m q) after
  pub public : (x : Section) → Lives s.sections.live x
      → public_bytes x.layout after.mem ≡ public_bytes x.layout s.mem
  pub private : (x : Section) → Lives s.sections.live x
      → private_bytes x.layout after.mem ≡ private_bytes x.layout s.mem
  pub moves : Moves set w (part_lines m (length w.packets) q (ends_of set.app m))
      (part_items m (length w.packets) q (ends_of set.app m))
      (part_shown m (length w.packets) q (ends_of set.app m)) site.node after
      (w.packets ++ ask_packet w.deployer.asks ∷ expected set site 0 (ask_packet w.deployer.asks)
      ∷ map (set_key set site) (grants_at w.deployer.epochs m (ends_of set.app m)))
      (after_acceptance set.app.links (after_ask w.deployer m) m 0 None)
      (w.ledger ++ vouched_entry m w.deployer.asks
      ∷ map (set_key_entry set) (grants_at w.deployer.epochs m (ends_of set.app m)))

-- The m-th module, which may be loaded, is set up if the deployer asked as many modules as come
-- before it and never attested it, and all connections are in epoch 0.
abbrev pub ModuleSetUp : Type 0
ModuleSetUp = (set : Setting) (w : World) (m : ℕ) (q : PartTree) (site : Site) (s : State) (old : Option (List ℕ))
    → IsLawfulSetting set → IsLoadable set w m q site s
    → shapes s.devices ≡ windows_at site.node set.app.devices set.places
    → w.deployer.asks ≡ m → m < 65536 → slice_get w.deployer.open_asks m ≡ Some old
    → slice_get w.deployer.attested m ≡ Some None
    → ((c : ℕ) → slice_index w.deployer.epochs c ≡ 0) → SetsUp set w m q site s
