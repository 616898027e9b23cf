-- The steps from a module's entry come to an end within the bound.
use Rattle.std.proofs.Common.{◌≡◌, ℕ, ◌+◌, ◌≤◌, List, [], Some, sym, ◌∙◌, ap, arith}
use Rattle.std.specs.Prelude.{slice_get}
use Rattle.sx_lang.specs.Sizes.{module_cost}
use Rattle.sx_mean.specs.Application.{declared_kind}
use Rattle.sx_check.proofs.Accepted.{accepted}
use Rattle.spec_machine.specs.declared.kinds.Event.TheVariants as event
use Rattle.spec_machine.specs.State.{State}
use Rattle.spec_machine.specs.Node.{IsNode}
use Rattle.spec_machine.specs.NodeLaws.{shapes}
use Rattle.spec_machine.specs.Step.{pc_of}
use Rattle.spec_invocation.specs.Progress.{Invoked}
use Rattle.spec_invocation.specs.Invocation.{invoke}
use Rattle.sx_image.specs.Image.{Enters, StandsProtected, call_at, progress_at}
use Rattle.spec_run.specs.Setting.{Setting, windows_at}
use Rattle.spec_run.specs.State.{World}
use Rattle.spec_run.specs.Run.{FINISH_STEPS}
use Rattle.spec_run.specs.Law.{image_at, devices_of, IsSoundSetting, IsDeployedModule}
use Rattle.spec_run.proofs.steps.Entry.{shapes_on, has_devices_same, quiet_left}
use Rattle.law_calls.specs.Calls.{Callee, IsCallable, setup_of}
use Rattle.law_calls.proofs.Middle.{first_middle}
use Rattle.law_calls.proofs.Running.{Ended, runs}

-- Devices of the same places and kinds.

-- a module's cost is below the most steps of a call
pub enough_steps : (cost : ℕ) → cost ≤ 262144 → 4096 + cost ≤ FINISH_STEPS
unfolding FINISH_STEPS
enough_steps cost le = omega (arith, le)

-- A `finish` from the module's entry, on the node with these registers.

module _ (set : Setting) (w : World) (c : Callee) (sound : IsSoundSetting set) (h : IsCallable set w c) (regs : List ℕ) (last : ℕ) where
  abbrev before : State
  before = record c.node { regs = regs; last = last }

  dep : IsDeployedModule set c.number c.part c.site
  dep = sound.deployed c.number c.part c.site h.part h.sited

  same_shapes : shapes (devices_of set c.part.node) ≡ shapes c.node.devices
  same_shapes = shapes_on (windows_at c.part.node set.app.devices set.places) ∙ ap (λ n. windows_at n set.app.devices set.places) (sym dep.node) ∙ sym h.windows

  abbrev pub stands : StandsProtected (image_at c.site) c.section before
  stands = record { lives = h.stands.lives; layout = h.stands.layout; provider = h.stands.provider; text = h.stands.text }

  abbrev pub result : Invoked
  result = invoke (setup_of set c) (call_at before) (progress_at (setup_of set c) before)

  enters : IsNode before → pc_of before ≡ c.site.layout.pub_from → Enters c.part.tree (image_at c.site) c.section before
  enters node entry = record {
    node = node;
    idle = h.idle;
    entry = entry;
    stands = stands;
    devices = has_devices_same (devices_of set c.part.node) c.node.devices (declared_kind c.part.tree.decls) c.site.layout same_shapes dep.devices;
  }

  -- its steps come to an end within the bound
  abbrev pub Finishes : World → Type 0
  Finishes u = Ended set sound c.number c.part c.site h.part h.sited c.section before stands result FINISH_STEPS (4096 + module_cost c.part.tree) u []

  pub finishes : (u : World) → slice_get u.nodes c.site.node ≡ Some before → IsNode before → pc_of before ≡ c.site.layout.pub_from → Finishes u
  finishes u here node entry =
      runs set sound c.number c.part c.site h.part h.sited c.section before stands result FINISH_STEPS (4096 + module_cost c.part.tree) u before [] event.Quiet
      (enough_steps (module_cost c.part.tree) (accepted c.part.tree dep.checked).cost) here (first_middle c.section before node) (dep.realizes.runs c.section before (enters node entry))
      (λ out. quiet_left c.section.id out.left)
