-- What a step of a module that is under way keeps.
use Rattle.std.proofs.Common.{◌≡◌, ◌≢◌, inl, inr, List, [], ◌++◌, None, refl, sym, ◌∙◌, ap, subst}
use Rattle.sx_rules.specs.declared.section.Section.{Section}
use Rattle.sx_rules.specs.Access.{Sections, Lives}
use Rattle.sx_tag.specs.Mac.{Mac}
use Rattle.spec_machine.specs.State.{State}
use Rattle.spec_machine.specs.Step.{step, own_of}
use Rattle.spec_machine.specs.Node.{IsNode}
use Rattle.spec_machine.specs.Acting.{Step}
use Rattle.spec_machine.proofs.Stays.{acted_key}
use Rattle.spec_machine.proofs.StepGuard.{step_guarded}
use Rattle.spec_invocation.specs.Marks.{Mark}
use Rattle.sx_image.specs.Watched.{violation_of, marks_of}
use Rattle.sx_image.specs.Image.{private_bytes, public_bytes}
use Rattle.spec_run.proofs.steps.Machine.{machine_laws, onward, no_reset}
use Rattle.spec_run.proofs.steps.Bystanders.{kept_bytes}
use Rattle.law_calls.specs.Shown.{devices_after}
use Rattle.law_calls.proofs.Observing.{step_devices, devices_append}

-- from the node `before` on, with these marks, to the node s, while only code of `sec` ran
pub record Middle (sec : Section) (before s : State) (seen : List Mark) : Type 0 where
  pub node : IsNode s
  pub boot : s.boot ≡ before.boot
  pub key : s.key ≡ before.key
  pub sections : s.sections ≡ before.sections
  pub devices : s.devices ≡ devices_after seen before.devices
  pub texts : (x : Section) → Lives before.sections.live x → public_bytes x.layout s.mem ≡ public_bytes x.layout before.mem
  pub others : (x : Section) → Lives before.sections.live x → sec.id ≢ x.id → private_bytes x.layout s.mem ≡ private_bytes x.layout before.mem

pub first_middle : (sec : Section) (before : State) → IsNode before → Middle sec before before []
first_middle sec before node = record { node = node; boot = refl; key = refl; sections = refl; devices = refl; texts = λ x l. refl; others = λ x l ne. refl }

module _ (mac : Mac) (sec : Section) (before s : State) (seen : List Mark) (h : Middle sec before s seen) (own : own_of s ≡ sec.id)
    (quiet : violation_of (step mac s).shown.event ≡ None) (same : (step mac s).state.sections ≡ before.sections) where
  abbrev t : State
  t = (step mac s).state

  abbrev ms : List Mark
  ms = marks_of (step mac s).shown (step mac s).state.exchange

  lives_here : (x : Section) → Lives before.sections.live x → Lives s.sections.live x
  lives_here x l = subst (λ (z : Sections). Lives z.live x) (sym h.sections) l

  private_here : (x : Section) → Lives before.sections.live x → sec.id ≢ x.id → private_bytes x.layout t.mem ≡ private_bytes x.layout s.mem
  private_here x l ne =
      elim ((step_guarded mac x s h.node.placed (lives_here x l) (inl (λ e. ne (sym own ∙ e)))).kept) [
        | inl k ↦ kept_bytes x s.mem t.mem k.0
        | inr r ↦ absurd (no_reset s t (onward mac s quiet).boot r)
      ]

  pub next_middle : Middle sec before t (seen ++ ms)
  next_middle =
      let laws = machine_laws mac in
      record {
        node = laws.node s h.node;
        boot = (onward mac s quiet).boot ∙ h.boot;
        key = acted_key mac Step s ∙ h.key;
        sections = same;
        devices = step_devices (own_of s) s.sections.live (step mac s).shown t.exchange s.devices t.devices (laws.shown s h.node quiet)
            ∙ ap (λ ds. devices_after ms ds) h.devices ∙ sym (devices_append seen ms before.devices);
        texts = λ x l. laws.public s x h.node (lives_here x l) quiet ∙ h.texts x l;
        others = λ x l ne. private_here x l ne ∙ h.others x l ne;
      }
