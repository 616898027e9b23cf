-- Code outside a section touches no device in its private section.
use Rattle.std.proofs.Common.{◌≡◌, ◌≢◌, ℕ, false, List, [], ◌∷◌, refl, sym, ◌∙◌, ap, subst}
use Rattle.sx_rules.specs.declared.access.Access.TheVariants.{Read, Write}
use Rattle.sx_rules.specs.declared.section.Section.{Section}
use Rattle.sx_rules.specs.Access.{in_private, Lives}
use Rattle.sx_bus.specs.declared.devices.Window.{Window}
use Rattle.sx_bus.specs.Devices.{cleared}
use Rattle.spec_machine.specs.declared.kinds.Touch.{Touch}
use Rattle.spec_machine.specs.declared.kinds.Touch.TheVariants.{Quiet, DeviceRead, DeviceWrite}
use Rattle.spec_machine.specs.State.{State}
use Rattle.spec_machine.specs.Run.{Outcome, Finished, Violated, Module, exec}
use Rattle.spec_machine.specs.Step.{own_of, start, attempt, settled_step}
use Rattle.spec_machine.specs.declared.kinds.Seen.{Seen}
use Rattle.spec_machine.specs.Acts.{interrupt, interrupted, irq_refusal}
use Rattle.spec_machine.proofs.RunGuard.{not_zero}
use Rattle.spec_machine.proofs.PlanGuard.{barred}
use Rattle.spec_machine.specs.NodeLaws.{shapes}
use Rattle.spec_machine.specs.Touches.{Replays, NoneInside, Attributes, AttributesInterrupt}
use Rattle.spec_machine.proofs.Devices.{some_inj, cleared_shapes, window_same}
use Rattle.spec_machine.proofs.Sparse.{attempt_traced, interrupt_traced, done_is}
use Rattle.spec_machine.proofs.Touches.{TracedBy}

pub replays_outside : (live : List Section) (own : ℕ) (s : Section) → Lives live s → own ≢ s.id
    → (ts : List Touch) (first a b : List Window) → shapes first ≡ shapes a → Replays live own ts a b → NoneInside s first ts
replays_outside live own s l ne [] first a b e h = tt
replays_outside live own s l ne (Quiet ∷ ts) first a b e h = replays_outside live own s l ne ts first a b e h
replays_outside live own s l ne (DeviceRead k v ∷ ts) first a b e h = (
  (λ w f. let x = window_same first a k w e f in
      subst (λ j. in_private s j ≡ false) (ap (λ (z : Window). z.at) (some_inj h.0 x.0 (sym h.1 ∙ x.1)) ∙ x.2) (barred live own Read h.0.at s l ne h.5)),
  replays_outside live own s l ne ts first (cleared a k) b (e ∙ sym (cleared_shapes a k)) h.6,
)
replays_outside live own s l ne (DeviceWrite k v ∷ ts) first a b e h = (
  (λ w f. let x = window_same first a k w e f in
      subst (λ j. in_private s j ≡ false) (ap (λ (z : Window). z.at) (some_inj h.0 x.0 (sym h.1 ∙ x.1)) ∙ x.2) (barred live own Write h.0.at s l ne h.3)),
  replays_outside live own s l ne ts first a b e h.4,
)

settled_outside : (a : State) (s : Section) (o : Outcome) → Lives a.sections.live s → own_of a ≢ s.id
    → TracedBy a.sections.live (own_of a) a.devices o → NoneInside s a.devices (settled_step a o).shown.touch
settled_outside a s (Finished regs x) l ne h = replays_outside a.sections.live (own_of a) s l ne x.touches a.devices a.devices x.devices refl h
settled_outside a s (Violated v) l ne h = tt
settled_outside a s (Module regs x t e c) l ne h = replays_outside a.sections.live (own_of a) s l ne x.touches a.devices a.devices x.devices refl h

pub attributes : Attributes
attributes mac a s node l ne = settled_outside a s (attempt mac a) l ne (attempt_traced mac a node)

interrupted_outside : (a : State) (s : Section) (o : Outcome) → Lives a.sections.live s → 0 ≢ s.id → TracedBy a.sections.live 0 a.devices o → NoneInside s a.devices (interrupted a o).shown.touch
interrupted_outside a s (Finished regs x) l ne h = replays_outside a.sections.live 0 s l ne x.touches a.devices a.devices x.devices refl h
interrupted_outside a s (Violated v) l ne h = tt
interrupted_outside a s (Module regs x t e c) l ne h = tt

pub attributes_interrupt : AttributesInterrupt
attributes_interrupt line a s seen node l e =
    let done = interrupted a (exec a.sections 0 (interrupt line a.regs) (start a)) in
    subst (λ (z : Seen). NoneInside s a.devices z.touch) (done_is (irq_refusal a) a done seen e).1
    (interrupted_outside a s (exec a.sections 0 (interrupt line a.regs) (start a)) l (not_zero a.sections s node.placed l) (interrupt_traced line a node))
