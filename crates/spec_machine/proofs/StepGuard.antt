-- A step of other code than s's, or of s's code that isn't let run, is guarded.
use Rattle.std.proofs.Common.{◌≡◌, ◌≢◌, ℕ, ◌+◌, ◌-◌, Bool, true, false, cond, not, ◌&&◌, is_some, inl, inr, List, refl, sym, ap, subst, Option, Some, None}
use Rattle.std.proofs.lemmas.Bool.{and_parts, not-true}
use Rattle.sx_rules.specs.declared.access.Violation.TheVariants as bad
use Rattle.sx_rules.specs.declared.section.Section.{Section}
use Rattle.sx_rules.specs.Access.{Sections, in_private, outside_private, in_order, Lives}
use Rattle.sx_rules.specs.Placed.{Placed}
use Rattle.sx_bus.specs.Devices.{device_at}
use Rattle.sx_tag.specs.Mac.{Mac}
use Rattle.spec_machine.specs.declared.kinds.Event.{Event}
use Rattle.spec_machine.specs.declared.kinds.Event.TheVariants.{Reset}
use Rattle.spec_machine.specs.declared.kinds.Exchange.{Exchange}
use Rattle.spec_machine.specs.declared.kinds.Seen.{Seen}
use Rattle.spec_machine.specs.Memory.{even, word}
use Rattle.spec_machine.specs.State.{State}
use Rattle.spec_machine.specs.Run.{Moment, untouched, Outcome, Finished, Violated, Module, exec}
use Rattle.spec_machine.specs.Rows.{program}
use Rattle.spec_machine.specs.Modules.{module_instruction}
use Rattle.spec_machine.specs.Step.{Shown, pc_of, own_of, start, is_module_word, given_at_pc, instruction, word_outside, ordered, is_let_run, attempt, settled_step, step}
use Rattle.spec_machine.specs.Guard.{Alike, Twins, Untouched, Foreign}
use Rattle.spec_machine.specs.Guarding.{Guarded}
use Rattle.spec_machine.proofs.PlanGuard.{passes, word_alike, Moments, SameOutcome, KeptBy, same_if, kept_if, exec_alike, exec_kept}
use Rattle.spec_machine.proofs.ModuleGuard.{module_kept, module_alike}

-- the same node with other memory
abbrev pub with_mem : State → List ℕ → State
with_mem a n = record a { mem = n }

pub alike_same : (s : Section) (m : List ℕ) → Alike s m m
alike_same s m = record { size = refl; same = λ k p. refl }

pub twins_same : (s : Section) (a : State) → Twins s a a
twins_same s a = record { rest = refl; mem = alike_same s a.mem }

-- a live section's private bytes hold no instruction that may be run
not_private : (s : Section) (live : List Section) (at : ℕ) → Lives live s → outside_private live at ≡ true → in_private s at ≡ false
not_private s live at l h = not-true (in_private s at) (passes (λ x. not (in_private x at)) live s l h)

-- the instruction whose first word is w
abbrev at_word : Mac → ℕ → State → Outcome
at_word mac w a = cond (is_module_word w) (module_instruction mac (w - 0x1380) (given_at_pc mac a) a.mem) (exec a.sections (own_of a) (program w a.regs) (start a))

at_word_kept : (mac : Mac) (s : Section) (a : State) (w : ℕ) → Placed a.sections → Lives a.sections.live s → own_of a ≢ s.id → KeptBy s a.mem (at_word mac w a)
at_word_kept mac s a w p l ne =
    elim (is_module_word w) as (λ b. KeptBy s a.mem (cond b (module_instruction mac (w - 0x1380) (given_at_pc mac a) a.mem) (exec a.sections (own_of a) (program w a.regs) (start a))))
    [ true ↦ module_kept mac s (given_at_pc mac a) a.mem (w - 0x1380) p l ne | false ↦ exec_kept a.sections (own_of a) s l ne (program w a.regs) a.mem (start a) (λ k p. refl) ]

at_word_alike : (mac : Mac) (s : Section) (a : State) (n : List ℕ) (w : ℕ) → Lives a.sections.live s → own_of a ≢ s.id → Alike s a.mem n
    → SameOutcome s (at_word mac w a) (at_word mac w (with_mem a n))
at_word_alike mac s a n w l ne h =
    elim (is_module_word w) as (λ b. SameOutcome s (cond b (module_instruction mac (w - 0x1380) (given_at_pc mac a) a.mem) (exec a.sections (own_of a) (program w a.regs) (start a)))
    (cond b (module_instruction mac (w - 0x1380) (given_at_pc mac a) n) (exec a.sections (own_of a) (program w a.regs) (start (with_mem a n)))))
    [ true ↦ module_alike mac s (given_at_pc mac a) a.mem n (w - 0x1380) l ne h | false ↦ exec_alike a.sections (own_of a) s l ne (program w a.regs) (start a) n h ]

ordered_kept : (mac : Mac) (s : Section) (a : State) (d : Option ℕ) → Placed a.sections → Lives a.sections.live s → own_of a ≢ s.id → KeptBy s a.mem (ordered mac a d)
ordered_kept mac s a (Some d) p l ne = tt
ordered_kept mac s a None p l ne =
    kept_if s a.mem (in_order a.sections.live a.cur (pc_of a)) (instruction mac a) bad.Order (λ _. at_word_kept mac s a (word a.mem (pc_of a)) p l ne)

ordered_alike : (mac : Mac) (s : Section) (a : State) (n : List ℕ) (d : Option ℕ) → Lives a.sections.live s → own_of a ≢ s.id → Alike s a.mem n
    → (word a.mem (pc_of a) ≡ word n (pc_of a)) → SameOutcome s (ordered mac a d) (ordered mac (with_mem a n) d)
ordered_alike mac s a n (Some d) l ne h w = refl
ordered_alike mac s a n None l ne h w =
    same_if s (in_order a.sections.live a.cur (pc_of a)) (instruction mac a) (instruction mac (with_mem a n)) bad.Order (λ _.
    subst (λ (y : ℕ). SameOutcome s (at_word mac (word a.mem (pc_of a)) a) (at_word mac y (with_mem a n))) w
    (at_word_alike mac s a n (word a.mem (pc_of a)) l ne h))

attempt_kept : (mac : Mac) (s : Section) (a : State) → Placed a.sections → Lives a.sections.live s → own_of a ≢ s.id → KeptBy s a.mem (attempt mac a)
attempt_kept mac s a p l ne =
    kept_if s a.mem (word_outside a.sections.live (pc_of a)) (ordered mac a (device_at a.devices (pc_of a))) bad.Fetch
    (λ _. ordered_kept mac s a (device_at a.devices (pc_of a)) p l ne)

attempt_alike : (mac : Mac) (s : Section) (a : State) (n : List ℕ) → Lives a.sections.live s → own_of a ≢ s.id → Alike s a.mem n
    → SameOutcome s (attempt mac a) (attempt mac (with_mem a n))
attempt_alike mac s a n l ne h =
    let live = a.sections.live in
    let pc = pc_of a in
    same_if s (word_outside live pc) (ordered mac a (device_at a.devices pc)) (ordered mac (with_mem a n) (device_at a.devices pc)) bad.Fetch (λ e.
    let p = and_parts (outside_private live (even pc)) (outside_private live (even pc + 1)) e in
    ordered_alike mac s a n (device_at a.devices pc) l ne h
    (word_alike s a.mem n pc h (not_private s live (even pc) l p.0, not_private s live (even pc + 1) l p.1)))

settled_kept : (s : Section) (a : State) (o : Outcome) → Lives a.sections.live s → KeptBy s a.mem o → Untouched s a (settled_step a o).state
settled_kept s a (Finished regs x) l h = inl (h, l)
settled_kept s a (Violated v) l h = inr refl
settled_kept s a (Module regs x t e c) l h = inl h

-- two steps or acts that show the same and leave twins
abbrev pub SameEnd : {T : Type 0} → Section → Shown T → Shown T → Type 0
SameEnd s x y = (x.shown ≡ y.shown) × Twins s x.state y.state

settled_finished : (s : Section) (a : State) (n r : List ℕ) (x y : Moment) → Moments s x y → SameEnd s (settled_step a (Finished r x)) (settled_step (with_mem a n) (Finished r y))
settled_finished s a n r x y h =
    subst (λ (z : Moment). SameEnd s (settled_step a (Finished r x)) (settled_step (with_mem a n) (Finished r z))) (sym h.rest)
    (refl, record { rest = refl; mem = h.mem })

settled_module : (s : Section) (a : State) (n r : List ℕ) (x y : Moment) (t : Sections) (e : Event) (c : Exchange) → Moments s x y
    → SameEnd s (settled_step a (Module r x t e c)) (settled_step (with_mem a n) (Module r y t e c))
settled_module s a n r x y t e c h =
    subst (λ (z : Moment). SameEnd s (settled_step a (Module r x t e c)) (settled_step (with_mem a n) (Module r z t e c))) (sym h.rest)
    (refl, record { rest = refl; mem = h.mem })

settled_alike : (s : Section) (a : State) (n : List ℕ) (o p : Outcome) → SameOutcome s o p → SameEnd s (settled_step a o) (settled_step (with_mem a n) p)
settled_alike s a n (Finished r x) (Finished q y) h =
    subst (λ (z : List ℕ). SameEnd s (settled_step a (Finished r x)) (settled_step (with_mem a n) (Finished z y))) h.0 (settled_finished s a n r x y h.1)
settled_alike s a n (Module r x t e c) (Module q y u f d) h =
    subst (λ (z : List ℕ). SameEnd s (settled_step a (Module r x t e c)) (settled_step (with_mem a n) (Module z y u f d))) h.0
    (subst (λ (z : Sections). SameEnd s (settled_step a (Module r x t e c)) (settled_step (with_mem a n) (Module r y z f d))) h.2
    (subst (λ (z : Event). SameEnd s (settled_step a (Module r x t e c)) (settled_step (with_mem a n) (Module r y t z d))) h.3
    (subst (λ (z : Exchange). SameEnd s (settled_step a (Module r x t e c)) (settled_step (with_mem a n) (Module r y t e z))) h.4
    (settled_module s a n r x y t e c h.1))))
settled_alike s a n (Violated v) (Violated w) h = (ap (λ u. record { touch = untouched; event = Reset u }) h, record { rest = refl; mem = alike_same s _ })
settled_alike s a n (Finished r x) (Violated w) h = absurd h
settled_alike s a n (Finished r x) (Module q y u f d) h = absurd h
settled_alike s a n (Violated v) (Finished q y) h = absurd h
settled_alike s a n (Violated v) (Module q y u f d) h = absurd h
settled_alike s a n (Module r x t e c) (Finished q y) h = absurd h
settled_alike s a n (Module r x t e c) (Violated w) h = absurd h

-- A step whose instruction isn't let run ends in a violation, which the memory doesn't decide.

stopped_kept : (mac : Mac) (s : Section) (a : State) → is_let_run a ≡ false → KeptBy s a.mem (attempt mac a)
stopped_kept mac s a stopped = outer (word_outside a.sections.live (pc_of a)) (device_at a.devices (pc_of a)) stopped
  where
    ordered_stopped : (b : Bool) → b ≡ false → KeptBy s a.mem (cond b (instruction mac a) (Violated bad.Order))
    ordered_stopped true e = absurd cc
    ordered_stopped false e = tt

    outer : (b : Bool) (d : Option ℕ) → (b && (not (is_some d) && in_order a.sections.live a.cur (pc_of a))) ≡ false → KeptBy s a.mem (cond b (ordered mac a d) (Violated bad.Fetch))
    outer true (Some d) e = tt
    outer true None e = ordered_stopped (in_order a.sections.live a.cur (pc_of a)) e
    outer false d e = tt

stopped_alike : (mac : Mac) (s : Section) (a : State) (n : List ℕ) → is_let_run a ≡ false → SameOutcome s (attempt mac a) (attempt mac (with_mem a n))
stopped_alike mac s a n stopped = outer (word_outside a.sections.live (pc_of a)) (device_at a.devices (pc_of a)) stopped
  where
    ordered_stopped : (b : Bool) → b ≡ false → SameOutcome s (cond b (instruction mac a) (Violated bad.Order)) (cond b (instruction mac (with_mem a n)) (Violated bad.Order))
    ordered_stopped true e = absurd cc
    ordered_stopped false e = refl

    outer : (b : Bool) (d : Option ℕ) → (b && (not (is_some d) && in_order a.sections.live a.cur (pc_of a))) ≡ false
        → SameOutcome s (cond b (ordered mac a d) (Violated bad.Fetch)) (cond b (ordered mac (with_mem a n) d) (Violated bad.Fetch))
    outer true (Some d) e = refl
    outer true None e = ordered_stopped (in_order a.sections.live a.cur (pc_of a)) e
    outer false d e = refl

foreign_kept : (mac : Mac) (s : Section) (a : State) → Placed a.sections → Lives a.sections.live s → Foreign s a → KeptBy s a.mem (attempt mac a)
foreign_kept mac s a p l (inl ne) = attempt_kept mac s a p l ne
foreign_kept mac s a p l (inr stopped) = stopped_kept mac s a stopped

foreign_alike : (mac : Mac) (s : Section) (a : State) (n : List ℕ) → Lives a.sections.live s → Foreign s a → Alike s a.mem n → SameOutcome s (attempt mac a) (attempt mac (with_mem a n))
foreign_alike mac s a n l (inl ne) h = attempt_alike mac s a n l ne h
foreign_alike mac s a n l (inr stopped) h = stopped_alike mac s a n stopped

pub step_guarded : (mac : Mac) (s : Section) (a : State) → Placed a.sections → Lives a.sections.live s → Foreign s a → Guarded Seen (step mac) s a
step_guarded mac s a p l f = record {
  kept = settled_kept s a (attempt mac a) l (foreign_kept mac s a p l f);
  blind = λ b t.
      subst (λ (z : State). SameEnd s (step mac a) (step mac z)) (sym t.rest)
      (settled_alike s a b.mem (attempt mac a) (attempt mac (with_mem a b.mem)) (foreign_alike mac s a b.mem l f t.mem));
}
