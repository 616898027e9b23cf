-- What a step runs, it had the right to run.
use Rattle.std.proofs.Common.{◌≡◌, ℕ, zero, suc, ◌+◌, ◌%◌, ◌<◌, ◌≤◌, inl, inr, ◌==◌, ◌&&◌, ◌||◌, not, Bool, true, false, cond, List, [], ◌∷◌, Option, Some, None, refl, sym, ◌∙◌, subst, arith}
use Rattle.std.specs.Prelude.{nat_le, nat_lt}
use Rattle.std.specs.List.{list_all}
use Rattle.std.proofs.lemmas.Bool.{true≢false, and_parts, and_from, or_cases, or_right, not-true, leb-true, ltb-true, le-leb, lt-ltb, eqb-true, false_from_ne_true}
use Rattle.sx_rules.specs.declared.access.Access.TheVariants.{Run}
use Rattle.sx_rules.specs.declared.access.Violation.TheVariants as bad
use Rattle.sx_rules.specs.declared.section.Section.{Section}
use Rattle.sx_rules.specs.declared.section.Layout.{Layout}
use Rattle.sx_rules.specs.Access.{may, allows, in_public, in_private, at_entry, outside_private, in_order, Lives}
use Rattle.sx_rules.specs.Admission.{apart, good_bounds, is_even}
use Rattle.sx_rules.proofs.Placing.{apart-swap}
use Rattle.spec_machine.specs.Memory.{even}
use Rattle.sx_bus.specs.declared.devices.Window.{Window}
use Rattle.sx_bus.specs.Devices.{places_of, on_word, device_at}
use Rattle.std.specs.Prelude.{slice_get}
use Rattle.sx_tag.specs.Mac.{Mac}
use Rattle.spec_machine.specs.declared.kinds.Event.TheVariants.{Reset}
use Rattle.spec_machine.specs.State.{State}
use Rattle.spec_machine.specs.Run.{may_at, Outcome, Violated}
use Rattle.spec_machine.specs.Step.{pc_of, instruction, ordered, word_outside, settled_step}
use Rattle.spec_machine.specs.Node.{IsNode}
use Rattle.spec_machine.specs.Frame.{RunsByTable}
use Rattle.spec_machine.proofs.PlanGuard.{passes}
use Rattle.spec_machine.proofs.Devices.{some_inj, position_is}
use Rattle.spec_machine.proofs.Registers.{pc_even}
use Rattle.spec_machine.proofs.Frame.{all_pass, out_of, lives_sound}

-- where PC may be by one section: outside its public part, in that of the module that runs, or at the entry
abbrev InOrder : ℕ → ℕ → Section → Type 0
InOrder cur pc s = (not (in_public s pc) || (cur == s.id || pc == s.layout.pub_from)) ≡ true

pub start_even : (l : Layout) → good_bounds l ≡ true → l.pub_from % 2 ≡ 0
start_even l h =
    let one = and_parts (nat_lt l.pub_from l.pub_to) _ h in
    let two = and_parts (nat_lt l.priv_from l.priv_to) _ one.1 in
    eqb-true (l.pub_from % 2) 0 (and_parts (is_even l.pub_from) _ two.1).0

-- the second byte of the word lies in the public part only where the first does
second_outside : (s : Section) (pc : ℕ) → pc % 2 ≡ 0 → s.layout.pub_from % 2 ≡ 0 → in_public s pc ≡ false → in_public s (pc + 1) ≡ false
second_outside s pc even_pc even_from out = false_from_ne_true (in_public s (pc + 1)) (λ e.
    let p = and_parts (nat_le s.layout.pub_from (pc + 1)) (nat_lt (pc + 1) s.layout.pub_to) e in
    let lo : s.layout.pub_from ≤ pc = omega (arith, leb-true s.layout.pub_from (pc + 1) p.0, even_pc, even_from) in
    let hi : pc < s.layout.pub_to = omega (arith, ltb-true (pc + 1) s.layout.pub_to p.1) in
    true≢false (sym (and_from (nat_le s.layout.pub_from pc) (nat_lt pc s.layout.pub_to) (le-leb s.layout.pub_from pc lo) (lt-ltb pc s.layout.pub_to hi)) ∙ out))

-- a section lets code of `cur` run a byte outside its private part that lies outside its public part, too, or where `cur`
-- is its module, or at its entry
runs_outside : (s : Section) (cur k : ℕ) → in_private s k ≡ false → in_public s k ≡ false → allows cur Run k s ≡ true
runs_outside s cur k p q = rw (p, q) refl

runs_own : (s : Section) (cur k : ℕ) → in_private s k ≡ false → (cur == s.id) ≡ true → allows cur Run k s ≡ true
runs_own s cur k p e = rw (p, e) (or_right (not (in_public s k)) true refl)

runs_entry : (s : Section) (cur k : ℕ) → in_private s k ≡ false → at_entry s k ≡ true → allows cur Run k s ≡ true
runs_entry s cur k p e = rw (p, e) (or_right (not (in_public s k)) ((cur == s.id) || true) (or_right (cur == s.id) true refl))

entry_word : (s : Section) (pc : ℕ) → pc ≡ s.layout.pub_from → (at_entry s pc ≡ true) × (at_entry s (pc + 1) ≡ true)
entry_word s pc e = (
  and_from (nat_le s.layout.pub_from pc) (nat_lt pc (s.layout.pub_from + 2)) (le-leb s.layout.pub_from pc (omega (arith, e))) (lt-ltb pc (s.layout.pub_from + 2) (omega (arith, e))),
  and_from (nat_le s.layout.pub_from (pc + 1)) (nat_lt (pc + 1) (s.layout.pub_from + 2))
      (le-leb s.layout.pub_from (pc + 1) (omega (arith, e))) (lt-ltb (pc + 1) (s.layout.pub_from + 2) (omega (arith, e))),
)

word_runs : (s : Section) (cur pc : ℕ) → pc % 2 ≡ 0 → s.layout.pub_from % 2 ≡ 0 → in_private s pc ≡ false → in_private s (pc + 1) ≡ false → InOrder cur pc s
    → (allows cur Run pc s ≡ true) × (allows cur Run (pc + 1) s ≡ true)
word_runs s cur pc even_pc even_from p q h = elim (or_cases (not (in_public s pc)) (cur == s.id || pc == s.layout.pub_from) h) [
  | inl out ↦
      let first = not-true (in_public s pc) out in
      (runs_outside s cur pc p first, runs_outside s cur (pc + 1) q (second_outside s pc even_pc even_from first))
  | inr inside ↦ elim (or_cases (cur == s.id) (pc == s.layout.pub_from) inside) [
    | inl own ↦ (runs_own s cur pc p own, runs_own s cur (pc + 1) q own)
    | inr entry ↦
        let e = entry_word s pc (eqb-true pc s.layout.pub_from entry) in
        (runs_entry s cur pc p e.0, runs_entry s cur (pc + 1) q e.1)
  ]
]

outside_each : (live : List Section) (at : ℕ) (s : Section) → outside_private live at ≡ true → Lives live s → in_private s at ≡ false
outside_each live at s h l = not-true (in_private s at) (passes (λ x. not (in_private x at)) live s l h)

all_run : (a : State) → IsNode a → outside_private a.sections.live (pc_of a) ≡ true → outside_private a.sections.live (pc_of a + 1) ≡ true
    → ((s : Section) → Lives a.sections.live s → InOrder a.cur (pc_of a) s)
    → (may a.sections.live a.cur Run (pc_of a) && may a.sections.live a.cur Run (pc_of a + 1)) ≡ true
unfolding may
all_run a h p q order =
    let live = a.sections.live in
    let both : (s : Section) → Lives live s → (allows a.cur Run (pc_of a) s ≡ true) × (allows a.cur Run (pc_of a + 1) s ≡ true) =
    λ s l. word_runs s a.cur (pc_of a) (pc_even a.regs h.registers) (start_even s.layout (lives_sound a.sections.next live s h.placed.each l).bounds)
    (outside_each live (pc_of a) s p l) (outside_each live (pc_of a + 1) s q l) (order s l) in
    and_from (list_all (allows a.cur Run (pc_of a)) live) (list_all (allows a.cur Run (pc_of a + 1)) live)
    (all_pass (allows a.cur Run (pc_of a)) live (λ s l. (both s l).0)) (all_pass (allows a.cur Run (pc_of a + 1)) live (λ s l. (both s l).1))

place_passes : (test : ℕ → Bool) (ws : List Window) (k : ℕ) (w : Window) → list_all test (places_of ws) ≡ true → slice_get ws k ≡ Some w → test w.at ≡ true
place_passes test [] k w h e = absurd cc
place_passes test (x ∷ ws) zero w h e =
    subst (λ (z : Window). test z.at ≡ true) (some_inj x w e) (and_parts (test x.at) (list_all test (places_of ws)) h).0
place_passes test (x ∷ ws) (suc k) w h e = place_passes test ws k w (and_parts (test x.at) (list_all test (places_of ws)) h).1 e

-- PC on a device's word lies in no public section
on_device : (a : State) (k : ℕ) (s : Section) → IsNode a → device_at a.devices (pc_of a) ≡ Some k → Lives a.sections.live s → in_public s (pc_of a) ≡ false
on_device a k s h e l =
    let pc = pc_of a in
    let found = position_is (on_word pc) 0 a.devices k e in
    let w = found.1 in
    let on = and_parts (nat_le w.at pc) (nat_lt pc (w.at + 2)) found.4 in
    let clear = place_passes (λ place. apart s.layout.pub_from s.layout.pub_to place (place + 2)) a.devices found.0 w (h.apart s l) found.3 in
    out_of w.at (w.at + 2) s.layout.pub_from s.layout.pub_to pc (apart-swap s.layout.pub_from s.layout.pub_to w.at (w.at + 2) clear) (leb-true w.at pc on.0) (ltb-true pc (w.at + 2) on.1)

-- an outcome that the law speaks of
abbrev Goes : State → Outcome → Type 0
Goes a o = ((settled_step a o).shown.event ≡ Reset bad.Fetch → ⊥) × ((settled_step a o).shown.event ≡ Reset bad.Order → ⊥)

order_of : (mac : Mac) (a : State) (d : Option ℕ) → IsNode a → device_at a.devices (pc_of a) ≡ d → Goes a (ordered mac a d) → (s : Section) → Lives a.sections.live s → InOrder a.cur (pc_of a) s
order_of mac a (Some k) h e goes s l = rw (on_device a k s h e l) refl
order_of mac a None h e goes s l = by (in_order a.sections.live a.cur (pc_of a)) refl goes
  where
    by : (b : Bool) → in_order a.sections.live a.cur (pc_of a) ≡ b → Goes a (cond b (instruction mac a) (Violated bad.Order)) → InOrder a.cur (pc_of a) s
    by true q goes = passes (λ x. not (in_public x (pc_of a)) || (a.cur == x.id || pc_of a == x.layout.pub_from)) a.sections.live s l q
    by false q goes = absurd (goes.1 refl)

outside_of : (mac : Mac) (a : State) (b : Bool) → IsNode a → word_outside a.sections.live (pc_of a) ≡ b
    → Goes a (cond b (ordered mac a (device_at a.devices (pc_of a))) (Violated bad.Fetch)) → may_at true a.sections.live a.cur Run (pc_of a) ≡ true
outside_of mac a false h e goes = absurd (goes.0 refl)
outside_of mac a true h e goes =
    let pc = pc_of a in
    let live = a.sections.live in
    let same : even pc ≡ pc = omega (arith, pc_even a.regs h.registers) in
    let out = and_parts (outside_private live (even pc)) (outside_private live (even pc + 1)) e in
    subst (λ (i : ℕ). (may live a.cur Run i && may live a.cur Run (i + 1)) ≡ true) (sym same)
    (all_run a h (subst (λ (i : ℕ). outside_private live i ≡ true) same out.0) (subst (λ (i : ℕ). outside_private live (i + 1) ≡ true) same out.1)
    (order_of mac a (device_at a.devices pc) h refl goes))

pub runs_by_table : RunsByTable
runs_by_table mac a h fetch order = outside_of mac a (word_outside a.sections.live (pc_of a)) h refl (fetch, order)
