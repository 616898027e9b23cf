-- Every run of a node is guarded.
use Rattle.std.proofs.Common.{◌≡◌, ◌≢◌, ℕ, ◌<◌, inl, inr, List, [], ◌∷◌, refl, sym, ◌∙◌, ap, subst, arith}
use Rattle.sx_rules.specs.declared.section.Section.{Section}
use Rattle.sx_rules.specs.Access.{Sections, Lives}
use Rattle.sx_rules.specs.Placed.{Placed, AllSound}
use Rattle.sx_tag.specs.Mac.{Mac}
use Rattle.spec_machine.specs.State.{State, reset}
use Rattle.spec_machine.specs.Step.{Shown, step}
use Rattle.spec_machine.specs.Acts.{put, take, set, sense, irq}
use Rattle.spec_machine.specs.Guard.{Twins, Untouched, Same}
use Rattle.spec_machine.specs.Guarding.{Guarded, FromOutside, AllFromOutside}
use Rattle.spec_machine.specs.Acting.{Act, Step, Restart, Put, Set, Take, Sense, Interrupt, Sight, Stepped, Restarted, Answered, Took, Interrupted, shown_as, acted, acted_all}
use Rattle.spec_machine.proofs.StepGuard.{with_mem, step_guarded}
use Rattle.spec_machine.proofs.ActGuard.{put_guarded, take_guarded, set_guarded, sense_guarded, irq_guarded, reset_guarded}
use Rattle.spec_machine.proofs.Sections.{acted_placed}

-- ids begin at 1
pub lives_given : (next : ℕ) (live : List Section) (s : Section) → AllSound next live → Lives live s → 0 < s.id
lives_given next [] s a l = absurd l
lives_given next (x ∷ xs) s a l = elim l [ inl e ↦ subst (λ (u : Section). 0 < u.id) e a.0.given | inr r ↦ lives_given next xs s a.1 r ]

pub not_zero : (t : Sections) (s : Section) → Placed t → Lives t.live s → 0 ≢ s.id
not_zero t s p l = λ e. let h = lives_given t.next t.live s p.each l in omega (arith, e, h)

-- the same under a view of what is shown
viewed : {T : Type 0} (view : T → Sight) (f : State → Shown T) (s : Section) (a : State) → Guarded T f s a → Guarded Sight (λ x. shown_as view (f x)) s a
viewed view f s a g = record {
  kept = g.kept;
  blind = λ b t. (ap view (g.blind b t).0, (g.blind b t).1);
}

pub acts_guarded : (mac : Mac) (s : Section) (act : Act) (a : State) → Placed a.sections → Lives a.sections.live s → FromOutside s act a → Guarded Sight (acted mac act) s a
acts_guarded mac s Step a p l f = viewed Stepped (step mac) s a (step_guarded mac s a p l f)
acts_guarded mac s Restart a p l f = viewed (λ (u : Unit {0}). Restarted) (λ x. record { state = reset x; shown = tt }) s a (reset_guarded s a)
acts_guarded mac s (Put at bytes) a p l f = viewed Answered (λ x. put x at bytes) s a (put_guarded s a at bytes l)
acts_guarded mac s (Set r v) a p l f = viewed Answered (λ x. set x r v) s a (set_guarded s a r v l)
acts_guarded mac s (Take at n) a p l f = viewed Took (λ x. take x at n) s a (take_guarded s a at n l)
acts_guarded mac s (Sense device v) a p l f = viewed Answered (λ x. sense x device v) s a (sense_guarded s a device v l)
acts_guarded mac s (Interrupt line) a p l f = viewed Interrupted (λ x. irq x line) s a (irq_guarded s a line l (not_zero a.sections s p l))

-- the act is from outside for the twin too
outside_twin : (s : Section) (act : Act) (a : State) (n : List ℕ) → FromOutside s act a → FromOutside s act (with_mem a n)
outside_twin s Step a n f = f
outside_twin s Restart a n f = tt
outside_twin s (Put at bytes) a n f = tt
outside_twin s (Set r v) a n f = tt
outside_twin s (Take at n) a m f = tt
outside_twin s (Sense device v) a n f = tt
outside_twin s (Interrupt line) a n f = tt

-- the sections of twins are the same
twin_lives : (s : Section) (a b : State) → Twins s a b → Lives b.sections.live s → Lives a.sections.live s
twin_lives s a b t l = subst (λ (x : State). Lives x.sections.live s) t.rest l

-- after one act on twins: s is there and they are twins, or both were reset and are one
after_act : (s : Section) (a n x y : State) → n ≡ with_mem a n.mem → Untouched s a x → Untouched s n y → Twins s x y → Same s x y
after_act s a n x y e (inl k) u t = inl (k.1, t)
after_act s a n x y e (inr r) (inl k) t = absurd (subst (λ (z : State). Lives z.sections.live s) r (twin_lives s x y t k.1))
after_act s a n x y e (inr r) (inr q) t = inr (r ∙ sym (q ∙ ap reset e))

pub act_same : (mac : Mac) (s : Section) (act : Act) (a b : State) → Placed a.sections → (Lives a.sections.live s → FromOutside s act a) → Same s a b
    → ((acted mac act a).shown ≡ (acted mac act b).shown) × Same s (acted mac act a).state (acted mac act b).state
act_same mac s act a b p f (inr e) = (ap (λ x. (acted mac act x).shown) e, inr (ap (λ x. (acted mac act x).state) e))
act_same mac s act a b p f (inl h) =
    let t = h.1 in
    let g = acts_guarded mac s act a p h.0 (f h.0) in
    let l : Lives (with_mem a b.mem).sections.live s = h.0 in
    let twin : Guarded Sight (acted mac act) s b =
    subst (λ (z : State). Guarded Sight (acted mac act) s z) (sym t.rest) (acts_guarded mac s act (with_mem a b.mem) p l (outside_twin s act a b.mem (f h.0))) in
    ((g.blind b t).0, after_act s a b (acted mac act a).state (acted mac act b).state t.rest g.kept twin.kept (g.blind b t).1)

pub runs_blind : (mac : Mac) (s : Section) (acts : List Act) (a b : State) → Placed a.sections → AllFromOutside mac s acts a → Same s a b
    → ((acted_all mac acts a).shown ≡ (acted_all mac acts b).shown) × Same s (acted_all mac acts a).state (acted_all mac acts b).state
runs_blind mac s [] a b p f h = (refl, h)
runs_blind mac s (act ∷ acts) a b p f h =
    let one = act_same mac s act a b p f.0 h in
    let rest = runs_blind mac s acts (acted mac act a).state (acted mac act b).state (acted_placed mac act a p) f.1 one.1 in
    (cons_same one.0 rest.0, rest.1)
  where
    cons_same : {x y : Sight} {xs ys : List Sight} → x ≡ y → xs ≡ ys → (x ∷ xs) ≡ (y ∷ ys)
    cons_same e f = cc
