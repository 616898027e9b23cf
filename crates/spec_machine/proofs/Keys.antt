-- The key of each live section is the chain's for its present bytes.
use Rattle.std.proofs.Common.{◌≡◌, ℕ, ◌-◌, ◌<◌, ◌≤◌, ◌⊎◌, inl, inr, true, List, [], ◌∷◌, Option, Some, None, refl, sym, ◌∙◌, ap, subst, arith}
use Rattle.std.specs.Prelude.{slice_index, nat_le, nat_lt}
use Rattle.std.proofs.lemmas.Bool.{and_parts, and_from, or_cases, leb-true, ltb-true, le-leb, lt-ltb}
use Rattle.sx_rules.specs.declared.section.Section.{Section}
use Rattle.sx_rules.specs.declared.section.Layout.{Layout}
use Rattle.sx_rules.specs.Access.{Sections, Lives}
use Rattle.sx_rules.specs.Admission.{refusal, parts_apart, good_bounds}
use Rattle.sx_rules.specs.Placed.{Placed}
use Rattle.sx_rules.proofs.Admits.{admits}
use Rattle.sx_bus.specs.Devices.{places_of}
use Rattle.sx_tag.specs.Mac.{Mac}
use Rattle.sx_tag.specs.Keys.{identity, module_key}
use Rattle.spec_machine.specs.declared.kinds.Refused.{Refused}
use Rattle.spec_machine.specs.declared.kinds.Event.{Event}
use Rattle.spec_machine.specs.declared.kinds.Event.TheVariants as event
use Rattle.spec_machine.specs.State.{State, reset}
use Rattle.spec_machine.specs.Run.{Outcome, Finished, Violated, Module, exec}
use Rattle.spec_machine.specs.Protect.{layout_in, provider_in, identity_at, wiped}
use Rattle.spec_machine.specs.Step.{Shown, step, start, attempt, settled_step}
use Rattle.spec_machine.specs.Acts.{unless, put_refusal, take_refusal, busy, irq_refusal, interrupt, interrupted}
use Rattle.spec_machine.specs.Acting.{Act, Step, Restart, Put, Set, Take, Sense, Interrupt, acted}
use Rattle.spec_machine.specs.Events.{chain_key, Says}
use Rattle.spec_machine.specs.Frame.{KeptPublic, HaveKeys, KeepsKeys, PowerOnHasKeys}
use Rattle.spec_machine.proofs.Sections.{acted_placed}
use Rattle.spec_machine.proofs.Stays.{acted_key}
use Rattle.spec_machine.proofs.Apart.{lives_push, lives_without}
use Rattle.spec_machine.proofs.Meanings.{same_bytes, steps_say, others_keep_sections}
use Rattle.spec_machine.proofs.Frame.{zeroed_other}
use Rattle.spec_machine.proofs.PublicKept.{public_kept}

priv_bounds : (l : Layout) → good_bounds l ≡ true → nat_lt l.priv_from l.priv_to ≡ true
priv_bounds l h = (and_parts (nat_lt l.priv_from l.priv_to) _ (and_parts (nat_lt l.pub_from l.pub_to) _ h).1).0

same_identity : (l : Layout) (m n : List ℕ) → ((k : ℕ) → l.pub_from ≤ k → k < l.pub_to → slice_index n k ≡ slice_index m k) → identity_at n l ≡ identity_at m l
same_identity l m n f =
    ap (λ (bytes : List ℕ). identity bytes l.pub_from l.pub_to l.priv_from l.priv_to)
    (same_bytes m n l.pub_from (l.pub_to - l.pub_from) (λ k lo hi. f k lo (omega (arith, lo, hi))))

-- the chain's key for a layout, where key, boot count and the public bytes are as before
same_chain : (mac : Mac) (a b : State) (provider : ℕ) (l : Layout) → b.key ≡ a.key → b.boot ≡ a.boot → identity_at b.mem l ≡ identity_at a.mem l
    → chain_key mac b provider l ≡ chain_key mac a provider l
same_chain mac a b provider l k n i =
    ap (λ (key : List ℕ). module_key mac key b.boot provider (identity_at b.mem l)) k
    ∙ ap (λ (boot : ℕ). module_key mac a.key boot provider (identity_at b.mem l)) n
    ∙ ap (λ (bytes : List ℕ). module_key mac a.key a.boot provider bytes) i

-- a section that was there before keeps the chain's key
section_kept : (mac : Mac) (a b : State) (s : Section) → b.key ≡ a.key → b.boot ≡ a.boot → KeptPublic s a.mem b.mem
    → s.key ≡ chain_key mac a s.provider s.layout → s.key ≡ chain_key mac b s.provider s.layout
section_kept mac a b s k n f h =
    h ∙ sym (same_chain mac a b s.provider s.layout k n (same_identity s.layout a.mem b.mem (λ i lo hi.
    f i (and_from (nat_le s.layout.pub_from i) (nat_lt i s.layout.pub_to) (le-leb s.layout.pub_from i lo) (lt-ltb i s.layout.pub_to hi)))))

reset_has_keys : (mac : Mac) (a : State) → HaveKeys mac (reset a)
reset_has_keys mac a s l = absurd l

-- each section that was there before and after an act
old_keys : (mac : Mac) (act : Act) (a : State) (s : Section) → Placed a.sections → HaveKeys mac a → Lives a.sections.live s
    → (acted mac act a).state.boot ≡ a.boot → KeptPublic s a.mem (acted mac act a).state.mem → s.key ≡ chain_key mac (acted mac act a).state s.provider s.layout
old_keys mac act a s p h l n f = section_kept mac a (acted mac act a).state s (acted_key mac act a) n f (h s l)

-- a section that was there before and is after an act that is no reset
from_old : (mac : Mac) (act : Act) (a : State) (s : Section) → Placed a.sections → HaveKeys mac a → (acted mac act a).state.boot ≡ a.boot
    → Lives a.sections.live s → Lives (acted mac act a).state.sections.live s → s.key ≡ chain_key mac (acted mac act a).state s.provider s.layout
from_old mac act a s p h n l m = elim (public_kept mac act a s p l) [
  | inl f ↦ old_keys mac act a s p h l n f
  | inr r ↦ absurd (subst (λ (z : State). Lives z.sections.live s) r m)
]

-- the public bytes of the layout that was just protected are as before
admitted_identity : (a : State) (m : List ℕ) → refusal a.sections (layout_in a.regs) (places_of a.devices) ≡ None → m ≡ wiped a.mem (layout_in a.regs)
    → identity_at m (layout_in a.regs) ≡ identity_at a.mem (layout_in a.regs)
admitted_identity a m none wipe =
    let l = layout_in a.regs in
    let ok = admits a.sections l (places_of a.devices) none in
    let parts = (and_parts (parts_apart l) _ ok.overlap).0 in
    let priv : l.priv_from < l.priv_to = ltb-true l.priv_from l.priv_to (priv_bounds l ok.bounds) in
    same_identity l a.mem m (λ k lo hi.
    ap (λ (bytes : List ℕ). slice_index bytes k) wipe
    ∙ zeroed_other a.mem l.priv_from (l.priv_to - l.priv_from) k (elim (or_cases (nat_le l.pub_to l.priv_from) (nat_le l.priv_to l.pub_from) parts) [
      | inl e ↦ inl (omega (arith, leb-true l.pub_to l.priv_from e, hi))
      | inr e ↦ inr (omega (arith, leb-true l.priv_to l.pub_from e, lo, priv))
    ]))

step_keys : (mac : Mac) (a : State) → Placed a.sections → HaveKeys mac a → (step mac a).state.boot ≡ a.boot
    → (e : Event) → Says mac a (step mac a).state e → HaveKeys mac (step mac a).state
step_keys mac a p h n event.Quiet says s m = from_old mac Step a s p h n (subst (λ (z : Sections). Lives z.live s) says m) m
step_keys mac a p h n (event.Reset v) says s m = absurd (subst (λ (z : State). Lives z.sections.live s) says m)
step_keys mac a p h n (event.Protected id) says s m =
    let b = (step mac a).state in
    let l = layout_in a.regs in
    let new : Section = record { layout = l; provider = provider_in a.regs; id = a.sections.next; key = chain_key mac a (provider_in a.regs) l } in
    elim (lives_push a.sections.live new s (subst (λ (z : Sections). Lives z.live s) says.sections m)) [
      | inl old ↦ from_old mac Step a s p h n old m
      | inr same ↦ subst (λ (z : Section). z.key ≡ chain_key mac b z.provider z.layout) same
          (sym (same_chain mac a b (provider_in a.regs) l (acted_key mac Step a) n (admitted_identity a b.mem says.admits says.memory)))
    ]
step_keys mac a p h n (event.Removed id) says s m =
    from_old mac Step a s p h n (lives_without a.sections.live id s (subst (λ (z : Sections). Lives z.live s) says.sections m)) m
step_keys mac a p h n (event.Wrapped id) says s m = from_old mac Step a s p h n (subst (λ (z : Sections). Lives z.live s) says.1 m) m
step_keys mac a p h n (event.Unwrapped id) says s m = from_old mac Step a s p h n (subst (λ (z : Sections). Lives z.live s) says.1 m) m
step_keys mac a p h n (event.Left id) says s m = from_old mac Step a s p h n (subst (λ (z : Sections). Lives z.live s) says.2 m) m

-- The boot count stays, or the node was reset.

settled_boot : (a : State) (o : Outcome) → ((settled_step a o).state.boot ≡ a.boot) ⊎ ((settled_step a o).state ≡ reset a)
settled_boot a (Finished regs x) = inl refl
settled_boot a (Violated v) = inr refl
settled_boot a (Module regs x t e c) = inl refl

interrupted_boot : (a : State) (o : Outcome) → ((interrupted a o).state.boot ≡ a.boot) ⊎ ((interrupted a o).state ≡ reset a)
interrupted_boot a (Finished regs x) = inl refl
interrupted_boot a (Violated v) = inr refl
interrupted_boot a (Module regs x t e c) = inl refl

unless_boot : {T : Type 0} (o : Option Refused) (a : State) (done : Shown T) → (done.state.boot ≡ a.boot) ⊎ (done.state ≡ reset a)
    → ((unless o a done).state.boot ≡ a.boot) ⊎ ((unless o a done).state ≡ reset a)
unless_boot None a done h = h
unless_boot (Some r) a done h = inl refl

acted_boot : (mac : Mac) (act : Act) (a : State) → ((acted mac act a).state.boot ≡ a.boot) ⊎ ((acted mac act a).state ≡ reset a)
acted_boot mac Step a = settled_boot a (attempt mac a)
acted_boot mac Restart a = inr refl
acted_boot mac (Put at bytes) a = unless_boot (put_refusal a at _) a _ (inl refl)
acted_boot mac (Set r v) a = unless_boot (busy a) a _ (inl refl)
acted_boot mac (Take at n) a = unless_boot (take_refusal a at n) a _ (inl refl)
acted_boot mac (Sense device v) a = unless_boot (busy a) a _ (inl refl)
acted_boot mac (Interrupt line) a = unless_boot (irq_refusal a) a _ (interrupted_boot a (exec a.sections 0 (interrupt line a.regs) (start a)))

-- an act that keeps the sections, unless it is a reset
others_keys : (mac : Mac) (act : Act) (a : State) → Placed a.sections → HaveKeys mac a → (acted mac act a).state.boot ≡ a.boot
    → ((acted mac act a).state.sections ≡ a.sections) ⊎ ((acted mac act a).state ≡ reset a) → HaveKeys mac (acted mac act a).state
others_keys mac act a p h n (inl same) s m = from_old mac act a s p h n (subst (λ (z : Sections). Lives z.live s) same m) m
others_keys mac act a p h n (inr r) s m = absurd (subst (λ (z : State). Lives z.sections.live s) r m)

each_keys : (mac : Mac) (act : Act) (a : State) → Placed a.sections → HaveKeys mac a → (acted mac act a).state.boot ≡ a.boot → HaveKeys mac (acted mac act a).state
each_keys mac Step a p h n = step_keys mac a p h n (step mac a).shown.event (steps_say mac a p)
each_keys mac Restart a p h n = reset_has_keys mac a
each_keys mac (Put at bytes) a p h n = others_keys mac (Put at bytes) a p h n (others_keep_sections mac (Put at bytes) a tt)
each_keys mac (Set r v) a p h n = others_keys mac (Set r v) a p h n (others_keep_sections mac (Set r v) a tt)
each_keys mac (Take at k) a p h n = others_keys mac (Take at k) a p h n (others_keep_sections mac (Take at k) a tt)
each_keys mac (Sense device v) a p h n = others_keys mac (Sense device v) a p h n (others_keep_sections mac (Sense device v) a tt)
each_keys mac (Interrupt line) a p h n = others_keys mac (Interrupt line) a p h n (others_keep_sections mac (Interrupt line) a tt)

acted_keys : (mac : Mac) (act : Act) (a : State) → Placed a.sections → HaveKeys mac a → HaveKeys mac (acted mac act a).state
acted_keys mac act a p h = elim (acted_boot mac act a) [
  | inl n ↦ each_keys mac act a p h n
  | inr r ↦ subst (λ (z : State). HaveKeys mac z) (sym r) (reset_has_keys mac a)
]

pub keeps_keys : KeepsKeys
keeps_keys mac [] a p h = h
keeps_keys mac (act ∷ acts) a p h = keeps_keys mac acts (acted mac act a).state (acted_placed mac act a p) (acted_keys mac act a p h)

pub power_on_has_keys : PowerOnHasKeys
power_on_has_keys mac key devices s l = absurd l
