-- What the event of a step says.
use Rattle.std.proofs.Common.{◌≡◌, ◌≢◌, ℕ, zero, suc, ◌+◌, ◌-◌, ◌<◌, ◌≤◌, ◌⊎◌, inl, inr, ◌==◌, ◌||◌, Bool, true, false, cond, if◌then◌else◌, List, [], ◌∷◌}
use Rattle.std.proofs.Common.{◌++◌, length, replicate, Option, Some, None, refl, sym, ◌∙◌, ap, subst, arith}
use Rattle.std.specs.Prelude.{slice_set, slice_index}
use Rattle.std.proofs.lemmas.Bool.{cases_lt, eq-eqb}
use Rattle.std.proofs.lemmas.List.{get_or-set_other, get_or-set_same, set_past, get_or_past}
use Rattle.sx_rules.specs.declared.section.Section.{Section}
use Rattle.sx_rules.specs.Access.{Sections, Lives, section_of, holder, in_public}
use Rattle.sx_rules.specs.Placed.{Placed}
use Rattle.sx_rules.proofs.Placing.{placed_found}
use Rattle.sx_tag.specs.Mac.{Mac}
use Rattle.sx_tag.specs.Keys.{module_key}
use Rattle.spec_machine.specs.declared.kinds.Refused.{Refused}
use Rattle.spec_machine.specs.declared.kinds.Event.{Event}
use Rattle.spec_machine.specs.declared.kinds.Event.TheVariants as event
use Rattle.spec_machine.specs.declared.kinds.Exchange.{Exchange}
use Rattle.spec_machine.specs.Memory.{bytes_from, zeroed}
use Rattle.spec_machine.specs.State.{State, reset}
use Rattle.spec_machine.specs.Run.{Moment, Outcome, Finished, Violated, Module, exec}
use Rattle.spec_machine.specs.Protect.{layout_in, provider_in, key_for, wiped}
use Rattle.spec_machine.specs.Step.{Shown, step, own_of, pc_of, start, given_at_pc, attempt, state_after, left, settled_step}
use Rattle.spec_machine.specs.Acts.{unless, put_refusal, take_refusal, busy, irq_refusal, interrupt, interrupted}
use Rattle.spec_machine.specs.Acting.{Step, Restart, Put, Set, Take, Sense, Interrupt}
use Rattle.spec_machine.specs.Events.{private_bytes, IsZeroed, chain_key, IsCodeOf, IsAdmitted, Says, StepsSay, OthersKeepSections, FreshSections}
use Rattle.spec_machine.proofs.Devices.{some_inj}
use Rattle.spec_machine.proofs.Events.{Told, Same, Admits, Removes, ToldBy, attempt_told}
use Rattle.spec_machine.proofs.Sections.{acted_placed}
use Rattle.spec_machine.proofs.RunGuard.{not_zero}
use Rattle.spec_machine.proofs.Stays.{found_lives}

-- Zeros.

pub same_bytes : (m n : List ℕ) (at len : ℕ) → ((k : ℕ) → at ≤ k → k < at + len → slice_index n k ≡ slice_index m k) → bytes_from n at len ≡ bytes_from m at len
unfolding bytes_from
same_bytes m n at zero f = refl
same_bytes m n at (suc len) f =
    let one : bytes_from n at len ≡ bytes_from m at len = same_bytes m n at len (λ k a b. f k a (omega (arith, b))) in
    let two : slice_index n (at + len) ≡ slice_index m (at + len) = f (at + len) (omega arith) (omega arith) in
    ap (λ z. z ++ slice_index n (at + len) ∷ []) one ∙ ap (λ v. bytes_from m at len ++ v ∷ []) two

set_zero : (xs : List ℕ) (i : ℕ) → slice_index (slice_set xs i 0) i ≡ 0
set_zero xs i = elim (cases_lt i (length xs)) [
  | inl lt ↦ get_or-set_same xs i 0 0 lt
  | inr ge ↦ ap (λ z. slice_index z i) (set_past xs i 0 ge) ∙ get_or_past xs i 0 ge
]

more_of : (n v : ℕ) → replicate n v ++ v ∷ [] ≡ replicate (suc n) v
more_of zero v = refl
more_of (suc n) v = ap (λ r. v ∷ r) (more_of n v)

zeroed_bytes : (mem : List ℕ) (at n : ℕ) → bytes_from (zeroed mem at n) at n ≡ replicate n 0
unfolding bytes_from zeroed
zeroed_bytes mem at zero = refl
zeroed_bytes mem at (suc n) =
    let z = zeroed mem at n in
    let first : bytes_from (slice_set z (at + n) 0) at n ≡ bytes_from z at n = same_bytes z
    (slice_set z (at + n) 0) at n (λ k lo hi. get_or-set_other z (at + n) k 0 0 (λ e. absurd (omega (arith, hi, e)))) in
    ap (λ l. l ++ slice_index (slice_set z (at + n) 0) (at + n) ∷ []) (first ∙ zeroed_bytes mem at n)
    ∙ ap (λ v. replicate n 0 ++ v ∷ []) (set_zero z (at + n)) ∙ more_of n 0

-- Whose code the instruction is.

code_at : (live : List Section) (at : ℕ) → holder live at ≢ 0 → IsCodeOf live (holder live at) at
code_at [] at h = absurd (h refl)
code_at (x ∷ live) at h = by (in_public x at) refl (code_at live at) h
  where
    by : (b : Bool) → in_public x at ≡ b → (holder live at ≢ 0 → IsCodeOf live (holder live at) at) → cond b x.id (holder live at) ≢ 0
        → IsCodeOf (x ∷ live) (cond b x.id (holder live at)) at
    by true e f h = record { section = x; lives = inl refl; named = refl; holds = e }
    by false e f h = let c = f h in record { section = c.section; lives = inr c.lives; named = c.named; holds = c.holds }

own_code : (a : State) (s : Section) → Placed a.sections → section_of a.sections.live (own_of a) ≡ Some s → IsCodeOf a.sections.live (own_of a) (pc_of a)
own_code a s p found =
    let l = found_lives a.sections.live (own_of a) s found in
    code_at a.sections.live (pc_of a) (λ e. not_zero a.sections s p l.0 (sym (l.1 ∙ e)))

-- the section of a module that is found by its id is the one whose code it is
own_is : (a : State) (s : Section) (p : Placed a.sections) (found : section_of a.sections.live (own_of a) ≡ Some s) → (own_code a s p found).section ≡ s
own_is a s p found =
    let c = own_code a s p found in
    some_inj c.section s (sym (placed_found a.sections c.section p c.lives) ∙ ap (λ i. section_of a.sections.live i) c.named ∙ found)

chain_is : (mac : Mac) (a : State) → key_for mac (given_at_pc mac a) a.mem (layout_in a.regs) ≡ chain_key mac a (provider_in a.regs) (layout_in a.regs)
unfolding module_key
chain_is mac a = refl

says_left : (mac : Mac) (a : State) (regs : List ℕ) (x : Moment) → Says mac a (state_after a (own_of a) regs x a.sections a.exchange) (left a (own_of a) regs)
says_left mac a regs x = by (own_of a == 0) (holder a.sections.live (slice_index regs 0) == own_of a) refl refl
  where
    by : (p q : Bool) → (own_of a == 0) ≡ p → (holder a.sections.live (slice_index regs 0) == own_of a) ≡ q
        → Says mac a (state_after a (own_of a) regs x a.sections a.exchange) (if p || q then event.Quiet else event.Left (own_of a))
    by true q e f = refl
    by false true e f = refl
    by false false e f = (
      code_at a.sections.live (pc_of a) (λ z. absurd (true_is_false (sym (eq-eqb (own_of a) 0 z) ∙ e))),
      (λ z. absurd (true_is_false (sym (eq-eqb (holder a.sections.live (slice_index regs 0)) (own_of a) z) ∙ f))),
      refl,
    )
      where
        true_is_false : true ≡ false → ⊥
        true_is_false h = cc

says_told : (mac : Mac) (a : State) (regs : List ℕ) (x : Moment) (t : Sections) (e : Event) (c : Exchange) → Placed a.sections
    → Told mac (given_at_pc mac a) a.mem x.mem t e → Says mac a (state_after a (own_of a) regs x t c) e
says_told mac a regs x t event.Quiet c p (Same h same) = same
says_told mac a regs x t (event.Reset v) c p (Same h same) = absurd h
says_told mac a regs x t (event.Protected id) c p (Same h same) = absurd h
says_told mac a regs x t (event.Removed id) c p (Same h same) = absurd h
says_told mac a regs x t (event.Wrapped id) c p (Same h same) =
    (subst (λ i. IsCodeOf a.sections.live i (pc_of a)) (sym h.0) (own_code a h.1 p h.2), same)
says_told mac a regs x t (event.Unwrapped id) c p (Same h same) =
    (subst (λ i. IsCodeOf a.sections.live i (pc_of a)) (sym h.0) (own_code a h.1 p h.2), same)
says_told mac a regs x t (event.Left id) c p (Same h same) = absurd h
says_told mac a regs x t e c p (Admits none same wipe) =
    let l = layout_in a.regs in
    record {
      next = refl;
      admits = none;
      sections = subst (λ (key : List ℕ). t ≡ Rattle.sx_rules.specs.Admission.admitted a.sections l (provider_in a.regs) key) (chain_is mac a) same;
      memory = wipe;
      zeros = ap (λ bs. private_bytes l bs) wipe ∙ zeroed_bytes a.mem l.priv_from (l.priv_to - l.priv_from);
    }
says_told mac a regs x t e c p (Removes s found same wipe) =
    record {
      code = own_code a s p found;
      sections = same;
      memory = subst (λ (z : Section). x.mem ≡ wiped a.mem z.layout) (sym (own_is a s p found)) wipe;
      zeros = subst (λ (z : Section). IsZeroed z.layout x.mem) (sym (own_is a s p found))
          (ap (λ bs. private_bytes s.layout bs) wipe ∙ zeroed_bytes a.mem s.layout.priv_from (s.layout.priv_to - s.layout.priv_from));
    }

settled_says : (mac : Mac) (a : State) (o : Outcome) → Placed a.sections → ToldBy mac (given_at_pc mac a) a.mem o → Says mac a (settled_step a o).state (settled_step a o).shown.event
settled_says mac a (Finished regs x) p h = says_left mac a regs x
settled_says mac a (Violated v) p h = refl
settled_says mac a (Module regs x t e c) p h = says_told mac a regs x t e c p h

pub steps_say : StepsSay
steps_say mac a p = settled_says mac a (attempt mac a) p (attempt_told mac a)

-- The other acts.

unless_keeps : {T : Type 0} (o : Option Refused) (a : State) (done : Shown T) → (done.state.sections ≡ a.sections) ⊎ (done.state ≡ reset a)
    → ((unless o a done).state.sections ≡ a.sections) ⊎ ((unless o a done).state ≡ reset a)
unless_keeps None a done h = h
unless_keeps (Some r) a done h = inl refl

interrupted_keeps : (a : State) (o : Outcome) → ((interrupted a o).state.sections ≡ a.sections) ⊎ ((interrupted a o).state ≡ reset a)
interrupted_keeps a (Finished regs x) = inl refl
interrupted_keeps a (Violated v) = inr refl
interrupted_keeps a (Module regs x t e c) = inl refl

pub others_keep_sections : OthersKeepSections
others_keep_sections mac Step a f = absurd f
others_keep_sections mac Restart a f = inr refl
others_keep_sections mac (Put at bytes) a f = unless_keeps (put_refusal a at _) a _ (inl refl)
others_keep_sections mac (Set r v) a f = unless_keeps (busy a) a _ (inl refl)
others_keep_sections mac (Take at n) a f = unless_keeps (take_refusal a at n) a _ (inl refl)
others_keep_sections mac (Sense device v) a f = unless_keeps (busy a) a _ (inl refl)
others_keep_sections mac (Interrupt line) a f = unless_keeps (irq_refusal a) a _ (interrupted_keeps a (exec a.sections 0 (interrupt line a.regs) (start a)))

-- A section that was just protected.

pub end_lives : (live : List Section) (new : Section) → Lives (live ++ new ∷ []) new
end_lives [] new = inl refl
end_lives (x ∷ live) new = inr (end_lives live new)

pub fresh_sections : FreshSections
fresh_sections mac a id s p e found =
    let b = (step mac a).state in
    let h : IsAdmitted mac a b id = subst (λ (z : Event). Says mac a b z) e (steps_say mac a p) in
    let l = layout_in a.regs in
    let new : Section = record { layout = l; provider = provider_in a.regs; id = a.sections.next; key = chain_key mac a (provider_in a.regs) l } in
    let lives : Lives b.sections.live new = subst (λ (z : Sections). Lives z.live new) (sym h.sections) (end_lives a.sections.live new) in
    let same : new ≡ s = some_inj new s (sym (placed_found b.sections new (acted_placed mac Step a p) lives) ∙ ap (λ i. section_of b.sections.live i) (sym h.next) ∙ found) in
    subst (λ (z : Section). IsZeroed z.layout b.mem) same h.zeros
