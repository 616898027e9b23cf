-- No act changes a live section's public bytes, unless the node is reset.
use Rattle.std.proofs.Common.{◌≡◌, ◌≢◌, ℕ, ◌+◌, ◌%◌, ◌<◌, ◌≤◌, ◌⊎◌, inl, inr, ◌==◌, ◌&&◌, ◌||◌, not, Bool, true, false, if◌then◌else◌, List, [], ◌∷◌, length}
use Rattle.std.proofs.Common.{Option, Some, None, refl, ◌∙◌, subst, arith}
use Rattle.std.specs.Prelude.{slice_set, slice_index, nat_le, nat_lt}
use Rattle.std.specs.List.{list_any, list_all}
use Rattle.std.proofs.lemmas.Bool.{true≢false, and_parts, cases_lt, leb-true, ltb-true, ltb-false, false_from_ne_true, or_parts, and_cases}
use Rattle.std.proofs.lemmas.List.{get_or-set_other}
use Rattle.sx_rules.specs.declared.access.Access.TheVariants.{Write}
use Rattle.sx_rules.specs.declared.section.Section.{Section}
use Rattle.sx_rules.specs.Access.{may, allows, in_public, Lives}
use Rattle.sx_bus.specs.Devices.{places_of, with_sample}
use Rattle.spec_machine.specs.declared.kinds.Refused.{Refused}
use Rattle.spec_machine.specs.declared.kinds.Refused.TheVariants as refused
use Rattle.spec_machine.specs.Memory.{bytes_from, put_bytes}
use Rattle.spec_machine.specs.Registers.{set_reg}
use Rattle.spec_machine.specs.Ranges.{meets, passes_end, meets_public, meets_private, meets_device}
use Rattle.spec_machine.specs.State.{State, reset}
use Rattle.spec_machine.specs.Run.{exec}
use Rattle.spec_machine.specs.Step.{Shown, own_of, start, step}
use Rattle.spec_machine.specs.Acts.{unless, put_refusal, take_refusal, busy, irq_refusal, interrupt, interrupted}
use Rattle.spec_machine.specs.Acting.{Step, Restart, Put as PutAct, Set, Take, Sense, Interrupt}
use Rattle.spec_machine.specs.Frame.{Framed, KeptPublic, PublicKept}
use Rattle.spec_machine.proofs.PlanGuard.{passes}
use Rattle.spec_machine.proofs.Frame.{steps_framed, interrupt_framed}

-- no code may write a public byte
unwritten : (live : List Section) (own k : ℕ) (s : Section) → Lives live s → in_public s k ≡ true → may live own Write k ≡ false
unfolding may
unwritten live own k s l p = false_from_ne_true (list_all (allows own Write k) live) (λ e.
    true≢false (sym_of (and_parts (not (in_public s k)) _ (passes (allows own Write k) live s l e)).0 p))
  where
    sym_of : not (in_public s k) ≡ true → in_public s k ≡ true → true ≡ false
    sym_of e p = by (in_public s k) e p
      where
        by : (b : Bool) → not b ≡ true → b ≡ true → true ≡ false
        by true e p = absurd cc
        by false e p = cc

pub framed_public : (live : List Section) (own : ℕ) (s : Section) (m n : List ℕ) → Lives live s → Framed live own m n → KeptPublic s m n
framed_public live own s m n l f k p = f k (unwritten live own k s l p)

abbrev KeepsIt : Section → State → State → Type 0
KeepsIt s a b = KeptPublic s a.mem b.mem ⊎ (b ≡ reset a)

framed_keeps : (own : ℕ) (s : Section) (a b : State) → Lives a.sections.live s → Framed a.sections.live own a.mem b.mem ⊎ (b ≡ reset a) → KeepsIt s a b
framed_keeps own s a b l (inl f) = inl (framed_public a.sections.live own s a.mem b.mem l f)
framed_keeps own s a b l (inr e) = inr e

pub put_other : (bs mem : List ℕ) (at k : ℕ) → (k < at) ⊎ (at + length bs ≤ k) → slice_index (put_bytes mem at bs) k ≡ slice_index mem k
put_other [] mem at k h = refl
put_other (b ∷ bs) mem at k h =
    let ne : k ≢ at = λ e. elim h [ inl lt ↦ absurd (omega (arith, lt, e)) | inr ge ↦ absurd (omega (arith, ge, e)) ] in
    put_other bs (slice_set mem at (b % 256)) (at + 1) k (elim h [ inl lt ↦ inl (omega (arith, lt)) | inr ge ↦ inr (omega (arith, ge)) ])
    ∙ get_or-set_other mem at k (b % 256) 0 ne

pub none_any : (test : Section → Bool) (live : List Section) (sec : Section) → list_any test live ≡ false → Lives live sec → test sec ≡ false
none_any test [] sec e l = absurd l
none_any test (x ∷ live) sec e l =
    let p = or_parts (test x) (list_any test live) e in
    elim l [ inl same ↦ subst (λ z. test z ≡ false) same p.0 | inr r ↦ none_any test live sec p.1 r ]

pub clear_of_range : (at n from to k : ℕ) → meets at n from to ≡ false → from ≤ k → k < to → (k < at) ⊎ (at + n ≤ k)
clear_of_range at n from to k e lo hi = elim (cases_lt k at) [
  | inl lt ↦ inl lt
  | inr ge ↦ elim (cases_lt k (at + n)) [
    | inl lt ↦
        elim (and_cases (nat_lt 0 n) (nat_lt at to && nat_lt from (at + n)) e) [
          | inl a ↦ absurd (omega (arith, ltb-false 0 n a, ge, lt))
          | inr b ↦ elim (and_cases (nat_lt at to) (nat_lt from (at + n)) b) [
            | inl c ↦ absurd
                (omega (arith, ltb-false at to c, ge, hi))
            | inr c ↦ absurd (omega (arith, ltb-false from (at + n) c, lo, lt))
          ]
        ]
    | inr past ↦ inr past
  ]
]

put_apart : (a : State) (at n : ℕ) → put_refusal a at n ≡ None → meets_public a.sections.live at n ≡ false
put_apart a at n e = by (a.cur == 0) e
  where
    second : (b : Bool) → (passes_end at n || (meets_public a.sections.live at n || (meets_private a.sections.live at n || meets_device (places_of a.devices) at n))) ≡ b
        → (if b then Some refused.Guarded else None) ≡ None → meets_public a.sections.live at n ≡ false
    second true t e = absurd cc
    second false t e = (or_parts (meets_public a.sections.live at n) _ (or_parts (passes_end at n) _ t).1).0

    by : (b : Bool) → (if not b then Some refused.Busy else if passes_end at n ||
        (meets_public a.sections.live at n || (meets_private a.sections.live at n || meets_device (places_of a.devices) at n)) then
        Some refused.Guarded else None) ≡ None → meets_public a.sections.live at n ≡ false
    by true e = second _ refl e
    by false e = absurd cc

put_public : (a : State) (at : ℕ) (bytes : List ℕ) (s : Section) → Lives a.sections.live s → put_refusal a at (length bytes) ≡ None → KeptPublic s a.mem (put_bytes a.mem at bytes)
put_public a at bytes s l e k p =
    let q = and_parts (nat_le s.layout.pub_from k) (nat_lt k s.layout.pub_to) p in
    put_other bytes a.mem at k (clear_of_range at (length bytes) s.layout.pub_from s.layout.pub_to k
    (none_any (λ z. meets at (length bytes) z.layout.pub_from z.layout.pub_to) a.sections.live s (put_apart a at (length bytes) e) l)
    (leb-true s.layout.pub_from k q.0) (ltb-true k s.layout.pub_to q.1))

unless_public : {T : Type 0} (o : Option Refused) (a : State) (done : Shown T) (s : Section) → (o ≡ None → KeepsIt s a done.state) → KeepsIt s a (unless o a done).state
unless_public None a done s f = f refl
unless_public (Some r) a done s f = inl (λ k p. refl)

pub public_kept : PublicKept
public_kept mac Step a s pl l = framed_keeps (own_of a) s a (step mac a).state l (steps_framed mac a pl)
public_kept mac Restart a s pl l = inr refl
public_kept mac (PutAct at bytes) a s pl l = unless_public {T = Unit {0}} (put_refusal a at (length bytes)) a
    (record { state = record a { mem = put_bytes a.mem at bytes }; shown = tt }) s (λ e. inl (put_public a at bytes s l e))
public_kept mac (Set r v) a s pl l = unless_public {T = Unit {0}} (busy a) a
    (record { state = record a { regs = set_reg a.regs r v; last = if r == 0 then 0 else a.last }; shown = tt }) s (λ e. inl (λ k p. refl))
public_kept mac (Take at n) a s pl l = unless_public (take_refusal a at n) a (record { state = a; shown = bytes_from a.mem at n }) s (λ e. inl (λ k p. refl))
public_kept mac (Sense device v) a s pl l = unless_public {T = Unit {0}} (busy a) a (record { state = record a { devices = with_sample a.devices device v }; shown = tt }) s (λ e. inl (λ k p. refl))
public_kept mac (Interrupt line) a s pl l = unless_public (irq_refusal a) a
    (interrupted a (exec a.sections 0 (interrupt line a.regs) (start a))) s
    (λ e. framed_keeps 0 s a (interrupted a (exec a.sections 0 (interrupt line a.regs) (start a))).state l (interrupt_framed line a))
