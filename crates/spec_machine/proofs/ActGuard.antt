-- Every act on a node from outside its code is guarded.
use Rattle.std.proofs.Common.{◌≡◌, ◌≢◌, ℕ, ◌+◌, ◌%◌, ◌<◌, ◌≤◌, Bool, true, false, cond, not, ◌&&◌, ◌||◌, leb, ltb, ◌==◌, inl, inr, List, [], ◌∷◌, length, refl}
use Rattle.std.proofs.Common.{sym, ◌∙◌, ap, subst, arith, Option, Some, None, Result, Ok}
use Rattle.std.proofs.lemmas.Bool.{and_parts, true≢false, lt-ltb, leb-true, ltb-true, false_from_ne_true, or_parts, and_from}
use Rattle.std.specs.List.{list_any}
use Rattle.sx_rules.specs.declared.section.Section.{Section}
use Rattle.sx_rules.specs.Access.{in_private, Lives}
use Rattle.sx_bus.specs.Devices.{with_sample, places_of}
use Rattle.spec_machine.specs.declared.kinds.Refused.{Refused}
use Rattle.spec_machine.specs.declared.kinds.Refused.TheVariants.{Busy, Guarded as Barred}
use Rattle.spec_machine.specs.declared.kinds.Event.TheVariants.{Reset}
use Rattle.spec_machine.specs.declared.kinds.Seen.{Seen}
use Rattle.spec_machine.specs.Memory.{bytes_from, put_bytes}
use Rattle.spec_machine.specs.State.{State, reset}
use Rattle.spec_machine.specs.Registers.{set_reg}
use Rattle.spec_machine.specs.Run.{Moment, untouched, Outcome, Finished, Violated, Module, exec}
use Rattle.spec_machine.specs.Step.{Shown, start}
use Rattle.spec_machine.specs.Ranges.{meets, passes_end, meets_private, meets_public, meets_device}
use Rattle.spec_machine.specs.Acts.{put_refusal, take_refusal, busy, unless, put, take, set, sense, irq_refusal, interrupt, interrupted, irq}
use Rattle.spec_machine.specs.Guard.{Alike, Twins, PrivateKept, Untouched}
use Rattle.spec_machine.specs.Guarding.{Guarded}
use Rattle.spec_machine.proofs.PlanGuard.{set_kept, bytes_alike, put_alike, Moments, SameOutcome, KeptBy, exec_alike, exec_kept}
use Rattle.spec_machine.proofs.StepGuard.{with_mem, alike_same, twins_same, SameEnd}

-- what none meets, no live section meets
none_of : (t : Section → Bool) (xs : List Section) (s : Section) → Lives xs s → list_any t xs ≡ false → t s ≡ false
none_of t [] s l h = absurd l
none_of t (x ∷ xs) s l h =
    elim l [
      | inl e ↦ subst (λ (y : Section). t y ≡ false) e (or_parts (t x) (list_any t xs) h).0
      | inr r ↦ none_of t xs s r (or_parts (t x) (list_any t xs) h).1
    ]

-- bytes that don't meet the private section hold none of its bytes
apart_bytes : (s : Section) (at n : ℕ) → meets at n s.layout.priv_from s.layout.priv_to ≡ false → (k : ℕ) → at ≤ k → k < at + n → in_private s k ≡ false
apart_bytes s at n h k a b =
    false_from_ne_true (in_private s k) (λ e.
    let p = and_parts (leb s.layout.priv_from k) (ltb k s.layout.priv_to) e in
    let from = leb-true s.layout.priv_from k p.0 in
    let to = ltb-true k s.layout.priv_to p.1 in
    let some : 0 < n = omega (arith, a, b) in
    let low : at < s.layout.priv_to = omega (arith, a, to) in
    let high : s.layout.priv_from < at + n = omega (arith, b, from) in
    true≢false (sym (and_from (ltb 0 n) (ltb at s.layout.priv_to && ltb s.layout.priv_from (at + n)) (lt-ltb 0 n some)
    (and_from (ltb at s.layout.priv_to) (ltb s.layout.priv_from (at + n)) (lt-ltb at s.layout.priv_to low) (lt-ltb s.layout.priv_from (at + n) high))) ∙ h))

put_bytes_kept : (s : Section) (bs m0 m : List ℕ) (at : ℕ) → ((k : ℕ) → at ≤ k → k < at + length bs → in_private s k ≡ false) → PrivateKept s m0 m → PrivateKept s m0 (put_bytes m at bs)
put_bytes_kept s [] m0 m at f h = h
put_bytes_kept s (b ∷ bs) m0 m at f h =
    put_bytes_kept s bs m0 _ (at + 1) (λ k p q. f k (omega (arith, p)) (omega (arith, q)))
    (set_kept s m0 m at (b % 256) (f at (omega arith) (omega arith)) h)

-- an act that is refused or done
refused_kept : {T : Type 0} (s : Section) (a : State) (o : Option Refused) (done : Shown T) → Lives a.sections.live s
    → (o ≡ None → Untouched s a done.state) → Untouched s a (unless o a done).state
refused_kept s a None done l f = f refl
refused_kept s a (Some r) done l f = inl (λ k p. refl, l)

-- twins answer alike and stay twins, where they do so when nothing is refused
pub refused_same : {T : Type 0} (s : Section) (a b : State) (o : Option Refused) (x y : Shown T) → Twins s a b → (o ≡ None → SameEnd s x y)
    → SameEnd s (unless o a x) (unless o b y)
refused_same s a b None x y t f = (ap Ok (f refl).0, (f refl).1)
refused_same s a b (Some r) x y t f = (refl, t)

open_none : (b c : Bool) → cond b (Some Busy) (cond c (Some Barred) None) ≡ None → c ≡ false
open_none true c h = cc
open_none false true h = cc
open_none false false h = refl

put_open : (a : State) (at n : ℕ) → put_refusal a at n ≡ None → meets_private a.sections.live at n ≡ false
put_open a at n h =
    let all = open_none (not (a.cur == 0)) (passes_end at n || (meets_public a.sections.live at n || (meets_private a.sections.live at n || meets_device (places_of a.devices) at n))) h in
    let sections = (or_parts (passes_end at n) (meets_public a.sections.live at n || (meets_private a.sections.live at n || meets_device (places_of a.devices) at n)) all).1 in
    let private = (or_parts (meets_public a.sections.live at n) (meets_private a.sections.live at n || meets_device (places_of a.devices) at n) sections).1 in
    (or_parts (meets_private a.sections.live at n) (meets_device (places_of a.devices) at n) private).0

take_open : (a : State) (at n : ℕ) → take_refusal a at n ≡ None → meets_private a.sections.live at n ≡ false
take_open a at n h =
    let all = open_none (not (a.cur == 0)) (passes_end at n || (meets_private a.sections.live at n || meets_device (places_of a.devices) at n)) h in
    let private = (or_parts (passes_end at n) (meets_private a.sections.live at n || meets_device (places_of a.devices) at n) all).1 in
    (or_parts (meets_private a.sections.live at n) (meets_device (places_of a.devices) at n) private).0

-- no byte of a range that meets no private section is one of s's
range_apart : (a : State) (s : Section) (at n : ℕ) → Lives a.sections.live s → meets_private a.sections.live at n ≡ false
    → (k : ℕ) → at ≤ k → k < at + n → in_private s k ≡ false
range_apart a s at n l h = apart_bytes s at n (none_of (λ u. meets at n u.layout.priv_from u.layout.priv_to) a.sections.live s l h)

pub put_guarded : (s : Section) (a : State) (at : ℕ) (bytes : List ℕ) → Lives a.sections.live s → Guarded (Result (Unit {0}) Refused) (λ x. put x at bytes) s a
put_guarded s a at bytes l =
    let written : State → Shown (Unit {0}) = λ x. record { state = record x { mem = put_bytes x.mem at bytes }; shown = tt } in
    record {
      kept = refused_kept s a (put_refusal a at (length bytes)) (written a) l
          (λ e. inl (put_bytes_kept s bytes a.mem a.mem at (range_apart a s at (length bytes) l (put_open a at (length bytes) e)) (λ k p. refl), l));
      blind = λ b t.
          subst (λ (z : State). SameEnd s (put a at bytes) (put z at bytes)) (sym t.rest)
          (refused_same s a (with_mem a b.mem) (put_refusal a at (length bytes)) (written a) (written (with_mem a b.mem)) (record { rest = refl; mem = t.mem })
          (λ e. (refl, record { rest = refl; mem = put_alike s bytes a.mem b.mem at t.mem })));
    }

pub take_guarded : (s : Section) (a : State) (at n : ℕ) → Lives a.sections.live s → Guarded (Result (List ℕ) Refused) (λ x. take x at n) s a
take_guarded s a at n l =
    let read : State → Shown (List ℕ) = λ x. record { state = x; shown = bytes_from x.mem at n } in
    record {
      kept = refused_kept s a (take_refusal a at n) (read a) l (λ e. inl (λ k p. refl, l));
      blind = λ b t.
          subst (λ (z : State). SameEnd s (take a at n) (take z at n)) (sym t.rest)
          (refused_same s a (with_mem a b.mem) (take_refusal a at n) (read a) (read (with_mem a b.mem)) (record { rest = refl; mem = t.mem })
          (λ e. (bytes_alike s a.mem b.mem at n t.mem (range_apart a s at n l (take_open a at n e)), record { rest = refl; mem = t.mem })));
    }

pub set_guarded : (s : Section) (a : State) (r v : ℕ) → Lives a.sections.live s → Guarded (Result (Unit {0}) Refused) (λ x. set x r v) s a
set_guarded s a r v l =
    let changed : State → Shown (Unit {0}) = λ x. record { state = record x { regs = set_reg x.regs r v; last = cond (r == 0) 0 x.last }; shown = tt } in
    record {
      kept = refused_kept s a (busy a) (changed a) l (λ e. inl (λ k p. refl, l));
      blind = λ b t.
          subst (λ (z : State). SameEnd s (set a r v) (set z r v)) (sym t.rest)
          (refused_same s a (with_mem a b.mem) (busy a) (changed a) (changed (with_mem a b.mem)) (record { rest = refl; mem = t.mem })
          (λ e. (refl, record { rest = refl; mem = t.mem })));
    }

pub sense_guarded : (s : Section) (a : State) (device v : ℕ) → Lives a.sections.live s → Guarded (Result (Unit {0}) Refused) (λ x. sense x device v) s a
sense_guarded s a device v l =
    let changed : State → Shown (Unit {0}) = λ x. record { state = record x { devices = with_sample x.devices device v }; shown = tt } in
    record {
      kept = refused_kept s a (busy a) (changed a) l (λ e. inl (λ k p. refl, l));
      blind = λ b t.
          subst (λ (z : State). SameEnd s (sense a device v) (sense z device v)) (sym t.rest)
          (refused_same s a (with_mem a b.mem) (busy a) (changed a) (changed (with_mem a b.mem)) (record { rest = refl; mem = t.mem })
          (λ e. (refl, record { rest = refl; mem = t.mem })));
    }

interrupted_kept : (s : Section) (a : State) (o : Outcome) → Lives a.sections.live s → KeptBy s a.mem o → Untouched s a (interrupted a o).state
interrupted_kept s a (Finished regs x) l h = inl (h, l)
interrupted_kept s a (Violated v) l h = inr refl
interrupted_kept s a (Module regs x t e c) l h = inl (λ k p. refl, l)

interrupted_finished : (s : Section) (a : State) (n r : List ℕ) (x y : Moment) → Moments s x y → SameEnd s (interrupted a (Finished r x)) (interrupted (with_mem a n) (Finished r y))
interrupted_finished s a n r x y h =
    subst (λ (z : Moment). SameEnd s (interrupted a (Finished r x)) (interrupted (with_mem a n) (Finished r z))) (sym h.rest)
    (refl, record { rest = refl; mem = h.mem })

interrupted_alike : (s : Section) (a : State) (n : List ℕ) → Alike s a.mem n → (o p : Outcome) → SameOutcome s o p → SameEnd s (interrupted a o) (interrupted (with_mem a n) p)
interrupted_alike s a n m (Finished r x) (Finished q y) h =
    subst (λ (z : List ℕ). SameEnd s (interrupted a (Finished r x)) (interrupted (with_mem a n) (Finished z y))) h.0 (interrupted_finished s a n r x y h.1)
interrupted_alike s a n m (Module r x t e c) (Module q y u f d) h = (refl, record { rest = refl; mem = m })
interrupted_alike s a n m (Violated v) (Violated w) h = (ap (λ u. record { touch = untouched; event = Reset u }) h, record { rest = refl; mem = alike_same s _ })
interrupted_alike s a n m (Finished r x) (Violated w) h = absurd h
interrupted_alike s a n m (Finished r x) (Module q y u f d) h = absurd h
interrupted_alike s a n m (Violated v) (Finished q y) h = absurd h
interrupted_alike s a n m (Violated v) (Module q y u f d) h = absurd h
interrupted_alike s a n m (Module r x t e c) (Finished q y) h = absurd h
interrupted_alike s a n m (Module r x t e c) (Violated w) h = absurd h

pub irq_guarded : (s : Section) (a : State) (line : ℕ) → Lives a.sections.live s → 0 ≢ s.id → Guarded (Result Seen Refused) (λ x. irq x line) s a
irq_guarded s a line l ne =
    let run : State → Outcome = λ x. exec x.sections 0 (interrupt line x.regs) (start x) in
    let ended : State → Shown Seen = λ x. interrupted x (run x) in
    record {
      kept = refused_kept s a (irq_refusal a) (ended a) l
          (λ e. interrupted_kept s a (run a) l (exec_kept a.sections 0 s l ne (interrupt line a.regs) a.mem (start a) (λ k p. refl)));
      blind = λ b t.
          subst (λ (z : State). SameEnd s (irq a line) (irq z line)) (sym t.rest)
          (refused_same s a (with_mem a b.mem) (irq_refusal a) (ended a) (ended (with_mem a b.mem)) (record { rest = refl; mem = t.mem })
          (λ e. interrupted_alike s a b.mem t.mem (run a) (run (with_mem a b.mem)) (exec_alike a.sections 0 s l ne (interrupt line a.regs) (start a) b.mem t.mem)));
    }

pub reset_guarded : (s : Section) (a : State) → Guarded (Unit {0}) (λ x. record { state = reset x; shown = tt }) s a
reset_guarded s a = record {
  kept = inr refl;
  blind = λ b t.
      subst (λ (z : State). (tt ≡ tt) × Twins s (reset a) (reset z)) (sym t.rest) (refl, twins_same s (reset a));
}
