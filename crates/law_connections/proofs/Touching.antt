-- What is done to a node from outside does the same where deployed modules' bytes and keys differ.
use Rattle.std.proofs.Common.{◌≡◌, ℕ, ◌-◌, Bool, true, false, cond, not, ◌==◌, ◌||◌, inl, inr, ◌⊎◌, List, length, Option, Some, None, Ok, refl, sym, ◌∙◌, ap, ap₂, subst, arith}
use Rattle.std.specs.Prelude.{nat_le, nat_lt}
use Rattle.std.proofs.lemmas.Bool.{and_parts, and_from, or_parts, false_from_ne_true, leb-true, ltb-true, le-leb, lt-ltb}
use Rattle.spec_machine.proofs.Meanings.{same_bytes}
use Rattle.sx_rules.specs.declared.access.Violation.{Violation}
use Rattle.sx_rules.specs.declared.section.Section.{Section}
use Rattle.sx_rules.specs.Access.{Sections, in_private, Lives}
use Rattle.sx_rules.specs.Placed.{Placed}
use Rattle.sx_bus.specs.declared.devices.Window.{Window}
use Rattle.sx_bus.specs.Devices.{places_of, with_sample}
use Rattle.sx_tag.specs.Mac.{Mac}
use Rattle.spec_machine.specs.declared.kinds.Exchange.{Exchange}
use Rattle.spec_machine.specs.declared.kinds.Refused.{Refused}
use Rattle.spec_machine.specs.declared.kinds.Refused.TheVariants.{Busy, Guarded}
use Rattle.spec_machine.specs.declared.kinds.Event.TheVariants as event
use Rattle.spec_machine.specs.Memory.{bytes_from, put_bytes}
use Rattle.spec_machine.specs.Ranges.{meets, passes_end, meets_private, meets_device}
use Rattle.spec_machine.specs.Registers.{set_reg}
use Rattle.spec_machine.specs.State.{State, reset}
use Rattle.spec_machine.specs.Run.{Moment, untouched, Outcome, Finished, Violated, Module, exec}
use Rattle.spec_machine.specs.Step.{Shown, start}
use Rattle.spec_machine.specs.Acts.{put_refusal, take_refusal, busy, unless, now, put, take, set, sense, irq_refusal, interrupt, interrupted, irq}
use Rattle.spec_machine.specs.Acting.{Put as PutAct}
use Rattle.spec_machine.specs.Frame.{Framed, KeptPublic}
use Rattle.spec_machine.proofs.Frame.{interrupt_framed}
use Rattle.spec_machine.proofs.PublicKept.{framed_public, public_kept, none_any, clear_of_range}
use Rattle.spec_machine.proofs.RunGuard.{not_zero}
use Rattle.sx_tmpl.specs.Steady.{AgreeAt}
use Rattle.law_connections.proofs.Outside.{Kind, is_deployed, Unhidden, SameSections, AlikeOutside}
use Rattle.law_forgery.proofs.Tables.{LikeAll, meets_private_like, meets_public_like}
use Rattle.sx_tmpl.proofs.Agreeing.{agree_fewer, put_agree}
use Rattle.law_connections.proofs.Opened.{IsOutsider, blank_mac, blank_all, same_hides}
use Rattle.law_connections.proofs.Blind.{SameOutcome, same_blind}
use Rattle.law_connections.proofs.Bystanding.{with_hidden, reset_same, SameShown}

module _ (mac nac : Mac) (kind : Kind) (s : State) (n key : List ℕ) (u : Sections) (exchange : Exchange)
    (placed : Placed s.sections)
    (same : SameSections mac nac (is_deployed kind s.mem) s.sections.live u.live) (next : u.next ≡ s.sections.next)
    (agree : AgreeAt (Unhidden (is_deployed kind s.mem) s.sections.live) s.mem n) where
  abbrev hides : Section → Bool
  hides = is_deployed kind s.mem

  abbrev twin : State
  twin = with_hidden s n key u exchange

  abbrev pub Same : {T : Type 0} → Shown T → Shown T → Type 0
  Same x y = SameShown mac nac kind s n key u exchange placed same next agree x y

  Blank : LikeAll blank_mac blank_mac s.sections.live u.live
  Blank = blank_all mac nac hides s.sections.live u.live same

  status_same : (m : List ℕ) (z : Section) → KeptPublic z s.mem m → is_deployed kind m z ≡ hides z
  status_same m z f =
      ap (kind z.layout z.provider) (same_bytes s.mem m z.layout.pub_from (z.layout.pub_to - z.layout.pub_from) (λ k a b.
      f k (and_from (nat_le z.layout.pub_from k) (nat_lt k z.layout.pub_to) (le-leb z.layout.pub_from k a) (lt-ltb k z.layout.pub_to (omega (arith, a, b))))))

  -- the table stays, and so do all texts
  remade : (regs : List ℕ) (devices : List Window) (last : ℕ) (m o : List ℕ) → ((z : Section) → Lives s.sections.live z → KeptPublic z s.mem m) → AgreeAt (Unhidden hides s.sections.live) m o
      → AlikeOutside mac nac kind (record s { regs = regs; mem = m; devices = devices; last = last }) (record twin { regs = regs; mem = o; devices = devices; last = last })
  remade regs devices last m o f h = record {
    rest = refl;
    mem = agree_fewer (Unhidden hides s.sections.live) (Unhidden (is_deployed kind m) s.sections.live) m o (λ k g z l e. g z l (status_same m z (f z l) ∙ e)) h;
    sections = same_hides mac nac hides (is_deployed kind m) s.sections.live u.live (λ z l. status_same m z (f z l)) same;
    next = next;
  }

  as_before : AlikeOutside mac nac kind s twin
  as_before = record { rest = refl; mem = agree; sections = same; next = next }

  unless_same : {T : Type 0} (o : Option Refused) (x y : Shown T) → (o ≡ None → Same x y) → Same (unless o s x) (unless o twin y)
  unless_same None x y h = let g = h refl in (ap Ok g.0, g.1)
  unless_same (Some why) x y h = (refl, as_before)

  -- Put and take.

  put_kept : (at : ℕ) (bytes : List ℕ) (o : Option Refused) → put_refusal s at (length bytes) ≡ o → o ≡ None → (z : Section) → Lives s.sections.live z → KeptPublic z s.mem (put_bytes s.mem at bytes)
  put_kept at bytes (Some why) e none z l = absurd cc
  put_kept at bytes None e none z l = by (subst
      (λ (o : Option Refused). let done = unless {T = Unit {0}} o s (now (record s { mem = put_bytes s.mem at bytes })) in KeptPublic z s.mem done.state.mem ⊎ (done.state ≡ reset s)) e
      (public_kept mac (PutAct at bytes) s z placed l))
    where
      by : KeptPublic z s.mem (put_bytes s.mem at bytes) ⊎ (record s { mem = put_bytes s.mem at bytes } ≡ reset s) → KeptPublic z s.mem (put_bytes s.mem at bytes)
      by (inl f) = f
      by (inr q) = absurd (subst (λ (a : State). Lives a.sections.live z) q l)

  pub put_same : (at : ℕ) (bytes : List ℕ) → Same (put s at bytes) (put twin at bytes)
  put_same at bytes =
      subst (λ (o : Option Refused). Same (put s at bytes) (unless o twin (now (record twin { mem = put_bytes n at bytes })))) (sym refused)
      (unless_same (put_refusal s at (length bytes)) (now (record s { mem = put_bytes s.mem at bytes })) (now (record twin { mem = put_bytes n at bytes })) (λ e. (
        refl,
        remade s.regs s.devices s.last (put_bytes s.mem at bytes) (put_bytes n at bytes) (put_kept at bytes (put_refusal s at (length bytes)) refl e)
            (put_agree (Unhidden hides s.sections.live) bytes s.mem n at agree),
      )))
    where
      refused : put_refusal twin at (length bytes) ≡ put_refusal s at (length bytes)
      refused = ap₂ (λ (a b : Bool). cond (not (s.cur == 0)) (Some Busy)
          (cond (passes_end at (length bytes) || (a || (b || meets_device (places_of s.devices) at (length bytes)))) (Some Guarded) None))
          (meets_public_like blank_mac blank_mac s.sections.live u.live at (length bytes) Blank) (meets_private_like blank_mac blank_mac s.sections.live u.live at (length bytes) Blank)

  take_clear : (at len : ℕ) → take_refusal s at len ≡ None → meets_private s.sections.live at len ≡ false
  take_clear at len e = by (not (s.cur == 0)) e
    where
      second : (b : Bool) → (passes_end at len || (meets_private s.sections.live at len || meets_device (places_of s.devices) at len)) ≡ b → cond b (Some Guarded) None ≡ None
          → meets_private s.sections.live at len ≡ false
      second true t h = absurd cc
      second false t h = (or_parts (meets_private s.sections.live at len) _ (or_parts (passes_end at len) _ t).1).0

      by : (b : Bool) → cond b (Some Busy) (cond (passes_end at len || (meets_private s.sections.live at len || meets_device (places_of s.devices) at len)) (Some Guarded) None) ≡ None
          → meets_private s.sections.live at len ≡ false
      by true h = absurd cc
      by false h = second _ refl h

  taken_same : (at len : ℕ) → take_refusal s at len ≡ None → bytes_from s.mem at len ≡ bytes_from n at len
  taken_same at len e = same_bytes n s.mem at len (λ k a b. agree.same k (λ z l h. false_from_ne_true (in_private z k) (λ p.
      let q = and_parts (nat_le z.layout.priv_from k) (nat_lt k z.layout.priv_to) p in
      let m = none_any (λ x. meets at len x.layout.priv_from x.layout.priv_to) s.sections.live z (take_clear at len e) l in
      elim (clear_of_range at len z.layout.priv_from z.layout.priv_to k m (leb-true z.layout.priv_from k q.0) (ltb-true k z.layout.priv_to q.1)) [
        | inl lt ↦ omega (arith, lt, a)
        | inr ge ↦ omega (arith, ge, b)
      ])))

  pub take_same : (at len : ℕ) → Same (take s at len) (take twin at len)
  take_same at len =
      subst (λ (o : Option Refused). Same (take s at len) (unless o twin (record { state = twin; shown = bytes_from n at len }))) (sym refused)
      (unless_same (take_refusal s at len) (record { state = s; shown = bytes_from s.mem at len }) (record { state = twin; shown = bytes_from n at len }) (λ e.
      (taken_same at len e, as_before)))
    where
      refused : take_refusal twin at len ≡ take_refusal s at len
      refused = ap (λ (b : Bool). cond (not (s.cur == 0)) (Some Busy) (cond (passes_end at len || (b || meets_device (places_of s.devices) at len)) (Some Guarded) None))
          (meets_private_like blank_mac blank_mac s.sections.live u.live at len Blank)

  -- Set, sense and interrupt.

  pub set_same : (r v : ℕ) → Same (set s r v) (set twin r v)
  set_same r v =
      unless_same (busy s) (now (record s { regs = set_reg s.regs r v; last = cond (r == 0) 0 s.last })) (now (record twin { regs = set_reg s.regs r v; last = cond (r == 0) 0 s.last })) (λ e.
      (refl, remade (set_reg s.regs r v) s.devices (cond (r == 0) 0 s.last) s.mem n (λ z l k p. refl) agree))

  pub sense_same : (device v : ℕ) → Same (sense s device v) (sense twin device v)
  sense_same device v =
      unless_same (busy s) (now (record s { devices = with_sample s.devices device v })) (now (record twin { devices = with_sample s.devices device v })) (λ e.
      (refl, remade s.regs (with_sample s.devices device v) s.last s.mem n (λ z l k p. refl) agree))

  nobody : IsOutsider hides s.sections.live 0
  nobody x l h = not_zero s.sections x placed l

  interrupted_same : (o p : Outcome) → Framed s.sections.live 0 s.mem (interrupted s o).state.mem ⊎ ((interrupted s o).state ≡ reset s)
      → SameOutcome mac nac hides s.sections.live s.mem o p → Same (interrupted s o) (interrupted twin p)
  interrupted_same (Finished r x) (Finished q y) f h =
      subst (λ (z : List ℕ). Same (interrupted s (Finished r x)) (interrupted twin (Finished z y))) h.0
      (subst (λ (z : Moment). Same (interrupted s (Finished r x)) (interrupted twin (Finished r z))) (sym h.1.rest)
      (refl, remade r x.devices 0 x.mem y.mem (λ z l. by z l f) h.1.mem))
    where
      by : (z : Section) → Lives s.sections.live z → Framed s.sections.live 0 s.mem x.mem ⊎ ((interrupted s (Finished r x)).state ≡ reset s) → KeptPublic z s.mem x.mem
      by z l (inl g) = framed_public s.sections.live 0 z s.mem x.mem l g
      by z l (inr e) = absurd (subst (λ (a : State). Lives a.sections.live z) e l)
  interrupted_same (Violated v) (Violated w) f h =
      (ap (λ (z : Violation). record { touch = untouched; event = event.Reset z }) h, reset_same mac nac kind s n key u exchange placed same next agree)
  interrupted_same (Module r x t e c) (Module q y v g d) f h = (refl, as_before)
  interrupted_same (Finished r x) (Violated w) f h = absurd h
  interrupted_same (Finished r x) (Module q y v g d) f h = absurd h
  interrupted_same (Violated v) (Finished q y) f h = absurd h
  interrupted_same (Violated v) (Module q y w g d) f h = absurd h
  interrupted_same (Module r x t e c) (Finished q y) f h = absurd h
  interrupted_same (Module r x t e c) (Violated w) f h = absurd h

  pub irq_same : (line : ℕ) → Same (irq s line) (irq twin line)
  irq_same line =
      let o = exec s.sections 0 (interrupt line s.regs) (start s) in
      let p = exec u 0 (interrupt line s.regs) (start twin) in
      unless_same (irq_refusal s) (interrupted s o) (interrupted twin p) (λ e.
      interrupted_same o p (interrupt_framed line s) (same_blind mac nac hides s.mem s.sections u same next 0 nobody (interrupt line s.regs) (start s) n agree))
