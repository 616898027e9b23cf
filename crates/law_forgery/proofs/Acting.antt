-- What is done to a node, and what is seen of it, is the same where no tag tells its keys apart.
use Rattle.std.proofs.Common.{◌≡◌, ℕ, Bool, cond, not, ◌==◌, ◌||◌, List, [], ◌∷◌, ◌++◌, length, slice_index, Option, Some, None, Ok, refl, sym, ◌∙◌, ap, ap₂, subst}
use Rattle.std.specs.Prelude.{option_and_then}
use Rattle.sx_rules.specs.declared.access.Violation.{Violation}
use Rattle.sx_rules.specs.declared.section.Section.{Section}
use Rattle.sx_rules.specs.Access.{Sections, section_of}
use Rattle.sx_bus.specs.Devices.{places_of, with_sample}
use Rattle.spec_machine.specs.Registers.{set_reg}
use Rattle.sx_tag.specs.Mac.{Mac}
use Rattle.spec_machine.specs.declared.kinds.Refused.{Refused}
use Rattle.spec_machine.specs.declared.kinds.Refused.TheVariants.{Busy, Guarded}
use Rattle.spec_machine.specs.declared.kinds.Event.{Event}
use Rattle.spec_machine.specs.declared.kinds.Event.TheVariants as event
use Rattle.spec_machine.specs.declared.kinds.Seen.{Seen}
use Rattle.spec_machine.specs.Memory.{bytes_from, put_bytes}
use Rattle.spec_machine.specs.Ranges.{passes_end, meets_device}
use Rattle.spec_machine.specs.State.{State, reset}
use Rattle.spec_machine.specs.Run.{Moment, untouched, Outcome, Finished, Violated, Module, exec}
use Rattle.spec_machine.specs.Step.{Shown, own_of, start}
use Rattle.spec_machine.specs.Acts.{put_refusal, take_refusal, busy, unless, now, put, take, set, sense, irq_refusal, interrupt, interrupted, irq}
use Rattle.sx_trace.specs.declared.items.Item.TheVariants as item
use Rattle.spec_run.specs.Setting.{Setting, Site, deployed, module_of}
use Rattle.sx_ledger.specs.Made.{Made}
use Rattle.spec_run.specs.Observation.{Observed, touch_items, event_seen, observed}
use Rattle.law_forgery.specs.Tags.{rekeyed}
use Rattle.law_forgery.proofs.Tables.{LikeAll, LikeFound, found_like, holder_like, meets_private_like, meets_public_like}
use Rattle.law_forgery.proofs.Plans.{LikeOutcome, same_alike}
use Rattle.law_forgery.proofs.Steps.{with_others, LikeKeys, LikeState, LikeShown}

module _ (mac nac : Mac) where
  module _ (s : State) (key : List ℕ) (u : Sections)
      (like : LikeAll mac nac s.sections.live u.live) (next : u.next ≡ s.sections.next) (keys : LikeKeys mac nac s.key key) where
    abbrev twin : State
    twin = with_others s key u

    -- Acts from outside.

    put_refused : (at n : ℕ) → put_refusal twin at n ≡ put_refusal s at n
    put_refused at n =
        ap₂ (λ (a b : Bool). cond (not (s.cur == 0)) (Some Busy) (cond (passes_end at n || (a || (b || meets_device (places_of s.devices) at n))) (Some Guarded) None))
        (meets_public_like mac nac s.sections.live u.live at n like) (meets_private_like mac nac s.sections.live u.live at n like)

    take_refused : (at n : ℕ) → take_refusal twin at n ≡ take_refusal s at n
    take_refused at n =
        ap (λ (b : Bool). cond (not (s.cur == 0)) (Some Busy) (cond (passes_end at n || (b || meets_device (places_of s.devices) at n)) (Some Guarded) None))
        (meets_private_like mac nac s.sections.live u.live at n like)

    unless_like : {T : Type 0} (o : Option Refused) (x y : Shown T) → LikeShown mac nac x y → LikeShown mac nac (unless o s x) (unless o twin y)
    unless_like None x y h = (ap Ok h.0, h.1)
    unless_like (Some why) x y h = (refl, record { rest = refl; sections = like; next = next; keys = keys })

    pub put_twin : (at : ℕ) (bytes : List ℕ) → LikeShown mac nac (put s at bytes) (put twin at bytes)
    put_twin at bytes =
        let m = put_bytes s.mem at bytes in
        subst (λ (o : Option Refused). LikeShown mac nac (put s at bytes) (unless o twin (now (record twin { mem = m })))) (sym (put_refused at (length bytes)))
        (unless_like (put_refusal s at (length bytes)) (now (record s { mem = m })) (now (record twin { mem = m }))
        (refl, record { rest = refl; sections = like; next = next; keys = keys }))

    pub take_twin : (at n : ℕ) → LikeShown mac nac (take s at n) (take twin at n)
    take_twin at n =
        let bytes = bytes_from s.mem at n in
        subst (λ (o : Option Refused). LikeShown mac nac (take s at n) (unless o twin (record { state = twin; shown = bytes }))) (sym (take_refused at n))
        (unless_like (take_refusal s at n) (record { state = s; shown = bytes }) (record { state = twin; shown = bytes })
        (refl, record { rest = refl; sections = like; next = next; keys = keys }))

    pub set_twin : (r v : ℕ) → LikeShown mac nac (set s r v) (set twin r v)
    set_twin r v =
        let regs = set_reg s.regs r v in
        let last = cond (r == 0) 0 s.last in
        unless_like (busy s) (now (record s { regs = regs; last = last })) (now (record twin { regs = regs; last = last })) (refl, record { rest = refl; sections = like; next = next; keys = keys })

    pub sense_twin : (device v : ℕ) → LikeShown mac nac (sense s device v) (sense twin device v)
    sense_twin device v =
        let devices = with_sample s.devices device v in
        unless_like (busy s) (now (record s { devices = devices })) (now (record twin { devices = devices })) (refl, record { rest = refl; sections = like; next = next; keys = keys })

    interrupted_like : (o p : Outcome) → LikeOutcome mac nac o p → LikeShown mac nac (interrupted s o) (interrupted twin p)
    interrupted_like (Finished r x) (Finished q y) h =
        subst (λ (z : List ℕ). LikeShown mac nac (interrupted s (Finished r x)) (interrupted twin (Finished z y))) h.0
        (subst (λ (z : Moment). LikeShown mac nac (interrupted s (Finished r x)) (interrupted twin (Finished r z))) h.1
        (refl, record { rest = refl; sections = like; next = next; keys = keys }))
    interrupted_like (Violated v) (Violated w) h =
        (ap (λ (z : Violation). record { touch = untouched; event = event.Reset z }) h, record { rest = refl; sections = tt; next = refl; keys = keys })
    interrupted_like (Module r x t e c) (Module q y v f d) h = (refl, record { rest = refl; sections = like; next = next; keys = keys })
    interrupted_like (Finished r x) (Violated w) h = absurd h
    interrupted_like (Finished r x) (Module q y v f d) h = absurd h
    interrupted_like (Violated v) (Finished q y) h = absurd h
    interrupted_like (Violated v) (Module q y w f d) h = absurd h
    interrupted_like (Module r x t e c) (Finished q y) h = absurd h
    interrupted_like (Module r x t e c) (Violated w) h = absurd h

    pub irq_twin : (line : ℕ) → LikeShown mac nac (irq s line) (irq twin line)
    irq_twin line =
        let o = exec s.sections 0 (interrupt line s.regs) (start s) in
        let p = exec u 0 (interrupt line s.regs) (start s) in
        unless_like (irq_refusal s) (interrupted s o) (interrupted twin p)
        (interrupted_like o p
        (same_alike mac nac s.sections u like next 0 (interrupt line s.regs) (start s)))

    -- What is seen.

    found_same : (sites : List Site) (n : ℕ) (o p : Option Section) → LikeFound mac nac o p → option_and_then (deployed sites n s.mem) p ≡ option_and_then (deployed sites n s.mem) o
    found_same sites n None None h = refl
    found_same sites n None (Some y) h = absurd h
    found_same sites n (Some x) None h = absurd h
    found_same sites n (Some x) (Some y) h = ap (deployed sites n s.mem) h.0

    pub module_twin : (sites : List Site) (n id : ℕ) → module_of sites n twin id ≡ module_of sites n s id
    module_twin sites n id = found_same sites n (section_of s.sections.live id) (section_of u.live id) (found_like mac nac s.sections.live u.live id like)

    pub runner_twin : (sites : List Site) (n : ℕ) → module_of sites n twin (own_of twin) ≡ module_of sites n s (own_of s)
    runner_twin sites n = ap (module_of sites n twin) (holder_like mac nac s.sections.live u.live (slice_index s.regs 0) like) ∙ module_twin sites n (own_of s)

    event_twin : (set : Setting) (keys2 : List (List ℕ)) (secret : List ℕ) (n : ℕ) (runner : Option ℕ) (ledger : List Made) (e : Event)
        → event_seen set n runner s ledger e ≡ event_seen (rekeyed set nac keys2 secret) n runner twin ledger e
    event_twin set keys2 secret n runner ledger event.Quiet = refl
    event_twin set keys2 secret n runner ledger (event.Reset v) = refl
    event_twin set keys2 secret n runner ledger (event.Protected id) =
        ap (λ (o : Option ℕ). record { items = item.Protect n o ∷ []; ledger = ledger }) (sym (module_twin set.sites n id))
    event_twin set keys2 secret n runner ledger (event.Removed id) = refl
    event_twin set keys2 secret n None ledger (event.Wrapped id) = refl
    event_twin set keys2 secret n (Some k) ledger (event.Wrapped id) = refl
    event_twin set keys2 secret n None ledger (event.Unwrapped id) = refl
    event_twin set keys2 secret n (Some k) ledger (event.Unwrapped id) = refl
    event_twin set keys2 secret n None ledger (event.Left id) = refl
    event_twin set keys2 secret n (Some k) ledger (event.Left id) = refl

    pub observed_twin : (set : Setting) (keys2 : List (List ℕ)) (secret : List ℕ) (n : ℕ) (runner : Option ℕ) (seen : Seen) (ledger : List Made)
        → observed set n runner s seen ledger ≡ observed (rekeyed set nac keys2 secret) n runner twin seen ledger
    observed_twin set keys2 secret n runner seen ledger =
        ap (λ (o : Observed). record { items = touch_items set.app n runner seen.touch ++ o.items; ledger = o.ledger })
        (event_twin set keys2 secret n runner ledger seen.event)

  -- The same of nodes that differ in keys alone.

  pub put_like : (s t : State) (at : ℕ) (bytes : List ℕ) → LikeState mac nac s t → LikeShown mac nac (put s at bytes) (put t at bytes)
  put_like s t at bytes h = subst (λ (z : State). LikeShown mac nac (put s at bytes) (put z at bytes)) (sym h.rest) (put_twin s t.key t.sections h.sections h.next h.keys at bytes)

  pub take_like : (s t : State) (at n : ℕ) → LikeState mac nac s t → LikeShown mac nac (take s at n) (take t at n)
  take_like s t at n h = subst (λ (z : State). LikeShown mac nac (take s at n) (take z at n)) (sym h.rest) (take_twin s t.key t.sections h.sections h.next h.keys at n)

  pub set_like : (s t : State) (r v : ℕ) → LikeState mac nac s t → LikeShown mac nac (set s r v) (set t r v)
  set_like s t r v h = subst (λ (z : State). LikeShown mac nac (set s r v) (set z r v)) (sym h.rest) (set_twin s t.key t.sections h.sections h.next h.keys r v)

  pub sense_like : (s t : State) (device v : ℕ) → LikeState mac nac s t → LikeShown mac nac (sense s device v) (sense t device v)
  sense_like s t device v h = subst (λ (z : State). LikeShown mac nac (sense s device v) (sense z device v)) (sym h.rest) (sense_twin s t.key t.sections h.sections h.next h.keys device v)

  pub irq_like : (s t : State) (line : ℕ) → LikeState mac nac s t → LikeShown mac nac (irq s line) (irq t line)
  irq_like s t line h = subst (λ (z : State). LikeShown mac nac (irq s line) (irq z line)) (sym h.rest) (irq_twin s t.key t.sections h.sections h.next h.keys line)

  pub reset_states : (s t : State) → LikeState mac nac s t → LikeState mac nac (reset s) (reset t)
  reset_states s t h = subst (λ (z : State). LikeState mac nac (reset s) (reset z)) (sym h.rest) (record { rest = refl; sections = tt; next = refl; keys = h.keys })

  pub runner_like : (sites : List Site) (n : ℕ) (s t : State) → LikeState mac nac s t → module_of sites n t (own_of t) ≡ module_of sites n s (own_of s)
  runner_like sites n s t h =
      subst (λ (z : State). module_of sites n z (own_of z) ≡ module_of sites n s (own_of s)) (sym h.rest) (runner_twin s t.key t.sections h.sections h.next h.keys sites n)

  pub observed_like : (set : Setting) (keys2 : List (List ℕ)) (secret : List ℕ) (n : ℕ) (runner : Option ℕ) (s t : State) (seen : Seen) (ledger : List Made) → LikeState mac nac s t
      → observed set n runner s seen ledger ≡ observed (rekeyed set nac keys2 secret) n runner t seen ledger
  observed_like set keys2 secret n runner s t seen ledger h =
      subst (λ (z : State). observed set n runner s seen ledger ≡ observed (rekeyed set nac keys2 secret) n runner z seen ledger) (sym h.rest)
      (observed_twin s t.key t.sections h.sections h.next h.keys set keys2 secret n runner seen ledger)
