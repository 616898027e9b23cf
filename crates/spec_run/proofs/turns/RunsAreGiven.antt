-- Every run shows values in range.
use Rattle.std.proofs.Common.{◌≡◌, ℕ, ◌<◌, ◌==◌, ◌&&◌, Bool, true, false, if◌then◌else◌, List, [], ◌∷◌, ◌++◌, length, Option, Some, None, arith}
use Rattle.std.specs.Prelude.{slice_get, unwrap_or}
use Rattle.lemmas.proofs.Lists.{get_some}
use Rattle.sx_trace.specs.declared.items.Item.{Item}
use Rattle.sx_trace.specs.declared.items.Item.TheVariants as item
use Rattle.sx_ledger.specs.declared.entry.Maker.TheVariants as maker
use Rattle.spec_machine.specs.declared.kinds.Touch.{Touch}
use Rattle.spec_machine.specs.declared.kinds.Touch.TheVariants as touch
use Rattle.spec_machine.specs.declared.kinds.Event.{Event}
use Rattle.spec_machine.specs.declared.kinds.Event.TheVariants as event
use Rattle.spec_machine.specs.declared.kinds.Refused.{Refused}
use Rattle.spec_machine.specs.declared.kinds.Seen.{Seen}
use Rattle.spec_machine.specs.State.{State}
use Rattle.spec_machine.specs.Step.{step, own_of}
use Rattle.spec_machine.specs.Acts.{irq, irq_refusal, sense as sense_on, busy, unless, interrupt, interrupted}
use Rattle.spec_machine.specs.Run.{exec}
use Rattle.spec_machine.specs.Step.{start, Shown}
use Rattle.spec_machine.specs.Node.{IsNode}
use Rattle.spec_machine.proofs.Ranged.{Words}
use Rattle.spec_machine.proofs.Stays.{interrupt_words, step_words}
use Rattle.sx_model.specs.order.State.{Model, power_on}
use Rattle.sx_wire.specs.Headers.{challenge_in, is_ask, is_set_key_header, is_event_header}
use Rattle.spec_run.specs.Setting.{Setting, module_of, device_number}
use Rattle.spec_run.specs.Ledger.{Made, header_of, body_of, made_entry, NO_TARGET}
use Rattle.spec_run.specs.State.{World, switched_on}
use Rattle.spec_run.specs.Observation.{is_driver, touch_items, event_seen, observed, has_wrapped, has_unwrapped, unless_made, has_end, side_in, with_items}
use Rattle.spec_run.specs.Acts.{after_step, after_interrupt, done_on}
use Rattle.spec_run.specs.Run.{run, place_at}
use Rattle.spec_run.specs.Law.{IsSoundSetting}
use Rattle.spec_run.proofs.tie.Lists.{get_within}
use Rattle.spec_run.proofs.tie.Tied.{Tied}
use Rattle.spec_run.proofs.tie.Start.{starts_tied}
use Rattle.spec_run.proofs.acts.Counting.{counts_lines}
use Rattle.sx_model.specs.order.Given.{IsGiven}
use Rattle.spec_run.specs.OrderLaw.{RunsAreGiven}
use Rattle.spec_run.proofs.acts.Walks.{all_before}
use Rattle.spec_run.proofs.acts.Compose.{ActsWalk, keeps_run}
use Rattle.spec_run.proofs.ActsKeep.{are_wordly}
use Rattle.spec_run.proofs.ActsWalk.{Each, each_append, each_walks, Always, Easy, acts_walk, refused_each}

abbrev Given : Setting → Model → Item → Type 0
Given set s i = IsGiven i

easy : (set : Setting) → Easy Given set
easy set = record {
  reset = λ n c s. tt;
  ask = λ m a s. tt;
  attested = λ m b s. tt;
  denied = λ m s. tt;
  packet = λ k n s. tt;
  forged = λ m s. tt;
  busy = λ n s. tt;
  skip = λ n s. tt;
  budget = λ n s. tt;
}

module _ (set : Setting) where
  abbrev E : List Item → Type 0
  E items = Each (Always Given set) items

  read_given : (b : Bool) (m d v : ℕ) → Always Given set (if b then item.Read m v else item.Drain d)
  read_given true m d v s = tt
  read_given false m d v s = tt

  write_given : (b : Bool) (m d v : ℕ) → v < 65536 → Always Given set (if b then item.Out m v else item.Raw d v)
  write_given true m d v lt s = lt
  write_given false m d v lt s = lt

  touches_given : (n : ℕ) (runner : Option ℕ) (ts : List Touch) → Words ts → E (touch_items set.app n runner ts)
  touches_given n runner [] h = tt
  touches_given n runner (touch.Quiet ∷ ts) h = touches_given n runner ts h.1
  touches_given n runner (touch.DeviceRead k v ∷ ts) h =
      (read_given (is_driver set.app runner (device_number set.app n k)) (unwrap_or runner 0) (device_number set.app n k) v, touches_given n runner ts h.1)
  touches_given n runner (touch.DeviceWrite k v ∷ ts) h =
      (write_given (is_driver set.app runner (device_number set.app n k)) (unwrap_or runner 0) (device_number set.app n k) v h.0, touches_given n runner ts h.1)

  wrapped_given : (m boot : ℕ) (header body : List ℕ) (own : Bool) (ledger : List Made) → E (has_wrapped m boot header body own ledger).items
  wrapped_given m boot header body own ledger = by (is_ask header && ((length body == 0) && own)) (is_event_header header && (length body == 2))
    where
      by : (a b : Bool)
          → E (if a then with_items (ledger ++ made_entry (maker.Module m) NO_TARGET boot header body ∷ []) (item.Vouch m (challenge_in header) ∷ [])
          else if b then with_items (ledger ++ made_entry (maker.Module m) NO_TARGET 0 header body ∷ []) [] else with_items ledger []).items
      by true b = (λ s. tt, tt)
      by false true = tt
      by false false = tt

  made_given : (who : Option ℕ) (made : Bool) (i : Item) → Always Given set i → E (unless_made who made i)
  made_given who true i h = (h, tt)
  made_given who false i h = (λ s. tt, (h, tt))

  if_given : (b : Bool) (xs ys : List Item) → E xs → E ys → E (if b then xs else ys)
  if_given true xs ys h g = h
  if_given false xs ys h g = g

  unwrapped_given : (m boot : ℕ) (header body : List ℕ) (ledger : List Made) → E (has_unwrapped set.app m boot header body ledger)
  unwrapped_given m boot header body ledger =
      if_given (is_set_key_header header && has_end set.app m (Rattle.sx_wire.specs.Headers.link_in header) (side_in header)) _ _
      (made_given (Some m) _ _ (λ s. tt))
      (if_given (is_event_header header && has_end set.app m (Rattle.sx_wire.specs.Headers.link_in header) Rattle.sx_lang.specs.declared.sides.Side.TheVariants.To) _ _
      (made_given (Some m) _ _ (λ s. tt)) tt)

  event_given : (n : ℕ) (runner : Option ℕ) (s : State) (ledger : List Made) (e : Event) → E (event_seen set n runner s ledger e).items
  event_given n runner s ledger event.Quiet = event_quiet runner
    where
      event_quiet : (runner : Option ℕ) → E (event_seen set n runner s ledger event.Quiet).items
      event_quiet None = tt
      event_quiet (Some m) = tt
  event_given n runner s ledger (event.Reset v) = (λ s. tt, tt)
  event_given n runner s ledger (event.Protected id) = (by (module_of set.sites n s id), tt)
    where
      by : (o : Option ℕ) → Always Given set (item.Protect n o)
      by None t = tt
      by (Some m) t = tt
  event_given n None s ledger (event.Removed id) = tt
  event_given n (Some m) s ledger (event.Removed id) = tt
  event_given n None s ledger (event.Wrapped id) = tt
  event_given n (Some m) s ledger (event.Wrapped id) = wrapped_given m s.boot (header_of s.exchange) (body_of s.exchange) s.exchange.own_key ledger
  event_given n None s ledger (event.Unwrapped id) = tt
  event_given n (Some m) s ledger (event.Unwrapped id) = unwrapped_given m s.boot (header_of s.exchange) (body_of s.exchange) ledger
  event_given n None s ledger (event.Left id) = tt
  event_given n (Some m) s ledger (event.Left id) = (λ s. tt, tt)

  pub observed_given : (n : ℕ) (runner : Option ℕ) (s : State) (seen : Seen) (ledger : List Made) → Words seen.touch → E (observed set n runner s seen ledger).items
  observed_given n runner s seen ledger h =
      each_append (Always Given set) (touch_items set.app n runner seen.touch) (event_seen set n runner s ledger seen.event).items
      (touches_given n runner seen.touch h) (event_given n runner s ledger seen.event)

  node_there : (w : World) (mo : Model) (n : ℕ) (s : State) → Tied set w mo → slice_get w.nodes n ≡ Some s → IsNode s
  node_there w mo n s t here =
      let b : (boot : ℕ) × (slice_get mo.boots n ≡ Some boot) = get_some mo.boots n (omega (arith, get_within w.nodes n s here, t.size.nodes, t.size.boots)) in
      (t.nodes n s b.0 here b.1).node

  sensed_given : (w : World) (n d v : ℕ) (o : Option Refused) (s : State) (done : Shown (Unit {0})) → v < 32768 → E (done_on w n (item.Sense d v ∷ []) (unless o s done)).items
  sensed_given w n d v None s done lt = (λ s. lt, tt)
  sensed_given w n d v (Some why) s done lt = refused_each Given set (easy set) n why

  interrupted_given : (w : World) (n : ℕ) (s : State) (o : Option Refused) (done : Shown Seen) → Words done.shown.touch
      → (let i = unless o s done in E (after_interrupt set w n i.state i.shown).items)
  interrupted_given w n s None done h = observed_given n None done.state done.shown w.ledger h
  interrupted_given w n s (Some why) done h = refused_each Given set (easy set) n why

  keep : IsSoundSetting set → ActsWalk Given set
  keep sound = acts_walk Given set (easy set) sound
      (λ w n s here mo t. each_walks Given set mo (after_step set w n s).items
      (observed_given n (module_of set.sites n s (own_of s)) (step set.mac s).state (step set.mac s).shown w.ledger (step_words set.mac s (node_there w mo n s t here))))
      (λ w d v x s dev sensor lt here mo t. each_walks Given set mo (done_on w x.node (item.Sense d v ∷ []) (sense_on s (place_at set x.node d) v)).items
      (sensed_given w x.node d v (busy s) s _ lt))
      (λ w n line s lt here mo t. each_walks Given set mo (after_interrupt set w n (irq s line).state (irq s line).shown).items
      (interrupted_given w n s (irq_refusal s) (interrupted s (exec s.sections 0 (interrupt line s.regs) (start s))) (interrupt_words s line (node_there w mo n s t here))))

pub runs_are_given : RunsAreGiven
runs_are_given set sound lines few form =
    let k = keep set sound in
    let r = keeps_run Given set k (are_wordly set sound) (λ w line. counts_lines set w line) lines (switched_on set) (omega (arith, few)) form (power_on set.app) (starts_tied set sound) in
    all_before (Given set) set.app IsGiven (λ s i h. h) (power_on set.app) (run set (switched_on set) lines).items (Tied set (run set (switched_on set) lines).world) r.0 r.1
