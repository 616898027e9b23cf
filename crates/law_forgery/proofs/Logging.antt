-- The ledger is a log: the deployer makes keys for ends, and modules answer asks and make events.
use Rattle.std.proofs.Common.{◌≡◌, ℕ, ◌==◌, inl, inr, Bool, true, false, cond, ◌&&◌, List, [], ◌∷◌, ◌++◌, length, Option, Some, None, Result, Ok, Err, refl, sym, subst, arith}
use Rattle.std.specs.Prelude.{slice_get}
use Rattle.std.proofs.lemmas.Bool.{true≢false, and_parts, eqb-true}
use Rattle.std.specs.Option.{option_flatten}
use Rattle.sx_ledger.specs.declared.entry.Maker.TheVariants as maker
use Rattle.sx_mean.specs.declared.apps.AppDevice.{AppDevice}
use Rattle.spec_machine.specs.declared.kinds.Event.{Event}
use Rattle.spec_machine.specs.declared.kinds.Event.TheVariants as event
use Rattle.spec_machine.specs.declared.kinds.Refused.{Refused}
use Rattle.spec_machine.specs.declared.kinds.Seen.{Seen}
use Rattle.spec_machine.specs.State.{State}
use Rattle.spec_machine.specs.Step.{own_of, step}
use Rattle.spec_machine.specs.Acts.{irq, take as take_from}
use Rattle.spec_run.specs.Setting.{Setting, Site, module_of}
use Rattle.spec_run.specs.Ledger.{Made, NO_TARGET, made_entry, is_made, header_of, body_of}
use Rattle.sx_wire.specs.Headers.{is_ask, is_event_header, challenge_in, link_in}
use Rattle.sx_deployer.specs.Granting.{Grant, grants_after}
use Rattle.spec_run.specs.Deployer.{set_key_entry, after_acceptance, accepts}
use Rattle.spec_run.specs.Observation.{Observed, has_wrapped, event_seen, sender_of}
use Rattle.spec_run.specs.State.{World, Acted, switched_on}
use Rattle.spec_run.specs.Acts.{at_node, after_step, with_deployer, key_given, keys_given, attested, after_take, after_interrupt, after_verdict, after_answer, after_denial}
use Rattle.spec_run.specs.Run.{sense_at, give}
use Rattle.spec_run.proofs.tie.Entries.{made_behind}
use Rattle.law_isolation.specs.Happening.{Happening, Begin, Step, Put, Set, Take, Give, Forge, Sense, Irq, Reset, Ask, Answer, Show, done}
use Rattle.law_forgery.specs.Logged.{IsWord, IsLogged}

abbrev pub AllLogged : Setting → List Made → Type 0
AllLogged set ledger = (e : Made) → is_made ledger e ≡ true → IsLogged set e.maker e

more : (set : Setting) (ledger : List Made) (new : Made) → IsLogged set new.maker new → AllLogged set ledger → AllLogged set (ledger ++ new ∷ [])
more set ledger new f h e m = elim (made_behind ledger new e m) [ inl old ↦ h e old | inr same ↦ subst (λ (z : Made). IsLogged set z.maker z) (sym same) f ]

none_long : (body : List ℕ) → (length body == 0) ≡ true → body ≡ []
none_long [] e = refl
none_long (b ∷ bs) e = absurd (omega (arith, eqb-true (length (b ∷ bs)) 0 e))

-- an event that a module wraps is a word, and of a connection that comes from it
abbrev pub SendsOwn : Setting → ℕ → List ℕ → List ℕ → Type 0
SendsOwn set m header body = is_event_header header ≡ true → IsWord body × (sender_of set.app (link_in header) ≡ m)

wrapped_logged : (set : Setting) (m boot : ℕ) (header body : List ℕ) (own : Bool) (ledger : List Made) → SendsOwn set m header body → AllLogged set ledger
    → AllLogged set (has_wrapped m boot header body own ledger).ledger
wrapped_logged set m boot header body own ledger sends h = by (is_ask header && ((length body == 0) && own)) refl (is_event_header header && (length body == 2)) refl
  where
    by : (p : Bool) → (is_ask header && ((length body == 0) && own)) ≡ p → (q : Bool) → (is_event_header header && (length body == 2)) ≡ q
        → AllLogged set (cond {A = Observed} p (record {
          items = Rattle.sx_trace.specs.declared.items.Item.TheVariants.Vouch m (challenge_in header) ∷ [];
          ledger = ledger ++ made_entry (maker.Module m) NO_TARGET boot header body ∷ [];
        })
        (cond {A = Observed} q (record { items = []; ledger = ledger ++ made_entry (maker.Module m) NO_TARGET 0 header body ∷ [] }) (record { items = []; ledger = ledger }))).ledger
    by true e q f =
        let p = and_parts (is_ask header) ((length body == 0) && own) e in
        more set ledger (made_entry (maker.Module m) NO_TARGET boot header body) (inl (p.0, none_long body (and_parts (length body == 0) own p.1).0)) h
    by false e true f =
        let p = and_parts (is_event_header header) (length body == 2) f in
        more set ledger (made_entry (maker.Module m) NO_TARGET 0 header body) (inr (p.0, (sends p.0).0, (sends p.0).1)) h
    by false e false f = h

-- what the code of this module wraps in a step with this event
abbrev Wraps : Setting → Option ℕ → State → Event → Type 0
Wraps set runner s e = (m id : ℕ) → runner ≡ Some m → e ≡ event.Wrapped id → SendsOwn set m (header_of s.exchange) (body_of s.exchange)

event_logged : (set : Setting) (n : ℕ) (runner : Option ℕ) (s : State) (ledger : List Made) (e : Event) → Wraps set runner s e → AllLogged set ledger
    → AllLogged set (event_seen set n runner s ledger e).ledger
event_logged set n None s ledger event.Quiet g h = h
event_logged set n (Some m) s ledger event.Quiet g h = h
event_logged set n runner s ledger (event.Reset v) g h = h
event_logged set n runner s ledger (event.Protected id) g h = h
event_logged set n None s ledger (event.Removed id) g h = h
event_logged set n (Some m) s ledger (event.Removed id) g h = h
event_logged set n None s ledger (event.Wrapped id) g h = h
event_logged set n (Some m) s ledger (event.Wrapped id) g h = wrapped_logged set m s.boot (header_of s.exchange) (body_of s.exchange) s.exchange.own_key ledger (g m id refl refl) h
event_logged set n None s ledger (event.Unwrapped id) g h = h
event_logged set n (Some m) s ledger (event.Unwrapped id) g h = h
event_logged set n None s ledger (event.Left id) g h = h
event_logged set n (Some m) s ledger (event.Left id) g h = h

keys_logged : (set : Setting) (gs : List Grant) (w : World) → AllLogged set w.ledger → AllLogged set (keys_given set gs w).world.ledger
keys_logged set [] w h = h
keys_logged set (g ∷ gs) w h = keys_logged set gs (key_given set w g (slice_get set.sites g.holder)).world (one (slice_get set.sites g.holder))
  where
    one : (o : Option Site) → AllLogged set (key_given set w g o).world.ledger
    one None = h
    one (Some site) = more set w.ledger (set_key_entry set g) (g, refl) h

answer_logged : (set : Setting) (w : World) (m boot : ℕ) (o : Option Site) (p : Option (List ℕ)) → AllLogged set w.ledger → AllLogged set (after_answer set w m boot o p).world.ledger
answer_logged set w m boot None p h = h
answer_logged set w m boot (Some site) None h = h
answer_logged set w m boot (Some site) (Some answer) h = verdict (option_flatten (slice_get w.deployer.open_asks m))
  where
    by : (ask : List ℕ) (b : Bool) → AllLogged set (cond b (attested set w m boot ask (option_flatten (slice_get w.deployer.attested m))) (after_denial w m)).world.ledger
    by ask true =
        let d = after_acceptance set.app.links w.deployer m boot (option_flatten (slice_get w.deployer.attested m)) in
        keys_logged set (grants_after set.app d m boot (option_flatten (slice_get w.deployer.attested m))) (with_deployer w d w.ledger) h
    by ask false = h

    verdict : (o : Option (List ℕ)) → AllLogged set (after_verdict set w m site boot answer o).world.ledger
    verdict None = h
    verdict (Some ask) = by ask (accepts set site w.deployer m boot answer (Some ask) (option_flatten (slice_get w.deployer.attested m)))

-- what deployed code wraps in the next step of a node
abbrev pub NextWraps : Setting → World → Type 0
NextWraps set w = (n : ℕ) (s : State) → slice_get w.nodes n ≡ Some s → Wraps set (module_of set.sites n s (own_of s)) (step set.mac s).state (step set.mac s).shown.event

module _ (set : Setting) (w : World) (wraps : NextWraps set w) (h : AllLogged set w.ledger) where
  at_logged : (n : ℕ) (f : State → Acted) → ((s : State) → slice_get w.nodes n ≡ Some s → AllLogged set (f s).world.ledger) → (o : Option State)
      → slice_get w.nodes n ≡ o → AllLogged set (at_node w f o).world.ledger
  at_logged n f g None e = h
  at_logged n f g (Some s) e = g s e

  take_logged : (n : ℕ) (r : Result (List ℕ) Refused) → AllLogged set (after_take w n r).world.ledger
  take_logged n (Ok bytes) = h
  take_logged n (Err why) = h

  irq_logged : (n : ℕ) (s : State) (r : Result Seen Refused) → AllLogged set (after_interrupt set w n s r).world.ledger
  irq_logged n s (Ok seen) = event_logged set n None s w.ledger seen.event (λ m id e f. absurd cc) h
  irq_logged n s (Err why) = h

  give_logged : (n at : ℕ) (o : Option (List ℕ)) → AllLogged set (give w n at o).world.ledger
  give_logged n at None = h
  give_logged n at (Some bytes) = at_logged n _ (λ s e. h) (slice_get w.nodes n) refl

  sense_logged : (d v : ℕ) (o : Option AppDevice) → AllLogged set (sense_at set w d v o).world.ledger
  sense_logged d v None = h
  sense_logged d v (Some x) = at_logged x.node _ (λ s e. h) (slice_get w.nodes x.node) refl

  pub done_logged : (x : Happening) → AllLogged set (done set x w).world.ledger
  done_logged Begin = h
  done_logged (Step n) =
      at_logged n (after_step set w n)
      (λ s e. event_logged set n (module_of set.sites n s (own_of s)) (step set.mac s).state w.ledger (step set.mac s).shown.event (wraps n s e) h) (slice_get w.nodes n) refl
  done_logged (Put n at bytes) = at_logged n _ (λ s e. h) (slice_get w.nodes n) refl
  done_logged (Set n r v) = at_logged n _ (λ s e. h) (slice_get w.nodes n) refl
  done_logged (Take n at len) = at_logged n (λ s. after_take w n (take_from s at len).shown) (λ s e. take_logged n (take_from s at len).shown) (slice_get w.nodes n) refl
  done_logged (Give k n at) = give_logged n at (slice_get w.packets k)
  done_logged (Forge bytes) = h
  done_logged (Sense d v) = sense_logged d v (slice_get set.app.devices d)
  done_logged (Irq n k) = at_logged n (λ s. after_interrupt set w n (irq s k).state (irq s k).shown) (λ s e. irq_logged n (irq s k).state (irq s k).shown) (slice_get w.nodes n) refl
  done_logged (Reset n) = at_logged n _ (λ s e. h) (slice_get w.nodes n) refl
  done_logged (Ask m) = h
  done_logged (Answer m boot k) = answer_logged set w m boot (slice_get set.sites m) (slice_get w.packets k) h
  done_logged (Show i) = h

pub starts_logged : (set : Setting) → AllLogged set (switched_on set).ledger
starts_logged set e m = absurd (true≢false (sym m))
