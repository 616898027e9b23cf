-- Whatever shows the first `forged` of a run is a step of a deployed module's code or an answer that the deployer accepts.
use Rattle.std.proofs.Common.{◌≡◌, ℕ, inl, inr, false, List, [], ◌∷◌, ◌++◌, length, take, Option, Some, None, Result, Ok, Err, refl, sym, ◌∙◌, ap, subst, arith}
use Rattle.std.specs.Prelude.{slice_get}
use Rattle.std.proofs.lemmas.Bool.{true≢false}
use Rattle.std.proofs.lemmas.Option.{none-some}
use Rattle.sx_trace.specs.declared.items.Item.{Item}
use Rattle.sx_trace.specs.declared.items.Item.TheVariants as item
use Rattle.sx_mean.specs.declared.apps.AppDevice.{AppDevice}
use Rattle.sx_ledger.specs.declared.entry.Maker.TheVariants as maker
use Rattle.spec_machine.specs.declared.kinds.Refused.{Refused}
use Rattle.spec_machine.specs.declared.kinds.Refused.TheVariants as refused
use Rattle.spec_machine.specs.declared.kinds.Seen.{Seen}
use Rattle.spec_machine.specs.State.{State}
use Rattle.spec_machine.specs.Acts.{irq, put, set as set_register, sense, take as take_from}
use Rattle.sx_sched.specs.Lines.{Line}
use Rattle.spec_run.specs.Setting.{Setting, Site}
use Rattle.spec_run.specs.Ledger.{Made, NO_TARGET, made_entry, is_made}
use Rattle.spec_run.specs.Deployer.{key_of}
use Rattle.spec_run.specs.Observation.{event_seen, touch_items}
use Rattle.spec_run.specs.State.{World, Acted}
use Rattle.spec_run.specs.Acts.{after_step, after_take, after_interrupt, after_answer, at_node, done_on, or_refused, refused_item}
use Rattle.spec_run.specs.Run.{sense_at, give, place_at}
use Rattle.spec_run.specs.Law.{IsSoundSetting}
use Rattle.law_isolation.specs.Happening.{Happening, Begin, Step, Put, Set, Take, Give, Forge, Sense, Irq, Reset, Ask, Answer, Show, done}
use Rattle.law_forgery.specs.Moments.{Moment, moment, IsAmong}
use Rattle.law_forgery.specs.Forgery.{OfModule, key_at, WasWrapped, CallsFor, Answers, AsPacket, Forgery}
use Rattle.law_forgery.proofs.Reaching.{InForm}
use Rattle.law_forgery.proofs.Forging.{among_append, touches_not, event_forged, AnswerForged, answers_forge}
use Rattle.law_forgery.proofs.Logging.{AllLogged}
use Rattle.law_forgery.proofs.Accepting.{crypt_none, key_long}

-- All that happens.

module _ (set : Setting) (w : World) (who : Option ℕ) where
  abbrev Shows : Acted → Type 0
  Shows a = IsAmong (item.Forged who) a.items

  refused_not : (n : ℕ) (why : Refused) → refused_item n why ≡ item.Forged who → ⊥
  refused_not n refused.Busy e = cc
  refused_not n refused.Guarded e = cc
  refused_not n refused.Masked e = cc

  pub or_not : (n : ℕ) (items : List Item) (r : Result (Unit {0}) Refused) → (IsAmong (item.Forged who) items → ⊥) → IsAmong (item.Forged who) (or_refused n items r) → ⊥
  or_not n items (Ok u) f h = f h
  or_not n items (Err why) f h = elim h [ inl e ↦ refused_not n why e | inr z ↦ z ]

  pub at_not : (f : State → Acted) → ((s : State) → Shows (f s) → ⊥) → (o : Option State) → Shows (at_node w f o) → ⊥
  at_not f g None h = h
  at_not f g (Some s) h = g s h

  pub take_not : (n : ℕ) (r : Result (List ℕ) Refused) → Shows (after_take w n r) → ⊥
  take_not n (Ok bytes) h = elim h [ inl e ↦ cc | inr z ↦ z ]
  take_not n (Err why) h = elim h [ inl e ↦ refused_not n why e | inr z ↦ z ]

  pub irq_not : (n : ℕ) (s : State) (r : Result Seen Refused) → Shows (after_interrupt set w n s r) → ⊥
  irq_not n s (Err why) h = elim h [ inl e ↦ refused_not n why e | inr z ↦ z ]
  irq_not n s (Ok seen) h = elim (among_append (item.Forged who) (touch_items set.app n None seen.touch) (event_seen set n None s w.ledger seen.event).items h) [
    | inl t ↦ touches_not who set.app n None seen.touch t
    | inr t ↦ none-some (event_forged set n None s w.ledger seen.event who t).0 (event_forged set n None s w.ledger seen.event who t).1
  ]

  sense_item : (d v : ℕ) → IsAmong (item.Forged who) (item.Sense d v ∷ []) → ⊥
  sense_item d v h = elim h [ inl e ↦ cc | inr z ↦ z ]

  pub give_not : (n at : ℕ) (o : Option (List ℕ)) → Shows (give w n at o) → ⊥
  give_not n at None h = elim h [ inl e ↦ cc | inr z ↦ z ]
  give_not n at (Some bytes) h = at_not (λ s. done_on w n [] (put s at bytes)) (λ s. or_not n [] (put s at bytes).shown (λ z. z)) (slice_get w.nodes n) h

  pub sense_not : (d v : ℕ) (o : Option AppDevice) → Shows (sense_at set w d v o) → ⊥
  sense_not d v None h = h
  sense_not d v (Some y) h =
      at_not (λ s. done_on w y.node (item.Sense d v ∷ []) (sense s (place_at set y.node d) v))
      (λ s. or_not y.node (item.Sense d v ∷ []) (sense s (place_at set y.node d) v).shown (sense_item d v)) (slice_get w.nodes y.node) h

module _ (set : Setting) (lines : List Line) (k : ℕ) (now : Moment) (who : Option ℕ) (sound : IsSoundSetting set) (logged : AllLogged set now.world.ledger) (at : moment set lines k ≡ Some now)
    (on_step : (n : ℕ) (s : State) → slice_get now.world.nodes n ≡ Some s → IsAmong (item.Forged who) (after_step set now.world n s).items → Forgery set lines k now.world who) where
  abbrev w : World
  w = now.world

  -- an answer that the deployer accepts
  accepted : (m boot p : ℕ) (site : Site) (answer : List ℕ) → slice_get set.sites m ≡ Some site → slice_get w.packets p ≡ Some answer
      → AnswerForged set w m boot site answer who → Forgery set lines k w who
  accepted m boot p site answer sited packet a =
      let right : key_at set boot (slice_get set.sites m) ≡ key_of set site boot = ap (key_at set boot) sited in
      record {
        key = OfModule m boot;
        header = a.ask;
        cipher = [];
        tag = answer;
        calls = subst (λ (z : Option ℕ). CallsFor set w z a.ask (OfModule m boot)) (sym a.deployer) (Answers m boot a.ask a.asked);
        presented = record { j = k; past = now; early = omega arith; at = at; stands = AsPacket p packet };
        whole = subst (λ (z : List ℕ). answer ≡ take 16 (set.mac z (0x54 ∷ length a.ask ∷ (a.ask ++ [])))) (sym right) a.whole;
        unmade = λ body c was. refuted body (crypt_none set.secret set.mac _ a.ask body sound.tag c) was;
      }
    where
      refuted : (body : List ℕ) → body ≡ [] → WasWrapped w.ledger (OfModule m boot) a.ask body → ⊥
      refuted body e (inl was) =
          let f = logged (made_entry maker.Deployer m boot a.ask body) was in
          let long : length body ≡ 16 = ap (λ (z : Made). length z.body) f.1 ∙ key_long set f.0.«end».link f.0.epoch sound.tag in
          let none = ap length e in
          absurd (omega (arith, long, none))
      refuted body e (inr was) = true≢false (sym was ∙ subst (λ (z : List ℕ). is_made w.ledger (made_entry (maker.Module m) NO_TARGET boot a.ask z) ≡ false) (sym e) a.unmade)

  answered : (m boot p : ℕ) (o : Option Site) → slice_get set.sites m ≡ o → (q : Option (List ℕ)) → slice_get w.packets p ≡ q
      → IsAmong (item.Forged who) (after_answer set w m boot o q).items → Forgery set lines k w who
  answered m boot p None e q f h = elim h [ inl e ↦ absurd cc | inr z ↦ absurd z ]
  answered m boot p (Some site) e None f h = elim h [ inl e ↦ absurd cc | inr z ↦ absurd z ]
  answered m boot p (Some site) e (Some answer) f h = accepted m boot p site answer e f (answers_forge set w m boot site answer who h)

  stepped : (n : ℕ) (o : Option State) → slice_get w.nodes n ≡ o → IsAmong (item.Forged who) (at_node w (after_step set w n) o).items → Forgery set lines k w who
  stepped n None e h = absurd h
  stepped n (Some s) e h = on_step n s e h

  pub shows_forgery : (y : Happening) → InForm y → IsAmong (item.Forged who) (done set y w).items → Forgery set lines k w who
  shows_forgery Begin f h = absurd h
  shows_forgery (Step n) f h = stepped n (slice_get w.nodes n) refl h
  shows_forgery (Put n at bytes) f h = absurd (at_not set w who (λ s. done_on w n [] (put s at bytes)) (λ s. or_not set w who n [] (put s at bytes).shown (λ z. z)) (slice_get w.nodes n) h)
  shows_forgery (Set n r v) f h = absurd (at_not set w who (λ s. done_on w n [] (set_register s r v)) (λ s. or_not set w who n [] (set_register s r v).shown (λ z. z)) (slice_get w.nodes n) h)
  shows_forgery (Take n at len) f h = absurd (at_not set w who (λ s. after_take w n (take_from s at len).shown) (λ s. take_not set w who n (take_from s at len).shown) (slice_get w.nodes n) h)
  shows_forgery (Give p n at) f h = absurd (give_not set w who n at (slice_get w.packets p) h)
  shows_forgery (Forge bytes) f h = elim h [ inl e ↦ absurd cc | inr z ↦ absurd z ]
  shows_forgery (Sense d v) f h = absurd (sense_not set w who d v (slice_get set.app.devices d) h)
  shows_forgery (Irq n i) f h = absurd (at_not set w who (λ s. after_interrupt set w n (irq s i).state (irq s i).shown)
      (λ s. irq_not set w who n (irq s i).state (irq s i).shown) (slice_get w.nodes n) h)
  shows_forgery (Reset n) f h = absurd (at_not set w who _ (λ s t. elim t [ inl e ↦ cc | inr z ↦ z ]) (slice_get w.nodes n) h)
  shows_forgery (Ask m) f h = elim h [ inl e ↦ absurd cc | inr r ↦ elim r [ inl e ↦ absurd cc | inr z ↦ absurd z ] ]
  shows_forgery (Answer m boot p) f h = answered m boot p (slice_get set.sites m) refl (slice_get w.packets p) refl h
  shows_forgery (Show i) f h = elim h [ inl e ↦ absurd (f who e) | inr z ↦ absurd z ]
