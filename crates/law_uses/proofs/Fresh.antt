-- What nobody wrapped no moment before gave.
use Rattle.std.proofs.Common.{◌≡◌, ℕ, zero, suc, ◌<◌, inl, inr, Bool, true, false, cond, ◌&&◌, ◌==◌, List, [], ◌∷◌, ◌++◌, take, drop, length, Option, Some, None, Result, Ok, Err, refl, sym, ◌∙◌, ap, subst, arith}
use Rattle.std.specs.Prelude.{slice_get}
use Rattle.std.specs.Option.{option_flatten}
use Rattle.std.proofs.lemmas.List.{take_at, drop_at}
use Rattle.sx_trace.specs.declared.items.Item.TheVariants as item
use Rattle.sx_mean.specs.declared.apps.AppDevice.{AppDevice}
use Rattle.sx_ledger.specs.declared.entry.Maker.TheVariants as maker
use Rattle.sx_tag.specs.Wrap.{crypt}
use Rattle.spec_machine.specs.declared.kinds.Refused.{Refused}
use Rattle.spec_machine.specs.declared.kinds.Seen.{Seen}
use Rattle.spec_machine.specs.declared.kinds.Event.{Event}
use Rattle.spec_machine.specs.declared.kinds.Event.TheVariants as event
use Rattle.spec_machine.specs.State.{State}
use Rattle.spec_machine.specs.Step.{own_of, step}
use Rattle.spec_machine.specs.Acts.{take as take_from, irq}
use Rattle.sx_wire.specs.Headers.{is_ask, is_event_header, challenge_in}
use Rattle.spec_run.specs.Setting.{Setting, Site, module_of}
use Rattle.sx_ledger.specs.Made.{Made, NO_TARGET}
use Rattle.spec_run.specs.Ledger.{made_entry, is_made, header_of, body_of}
use Rattle.sx_deployer.specs.Granting.{grants_after}
use Rattle.spec_run.specs.Deployer.{key_of, accepts, after_acceptance}
use Rattle.spec_run.specs.Observation.{with_items, has_wrapped, event_seen}
use Rattle.spec_run.specs.State.{World, Acted, switched_on}
use Rattle.spec_run.specs.Acts.{at_node, after_step, with_deployer, attested, after_take, after_interrupt, after_denial, after_verdict, after_answer}
use Rattle.spec_run.specs.Run.{sense_at, give}
use Rattle.spec_run.proofs.tie.Lists.{some_inj}
use Rattle.spec_run.proofs.tie.Entries.{made_before}
use Rattle.law_isolation.specs.Happening.{Happening, Begin, Step, Put, Set, Take, Give, Forge, Sense, Irq, Reset, Ask, Answer, Show, done}
use Rattle.law_isolation.specs.Script.{Script, End, Do, looks}
use Rattle.law_isolation.specs.Lines.{script_of}
use Rattle.law_forgery.specs.Moments.{Moment, moment_from}
use Rattle.law_forgery.specs.Forgery.{KeyName, OfModule, WasWrapped, key_named, key_at}
use Rattle.law_uses.specs.Fresh.{UnmadeWasNotGiven, ForgedWasNotGiven}
use Rattle.law_uses.proofs.Logged.{all_given, given_are_logged}

-- An entry stays.

module _ (set : Setting) (e : Made) where
  abbrev Has : List Made → Type 0
  Has ledger = is_made ledger e ≡ true

  wrapped_keeps : (m boot : ℕ) (header body : List ℕ) (own : Bool) (ledger : List Made) → Has ledger → Has (has_wrapped m boot header body own ledger).ledger
  wrapped_keeps m boot header body own ledger h = by (is_ask header && ((length body == 0) && own)) (is_event_header header && (length body == 2))
    where
      by : (c d : Bool) → Has (cond c (with_items (ledger ++ made_entry (maker.Module m) NO_TARGET boot header body ∷ []) (item.Vouch m (challenge_in header) ∷ []))
          (cond d (with_items (ledger ++ made_entry (maker.Module m) NO_TARGET 0 header body ∷ []) []) (with_items ledger []))).ledger
      by true d = made_before ledger (made_entry (maker.Module m) NO_TARGET boot header body) e h
      by false true = made_before ledger (made_entry (maker.Module m) NO_TARGET 0 header body) e h
      by false false = h

  event_keeps : (n : ℕ) (runner : Option ℕ) (s : State) (ledger : List Made) (v : Event) → Has ledger → Has (event_seen set n runner s ledger v).ledger
  event_keeps n None s ledger event.Quiet h = h
  event_keeps n (Some m) s ledger event.Quiet h = h
  event_keeps n runner s ledger (event.Reset v) h = h
  event_keeps n runner s ledger (event.Protected id) h = h
  event_keeps n None s ledger (event.Removed id) h = h
  event_keeps n (Some m) s ledger (event.Removed id) h = h
  event_keeps n None s ledger (event.Wrapped id) h = h
  event_keeps n (Some m) s ledger (event.Wrapped id) h = wrapped_keeps m s.boot (header_of s.exchange) (body_of s.exchange) s.exchange.own_key ledger h
  event_keeps n None s ledger (event.Unwrapped id) h = h
  event_keeps n (Some m) s ledger (event.Unwrapped id) h = h
  event_keeps n None s ledger (event.Left id) h = h
  event_keeps n (Some m) s ledger (event.Left id) h = h

  answer_keeps : (w : World) (m boot : ℕ) (o : Option Site) (p : Option (List ℕ)) → Has w.ledger → Has (after_answer set w m boot o p).world.ledger
  answer_keeps w m boot None p h = h
  answer_keeps w m boot (Some site) None h = h
  answer_keeps w m boot (Some site) (Some answer) h = verdict (option_flatten (slice_get w.deployer.open_asks m))
    where
      by : (ask : List ℕ) (b : Bool) → Has (cond b (attested set w m boot ask (option_flatten (slice_get w.deployer.attested m))) (after_denial w m)).world.ledger
      by ask true =
          let d = after_acceptance set.app.links w.deployer m boot (option_flatten (slice_get w.deployer.attested m)) in
          all_given set (grants_after set.app d m boot (option_flatten (slice_get w.deployer.attested m))) (with_deployer w d w.ledger) e h
      by ask false = h

      verdict : (o : Option (List ℕ)) → Has (after_verdict set w m site boot answer o).world.ledger
      verdict None = h
      verdict (Some ask) = by ask (accepts set site w.deployer m boot answer (Some ask) (option_flatten (slice_get w.deployer.attested m)))

  module _ (w : World) (h : Has w.ledger) where
    at_keeps : (f : State → Acted) → ((s : State) → Has (f s).world.ledger) → (o : Option State) → Has (at_node w f o).world.ledger
    at_keeps f g None = h
    at_keeps f g (Some s) = g s

    take_keeps : (n : ℕ) (r : Result (List ℕ) Refused) → Has (after_take w n r).world.ledger
    take_keeps n (Ok bytes) = h
    take_keeps n (Err why) = h

    irq_keeps : (n : ℕ) (s : State) (r : Result Seen Refused) → Has (after_interrupt set w n s r).world.ledger
    irq_keeps n s (Ok seen) = event_keeps n None s w.ledger seen.event h
    irq_keeps n s (Err why) = h

    give_keeps : (n at : ℕ) (o : Option (List ℕ)) → Has (give w n at o).world.ledger
    give_keeps n at None = h
    give_keeps n at (Some bytes) = at_keeps _ (λ s. h) (slice_get w.nodes n)

    sense_keeps : (d v : ℕ) (o : Option AppDevice) → Has (sense_at set w d v o).world.ledger
    sense_keeps d v None = h
    sense_keeps d v (Some x) = at_keeps _ (λ s. h) (slice_get w.nodes x.node)

    done_keeps : (x : Happening) → Has (done set x w).world.ledger
    done_keeps Begin = h
    done_keeps (Step n) =
        at_keeps (after_step set w n) (λ s. event_keeps n (module_of set.sites n s (own_of s)) (step set.mac s).state w.ledger (step set.mac s).shown.event h) (slice_get w.nodes n)
    done_keeps (Put n at bytes) = at_keeps _ (λ s. h) (slice_get w.nodes n)
    done_keeps (Set n r v) = at_keeps _ (λ s. h) (slice_get w.nodes n)
    done_keeps (Take n at len) = at_keeps (λ s. after_take w n (take_from s at len).shown) (λ s. take_keeps n (take_from s at len).shown) (slice_get w.nodes n)
    done_keeps (Give k n at) = give_keeps n at (slice_get w.packets k)
    done_keeps (Forge bytes) = h
    done_keeps (Sense d v) = sense_keeps d v (slice_get set.app.devices d)
    done_keeps (Irq n k) = at_keeps (λ s. after_interrupt set w n (irq s k).state (irq s k).shown) (λ s. irq_keeps n (irq s k).state (irq s k).shown) (slice_get w.nodes n)
    done_keeps (Reset n) = at_keeps _ (λ s. h) (slice_get w.nodes n)
    done_keeps (Ask m) = h
    done_keeps (Answer m boot k) = answer_keeps w m boot (slice_get set.sites m) (slice_get w.packets k) h
    done_keeps (Show i) = h

  from_here : (k : ℕ) (script : Script) (w : World) (now : Moment) → moment_from set k script w ≡ Some now → Has w.ledger → Has now.world.ledger
  from_here k End w now f h = absurd cc
  from_here zero (Do x rest) w now f h = subst (λ (o : Moment). Has o.world.ledger) (some_inj _ now f) h
  from_here (suc k) (Do x rest) w now f h = from_here k (rest (looks (done set x w).world)) (done set x w).world now f (done_keeps w h x)

  later : (j k : ℕ) (script : Script) (w : World) (past now : Moment) → j < k → moment_from set j script w ≡ Some past → moment_from set k script w ≡ Some now
      → Has (done set past.next past.world).world.ledger → Has now.world.ledger
  later j k End w past now lt f g h = absurd cc
  later j zero (Do x rest) w past now lt f g h = absurd (omega (arith, lt))
  later zero (suc k) (Do x rest) w past now lt f g h =
      from_here k (rest (looks (done set x w).world)) (done set x w).world now g
      (subst (λ (o : Moment). Has (done set o.next o.world).world.ledger) (sym (some_inj _ past f)) h)
  later (suc j) (suc k) (Do x rest) w past now lt f g h =
      later j k (rest (looks (done set x w).world)) (done set x w).world past now (omega (arith, lt)) f g h

was_later : (set : Setting) (m boot : ℕ) (header body : List ℕ) (j k : ℕ) (script : Script) (w : World) (past now : Moment) → j < k → moment_from set j script w ≡ Some past → moment_from set k script w ≡ Some now
    → WasWrapped (done set past.next past.world).world.ledger (OfModule m boot) header body → WasWrapped now.world.ledger (OfModule m boot) header body
was_later set m boot header body j k script w past now lt f g (inl h) = inl (later set (made_entry maker.Deployer m boot header body) j k script w past now lt f g h)
was_later set m boot header body j k script w past now lt f g (inr h) = inr (later set (made_entry (maker.Module m) NO_TARGET boot header body) j k script w past now lt f g h)

-- A header and what follows it.

abbrev head_of : List ℕ → ℕ
head_of [] = 0
head_of (x ∷ xs) = x

record Cut (h g c d : List ℕ) : Type 0 where
  header : h ≡ g
  cipher : c ≡ d

cut_same : (h g c d : List ℕ) → length h ∷ (h ++ c) ≡ length g ∷ (g ++ d) → Cut h g c d
cut_same h g c d e =
    let long : length h ≡ length g = ap head_of e in
    let rest : h ++ c ≡ g ++ d = ap (drop 1) e in
    record {
      header = sym (take_at h c (length h) refl) ∙ ap (take (length h)) rest ∙ take_at g d (length h) (sym long);
      cipher = sym (drop_at h c (length h) refl) ∙ ap (drop (length h)) rest ∙ drop_at g d (length h) (sym long);
    }

pub unmade_was_not_given : UnmadeWasNotGiven
unmade_was_not_given set sound lines form k now at none m boot site header cipher sited unmade j past lt here i =
    let x = given_are_logged set sound lines form j past here (λ l before less there. none l before (omega (arith, less, lt)) there) m boot site (length header ∷ (header ++ cipher)) sited i in
    let c = cut_same header x.header cipher (crypt set.mac (key_of set site boot) x.header x.body) x.of_them in
    let w = was_later set m boot x.header x.body j k (script_of set lines) (switched_on set) past now lt here at x.entered in
    unmade x.body (ap (λ (h : List ℕ). crypt set.mac (key_of set site boot) h x.body) c.header ∙ sym c.cipher)
    (subst (λ (h : List ℕ). WasWrapped now.world.ledger (OfModule m boot) h x.body) (sym c.header) w)

pub forged_was_not_given : ForgedWasNotGiven
forged_was_not_given set sound lines form k now who first f m boot site name sited =
    unmade_was_not_given set sound lines form k now first.at first.first m boot site f.header f.cipher sited (λ body c was.
    f.unmade body (ap (λ (key : List ℕ). crypt set.mac key f.header body) key ∙ c) (subst (λ (z : KeyName). WasWrapped now.world.ledger z f.header body) (sym name) was))
  where
    key : key_named set f.key ≡ key_of set site boot
    key = ap (key_named set) name ∙ ap (key_at set boot) sited
