-- What was accepted where `forged` is shown.
use Rattle.std.proofs.Common.{◌≡◌, ℕ, ◌+◌, ◌*◌, ◌==◌, ◌⊎◌, inl, inr, Bool, true, false, cond, ◌&&◌, bytes_eq, List, [], ◌∷◌, ◌++◌, length, take, Option, Some, None, refl}
use Rattle.std.specs.Prelude.{slice_get}
use Rattle.std.proofs.lemmas.Bool.{and_parts}
use Rattle.std.specs.Option.{option_flatten}
use Rattle.std.specs.Prelude.{unwrap_or}
use Rattle.std.proofs.lemmas.Slice.Eq.{bytes_eq-Decides}
use Rattle.sx_lang.specs.declared.sides.Side.TheVariants.{To}
use Rattle.sx_trace.specs.declared.items.Item.{Item}
use Rattle.sx_trace.specs.declared.items.Item.TheVariants as item
use Rattle.sx_ledger.specs.declared.entry.Maker.TheVariants as maker
use Rattle.sx_tag.specs.Wrap.{crypt, wrap_tag}
use Rattle.spec_machine.specs.declared.kinds.Touch.{Touch}
use Rattle.spec_machine.specs.declared.kinds.Touch.TheVariants as touch
use Rattle.spec_machine.specs.declared.kinds.Event.{Event}
use Rattle.spec_machine.specs.declared.kinds.Event.TheVariants as event
use Rattle.spec_machine.specs.State.{State}
use Rattle.sx_model.specs.Legal.{is_forged}
use Rattle.sx_model.specs.Renewal.{may_attest}
use Rattle.sx_mean.specs.Application.{AppTree}
use Rattle.spec_run.specs.Setting.{Setting, Site, device_number}
use Rattle.spec_run.specs.Ledger.{Made, NO_TARGET, made_entry, is_made, header_of, body_of}
use Rattle.sx_wire.specs.Headers.{is_ask, is_set_key_header, is_event_header, link_in, epoch_in, last_in, value_in, challenge_in}
use Rattle.sx_deployer.specs.Granting.{Grant, grants_after}
use Rattle.spec_run.specs.Deployer.{key_of, accepts, after_acceptance}
use Rattle.spec_run.proofs.acts.Asking.{expected}
use Rattle.spec_run.specs.Observation.{Observed, is_driver, read_item, write_item, touch_items, has_wrapped, unless_made, side_in, has_end, sender_of, has_unwrapped, event_seen}
use Rattle.spec_run.specs.State.{World}
use Rattle.spec_run.specs.Acts.{with_deployer, key_given, keys_given, attested, after_denial, after_verdict, after_answer}
use Rattle.law_forgery.specs.Moments.{IsAmong}

-- an item that is forged
pub forged_is : (i : Item) → is_forged i ≡ true → (who : Option ℕ) × (i ≡ item.Forged who)
forged_is (item.Forged who) e = (who, refl)
forged_is i e = absurd cc

pub among_append : (i : Item) (xs ys : List Item) → IsAmong i (xs ++ ys) → IsAmong i xs ⊎ IsAmong i ys
among_append i [] ys h = inr h
among_append i (x ∷ xs) ys h = elim h [ inl e ↦ inl (inl e) | inr r ↦ elim (among_append i xs ys r) [ inl a ↦ inl (inr a) | inr b ↦ inr b ] ]

-- Touches show no `forged`.

read_not : (who : Option ℕ) (app : AppTree) (runner : Option ℕ) (d v : ℕ) → read_item app runner d v ≡ item.Forged who → ⊥
read_not who app runner d v e = by (is_driver app runner d) e
  where
    by : (b : Bool) → cond b (item.Read (unwrap_or runner 0) v) (item.Drain d) ≡ item.Forged who → ⊥
    by true e = cc
    by false e = cc

write_not : (who : Option ℕ) (app : AppTree) (runner : Option ℕ) (d v : ℕ) → write_item app runner d v ≡ item.Forged who → ⊥
write_not who app runner d v e = by (is_driver app runner d) e
  where
    by : (b : Bool) → cond b (item.Out (unwrap_or runner 0) v) (item.Raw d v) ≡ item.Forged who → ⊥
    by true e = cc
    by false e = cc

pub touches_not : (who : Option ℕ) (app : AppTree) (n : ℕ) (runner : Option ℕ) (ts : List Touch) → IsAmong (item.Forged who) (touch_items app n runner ts) → ⊥
touches_not who app n runner [] h = absurd h
touches_not who app n runner (touch.Quiet ∷ ts) h = touches_not who app n runner ts h
touches_not who app n runner (touch.DeviceRead k v ∷ ts) h = elim h [ inl e ↦ read_not who app runner (device_number app n k) v e | inr r ↦ touches_not who app n runner ts r ]
touches_not who app n runner (touch.DeviceWrite k v ∷ ts) h = elim h [ inl e ↦ write_not who app runner (device_number app n k) v e | inr r ↦ touches_not who app n runner ts r ]

-- Of the events an unwrap alone does.

pub forged_unless : (who m : Option ℕ) (made : Bool) (i : Item) → (i ≡ item.Forged who → ⊥) → IsAmong (item.Forged who) (unless_made m made i) → (who ≡ m) × (made ≡ false)
forged_unless who m true i ne h = elim h [ inl e ↦ absurd (ne e) | inr r ↦ absurd r ]
forged_unless who m false i ne h = elim h [ inl e ↦ (same e, refl) | inr r ↦ elim r [ inl e ↦ absurd (ne e) | inr z ↦ absurd z ] ]
  where
    same : {a b : Option ℕ} → item.Forged a ≡ item.Forged b → b ≡ a
    same e = cc

-- A module that unwraps opens an end with a key that the deployer hadn't made, or takes an event that the sending module hadn't made.
abbrev pub UnwrapKinds : AppTree → ℕ → ℕ → List ℕ → List ℕ → List Made → Type 0
UnwrapKinds app m boot header body ledger =
    ((is_set_key_header header ≡ true) × (is_made ledger (made_entry maker.Deployer m boot header body) ≡ false))
    ⊎ ((is_event_header header ≡ true) × (has_end app m (link_in header) To ≡ true)
    × (is_made ledger (made_entry (maker.Module (sender_of app (link_in header))) NO_TARGET 0 header body) ≡ false))

unwrapped_forged : (who : Option ℕ) (app : AppTree) (m boot : ℕ) (header body : List ℕ) (ledger : List Made)
    → IsAmong (item.Forged who) (has_unwrapped app m boot header body ledger) → (who ≡ Some m) × UnwrapKinds app m boot header body ledger
unwrapped_forged who app m boot header body ledger h =
    by (is_set_key_header header && has_end app m (link_in header) (side_in header)) refl (is_event_header header && has_end app m (link_in header) To) refl h
  where
    open_not : item.Open m (link_in header) (side_in header) (epoch_in header) ≡ item.Forged who → ⊥
    open_not e = cc

    take_not : item.Take m (link_in header) (65536 * epoch_in header + last_in header) (value_in body) ≡ item.Forged who → ⊥
    take_not e = cc

    by : (p : Bool) → (is_set_key_header header && has_end app m (link_in header) (side_in header)) ≡ p → (q : Bool) → (is_event_header header && has_end app m (link_in header) To) ≡ q
        → IsAmong (item.Forged who) (cond p (unless_made (Some m) (is_made ledger (made_entry maker.Deployer m boot header body)) (item.Open m (link_in header) (side_in header) (epoch_in header)))
        (cond q (unless_made (Some m) (is_made ledger (made_entry (maker.Module (sender_of app (link_in header))) NO_TARGET 0 header body))
        (item.Take m (link_in header) (65536 * epoch_in header + last_in header) (value_in body))) []))
        → (who ≡ Some m) × UnwrapKinds app m boot header body ledger
    by true e q f h =
        let r = forged_unless who (Some m) (is_made ledger (made_entry maker.Deployer m boot header body)) (item.Open m (link_in header) (side_in header) (epoch_in header)) open_not h in
        (r.0, inl ((and_parts (is_set_key_header header) _ e).0, r.1))
    by false e true f h =
        let r = forged_unless who (Some m) (is_made ledger (made_entry (maker.Module (sender_of app (link_in header))) NO_TARGET 0 header body))
        (item.Take m (link_in header) (65536 * epoch_in header + last_in header) (value_in body)) take_not h in
        let p = and_parts (is_event_header header) (has_end app m (link_in header) To) f in
        (r.0, inr (p.0, p.1, r.1))
    by false e false f h = absurd h

wrapped_not : (who : Option ℕ) (m boot : ℕ) (header body : List ℕ) (own : Bool) (ledger : List Made) → IsAmong (item.Forged who) (has_wrapped m boot header body own ledger).items → ⊥
wrapped_not who m boot header body own ledger h = by (is_ask header && ((length body == 0) && own)) (is_event_header header && (length body == 2)) h
  where
    vouch_not : item.Vouch m (challenge_in header) ≡ item.Forged who → ⊥
    vouch_not e = cc

    by : (p q : Bool)
        → IsAmong (item.Forged who) (cond {A = Observed} p (record { items = item.Vouch m (challenge_in header) ∷ []; ledger = ledger ++ made_entry (maker.Module m) NO_TARGET boot header body ∷ [] })
        (cond {A = Observed} q (record { items = []; ledger = ledger ++ made_entry (maker.Module m) NO_TARGET 0 header body ∷ [] }) (record { items = []; ledger = ledger }))).items → ⊥
    by true q h = elim h [ inl e ↦ vouch_not e | inr r ↦ r ]
    by false true h = h
    by false false h = h

pub event_forged : (set : Setting) (n : ℕ) (runner : Option ℕ) (s : State) (ledger : List Made) (e : Event) (who : Option ℕ) → IsAmong (item.Forged who) (event_seen set n runner s ledger e).items
    → (m : ℕ) × (runner ≡ Some m) × (who ≡ Some m) × (id : ℕ) × (e ≡ event.Unwrapped id) × UnwrapKinds set.app m s.boot (header_of s.exchange) (body_of s.exchange) ledger
event_forged set n runner s ledger event.Quiet who h = absurd (quiet runner h)
  where
    quiet : (r : Option ℕ) → IsAmong (item.Forged who) (event_seen set n r s ledger event.Quiet).items → ⊥
    quiet None h = h
    quiet (Some m) h = h
event_forged set n runner s ledger (event.Reset v) who h = elim h [ inl e ↦ absurd cc | inr r ↦ absurd r ]
event_forged set n runner s ledger (event.Protected id) who h = elim h [ inl e ↦ absurd cc | inr r ↦ absurd r ]
event_forged set n runner s ledger (event.Removed id) who h = absurd (quiet runner h)
  where
    quiet : (r : Option ℕ) → IsAmong (item.Forged who) (event_seen set n r s ledger (event.Removed id)).items → ⊥
    quiet None h = h
    quiet (Some m) h = h
event_forged set n None s ledger (event.Wrapped id) who h = absurd h
event_forged set n (Some m) s ledger (event.Wrapped id) who h = absurd (wrapped_not who m s.boot (header_of s.exchange) (body_of s.exchange) s.exchange.own_key ledger h)
event_forged set n None s ledger (event.Unwrapped id) who h = absurd h
event_forged set n (Some m) s ledger (event.Unwrapped id) who h =
    let r = unwrapped_forged who set.app m s.boot (header_of s.exchange) (body_of s.exchange) ledger h in
    (m, refl, r.0, id, refl, r.1)
event_forged set n None s ledger (event.Left id) who h = absurd h
event_forged set n (Some m) s ledger (event.Left id) who h = elim h [ inl e ↦ absurd cc | inr r ↦ absurd r ]

-- Answers.

packets_not : (who : Option ℕ) (set : Setting) (gs : List Grant) (w : World) → IsAmong (item.Forged who) (keys_given set gs w).items → ⊥
packets_not who set [] w h = h
packets_not who set (g ∷ gs) w h =
    elim (among_append (item.Forged who) (key_given set w g (slice_get set.sites g.holder)).items (keys_given set gs (key_given set w g (slice_get set.sites g.holder)).world).items h) [
      | inl t ↦ one (slice_get set.sites g.holder) t
      | inr t ↦ packets_not who set gs (key_given set w g (slice_get set.sites g.holder)).world t
    ]
  where
    one : (o : Option Site) → IsAmong (item.Forged who) (key_given set w g o).items → ⊥
    one None h = h
    one (Some site) h = elim h [ inl e ↦ absurd cc | inr r ↦ r ]

-- The deployer accepted an answer: all 16 bytes of a tag under the key of the module at that boot, and the module hadn't vouched.
pub record AnswerForged (set : Setting) (w : World) (m boot : ℕ) (site : Site) (answer : List ℕ) (who : Option ℕ) : Type 0 where
  pub deployer : who ≡ None
  pub ask : List ℕ
  pub asked : option_flatten (slice_get w.deployer.open_asks m) ≡ Some ask
  pub whole : answer ≡ take 16 (set.mac (key_of set site boot) (0x54 ∷ length ask ∷ (ask ++ [])))
  pub unmade : is_made w.ledger (made_entry (maker.Module m) NO_TARGET boot ask []) ≡ false

pub answers_forge : (set : Setting) (w : World) (m boot : ℕ) (site : Site) (answer : List ℕ) (who : Option ℕ)
    → IsAmong (item.Forged who) (after_answer set w m boot (Some site) (Some answer)).items → AnswerForged set w m boot site answer who
unfolding wrap_tag crypt
answers_forge set w m boot site answer who h = verdict (option_flatten (slice_get w.deployer.open_asks m)) refl h
  where
    verdict : (o : Option (List ℕ)) → option_flatten (slice_get w.deployer.open_asks m) ≡ o
        → IsAmong (item.Forged who) (after_verdict set w m site boot answer o).items → AnswerForged set w m boot site answer who
    verdict None e h = elim h [ inl f ↦ absurd cc | inr r ↦ absurd r ]
    verdict (Some ask) e h = by (accepts set site w.deployer m boot answer (Some ask) (option_flatten (slice_get w.deployer.attested m))) refl h
      where
        accepted : (b : Bool) → is_made w.ledger (made_entry (maker.Module m) NO_TARGET boot ask []) ≡ b
            → IsAmong (item.Forged who) (unless_made None b (item.Attested m boot)) → (who ≡ None) × (b ≡ false)
        accepted b f h = forged_unless who None b (item.Attested m boot) (λ e. absurd cc) h

        by : (b : Bool) → accepts set site w.deployer m boot answer (Some ask) (option_flatten (slice_get w.deployer.attested m)) ≡ b
            → IsAmong (item.Forged who) (cond b (attested set w m boot ask (option_flatten (slice_get w.deployer.attested m))) (after_denial w m)).items → AnswerForged set w m boot site answer who
        by false f h = elim h [ inl f ↦ absurd cc | inr r ↦ absurd r ]
        by true f h =
            let last = option_flatten (slice_get w.deployer.attested m) in
            let d = after_acceptance set.app.links w.deployer m boot last in
            let made = is_made w.ledger (made_entry (maker.Module m) NO_TARGET boot ask []) in
            elim (among_append (item.Forged who) (unless_made None made (item.Attested m boot)) (keys_given set (grants_after set.app d m boot last) (with_deployer w d w.ledger)).items h) [
              | inl t ↦
                  let r = accepted made refl t in
                  let p = and_parts (bytes_eq answer (expected set site boot ask)) (may_attest m set.app.links w.deployer.epochs last boot) f in
                  record { deployer = r.0; ask = ask; asked = e; whole = (bytes_eq-Decides answer (expected set site boot ask)).0 p.0; unmade = r.1 }
              | inr t ↦ absurd (packets_not who set (grants_after set.app d m boot last) (with_deployer w d w.ledger) t)
            ]
