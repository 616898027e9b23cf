-- The first `forged` is a hit, and under a module's key a fresh one.
use Rattle.std.proofs.Common.{◌≡◌, ℕ, ◌+◌, ◌-◌, ◌*◌, ◌&&◌, ◌⊎◌, inl, inr, Bool, true, false, cond, List, [], ◌∷◌, ◌++◌, length, take, slice_index, bytes_eq, Option, Some, None, refl, sym, ◌∙◌, ap, ap₂, subst, arith}
use Rattle.std.specs.Prelude.{slice_get}
use Rattle.std.specs.Option.{option_flatten}
use Rattle.std.proofs.lemmas.Bool.{true≢false, and_parts, and_from}
use Rattle.std.proofs.lemmas.List.{append_assoc, append-nil}
use Rattle.lemmas.proofs.Texts.{bytes_eq-same}
use Rattle.sx_lang.specs.declared.sides.Side.TheVariants.{To}
use Rattle.sx_trace.specs.declared.items.Item.{Item}
use Rattle.sx_trace.specs.declared.items.Item.TheVariants as item
use Rattle.sx_mean.specs.Application.{AppTree}
use Rattle.sx_model.specs.Legal.{is_forged}
use Rattle.sx_ledger.specs.declared.entry.Maker.TheVariants as maker
use Rattle.sx_ledger.specs.Made.{Made, NO_TARGET}
use Rattle.sx_rules.specs.declared.section.Layout.{Layout}
use Rattle.sx_tag.specs.Wrap.{crypt, padded}
use Rattle.sx_tag.specs.Mac.{Mac}
use Rattle.sx_wire.specs.Headers.{is_set_key_header, is_event_header, link_in, epoch_in, last_in, value_in}
use Rattle.spec_machine.specs.declared.kinds.Event.{Event}
use Rattle.spec_machine.specs.declared.kinds.Event.TheVariants as event
use Rattle.spec_machine.specs.declared.kinds.Exchange.{Exchange}
use Rattle.spec_machine.specs.Memory.{bytes_from}
use Rattle.spec_machine.specs.ModuleRows.{own_key}
use Rattle.spec_machine.specs.State.{State}
use Rattle.spec_machine.specs.Step.{own_of, attempt, step}
use Rattle.spec_machine.specs.Acts.{put, set as set_register, take as take_from, irq}
use Rattle.sx_sched.specs.Lines.{Line}
use Rattle.spec_run.specs.Setting.{Setting, Site, module_of}
use Rattle.spec_run.specs.Deployer.{key_of}
use Rattle.spec_run.specs.Ledger.{made_entry, is_made, header_of, body_of}
use Rattle.spec_run.specs.Law.{IsTagUnder, IsSoundSetting, LinesInForm}
use Rattle.spec_run.specs.Observation.{touch_items, unless_made, side_in, has_end, sender_of, has_unwrapped, event_seen}
use Rattle.spec_run.specs.State.{World, Acted}
use Rattle.spec_run.specs.Acts.{at_node, after_step, done_on, after_take, after_interrupt, after_answer}
use Rattle.spec_run.proofs.tie.Lists.{some_inj}
use Rattle.spec_run.proofs.steps.Entry.{at_site}
use Rattle.spec_run.proofs.steps.Machine.{onward}
use Rattle.law_isolation.specs.Happening.{Happening, Begin, Step, Put, Set, Take, Give, Forge, Sense, Irq, Reset, Ask, Answer, Show, done}
use Rattle.law_isolation.specs.Lines.{script_of}
use Rattle.law_forgery.specs.Moments.{Moment, moment, shown_at, IsAmong, FirstForged}
use Rattle.law_forgery.specs.Forgery.{OfModule, WasWrapped}
use Rattle.law_forgery.proofs.Reaching.{InForm, lines_form}
use Rattle.law_forgery.proofs.Accepting.{crypt_none, crypt_long, key_long, key_begins, event_begins, ask_long, runner_at, unwrap_quiet}
use Rattle.law_forgery.proofs.Forging.{forged_is, among_append, touches_not, UnwrapKinds, event_forged, AnswerForged, answers_forge}
use Rattle.law_forgery.proofs.Forgeries.{body_back, step_opens_own}
use Rattle.law_forgery.proofs.Showing.{or_not, at_not, take_not, irq_not, give_not, sense_not}
use Rattle.law_forgery.proofs.Unmade.{Holds, holds}
use Rattle.law_uses.specs.Uses.{Holder, OfSection, key_held, Use, Tries, section_holder, module_holder, step_uses, answer_uses, verdict_uses, uses_at}
use Rattle.law_uses.specs.GivenLogged.{IsUse}
use Rattle.law_uses.specs.Hit.{ForgedIsHit, IsFreshHit, warned, is_of_module, ModuleTagsHitFresh}
use Rattle.law_uses.proofs.Fresh.{unmade_was_not_given}
use Rattle.law_uses.proofs.Trying.{Tried, tag_is, exchange_is, header_is, body_is, tried_at, use_at}

-- What shows a `forged`: code of a module that unwraps, or an answer that the deployer accepts.

pub record Unwrapping (set : Setting) (now : Moment) : Type 0 where
  pub n : ℕ
  pub s : State
  pub next : now.next ≡ Step n
  pub here : slice_get now.world.nodes n ≡ Some s
  pub m : ℕ
  pub runs : module_of set.sites n s (own_of s) ≡ Some m
  pub id : ℕ
  pub event_is : (step set.mac s).shown.event ≡ event.Unwrapped id
  pub kinds : let t = (step set.mac s).state in UnwrapKinds set.app m t.boot (header_of t.exchange) (body_of t.exchange) now.world.ledger

pub record Accepting (set : Setting) (now : Moment) (who : Option ℕ) : Type 0 where
  pub m : ℕ
  pub boot : ℕ
  pub packet : ℕ
  pub site : Site
  pub answer : List ℕ
  pub next : now.next ≡ Answer m boot packet
  pub sited : slice_get set.sites m ≡ Some site
  pub there : slice_get now.world.packets packet ≡ Some answer
  pub forged : AnswerForged set now.world m boot site answer who

module _ (set : Setting) (now : Moment) (who : Option ℕ) where
  abbrev w : World
  w = now.world

  abbrev Shown : Acted → Type 0
  Shown x = IsAmong (item.Forged who) x.items

  abbrev Comes : Type 0
  Comes = Unwrapping set now ⊎ Accepting set now who

  stepped : (n : ℕ) → now.next ≡ Step n → (o : Option State) → slice_get w.nodes n ≡ o → Shown (at_node w (after_step set w n) o) → Comes
  stepped n next None e h = absurd h
  stepped n next (Some s) e h =
      let v = step set.mac s in
      let runner = module_of set.sites n s (own_of s) in
      elim (among_append (item.Forged who) (touch_items set.app n runner v.shown.touch) (event_seen set n runner v.state w.ledger v.shown.event).items h) [
        | inl t ↦ absurd (touches_not who set.app n runner v.shown.touch t)
        | inr t ↦
            let f = event_forged set n runner v.state w.ledger v.shown.event who t in
            inl (record { n = n; s = s; next = next; here = e; m = f.0; runs = f.1; id = f.3; event_is = f.4; kinds = f.5 })
      ]

  answered : (m boot p : ℕ) → now.next ≡ Answer m boot p → (o : Option Site) → slice_get set.sites m ≡ o → (q : Option (List ℕ)) → slice_get w.packets p ≡ q → Shown (after_answer set w m boot o q) → Comes
  answered m boot p next None e q f h = elim h [ inl e ↦ absurd cc | inr z ↦ absurd z ]
  answered m boot p next (Some site) e None f h = elim h [ inl e ↦ absurd cc | inr z ↦ absurd z ]
  answered m boot p next (Some site) e (Some answer) f h =
      inr (record { m = m; boot = boot; packet = p; site = site; answer = answer; next = next; sited = e; there = f; forged = answers_forge set w m boot site answer who h })

  comes : (y : Happening) → now.next ≡ y → InForm y → Shown (done set y w) → Comes
  comes Begin e f h = absurd h
  comes (Step n) e f h = stepped n e (slice_get w.nodes n) refl h
  comes (Put n a bytes) e f h = absurd (at_not set w who (λ s. done_on w n [] (put s a bytes)) (λ s. or_not set w who n [] (put s a bytes).shown (λ z. z)) (slice_get w.nodes n) h)
  comes (Set n r v) e f h = absurd (at_not set w who (λ s. done_on w n [] (set_register s r v)) (λ s. or_not set w who n [] (set_register s r v).shown (λ z. z)) (slice_get w.nodes n) h)
  comes (Take n a len) e f h = absurd (at_not set w who (λ s. after_take w n (take_from s a len).shown) (λ s. take_not set w who n (take_from s a len).shown) (slice_get w.nodes n) h)
  comes (Give p n a) e f h = absurd (give_not set w who n a (slice_get w.packets p) h)
  comes (Forge bytes) e f h = elim h [ inl e ↦ absurd cc | inr z ↦ absurd z ]
  comes (Sense d v) e f h = absurd (sense_not set w who d v (slice_get set.app.devices d) h)
  comes (Irq n i) e f h = absurd (at_not set w who (λ s. after_interrupt set w n (irq s i).state (irq s i).shown) (λ s. irq_not set w who n (irq s i).state (irq s i).shown) (slice_get w.nodes n) h)
  comes (Reset n) e f h = absurd (at_not set w who _ (λ s t. elim t [ inl e ↦ cc | inr z ↦ z ]) (slice_get w.nodes n) h)
  comes (Ask m) e f h = elim h [ inl e ↦ absurd cc | inr r ↦ elim r [ inl e ↦ absurd cc | inr z ↦ absurd z ] ]
  comes (Answer m boot p) e f h = answered m boot p e (slice_get set.sites m) refl (slice_get w.packets p) refl h
  comes (Show i) e f h = elim h [ inl e ↦ absurd (f who e) | inr z ↦ absurd z ]

-- an answer's use
module _ (set : Setting) (now : Moment) (who : Option ℕ) (a : Accepting set now who) where
  abbrev ask : List ℕ
  ask = a.forged.ask

  abbrev use_ : Use
  use_ = Tries (module_holder a.site a.boot) 0x54 (length ask ∷ (ask ++ [])) a.answer

  verdict_tries : (o : Option (List ℕ)) → o ≡ Some ask → IsUse use_ (verdict_uses set now.world a.m a.site a.boot a.answer o)
  verdict_tries None e = absurd cc
  verdict_tries (Some x) e = inl (ap (λ (z : List ℕ). Tries (module_holder a.site a.boot) 0x54 (length z ∷ (z ++ [])) a.answer) (some_inj x ask e))

  answer_use : IsUse use_ (uses_at set now.next now.world)
  answer_use =
      subst (λ (y : Happening). IsUse use_ (uses_at set y now.world)) (sym a.next)
      (subst (λ (o : Option Site). IsUse use_ (answer_uses set now.world a.m a.boot o (slice_get now.world.packets a.packet))) (sym a.sited)
      (subst (λ (q : Option (List ℕ)). IsUse use_ (answer_uses set now.world a.m a.boot (Some a.site) q)) (sym a.there)
      (verdict_tries (option_flatten (slice_get now.world.deployer.open_asks a.m)) a.forged.asked)))

  answer_right : bytes_eq a.answer (take 16 (set.mac (key_of set a.site a.boot) (0x54 ∷ length ask ∷ (ask ++ [])))) ≡ true
  answer_right = ap (bytes_eq a.answer) (sym a.forged.whole) ∙ bytes_eq-same a.answer

-- the tag that an unwrap tried
module _ (set : Setting) (lines : List Line) (k : ℕ) (now : Moment) (at : moment set lines k ≡ Some now) (u : Unwrapping set now) where
  abbrev t : Tried set u.n u.s (attempt set.mac u.s) (step_uses set u.n (Some u.s))
  t = tried_at set (script_of set lines) k now at u.n u.id u.s u.next u.here u.event_is

  unwrap_use : IsUse (Tries t.whose 0x54 (length t.header ∷ (t.header ++ t.cipher)) t.tag) (uses_at set now.next now.world)
  unwrap_use = use_at set (script_of set lines) k now at u.n u.id u.s u.next u.here u.event_is (Tries t.whose 0x54 (length t.header ∷ (t.header ++ t.cipher)) t.tag) t.is

  unwrap_right : bytes_eq t.tag (take 16 (set.mac (key_held set t.whose) (0x54 ∷ length t.header ∷ (t.header ++ t.cipher)))) ≡ true
  unwrap_right = tag_is set.mac (key_held set t.whose) t.header t.cipher t.tag t.right

module _ (set : Setting) (sound : IsSoundSetting set) (lines : List Line) (form : LinesInForm set lines) (k : ℕ) (now : Moment) (who : Option ℕ) (f : FirstForged set lines k now who) where
  stands : Holds set lines k now
  stands = holds set lines sound k now (lines_form set lines sound form) f.at f.first

  pub forged_comes : Unwrapping set now ⊎ Accepting set now who
  forged_comes = comes set now who now.next refl stands.form f.shown

pub forged_is_hit : ForgedIsHit
forged_is_hit set sound lines form k now who f = elim (forged_comes set sound lines form k now who f) [
  | inl u ↦
      let z = t set lines k now f.at u in
      record { whose = z.whose; rest = length z.header ∷ (z.header ++ z.cipher); tag = z.tag; is = unwrap_use set lines k now f.at u; right = unwrap_right set lines k now f.at u }
  | inr a ↦
      record {
        whose = module_holder a.site a.boot;
        rest = length a.forged.ask ∷ (a.forged.ask ++ []);
        tag = a.answer;
        is = answer_use set now who a;
        right = answer_right set now who a;
      }
]

-- Where it warns of no `take`, a module's unwrap that shows it is of a set-key packet.

pub warned_behind : (xs ys : List Item) → ((who : Option ℕ) → IsAmong (item.Forged who) xs → ⊥) → warned (xs ++ ys) ≡ warned ys
warned_behind [] ys none = refl
warned_behind (x ∷ xs) ys none = by (is_forged x) refl (warned_behind xs ys (λ who a. none who (inr a)))
  where
    by : (b : Bool) → is_forged x ≡ b → warned (xs ++ ys) ≡ warned ys → cond b (slice_get (xs ++ ys) 0) (warned (xs ++ ys)) ≡ warned ys
    by true e rec = let n = forged_is x e in absurd (none n.0 (inl n.1))
    by false e rec = rec

module _ (app : AppTree) (m boot : ℕ) (header body : List ℕ) (ledger : List Made) (more : List Item) where
  opened_item : UnwrapKinds app m boot header body ledger → is_of_module (warned (has_unwrapped app m boot header body ledger ++ more)) ≡ true → is_set_key_header header ≡ true
  opened_item (inl a) h = a.0
  opened_item (inr a) h =
      by (is_set_key_header header && has_end app m (link_in header) (side_in header)) refl (is_event_header header && has_end app m (link_in header) To)
      (and_from (is_event_header header) (has_end app m (link_in header) To) a.0 a.1) (is_made ledger (made_entry (maker.Module (sender_of app (link_in header))) NO_TARGET 0 header body)) a.2 h
    where
      by : (p : Bool) → (is_set_key_header header && has_end app m (link_in header) (side_in header)) ≡ p → (q : Bool) → q ≡ true → (made : Bool) → made ≡ false
          → is_of_module (warned (cond p (unless_made (Some m) (is_made ledger (made_entry maker.Deployer m boot header body)) (item.Open m (link_in header) (side_in header) (epoch_in header)))
          (cond q (unless_made (Some m) made (item.Take m (link_in header) (65536 * epoch_in header + last_in header) (value_in body))) []) ++ more)) ≡ true → is_set_key_header header ≡ true
      by true e q f made g h = (and_parts (is_set_key_header header) _ e).0
      by false e true f false g h = absurd (true≢false (sym h))
      by false e true f true g h = absurd cc
      by false e false f made g h = absurd cc

-- a key that the deployer hadn't made
key_kind : (app : AppTree) (m boot : ℕ) (header body : List ℕ) (ledger : List Made) → is_set_key_header header ≡ true → UnwrapKinds app m boot header body ledger
    → is_made ledger (made_entry maker.Deployer m boot header body) ≡ false
key_kind app m boot header body ledger sk (inl a) = a.1
key_kind app m boot header body ledger sk (inr a) =
    let one = (key_begins header sk).1 in
    let three = event_begins header a.0 in
    absurd (omega (arith, one, three))

-- Under a module's key it is one that nobody had made.

module _ (set : Setting) (sound : IsSoundSetting set) (lines : List Line) (form : LinesInForm set lines) (k : ℕ) (now : Moment) (who : Option ℕ) (f : FirstForged set lines k now who) where
  abbrev h : Holds set lines k now
  h = stands set sound lines form k now who f

  unmade : (m boot : ℕ) (ask body : List ℕ) → is_made now.world.ledger (made_entry (maker.Module m) NO_TARGET boot ask []) ≡ false
      → body ≡ [] → WasWrapped now.world.ledger (OfModule m boot) ask body → ⊥
  unmade m boot ask body none e (inl was) =
      let l = h.logged (made_entry maker.Deployer m boot ask body) was in
      let long : length body ≡ 16 = ap (λ (z : Made). length z.body) l.1 ∙ key_long set l.0.«end».link l.0.epoch sound.tag in
      let empty = ap length e in
      absurd (omega (arith, long, empty))
  unmade m boot ask body none e (inr was) =
      true≢false (sym was ∙ subst (λ (z : List ℕ). is_made now.world.ledger (made_entry (maker.Module m) NO_TARGET boot ask z) ≡ false) (sym e) none)

  accepted : Accepting set now who → IsFreshHit set lines k now
  accepted a = record {
    m = a.m;
    boot = a.boot;
    site = a.site;
    sited = a.sited;
    header = a.forged.ask;
    cipher = [];
    tag = a.answer;
    is = answer_use set now who a;
    right = answer_right set now who a;
    fresh = unmade_was_not_given set sound lines form k now f.at f.first a.m a.boot a.site a.forged.ask [] a.sited (λ body c was.
        unmade a.m a.boot a.forged.ask body a.forged.unmade (crypt_none set.secret set.mac (key_of set a.site a.boot) a.forged.ask body sound.tag c) was);
  }

  module _ (u : Unwrapping set now) (key : is_set_key_header (header_of (step set.mac u.s).state.exchange) ≡ true) where
    abbrev x : Exchange
    x = (step set.mac u.s).state.exchange

    abbrev z : Tried set u.n u.s (attempt set.mac u.s) (step_uses set u.n (Some u.s))
    z = t set lines k now f.at u

    abbrev us : List Use
    us = step_uses set u.n (Some u.s)

    own : own_key u.s.regs ≡ true
    own =
        sym (ap (λ (y : Exchange). y.own_key) (exchange_is set u.n u.s us z))
        ∙ step_opens_own set lines k now.world u.n u.s sound (h.turns u.n u.s u.here) (h.keyed u.n u.s u.here)
        (record { j = k; past = now; early = omega arith; at = f.at; there = u.here }) h.logged u.here u.m u.id u.runs u.event_is key

    whose : z.whose ≡ section_holder u.n u.s z.section
    whose = elim z.owner [ inl o ↦ o.1 | inr o ↦ absurd (true≢false (sym own ∙ o.1)) ]

    abbrev r : Rattle.law_forgery.proofs.Accepting.Runner set u.n u.m u.s z.section
    r = runner_at set u.n u.m u.s (own_of u.s) z.section z.found u.runs

    holder_is : z.whose ≡ module_holder r.site u.s.boot
    holder_is =
        let a = at_site u.n u.s.mem z.section r.site r.at in
        let l = z.section.layout in
        whose
        ∙ ap₂ (λ (n p : ℕ). OfSection n u.s.boot p (bytes_from u.s.mem l.pub_from (l.pub_to - l.pub_from)) l) (sym a.node) a.provider
        ∙ ap₂ (λ (bs : List ℕ) (y : Layout). OfSection r.site.node u.s.boot r.site.provider bs y) a.text a.layout

    none : is_made now.world.ledger (made_entry maker.Deployer u.m u.s.boot (header_of x) (body_of x)) ≡ false
    none =
        subst (λ (b : ℕ). is_made now.world.ledger (made_entry maker.Deployer u.m b (header_of x) (body_of x)) ≡ false)
        (onward set.mac u.s (unwrap_quiet (step set.mac u.s).shown.event u.id u.event_is)).boot
        (key_kind set.app u.m (step set.mac u.s).state.boot (header_of x) (body_of x) now.world.ledger key u.kinds)

    refuted : (body : List ℕ) → crypt set.mac (key_held set z.whose) z.header body ≡ z.cipher → WasWrapped now.world.ledger (OfModule u.m u.s.boot) z.header body → ⊥
    refuted body c (inl was) =
        let l = h.logged (made_entry maker.Deployer u.m u.s.boot z.header body) was in
        let long : length body ≡ 16 = ap (λ (y : Made). length y.body) l.1 ∙ key_long set l.0.«end».link l.0.epoch sound.tag in
        let count : slice_index u.s.regs 13 ≡ 16 = sym z.long ∙ ap length (sym c) ∙ crypt_long set.secret set.mac (key_held set z.whose) z.header body sound.tag (omega (arith, long)) ∙ long in
        let plain = padded (crypt set.mac (key_held set z.whose) z.header z.cipher) in
        let same : body_of x ≡ body =
        body_is set u.n u.s us z
        ∙ body_back set.secret set.mac (key_held set z.whose) z.header z.cipher plain body (slice_index u.s.regs 13) sound.tag (long ∙ sym count) (omega (arith, count)) c refl in
        true≢false (sym was
        ∙ ap₂ (λ (a b : List ℕ). is_made now.world.ledger (made_entry maker.Deployer u.m u.s.boot a b)) (sym (header_is set u.n u.s us z)) (sym same)
        ∙ none)
    refuted body c (inr was) =
        let sk : is_set_key_header z.header ≡ true = ap is_set_key_header (sym (header_is set u.n u.s us z)) ∙ key in
        let b = key_begins z.header sk in
        elim (h.logged (made_entry (maker.Module u.m) NO_TARGET u.s.boot z.header body) was) [
          | inl ask ↦ let l = ask_long z.header ask.0 in let l2 = b.0 in absurd (omega (arith, l, l2))
          | inr ev ↦ let three = event_begins z.header ev.0 in let one = b.1 in absurd (omega (arith, three, one))
        ]

    opened : IsFreshHit set lines k now
    opened =
        let key_is : key_held set z.whose ≡ key_of set r.site u.s.boot = ap (key_held set) holder_is in
        let rest = length z.header ∷ (z.header ++ z.cipher) in
        record {
          m = u.m;
          boot = u.s.boot;
          site = r.site;
          sited = r.sited;
          header = z.header;
          cipher = z.cipher;
          tag = z.tag;
          is = subst (λ (y : Holder). IsUse (Tries y 0x54 rest z.tag) (uses_at set now.next now.world)) holder_is (unwrap_use set lines k now f.at u);
          right = subst (λ (y : List ℕ). bytes_eq z.tag (take 16 (set.mac y (0x54 ∷ rest))) ≡ true) key_is (unwrap_right set lines k now f.at u);
          fresh = unmade_was_not_given set sound lines form k now f.at f.first u.m u.s.boot r.site z.header z.cipher r.sited (λ body c was.
              refuted body (ap (λ (y : List ℕ). crypt set.mac y z.header body) key_is ∙ c) was);
        }

  -- the items of an unwrap
  unwrap_items : (u : Unwrapping set now) (more : List Item) → is_of_module (warned (shown_at set now ++ more)) ≡ true → is_set_key_header (header_of (step set.mac u.s).state.exchange) ≡ true
  unwrap_items u more e =
      let v = step set.mac u.s in
      let y = v.state.exchange in
      let touched = touch_items set.app u.n (Some u.m) v.shown.touch in
      let unwrapped_ = has_unwrapped set.app u.m v.state.boot (header_of y) (body_of y) now.world.ledger in
      let items : shown_at set now ≡ touched ++ unwrapped_ =
      ap (λ (a : Happening). (done set a now.world).items) u.next
      ∙ ap (λ (o : Option State). (at_node now.world (after_step set now.world u.n) o).items) u.here
      ∙ ap (λ (o : Option ℕ). touch_items set.app u.n o v.shown.touch ++ (event_seen set u.n o v.state now.world.ledger v.shown.event).items) u.runs
      ∙ ap (λ (a : Event). touched ++ (event_seen set u.n (Some u.m) v.state now.world.ledger a).items) u.event_is in
      opened_item set.app u.m v.state.boot (header_of y) (body_of y) now.world.ledger more u.kinds
      (ap is_of_module (sym (ap (λ (z : List Item). warned (z ++ more)) items ∙ ap warned (append_assoc touched unwrapped_ more)
      ∙ warned_behind touched (unwrapped_ ++ more) (λ b a. touches_not b set.app u.n (Some u.m) v.shown.touch a))) ∙ e)

  pub hits_fresh : (more : List Item) → is_of_module (warned (shown_at set now ++ more)) ≡ true → IsFreshHit set lines k now
  hits_fresh more e = elim (forged_comes set sound lines form k now who f) [
    | inl u ↦ opened u (unwrap_items u more e)
    | inr a ↦ accepted a
  ]

pub module_tags_hit_fresh : ModuleTagsHitFresh
module_tags_hit_fresh set sound lines form k now who f e =
    hits_fresh set sound lines form k now who f [] (ap (λ (z : List Item). is_of_module (warned z)) (append-nil (shown_at set now)) ∙ e)
