-- Where the first `forged` is shown, a tag was accepted that nobody who holds its key made.
use Rattle.std.proofs.Common.{◌≡◌, ℕ, ◌+◌, ◌-◌, ◌*◌, ◌%◌, ◌/◌, ◌<◌, ◌≤◌, ◌==◌, ◌&&◌, ◌⊎◌, inl, inr, Bool, true, false, cond, List, [], ◌∷◌, ◌++◌, length, take}
use Rattle.std.proofs.Common.{drop, replicate, slice_index, Option, Some, None, Ok, refl, sym, ◌∙◌, ap, subst, arith}
use Rattle.std.specs.Prelude.{slice_get, bytes_eq}
use Rattle.std.proofs.lemmas.Bool.{true≢false, and_parts, eqb-true, and_from}
use Rattle.std.proofs.lemmas.Slice.Eq.{bytes_eq-Decides}
use Rattle.lemmas.proofs.Lists.{get_some}
use Rattle.sx_trace.specs.declared.items.Item.TheVariants as item
use Rattle.sx_lang.specs.declared.sides.Side.TheVariants.{To}
use Rattle.sx_mean.specs.Application.{PartTree}
use Rattle.sx_mean.specs.Ends.{ends_of}
use Rattle.sx_ledger.specs.declared.entry.Maker.TheVariants as maker
use Rattle.sx_rules.specs.declared.section.Section.{Section}
use Rattle.sx_rules.specs.Access.{Lives, section_of}
use Rattle.sx_tag.specs.Mac.{Mac}
use Rattle.sx_tag.specs.Wrap.{crypt, padded, unwrapped, wrap_tag}
use Rattle.spec_machine.specs.declared.kinds.Event.{Event}
use Rattle.spec_machine.specs.declared.kinds.Event.TheVariants as event
use Rattle.spec_machine.specs.declared.kinds.Exchange.{Exchange}
use Rattle.spec_machine.specs.State.{State}
use Rattle.spec_machine.specs.Step.{own_of, step}
use Rattle.spec_machine.proofs.Stays.{found_lives}
use Rattle.spec_invocation.specs.Setup.{Setup, Call}
use Rattle.spec_invocation.specs.Marks as mark
use Rattle.spec_invocation.specs.Marks.{Mark}
use Rattle.spec_invocation.specs.ModuleState.{EndState, link_of, end_of}
use Rattle.spec_invocation.specs.Progress.{Progress, marks_in}
use Rattle.spec_invocation.specs.Protocol.{event_kind, header_size, key_size, key_tag_at, value_size, value_tag_at}
use Rattle.spec_invocation.specs.Entries.{header_in, field_in}
use Rattle.sx_image.specs.Watched.{violation_of, marks_of, marks_of_touches, marks_of_event}
use Rattle.sx_image.specs.Image.{call_at, progress_at}
use Rattle.sx_sched.specs.Lines.{Line}
use Rattle.spec_run.specs.Setting.{Setting, module_of}
use Rattle.spec_run.specs.Ledger.{Made, NO_TARGET, made_entry, is_made, header_of, body_of}
use Rattle.sx_wire.specs.Headers.{is_ask, challenge_in, is_set_key_header, is_event_header, link_in, epoch_in}
use Rattle.spec_run.specs.Deployer.{connection_key}
use Rattle.spec_run.specs.Observation.{Observed, with_items, event_seen, has_wrapped, touch_items, sender_of, has_end}
use Rattle.spec_run.specs.State.{World}
use Rattle.spec_run.specs.Acts.{after_step}
use Rattle.spec_run.specs.Law.{IsTagUnder, IsSoundSetting}
use Rattle.spec_run.proofs.Tags.{crypt_twice}
use Rattle.spec_run.proofs.tie.Entries.{made_in}
use Rattle.spec_run.proofs.tie.Lists.{get_within}
use Rattle.spec_run.proofs.steps.Entry.{at_site}
use Rattle.spec_run.proofs.steps.Machine.{onward}
use Rattle.law_forgery.specs.Moments.{Moment, moment, IsAmong}
use Rattle.law_forgery.specs.Logged.{IsEntered}
use Rattle.law_forgery.specs.Forgery.{OfModule, OfLink, key_at, WasWrapped, CallsFor, Opens, Takes, InMemory, Presented, Forgery}
use Rattle.law_forgery.proofs.Turns.{setup_of, turn_of, NodeTurns}
use Rattle.law_forgery.proofs.Forging.{among_append, touches_not, event_forged, UnwrapKinds}
use Rattle.law_forgery.proofs.Logging.{AllLogged, SendsOwn}
use Rattle.law_forgery.proofs.Opening.{Told, KeyedFrom, TakenFrom, AllMarks, unwraps_told}
use Rattle.spec_invocation.specs.Windows.{read_bytes, is_bad_window, in_window_size}
use Rattle.law_forgery.proofs.Packets.{tail_stands, window_outside}
use Rattle.law_forgery.proofs.Fields.{field_key, field_is, found_keyed}
use Rattle.law_forgery.proofs.Sending.{Sent, wraps_sent, sent_sender}
use Rattle.law_forgery.proofs.Keyed.{key_shows, NodeKeyed}
use Rattle.law_forgery.proofs.Keeping.{TurnOn, turn_on}
use Rattle.law_forgery.proofs.Accepting.{Runner, runner_at, section_key, unwrap_quiet, take_front, key_long, prefix_of, all_front, all_back, key_begins, event_begins, ask_long}

all_true : (a b c : Bool) → a ≡ true → b ≡ true → c ≡ true → (a && (b && c)) ≡ true
all_true a b c e f g = rw (e, f, g) refl

no_ask : (a b c : Bool) → c ≡ false → (a && (b && c)) ≡ false
no_ask true true c e = e
no_ask true false c e = refl
no_ask false b c e = refl

-- A tag that was accepted.

pub record Opened (mac : Mac) (key header cipher tag plain : List ℕ) : Type 0 where
  pub whole : tag ≡ take 16 (mac key (0x54 ∷ length header ∷ (header ++ cipher)))
  pub is : plain ≡ padded (crypt mac key header cipher)

opened_by : (mac : Mac) (key header cipher tag plain : List ℕ) → unwrapped mac key header cipher tag ≡ Some plain → Opened mac key header cipher tag plain
unfolding unwrapped wrap_tag
opened_by mac key header cipher tag plain e = by (bytes_eq tag (take 16 (mac key (0x54 ∷ length header ∷ (header ++ cipher))))) refl e
  where
    some_same : (a b : List ℕ) → ◌≡◌ {A = Option (List ℕ)} (Some a) (Some b) → b ≡ a
    some_same a b e = cc

    by : (b : Bool) → bytes_eq tag (take 16 (mac key (0x54 ∷ length header ∷ (header ++ cipher)))) ≡ b
        → cond {A = Option (List ℕ)} b (Some (padded (crypt mac key header cipher))) None ≡ Some plain → Opened mac key header cipher tag plain
    by true t e = record { whole = (bytes_eq-Decides tag _).0 t; is = some_same (padded (crypt mac key header cipher)) plain e }
    by false t e = absurd cc

-- what is unwrapped is the body whose cipher it is
pub body_back : (secret : List ℕ) (mac : Mac) (key header cipher plain body : List ℕ) (n : ℕ) → IsTagUnder secret mac → length body ≡ n → n ≤ 32 → crypt mac key header body ≡ cipher
    → plain ≡ padded (crypt mac key header cipher) → take n plain ≡ body
body_back secret mac key header cipher plain body n tag long few c is =
    let back : crypt mac key header cipher ≡ body = ap (crypt mac key header) (sym c) ∙ crypt_twice secret mac key header body tag (omega (arith, long, few)) in
    ap (take n) (is ∙ ap padded back) ∙ ap (λ (k : ℕ). take k (padded body)) (sym long) ∙ take_front body (replicate (32 - length body) 0)

pub event_long : (header : List ℕ) → is_event_header header ≡ true → length header ≡ 6
event_long header e = eqb-true (length header) 6 (and_parts (length header == 6) _ e).0

same_field : (a b : ℕ) → a % 256 ≡ b % 256 → a / 256 ≡ b / 256 → a ≡ b
same_field a b e f = omega (arith, e, f)

first_of : (xs : List ℕ) → slice_index (take 6 xs) 0 ≡ slice_index xs 0
first_of [] = refl
first_of (x ∷ xs) = refl

-- a key is unwrapped under the own key, an event under another
own_told : (s : Setup) (call : Call) (p : Progress) (header body : List ℕ) (own : Bool) → is_set_key_header header ≡ true → Told s call p (mark.Unwrapped header body own) → own ≡ true
own_told s call p header body true k h = refl
own_told s call p header body false k h =
    let one = (key_begins header k).1 in
    let same = ap (λ (z : List ℕ). slice_index z 0) h.header_is ∙ first_of h.packet in
    let three = eqb-true (slice_index h.packet 0) event_kind (and_parts (slice_index h.packet 0 == event_kind) _ h.kind).0 in
    absurd (omega (arith, one, same, three))

other_told : (s : Setup) (call : Call) (p : Progress) (header body : List ℕ) (own : Bool) → ((k : ℕ) → slice_index p.mem k < 256)
    → is_event_header header ≡ true → Told s call p (mark.Unwrapped header body own) → own ≡ false
other_told s call p header body false small e h = refl
other_told s call p header body true small e h =
    let one = (key_begins header (key_shows s call p header body small h).0).1 in
    let three = event_begins header e in
    absurd (omega (arith, one, three))

-- What is wrapped is entered.

abbrev SentParts : List ℕ → List ℕ → Bool → Type 0
SentParts header body own = ((own ≡ true) × (is_ask header ≡ true) × (body ≡ [])) ⊎ ((own ≡ false) × (is_event_header header ≡ true) × (length body ≡ 2))

abbrev Entered : ℕ → ℕ → List ℕ → List ℕ → Bool → List Made → Type 0
Entered m boot header body own ledger =
    ((own ≡ true) × (is_made ledger (made_entry (maker.Module m) NO_TARGET boot header body) ≡ true))
    ⊎ ((own ≡ false) × (is_made ledger (made_entry (maker.Module m) NO_TARGET 0 header body) ≡ true))

entered : (m boot : ℕ) (header body : List ℕ) (own : Bool) (ledger : List Made) → SentParts header body own → Entered m boot header body own (has_wrapped m boot header body own ledger).ledger
entered m boot header body own ledger (inl a) =
    let both : (is_ask header && ((length body == 0) && own)) ≡ true = all_true (is_ask header) (length body == 0) own a.1 (ap (λ (z : List ℕ). length z == 0) a.2) a.0 in
    inl (
      a.0,
      subst (λ (b : Bool). is_made (cond {A = Observed} b (with_items (ledger ++ made_entry (maker.Module m) NO_TARGET boot header body ∷ []) (item.Vouch m (challenge_in header) ∷ []))
          (cond {A = Observed} (is_event_header header && (length body == 2)) (with_items (ledger ++ made_entry (maker.Module m) NO_TARGET 0 header body ∷ [])
          []) (with_items ledger []))).ledger (made_entry (maker.Module m) NO_TARGET boot header body) ≡ true)
          (sym both) (made_in ledger [] (made_entry (maker.Module m) NO_TARGET boot header body)),
    )
entered m boot header body own ledger (inr v) =
    let none : (is_ask header && ((length body == 0) && own)) ≡ false = no_ask (is_ask header) (length body == 0) own v.0 in
    let both : (is_event_header header && (length body == 2)) ≡ true = and_from (is_event_header header) (length body == 2) v.1 (ap (λ (z : ℕ). z == 2) v.2) in
    inr (
      v.0,
      subst (λ (b : Bool). is_made (cond {A = Observed} b (with_items (ledger ++ made_entry (maker.Module m) NO_TARGET boot header body ∷ []) (item.Vouch m (challenge_in header) ∷ []))
          (cond {A = Observed} (is_event_header header && (length body == 2)) (with_items (ledger ++ made_entry (maker.Module m) NO_TARGET 0 header body ∷ [])
          []) (with_items ledger []))).ledger (made_entry (maker.Module m) NO_TARGET 0 header body) ≡ true)
          (sym none) (subst (λ (b : Bool). is_made (cond {A = Observed} b (with_items (ledger ++ made_entry (maker.Module m) NO_TARGET 0 header body ∷ []) [])
          (with_items ledger [])).ledger (made_entry (maker.Module m) NO_TARGET 0 header body) ≡ true)
          (sym both) (made_in ledger [] (made_entry (maker.Module m) NO_TARGET 0 header body))),
    )

-- A state that a node had at a moment until the k-th.
pub record Stood (set : Setting) (lines : List Line) (k n : ℕ) (s : State) : Type 0 where
  pub j : ℕ
  pub past : Moment
  pub early : j ≤ k
  pub at : moment set lines j ≡ Some past
  pub there : slice_get past.world.nodes n ≡ Some s

-- The next step of a node on which deployed code runs.

module _ (set : Setting) (lines : List Line) (k : ℕ) (w : World) (n : ℕ) (s : State) (sound : IsSoundSetting set) (all : NodeTurns set n s) (h : NodeKeyed set (Stood set lines k n) n s)
    (here : Stood set lines k n s) (logged : AllLogged set w.ledger) (there : slice_get w.nodes n ≡ Some s) where
  abbrev x : Exchange
  x = (step set.mac s).state.exchange

  module _ (m : ℕ) (own : Section) (found : section_of s.sections.live (own_of s) ≡ Some own) (runs : module_of set.sites n s (own_of s) ≡ Some m)
      (quiet : violation_of (step set.mac s).shown.event ≡ None) where
    r : Runner set n m s own
    r = runner_at set n m s (own_of s) own found runs

    lives : Lives s.sections.live own
    lives = (found_lives s.sections.live (own_of s) own found).0

    part : (q : PartTree) × (slice_get set.app.parts m ≡ Some q)
    part = get_some set.app.parts m (let e = get_within set.sites m r.site r.sited in let f = sound.sites in omega (arith, e, f))

    on : TurnOn set (Stood set lines k n) m part.0 r.site own s
    on = turn_on set (Stood set lines k n) n s sound all h here m part.0 r.site own part.1 r.sited lives r.at (sym (found_lives s.sections.live (own_of s) own found).1) quiet

    abbrev before : State
    before = on.turn.before

    abbrev su : Setup
    su = setup_of set m part.0 own on.turn.before

    -- what holds of the marks of the whole turn holds of those of the step
    step_marks : (P : Mark → Type 0) → AllMarks P (marks_in (turn_of set m part.0 own before)) → AllMarks P (marks_of_event (step set.mac s).shown.event x)
    step_marks P every =
        let t = on.turn in
        let pre = prefix_of set su (turn_of set m part.0 own before) before (record { node = (step set.mac s).state; marks = t.seen; event = t.last }) t.bound t.comes in
        let seen = all_front P t.seen pre.0 (subst (AllMarks P) (sym pre.1) every) in
        let now = all_back P on.front (marks_of (step set.mac s).shown x) (subst (AllMarks P) on.seen seen) in
        all_back P (marks_of_touches (step set.mac s).shown.touch) (marks_of_event (step set.mac s).shown.event x) now

    told : (id : ℕ) → (step set.mac s).shown.event ≡ event.Unwrapped id → Told su (call_at before) (progress_at su before) (mark.Unwrapped (header_of x) (body_of x) x.own_key)
    told id e =
        let P : Mark → Type 0 = Told su (call_at before) (progress_at su before) in
        (subst (λ (z : Event). AllMarks P (marks_of_event z x)) e (step_marks P (unwraps_told su (call_at before) (progress_at su before) refl))).0

    sent : (id : ℕ) → (step set.mac s).shown.event ≡ event.Wrapped id → Sent su (mark.Wrapped (header_of x) (body_of x) x.own_key)
    sent id e = (subst (λ (z : Event). AllMarks (Sent su) (marks_of_event z x)) e (step_marks (Sent su) (wraps_sent set su (call_at before) (progress_at su before) refl on.start))).0

    -- an ask, under the own key, or an event
    sent_parts : (id : ℕ) → (step set.mac s).shown.event ≡ event.Wrapped id → SentParts (header_of x) (body_of x) x.own_key
    sent_parts id e = elim (sent id e) [ inl a ↦ inl a | inr v ↦ inr (v.0, v.1, ap length v.2.1) ]

    sends_own : (id : ℕ) → (step set.mac s).shown.event ≡ event.Wrapped id → SendsOwn set m (header_of x) (body_of x)
    sends_own id e ev = elim (sent id e) [
      | inl a ↦ let l = ask_long (header_of x) a.1 in let l2 = event_long (header_of x) ev in absurd (omega (arith, l, l2))
      | inr v ↦ (v.2, ap (sender_of set.app) v.7 ∙ sent_sender set.app m v.3 v.4 v.5 v.6)
    ]

    -- where the tag of a packet of this size was
    stood : (packet : List ℕ) (at : ℕ) → at + 16 ≤ in_window_size → is_bad_window su (call_at before).input in_window_size ≡ false
        → read_bytes su (progress_at su before).devices (progress_at su before).mem (call_at before).input (at + 16) ≡ Ok packet → Presented set lines k (drop at packet)
    stood packet at le window e =
        let p = on.stood in
        let en = on.turn.enters in
        record {
          j = p.j;
          past = p.past;
          early = p.early;
          at = p.at;
          stands = InMemory n ((call_at before).input + at) before p.there
              (window_outside su before.sections before.devices before.mem at 16 in_window_size (call_at before).input packet en.node.placed refl en.stands.lives le window e)
              (tail_stands su before.devices before.mem at 16 (call_at before).input packet e);
        }

    -- a key is unwrapped under the own key
    opens_own : (id : ℕ) → (step set.mac s).shown.event ≡ event.Unwrapped id → is_set_key_header (header_of x) ≡ true → x.own_key ≡ true
    opens_own id e sk = own_told su (call_at before) (progress_at su before) (header_of x) (body_of x) x.own_key sk (told id e)

    opens : s.boot ≤ 65536 → (who : Option ℕ) (id : ℕ) → who ≡ Some m → (step set.mac s).shown.event ≡ event.Unwrapped id → is_set_key_header (header_of x) ≡ true
        → is_made w.ledger (made_entry maker.Deployer m (step set.mac s).state.boot (header_of x) (body_of x)) ≡ false → Forgery set lines k w who
    opens few who id named e sk none =
        let t = told id e in
        let mine : x.own_key ≡ true = opens_own id e sk in
        let f : KeyedFrom su (call_at before) (progress_at su before) (header_of x) (body_of x) =
        subst (λ (b : Bool). Told su (call_at before) (progress_at su before) (mark.Unwrapped (header_of x) (body_of x) b)) mine t in
        let right : key_at set s.boot (slice_get set.sites m) ≡ own.key = ap (key_at set s.boot) r.sited ∙ sym (section_key set n s own r.site all lives r.at) in
        let cipher = take key_size (drop header_size f.packet) in
        let o : Opened set.mac own.key (header_in f.packet) cipher (drop key_tag_at f.packet) f.plain = opened_by set.mac own.key (header_in f.packet) cipher
        (drop key_tag_at f.packet) f.plain f.opens in
        let o2 : Opened set.mac (key_at set s.boot (slice_get set.sites m)) (header_of x) cipher (drop key_tag_at f.packet) f.plain =
        subst (λ (z : List ℕ). Opened set.mac z (header_of x) cipher (drop key_tag_at f.packet) f.plain) (sym right)
        (subst (λ (z : List ℕ). Opened set.mac own.key z cipher (drop key_tag_at f.packet) f.plain) (sym f.header_is) o) in
        let boot : (step set.mac s).state.boot ≡ s.boot = (onward set.mac s quiet).boot in
        let at = at_site n s.mem own r.site r.at in
        record {
          key = OfModule m s.boot;
          header = header_of x;
          cipher = cipher;
          tag = drop key_tag_at f.packet;
          calls = subst (λ (z : Option ℕ). CallsFor set w z (header_of x) (OfModule m s.boot)) (sym named)
              (Opens m r.site s (header_of x) r.sited (subst (λ (i : ℕ). slice_get w.nodes i ≡ Some s) (sym at.node) there) few sk);
          presented = stood f.packet key_tag_at (omega arith) f.window f.read;
          whole = o2.whole;
          unmade = λ body c was. refuted body cipher f.plain c was o2.is f.body_is (subst (λ (z : ℕ). is_made w.ledger (made_entry maker.Deployer m z (header_of x) (body_of x)) ≡ false) boot none);
        }
      where
        refuted : (body cipher plain : List ℕ) → crypt set.mac (key_at set s.boot (slice_get set.sites m)) (header_of x) body ≡ cipher → WasWrapped w.ledger (OfModule m s.boot) (header_of x) body
            → plain ≡ padded (crypt set.mac (key_at set s.boot (slice_get set.sites m)) (header_of x) cipher) → body_of x ≡ take key_size plain
            → is_made w.ledger (made_entry maker.Deployer m s.boot (header_of x) (body_of x)) ≡ false → ⊥
        refuted body cipher plain c (inl was) is b unmade =
            let f = logged (made_entry maker.Deployer m s.boot (header_of x) body) was in
            let long : length body ≡ 16 = ap (λ (z : Made). length z.body) f.1 ∙ key_long set f.0.«end».link f.0.epoch sound.tag in
            let same : body_of x ≡ body = b ∙ body_back set.secret set.mac (key_at set s.boot (slice_get set.sites m)) (header_of x) cipher plain body 16 sound.tag long (omega arith) c is in
            true≢false (sym was ∙ subst (λ (z : List ℕ). is_made w.ledger (made_entry maker.Deployer m s.boot (header_of x) z) ≡ false) same unmade)
        refuted body cipher plain c (inr was) is b unmade =
            let k = key_begins (header_of x) sk in
            elim (logged (made_entry (maker.Module m) NO_TARGET s.boot (header_of x) body) was) [
              | inl ask ↦ let l = ask_long (header_of x) ask.0 in let l2 = k.0 in absurd (omega (arith, l, l2))
              | inr ev ↦ let b1 = event_begins (header_of x) ev.0 in let b2 = k.1 in absurd (omega (arith, b1, b2))
            ]

    takes : (who : Option ℕ) (id : ℕ) → who ≡ Some m → (step set.mac s).shown.event ≡ event.Unwrapped id → is_event_header (header_of x) ≡ true → has_end set.app m (link_in (header_of x)) To ≡ true
        → is_made w.ledger (made_entry (maker.Module (sender_of set.app (link_in (header_of x)))) NO_TARGET 0 (header_of x) (body_of x)) ≡ false → Forgery set lines k w who
    takes who id named e ev holds none =
        let t0 = told id e in
        let foreign : x.own_key ≡ false = other_told su (call_at before) (progress_at su before) (header_of x) (body_of x) x.own_key on.turn.enters.node.memory.bytes ev t0 in
        let t : TakenFrom su (call_at before) (progress_at su before) (header_of x) (body_of x) =
        subst (λ (b : Bool). Told su (call_at before) (progress_at su before) (mark.Unwrapped (header_of x) (body_of x) b)) foreign t0 in
        let xs = (progress_at su before).state.ends in
        let f = found_keyed set (link_of (field_in t.packet)) To 0 t.index t.«end» (ends_of set.app m) xs t.found on.start in
        let fi = f.1 in
        let index : t.index ≡ f.0 = omega (arith, fi) in
        let en = end_of xs t.index in
        let op : (end_of xs f.0).is_open ≡ true = subst (λ (i : ℕ). (end_of xs i).is_open ≡ true) index t.is_open in
        let g = f.2 op in
        let at : end_of xs t.index ≡ end_of xs f.0 = ap (end_of xs) index in
        let links : link_of en.field ≡ link_of (field_in t.packet) = ap (λ (z : EndState). link_of z.field) at ∙ g.1 ∙ f.3 in
        let field : en.field ≡ field_in t.packet = same_field en.field (field_in t.packet) links t.epoch in
        let K = connection_key set (link_in (header_of x)) (epoch_in (header_of x)) in
        let key : en.key ≡ K =
        ap (λ (z : EndState). z.key) at ∙ g.0 ∙ ap (field_key set) (sym (ap (λ (z : EndState). z.field) at) ∙ field ∙ sym (field_is t.packet))
        ∙ ap (λ (z : List ℕ). field_key set (link_in z + 256 * epoch_in z)) (sym t.header_is) in
        let cipher = take value_size (drop header_size t.packet) in
        let o = opened_by set.mac en.key (header_in t.packet) cipher (drop value_tag_at t.packet) t.plain t.opens in
        let o2 : Opened set.mac K (header_of x) cipher (drop value_tag_at t.packet) t.plain =
        subst (λ (z : List ℕ). Opened set.mac K z cipher (drop value_tag_at t.packet) t.plain) (sym t.header_is)
        (subst (λ (z : List ℕ). Opened set.mac z (header_in t.packet) cipher (drop value_tag_at t.packet) t.plain) key o) in
        record {
          key = OfLink (link_in (header_of x)) (epoch_in (header_of x));
          header = header_of x;
          cipher = cipher;
          tag = drop value_tag_at t.packet;
          calls = subst (λ (z : Option ℕ). CallsFor set w z (header_of x) (OfLink (link_in (header_of x)) (epoch_in (header_of x)))) (sym named) (Takes m (header_of x) ev holds);
          presented = stood t.packet value_tag_at (omega arith) t.window t.read;
          whole = o2.whole;
          unmade = λ body c was. refuted body cipher t.plain c was o2.is t.body_is;
        }
      where
        refuted : (body cipher plain : List ℕ) → crypt set.mac (connection_key set (link_in (header_of x)) (epoch_in (header_of x))) (header_of x) body ≡ cipher
            → WasWrapped w.ledger (OfLink (link_in (header_of x)) (epoch_in (header_of x))) (header_of x) body
            → plain ≡ padded (crypt set.mac (connection_key set (link_in (header_of x)) (epoch_in (header_of x))) (header_of x) cipher) → body_of x ≡ take value_size plain → ⊥
        refuted body cipher plain c was is b = elim (logged (made_entry (maker.Module was.0) NO_TARGET 0 (header_of x) body) was.1) [
          | inl ask ↦ let l = ask_long (header_of x) ask.0 in let l2 = event_long (header_of x) ev in absurd (omega (arith, l, l2))
          | inr v ↦
              let same : body_of x ≡ body =
              b ∙ body_back set.secret set.mac (connection_key set (link_in (header_of x)) (epoch_in (header_of x))) (header_of x) cipher plain body 2 sound.tag (ap length v.1.1) (omega arith) c is in
              let sender = subst (λ (i : ℕ). is_made w.ledger (made_entry (maker.Module i) NO_TARGET 0 (header_of x) body) ≡ true) (sym v.2) was.1 in
              true≢false (sym sender ∙ subst (λ (z : List ℕ). is_made w.ledger (made_entry (maker.Module (sender_of set.app (link_in (header_of x)))) NO_TARGET 0 (header_of x) z) ≡ false) same none)
        ]

    unwraps : s.boot ≤ 65536 → (who : Option ℕ) (id : ℕ) → who ≡ Some m → (step set.mac s).shown.event ≡ event.Unwrapped id
        → UnwrapKinds set.app m (step set.mac s).state.boot (header_of x) (body_of x) w.ledger → Forgery set lines k w who
    unwraps few who id named e (inl a) = opens few who id named e a.0 a.1
    unwraps few who id named e (inr a) = takes who id named e a.0 a.1 a.2

  -- the section whose code runs is found where a deployed module's code runs
  runner_found : (m : ℕ) → module_of set.sites n s (own_of s) ≡ Some m → (own : Section) × (section_of s.sections.live (own_of s) ≡ Some own)
  runner_found m e = by (section_of s.sections.live (own_of s)) refl e
    where
      by : (o : Option Section) → section_of s.sections.live (own_of s) ≡ o → Rattle.std.specs.Option.option_and_then (Rattle.spec_run.specs.Setting.deployed set.sites n s.mem) o ≡ Some m
          → (own : Section) × (section_of s.sections.live (own_of s) ≡ Some own)
      by None f g = absurd cc
      by (Some own) f g = (own, f)

  pub step_forges : s.boot ≤ 65536 → (who : Option ℕ) → IsAmong (item.Forged who) (after_step set w n s).items → Forgery set lines k w who
  step_forges few who g =
      let v = step set.mac s in
      let runner = module_of set.sites n s (own_of s) in
      elim (among_append (item.Forged who) (touch_items set.app n runner v.shown.touch) (event_seen set n runner v.state w.ledger v.shown.event).items g) [
        | inl t ↦ absurd (touches_not who set.app n runner v.shown.touch t)
        | inr t ↦
            let f = event_forged set n runner v.state w.ledger v.shown.event who t in
            let o = runner_found f.0 f.1 in
            unwraps f.0 o.0 o.1 f.1 (unwrap_quiet v.shown.event f.3 f.4) few who f.3 f.2 f.4 f.5
      ]

  -- a module's code unwraps a key under its own
  pub step_opens_own : (m id : ℕ) → module_of set.sites n s (own_of s) ≡ Some m → (step set.mac s).shown.event ≡ event.Unwrapped id → is_set_key_header (header_of x) ≡ true → x.own_key ≡ true
  step_opens_own m id runs e = let o = runner_found m runs in opens_own m o.0 o.1 runs (unwrap_quiet (step set.mac s).shown.event id e) id e

  -- what the module's code wraps
  pub step_sends : (m id : ℕ) → module_of set.sites n s (own_of s) ≡ Some m → (step set.mac s).shown.event ≡ event.Wrapped id → SendsOwn set m (header_of x) (body_of x)
  step_sends m id runs e = let o = runner_found m runs in sends_own m o.0 o.1 runs (ap violation_of e) id e

  pub step_enters : (m id : ℕ) → module_of set.sites n s (own_of s) ≡ Some m → (step set.mac s).shown.event ≡ event.Wrapped id → IsEntered set n s m (after_step set w n s).world.ledger
  step_enters m id runs e =
      let o = runner_found m runs in
      let v = step set.mac s in
      let boot : v.state.boot ≡ s.boot = (onward set.mac s (ap violation_of e)).boot in
      let seen : (after_step set w n s).world.ledger ≡ (has_wrapped m s.boot (header_of x) (body_of x) x.own_key w.ledger).ledger =
      ap (λ (z : Option ℕ). (event_seen set n z v.state w.ledger v.shown.event).ledger) runs
      ∙ ap (λ (z : Event). (event_seen set n (Some m) v.state w.ledger z).ledger) e
      ∙ ap (λ (z : ℕ). (has_wrapped m z (header_of x) (body_of x) x.own_key w.ledger).ledger) boot in
      subst (IsEntered set n s m) (sym seen) (entered m s.boot (header_of x) (body_of x) x.own_key w.ledger (sent_parts m o.0 o.1 runs (ap violation_of e) id e))
