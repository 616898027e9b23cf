-- What a deployed module's code unwraps, and under which key.
use Rattle.std.proofs.Common.{◌≡◌, ℕ, zero, suc, ◌+◌, ◌*◌, ◌≤◌, ◌==◌, Bool, true, false, cond, List, [], ◌∷◌, ◌++◌, length, take, slice_index, Some, None, refl, sym, ◌∙◌, ap, subst, arith}
use Rattle.std.specs.Prelude.{slice_get, option_and_then}
use Rattle.std.specs.List.{position_from}
use Rattle.std.proofs.lemmas.Bool.{and_parts, eqb-true}
use Rattle.std.proofs.lemmas.List.{append-nil}
use Rattle.lemmas.proofs.Lists.{get_some}
use Rattle.sx_mean.specs.Application.{PartTree}
use Rattle.sx_rules.specs.declared.access.Violation.{Violation}
use Rattle.sx_rules.specs.declared.section.Section.{Section}
use Rattle.sx_rules.specs.declared.section.Layout.{Layout}
use Rattle.sx_rules.specs.Access.{Lives, section_of}
use Rattle.sx_tag.specs.Mac.{Mac}
use Rattle.sx_tag.specs.Keys.{kdf, module_key, identity}
use Rattle.sx_tag.specs.Wrap.{xor_bytes, stream, crypt}
use Rattle.sx_tag.proofs.UnwrapsWrapped.{length-crypt}
use Rattle.spec_machine.specs.declared.kinds.Event.{Event}
use Rattle.spec_machine.specs.declared.kinds.Event.TheVariants as event
use Rattle.spec_machine.specs.Protect.{identity_at}
use Rattle.spec_machine.specs.State.{State}
use Rattle.spec_machine.specs.Step.{own_of, step}
use Rattle.sx_image.specs.Reach.{Comes, Here, Next, Ends}
use Rattle.spec_invocation.specs.Setup.{Setup}
use Rattle.spec_invocation.specs.Marks as mark
use Rattle.spec_invocation.specs.Marks.{Mark, HasPrefix}
use Rattle.spec_invocation.specs.Progress.{Invoked, marks_in}
use Rattle.sx_image.specs.Watched.{Watched, watch, violation_of, marks_of, marks_of_touches, marks_of_event}
use Rattle.sx_image.specs.Image.{call_at, progress_at}
use Rattle.sx_image.specs.Realizes.{Underway, Aborted, Exited}
use Rattle.spec_run.specs.Setting.{Setting, Site, is_at_site, deployed, module_of}
use Rattle.spec_run.specs.Ledger.{header_of, body_of}
use Rattle.sx_wire.specs.Headers.{is_ask, is_set_key_header, is_event_header, begins}
use Rattle.spec_run.specs.Deployer.{list_at, key_of, connection_key}
use Rattle.spec_run.specs.Law.{IsTagUnder, IsSoundSetting}
use Rattle.spec_run.proofs.Tags.{lawful, is_lawful}
use Rattle.spec_run.proofs.tie.Lists.{some_inj, get_within}
use Rattle.spec_run.proofs.steps.Entry.{at_site}
use Rattle.law_forgery.proofs.Turns.{setup_of, turn_of, InTurn, NodeTurns}
use Rattle.law_forgery.proofs.Turning.{goes_on}
use Rattle.law_forgery.proofs.Opening.{Told, AllMarks, unwraps_told}

-- Lists, and ciphers.

pub take_front : (a b : List ℕ) → take (length a) (a ++ b) ≡ a
take_front [] b = refl
take_front (x ∷ a) b = ap (λ r. x ∷ r) (take_front a b)

pub length_take : (n : ℕ) (xs : List ℕ) → n ≤ length xs → length (take n xs) ≡ n
length_take zero xs h = refl
length_take (suc n) [] h = absurd (omega (arith, h))
length_take (suc n) (x ∷ xs) h = ap suc (length_take n xs (omega (arith, h)))

pub crypt_none : (secret : List ℕ) (mac : Mac) (key ad body : List ℕ) → IsTagUnder secret mac → crypt mac key ad body ≡ [] → body ≡ []
unfolding crypt
crypt_none secret mac key ad body tag e = by body (stream mac key ad) (tag.tags key 0x53 (length ad ∷ (ad ++ 0 ∷ [])) (λ z. absurd (omega (arith, z)))).0 e
  where
    by : (body s : List ℕ) → length s ≡ 32 → xor_bytes body s ≡ [] → body ≡ []
    by [] s l e = refl
    by (b ∷ body) [] l e = absurd (omega (arith, l))
    by (b ∷ body) (x ∷ s) l e = absurd cc

pub crypt_long : (secret : List ℕ) (mac : Mac) (key ad body : List ℕ) → IsTagUnder secret mac → length body ≤ 32 → length (crypt mac key ad body) ≡ length body
unfolding crypt
crypt_long secret mac key ad body tag few = length-crypt (lawful mac) key ad body (is_lawful secret mac tag).width few

pub key_long : (set : Setting) (link epoch : ℕ) → IsTagUnder set.secret set.mac → length (connection_key set link epoch) ≡ 16
unfolding kdf
key_long set link epoch tag = length_take 16 _ (let g = (tag.derived (Rattle.byteorder.specs.Endian.little_bytes 2 (link + 256 * epoch))).0 in omega (arith, g))

-- Where a test holds.

pub record Placing {X : Type 0} (test : X → Bool) (i m : ℕ) (xs : List X) : Type 0 where
  pub index : ℕ
  pub is : m ≡ i + index
  pub x : X
  pub there : slice_get xs index ≡ Some x
  pub holds : test x ≡ true

placing : {X : Type 0} (test : X → Bool) (i m : ℕ) (xs : List X) → position_from test i xs ≡ Some m → Placing test i m xs
placing test i m [] e = absurd cc
placing test i m (x ∷ xs) e = by (test x) refl e (placing test (i + 1) m xs)
  where
    by : (b : Bool) → test x ≡ b → cond b (Some i) (position_from test (i + 1) xs) ≡ Some m → (position_from test (i + 1) xs ≡ Some m → Placing test (i + 1) m xs) → Placing test i m (x ∷ xs)
    by true t e f = record { index = 0; is = sym (some_inj i m e) ∙ omega arith; x = x; there = refl; holds = t }
    by false t e f = let r = f e in let ri = r.is in record { index = suc r.index; is = omega (arith, ri); x = r.x; there = r.there; holds = r.holds }

-- a deployed module's code
pub record Runner (set : Setting) (n m : ℕ) (s : State) (own : Section) : Type 0 where
  pub site : Site
  pub sited : slice_get set.sites m ≡ Some site
  pub at : is_at_site n s.mem own site ≡ true

pub runner_at : (set : Setting) (n m : ℕ) (s : State) (id : ℕ) (own : Section) → section_of s.sections.live id ≡ Some own → module_of set.sites n s id ≡ Some m → Runner set n m s own
runner_at set n m s id own f e =
    let d : deployed set.sites n s.mem own ≡ Some m = sym (ap (option_and_then (deployed set.sites n s.mem)) f) ∙ e in
    let r = placing (is_at_site n s.mem own) 0 m set.sites d in
    let ri = r.is in
    let same : m ≡ r.index = omega (arith, ri) in
    record { site = r.x; sited = subst (λ k. slice_get set.sites k ≡ Some r.x) (sym same) r.there; at = r.holds }

-- A section at a site has the module's key.

pub section_key : (set : Setting) (n : ℕ) (s : State) (sec : Section) (site : Site) → NodeTurns set n s → Lives s.sections.live sec
    → is_at_site n s.mem sec site ≡ true → sec.key ≡ key_of set site s.boot
section_key set n s sec site all lives e =
    let at = at_site n s.mem sec site e in
    all.keys sec lives
    ∙ ap (λ (k : List ℕ). module_key set.mac k s.boot sec.provider (identity_at s.mem sec.layout)) (all.key ∙ ap (list_at set.keys) (sym at.node))
    ∙ ap (λ (p : ℕ). module_key set.mac (list_at set.keys site.node) s.boot p (identity_at s.mem sec.layout)) at.provider
    ∙ ap (λ (bs : List ℕ). module_key set.mac (list_at set.keys site.node) s.boot site.provider (identity bs sec.layout.pub_from sec.layout.pub_to sec.layout.priv_from sec.layout.priv_to)) at.text
    ∙ ap (λ (l : Layout). module_key set.mac (list_at set.keys site.node) s.boot site.provider (identity site.text l.pub_from l.pub_to l.priv_from l.priv_to)) at.layout

-- The marks of a turn.

pub prefix_of : (set : Setting) (setup : Setup) (result : Invoked) (before : State) (w : Watched) (bound : ℕ)
    → Comes Watched Violation (watch set.mac) (λ w. 1) (Underway setup result before) (Aborted result) (Exited setup result before) bound w → HasPrefix (marks_in result) w.marks
prefix_of set setup result before w bound (Here q) = ([], append-nil w.marks ∙ q.marks ∙ sym (ap marks_in q.returns))
prefix_of set setup result before w bound (Next p e c r) = p.marks
prefix_of set setup result before w bound (Ends p e c b) = p.marks

pub all_front : (P : Mark → Type 0) (a b : List Mark) → AllMarks P (a ++ b) → AllMarks P a
all_front P [] b h = tt
all_front P (x ∷ a) b h = (h.0, all_front P a b h.1)

pub all_back : (P : Mark → Type 0) (a b : List Mark) → AllMarks P (a ++ b) → AllMarks P b
all_back P [] b h = h
all_back P (x ∷ a) b h = all_back P a b h.1

-- the turn that a step with an unwrap is of, and what the unwrap is of
pub record UnwrapTold (set : Setting) (m : ℕ) (s : State) (own : Section) (site : Site) : Type 0 where
  pub q : PartTree
  pub part : slice_get set.app.parts m ≡ Some q
  pub turn : InTurn set m q site own (step set.mac s).state
  pub told : let x = (step set.mac s).state.exchange in
      Told (setup_of set m q own turn.before) (call_at turn.before) (progress_at (setup_of set m q own turn.before) turn.before) (mark.Unwrapped (header_of x) (body_of x) x.own_key)

pub unwrap_quiet : (e : Event) (id : ℕ) → e ≡ event.Unwrapped id → violation_of e ≡ None
unwrap_quiet e id h = ap violation_of h

pub unwrap_told : (set : Setting) (n m : ℕ) (s : State) (own : Section) (site : Site) (id : ℕ) → IsSoundSetting set → NodeTurns set n s → slice_get set.sites m ≡ Some site
    → Lives s.sections.live own → is_at_site n s.mem own site ≡ true → own_of s ≡ own.id → (step set.mac s).shown.event ≡ event.Unwrapped id → UnwrapTold set m s own site
unwrap_told set n m s own site id sound all sited lives at is e =
    let pq = get_some set.app.parts m (omega (arith, get_within set.sites m site sited, sound.sites)) in
    let g = goes_on set n m pq.0 site s own (sound.deployed m pq.0 site pq.1 sited) all pq.1 sited lives at is (unwrap_quiet (step set.mac s).shown.event id e) in
    let t = g.0 in
    let setup = setup_of set m pq.0 own t.before in
    let P : Mark → Type 0 = Told setup (call_at t.before) (progress_at setup t.before) in
    let pre = prefix_of set setup (turn_of set m pq.0 own t.before) t.before (record { node = (step set.mac s).state; marks = t.seen; event = t.last }) t.bound t.comes in
    let every = unwraps_told setup (call_at t.before) (progress_at setup t.before) refl in
    let seen = all_front P t.seen pre.0 (subst (AllMarks P) (sym pre.1) every) in
    let now = all_back P _ (marks_of (step set.mac s).shown (step set.mac s).state.exchange) (subst (AllMarks P) g.2 seen) in
    let last = all_back P (marks_of_touches (step set.mac s).shown.touch) (marks_of_event (step set.mac s).shown.event (step set.mac s).state.exchange) now in
    let x = (step set.mac s).state.exchange in
    let one : AllMarks P (mark.Unwrapped (header_of x) (body_of x) x.own_key ∷ []) = subst (λ (z : Event). AllMarks P (marks_of_event z x)) e last in
    record { q = pq.0; part = pq.1; turn = t; told = one.0 }

-- Headers of one kind.

pub key_begins : (header : List ℕ) → is_set_key_header header ≡ true → (length header ≡ 6) × (slice_index header 0 ≡ 1)
key_begins header e =
    let a = and_parts (length header == 6) _ e in
    let b = and_parts (begins 1 header) _ a.1 in
    let c = and_parts (slice_index header 0 == 1) _ b.0 in
    (eqb-true (length header) 6 a.0, eqb-true (slice_index header 0) 1 c.0)

pub event_begins : (header : List ℕ) → is_event_header header ≡ true → slice_index header 0 ≡ 3
event_begins header e =
    let a = and_parts (length header == 6) _ e in
    let c = and_parts (slice_index header 0 == 3) _ a.1 in
    eqb-true (slice_index header 0) 3 c.0

pub ask_long : (header : List ℕ) → is_ask header ≡ true → length header ≡ 18
ask_long header e = eqb-true (length header) 18 (and_parts (length header == 18) _ e).0
