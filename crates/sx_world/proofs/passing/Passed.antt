-- Steps that show nothing, and the run step by step.
use Rattle.std.proofs.Common.{◌≡◌, ℕ, zero, suc, ◌+◌, ◌-◌, ◌<◌, Bool, false, true, ◌||◌, ◌&&◌, ◌==◌, List}
use Rattle.std.proofs.Common.{◌++◌, Option, Some, None, Result, Ok, Err, OnOk, OnErr, get_or, ◌≤◌}
use Rattle.std.proofs.Common.{length, refl, sym, subst, ap, ◌∙◌, arith}
use Rattle.std.specs.Prelude.{slice_get, slice_set}
use Rattle.std.proofs.lemmas.List.{append-nil, set-set}
use Rattle.std.proofs.lemmas.Option.{get_or_from_slice_get}
use Rattle.std.proofs.lemmas.Bool.{or_parts, and_right}
use Rattle.sx_tag.specs.Mac.{Mac}
use Rattle.sx_rules.specs.declared.access.Violation.{Violation}
use Rattle.sx_trace.specs.declared.items.Item.{Item}
use Rattle.sx_ledger.specs.declared.entry.Entry.{Entry}
use Rattle.spec_machine.specs.declared.kinds.Event.{Event}
use Rattle.spec_machine.specs.declared.kinds.Event.TheVariants.{Quiet, Reset}
use Rattle.spec_machine.specs.declared.kinds.Seen.{Seen}
use Rattle.spec_machine.specs.Run.{untouched}
use Rattle.spec_machine.specs.State.{State}
use Rattle.spec_machine.specs.Step.{step}
use Rattle.spec_machine.specs.Acting.{Step}
use Rattle.spec_machine.proofs.Boots.{step_quiet}
use Rattle.sx_deploy.specs.Deployment.{Deployed}
use Rattle.spec_run.specs.Setting.{Site, Setting}
use Rattle.spec_run.specs.State.{World}
use Rattle.spec_run.specs.Observation.{observed}
use Rattle.sx_observe.specs.Computed.{runner_of}
use Rattle.sx_world.specs.Held.{Running, Recognizes, Shows, Did, Wanted}
use Rattle.sx_observe.specs.Observing.{Records, Observes, ObservesFront}
use Rattle.sx_observe.specs.Recognized.{AreRecognized}
use Rattle.spec_run.specs.Accepted.{setting}
use Rattle.spec_run.specs.Run.{is_reset, steps_of}
use Rattle.sx_world.specs.Passing.{after_steps, AreQuiet, EndsWith, stepped, taken}
use Rattle.spec_run.proofs.tie.Lists.{some_inj, length_set}
use Rattle.spec_run.proofs.steps.Stretch.{set_same}
use Rattle.sx_world.proofs.passing.Going.{Going, Steps, next, going_on, going_over, is_last}
use Rattle.spec_run.proofs.acts.Bounds.{no_reset}
use Rattle.sx_world.proofs.passing.Stepped.{step_does, program_did, program_wanted, seen_behind}
use Rattle.sx_world.proofs.doing.Doing.{with_nodes, with_seen, node_shown, shown_recognizes, recognized_shown}
use Rattle.lemmas.proofs.Lists.{get_same, get_some}

-- what a step shows that shows nothing
abbrev nothing : Seen
nothing = record { touch = untouched; event = Quiet }

-- an event that is quiet is no reset
quiet_event : (e : Event) (v : Violation) → e ≡ Quiet → e ≡ Reset v → ⊥
quiet_event e v quiet h = let t : Reset v ≡ Quiet = sym h ∙ quiet in cc

-- quiet steps reset nothing
pub quiet_boot : (mac : Mac) (idle : Bool) (k : ℕ) (s : State) → AreQuiet mac idle k s → (after_steps mac k s).boot ≡ s.boot
quiet_boot mac idle zero s q = refl
quiet_boot mac idle (suc k) s q =
    let t = after_steps mac k s in
    let shown : (step mac t).shown.event ≡ Quiet = ap (λ (z : Seen). z.event) q.1 in
    step_quiet mac t (λ v e. quiet_event (step mac t).shown.event v shown e) ∙ quiet_boot mac idle k s q.0

-- steps that leave a module running are quiet, whether that was asked for or not
pub quiet_either : (mac : Mac) (idle : Bool) (k : ℕ) (s : State) → AreQuiet mac true k s → AreQuiet mac idle k s
quiet_either mac idle zero s q = q
quiet_either mac idle (suc k) s q =
    (quiet_either mac idle k s q.0, q.1, and_right idle ((after_steps mac (suc k) s).cur == 0) q.2)

-- the node after none is the node, and what is kept stays
stepped_none : (mac : Mac) (n : ℕ) (s : State) (now : Running) → slice_get now.nodes n ≡ Some s → stepped mac n 0 s now ≡ now
stepped_none mac n s now here =
    let e : now.steps + 0 ≡ now.steps = omega arith in
    ap (λ ns. with_nodes now ns now.ledger (now.steps + 0)) (set_same now.nodes n s here) ∙ ap (λ k. with_nodes now now.nodes now.ledger k) e

-- the node is there after them
pub stepped_there : (mac : Mac) (n k : ℕ) (s : State) (now : Running) → slice_get now.nodes n ≡ Some s → slice_get (stepped mac n k s now).nodes n ≡ Some (after_steps mac k s)
stepped_there mac n k s now here = get_same now.nodes n (after_steps mac k s) s here

-- one step after them
stepped_next : (mac : Mac) (n k : ℕ) (s : State) (now : Running) (entries : List Entry)
    → with_nodes now (slice_set now.nodes n (after_steps mac (suc k) s)) entries (now.steps + suc k)
    ≡ with_nodes (stepped mac n k s now) (slice_set (stepped mac n k s now).nodes n (step mac (after_steps mac k s)).state) entries ((stepped mac n k s now).steps + 1)
stepped_next mac n k s now entries =
    let e : now.steps + suc k ≡ now.steps + k + 1 = omega arith in
    let t = after_steps mac k s in
    ap (λ i. with_nodes now (slice_set now.nodes n (step mac t).state) entries i) e
    ∙ sym (ap (λ ns. with_nodes now ns entries (now.steps + k + 1)) (set-set now.nodes n t (step mac t).state))

-- a step that shows nothing adds no item, and leaves the ledger
quiet_saw : (mac : Mac) (d : Deployed) (sites : List Site) (n : ℕ) (t : State) (entries : List Entry) (came : List Item) → (step mac t).shown ≡ nothing
    → Observes entries entries came came (seen_behind (setting mac d sites) n t)
quiet_saw mac d sites n t entries came shown = λ list h.
    let set = setting mac d sites in
    subst (λ (z : Seen). (came ≡ came ++ (observed set n (runner_of sites n (step mac t).state z) (step mac t).state z list).items)
    × Records entries (observed set n (runner_of sites n (step mac t).state z) (step mac t).state z list).ledger) (sym shown)
    (sym (append-nil came), h)

-- steps that show nothing are steps of the run
pub going_quiet : (mac : Mac) (d : Deployed) (sites : List Site) (idle : Bool) (ends : List Item) (n all left k j : ℕ) (old now : Running) (before came : List Item) (s : State)
    → Going (setting mac d sites) (λ s. idle && (s.cur == 0)) ends n all left old now before came → left ≡ j + k → slice_get now.nodes n ≡ Some s → AreQuiet mac idle k s
    → Going (setting mac d sites) (λ s. idle && (s.cur == 0)) ends n all j old (stepped mac n k s now) before came
going_quiet mac d sites idle ends n all left zero j old now before came s going e here q =
    let set = setting mac d sites in
    let same : left ≡ j = e ∙ omega arith in
    subst (λ i. Going set (λ s. idle && (s.cur == 0)) ends n all i old (stepped mac n 0 s now) before came) same
    (subst (λ x. Going set (λ s. idle && (s.cur == 0)) ends n all left old x before came) (sym (stepped_none mac n s now here)) going)
going_quiet mac d sites idle ends n all left (suc k) j old now before came s going e here q =
    let set = setting mac d sites in
    let t = after_steps mac k s in
    let so_far = going_quiet mac d sites idle ends n all left k (suc j) old now before came s going (e ∙ omega arith) here q.0 in
    let on : is_last set (λ s. idle && (s.cur == 0)) t ≡ false = ap (λ (z : Seen). is_reset z.event || (idle && ((step mac t).state.cur == 0))) q.1 ∙ q.2 in
    going_on set (λ s. idle && (s.cur == 0)) ends n all (suc j) j old (stepped mac n k s now) (stepped mac n (suc k) s now) before came came t so_far refl (stepped_there mac n k s now here) on
    (step_does mac d sites (stepped mac n k s now) (stepped mac n (suc k) s now) came came n t now.ledger
    (stepped_there mac n k s now here) (stepped_next mac n k s now now.ledger) (quiet_saw mac d sites n t now.ledger came q.1))

-- The node's state as it is after quiet steps and one more.
pub node_at : (mac : Mac) (n k : ℕ) (s : State) (now mid : Running) → slice_get now.nodes n ≡ Some s
    → mid ≡ stepped mac n (suc k) s now → slice_get mid.nodes n ≡ Some (step mac (after_steps mac k s)).state
node_at mac n k s now mid here left = ap (λ (r : Running). slice_get r.nodes n) left ∙ stepped_there mac n (suc k) s now here

-- The program took steps that show nothing, and then one that showed this.
pub record Passage (mac : Mac) (idle : Bool) (n k left : ℕ) (now mid : Running) (seen : Seen) : Type 0 where
  pub node : State
  pub here : slice_get now.nodes n ≡ Some node
  pub quiet : AreQuiet mac idle k node
  pub few : k < left
  pub shown : seen ≡ (step mac (after_steps mac k node)).shown
  pub leaves : mid ≡ stepped mac n (suc k) node now

pub passage : (mac : Mac) (idle : Bool) (n k left : ℕ) (now mid : Running) (last : Option Seen) (seen : Seen) → n < length now.nodes
    → ((s : State) → slice_get now.nodes n ≡ Some s → AreQuiet mac idle k s) → ((s : State) → slice_get now.nodes n ≡ Some s → EndsWith mac left k last s)
    → ((s : State) → slice_get now.nodes n ≡ Some s → mid ≡ stepped mac n (taken k last) s now) → last ≡ Some seen → Passage mac idle n k left now mid seen
passage mac idle n k left now mid last seen lt quiet ends leaves e =
    let found = get_some now.nodes n lt in
    let s = found.0 in
    let end : EndsWith mac left k (Some seen) s = subst (λ o. EndsWith mac left k o s) e (ends s found.1) in
    record {
      node = s;
      here = found.1;
      quiet = quiet s found.1;
      few = end.0;
      shown = end.1;
      leaves = leaves s found.1 ∙ ap (λ o. stepped mac n (taken k o) s now) e;
    }

-- As many steps as were asked for showed nothing.
pub none_of : (o : Option Seen) → ((v : Seen) → o ≡ Some v → ⊥) → o ≡ None
none_of None f = refl
none_of (Some v) f = absurd (f v refl)

pub all_passed : (mac : Mac) (d : Deployed) (sites : List Site) (idle : Bool) (ends : List Item) (n all left k : ℕ) (old now mid : Running) (before came : List Item) (last : Option Seen)
    → Going (setting mac d sites) (λ s. idle && (s.cur == 0)) ends n all left old now before came → n < length now.nodes
    → ((s : State) → slice_get now.nodes n ≡ Some s → AreQuiet mac idle k s) → ((s : State) → slice_get now.nodes n ≡ Some s → EndsWith mac left k last s)
    → ((s : State) → slice_get now.nodes n ≡ Some s → mid ≡ stepped mac n (taken k last) s now) → ((v : Seen) → last ≡ Some v → ⊥)
    → Going (setting mac d sites) (λ s. idle && (s.cur == 0)) ends n all 0 old mid before came
all_passed mac d sites idle ends n all left k old now mid before came last going lt quiet whole leaves none =
    let set = setting mac d sites in
    let found = get_some now.nodes n lt in
    let s = found.0 in
    let no = none_of last none in
    let same : k ≡ left = subst (λ o. EndsWith mac left k o s) no (whole s found.1) in
    let left_by : mid ≡ stepped mac n k s now = leaves s found.1 ∙ ap (λ o. stepped mac n (taken k o) s now) no in
    subst (λ r. Going set (λ s. idle && (s.cur == 0)) ends n all 0 old r before came) (sym left_by)
    (going_quiet mac d sites idle ends n all left k 0 old now before came s going (omega (arith, same)) found.1 (quiet s found.1))

-- the node, read at its place
pub node_there : (items old : List State) (n i : ℕ) (s node : State) → items ≡ old → slice_get old n ≡ Some s → i ≡ n → node ≡ get_or items i node → node ≡ s
node_there items old n i s node left here same e =
    e ∙ ap (λ xs. get_or xs i node) left ∙ ap (λ k. get_or old k node) same ∙ get_or_from_slice_get old n s node here

-- what is seen of the node, whichever it is
pub shown_did : {T E : Type 0} (r : Result T E) (set : Setting) (n : ℕ) (kept : Running) (entries new : List Entry) (before after : List Item) (node : State) (runner : Option ℕ) (seen : Seen)
    → entries ≡ kept.ledger → (Recognizes set.sites kept → slice_get kept.nodes n ≡ Some node → runner ≡ runner_of set.sites n node seen) → ((s : State) → slice_get kept.nodes n ≡ Some s → node ≡ s)
    → OnOk r (Observes entries new before after (observed set n runner node seen))
    → OnOk r (Recognizes set.sites kept → (s : State) → slice_get kept.nodes n ≡ Some s → Observes kept.ledger new before after (observed set n (runner_of set.sites n s seen) s seen))
shown_did (Ok x) set n kept entries new before after node runner seen same found there saw = λ known s here.
    let is = found known (here ∙ ap (λ (t : State). Some t) (sym (there s here))) in
    subst (λ l. Observes l new before after (observed set n (runner_of set.sites n s seen) s seen)) same
    (subst (λ (t : State). Observes entries new before after (observed set n (runner_of set.sites n t seen) t seen)) (there s here)
    (subst (λ o. Observes entries new before after (observed set n o node seen)) is saw))
shown_did (Err e) set n kept entries new before after node runner seen same found there saw = tt

pub shown_front : {T E : Type 0} (r : Result T E) (set : Setting) (n : ℕ) (kept : Running) (entries : List Entry) (before after : List Item) (node : State) (runner : Option ℕ) (seen : Seen)
    → entries ≡ kept.ledger → (Recognizes set.sites kept → slice_get kept.nodes n ≡ Some node → runner ≡ runner_of set.sites n node seen) → ((s : State) → slice_get kept.nodes n ≡ Some s → node ≡ s)
    → OnErr r (ObservesFront entries before after (observed set n runner node seen))
    → OnErr r (Recognizes set.sites kept → (s : State) → slice_get kept.nodes n ≡ Some s → ObservesFront kept.ledger before after (observed set n (runner_of set.sites n s seen) s seen))
shown_front (Ok x) set n kept entries before after node runner seen same found there saw = tt
shown_front (Err e) set n kept entries before after node runner seen same found there saw = λ known s here.
    let is = found known (here ∙ ap (λ (t : State). Some t) (sym (there s here))) in
    subst (λ l. ObservesFront l before after (observed set n (runner_of set.sites n s seen) s seen)) same
    (subst (λ (t : State). ObservesFront entries before after (observed set n (runner_of set.sites n t seen) t seen)) (there s here)
    (subst (λ o. ObservesFront entries before after (observed set n o node seen)) is saw))

-- of the steps that are left, as many less one
pub one_less : (left k : ℕ) → k < left → left - k ≡ suc (left - (k + 1))
one_less left k h = omega arith

pub none_more : (left k : ℕ) → k < left → left ≡ left - k + k
none_more left k h = omega arith

-- what is kept after them and one more is what one more step leaves
passed_next : (mac : Mac) (idle : Bool) (n k left : ℕ) (now mid : Running) (seen : Seen) (entries : List Entry) → (p : Passage mac idle n k left now mid seen)
    → with_nodes mid mid.nodes entries mid.steps
    ≡ with_nodes (stepped mac n k p.node now) (slice_set (stepped mac n k p.node now).nodes n (step mac (after_steps mac k p.node)).state) entries ((stepped mac n k p.node now).steps + 1)
passed_next mac idle n k left now mid seen entries p =
    ap (λ (r : Running). with_nodes r r.nodes entries r.steps) p.leaves ∙ stepped_next mac n k p.node now entries

-- those that were recognized are the modules after it
passed_recognizes : (mac : Mac) (d : Deployed) (sites : List Site) (now mid : Running) (idle : Bool) (n k left : ℕ) (seen : Seen)
    → (p : Passage mac idle n k left now mid seen) → (v : World) → Shows (setting mac d sites) (stepped mac n k p.node now) v → Recognizes sites mid
passed_recognizes mac d sites now mid idle n k left seen p v h =
    let set = setting mac d sites in
    let old = stepped mac n k p.node now in
    let t = after_steps mac k p.node in
    let here : slice_get v.nodes n ≡ Some t = ap (λ ns. slice_get ns n) (sym h.nodes) ∙ stepped_there mac n k p.node now p.here in
    subst (λ (r : Running). Recognizes sites r) (sym (passed_next mac idle n k left now mid seen old.ledger p))
    (shown_recognizes set _ _ (node_shown set old v n t Step old.ledger v.ledger (old.steps + 1) h here h.ledger))

-- the step after them, and what is seen of it
pub passed_did : (mac : Mac) (d : Deployed) (sites : List Site) (now mid new : Running) (came after : List Item) (idle : Bool) (n k left : ℕ) (seen : Seen)
    → (p : Passage mac idle n k left now mid seen) → new ≡ with_seen mid new.ledger new.recognized
    → (Recognizes sites mid → (t : State) → slice_get mid.nodes n ≡ Some t → Observes mid.ledger new.ledger came after (observed (setting mac d sites) n (runner_of sites n t seen) t seen))
    → (Recognizes sites mid → AreRecognized sites mid.nodes new.recognized)
    → Steps (setting mac d sites) n (stepped mac n k p.node now) new came after
passed_did mac d sites now mid new came after idle n k left seen p kept saw recognizes = λ v h.
    let set = setting mac d sites in
    let t = after_steps mac k p.node in
    let u = (step mac t).state in
    let known = passed_recognizes mac d sites now mid idle n k left seen p v h in
    let left_by = with_nodes mid mid.nodes new.ledger mid.steps in
    let did = program_did mac d sites (stepped mac n k p.node now) left_by came after n t u (runner_of sites n u seen) seen mid.ledger new.ledger
    (stepped_there mac n k p.node now p.here) refl p.shown refl (ap (λ (r : Running). r.ledger) p.leaves) (passed_next mac idle n k left now mid seen new.ledger p)
    (saw known u (node_at mac n k p.node now mid p.here p.leaves)) v h in
    (subst (λ (r : Running). Shows set r (next set n v).world) (sym kept) (recognized_shown set left_by (next set n v).world new.recognized did.0 (recognizes known)), did.1)

pub passed_front : (mac : Mac) (d : Deployed) (sites : List Site) (now mid : Running) (came after : List Item) (idle : Bool) (n k left : ℕ) (seen : Seen)
    → (p : Passage mac idle n k left now mid seen)
    → (Recognizes sites mid → (t : State) → slice_get mid.nodes n ≡ Some t → ObservesFront mid.ledger came after (observed (setting mac d sites) n (runner_of sites n t seen) t seen))
    → Wanted (setting mac d sites) (stepped mac n k p.node now) came after (next (setting mac d sites) n)
passed_front mac d sites now mid came after idle n k left seen p saw = λ v h.
    let t = after_steps mac k p.node in
    let u = (step mac t).state in
    program_wanted mac d sites (stepped mac n k p.node now) came after n t u (runner_of sites n u seen) seen mid.ledger
    (stepped_there mac n k p.node now p.here) refl p.shown refl (ap (λ (r : Running). r.ledger) p.leaves)
    (saw (passed_recognizes mac d sites now mid idle n k left seen p v h) u (node_at mac n k p.node now mid p.here p.leaves)) v h

-- what the run has come to before it
pub passed_going : (mac : Mac) (d : Deployed) (sites : List Site) (idle : Bool) (ends : List Item) (n all left k : ℕ) (old now mid : Running) (before came : List Item) (seen : Seen)
    → (p : Passage mac idle n k left now mid seen) → Going (setting mac d sites) (λ s. idle && (s.cur == 0)) ends n all left old now before came
    → Going (setting mac d sites) (λ s. idle && (s.cur == 0)) ends n all (left - k) old (stepped mac n k p.node now) before came
passed_going mac d sites idle ends n all left k old now mid before came seen p going =
    going_quiet mac d sites idle ends n all left k (left - k) old now before came p.node going (none_more left k p.few) p.here p.quiet

-- the node after it
pub passed_there : (mac : Mac) (idle : Bool) (n k left : ℕ) (now mid new : Running) (seen : Seen) → (p : Passage mac idle n k left now mid seen) → new ≡ with_seen mid new.ledger new.recognized
    → slice_get new.nodes n ≡ Some (step mac (after_steps mac k p.node)).state
passed_there mac idle n k left now mid new seen p kept = ap (λ (r : Running). slice_get r.nodes n) kept ∙ node_at mac n k p.node now mid p.here p.leaves

-- the program's test whether it is the last one
pub passed_ends : (mac : Mac) (idle : Bool) (n k left : ℕ) (now mid new : Running) (seen : Seen) (b : Bool)
    → (p : Passage mac idle n k left now mid seen) → new ≡ with_seen mid new.ledger new.recognized
    → ((u : State) → slice_get new.nodes n ≡ Some u → b ≡ (is_reset seen.event || (idle && (u.cur == 0))))
    → (is_reset (step mac (after_steps mac k p.node)).shown.event || (idle && ((step mac (after_steps mac k p.node)).state.cur == 0))) ≡ b
passed_ends mac idle n k left now mid new seen b p kept test =
    let t = after_steps mac k p.node in
    ap (λ (z : Seen). is_reset z.event || (idle && ((step mac t).state.cur == 0))) (sym p.shown) ∙ sym (test (step mac t).state (passed_there mac idle n k left now mid new seen p kept))

pub passed_within : (mac : Mac) (idle : Bool) (n k left : ℕ) (now mid : Running) (seen : Seen) → Passage mac idle n k left now mid seen → n < length now.nodes → n < length mid.nodes
passed_within mac idle n k left now mid seen p lt =
    subst (λ i. n < i) (sym (ap (λ (r : Running). length r.nodes) p.leaves ∙ length_set now.nodes n (after_steps mac (suc k) p.node))) lt

pub shown_within : (n : ℕ) (mid new : Running) → new ≡ with_seen mid new.ledger new.recognized → n < length mid.nodes → n < length new.nodes
shown_within n mid new kept lt = subst (λ i. n < i) (sym (ap (λ (r : Running). length r.nodes) kept)) lt

-- where it isn't, the count of resets is kept
pub passed_small : (mac : Mac) (idle : Bool) (n k left : ℕ) (now mid new : Running) (seen : Seen) (b : Bool)
    → (p : Passage mac idle n k left now mid seen) → new ≡ with_seen mid new.ledger new.recognized
    → ((u : State) → slice_get new.nodes n ≡ Some u → b ≡ (is_reset seen.event || (idle && (u.cur == 0)))) → b ≡ false
    → p.node.boot < 4294967295 → (t : State) → slice_get new.nodes n ≡ Some t → t.boot < 4294967295
passed_small mac idle n k left now mid new seen b p kept test more small t here =
    let m = after_steps mac k p.node in
    let there = passed_there mac idle n k left now mid new seen p kept in
    let same : t ≡ (step mac m).state = some_inj t (step mac m).state (sym here ∙ there) in
    let ends = passed_ends mac idle n k left now mid new seen b p kept test in
    let on = (or_parts (is_reset (step mac m).shown.event) (idle && ((step mac m).state.cur == 0)) (ends ∙ more)).0 in
    subst (λ b. b < 4294967295) (sym (ap (λ (u : State). u.boot) same ∙ step_quiet mac m (λ v e. no_reset (step mac m).shown.event v on e) ∙ quiet_boot mac idle k p.node p.quiet)) small

-- What that step showed was said: the program goes on after it, or it was the last one.
module _ (mac : Mac) (d : Deployed) (sites : List Site) (idle : Bool) (ends : List Item) (n all left k : ℕ) (old now mid new : Running) (before came after : List Item) (seen : Seen) (b : Bool)
    (p : Passage mac idle n k left now mid seen) (kept : new ≡ with_seen mid new.ledger new.recognized)
    (saw : Recognizes sites mid → (t : State) → slice_get mid.nodes n ≡ Some t → Observes mid.ledger new.ledger came after (observed (setting mac d sites) n (runner_of sites n t seen) t seen))
    (recognizes : Recognizes sites mid → AreRecognized sites mid.nodes new.recognized)
    (test : (u : State) → slice_get new.nodes n ≡ Some u → b ≡ (is_reset seen.event || (idle && (u.cur == 0))))
    (going : Going (setting mac d sites) (λ s. idle && (s.cur == 0)) ends n all left old now before came) where
  ends_as : (is_reset (step mac (after_steps mac k p.node)).shown.event || (idle && ((step mac (after_steps mac k p.node)).state.cur == 0))) ≡ b
  ends_as = passed_ends mac idle n k left now mid new seen b p kept test

  so_far : Going (setting mac d sites) (λ s. idle && (s.cur == 0)) ends n all (left - k) old (stepped mac n k p.node now) before came
  so_far = passed_going mac d sites idle ends n all left k old now mid before came seen p going

  showed : Steps (setting mac d sites) n (stepped mac n k p.node now) new came after
  showed = passed_did mac d sites now mid new came after idle n k left seen p kept saw recognizes

  pub passed_over : b ≡ true → Did (setting mac d sites) old new before after (steps_of (setting mac d sites) (λ s. idle && (s.cur == 0)) ends n all)
  passed_over last =
      going_over (setting mac d sites) (λ s. idle && (s.cur == 0)) ends n all (left - k) (left - (k + 1)) old (stepped mac n k p.node now) new before came after (after_steps mac k p.node) so_far
      (one_less left k p.few) (stepped_there mac n k p.node now p.here) (ends_as ∙ last) showed

  pub passed_on : b ≡ false → Going (setting mac d sites) (λ s. idle && (s.cur == 0)) ends n all (left - (k + 1)) old new before after
  passed_on more =
      going_on (setting mac d sites) (λ s. idle && (s.cur == 0)) ends n all (left - k) (left - (k + 1)) old (stepped mac n k p.node now) new before came after (after_steps mac k p.node) so_far
      (one_less left k p.few) (stepped_there mac n k p.node now p.here) (ends_as ∙ more) showed

-- the steps that are left are fewer
few_left : (limit now mid new left k : ℕ) → new ≡ mid → mid ≡ now + suc k → k < left → now + left ≤ limit → new + (left - (k + 1)) ≤ limit
few_left limit now mid new left k e f few most = omega arith

pub passed_steps : (limit : ℕ) (mac : Mac) (idle : Bool) (n k left : ℕ) (now mid new : Running) (seen : Seen)
    → Passage mac idle n k left now mid seen → new ≡ with_seen mid new.ledger new.recognized
    → now.steps + left ≤ limit → new.steps + (left - (k + 1)) ≤ limit
passed_steps limit mac idle n k left now mid new seen p kept most =
    few_left limit now.steps mid.steps new.steps left k (ap (λ (r : Running). r.steps) kept) (ap (λ (r : Running). r.steps) p.leaves) p.few most
