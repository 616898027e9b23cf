-- One step of a node of the program's world.
use Rattle.spec_run.proofs.steps.Stretch.{set_same}
use Rattle.spec_machine.specs.Acts.{irq, irq_refusal, unless}
use Rattle.spec_machine.specs.declared.kinds.Refused.{Refused}
use Rattle.spec_machine.specs.declared.kinds.Seen.{Seen}
use Rattle.std.proofs.lemmas.Option.{get_or_from_slice_get}
use Rattle.std.proofs.Common.{◌≡◌, ℕ, ◌+◌, get_or, List, ◌++◌, Some, sym, subst, ap, ◌∙◌, Option, ◌∷◌, [], None, Result, Ok, Err, OnOk, OnErr, refl}
use Rattle.std.specs.Prelude.{slice_get, slice_set}
use Rattle.sx_tag.specs.Mac.{Mac}
use Rattle.sx_trace.specs.declared.items.Item.{Item}
use Rattle.sx_ledger.specs.declared.entry.Entry.{Entry}
use Rattle.sx_ledger.specs.Made.{Made}
use Rattle.spec_machine.specs.State.{State}
use Rattle.spec_machine.specs.Step.{own_of, step}
use Rattle.spec_machine.specs.Step.{Shown as Shown}
use Rattle.spec_machine.specs.Acting.{Step, Interrupt}
use Rattle.sx_deploy.specs.Deployment.{Deployed}
use Rattle.spec_run.specs.Setting.{Site, Setting, module_of}
use Rattle.spec_run.specs.State.{World, Acted}
use Rattle.spec_run.specs.Acts.{at_node, after_step, with_node, after_interrupt, refused_item}
use Rattle.spec_run.specs.Observation.{Observed, observed}
use Rattle.sx_observe.specs.Computed.{runner_of}
use Rattle.sx_world.specs.Held.{Running, Shows, Did, Wanted}
use Rattle.sx_observe.specs.Observing.{Records, AddsFront, Observes, ObservesFront}
use Rattle.spec_run.specs.Accepted.{setting}
use Rattle.sx_world.proofs.doing.Doing.{with_nodes, node_shown}
use Rattle.sx_world.proofs.passing.Going.{next}
use Rattle.sx_observe.proofs.Runners.{observed_behind}
use Rattle.lemmas.proofs.Lists.{get_same}

-- what is seen of a step, by whose code the node after it tells
abbrev pub seen_behind : Setting → ℕ → State → List Made → Observed
seen_behind set n s = observed set n (runner_of set.sites n (step set.mac s).state (step set.mac s).shown) (step set.mac s).state (step set.mac s).shown

abbrev seen_of : Setting → ℕ → State → List Made → Observed
seen_of set n s = observed set n (module_of set.sites n s (own_of s)) (step set.mac s).state (step set.mac s).shown

pub step_does : (mac : Mac) (d : Deployed) (sites : List Site) (old new : Running) (before after : List Item) (n : ℕ) (s : State) (entries : List Entry)
    → slice_get old.nodes n ≡ Some s → new ≡ with_nodes old (slice_set old.nodes n (step mac s).state) entries (old.steps + 1)
    → Observes old.ledger entries before after (seen_behind (setting mac d sites) n s)
    → (w : World) → Shows (setting mac d sites) old w → Shows (setting mac d sites) new (next (setting mac d sites) n w).world × (after ≡ before ++ (next (setting mac d sites) n w).items)
step_does mac d sites old new before after n s entries there left saw = λ w h.
    let set = setting mac d sites in
    let here : slice_get w.nodes n ≡ Some s = ap (λ ns. slice_get ns n) (sym h.nodes) ∙ there in
    let o = saw w.ledger h.ledger in
    let same : seen_behind set n s w.ledger ≡ seen_of set n s w.ledger = observed_behind set n s w.ledger (h.placed n s here) in
    let records : Records entries (seen_of set n s w.ledger).ledger = subst (λ (x : Observed). Records entries x.ledger) same o.1 in
    let counted : Shows set (with_nodes old (slice_set old.nodes n (step mac s).state) entries (old.steps + 1)) (with_node w n (step mac s).state (seen_of set n s w.ledger).ledger (w.steps + 1)) =
    subst (λ k. Shows set (with_nodes old (slice_set old.nodes n (step mac s).state) entries (k + 1)) (with_node w n (step mac s).state (seen_of set n s w.ledger).ledger (w.steps + 1))) (sym h.steps)
    (node_shown set old w n s Step entries (seen_of set n s w.ledger).ledger (w.steps + 1) h here records) in
    subst (λ o. Shows set new (at_node w (after_step set w n) o).world × (after ≡ before ++ (at_node w (after_step set w n) o).items)) (sym here)
    (subst (λ x. Shows set x (after_step set w n s).world) (sym left) counted, o.0 ∙ ap (λ (x : Observed). before ++ x.items) same)

pub step_front : (mac : Mac) (d : Deployed) (sites : List Site) (old : Running) (before after : List Item) (n : ℕ) (s : State)
    → slice_get old.nodes n ≡ Some s → ObservesFront old.ledger before after (seen_behind (setting mac d sites) n s)
    → (w : World) → Shows (setting mac d sites) old w → AddsFront before after (next (setting mac d sites) n w).items
step_front mac d sites old before after n s there saw = λ w h.
    let set = setting mac d sites in
    let here : slice_get w.nodes n ≡ Some s = ap (λ ns. slice_get ns n) (sym h.nodes) ∙ there in
    let o = saw w.ledger h.ledger in
    let same : seen_behind set n s w.ledger ≡ seen_of set n s w.ledger = observed_behind set n s w.ledger (h.placed n s here) in
    subst (λ o. AddsFront before after (at_node w (after_step set w n) o).items) (sym here)
    (subst (λ (x : Observed). AddsFront before after x.items) same o)

-- the node after a step, read at its place
pub node_behind : (news old : List State) (n i : ℕ) (s t node : State) → news ≡ slice_set old n t → slice_get old n ≡ Some s → i ≡ n → node ≡ get_or news i node → node ≡ t
node_behind news old n i s t node left here same e =
    e ∙ ap (λ xs. get_or xs i node) left ∙ ap (λ k. get_or (slice_set old n t) k node) same ∙ get_or_from_slice_get (slice_set old n t) n t node (get_same old n t s here)

saw_behind : (set : Setting) (n : ℕ) (s node : State) (runner : Option ℕ) (seen : Seen) (list : List Made) → node ≡ (step set.mac s).state → seen ≡ (step set.mac s).shown
    → runner ≡ runner_of set.sites n node seen → observed set n runner node seen list ≡ seen_behind set n s list
saw_behind set n s node runner seen list left shown found =
    ap (λ r. observed set n r node seen list) found ∙ ap (λ (x : State). observed set n (runner_of set.sites n x seen) x seen list) left
    ∙ ap (λ (z : Seen). observed set n (runner_of set.sites n (step set.mac s).state z) (step set.mac s).state z list) shown

-- a step that the program did
pub program_did : (mac : Mac) (d : Deployed) (sites : List Site) (old new : Running) (before after : List Item)
    (n : ℕ) (s node : State) (runner : Option ℕ) (seen : Seen) (entries entries2 : List Entry)
    → slice_get old.nodes n ≡ Some s → node ≡ (step mac s).state → seen ≡ (step mac s).shown → runner ≡ runner_of sites n node seen → entries ≡ old.ledger
    → new ≡ with_nodes old (slice_set old.nodes n (step mac s).state) entries2 (old.steps + 1)
    → Observes entries entries2 before after (observed (setting mac d sites) n runner node seen) → Did (setting mac d sites) old new before after (next (setting mac d sites) n)
program_did mac d sites old new before after n s node runner seen entries entries2 here left shown found kept is_new saw =
    let set = setting mac d sites in
    step_does mac d sites old new before after n s entries2 here is_new (λ list h.
    subst (λ (o : Observed). (after ≡ before ++ o.items) × Records entries2 o.ledger) (saw_behind set n s node runner seen list left shown found)
    (saw list (subst (λ l. Records l list) (sym kept) h)))

pub program_wanted : (mac : Mac) (d : Deployed) (sites : List Site) (old : Running) (before after : List Item) (n : ℕ) (s node : State) (runner : Option ℕ) (seen : Seen) (entries : List Entry)
    → slice_get old.nodes n ≡ Some s → node ≡ (step mac s).state → seen ≡ (step mac s).shown → runner ≡ runner_of sites n node seen → entries ≡ old.ledger
    → ObservesFront entries before after (observed (setting mac d sites) n runner node seen) → Wanted (setting mac d sites) old before after (next (setting mac d sites) n)
program_wanted mac d sites old before after n s node runner seen entries here left shown found kept saw =
    let set = setting mac d sites in
    step_front mac d sites old before after n s here (λ list h.
    subst (λ (o : Observed). AddsFront before after o.items) (saw_behind set n s node runner seen list left shown found)
    (saw list (subst (λ l. Records l list) (sym kept) h)))

-- An interrupt. One that is refused leaves the node.
refused_still : {T : Type 0} (o : Option Refused) (s : State) (done : Shown T) (why : Refused) → (unless o s done).shown ≡ Err why → (unless o s done).state ≡ s
refused_still None s done why e = absurd cc
refused_still (Some x) s done why e = refl

abbrev pub next_irq : Setting → ℕ → ℕ → World → Acted
next_irq set n line w = at_node w (λ s. after_interrupt set w n (irq s line).state (irq s line).shown) (slice_get w.nodes n)

pub irq_did : {T E : Type 0} (r : Result T E) (mac : Mac) (d : Deployed) (sites : List Site) (old new : Running)
    (before after : List Item) (n line : ℕ) (s node : State) (seen : Seen) (entries entries2 : List Entry)
    → slice_get old.nodes n ≡ Some s → node ≡ (irq s line).state → (irq s line).shown ≡ Ok seen → entries ≡ old.ledger
    → new ≡ with_nodes old (slice_set old.nodes n (irq s line).state) entries2 old.steps
    → OnOk r (Observes entries entries2 before after (observed (setting mac d sites) n None node seen))
    → OnOk r (Did (setting mac d sites) old new before after (next_irq (setting mac d sites) n line))
irq_did (Ok x) mac d sites old new before after n line s node seen entries entries2 there left shown kept is_new saw = λ w h.
    let set = setting mac d sites in
    let here : slice_get w.nodes n ≡ Some s = ap (λ ns. slice_get ns n) (sym h.nodes) ∙ there in
    let t = (irq s line).state in
    let o = subst (λ (x : State). (after ≡ before ++ (observed set n None x seen w.ledger).items)
    × Records entries2 (observed set n None x seen w.ledger).ledger) left (saw w.ledger (subst (λ l. Records l w.ledger) (sym kept) h.ledger)) in
    let ledger = (observed set n None t seen w.ledger).ledger in
    let shows : Shows set (with_nodes old (slice_set old.nodes n t) entries2 old.steps) (with_node w n t ledger w.steps) =
    subst (λ k. Shows set (with_nodes old (slice_set old.nodes n t) entries2 k) (with_node w n t ledger w.steps)) (sym h.steps)
    (node_shown set old w n s (Interrupt line) entries2 ledger w.steps h here o.1) in
    subst (λ q. Shows set new (at_node w (λ s. after_interrupt set w n (irq s line).state (irq s line).shown) q).world
    × (after ≡ before ++ (at_node w (λ s. after_interrupt set w n (irq s line).state (irq s line).shown) q).items)) (sym here)
    (subst (λ q. Shows set new (after_interrupt set w n t q).world × (after ≡ before ++ (after_interrupt set w n t q).items)) (sym shown)
    (subst (λ x. Shows set x (with_node w n t ledger w.steps)) (sym is_new) shows, o.0))
irq_did (Err x) mac d sites old new before after n line s node seen entries entries2 there left shown kept is_new saw = tt

pub irq_wanted : {T E : Type 0} (r : Result T E) (mac : Mac) (d : Deployed) (sites : List Site) (old : Running)
    (before after : List Item) (n line : ℕ) (s node : State) (seen : Seen) (entries : List Entry)
    → slice_get old.nodes n ≡ Some s → node ≡ (irq s line).state → (irq s line).shown ≡ Ok seen → entries ≡ old.ledger
    → OnErr r (ObservesFront entries before after (observed (setting mac d sites) n None node seen)) → OnErr r (Wanted (setting mac d sites) old before after (next_irq (setting mac d sites) n line))
irq_wanted (Ok x) mac d sites old before after n line s node seen entries there left shown kept saw = tt
irq_wanted (Err x) mac d sites old before after n line s node seen entries there left shown kept saw = λ w h.
    let set = setting mac d sites in
    let here : slice_get w.nodes n ≡ Some s = ap (λ ns. slice_get ns n) (sym h.nodes) ∙ there in
    let t = (irq s line).state in
    let o = subst (λ (x : State). AddsFront before after (observed set n None x seen w.ledger).items) left (saw w.ledger (subst (λ l. Records l w.ledger) (sym kept) h.ledger)) in
    subst (λ q. AddsFront before after (at_node w (λ s. after_interrupt set w n (irq s line).state (irq s line).shown) q).items) (sym here)
    (subst (λ q. AddsFront before after (after_interrupt set w n t q).items) (sym shown) o)

pub irq_refused : {T E : Type 0} (r : Result T E) (set : Setting) (old new : Running) (before after : List Item) (n line : ℕ) (s : State) (why : Refused)
    → slice_get old.nodes n ≡ Some s → (irq s line).shown ≡ Err why → new ≡ with_nodes old (slice_set old.nodes n (irq s line).state) old.ledger old.steps
    → OnOk r (after ≡ before ++ refused_item n why ∷ []) → OnOk r (Did set old new before after (next_irq set n line))
irq_refused (Ok x) set old new before after n line s why there shown is_new e = λ w h.
    let here : slice_get w.nodes n ≡ Some s = ap (λ ns. slice_get ns n) (sym h.nodes) ∙ there in
    let still : (irq s line).state ≡ s = refused_still (irq_refusal s) s _ why shown in
    let same : new ≡ old = is_new ∙ ap (λ ns. with_nodes old ns old.ledger old.steps) (ap (λ t. slice_set old.nodes n t) still ∙ set_same old.nodes n s there) in
    subst (λ q. Shows set new (at_node w (λ s. after_interrupt set w n (irq s line).state (irq s line).shown) q).world
    × (after ≡ before ++ (at_node w (λ s. after_interrupt set w n (irq s line).state (irq s line).shown) q).items)) (sym here)
    (subst (λ q. Shows set new (after_interrupt set w n (irq s line).state q).world × (after ≡ before ++ (after_interrupt set w n (irq s line).state q).items)) (sym shown)
    (subst (λ x. Shows set x w) (sym same) h, e))
irq_refused (Err x) set old new before after n line s why there shown is_new e = tt

pub as_interrupted : (old view : Running) (nodes : List State) (entries : List Entry) (n : ℕ) (t : State) → view ≡ old → nodes ≡ slice_set old.nodes n t
    → with_nodes view nodes entries view.steps ≡ with_nodes old (slice_set old.nodes n t) entries old.steps
as_interrupted old view nodes entries n t v e = ap (λ ns. with_nodes view ns entries view.steps) e ∙ ap (λ (k : Running). with_nodes k (slice_set old.nodes n t) entries k.steps) v

pub refused_ok : {T E : Type 0} (r : Result T E) (before after : List Item) (item due : Item) → item ≡ due → OnOk r (after ≡ before ++ item ∷ []) → OnOk r (after ≡ before ++ due ∷ [])
refused_ok (Ok x) before after item due e h = h ∙ ap (λ i. before ++ i ∷ []) e
refused_ok (Err x) before after item due e h = tt
