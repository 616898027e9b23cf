-- An item raises no count by more than one.
use Rattle.std.proofs.Common.{◌≡◌, ℕ, ◌+◌, ◌≤◌, ◌==◌, ◌&&◌, not, nat_lt, inl, inr, if◌then◌else◌, Bool, true, false, List, [], ◌∷◌, length, map, replicate}
use Rattle.std.proofs.Common.{Option, Some, None, slice_get, slice_index, refl, sym, ap, subst, ◌∙◌, arith}
use Rattle.std.specs.Prelude.{All, unwrap_or}
use Rattle.std.proofs.lemmas.List.Elements.{All-set, All-weaker, All-get_or, All-replicate}
use Rattle.std.proofs.lemmas.Option.{slice_get_cases, unwrap_or-slice_get}
use Rattle.sx_lang.specs.Tree.{ModuleTree}
use Rattle.sx_mean.specs.Application.{AppTree, PartTree, is_sensor}
use Rattle.sx_mean.specs.declared.events.End.{End}
use Rattle.sx_mean.specs.declared.events.SourceEvent.{SourceEvent}
use Rattle.sx_mean.specs.declared.events.SourceEvent.TheVariants as event
use Rattle.sx_mean.specs.Ends.{ends_of}
use Rattle.sx_model.specs.Reaction.{after_event, flow_of}
use Rattle.sx_model.specs.Step.{◌>>?◌, absent_at, state_if, idle, kind_is, stale_at, is_undriven, waits, with_device}
use Rattle.sx_model.specs.Changes.{accepts, at_index, finishes, if_so, is_readable, is_refused, on_device, on_module, on_present, opens_ask, opens_standing}
use Rattle.sx_model.specs.Changes.{protects, puts, raised_at, reacted, reads_from, renewal, staled, steps, takes_at, takes_fresh, takes_present, vouches}
use Rattle.sx_model.specs.Changes.{with_module, with_stale, word_at, writes_present}
use Rattle.sx_trace.specs.declared.items.Item.{Item}
use Rattle.sx_trace.specs.declared.items.Item.TheVariants.{Reset, Protect, Sense, Read, Drain, Ask, Attested, Denied, Vouch, Open, Take, Out, Raw, Done, Packet, Forged, Busy, Skip, Budget}
use Rattle.sx_model.specs.State.{Model, Present, Reading, Standing, FIELDS, power_on, contains}
use Rattle.sx_mean.specs.declared.apps.Part.{Part}
use Rattle.sx_mean.specs.declared.apps.App.{App}
use Rattle.sx_mean.specs.View.{app_as, part_as}
use Rattle.sx_model.specs.Counted.{CountsWithin}

-- the boots and the number of asks stay
record Kept (s t : Model) : Type 0 where
  boots : t.boots ≡ s.boots
  asks : t.asks ≡ s.asks

same : (s : Model) → Kept s s
same s = record { boots = refl; asks = refl }

both : (s t u : Model) → Kept s t → Kept t u → Kept s u
both s t u a b = record { boots = b.boots ∙ a.boots; asks = b.asks ∙ a.asks }

if_keeps : (s : Model) (b : Bool) (o : Option Model) → Kept s (unwrap_or o s) → Kept s (unwrap_or (if_so b o) s)
if_keeps s true o h = h
if_keeps s false o h = same s

then_keeps : {A : Type 0} → (s : Model) (o : Option A) (f : A → Option Model) → ((x : A) → Kept s (unwrap_or (f x) s)) → Kept s (unwrap_or (o >>? f) s)
then_keeps s None f h = same s
then_keeps s (Some x) f h = h x

module_keeps : (s : Model) (m : ℕ) (change : Standing → Option Standing) → Kept s (unwrap_or (on_module s m change) s)
module_keeps s m change = then_keeps s (at_index s.modules m change) (λ xs. Some (record s { modules = xs })) (λ xs. record { boots = refl; asks = refl })

device_keeps : (s : Model) (d : ℕ) (change : Reading → Option Reading) → Kept s (unwrap_or (on_device s d change) s)
device_keeps s d change = then_keeps s (at_index s.devices d change) (λ rs. Some (record s { devices = rs })) (λ rs. record { boots = refl; asks = refl })

reacted_keeps : (tree : ModuleTree) (es : List End) (e : SourceEvent) (s : Model) (m : ℕ) (p : Present) → Kept s (reacted tree es e s m p)
unfolding reacted
reacted_keeps tree es e s m p =
    let f = flow_of tree es e p s.sent in
    let sent : Model = record s { sent = f.sent } in
    let put : Kept sent (with_module sent m (after_event tree e f p)) = module_keeps sent m (puts (after_event tree e f p)) in
    record { boots = put.boots; asks = put.asks }

-- with these counts one more item is counted
grown : (s t : Model) (n : ℕ) → Kept s t → CountsWithin s n → CountsWithin t (n + 1)
grown s t n k h =
    let boots : All (λ b. b ≤ n + 1) s.boots = All-weaker (λ b. b ≤ n) (λ b. b ≤ n + 1) (λ b le. omega arith) s.boots h.boots in
    let was : s.asks ≤ n = h.asks in
    let is : t.asks ≡ s.asks = k.asks in
    record { boots = subst (λ bs. All (λ b. b ≤ n + 1) bs) (sym k.boots) boots; asks = omega arith }

index_le : (ns : List ℕ) (i n : ℕ) → All (λ b. b ≤ n) ns → slice_index ns i ≤ n
index_le ns i n h =
    elim (slice_get_cases ns i).1 [
      | inl w ↦ All-get_or (λ b. b ≤ n) ns i 0 w.1 h
      | inr w ↦
          let none : slice_index ns i ≡ 0 = sym (unwrap_or-slice_get ns i 0) ∙ ap (λ o. unwrap_or o 0) w.1 in
          omega arith
    ]

reset_counted : (app : AppTree) (s : Model) (n boot : ℕ) (b : Bool) → CountsWithin s n →
    CountsWithin (unwrap_or (if_so b (Some (record s { boots = raised_at s.boots boot; devices = stale_at boot app.devices s.devices; modules = absent_at boot app.parts s.modules }))) s) (n + 1)
reset_counted app s n boot false h = grown s s n (same s) h
reset_counted app s n boot true h =
    let more : All (λ b. b ≤ n + 1) s.boots = All-weaker (λ b. b ≤ n) (λ b. b ≤ n + 1) (λ b le. omega arith) s.boots h.boots in
    let was : s.asks ≤ n = h.asks in
    let old : slice_index s.boots boot ≤ n = index_le s.boots boot n h.boots in
    record {
      boots = All-set (λ b. b ≤ n + 1) s.boots boot (slice_index s.boots boot + 1) (omega arith) more;
      asks = omega arith;
    }

asked_counted : (s : Model) (n : ℕ) (o : Option (List Standing)) → CountsWithin s n →
    CountsWithin (unwrap_or ((o >>? (λ xs. Some (record s { modules = xs }))) >>? (λ t. Some (record t { asks = t.asks + 1 }))) s) (n + 1)
asked_counted s n None h = grown s s n (same s) h
asked_counted s n (Some xs) h =
    let more : All (λ b. b ≤ n + 1) s.boots = All-weaker (λ b. b ≤ n) (λ b. b ≤ n + 1) (λ b le. omega arith) s.boots h.boots in
    let was : s.asks ≤ n = h.asks in
    record { boots = more; asks = omega arith }

ask_counted : (s : Model) (n m a : ℕ) (b : Bool) → CountsWithin s n →
    CountsWithin (unwrap_or (if_so b (on_module s m (opens_ask a) >>? (λ t. Some (record t { asks = t.asks + 1 })))) s) (n + 1)
ask_counted s n m a false h = grown s s n (same s) h
ask_counted s n m a true h = asked_counted s n (at_index s.modules m (opens_ask a)) h

attested_keeps : (s : Model) (m b : ℕ) (epochs : List ℕ) (o : Option (List Standing)) →
    Kept s (unwrap_or ((o >>? (λ xs. Some (record s { modules = xs }))) >>? (λ t. Some (record t { epochs = epochs }))) s)
attested_keeps s m b epochs None = same s
attested_keeps s m b epochs (Some xs) = record { boots = refl; asks = refl }

read_keeps : (app : AppTree) (s : Model) (m d v : ℕ) (q : PartTree) → Kept s (unwrap_or (reads_from app s m q d v) s)
read_keeps app s m d v q =
    if_keeps s (is_readable app d v (slice_get s.devices d)) _ (then_keeps s (slice_get s.modules m >>? idle) _ (λ p.
    let t = reacted q.tree (ends_of app m) (event.Sample v) s m p in
    both s t (with_stale d t) (reacted_keeps q.tree (ends_of app m) (event.Sample v) s m p) (device_keeps t d staled)))

take_keeps : (app : AppTree) (s : Model) (m c i v input : ℕ) (q : PartTree) → Kept s (unwrap_or (takes_at app s m q c i input v) s)
take_keeps app s m c i v input q =
    then_keeps s (slice_get s.modules m >>? idle) _ (λ p. then_keeps s (takes_present c i (ends_of app m) p) _ (λ next.
    reacted_keeps q.tree (ends_of app m) (event.Input input v) s m next))

done_keeps : (app : AppTree) (s : Model) (m status k : ℕ) (waiting b : Bool) →
    Kept s (unwrap_or (if b then on_module s m (on_present (finishes k)) else if_so (is_refused status k waiting (slice_get s.modules m)) (Some s)) s)
done_keeps app s m status k waiting true = module_keeps s m (on_present (finishes k))
done_keeps app s m status k waiting false = if_keeps s (is_refused status k waiting (slice_get s.modules m)) (Some s) (same s)

sense_keeps : (s : Model) (d v : ℕ) (b : Bool) → Kept s (unwrap_or (state_if b (with_device s d (record { value = v; fresh = true }))) s)
sense_keeps s d v true = record { boots = refl; asks = refl }
sense_keeps s d v false = same s

raw_keeps : (s : Model) (b : Bool) → Kept s (unwrap_or (state_if b s) s)
raw_keeps s true = same s
raw_keeps s false = same s

pub counted_more : (app : AppTree) (s : Model) (item : Item) (n : ℕ) → CountsWithin s n → CountsWithin (unwrap_or (steps app s item) s) (n + 1)
counted_more app s (Reset boot cause) n h = reset_counted app s n boot (nat_lt boot (length s.boots)) h
counted_more app s (Protect node None) n h = grown s s n (same s) h
counted_more app s (Protect node (Some m)) n h =
    grown s _ n (then_keeps s (slice_get app.parts m) _ (λ q. if_keeps s (q.node == node) _ (module_keeps s m (protects q.tree (ends_of app m))))) h
counted_more app s (Sense d v) n h = grown s _ n (then_keeps s (slice_get app.devices d) _ (λ w. sense_keeps s d v (is_sensor w.kind))) h
counted_more app s (Read m v) n h = grown s _ n (then_keeps s (slice_get app.parts m) _ (λ q. then_keeps s q.device _ (λ d. read_keeps app s m d v q))) h
counted_more app s (Drain d) n h = grown s _ n (device_keeps s d (takes_fresh (kind_is is_sensor (slice_get app.devices d) && is_undriven app.parts s.modules d))) h
counted_more app s (Ask m a) n h = ask_counted s n m a (a == s.asks) h
counted_more app s (Attested m b) n h =
    grown s _ n (then_keeps s (renewal app.links s m b) _ (λ epochs. attested_keeps s m b epochs (at_index s.modules m (accepts b epochs)))) h
counted_more app s (Denied m) n h = grown s s n (same s) h
counted_more app s (Vouch m a) n h = grown s _ n (then_keeps s (slice_get app.parts m) _ (λ q. then_keeps s (slice_get s.boots q.node) _ (λ boot. module_keeps s m (vouches a boot)))) h
counted_more app s (Open m c side epoch) n h =
    grown s _ n (then_keeps s (slice_get app.parts m) _ (λ q. then_keeps s (slice_get s.boots q.node) _ (λ boot.
    module_keeps s m (opens_standing boot (slice_index s.epochs c) c side epoch (ends_of app m))))) h
counted_more app s (Take m c i v) n h =
    grown s _ n (then_keeps s (slice_get app.parts m) _ (λ q. then_keeps s (slice_get app.links c) _ (λ l.
    if_keeps s (contains (word_at s.sent c i) v) _ (take_keeps app s m c i v l.input q)))) h
counted_more app s (Out m v) n h = grown s _ n (module_keeps s m (on_present (writes_present v))) h
counted_more app s (Raw d v) n h = grown s _ n (raw_keeps s (kind_is (λ k. not (is_sensor k)) (slice_get app.devices d) && is_undriven app.parts s.modules d)) h
counted_more app s (Done m status k) n h = grown s _ n (then_keeps s (slice_get app.parts m) _ (λ q. done_keeps app s m status k (waits app s.devices q.device) (status == 1))) h
counted_more app s (Packet k len) n h = grown s s n (same s) h
counted_more app s (Forged m) n h = grown s s n (same s) h
counted_more app s (Busy node) n h = grown s s n (same s) h
counted_more app s (Skip node) n h = grown s s n (same s) h
counted_more app s (Budget node) n h = grown s s n (same s) h

-- a value for each part, also where the parts are seen as data
same_modules : (x : Standing) (parts : List Part) → map (λ q. x) parts ≡ map (λ q. x) (map part_as parts)
same_modules x [] = refl
same_modules x (q ∷ parts) = ap (λ xs. x ∷ xs) (same_modules x parts)

-- at power-on nothing is counted
pub none_counted : (app : AppTree) → CountsWithin (power_on app) 0
none_counted app = record { boots = All-replicate (λ b. b ≤ 0) app.nodes 0 (omega arith); asks = omega arith }

-- the state of these parts is that of power-on
pub started : (app : App) (boots : List ℕ) (devices : List Reading) (modules : List Standing) (epochs : List ℕ) (sent : List (List ℕ)) →
    boots ≡ replicate app.nodes 0 → devices ≡ map (λ d. record { value = 0; fresh = false }) app.devices.items →
    modules ≡ map (λ q. record { present = None; asked = None; vouched = []; attested = None }) app.parts.items →
    epochs ≡ map (λ l. 0) app.links.items → sent ≡ replicate FIELDS [] →
    record { boots = boots; devices = devices; modules = modules; epochs = epochs; sent = sent; asks = 0 } ≡ power_on (app_as app)
started app boots devices modules epochs sent a b c d e =
    let absent : Standing = record { present = None; asked = None; vouched = []; attested = None } in
    let f : modules ≡ map (λ q. absent) (map part_as app.parts.items) = c ∙ same_modules absent app.parts.items in
    rw (a, b, f, d, e) refl
