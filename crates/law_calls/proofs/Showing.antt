-- What the marks of a handler's acts show.
use Rattle.std.proofs.Common.{◌≡◌, ℕ, ◌+◌, ◌&&◌, Bool, true, false, if◌then◌else◌, List, [], ◌∷◌, ◌++◌, map, Some, refl, sym, ap, ◌∙◌, subst}
use Rattle.std.specs.Prelude.{nat_lt, slice_get, option_and_then}
use Rattle.std.proofs.lemmas.Bool.{eq-eqb}
use Rattle.std.proofs.lemmas.List.{append-nil, append_assoc}
use Rattle.sx_mean.specs.declared.events.End.{End}
use Rattle.sx_mean.specs.declared.events.Act.{Act}
use Rattle.sx_mean.specs.declared.events.Act.TheVariants.{Send, Emit}
use Rattle.sx_mean.specs.Application.{AppTree, PartTree}
use Rattle.sx_mean.specs.Ends.{is_sending}
use Rattle.sx_bus.specs.declared.devices.Window.{Window}
use Rattle.sx_trace.specs.declared.items.Item.TheVariants as item
use Rattle.spec_invocation.specs.Protocol.{last_number}
use Rattle.spec_invocation.specs.Setup.{Setup}
use Rattle.spec_invocation.specs.ModuleState.{EndState, end_of}
use Rattle.spec_invocation.specs.Marks.{Mark, Wrapped, Unwrapped, Sampled, Actuated}
use Rattle.spec_run.specs.Setting.{device_number}
use Rattle.sx_ledger.specs.declared.entry.Maker.TheVariants as maker
use Rattle.sx_ledger.specs.Made.{Made, NO_TARGET}
use Rattle.spec_run.specs.Ledger.{made_entry}
use Rattle.spec_run.specs.Observation.{Observed, is_driver}
use Rattle.spec_run.proofs.steps.Sends.{Emits}
use Rattle.law_invocation.specs.Effect.{nothing, also, one_packet, packet_made, packets_made, emit_marks, acts_made}
use Rattle.law_invocation.specs.Gives.{index_in, own_device}
use Rattle.law_calls.specs.Shown.{marks_observed}
use Rattle.law_calls.specs.FourCalls.{emitted, entries_of}
use Rattle.law_calls.proofs.Observing.{observed_append}
use Rattle.sx_model.specs.State.{contains}

pub marks_entries : (m : ℕ) (xs ys : List Mark) → entries_of m (xs ++ ys) ≡ entries_of m xs ++ entries_of m ys
marks_entries m [] ys = refl
marks_entries m (Wrapped header body own ∷ xs) ys = ap (λ (r : List Made). made_entry (maker.Module m) NO_TARGET 0 header body ∷ r) (marks_entries m xs ys)
marks_entries m (Unwrapped header body own ∷ xs) ys = marks_entries m xs ys
marks_entries m (Sampled k v ∷ xs) ys = marks_entries m xs ys
marks_entries m (Actuated k v ∷ xs) ys = marks_entries m xs ys

outs_append : (m : ℕ) (xs ys : List ℕ) → map (λ u. item.Out m u) (xs ++ ys) ≡ map (λ u. item.Out m u) xs ++ map (λ u. item.Out m u) ys
outs_append m [] ys = refl
outs_append m (x ∷ xs) ys = ap (λ r. item.Out m x ∷ r) (outs_append m xs ys)

module _ (app : AppTree) (n m boot : ℕ) where
  -- these marks show these values put out, and add the entries of their event packets
  abbrev pub Shows : List Mark → List ℕ → Type 0
  Shows ms vs = (ledger : List Made) → marks_observed app n m boot ms ledger ≡ record { items = map (λ u. item.Out m u) vs; ledger = ledger ++ entries_of m ms }

  shows_none : Shows [] []
  shows_none ledger = ap (λ l. record { items = []; ledger = l }) (sym (append-nil ledger))

  shows_on : (xs ys : List Mark) (us vs : List ℕ) → Shows xs us → Shows ys vs → Shows (xs ++ ys) (us ++ vs)
  shows_on xs ys us vs f g ledger =
      let one = ledger ++ entries_of m xs in
      observed_append app n m boot xs ys ledger
      ∙ ap (λ (o : Observed). let r = marks_observed app n m boot ys o.ledger in record { items = o.items ++ r.items; ledger = r.ledger }) (f ledger)
      ∙ ap (λ (r : Observed). record { items = map (λ u. item.Out m u) us ++ r.items; ledger = r.ledger }) (g one)
      ∙ ap (λ is. record { items = is; ledger = one ++ entries_of m ys }) (sym (outs_append m us vs))
      ∙ ap (λ l. record { items = map (λ u. item.Out m u) (us ++ vs); ledger = l }) (append_assoc ledger (entries_of m xs) (entries_of m ys) ∙ ap (λ es. ledger ++ es) (sym (marks_entries m xs ys)))

  module _ (su : Setup) where
    packet_shows : (v k : ℕ) (ends : List EndState) → Shows (packet_made su v k ends).marks []
    packet_shows v k ends = go ((end_of ends k).is_open && nat_lt (end_of ends k).number last_number)
      where
        go : (b : Bool) → Shows (if b then one_packet su v k (end_of ends k) ends else nothing ends).marks []
        go true ledger = refl
        go false ledger = shows_none ledger

    packets_show : (output v k : ℕ) (es : List End) (ends : List EndState) → Shows (packets_made su output v k es ends).marks []
    packets_show output v k [] ends = shows_none
    packets_show output v k (e ∷ es) ends = go (is_sending output e.side e.port) (packets_show output v (k + 1) es)
      where
        go : (b : Bool) → ((x : List EndState) → Shows (packets_made su output v (k + 1) es x).marks [])
            → Shows (if b then also (packet_made su v k ends) (packets_made su output v (k + 1) es) else packets_made su output v (k + 1) es ends).marks []
        go true f = shows_on (packet_made su v k ends).marks (packets_made su output v (k + 1) es (packet_made su v k ends).ends).marks [] [] (packet_shows v k ends) (f (packet_made su v k ends).ends)
        go false f = f ends

    -- a write of the module's driver
    emit_shows : (q : PartTree) (v k : ℕ) → slice_get app.parts m ≡ Some q → q.device ≡ Some (device_number app n k) → Shows (Actuated k v ∷ []) (v ∷ [])
    emit_shows q v k part driven ledger =
        let d = device_number app n k in
        let mine : is_driver app (Some m) d ≡ true =
        ap (λ o. contains (option_and_then (λ (q : PartTree). q.device) o) d) part ∙ ap (λ o. contains o d) driven ∙ eq-eqb d d refl in
        ap (λ (b : Bool). record { items = (if b then item.Out m v else item.Raw d v) ∷ []; ledger = ledger }) mine
        ∙ ap (λ l. record { items = item.Out m v ∷ []; ledger = l }) (sym (append-nil ledger))

    pub acts_show : (q : PartTree) (devices : List Window) (acts : List Act) (ends : List EndState) → slice_get app.parts m ≡ Some q → Emits app n q su devices acts
        → Shows (acts_made su (own_device su devices) acts ends).marks (emitted acts)
    acts_show q devices [] ends part em = shows_none
    acts_show q devices (Send output v ∷ acts) ends part em =
        let device = own_device su devices in
        let d = packets_made su output v 0 su.ends ends in
        shows_on d.marks (acts_made su device acts d.ends).marks [] (emitted acts) (packets_show output v 0 su.ends ends) (acts_show q devices acts d.ends part em)
    acts_show q devices (Emit v ∷ acts) ends part em =
        let device = own_device su devices in
        let k = em.0.0 in
        let same : device ≡ Some k = ap index_in em.0.2 in
        shows_on (emit_marks device v) (acts_made su device acts ends).marks (v ∷ []) (emitted acts)
        (subst (λ i. Shows (emit_marks i v) (v ∷ [])) (sym same) (emit_shows q v k part em.0.3)) (acts_show q devices acts ends part em.1)
