-- What a call at one of the four entries does in a world.
use Rattle.std.proofs.Common.{◌≡◌, ℕ, ◌+◌, ◌*◌, ◌%◌, ◌/◌, ◌<◌, inl, ◌==◌, Bool, true, if◌then◌else◌, List, [], ◌∷◌, ◌++◌, length, map, Some, refl, sym, ap, ◌∙◌, subst, arith}
use Rattle.std.specs.Prelude.{option_and_then}
use Rattle.std.proofs.lemmas.Bool.{and_from, and_parts, eq-eqb, cond-true}
use Rattle.std.proofs.lemmas.List.{append-nil}
use Rattle.sx_lang.specs.declared.sides.Side.{Side}
use Rattle.sx_lang.specs.declared.sides.Side.TheVariants.{From, To}
use Rattle.sx_mean.specs.declared.events.SourceEvent.{SourceEvent}
use Rattle.sx_mean.specs.declared.events.SourceEvent.TheVariants as event
use Rattle.sx_mean.specs.Application.{AppTree, PartTree}
use Rattle.sx_mean.specs.Ends.{ends_of}
use Rattle.sx_mean.specs.React.{react}
use Rattle.sx_rules.specs.declared.section.Layout.{Layout}
use Rattle.sx_bus.specs.declared.devices.Window.{Window}
use Rattle.sx_bus.specs.Devices.{cleared}
use Rattle.sx_trace.specs.declared.items.Item.{Item}
use Rattle.sx_trace.specs.declared.items.Item.TheVariants as item
use Rattle.sx_ledger.specs.declared.entry.Maker.TheVariants as maker
use Rattle.spec_invocation.specs.ModuleState.{EndState, state_of, end_of, with_end, link_of, epoch_of}
use Rattle.spec_invocation.specs.Windows.{two}
use Rattle.spec_invocation.specs.Progress.{Progress, Returns}
use Rattle.spec_invocation.specs.Acts.{event_header}
use Rattle.spec_invocation.specs.Invocation.{invoke}
use Rattle.sx_image.specs.Image.{private_bytes, public_bytes, progress_at}
use Rattle.spec_run.specs.Setting.{Setting, device_number, is_at_site, windows_at}
use Rattle.sx_wire.specs.Headers.{is_ask, challenge_in, set_key_header}
use Rattle.sx_deployer.specs.Granting.{side_number}
use Rattle.sx_ledger.specs.Made.{Made, NO_TARGET}
use Rattle.spec_invocation.specs.Protocol.{all_done, set_key_entry, attest_entry, input_entry, sample_entry}
use Rattle.spec_run.specs.Ledger.{made_entry, is_made}
use Rattle.spec_run.specs.Observation.{Observed, is_driver, has_end, sender_of, unless_made, has_wrapped, has_unwrapped}
use Rattle.spec_run.specs.State.{World}
use Rattle.spec_run.specs.Acts.{with_node}
use Rattle.spec_run.specs.Law.{IsSoundSetting, IsDeployedModule}
use Rattle.spec_run.proofs.tie.Lists.{some_inj}
use Rattle.spec_run.proofs.tie.Tied.{NodeTied, IsModule}
use Rattle.spec_run.proofs.tie.Ends.{found_at, has_end-found}
use Rattle.spec_run.proofs.steps.Sends.{Emits}
use Rattle.spec_run.proofs.steps.Fits.{drivers_fit}
use Rattle.law_invocation.specs.Effect.{acts_made, numbered}
use Rattle.law_invocation.specs.Gives.{InvocationGives, beginning, index_in, low_call, low_input, low_output, own_device}
use Rattle.law_invocation.proofs.Attest.{attest_returns}
use Rattle.law_invocation.proofs.Inputs.{input_returns}
use Rattle.law_invocation.proofs.Samples.{sample_returns}
use Rattle.law_calls.specs.Shown.{marks_observed}
use Rattle.law_calls.specs.Calls.{Callee, IsCallable, setup_of, state_at}
use Rattle.law_calls.specs.FourCalls.{CallEffect, CallDoes, emitted, entries_of, AttestCalled, InputCalled, KeyCalled, SampleCalled}
use Rattle.law_calls.proofs.Calling.{call_returns}
use Rattle.law_calls.proofs.KeyGiving.{set_key_returns}
use Rattle.law_calls.proofs.Runner.{own_site}
use Rattle.law_calls.proofs.Showing.{Shows, acts_show}
use Rattle.sx_model.specs.State.{contains}

-- a call whose invocation gives this, and whose marks show that
does : (set : Setting) (w : World) (c : Callee) (e : ℕ) (devices : List Window) (effect : CallEffect)
    → IsSoundSetting set → IsCallable set w c → e < 65536
    → InvocationGives (setup_of set c) e (beginning (state_at set c) c.node.mem c.node.devices) effect.state devices effect.marks effect.pieces
    → marks_observed set.app c.site.node c.number c.node.boot effect.marks w.ledger ≡ record { items = effect.items; ledger = w.ledger ++ effect.entries }
    → CallDoes set w c e effect
does set w c e devices effect sound h el g shown =
    let su = setup_of set c in
    let p : Progress = record { state = effect.state; mem = g.mem; devices = devices; marks = effect.marks; pieces = effect.pieces } in
    let same : progress_at su c.node ≡ beginning (state_at set c) c.node.mem c.node.devices =
    ap (λ (l : Layout). beginning (state_of c.part.tree (ends_of set.app c.number) (private_bytes l c.node.mem)) c.node.mem c.node.devices) h.stands.layout in
    let returns : invoke su (low_call e) (progress_at su c.node) ≡ Returns all_done p = ap (λ z. invoke su (low_call e) z) same ∙ g.is in
    let r = call_returns set w c e low_input low_output all_done p sound h el (omega arith) (omega arith) returns in
    record {
      mem = g.mem;
      devices = devices;
      after = r.after;
      returned = r.returned;
      steps = r.steps;
      few = r.few;
      is = r.is
          ∙ ap (λ (o : Observed). record { world = with_node w c.site.node r.after o.ledger (w.steps + r.steps); items = o.items ++ item.Done c.number all_done (length effect.pieces) ∷ [] }) shown;
    }

-- an ask
pub attest_called : AttestCalled
attest_called set w c ask sound h low bytes is =
    let m = c.number in
    let entry = made_entry (maker.Module m) NO_TARGET c.node.boot ask [] in
    let kind = (and_parts (length ask == 18) _ is).1 in
    let vouched : has_wrapped m c.node.boot ask [] true w.ledger ≡ record { items = item.Vouch m (challenge_in ask) ∷ []; ledger = w.ledger ++ entry ∷ [] } =
    cond-true _ _ _ (and_from (is_ask ask) true is refl) in
    does set w c attest_entry c.node.devices _ sound h (omega arith)
    (attest_returns (setup_of set c) (state_at set c) c.node.mem c.node.devices ask low bytes kind)
    (ap (λ (o : Observed). record { items = o.items ++ []; ledger = o.ledger }) vouched)

-- a set-key packet
key_shows : (app : AppTree) (m boot link epoch : ℕ) (key : List ℕ) (ledger : List Made) (side : Side) → has_end app m link side ≡ true
    → is_made ledger (made_entry maker.Deployer m boot (set_key_header link epoch (side_number side)) key) ≡ true
    → has_unwrapped app m boot (set_key_header link epoch (side_number side)) key ledger ≡ item.Open m link side epoch ∷ []
key_shows app m boot link epoch key ledger From h made = cond-true _ _ _ h ∙ ap (λ b. unless_made (Some m) b (item.Open m link From epoch)) made
key_shows app m boot link epoch key ledger To h made = cond-true _ _ _ h ∙ ap (λ b. unless_made (Some m) b (item.Open m link To epoch)) made

pub key_called : KeyCalled
key_called set w c link epoch k side e key sound h low lt len found closed bytes made =
    let m = c.number in
    let ends = ends_of set.app m in
    let header = set_key_header link epoch (side_number side) in
    let has : has_end set.app m link side ≡ true = has_end-found link side ends k e (found_at link side ends k e found) in
    let opens = key_shows set.app m c.node.boot link epoch key w.ledger side has made in
    does set w c set_key_entry c.node.devices _ sound.sound h (omega arith)
    (set_key_returns (setup_of set c) (state_at set c) c.node.mem c.node.devices link epoch k side e key low sound.tag lt len found closed bytes)
    (ap (λ is. record { items = is ++ []; ledger = w.ledger }) opens ∙ ap (λ l. record { items = item.Open m link side epoch ∷ []; ledger = l }) (sym (append-nil w.ledger)))

-- what its driver is
module _ (set : Setting) (w : World) (c : Callee) (sound : IsSoundSetting set) (h : IsCallable set w c) where
  dep : IsDeployedModule set c.number c.part c.site
  dep = sound.deployed c.number c.part c.site h.part h.sited

  node : NodeTied set c.part.node c.node c.node.boot
  node = record {
    windows = h.windows ∙ ap (λ n. windows_at n set.app.devices set.places) dep.node;
    node = h.node;
    runner = inl h.idle;
    count = refl;
  }

  is_module : IsModule c.part.node c.site c.node c.section
  is_module = record {
    lives = h.stands.lives;
    here = ap (λ n. is_at_site n c.node.mem c.section c.site) (sym dep.node) ∙ own_site c.site c.node.mem c.section h.stands.layout h.stands.provider
        (ap (λ (l : Layout). public_bytes l c.node.mem) h.stands.layout ∙ h.stands.text);
  }

  emits : (e : SourceEvent) (cells : List ℕ) → Emits set.app c.site.node c.part (setup_of set c) c.node.devices (react c.part.tree e cells).acts
  emits e cells =
      subst (λ n. Emits set.app n c.part (setup_of set c) c.node.devices (react c.part.tree e cells).acts) (sym dep.node)
      ((drivers_fit set sound c.number c.part c.site c.node c.section c.node.boot dep node is_module).0 c.node.devices refl e cells)

-- an event packet
input_shows : (app : AppTree) (m boot i v : ℕ) (x : EndState) (ledger : List Made) → has_end app m (link_of x.field) To ≡ true
    → is_made ledger (made_entry (maker.Module (sender_of app (link_of x.field))) NO_TARGET 0 (event_header (record x { number = i })) (two v)) ≡ true
    → has_unwrapped app m boot (event_header (record x { number = i })) (two v) ledger ≡ item.Take m (link_of x.field) (65536 * epoch_of x.field + i) v ∷ []
input_shows app m boot i v x ledger h made =
    let link = link_of x.field in
    let n : i % 256 + 256 * (i / 256) ≡ i = omega arith in
    let u : v % 256 + 256 * (v / 256) ≡ v = omega arith in
    cond-true _ _ _ h
    ∙ ap (λ b. unless_made (Some m) b (item.Take m link (65536 * epoch_of x.field + (i % 256 + 256 * (i / 256))) (v % 256 + 256 * (v / 256)))) made
    ∙ ap (λ j. item.Take m link (65536 * epoch_of x.field + j) (v % 256 + 256 * (v / 256)) ∷ []) n
    ∙ ap (λ j. item.Take m link (65536 * epoch_of x.field + i) j ∷ []) u

pub input_called : InputCalled
input_called set w c k i v e sound h low few found opens above below bytes made =
    let m = c.number in
    let n = c.site.node in
    let boot = c.node.boot in
    let su = setup_of set c in
    let st = state_at set c in
    let x = end_of st.ends k in
    let link = link_of x.field in
    let taken = ends_of set.app m in
    let done = react c.part.tree (event.Input e.port v) st.cells in
    let d = acts_made su (own_device su c.node.devices) done.acts (with_end st.ends k (numbered x (i + 1))) in
    let take : Item = item.Take m link (65536 * epoch_of x.field + i) v in
    let has : has_end set.app m link To ≡ true = has_end-found link To taken k e (found_at link To taken k e found) in
    let took = input_shows set.app m boot i v x w.ledger has made in
    let rest = acts_show set.app n m boot su c.part c.node.devices done.acts (with_end st.ends k (numbered x (i + 1))) h.part (emits set w c sound.sound h (event.Input e.port v) st.cells) w.ledger in
    let o = marks_observed set.app n m boot d.marks w.ledger in
    does set w c input_entry c.node.devices _ sound.sound h (omega arith)
    (input_returns su st c.node.mem c.node.devices k i v e low sound.tag few found opens above below bytes)
    (ap (λ is. record { items = is ++ o.items; ledger = o.ledger }) took
    ∙ ap (λ (r : Observed). record { items = take ∷ r.items; ledger = r.ledger }) rest)

-- a fresh sensor
pub sample_called : SampleCalled
sample_called set w c k window sound h low few driver own fresh =
    let m = c.number in
    let n = c.site.node in
    let boot = c.node.boot in
    let su = setup_of set c in
    let st = state_at set c in
    let done = react c.part.tree (event.Sample window.value) st.cells in
    let d = acts_made su (Some k) done.acts st.ends in
    let sensor = device_number set.app n k in
    let dep = sound.sound.deployed m c.part c.site h.part h.sited in
    let fits = (drivers_fit set sound.sound m c.part c.site c.node c.section boot dep (node set w c sound.sound h) (is_module set w c sound.sound h)).1 driver in
    let one : fits.0 ≡ k = ap (λ (z : ℕ × Window). z.0) (some_inj (fits.0, fits.1) (k, window) (sym fits.2 ∙ own)) in
    let driven : c.part.device ≡ Some sensor =
    fits.3.device ∙ ap (λ j. Some (device_number set.app j fits.0)) (sym dep.node) ∙ ap (λ j. Some (device_number set.app n j)) one in
    let mine : is_driver set.app (Some m) sensor ≡ true =
    ap (λ o. contains (option_and_then (λ (q : PartTree). q.device) o) sensor) h.part ∙ ap (λ o. contains o sensor) driven ∙ eq-eqb sensor sensor refl in
    let index : own_device su c.node.devices ≡ Some k = ap index_in own in
    let em = emits set w c sound.sound h (event.Sample window.value) st.cells in
    let rest : marks_observed set.app n m boot d.marks w.ledger ≡ record { items = map (λ u. item.Out m u) (emitted done.acts); ledger = w.ledger ++ entries_of m d.marks } =
    subst (λ o. Shows set.app n m boot (acts_made su o done.acts st.ends).marks (emitted done.acts)) index (acts_show set.app n m boot su c.part c.node.devices done.acts st.ends h.part em) w.ledger in
    let o = marks_observed set.app n m boot d.marks w.ledger in
    does set w c sample_entry (cleared c.node.devices k) _ sound.sound h (omega arith)
    (sample_returns su st c.node.mem c.node.devices k window low sound.tag few driver own fresh)
    (ap (λ (b : Bool). record { items = (if b then item.Read m window.value else item.Drain sensor) ∷ o.items; ledger = o.ledger }) mine
    ∙ ap (λ (r : Observed). record { items = item.Read m window.value ∷ r.items; ledger = r.ledger }) rest)
