-- Entry 3: a reading of the module's sensor.
use Rattle.std.proofs.Common.{◌≡◌, ℕ, zero, suc, ◌+◌, ◌-◌, ◌%◌, ◌<◌, ◌≤◌, Bool, true, false, ◌==◌, List, [], ◌∷◌, ◌++◌, Option, Some, None, refl, sym, ap, ◌∙◌, subst, arith, cond}
use Rattle.std.specs.Prelude.{slice_get, if◌then◌else◌, All}
use Rattle.std.specs.List.{position_from}
use Rattle.std.proofs.lemmas.Bool.{true≢false, ne_eqb}
use Rattle.sx_lang.specs.declared.tree.DeviceKind.{DeviceKind}
use Rattle.sx_lang.specs.declared.tree.DeviceKind.TheVariants.{Sensor}
use Rattle.sx_mean.specs.declared.events.SourceEvent.TheVariants as event
use Rattle.sx_mean.specs.Application.{declared_kind}
use Rattle.sx_mean.specs.Handlers.{number_of}
use Rattle.sx_bus.specs.declared.devices.Kind.TheVariants as kind
use Rattle.sx_bus.specs.declared.devices.Window.{Window}
use Rattle.sx_bus.specs.Devices.{cleared, with_changed, stale, on_word, HaveSamples}
use Rattle.spec_machine.specs.Memory.{word, put_word}
use Rattle.spec_machine.specs.Run.{device_of, found, with_window}
use Rattle.spec_invocation.specs.Protocol.{no_sample}
use Rattle.spec_invocation.specs.Windows.{out_window_size}
use Rattle.spec_invocation.specs.Setup.{Setup, Call}
use Rattle.spec_invocation.specs.Marks as mark
use Rattle.spec_invocation.specs.Marks.{Mark}
use Rattle.spec_invocation.specs.Windows.{is_bad_window}
use Rattle.spec_invocation.specs.Progress.{Progress, Returns, finished}
use Rattle.spec_invocation.specs.Acts.{handled, own_window}
use Rattle.spec_invocation.specs.Entries.{sample, sample_of, sample_read}
use Rattle.spec_invocation.specs.Devices.{HasDevices, Drives}
use Rattle.sx_ir.specs.Conf.{Conf}
use Rattle.sx_ir.specs.Meaning.{OperationResult, do_op, has_key_mark, sense, sensor_read, pushed}
use Rattle.sx_ir.specs.declared.ir.Ir.{Ir}
use Rattle.sx_ir.specs.declared.ir.Ir.TheVariants as ir
use Rattle.sx_ir.specs.declared.ir.IrOp.TheVariants as op
use Rattle.sx_stub.specs.Stub.{handled_by, is_fresh_code, refuse_unless, sample_code, sampled_code}
use Rattle.sx_stub.specs.Invokes.{ShowsCall, Ready, Invokes, HandlersDo}
use Rattle.sx_stub.proofs.Mem.{word-put_same, get-put_other, AllBytes-put_word}
use Rattle.sx_stub.proofs.Straight.{At, at, at_front, at_back}
use Rattle.sx_stub.proofs.Slots.{with_priv, shows_priv, kept_high}
use Rattle.sx_stub.proofs.Refuse.{goes_on, runs_on, unless_does, within}
use Rattle.sx_stub.proofs.Handling.{handles}
use Rattle.spec_machine.proofs.Lengths.{length-put_word}
use Rattle.spec_machine.proofs.Devices.{device_of_parts}

-- The module's device, before and after its sample was read.

slice_all : (P : Window → Type 0) (ws : List Window) (i : ℕ) (w : Window) → All P ws → slice_get ws i ≡ Some w → P w
slice_all P [] i w h e = absurd (none_some w e)
  where
    none_some : (w : Window) → ◌≡◌ {A = Option Window} None (Some w) → ⊥
    none_some w e = cc
slice_all P (x ∷ ws) zero w h e = subst P (some_same e) (h 0 x (omega arith))
  where
    some_same : ◌≡◌ {A = Option Window} (Some x) (Some w) → x ≡ w
    some_same e = cc
slice_all P (x ∷ ws) (suc i) w h e = slice_all P ws i w (λ k d p. h (suc k) d (omega (arith, p))) e

position_cleared : (a : ℕ) (ws : List Window) (k d : ℕ)
    → position_from (on_word a) k (with_changed stale ws d) ≡ position_from (on_word a) k ws
position_cleared a [] k d = refl
position_cleared a (w ∷ ws) k zero = refl
position_cleared a (w ∷ ws) k (suc d) = ap (λ (x : Option ℕ). cond (on_word a w) (Some k) x) (position_cleared a ws (k + 1) d)

slice_cleared : (ws : List Window) (d : ℕ) (w : Window) → slice_get ws d ≡ Some w
    → slice_get (with_changed stale ws d) d ≡ Some (stale w)
slice_cleared [] d w e = absurd (none_some e)
  where
    none_some : ◌≡◌ {A = Option Window} None (Some w) → ⊥
    none_some e = cc
slice_cleared (x ∷ ws) zero w e = ap (λ (y : Window). Some (stale y)) (some_same e)
  where
    some_same : ◌≡◌ {A = Option Window} (Some x) (Some w) → x ≡ w
    some_same e = cc
slice_cleared (x ∷ ws) (suc d) w e = slice_cleared ws d w e

device_cleared : (ws : List Window) (a d : ℕ) (w : Window) → device_of ws a ≡ Some (d, w)
    → device_of (cleared ws d) a ≡ Some (d, stale w)
device_cleared ws a d w h =
    let q = device_of_parts ws a d w h in
    ap (found (cleared ws d)) (position_cleared a ws 0 d ∙ q.0) ∙ ap (with_window d) (slice_cleared ws d w q.1)

module _ (s : Setup) (call : Call) (handle : ℕ → Conf → OperationResult) (given : ℕ
    → ℕ) (code : List Ir) (p : Progress) (c : Conf) (shows : ShowsCall s call p c) (none : p.pieces ≡ []) (back : c.back ≡ None) (outside : is_bad_window s call.output out_window_size ≡ false)
    (sensor : declared_kind s.tree.decls ≡ Some Sensor) (drives : Drives p.devices kind.Sensor s.section.layout) (samples : HaveSamples p.devices) (cost : ℕ)
    (does : HandlersDo s handle given code cost) (fresh : p.marks ≡ []) where
  abbrev dev : ℕ
  dev = drives.device

  abbrev win : Window
  win = drives.window

  small : win.value < 32768
  small = slice_all (λ (w : Window). w.value < 32768) p.devices dev win samples (device_of_parts p.devices s.section.layout.priv_from dev win drives.found).1

  event_word : (p : Progress) (c : Conf) (v q : ℕ) → ShowsCall s call p c → v < 65536
      → ShowsCall s call p (with_priv c (put_word c.priv 2 v) q [])
  event_word p c v q h lt = shows_priv s call p c (put_word c.priv 2 v) q [] h (length-put_word c.priv 2 v) (AllBytes-put_word c.priv 2 v lt h.bytes)
      (λ i kept. get-put_other c.priv 2 v i refl (kept_high i kept 2 (omega arith)) (kept_high i kept 3 (omega arith)))

  senses : (place : ℕ) → do_op s handle ir.Sense (at c place []) ≡ sensor_read (at c place []) dev win kind.Sensor
  senses place =
      ap (λ (x : List Window). sense (at c place []) (own_window s x)) shows.devices
      ∙ ap (sense (at c place [])) drives.found
      ∙ ap (sensor_read (at c place []) dev win) drives.kind

  still : HasDevices (cleared p.devices dev) (declared_kind s.tree.decls) s.section.layout
  still = subst (λ (x : Option DeviceKind). HasDevices (cleared p.devices dev) x s.section.layout) (sym sensor)
      (record {
        device = dev;
        window = stale win;
        found = device_cleared p.devices s.section.layout.priv_from dev win drives.found;
        at_start = drives.at_start;
        kind = drives.kind;
        alone = λ a lo hi. position_cleared a p.devices 0 dev ∙ drives.alone a lo hi;
      })

  pub sample_does : (place k : ℕ) → At code place (sample_code s.tree place) → cost + 300 ≤ k
      → Invokes s call handle given code (sample s call p) k (at c place [])
  sample_does place k a le =
      subst (λ (o : Option (ℕ × Window)). Invokes s call handle given code (sample_of s call o p) k (at c place [])) (sym drives.found)
      (by_fresh win.fresh refl (senses place))
    where
      by_fresh : (f : Bool) → win.fresh ≡ f
          → do_op s handle ir.Sense (at c place []) ≡ sensor_read (at c place []) dev win kind.Sensor
          → Invokes s call handle given code (sample_of s call (Some (dev, win)) p) k (at c place [])
      by_fresh false f d =
          let r = Returns no_sample p in
          let c1 = with_priv c (put_word c.priv 2 0) (place + 2) [] in
          let size = shows.size in
          let shows1 = event_word p c 0 (place + 2) shows (omega arith) in
          let e : word c1.priv 2 ≡ 0 = word-put_same c.priv 2 0 refl (omega (arith, size)) in
          subst (λ (b : Bool). Invokes s call handle given code (if b then finished (handled s call (event.Sample win.value) (sample_read (dev, win) p)) else Returns no_sample p) k (at c place []))
          (sym f)
          (goes_on s call handle given code r ir.Sense (at c place []) (at c (place + 1) (0 ∷ [])) k (cost + 290) a.0
          (d ∙ ap (λ (b : Bool). if b then pushed (record (at c place []) { devices = cleared c.devices dev; marks = c.marks ++ mark.Sampled dev win.value ∷ [] }) (0x8000 + win.value) else pushed
          (at c place []) 0) f) refl (omega (arith, le))
          (goes_on s call handle given code r (ir.Store 2) (at c (place + 1) (0 ∷ [])) (at c1 (place + 1 + 1) []) (cost + 290) (cost + 280) a.1.0 refl refl (omega arith)
          (subst (λ (x : ℕ). Invokes s call handle given code r (cost + 280) (at c1 x [])) (omega arith)
          (unless_does s call handle given code true is_fresh_code 8 (word c1.priv 2) c1 (place + 2) (place + 8) (cost + 280) (cost + 100) [] r p
          (at_front code (place + 2) (refuse_unless (place + 2) is_fresh_code 8) (sampled_code s.tree) (subst (λ (x : ℕ). At code x (refuse_unless (place + 2) is_fresh_code 8 ++ sampled_code s.tree))
          (omega arith) a.1.1)) refl (ap (λ (x : ℕ). x == 0) e) shows1 none (omega arith) (omega arith) (λ x. absurd (true≢false x))))))
      by_fresh true f d =
          let v = win.value in
          let p1 = sample_read (dev, win) p in
          let r = finished (handled s call (event.Sample v) p1) in
          let m = mark.Sampled dev v in
          let c0 = record c { devices = cleared c.devices dev; marks = c.marks ++ m ∷ [] } in
          let shows0 : ShowsCall s call p1 c0 = record {
            size = shows.size;
            bytes = shows.bytes;
            state = shows.state;
            mem = shows.mem;
            devices = ap
                (λ (x : List Window). cleared x dev) shows.devices;
            marks = ap (λ (x : List Mark). x ++ m ∷ []) shows.marks;
            entry = shows.entry;
            input = shows.input;
            output = shows.output;
            back =
                shows.back;
          } in
          let c1 = with_priv c0 (put_word c0.priv 2 (0x8000 + v)) (place + 2) [] in
          let size = shows.size in
          let shows1 = event_word p1 c0 (0x8000 + v) (place + 2) shows0 (omega (arith, small)) in
          let e : word c1.priv 2 ≡ 0x8000 + v = word-put_same c0.priv 2 (0x8000 + v) refl (omega (arith, size)) in
          let size1 = shows1.size in
          let c2 = with_priv c1 (put_word c1.priv 2 v) (place + 12) [] in
          let shows2 = event_word p1 c1 v (place + 12) shows1 (omega (arith, small)) in
          let all = sampled_code s.tree in
          let a2 : At code (place + 2) (refuse_unless (place + 2) is_fresh_code 8 ++ all) = subst (λ (x : ℕ). At code x (refuse_unless (place + 2) is_fresh_code 8 ++ all)) (omega arith) a.1.1 in
          let a3 = at_back code (place + 2) (place + 8) (refuse_unless (place + 2) is_fresh_code 8) all (omega arith) a2 in
          let ready : Ready s call (event.Sample v) p1 c2 = record {
            shows = shows2;
            value = word-put_same c1.priv 2 v refl (omega (arith, size1));
            pieces = none;
            unkeyed = ap (λ (l : List Mark). has_key_mark (l ++ m ∷ [])) (shows.marks ∙ fresh);
            stack = refl;
            back = back;
            window =
                outside;
            devices = still;
          } in
          subst (λ (b : Bool). Invokes s call handle given code (if b then finished (handled s call (event.Sample win.value) (sample_read (dev, win) p)) else Returns no_sample p) k (at c place []))
          (sym f)
          (goes_on s call handle given code r ir.Sense (at c place []) (at c0 (place + 1) ((0x8000 + v) ∷ [])) k (cost + 290) a.0
          (d ∙ ap (λ (b : Bool). if b then pushed (record (at c place []) { devices = cleared c.devices dev; marks = c.marks ++ mark.Sampled dev win.value ∷ [] }) (0x8000 + win.value) else pushed
          (at c place []) 0) f) refl (omega (arith, le))
          (goes_on s call handle given code r (ir.Store 2) (at c0 (place + 1) ((0x8000 + v) ∷ [])) (at c1 (place + 1 + 1) []) (cost + 290) (cost + 280) a.1.0 refl refl (omega arith)
          (subst (λ (x : ℕ). Invokes s call handle given code r (cost + 280) (at c1 x [])) (omega arith)
          (unless_does s call handle given code false is_fresh_code 8 (word c1.priv 2) c1 (place + 2) (place + 8) (cost + 280) (cost + 100) [] r p1
          (at_front code (place + 2) (refuse_unless (place + 2) is_fresh_code 8) all a2) refl (ap (λ (x : ℕ). x == 0) e
          ∙ ne_eqb (0x8000 + v) 0 (omega arith)) shows1 none (omega arith) (omega arith)
          (λ x. runs_on s call handle given code r (ir.Load 2 ∷ ir.Push 0x8000 ∷ ir.Op op.Sub ∷ []) c1 (place + 8) (place + 11) [] (v ∷ []) (cost + 100) (cost + 70) (a3.0, (a3.1.0, (a3.1.1.0, tt)))
          (ap (λ (x : ℕ). Some ((x + (65536 - 0x8000)) % 65536 ∷ [])) e ∙ ap (λ (x : ℕ). Some (x ∷ [])) (omega (arith, small))) (omega arith) (omega arith)
          (goes_on s call handle given code r (ir.Store 2) (at c1 (place + 11) (v ∷ [])) (at c2 (place + 11 + 1) []) (cost + 70) (cost + 60) (ap (slice_get code) (omega arith)
          ∙ a3.1.1.1.0) refl refl (omega arith)
          (subst (λ (x : ℕ). Invokes s call handle given code r (cost + 60) (at c2 x [])) (omega arith)
          (within s call handle given code r (cost + 60) (cost + 16) (at c2 (place + 12) []) (omega arith)
          (handles s call handle given code (event.Sample v) p1 c2 (place + 12) cost ready (λ x n. does (event.Sample v) x n)
          (subst (λ (x : ℕ). At code x (handled_by (number_of s.tree (event.Sample v)))) (omega arith) a3.1.1.1.1))))))))))
