use Rattle.std.proofs.Common.{◌∙◌, ℕ, [], ◌∷◌, ◌++◌, Vec, Global, ap, drop, get_or, arith}
use Rattle.sx_bus.specs.declared.devices.Kind.{Kind}
use Rattle.spec_run.specs.Setting.{windows_at}
use Rattle.command_world.proofs.Powering.{one_window, no_window, no_devices, no_places, all_windows}
use Rattle.command_world.proofs.nodes.places_at.Goals.{then-devices-i+in_ok-push, else-devices-i, then-devices-test+else-i-places, else-devices-test}
use Rattle.command_world.proofs.nodes.places_at.Goals as goal

pub devices-preserved : goal.devices-preserved
devices-preserved c = record {
  devices = omega (arith, c.devices-test.true);
  places = omega (arith, c.if-i-places.true);
  found = elim c.if-devices-i.branch [
    | then-devices-i+in_ok-push w ↦
        one_window c.args.number c.devices.i c.args.devices.now c.args.places.now _ 0 c.devices.found.items _ _ c.devices-test.true c.if-i-places.true w.if-devices-i.true
        (ap (λ (v : Vec (ℕ × Kind) Global). v.items) w.found-is ∙ w.in_ok-push.ensures.items
        ∙ ap (λ (k : Kind). c.devices.found.items ++ (get_or c.args.places.now c.devices.i 0, k) ∷ []) w.kind_of.ensures)
        c.devices.invariant.found
    | else-devices-i w ↦
        no_window c.args.number c.devices.i c.args.devices.now c.args.places.now _ 0 c.if-devices-i.found.items _ c.devices-test.true c.if-i-places.true w.if-devices-i.false
        (ap (λ (v : Vec (ℕ × Kind) Global). v.items ++ windows_at c.args.number (drop c.devices.i c.args.devices.now) (drop c.devices.i c.args.places.now)) w.found-is ∙ c.devices.invariant.found)
  ];
}

pub returns : goal.returns
returns c =
    elim c.devices-test.branch [
      | then-devices-test+else-i-places w ↦ all_windows _ _ _ c.devices.invariant.found (no_places c.args.number c.devices.i c.args.devices.now c.args.places.now w.if-i-places.false)
      | else-devices-test w ↦ all_windows _ _ _ c.devices.invariant.found (no_devices c.args.number c.devices.i c.args.devices.now c.args.places.now w.devices-test.false)
    ]
