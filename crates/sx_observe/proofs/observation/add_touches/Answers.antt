use Rattle.std.proofs.Common.{◌++◌, drop, get_or, arith, refl, sym, ap, ◌∙◌}
use Rattle.std.proofs.Math.ListN.{drop_of_length-le}
use Rattle.std.proofs.lemmas.List.{append-nil}
use Rattle.sx_mean.specs.View.{app_as}
use Rattle.spec_machine.specs.declared.kinds.Touch.TheVariants.{Quiet}
use Rattle.spec_run.specs.Observation.{touch_items}
use Rattle.sx_observe.proofs.Fronts.{comes_all, comes_front, front_same, touches_on}
use Rattle.sx_observe.proofs.observation.add_touches.Goals as goal
use Rattle.lemmas.proofs.Results.{on_any_err}

pub loop-touch-preserved : goal.loop-touch-preserved
loop-touch-preserved c =
    let app = app_as c.args.app.now in
    let ts = c.args.touches.now in
    let i = c.loop-touch.touch-index in
    touches_on app c.args.n c.args.runner ts i (get_or ts i Quiet) Quiet c.args.items.now.items c.loop-touch.items.items c.add_touch.new.items.items
    (touch_items app c.args.n c.args.runner ts) (omega (arith, c.loop-touch-test.true, c.loop-touch.auto.touch-index-end)) refl c.loop-touch.invariant c.in_ok-add_touch.ensures.ok

pub returns-in_err-add_touch-clause-front : goal.returns-in_err-add_touch-clause-front
returns-in_err-add_touch-clause-front c =
    let due = touch_items (app_as c.args.app.now) c.args.n c.args.runner in
    on_any_err c.from_residual.result
    (comes_front c.args.items.now.items c.loop-touch.items.items c.add_touch.new.items.items (due (drop c.loop-touch.touch-index c.args.touches.now)) (due c.args.touches.now) c.loop-touch.invariant
    (front_same c.add_touch.new.items.items c.loop-touch.items.items (due (drop c.loop-touch.touch-index c.args.touches.now)) c.in_err-add_touch.ensures.err))

pub returns-clause-ok : goal.returns-clause-ok
returns-clause-ok c =
    let due = touch_items (app_as c.args.app.now) c.args.n c.args.runner in
    let came = c.loop-touch.items.items in
    comes_all c.args.items.now.items came came (due (drop c.loop-touch.touch-index c.args.touches.now)) (due c.args.touches.now) c.loop-touch.invariant
    (sym (append-nil came) ∙ ap (λ ts. came ++ due ts) (sym (drop_of_length-le c.args.touches.now (omega (arith, c.loop-touch-test.false, c.loop-touch.auto.touch-index-end)))))
