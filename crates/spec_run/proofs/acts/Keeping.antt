-- What it is that an act keeps the tie.
use Rattle.std.proofs.Common.{ℕ, ◌≡◌, ◌<◌, true, List, [], ◌∷◌, length, Some}
use Rattle.std.specs.Prelude.{slice_get}
use Rattle.sx_trace.specs.declared.items.Item.TheVariants as item
use Rattle.sx_trace.specs.declared.items.Cause.TheVariants.{Asked}
use Rattle.sx_mean.specs.declared.apps.AppDevice.{AppDevice}
use Rattle.sx_mean.specs.Application.{is_sensor}
use Rattle.spec_machine.specs.State.{State, reset as restarted}
use Rattle.spec_machine.specs.Acts.{put as put_at, set as set_register, take as take_from, sense as sense_on, irq as interrupt}
use Rattle.sx_model.specs.order.State.{Model}
use Rattle.spec_run.specs.Setting.{Site, Setting}
use Rattle.spec_run.specs.State.{World, Acted}
use Rattle.spec_run.specs.Acts.{with_node, after_step, done_on, new_packet, after_take, after_interrupt, ask as asks, after_answer}
use Rattle.spec_run.specs.Run.{place_at, line_counted}
use Rattle.spec_run.proofs.tie.Verdicts.{judge, Fares}
use Rattle.spec_run.proofs.tie.Tied.{Tied}

-- from a tied state the act forges, or it is legal and leads to a tied state
abbrev pub Keeps : Setting → World → Acted → Type 0
Keeps set w a = (mo : Model) → Tied set w mo → Fares (judge set.app mo a.items) (Tied set a.world)

-- so does each act that a schedule is made of
pub record ActsKeep (set : Setting) : Type 0 where
  pub step : (w : World) (n : ℕ) (s : State) → slice_get w.nodes n ≡ Some s → Keeps set w (after_step set w n s)
  pub put : (w : World) (n at : ℕ) (bytes : List ℕ) (s : State) → slice_get w.nodes n ≡ Some s → Keeps set w (done_on w n [] (put_at s at bytes))
  pub set_ : (w : World) (n r v : ℕ) (s : State) → r < 16 → v < 65536 → slice_get w.nodes n ≡ Some s → Keeps set w (done_on w n [] (set_register s r v))
  pub take : (w : World) (n at len : ℕ) (s : State) → slice_get w.nodes n ≡ Some s → Keeps set w (after_take w n (take_from s at len).shown)
  pub packet : (w : World) (bytes : List ℕ) → Keeps set w (new_packet w bytes)
  pub sense : (w : World) (d v : ℕ) (x : AppDevice) (s : State) → slice_get set.app.devices d ≡ Some x → is_sensor x.kind ≡ true → v < 32768 → slice_get w.nodes x.node ≡ Some s
      → Keeps set w (done_on w x.node (item.Sense d v ∷ []) (sense_on s (place_at set x.node d) v))
  pub irq : (w : World) (n line : ℕ) (s : State) → line < 15 → slice_get w.nodes n ≡ Some s → Keeps set w (after_interrupt set w n (interrupt s line).state (interrupt s line).shown)
  pub reset : (w : World) (n : ℕ) (s : State) → slice_get w.nodes n ≡ Some s → Keeps set w (record { world = with_node w n (restarted s) w.ledger w.steps; items = item.Reset n Asked ∷ [] })
  pub ask : (w : World) (m : ℕ) → m < length set.app.parts → w.lines < 65536 → (mo : Model) → Tied set w mo
      → Fares (judge set.app mo (asks (line_counted w) m).items) (Tied set (asks (line_counted w) m).world)
  pub answer : (w : World) (m boot : ℕ) (answer : List ℕ) (site : Site) → slice_get set.sites m ≡ Some site → Keeps set w (after_answer set w m boot (Some site) (Some answer))
