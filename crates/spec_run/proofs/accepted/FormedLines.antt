-- What is a line for a deployment's names is in form for its setting.
use Rattle.std.proofs.Common.{◌≡◌, ℕ, zero, suc, true, List, [], ◌∷◌, map, Some, refl, sym, ◌∙◌, ap, arith}
use Rattle.std.specs.Prelude.{slice_get}
use Rattle.sx_lang.specs.declared.tree.DeviceKind.{DeviceKind}
use Rattle.sx_lang.specs.declared.tree.DeviceKind.TheVariants.{Sensor, Actuator}
use Rattle.sx_mean.specs.declared.apps.AppDevice.{AppDevice}
use Rattle.sx_tag.specs.Mac.{Mac}
use Rattle.sx_sched.specs.Lines.{Line, Blank, Run, Finish, Put, Set, Take, Give, Forge, Sense, Irq, Reset, Ask, Answer, Load, Call}
use Rattle.sx_sched.specs.InForm.{IsLine}
use Rattle.sx_deploy.specs.Deployment.{Deployed}
use Rattle.sx_mean.specs.Application.{is_sensor}
use Rattle.sx_model.specs.Step.{kind_is}
use Rattle.spec_run.specs.Law.{LineInForm, LinesInForm}
use Rattle.spec_run.proofs.tie.Lists.{some_inj}
use Rattle.sx_deploy.specs.Law as deployment
use Rattle.spec_run.specs.Setting.{Site}
use Rattle.spec_run.specs.Accepted.{setting}
use Rattle.spec_run.specs.AcceptedLaw.{AreLines}

pub sensor_at : (ds : List AppDevice) (d : ℕ) → slice_get (map (λ (x : AppDevice). is_sensor x.kind) ds) d ≡ Some true → kind_is is_sensor (slice_get ds d) ≡ true
sensor_at [] d e = absurd cc
sensor_at (x ∷ ds) zero e = by_kind x.kind (some_inj _ true e)
  where
    by_kind : (k : DeviceKind) → is_sensor k ≡ true → is_sensor k ≡ true
    by_kind Sensor h = refl
    by_kind Actuator h = absurd cc
sensor_at (x ∷ ds) (suc d) e = sensor_at ds d e

module _ (mac : Mac) (d : Deployed) (sites : List Site) (acc : deployment.IsSoundDeployment d) where
  pub in_form : (line : Line) → IsLine d.names line → LineInForm (setting mac d sites) line
  in_form Blank h = tt
  in_form (Run n k) h = tt
  in_form (Finish n) h = tt
  in_form (Put n at bytes) h = h.1
  in_form (Set n r v) h = (h.1, h.3)
  in_form (Take n at len) h = tt
  in_form (Give k n at) h = h.2
  in_form (Forge bytes) h = tt
  in_form (Sense x v) h = (sensor_at d.app.devices x (ap (λ s. slice_get s x) (sym acc.sensors) ∙ h.1), h.2)
  in_form (Irq n line) h = let few = h.1 in omega (arith, few)
  in_form (Reset n) h = tt
  in_form (Ask m) h = let s = acc.parts in omega (arith, h, s)
  in_form (Answer m boot k) h = tt
  in_form (Load m) h = tt
  in_form (Call m e input output) h = (h.1, h.2, h.3)

  pub lines_in_form : (lines : List Line) → AreLines d.names lines → LinesInForm (setting mac d sites) lines
  lines_in_form [] h = tt
  lines_in_form (line ∷ lines) h = (in_form line h.0, lines_in_form lines h.1)
