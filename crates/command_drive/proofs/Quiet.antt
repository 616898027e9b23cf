-- A run of which a line was left out says nothing more.
use Rattle.std.proofs.Common.{◌≡◌, ◌∙◌, ◌==◌, ◌||◌, ◌<◌, Bool, true, false, List, [], ◌∷◌, ◌++◌, refl, ap}
use Rattle.std.specs.Prelude.{if◌then◌else◌}
use Rattle.sx_trace.specs.Names.{NameLists}
use Rattle.sx_sched.specs.Lines.{Line}
use Rattle.spec_run.specs.Setting.{Setting}
use Rattle.sx_world.specs.Whole.{next}
use Rattle.sx_drive.specs.Honest.{Driven, Honest, MOST_LINES, Reading, Said, each, left_out, performed, reads, says}
use Rattle.sx_drive.specs.Driving.{IsDrivenSensor}
use Rattle.sx_deploy.specs.Deployment.{Deployed}
use Rattle.command_drive.proofs.Ways.{AreThere, Ways, reads_by}

-- what a part says where a line was left out: nothing, and no line comes to have room
pub record Quiet (a : Driven) : Type 0 where
  pub nothing : a.said ≡ []
  pub long : a.honest.long ≡ true

abbrev pub IsQuiet : Honest → Driven → Type 0
IsQuiet h a = h.long ≡ true → Quiet a

says_quiet : (set : Setting) (line : Line) (h : Honest) (b : Bool) → h.long ≡ b → b ≡ true → Quiet (if b || (h.world.lines == MOST_LINES) then left_out h else performed line h (next set h.world line))
says_quiet set line h true e t = record { nothing = refl; long = refl }
says_quiet set line h false e t = absurd (cc t)

says_by : (set : Setting) (line : Line) (h : Honest) → h.long ≡ true → Quiet (says set line h)
says_by set line h t = says_quiet set line h h.long refl t

joined_quiet : (a : Driven) (rest : Honest → Driven) → Quiet a → Quiet (rest a.honest) → Quiet (record { honest = (rest a.honest).honest; said = a.said ++ (rest a.honest).said })
joined_quiet a rest p q = record { nothing = ap (λ (s : List Said). s ++ (rest a.honest).said) p.nothing ∙ q.nothing; long = q.long }

ways : (names : NameLists) (set : Setting) → Ways names set IsQuiet
ways names set = record {
  moved = λ h g w l t. record { nothing = refl; long = l ∙ t };
  said = λ line h is t. says_by set line h t;
  joined = λ h a rest p q t. let x = p t in joined_quiet a rest x (q x.long);
  begun = λ h g a w l p t. p (l ∙ t);
}

-- the readings of a deployment
pub record IsReading (d : Deployed) (r : Reading) : Type 0 where
  pub sensor : IsDrivenSensor d r.device
  pub value : r.value < 32768

-- all are so
abbrev pub AreReadings : Deployed → List Reading → Type 0
AreReadings d [] = Unit {0}
AreReadings d (r ∷ rs) = IsReading d r × AreReadings d rs

pub reading_by : (d : Deployed) (set : Setting) (P : Honest → Driven → Type 0) → Ways d.names set P → AreThere d.names set → (r : Reading) (h : Honest) → IsReading d r → P h (reads set r h)
reading_by d set P w there r h is = reads_by d.names set P w there r h is.sensor.there is.sensor.sensor is.value

pub readings_by : (d : Deployed) (set : Setting) (P : Honest → Driven → Type 0) → Ways d.names set P → AreThere d.names set → (rs : List Reading) (h : Honest)
    → AreReadings d rs → P h (each (reads set) rs h)
readings_by d set P w there [] h are = w.moved h h refl refl
readings_by d set P w there (r ∷ rs) h are =
    let one = reads set r h in
    w.joined h one (each (reads set) rs) (reading_by d set P w there r h are.0) (readings_by d set P w there rs one.honest are.1)

pub quiet_readings : (d : Deployed) (set : Setting) → AreThere d.names set → (rs : List Reading) (h : Honest) → AreReadings d rs → h.long ≡ true → Quiet (each (reads set) rs h)
quiet_readings d set there rs h are t = readings_by d set IsQuiet (ways d.names set) there rs h are t
