-- What holds of the honest run that the program makes: it says the lines of the honest schedule,
-- and if no line is left out they show what the source alone predicts.
use Rattle.std.specs.Prelude.{ℕ, ◌≡◌, ◌<◌, false, List, length, take, nat_lt}
use Rattle.std.specs.Prelude.{All, Ok}
use Rattle.sx_tag.specs.Mac.{Mac, IsTag}
use Rattle.sx_mean.specs.Application.{AppTree}
use Rattle.sx_deploy.specs.Deployment.{Deployed, IsRead}
use Rattle.spec_run.specs.Setting.{Setting}
use Rattle.spec_run.specs.State.{switched_on}
use Rattle.spec_run.specs.Law.{IsLawfulSetting}
use Rattle.spec_run.specs.Accepted.{AreByteTexts, AreImages, setting_of}
use Rattle.spec_honest.specs.Course.{Course, IsHonest, IsSampling}
use Rattle.spec_honest.specs.Delivers.{Delivers}
use Rattle.law_setup.specs.Laws.{HasRoom}
use Rattle.law_delivery.specs.Laws.{HaveWords}
use Rattle.law_delivery.specs.Schedule.{honest_schedule}
use Rattle.sx_drive.specs.Honest.{MOST_LINES, Reading, honest_run}
use Rattle.law_honest.specs.Samplings.{items_of, sampling_of, samplings_of, told}

-- a reading is of a sensor that a module drives, and its value is below 32,768
pub record IsReading (app : AppTree) (r : Reading) : Type 0 where
  pub sampling : IsSampling app (sampling_of r)
  pub low : r.value < 32768

-- what is asked of a setting and its readings; each accepted deployment, with images that realize
-- its modules, has the first three
pub record IsDriveable (set : Setting) (readings : List Reading) : Type 0 where
  pub sound : IsLawfulSetting set
  pub room : HasRoom set
  pub words : HaveWords set.app
  pub are_readings : All (IsReading set.app) readings

-- Whatever the readings are, the run says the first 65,536 lines of the honest schedule, each with
-- what it shows; and a line is left out exactly if there are more.
pub record SaysSchedule (set : Setting) (readings : List Reading) : Type 0 where
  pub said : (honest_run set readings).said ≡ told set (switched_on set)
      (take MOST_LINES (honest_schedule set.app (samplings_of readings)))
  pub long : (honest_run set readings).honest.long
      ≡ nat_lt MOST_LINES (length (honest_schedule set.app (samplings_of readings)))

abbrev pub ScheduleIsSaid : Type 0
ScheduleIsSaid = (set : Setting) (readings : List Reading) → IsDriveable set readings
    → SaysSchedule set readings

-- The honest run of readings leaves no line out: it says the lines of the honest schedule with what
-- they show, and that is what the source predicts, so it delivers.
pub record DrivesHonestly (set : Setting) (readings : List Reading) (c : Course) : Type 0 where
  pub uncut : (honest_run set readings).honest.long ≡ false
  pub said : (honest_run set readings).said
      ≡ told set (switched_on set) (honest_schedule set.app (samplings_of readings))
  pub items : items_of (honest_run set readings).said ≡ c.items
  pub delivers : Delivers set.app (samplings_of readings)
      (items_of (honest_run set readings).said)

-- so it is if the course has at most 65,536 lines
abbrev pub HonestIsDriven : Type 0
HonestIsDriven = (set : Setting) (readings : List Reading) (c : Course) → IsDriveable set readings
    → IsHonest set.app (samplings_of readings) c → DrivesHonestly set readings c

-- and if no line was left out there is such a course
abbrev pub DrivenIsHonest : Type 0
DrivenIsHonest = (set : Setting) (readings : List Reading) → IsDriveable set readings
    → (honest_run set readings).honest.long ≡ false
    → (c : Course) × IsHonest set.app (samplings_of readings) c

-- From text on: for each accepted deployment, with images that realize its modules, a run of
-- readings that leaves no line out is such a run.
abbrev pub AcceptedIsDriven : Type 0
AcceptedIsDriven = (text : List ℕ) (d : Deployed) → IsRead text (Ok d)
    → (mac : Mac) (texts : List (List ℕ)) → IsTag mac → AreImages mac d texts → AreByteTexts texts
    → (readings : List Reading) → All (IsReading d.app) readings
    → (honest_run (setting_of mac d texts) readings).honest.long ≡ false
    → (c : Course) × IsHonest d.app (samplings_of readings) c
    × DrivesHonestly (setting_of mac d texts) readings c
