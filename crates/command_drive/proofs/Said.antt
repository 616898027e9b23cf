-- What follows for `drive` from what it wrote and read.
use Rattle.std.proofs.Common.{◌≡◌, ℕ, zero, suc, ◌<◌, Bool, true, false, List, [], ◌∷◌, length, get_or, refl, arith, Option, Some, None, Ok}
use Rattle.std.specs.Prelude.{All, IsTrue, if◌then◌else◌}
use Rattle.sx_io.specs.Reading.{Answer}
use Rattle.command_promise.specs.declared.status.Status.{Status}
use Rattle.command_promise.specs.declared.status.Status.TheVariants.{Misused, TooLong}
use Rattle.command_promise.specs.Told.{CommandAt}
use Rattle.sx_tag.specs.Mac.{Mac, IsTag}
use Rattle.sx_deploy.specs.Deployment.{Deployed, IsRead}
use Rattle.sx_deploy.specs.Law.{IsSoundDeployment}
use Rattle.sx_deploy.proofs.Sound.{sound}
use Rattle.sx_deploy.proofs.ValidNames.{names_valid}
use Rattle.sx_trace.specs.ValidNames.{are_valid}
use Rattle.spec_honest.specs.Course.{Course, IsHonest}
use Rattle.spec_run.specs.Setting.{Setting}
use Rattle.spec_run.specs.Accepted.{AreByteTexts, AreImages, setting_of}
use Rattle.sx_drive.specs.Honest.{Driven, Honest, Reading, honest_run}
use Rattle.law_honest.specs.Laws.{IsDriveable, IsReading as IsReadingOf}
use Rattle.law_honest.specs.Samplings.{samplings_of}
use Rattle.law_honest.proofs.Accepted.{accepted_is_driveable, accepted_is_driven, driven_is_reading}
use Rattle.law_honest.proofs.Driven.{are_samplings, honest_is_driven}
use Rattle.command_head.specs.Begun.{ReadsAs}
use Rattle.command_deploy.specs.Afterwards.{DeployTold}
use Rattle.command_deploy.proofs.Said.{deploy_not_two, deploy_says}
use Rattle.command_world.specs.Schedule.{Stop}
use Rattle.command_drive.specs.Output.{drive_deployed, drive_readings, driven_of, long_output, stop_output}
use Rattle.command_drive.specs.Promise.{AreRead, DrivePromise, DrivesWith, IsPredicted, IsTheRun, drive_may, drive_part, lines_in}
use Rattle.command_drive.specs.Input.{readings_from}
use Rattle.command_drive.specs.Status.{drive_status}
use Rattle.command_drive.proofs.Named.{are_there}
use Rattle.command_drive.proofs.Owing.{drive_owes}
use Rattle.command_drive.proofs.Quiet.{AreReadings}
use Rattle.command_drive.proofs.Ran.{is_the_run}
use Rattle.command_drive.proofs.Replaying.{are_read, is_said}
use Rattle.command_drive.proofs.Sensors.{readings_given}
use Rattle.command_drive.proofs.Statuses.{stop_same}
use Rattle.command_drive.proofs.Ways.{AreThere}

-- the readings are those of the source's laws
reading_at : (d : Deployed) → IsSoundDeployment d → (rs : List Reading) → AreReadings d rs → (k : ℕ) (x : Reading) → k < length rs → IsReadingOf d.app (get_or rs k x)
reading_at d acc [] are k x h = absurd (omega (arith, h))
reading_at d acc (r ∷ rs) are zero x h = driven_is_reading d acc r are.0.sensor are.0.value
reading_at d acc (r ∷ rs) are (suc k) x h = reading_at d acc rs are.1 k x (omega (arith, h))

all_readings : (d : Deployed) → IsSoundDeployment d → (rs : List Reading) → AreReadings d rs → All (IsReadingOf d.app) rs
all_readings d acc rs are = λ k x h. reading_at d acc rs are k x h

-- ---- of one deployment that was read, with images that realize its modules

module _ (mac : Mac) (text : List ℕ) (texts : List (List ℕ)) (d : Deployed) (tag : IsTag mac) (read : IsRead text (Ok d)) (images : AreImages mac d texts) (bytes : AreByteTexts texts)
    (readings : List Answer) where
  abbrev rs : List Reading
  rs = (readings_from d 1 readings).readings

  abbrev set : Setting
  set = setting_of mac d texts

  abbrev a : Driven
  a = driven_of mac d texts readings

  there : AreThere d.names set
  there = are_there d set (sound text d read) refl

  all : All (IsReadingOf d.app) rs
  all = all_readings d (sound text d read) rs (readings_given d 1 readings)

  driveable : IsDriveable set rs
  driveable = accepted_is_driveable text d read mac texts tag images bytes rs all

  valid : IsTrue (are_valid d.names)
  valid = names_valid text d read

  ran_by : IsTheRun set a
  ran_by = is_the_run d set rs there (readings_given d 1 readings) (is_said set rs driveable).told

  read_by : AreRead d.names (lines_in a.said)
  read_by = are_read d set rs refl valid driveable there (readings_given d 1 readings) (are_samplings d.app rs all)

  delivered_by : a.honest.long ≡ false → IsPredicted d.app rs a
  delivered_by uncut =
      let driven = accepted_is_driven text d read mac texts tag images bytes rs all uncut in
      record { course = driven.0; honest = driven.1; items = driven.2.items; delivers = driven.2.delivers }

  room_by : (c : Course) → IsHonest d.app (samplings_of rs) c → a.honest.long ≡ false
  room_by c honest = (honest_is_driven set rs c driveable honest).uncut

-- the status is 9 exactly where a line was left out
ended_status : (h : Honest) (x : Stop) (n : Status) (b : Bool) → (stop_output h.world.steps x).status ≡ n → (if b then long_output else stop_output h.world.steps x).status ≡ (if b then TooLong else n)
ended_status h x n true e = refl
ended_status h x n false e = e

status_by : (mac : Mac) (d : Deployed) (texts : List (List ℕ)) (readings : List Answer)
    → (drive_deployed mac d texts readings).status ≡ (if (driven_of mac d texts readings).honest.long then TooLong else drive_status d readings)
unfolding drive_readings
status_by mac d texts readings =
    let x = readings_from d 1 readings in
    let h = (honest_run (setting_of mac d texts) x.readings).honest in ended_status h x.stop (drive_status d readings) h.long (stop_same h.world.steps x.stop)

-- what holds of images that realize their modules
drives_with : (mac : Mac) → IsTag mac → (deployment : Option (List ℕ)) (texts : List (List ℕ)) → AreByteTexts texts → ((d : Deployed) → ReadsAs deployment d → AreImages mac d texts)
    → DrivesWith mac deployment texts
drives_with mac tag None texts bytes realize = record {
  ran = λ d deploys readings. absurd deploys;
  replays = λ d deploys readings. absurd deploys;
  delivered = λ d deploys readings uncut. absurd deploys;
  room = λ d deploys readings c honest. absurd deploys;
  status = λ d deploys readings. absurd deploys;
}
drives_with mac tag (Some text) texts bytes realize = record {
  ran = λ d deploys readings. ran_by mac text texts d tag deploys (realize d deploys) bytes readings;
  replays = λ d deploys readings. read_by mac text texts d tag deploys (realize d deploys) bytes readings;
  delivered = λ d deploys readings uncut. delivered_by mac text texts d tag deploys (realize d deploys) bytes readings uncut;
  room = λ d deploys readings c honest. room_by mac text texts d tag deploys (realize d deploys) bytes readings c honest;
  status = λ d deploys readings. status_by mac d texts readings;
}

pub drive_says : {tells to_tell : Bool} {m0 m1 : CommandAt} {status : Status} (mac : Mac) → IsTag mac
    → DeployTold mac (drive_deployed mac) drive_may tells to_tell m0 m1 status → DrivePromise mac tells to_tell m0 m1 status
drive_says {tells} {to_tell} {m0} {m1} {status} mac tag told =
    deploy_says {tells = tells} {to_tell = to_tell} {m0 = m0} {m1 = m1} {status = status} mac (drive_part mac) (drive_owes mac)
    (λ deployment texts bytes realize. drives_with mac tag deployment texts bytes realize) told

pub says_not_two : {tells to_tell : Bool} {m0 m1 : CommandAt} {status : Status} (mac : Mac) → DrivePromise mac tells to_tell m0 m1 status → status ≡ Misused → ⊥
says_not_two mac says two = deploy_not_two mac (drive_part mac) (drive_owes mac) says two
