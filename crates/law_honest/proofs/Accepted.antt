-- So it is for each accepted deployment.
use Rattle.std.proofs.Common.{◌≡◌, ℕ, ◌<◌, Bool, List, Option, Some, None, Ok, IsSome, slice_get, refl, sym, ◌∙◌, ap, subst}
use Rattle.std.specs.Prelude.{All, option_and_then}
use Rattle.sx_tag.specs.Mac.{Mac, IsTag}
use Rattle.sx_mean.specs.Application.{AppTree}
use Rattle.sx_deploy.specs.Deployment.{Deployed, IsRead}
use Rattle.sx_deploy.specs.Law.{IsSoundDeployment}
use Rattle.sx_deploy.proofs.Sound.{sound}
use Rattle.spec_run.specs.Accepted.{AreByteTexts, AreImages, setting_of}
use Rattle.spec_run.proofs.accepted.Settled.{lawfully}
use Rattle.spec_run.proofs.accepted.FormedLines.{sensor_at}
use Rattle.spec_honest.specs.Plain.{driver_of as driver_in}
use Rattle.law_setup.proofs.Accepting.{has_room}
use Rattle.sx_drive.specs.Honest.{Reading, callee_at}
use Rattle.sx_drive.specs.Driving.{IsDrivenSensor}
use Rattle.law_honest.specs.Laws.{AcceptedIsDriven, IsDriveable, IsReading}
use Rattle.law_honest.proofs.Driven.{driven_is_honest, honest_is_driven}
use Rattle.law_honest.proofs.Tracking.{drivers_same}

-- its setting and readings are driveable
pub accepted_is_driveable : (text : List ℕ) (d : Deployed) → IsRead text (Ok d) → (mac : Mac) (texts : List (List ℕ)) → IsTag mac → AreImages mac d texts → AreByteTexts texts
    → (readings : List Reading) → All (IsReading d.app) readings → IsDriveable (setting_of mac d texts) readings
accepted_is_driveable text d h mac texts tag images bytes readings all = record {
  sound = lawfully mac d texts (sound text d h) images tag;
  room = has_room text d h mac texts bytes;
  words = λ m q there. ((sound text d h).modules m q there).words;
  are_readings = all;
}

pub accepted_is_driven : AcceptedIsDriven
accepted_is_driven text d h mac texts tag images bytes readings all uncut =
    let set = setting_of mac d texts in
    let driveable = accepted_is_driveable text d h mac texts tag images bytes readings all in
    let honest = driven_is_honest set readings driveable uncut in
    (honest.0, honest.1, honest_is_driven set readings honest.0 driveable honest.1)

-- A sensor that a module drives.

driver_there : (app : AppTree) (o : Option ℕ) → IsSome (option_and_then (callee_at app) o) → (p : ℕ) × (o ≡ Some p)
driver_there app None some = absurd cc
driver_there app (Some p) some = (p, refl)

-- what the program asks of a reading
pub driven_is_reading : (d : Deployed) → IsSoundDeployment d → (r : Reading) → IsDrivenSensor d r.device → r.value < 32768 → IsReading d.app r
driven_is_reading d acc r driven low =
    let some : IsSome (option_and_then (callee_at d.app) (driver_in d.app r.device)) =
    subst (λ (o : Option ℕ). IsSome (option_and_then (callee_at d.app) o)) (drivers_same r.device 0 d.app.parts) driven.driven in
    let p = driver_there d.app (driver_in d.app r.device) some in
    record {
      sampling = record {
        sensor = sensor_at d.app.devices r.device (ap (λ (bs : List Bool). slice_get bs r.device) (sym acc.sensors) ∙ driven.sensor);
        driver = p.0;
        driven = p.1;
      };
      low = low;
    }
