-- The worked run, by computing.
use Rattle.std.proofs.Common.{refl, ◌≡◌, true, [], arith}
use Rattle.std.proofs.lemmas.List.Elements.{All-nil, All-cons}
use Rattle.sx_mean.specs.Validity.{is_valid}
use Rattle.spec_honest.specs.Plain.{Sampling}
use Rattle.spec_honest.specs.Course.{IsSampling, course_start, sensed, settled}
use Rattle.spec_honest.specs.Worked.{LightingPredicted}
use Rattle.sx_mean.specs.Worked.{lighting}

valid : is_valid lighting ≡ true
unfolding is_valid Rattle.sx_mean.specs.Validity.is_too_large Rattle.sx_mean.specs.Validity.is_wrong Rattle.sx_mean.specs.Validity.is_misplaced
    Rattle.sx_mean.specs.Validity.is_crowded Rattle.sx_mean.specs.Validity.is_overloaded Rattle.sx_mean.specs.Validity.is_loose
valid = refl

pub lighting_predicted : LightingPredicted
unfolding Rattle.spec_honest.specs.Plain.MOST_DELIVERIES
lighting_predicted =
    let r : Sampling = record { device = 0; value = 120 } in
    let c = settled lighting 2 (sensed lighting r (course_start lighting)) in
    let one : IsSampling lighting r = record { sensor = refl; driver = 0; driven = refl } in
    record {
      course = c;
      honest = record {
        valid = valid;
        readings = All-cons (IsSampling lighting) r [] one (All-nil (IsSampling lighting));
        course = refl;
        lines = omega arith;
      };
      many = refl;
      items = refl;
      lines = refl;
      outputs = refl;
      too_few = refl;
    }
