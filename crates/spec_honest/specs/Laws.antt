-- What holds of honest runs.
use Rattle.std.specs.Prelude.{◌≡◌, ℕ, ◌≤◌, List, length, Some}
use Rattle.sx_mean.specs.Application.{AppTree}
use Rattle.spec_honest.specs.Plain.{MOST_DELIVERIES, Sampling}
use Rattle.spec_honest.specs.Course.{Course, IsHonest, course_start, lines_so_far, played}
use Rattle.spec_honest.specs.Delivers.{Delivers}

-- the items of an honest run deliver
abbrev pub HonestDelivers : Type 0
HonestDelivers = (app : AppTree) (rs : List Sampling) (c : Course) → IsHonest app rs c
    → Delivers app rs c.items

-- The number of deliveries is no limit: a course that comes to an end with any number of them, in
-- at most 65,536 lines, is that of the most, and of each larger number.
abbrev pub DeliveriesAreEnough : Type 0
DeliveriesAreEnough = (app : AppTree) (n m : ℕ) (rs : List Sampling) (c : Course)
    → played app n rs (course_start app) ≡ Some c → lines_so_far app (length rs) c ≤ 65536
    → MOST_DELIVERIES ≤ m → played app m rs (course_start app) ≡ Some c
