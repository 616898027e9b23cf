-- That no run of an application breaks a property, whatever anybody does.
use Rattle.std.specs.Prelude.{◌≡◌, None}
use Rattle.sx_mean.specs.Application.{AppTree}
use Rattle.spec_run.specs.Law.{OfRuns}
use Rattle.sx_watch.specs.Watched.{PropertyTree, broken_at}

-- In no run of a sound setting of this application, whatever its tag function, its images and its
-- schedule, an item before the first forged one breaks the property.
abbrev pub IsNeverBroken : AppTree → PropertyTree → Type 0
IsNeverBroken app p = OfRuns (λ own items. own ≡ app → broken_at p items ≡ None)
