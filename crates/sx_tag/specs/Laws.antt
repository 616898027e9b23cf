-- What holds of wrapping.
use Rattle.std.specs.Prelude.{◌≡◌, ℕ, ◌≤◌, List, length, Some}
use Rattle.sx_tag.specs.Mac.{Mac, GivesTags}
use Rattle.sx_tag.specs.Wrap.{wrapped, padded, unwrapped}

-- what was wrapped is unwrapped, by any tag function
abbrev pub UnwrapsWrapped : Type 0
UnwrapsWrapped = (mac : Mac) (key ad body : List ℕ) → GivesTags mac → length body ≤ 32 →
    unwrapped mac key ad (wrapped mac key ad body).cipher (wrapped mac key ad body).tag
    ≡ Some (padded body)
