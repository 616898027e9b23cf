-- A module is idle while it is present and nothing is pending.
use Rattle.std.proofs.Common.{◌≡◌, Bool, true, false, if◌then◌else◌, Option, Some, None, refl}
use Rattle.std.specs.Prelude.{is_none}
use Rattle.sx_model.specs.order.State.{Present, Standing}
use Rattle.sx_model.specs.Step.{◌>>?◌}
use Rattle.sx_model.specs.order.Step.{idle}

pub idle_is : (x : Standing) (p : Present) → idle x ≡ Some p → x.present ≡ Some p
idle_is x p e = at x.present e
  where
    tests : (q : Present) (b : Bool) → (if b then Some q else None) ≡ Some p → Some q ≡ Some p
    tests q true e = e
    tests q false e = absurd cc

    at : (o : Option Present) → (o >>? (λ q. if is_none q.pending then Some q else None)) ≡ Some p → o ≡ Some p
    at None e = absurd cc
    at (Some q) e = tests q (is_none q.pending) e

pub idle_as : (x : Standing) (p : Present) → x.present ≡ Some p → p.pending ≡ None → idle x ≡ Some p
idle_as x p e n = rw (e, n) refl
