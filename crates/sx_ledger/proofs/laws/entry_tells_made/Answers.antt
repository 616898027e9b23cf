use Rattle.std.proofs.Common.{ℕ, List, ◌++◌, ap, ◌∙◌, length, take, replicate, ◌-◌}
use Rattle.std.proofs.Math.Seq.{take-append_seam}
use Rattle.sx_ledger.specs.Made.{Made}
use Rattle.sx_ledger.proofs.laws.entry_tells_made.Goals as goal

pub returns : goal.returns
returns c m short small =
    let made : List ℕ → List ℕ → Made = λ h b. record { maker = m.maker; target = m.target; boot = m.boot; header = h; body = b } in
    ap (λ h. made h (take (length m.body) (m.body ++ replicate (32 - length m.body) 0))) (take-append_seam m.header (replicate (32 - length m.header) 0))
    ∙ ap (λ b. made m.header b) (take-append_seam m.body (replicate (32 - length m.body) 0))
