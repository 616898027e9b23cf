use Rattle.std.proofs.Common.{arith, ◌+◌, ◌∷◌, ◌≡◌}
use Rattle.sx_asm.proofs.Runs.{first_run}
use Rattle.sx_asm.proofs.lexing.split_run.Goals as goal

pub returns-clause-runs : goal.returns-clause-runs
returns-clause-runs c =
    let e : c.args.text.now ≡ c.in_ok-first.first.now ∷ c.in_ok-first.rest.now = grind arith in
    rw (c.split_at.ensures.front, c.split_at.ensures.back)
    (first_run c.args.text.now c.in_ok-first.first.now (1 + c.run_length-length.result) c.in_ok-first.rest.now e (omega (arith, c.run_length-length.ensures.front)))
