use Rattle.std.proofs.Common.{ℕ, List, drop, sym, ap, ◌∙◌}
use Rattle.sx_drive.specs.Driving.{Kept, waits}
use Rattle.sx_drive.proofs.honest.Honest.next_waiting.Goals as goal

pub returns-clause-packets : goal.returns-clause-packets
returns-clause-packets g c = ap (λ (k : Kept). k.waiting) (sym c.self.view_is) ∙ c.pop_front.ensures.items

pub returns-clause-rest : goal.returns-clause-rest
returns-clause-rest g c =
    let kept : List ℕ → Kept = λ ks. record { world = c.self.inside.world; waiting = ks; shown = c.self.inside.shown.items; long = c.self.inside.long; ran_out = c.self.inside.ran_out } in
    ap kept c.pop_front.ensures.rest ∙ ap (λ (k : Kept). waits k (drop 1 k.waiting)) c.self.view_is
