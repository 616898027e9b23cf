-- The deployment is accepted.
use Rattle.std.proofs.Common.{◌≡◌, codes, List, [], ◌∷◌, refl, sym, subst}
use Rattle.std.specs.Prelude.{Ok, map}
use Rattle.sx_check.specs.Names.{is_taken, has_taken, is_handled_twice}
use Rattle.sx_check.specs.Rules.{breaks}
use Rattle.sx_mean.specs.declared.apps.Link.{Link}
use Rattle.sx_entries.specs.declared.entries.Start.TheVariants as start
use Rattle.sx_deploy.specs.Sources.{Coded, AreCoded, none_left, each}
use Rattle.sx_deploy.specs.Checks.{checked_all}
use Rattle.sx_deploy.specs.Ties.{app_device, links_of}
use Rattle.sx_deploy.specs.Places.{placements_of}
use Rattle.sx_deploy.specs.Deployment.{Deployed, IsFrom, IsOutcome, deployed, arranged}
use Rattle.sx_deploy.specs.declared.placing.Placement.{Placement}
use Rattle.sx_bulk.specs.Laws.{names, Accepted}
use Rattle.sx_bulk.proofs.Trees.{eye, eye_spelled, logic, logic_spelled, lamp, lamp_spelled}
use Rattle.sx_bulk.proofs.Entries.{entries, counted}

unfoldable modules : List Coded
modules =
    record { name = codes "eye"; node = 0; provider = 7; text = 0x4000; start = start.Device 0; tree = eye }
    ∷ record { name = codes "logic"; node = 0; provider = 7; text = 0x6000; start = start.At 0x2000; tree = logic }
    ∷ record { name = codes "lamp"; node = 1; provider = 7; text = 0x4000; start = start.Device 1; tree = lamp }
    ∷ []

are_coded : AreCoded 0 entries.modules (Ok modules)
unfolding entries modules
are_coded = each (eye, eye_spelled, refl) (each (logic, logic_spelled, refl) (each (lamp, lamp_spelled, refl) none_left))

checked : checked_all modules ≡ Ok modules
unfolding modules eye logic lamp
    breaks is_taken has_taken is_handled_twice
checked = refl

unfoldable links : List Link
links = record { from = 0; output = 0; to = 1; input = 0 } ∷ record { from = 1; output = 0; to = 2; input = 0 } ∷ []

linked : links_of (map app_device entries.devices) modules entries.links ≡ Ok links
unfolding entries modules links eye logic lamp
linked = refl

unfoldable placed : (ps : List Placement) × (placements_of entries.devices links modules ≡ Ok ps)
unfolding entries modules links eye logic lamp
placed = (_, refl)

unfoldable whole : Deployed
whole = arranged entries modules links placed.0

named : whole.names ≡ names
unfolding whole entries names
named = refl

comes : deployed entries modules ≡ Ok whole
unfolding whole
comes = rw (checked, linked, placed.1) refl

pub accepted : Accepted
accepted =
    let from : IsOutcome entries (Ok whole) = record { coded = Ok modules; are_coded = are_coded; comes = sym comes } in
    (whole, subst (λ r. IsFrom r (Ok whole)) (sym counted) from, named)
