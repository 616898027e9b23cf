-- What holds of the workload: its deployment is accepted, and its lines keep the rules.
use Rattle.std.specs.Prelude.{◌≡◌, ℕ, ◌<◌, true, false, codes, [], ◌∷◌, Ok, IsOk}
use Rattle.sx_asm.specs.Assembled.{assembled}
use Rattle.sx_trace.specs.Names.{NameLists}
use Rattle.sx_deploy.specs.Deployment.{Deployed, IsRead}
use Rattle.sx_sched.specs.Reading.{said_line}
use Rattle.sx_bulk.specs.Bulk.{head, line, lines}

-- the names in the deployment, and which devices are sensors
unfoldable pub names : NameLists
names = record {
  nodes = codes "a" ∷ codes "b" ∷ [];
  devices = codes "light" ∷ codes "bulb" ∷ [];
  sensors = true ∷ false ∷ [];
  modules = codes "eye" ∷ codes "logic" ∷ codes "lamp" ∷ [];
  links = codes "up" ∷ codes "down" ∷ [];
}

-- the deployment is accepted, under these names
abbrev pub Accepted : Type 0
Accepted = (d : Deployed) × IsRead head (Ok d) × (d.names ≡ names)

-- each line of a workload of at most 8,000 samples is a line of a schedule
abbrev pub WellFormed : Type 0
WellFormed = (i : ℕ) → i < lines 8000 → IsOk (said_line assembled names (line i))
