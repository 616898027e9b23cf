-- Rule 6: not too many entries, and at most 8 modules on a node.
use Rattle.std.specs.Prelude.{Bool, ◌==◌, nat_lt, count_by, List, [], ◌∷◌, length, Option}
use Rattle.sx_entries.specs.Lines.{entries, first_of, whole}
use Rattle.sx_entries.specs.declared.fault.Sort.TheVariants.{Node, Device, Module, Connection}
use Rattle.sx_entries.specs.declared.fault.DeployFault.{DeployFault}
use Rattle.sx_entries.specs.Entries.{EntryLists}
use Rattle.sx_entries.specs.declared.entries.NodeEntry.{NodeEntry}
use Rattle.sx_entries.specs.declared.entries.ModuleEntry.{ModuleEntry}

-- more than 8 modules are on the node after these
abbrev pub is_crowded : List ModuleEntry → List NodeEntry → NodeEntry → Bool
is_crowded modules earlier node = nat_lt 8 (count_by (λ m. m.node == length earlier) modules)

-- rule 6: the first count that is too large
abbrev pub counts_fault : EntryLists → Option DeployFault
counts_fault d = first_of (
    whole 6 Node (nat_lt 16 (length d.nodes))
    ∷ entries 6 Node (is_crowded d.modules) d.nodes
    ∷ whole 6 Device (nat_lt 32 (length d.devices))
    ∷ whole 6 Module (nat_lt 32 (length d.modules))
    ∷ whole 6 Connection (nat_lt 64 (length d.links)) ∷ [])
