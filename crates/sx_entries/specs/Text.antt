-- How a broken rule and its place are written.
use Rattle.std.specs.Prelude.{ℕ, List, ◌++◌, codes, decimal}
use Rattle.sx_entries.specs.declared.fault.Sort.{Sort}
use Rattle.sx_entries.specs.declared.fault.Sort.TheVariants.{Top, Node, Device, Module, Connection}
use Rattle.sx_entries.specs.declared.fault.Place.{Place}
use Rattle.sx_entries.specs.declared.fault.Place.TheVariants.{Nowhere, Kind, Entry, Source, Broken}
use Rattle.sx_entries.specs.declared.fault.DeployFault.{DeployFault}

-- the word of a sort of entry
abbrev pub sort_text : Sort → List ℕ
sort_text Top = codes "top"
sort_text Node = codes "node"
sort_text Device = codes "device"
sort_text Module = codes "module"
sort_text Connection = codes "connection"

-- the words of a place
abbrev pub place_text : Place → List ℕ
place_text Nowhere = codes "-"
place_text (Kind sort) = sort_text sort
place_text (Entry sort n) = sort_text sort ++ codes " " ++ decimal n
place_text (Source n line column) =
    codes "module " ++ decimal n ++ codes " " ++ decimal line ++ codes " " ++ decimal column
place_text (Broken n rule) = codes "module " ++ decimal n ++ codes " " ++ decimal rule

-- the words of a fault: `D`, the rule's number, and the place
abbrev pub fault_text : DeployFault → List ℕ
fault_text f = codes "D" ++ decimal f.rule ++ codes " " ++ place_text f.place
