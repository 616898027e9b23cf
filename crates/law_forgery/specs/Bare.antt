-- A world without the keys of nodes and modules.
use Rattle.std.specs.Prelude.{[], map}
use Rattle.sx_rules.specs.declared.section.Section.{Section}
use Rattle.spec_machine.specs.State.{State}
use Rattle.spec_run.specs.State.{World}

-- a section without its key
abbrev pub bare_section : Section → Section
bare_section x = record x { key = [] }

-- a node without its key and those of its sections; all else is kept
abbrev pub bare_node : State → State
bare_node s = record s {
  key = [];
  sections = record { live = map bare_section s.sections.live; next = s.sections.next };
}

-- a world without the keys of nodes and sections; all memory, packets, ledger and deployer are kept
abbrev pub bare : World → World
bare w = record w { nodes = map bare_node w.nodes }
