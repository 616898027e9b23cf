-- One node, as plain data.
use Rattle.std.specs.Prelude.{ℕ, ◌+◌, false, List, [], replicate}
use Rattle.sx_bus.specs.Memory.{blank}
use Rattle.sx_bus.specs.declared.devices.Window.{Window}
use Rattle.sx_bus.specs.Devices.{all_stale}
use Rattle.sx_rules.specs.Access.{Sections}
use Rattle.spec_machine.specs.declared.kinds.Exchange.{Exchange}

-- A node: its registers R0 to R15, its 65,536 bytes, its devices, its live sections, the module
-- that runs, the module of the last instruction, the module that entered the one that runs (0 where
-- there is none), the number of resets, the node's key, and the last header and body that were
-- wrapped or unwrapped.
pub record State : Type 0 where
  pub regs : List ℕ
  pub mem : List ℕ
  pub devices : List Window
  pub sections : Sections
  pub cur : ℕ
  pub last : ℕ
  pub caller : ℕ
  pub boot : ℕ
  pub key : List ℕ
  pub exchange : Exchange

-- no header and no body yet
abbrev pub no_exchange : Exchange
no_exchange =
    record { ad = replicate 32 0; ad_len = 0; body = replicate 32 0; body_len = 0; own_key = false }

-- there is no section, and the next id is 1
abbrev pub no_sections : Sections
no_sections = record { live = []; next = 1 }

-- a node with this key and these devices when its power is switched on
abbrev pub power_on : List ℕ → List Window → State
power_on key devices = record {
  regs = replicate 16 0;
  mem = blank 65536;
  devices = devices;
  sections = no_sections;
  cur = 0;
  last = 0;
  caller = 0;
  boot = 0;
  key = key;
  exchange = no_exchange;
}

-- a reset clears registers, memory, sections and the sensors' fresh marks, and counts
abbrev pub reset : State → State
reset s = record (power_on s.key (all_stale s.devices)) { boot = s.boot + 1 }
