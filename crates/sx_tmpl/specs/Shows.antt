-- How a node in mid-run stands for a configuration of stack code.
use Rattle.std.specs.Prelude.{◌≡◌, ℕ, ◌+◌, ◌*◌, ◌<◌, ◌≤◌, ◌⊎◌, false, List, [], ◌∷◌, length}
use Rattle.std.specs.Prelude.{slice_index, Option, Some, None}
use Rattle.sx_rules.specs.Access.{in_private}
use Rattle.spec_invocation.specs.Marks.{Mark}
use Rattle.sx_image.specs.Watched.{Watched}
use Rattle.sx_mean.specs.Working.{scratch_at, stack_to}
use Rattle.sx_ir.specs.Conf.{Conf}
use Rattle.sx_tmpl.specs.Scratch.{caller_sp_at, return_at}
use Rattle.sx_tmpl.specs.Running.{Regs, Fixed, Data, running, Safe, cell}

-- the private section's start
abbrev pub base_of : Fixed → ℕ
base_of f = f.setup.section.layout.priv_from

-- words are one after the other
abbrev pub WordsAt : List ℕ → ℕ → List ℕ → Type 0
WordsAt m a [] = Unit {0}
WordsAt m a (w ∷ ws) = (cell m a ≡ w) × WordsAt m (a + 2) ws

-- an offset that holds data: neither the first word, nor what only templates use, nor the stack's
pub record IsData (o : ℕ) : Type 0 where
  pub low : 2 ≤ o
  pub beside : (o < scratch_at) ⊎ (stack_to ≤ o)

-- in a handler's part the place to return to, as an address
abbrev pub ReturnsTo : (ℕ → ℕ) → Fixed → Option ℕ → List ℕ → Type 0
ReturnsTo at f None m = Unit {0}
ReturnsTo at f (Some p) m = cell m (base_of f + return_at) ≡ at p

-- memory has the stack's words from SP on, the data of the private section, the bytes outside, the
-- place to return to, and SP at entry
pub record MemoryHolds (f : Fixed) (at : ℕ → ℕ) (back : Option ℕ) (stack priv outside : List ℕ)
    (sp : ℕ) (m : List ℕ) : Type 0 where
  pub top : sp + 2 * length stack ≡ base_of f + stack_to
  pub room : length stack ≤ 170
  pub whole : length outside ≡ 65536
  pub words : WordsAt m sp stack
  pub size : base_of f + length priv ≡ f.setup.section.layout.priv_to
  pub bytes : (o : ℕ) → IsData o → o < length priv
      → slice_index m (base_of f + o) ≡ slice_index priv o
  pub others : (a : ℕ) → in_private f.setup.section a ≡ false
      → slice_index m a ≡ slice_index outside a
  pub returns : ReturnsTo at f back m
  pub entry_sp : cell m (base_of f + caller_sp_at) ≡ f.sp

-- the node stands for the configuration, where `at` gives the address of a place
pub record ShowsConfiguration (f : Fixed) (at : ℕ
    → ℕ) (c : Conf) (r : Regs) (d : Data) : Type 0 where
  pub pc : r.pc ≡ at c.place
  pub holds : MemoryHolds f at c.back c.stack c.priv c.mem r.sp d.mem
  pub devices : d.devices ≡ c.devices
  pub marks : d.marks ≡ c.marks

-- the node, as it is watched, stands for the configuration, and did nothing so far that it may not
pub record Stood (f : Fixed) (all : List Mark) (at : ℕ → ℕ) (c : Conf) (w : Watched) : Type 0 where
  pub regs : Regs
  pub rest : Data
  pub state : w ≡ running f regs rest
  pub safe : Safe f all w
  pub shows : ShowsConfiguration f at c regs rest
