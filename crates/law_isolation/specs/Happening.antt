-- What happens in a run, one thing after the other.
use Rattle.std.specs.Prelude.{ℕ, List, [], ◌∷◌, slice_get}
use Rattle.sx_trace.specs.declared.items.Item.{Item}
use Rattle.sx_sched.specs.Lines as line
use Rattle.spec_run.specs.Setting.{Setting}
use Rattle.spec_run.specs.State.{World, Acted}
use Rattle.spec_run.specs.Acts.{only, at_node, after_step}
use Rattle.spec_run.specs.Run.{line_counted, after_line}

-- One thing that happens: a line of the schedule begins; a node does one instruction; something
-- else is done to a node; a packet is forged; the deployer asks, or judges an answer; or an item is
-- shown and nothing is done.
pub data Happening : Type 0 where
  Begin : Happening
  Step : (node : ℕ) → Happening
  Put : (node at : ℕ) (bytes : List ℕ) → Happening
  Set : (node reg value : ℕ) → Happening
  Take : (node at len : ℕ) → Happening
  Give : (packet node at : ℕ) → Happening
  Forge : (bytes : List ℕ) → Happening
  Sense : (device value : ℕ) → Happening
  Irq : (node line : ℕ) → Happening
  Reset : (node : ℕ) → Happening
  Ask : (m : ℕ) → Happening
  Answer : (m boot packet : ℕ) → Happening
  Show : Item → Happening

-- what it makes of a world, and the items that it shows; what a line does in one go is that line's
abbrev pub done : Setting → Happening → World → Acted
done set Begin w = only (line_counted w) []
done set (Step n) w = at_node w (after_step set w n) (slice_get w.nodes n)
done set (Put n at bytes) w = after_line set w (line.Put n at bytes)
done set (Set n r v) w = after_line set w (line.Set n r v)
done set (Take n at len) w = after_line set w (line.Take n at len)
done set (Give k n at) w = after_line set w (line.Give k n at)
done set (Forge bytes) w = after_line set w (line.Forge bytes)
done set (Sense d v) w = after_line set w (line.Sense d v)
done set (Irq n k) w = after_line set w (line.Irq n k)
done set (Reset n) w = after_line set w (line.Reset n)
done set (Ask m) w = after_line set w (line.Ask m)
done set (Answer m boot k) w = after_line set w (line.Answer m boot k)
done set (Show i) w = only w (i ∷ [])
