-- A configuration of stack code.
use Rattle.std.specs.Prelude.{ℕ, List, Option}
use Rattle.sx_rules.specs.declared.access.Violation.{Violation}
use Rattle.sx_bus.specs.declared.devices.Window.{Window}
use Rattle.spec_invocation.specs.Marks.{Mark}

-- The place of the next operation; the stack, its top first; the private section's bytes by offset,
-- where what only templates use and the stack's place don't count; the memory outside, where the
-- private section's bytes don't count; the devices; the marks so far; and in a handler's part the
-- place to return to.
pub record Conf : Type 0 where
  pub place : ℕ
  pub stack : List ℕ
  pub priv : List ℕ
  pub mem : List ℕ
  pub devices : List Window
  pub marks : List Mark
  pub back : Option ℕ

-- an end other than by `Leave`: a violation, with the marks until then, or an operation that has no
-- meaning
pub data Halt : Type 0 where
  Violates : Violation → List Mark → Halt
  Stuck : Halt
