-- What it means that a private section is guarded.
use Rattle.std.specs.Prelude.{◌≡◌, ◌≢◌, ℕ, true, false, ◌⊎◌, List, length, slice_index}
use Rattle.sx_rules.specs.declared.section.Section.{Section}
use Rattle.sx_rules.specs.Access.{in_private, Lives}
use Rattle.spec_machine.specs.State.{State, reset}
use Rattle.spec_machine.specs.Step.{own_of, is_let_run}

-- two memories agree outside the private part of s
pub record Alike (s : Section) (m n : List ℕ) : Type 0 where
  pub size : length m ≡ length n
  pub same : (k : ℕ) → in_private s k ≡ false → slice_index m k ≡ slice_index n k

-- two nodes that differ at most in the private bytes of s
pub record Twins (s : Section) (a b : State) : Type 0 where
  pub rest : b ≡ record a { mem = b.mem }
  pub mem : Alike s a.mem b.mem

-- the private bytes of s are as before
abbrev pub PrivateKept : Section → List ℕ → List ℕ → Type 0
PrivateKept s m n = (k : ℕ) → in_private s k ≡ true → slice_index n k ≡ slice_index m k

-- s is still there with its private bytes as before, or the node was reset, which makes all of its
-- memory 0
abbrev pub Untouched : Section → State → State → Type 0
Untouched s a b = (PrivateKept s a.mem b.mem × Lives b.sections.live s) ⊎ (b ≡ reset a)

-- the step is no instruction of s that is let run: PC is elsewhere, or where s may not be
-- entered
abbrev pub Foreign : Section → State → Type 0
Foreign s a = (own_of a ≢ s.id) ⊎ (is_let_run a ≡ false)

-- s is there and the nodes differ at most in its private bytes, or they don't differ
abbrev pub Same : Section → State → State → Type 0
Same s a b = (Lives a.sections.live s × Twins s a b) ⊎ (a ≡ b)
