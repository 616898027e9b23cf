-- Steps of a node that show nothing, taken one after the other. Nobody has to believe these forms:
-- a lemma shows that a run in such stretches is the run step by step.
use Rattle.std.specs.Prelude.{◌≡◌, ℕ, zero, suc, ◌+◌, ◌<◌, ◌==◌, ◌&&◌, Bool, false, ⊤, Option}
use Rattle.std.specs.Prelude.{Some, None, slice_set}
use Rattle.sx_tag.specs.Mac.{Mac}
use Rattle.spec_machine.specs.declared.kinds.Event.TheVariants.{Quiet}
use Rattle.spec_machine.specs.declared.kinds.Seen.{Seen}
use Rattle.spec_machine.specs.Run.{untouched}
use Rattle.spec_machine.specs.State.{State}
use Rattle.spec_machine.specs.Step.{step}
use Rattle.sx_world.specs.Held.{Running}

-- a node after this many steps
abbrev pub after_steps : Mac → ℕ → State → State
after_steps mac zero s = s
after_steps mac (suc k) s = (step mac (after_steps mac k s)).state

-- each of these steps shows nothing and, where `idle` says so, leaves a module running
abbrev pub AreQuiet : Mac → Bool → ℕ → State → Type 0
AreQuiet mac idle zero s = ⊤
AreQuiet mac idle (suc k) s =
    AreQuiet mac idle k s
    × ((step mac (after_steps mac k s)).shown ≡ record { touch = untouched; event = Quiet })
    × ((idle && ((after_steps mac (suc k) s).cur == 0)) ≡ false)

-- they are all that were asked for, or one more step was taken, which showed this
abbrev pub EndsWith : Mac → ℕ → ℕ → Option Seen → State → Type 0
EndsWith mac all k None s = k ≡ all
EndsWith mac all k (Some seen) s =
    (k < all) × (seen ≡ (step mac (after_steps mac k s)).shown)

-- how many steps they are, with the one more
abbrev pub taken : ℕ → Option Seen → ℕ
taken k None = k
taken k (Some seen) = suc k

-- what is kept after this many steps of a node that was in this state
abbrev pub stepped : Mac → ℕ → ℕ → State → Running → Running
stepped mac n k s kept = record {
  nodes = slice_set kept.nodes n (after_steps mac k s);
  packets = kept.packets;
  deployer = kept.deployer;
  ledger = kept.ledger;
  recognized = kept.recognized;
  steps = kept.steps + k;
}
