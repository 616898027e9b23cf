-- Every run is legal, with its acts in order.
use Rattle.std.proofs.Common.{List, arith}
use Rattle.sx_trace.specs.declared.items.Item.{Item}
use Rattle.sx_model.specs.order.State.{Model, power_on}
use Rattle.spec_run.specs.Setting.{Setting}
use Rattle.spec_run.specs.State.{switched_on}
use Rattle.spec_run.specs.Run.{run}
use Rattle.spec_run.specs.Law.{IsSoundSetting}
use Rattle.spec_run.specs.OrderLaw.{RunsInOrder}
use Rattle.spec_run.proofs.tie.Verdicts.{legal_of}
use Rattle.spec_run.proofs.tie.Tied.{Tied}
use Rattle.spec_run.proofs.tie.Start.{starts_tied}
use Rattle.spec_run.proofs.acts.Walks.{Walks}
use Rattle.spec_run.proofs.acts.Compose.{ActsWalk, keeps_run}
use Rattle.spec_run.proofs.acts.Counting.{counts_lines}
use Rattle.spec_run.proofs.ActsKeep.{are_wordly}
use Rattle.spec_run.proofs.ActsWalk.{Always, Easy, acts_walk, each_all, each_walks}

-- nothing more is asked of an item than that it is allowed
abbrev Any : Setting → Model → Item → Type 0
Any set s i = Unit {0}

easy : (set : Setting) → Easy Any set
easy set = record {
  reset = λ n c s. tt;
  ask = λ m a s. tt;
  attested = λ m b s. tt;
  denied = λ m s. tt;
  packet = λ k n s. tt;
  forged = λ m s. tt;
  busy = λ n s. tt;
  skip = λ n s. tt;
  budget = λ n s. tt;
}

any : (set : Setting) (s : Model) (items : List Item) → Walks (Any set) set.app s items
any set s items = each_walks Any set s items (each_all (Always Any set) (λ i s. tt) items)

keep : (set : Setting) → IsSoundSetting set → ActsWalk Any set
keep set sound = acts_walk Any set (easy set) sound (λ w n s here mo t. any set mo _) (λ w d v x s dev sensor lt here mo t. any set mo _) (λ w n line s lt here mo t. any set mo _)

-- every run of lines in form is a legal run of the source, up to its first forged item
pub runs_in_order : RunsInOrder
runs_in_order set sound lines few form =
    legal_of set.app (power_on set.app) (run set (switched_on set) lines).items (Tied set (run set (switched_on set) lines).world)
    (keeps_run Any set (keep set sound) (are_wordly set sound) (λ w line. counts_lines set w line) lines (switched_on set) (omega (arith, few)) form (power_on set.app) (starts_tied set sound)).0
