use Rattle.std.proofs.Common.{arith}
use Rattle.sx_model.proofs.Telling.{tells}
use Rattle.sx_explain.proofs.Caused.{legal_has_causes}
use Rattle.sx_explain.proofs.Finishes.{in_order_finishes}
use Rattle.sx_explain.proofs.TakesBehind.{in_order_takes_behind}
use Rattle.sx_deploy.proofs.Sound.{sound}
use Rattle.sx_deploy.proofs.ValidApp.{app_valid}
use Rattle.law_forgery.proofs.Naming.{names_agree}
use Rattle.law_forgery.proofs.Scripts.{runs_keys_unseen}
use Rattle.law_connections.proofs.Guessing.{keys_found}
use Rattle.command_run.proofs.Said.{run_says}
use Rattle.command_run.proofs.run.run_over.Goals as goal

pub returns : goal.returns
returns g c = record {
  says = run_says g.T.Tag.mac g.met.T.Tag.is_tag c.deploy_over.ensures;
  reader = λ d items legal. tells d.app items legal;
  keys = runs_keys_unseen;
  named = names_agree;
  found = keys_found;
  causes = λ text d read items legal. legal_has_causes d.app items (app_valid text d read) legal;
  finished = λ d items order turns. in_order_finishes d.app items order turns;
  behind = λ text d read items order. let few = (sound text d read).few_links in in_order_takes_behind d.app items (omega (arith, few)) order;
}
