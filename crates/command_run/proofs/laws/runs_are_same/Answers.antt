use Rattle.command_deploy.proofs.Same.{says_same}
use Rattle.command_run.specs.Promise.{run_part}
use Rattle.command_run.proofs.laws.runs_are_same.Goals as goal

pub returns : goal.returns
returns c = λ assemble mac m0 m1 k0 k1 s t a b rest quiet still. says_same mac (run_part assemble mac) m0 m1 s k0 k1 t rest quiet still a b
