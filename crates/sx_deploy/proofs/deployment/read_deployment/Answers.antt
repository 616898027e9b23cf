use Rattle.sx_deploy.proofs.Accepts.{accepts_app, accepts_names, accepts_sound}
use Rattle.sx_deploy.proofs.deployment.read_deployment.Goals as goal

pub returns-clause-app : goal.returns-clause-app
returns-clause-app c = accepts_app c.args.text.now c.read_text.result c.read_text.ensures.read

pub returns-clause-names : goal.returns-clause-names
returns-clause-names c = accepts_names c.args.text.now c.read_text.result c.read_text.ensures.read

pub returns-clause-sound : goal.returns-clause-sound
returns-clause-sound c = accepts_sound c.args.text.now c.read_text.result c.read_text.ensures.read
