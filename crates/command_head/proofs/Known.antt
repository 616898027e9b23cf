-- What the texts mean.
use Rattle.sx_deploy.proofs.Meanings.{some_meaning}
use Rattle.command_head.specs.Meanings.{Meaning, IsMeaning}

-- what the texts mean
abbrev pub known : Meaning
known text = (some_meaning text).0

pub is_known : IsMeaning known
is_known text = (some_meaning text).1
