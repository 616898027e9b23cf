-- What the texts mean.
use Rattle.sx_watch.proofs.Meanings.{some_property}
use Rattle.command_property.specs.Meant.{PropertyMeaning, IsPropertyMeaning}

-- what the texts mean
abbrev pub known : PropertyMeaning
known n app text = (some_property n app text).0

pub is_known : IsPropertyMeaning known
is_known n app text = (some_property n app text).1
