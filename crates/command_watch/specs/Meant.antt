-- What texts of deployments and of properties mean, and the lines of traces.
use Rattle.command_explain.specs.Meant as explain
use Rattle.command_property.specs.Meant.{PropertyMeaning, IsPropertyMeaning}

-- the deployment of a text and the item that has a line, and the property of a text
pub record Meanings : Type 0 where
  pub trace : explain.Meanings
  pub property : PropertyMeaning

-- They are those: no text has two meanings, and no line has two items.
pub record AreMeanings (means : Meanings) : Type 0 where
  pub trace : explain.AreMeanings means.trace
  pub property : IsPropertyMeaning means.property
