-- What contracts see of modules in memory.
use Rattle.sx_lang.specs.View.{module_of}
use Rattle.sx_check.specs.Source.{source_tree}
use Rattle.sx_deploy.specs.Sources.{Coded}
use Rattle.sx_deploy.specs.declared.sources.ParsedModule.{ParsedModule}
use Rattle.sx_deploy.specs.declared.checks.CheckedModule.{CheckedModule}

-- the code's parsed module as plain data
abbrev pub parsed_as : ParsedModule → Coded
parsed_as m = record {
  name = m.name;
  node = m.node;
  provider = m.provider;
  text = m.text;
  start =
      m.start;
  tree = module_of m.tree;
}

-- the code's checked module as plain data
abbrev pub checked_as : CheckedModule → Coded
checked_as m = record {
  name = m.name;
  node = m.node;
  provider = m.provider;
  text = m.text;
  start =
      m.start;
  tree = source_tree m.code;
}
