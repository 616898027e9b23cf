-- What contracts see of a handler's run, and of an application in memory.
use Rattle.std.specs.Prelude.{map}
use Rattle.sx_check.specs.Source.{source_tree}
use Rattle.sx_mean.specs.declared.apps.App.{App}
use Rattle.sx_mean.specs.declared.apps.Part.{Part}
use Rattle.sx_mean.specs.declared.moments.Moment.{Moment}
use Rattle.sx_mean.specs.Meaning.{HandlerState}
use Rattle.sx_mean.specs.Application.{PartTree, AppTree}

-- the code's moment as plain data
abbrev pub state_of : Moment → HandlerState
state_of m = record { locals = m.locals.items; cells = m.cells.items; acts = m.acts.items }

-- the code's part as plain data
abbrev pub part_as : Part → PartTree
part_as p = record { node = p.node; device = p.device; tree = source_tree p.code }

-- the code's application as plain data
abbrev pub app_as : App → AppTree
app_as a = record {
  nodes = a.nodes;
  devices = a.devices.items;
  parts = map part_as a.parts.items;
  links = a.links.items;
}
