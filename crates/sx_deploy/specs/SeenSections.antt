-- What contracts see of sections in memory.
use Rattle.sx_deploy.specs.Places as places
use Rattle.sx_deploy.specs.declared.placing.Span.{Span}
use Rattle.sx_deploy.specs.declared.placing.Sections.{Sections}

-- the code's section as plain data
abbrev pub span_as : Span → places.Span
span_as s = record { from = s.from; to = s.to }

-- the code's two sections as plain data
abbrev pub sections_as : Sections → places.ModuleSections
sections_as s =
    record { node = s.node; drives = s.drives; text = span_as s.text; data_part = span_as s.«data» }
