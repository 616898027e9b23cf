-- What contracts see of a path in memory.
use Rattle.std.specs.Prelude.{List, [], ◌∷◌, Option, Some, None, map}
use Rattle.sx_span.specs.declared.pieces.Trail.{Trail}
use Rattle.sx_span.specs.Ranges.{Path}

-- the code's path as plain data
abbrev pub path_of : Trail → Path
path_of t = record { locals = t.locals.items; cells = t.cells.items; acts = t.acts.items }

-- the code's paths
abbrev pub paths_in : List Trail → List Path
paths_in ts = map path_of ts

-- a path, if there is one
abbrev pub path_if_any : Option Trail → List Path
path_if_any None = []
path_if_any (Some t) = path_of t ∷ []
