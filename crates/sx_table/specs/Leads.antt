-- Where the property goes.
use Rattle.std.specs.Prelude.{ℕ, ◌&&◌, ◌||◌, Bool, true, false, List, []}
use Rattle.std.specs.Prelude.{◌∷◌, Option, Some, None}
use Rattle.sx_mean.specs.Application.{AppTree}
use Rattle.sx_span.specs.declared.pieces.EventRange.TheVariants.{InputIn}
use Rattle.sx_span.specs.Paths.{react_within}
use Rattle.sx_span.specs.declared.pieces.ActRange.{ActRange}
use Rattle.sx_span.specs.declared.pieces.ActRange.TheVariants.{SendIn, EmitIn}
use Rattle.sx_span.specs.Ranges.{Path}
use Rattle.sx_table.specs.Boxes.{Interval, box_within}
use Rattle.sx_table.specs.Demands.{DemandTree, meets}
use Rattle.sx_table.specs.Rows.{RowTree, TableTree}
use Rattle.sx_watch.specs.declared.topics.Topic.{Topic}
use Rattle.sx_watch.specs.Watched.{PropertyTree, input_of}

abbrev pub is_quiet : ActRange → Bool
is_quiet (SendIn output i) = true
is_quiet (EmitIn i) = false

abbrev pub are_quiet : List ActRange → Bool
are_quiet [] = true
are_quiet (a ∷ acts) = is_quiet a && are_quiet acts

-- the row has the property's box, and meets the demand
abbrev pub finds_in : AppTree → RowTree → DemandTree → List Interval → RowTree → Bool
finds_in app r d cells new = box_within cells new.watch && meets app r d new

abbrev pub finds : AppTree → List RowTree → RowTree → DemandTree → List Interval → Bool
finds app [] r d cells = false
finds app (new ∷ news) r d cells = finds_in app r d cells new || finds app news r d cells

abbrev pub is_led : AppTree → List RowTree → RowTree → DemandTree → List Interval → List ActRange
    → Bool
is_led app rows r d cells acts = are_quiet acts && finds app rows r d cells

abbrev pub each_led : AppTree → List RowTree → RowTree → DemandTree → List Path → Bool
each_led app rows r d [] = true
each_led app rows r d (p ∷ ps) = is_led app rows r d p.cells p.acts && each_led app rows r d ps

abbrev pub leads_at : AppTree → PropertyTree → TableTree → RowTree → Option ℕ → Interval
    → DemandTree → Bool
leads_at app o t r None i d = is_led app t.rows r d r.watch []
leads_at app o t r (Some j) i d = each_led app t.rows r d
    (react_within o.tree (InputIn j i) r.watch)

-- wherever the property goes at the item, some row meets the demand
abbrev pub leads_on : AppTree → PropertyTree → TableTree → RowTree → Topic → Interval → DemandTree
    → Bool
leads_on app o t r topic i d = leads_at app o t r (input_of o topic) i d
