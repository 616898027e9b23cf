-- Demands, and where the property goes.
use Rattle.std.proofs.Common.{◌≡◌, ℕ, ◌+◌, ◌==◌, ◌&&◌, ◌||◌, not, List, [], ◌∷◌, map, Option, Some, None}
use Rattle.std.proofs.Common.{refl, sym, ap, ◌∙◌}
use Rattle.sx_lang.specs.Tree.{ModuleTree}
use Rattle.sx_mean.specs.Application.{AppTree, PartTree}
use Rattle.sx_span.specs.declared.intervals.Interval.{Interval}
use Rattle.sx_span.specs.declared.pieces.ActRange.{ActRange}
use Rattle.sx_span.specs.declared.pieces.ActRange.TheVariants.{SendIn, EmitIn}
use Rattle.sx_span.specs.declared.pieces.EventRange.TheVariants.{InputIn}
use Rattle.sx_span.specs.Ranges as ranges
use Rattle.sx_span.specs.Paths.{react_within}
use Rattle.sx_table.specs.declared.stays.Freed.{Freed}
use Rattle.sx_table.specs.declared.stays.Freed.TheVariants.{Nobody, Only, AtNode}
use Rattle.sx_table.specs.declared.demands.NeededValues.{NeededValues}
use Rattle.sx_table.specs.Stays.{values_at}
use Rattle.sx_table.specs.Rows.{RowTree, places_at}
use Rattle.sx_table.specs.Demands as md
use Rattle.sx_table.specs.Demands.{DemandTree, NeededTree}
use Rattle.sx_table.specs.Leads as ml
use Rattle.sx_table.specs.Rows.{TableTree}
use Rattle.sx_table.specs.Made as mm
use Rattle.law_never.specs.Tables as ht
use Rattle.law_never.specs.Check as hc
use Rattle.law_never.specs.Demands as hd
use Rattle.law_never.specs.Same.{as_demand, as_doing, as_freed, as_interval, as_needed, as_path, as_place, as_range, as_row, as_table, as_values, ways}
use Rattle.law_never.proofs.Same.{and_same, or_same, at_map, fills_same, place_among, within_same, words}
use Rattle.sx_watch.specs.declared.topics.Topic.{Topic}
use Rattle.sx_watch.specs.Watched.{PropertyTree, input_of}

gone_same : (n m : ℕ) (qs : List PartTree) (new : RowTree) → md.gone_from n m qs new.absent ≡ hc.each_from (λ m (q : PartTree). not (q.node == n) || hc.may_absent (as_row new) m) m qs
gone_same n m [] new = refl
gone_same n m (q ∷ qs) new = ap (λ y. md.gone_at n m q new.absent && y) (gone_same n (m + 1) qs new)

has_gone_same : (app : AppTree) (f : Freed) (new : RowTree) → md.has_gone app f new.absent ≡ hd.has_gone app (as_freed f) (as_row new)
has_gone_same app Nobody new = refl
has_gone_same app (Only k) new = refl
has_gone_same app (AtNode n) new = gone_same n 0 app.parts new

needed_one : (new : RowTree) (k : NeededTree) → md.has_needed new.places k ≡ hd.has_place (as_row new) (as_needed k)
needed_one new k = place_among k.place (places_at new.places k.module_of) ∙ ap (λ l. hc.one (hc.place_within (as_place k.place)) l) (at_map as_place new.places k.module_of)

needed_all : (new : RowTree) (ks : List NeededTree) → md.have_needed new.places ks ≡ hc.each (hd.has_place (as_row new)) (map as_needed ks)
needed_all new [] = refl
needed_all new (k ∷ ks) = and_same _ _ _ _ (needed_one new k) (needed_all new ks)

values_one : (xss : List (List Interval)) (k : NeededValues) → md.has_values xss k ≡ hd.has_values (map (map as_interval) xss) (as_values k)
values_one xss k = fills_same (values_at xss k.index) k.values ∙ ap (λ l. hc.fills l (as_interval k.values)) (at_map as_interval xss k.index)

values_all : (xss : List (List Interval)) (ks : List NeededValues) → md.have_values xss ks ≡ hc.each (hd.has_values (map (map as_interval) xss)) (map as_values ks)
values_all xss [] = refl
values_all xss (k ∷ ks) = and_same _ _ _ _ (values_one xss k) (values_all xss ks)

pub meets_same : (app : AppTree) (r : RowTree) (d : DemandTree) (new : RowTree) → md.meets app r d new ≡ hd.meets app (as_row r) (as_demand d) (as_row new)
meets_same app r d new =
    and_same _ _ _ _ (words app d.modules d.devices r new) (and_same _ _ _ _ (has_gone_same app d.modules new)
    (and_same _ _ _ _ (needed_all new d.places) (and_same _ _ _ _ (values_all new.readings d.readings) (values_all new.words d.words))))

quiet_one : (a : ActRange) → ml.is_quiet a ≡ hc.is_quiet (as_doing a)
quiet_one (SendIn port i) = refl
quiet_one (EmitIn i) = refl

quiet_all : (acts : List ActRange) → ml.are_quiet acts ≡ hc.each hc.is_quiet (map as_doing acts)
quiet_all [] = refl
quiet_all (a ∷ acts) = and_same _ _ _ _ (quiet_one a) (quiet_all acts)

finds_same : (app : AppTree) (rows : List RowTree) (r : RowTree) (d : DemandTree) (cells : List Interval) → ml.finds app rows r d cells
    ≡ hc.one (λ (x : ht.Row). hc.box_within (map as_interval cells) x.watch && hd.meets app (as_row r) (as_demand d) x) (map as_row rows)
finds_same app [] r d cells = refl
finds_same app (new ∷ rows) r d cells =
    or_same _ _ _ _ (and_same _ _ _ _ (within_same cells new.watch) (meets_same app r d new)) (finds_same app rows r d cells)

led_same : (app : AppTree) (t : TableTree) (r : RowTree) (d : DemandTree) (cells : List Interval) (acts : List ActRange) → ml.is_led app t.rows r d cells acts
    ≡ hc.led (as_table t) (hd.meets app (as_row r) (as_demand d)) (record { cells = map as_interval cells; acts = map as_doing acts })
led_same app t r d cells acts = and_same _ _ _ _ (quiet_all acts) (finds_same app t.rows r d cells)

led_all : (app : AppTree) (t : TableTree) (r : RowTree) (d : DemandTree) (ps : List ranges.Path) → ml.each_led app t.rows r d ps
    ≡ hc.each (hc.led (as_table t) (hd.meets app (as_row r) (as_demand d))) (map as_path ps)
led_all app t r d [] = refl
led_all app t r d (p ∷ ps) = and_same _ _ _ _ (led_same app t r d p.cells p.acts) (led_all app t r d ps)

back : (box : List Interval) → map as_range (map as_interval box) ≡ box
back [] = refl
back (i ∷ box) = ap (λ l. i ∷ l) (back box)

pub ways_same : (tree : ModuleTree) (input : Option ℕ) (i : Interval) (box : List Interval)
    → map as_path (react_within tree (mm.event_in input i) box) ≡ ways tree input (as_interval i) (map as_interval box)
ways_same tree input i box = ap (λ b. map as_path (react_within tree (mm.event_in input i) b)) (sym (back box))

leads_at_same : (app : AppTree) (o : PropertyTree) (t : TableTree) (r : RowTree) (x : Option ℕ) (i : Interval) (d : DemandTree) → ml.leads_at app o t r x i d
    ≡ hc.heard ways o.tree x (as_interval i) (map as_interval r.watch) (hc.led (as_table t) (hd.meets app (as_row r) (as_demand d)))
leads_at_same app o t r None i d = led_same app t r d r.watch []
leads_at_same app o t r (Some j) i d =
    led_all app t r d (react_within o.tree (InputIn j i) r.watch)
    ∙ ap (λ l. hc.each (hc.led (as_table t) (hd.meets app (as_row r) (as_demand d))) l) (ways_same o.tree (Some j) i r.watch)

pub leads_same : (app : AppTree) (o : PropertyTree) (t : TableTree) (r : RowTree) (u : Topic) (i : Interval) (d : DemandTree) (e : hd.Demand) → as_demand d ≡ e
    → ml.leads_on app o t r u i d ≡ hd.leads_on ways app o (as_table t) (as_row r) u (as_interval i) e
leads_same app o t r u i d e s =
    leads_at_same app o t r (input_of o u) i d
    ∙ ap (λ k. hd.leads_on ways app o (as_table t) (as_row r) u (as_interval i) k) s
