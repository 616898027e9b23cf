-- What reactions ask.
use Rattle.std.proofs.Common.{◌≡◌, ℕ, ◌+◌, ◌==◌, Bool, true, false, if◌then◌else◌, List, [], ◌∷◌, ◌++◌, map, Option}
use Rattle.std.proofs.Common.{refl, ap, ◌∙◌}
use Rattle.sx_lang.specs.Tree.{ModuleTree}
use Rattle.sx_mean.specs.declared.apps.Link.{Link}
use Rattle.sx_mean.specs.Application.{AppTree, PartTree}
use Rattle.sx_span.specs.declared.intervals.Interval.{Interval}
use Rattle.sx_span.specs.declared.pieces.ActRange.{ActRange}
use Rattle.sx_span.specs.declared.pieces.ActRange.TheVariants.{SendIn, EmitIn}
use Rattle.sx_span.specs.Ranges as ranges
use Rattle.sx_table.specs.declared.stays.Freed.{Freed}
use Rattle.sx_table.specs.declared.demands.NeededValues.{NeededValues}
use Rattle.sx_table.specs.Places.{PlaceTree}
use Rattle.sx_table.specs.Rows.{RowTree, places_at}
use Rattle.sx_table.specs.Made as mm
use Rattle.law_never.specs.Intervals as hi
use Rattle.law_never.specs.Closed as hl
use Rattle.law_never.specs.Check as hc
use Rattle.law_never.specs.Demands as hd
use Rattle.law_never.specs.Same.{as_demand, as_doing, as_freed, as_interval, as_needed, as_path, as_place, as_row, as_values, ways}
use Rattle.law_never.proofs.Same.{at_map}
use Rattle.law_never.proofs.Leading.{ways_same}

map_append : {A B : Type 0} (f : A → B) (xs ys : List A) → map f (xs ++ ys) ≡ map f xs ++ map f ys
map_append f [] ys = refl
map_append f (x ∷ xs) ys = ap (λ l. f x ∷ l) (map_append f xs ys)

carried_if : (c : ℕ) (i : Interval) (b : Bool) (xs : List NeededValues) (ys : List hd.NeededValues) → map as_values xs ≡ ys
    → map as_values ((if b then record { index = c; values = i } ∷ [] else []) ++ xs) ≡ (if b then record { index = c; values = as_interval i } ∷ ys else ys)
carried_if c i true xs ys e = ap (λ l. as_values (record { index = c; values = i }) ∷ l) e
carried_if c i false xs ys e = e

carried_same : (c output : ℕ) (acts : List ActRange) → map as_values (mm.carried c output acts) ≡ hd.carried c output (map as_doing acts)
carried_same c output [] = refl
carried_same c output (EmitIn i ∷ acts) = carried_same c output acts
carried_same c output (SendIn port i ∷ acts) = carried_if c i (port == output) (mm.carried c output acts) (hd.carried c output (map as_doing acts)) (carried_same c output acts)

sent_if : (b : Bool) (c output : ℕ) (acts : List ActRange) → map as_values (if b then mm.carried c output acts else []) ≡ (if b then hd.carried c output (map as_doing acts) else [])
sent_if true c output acts = carried_same c output acts
sent_if false c output acts = refl

sent_same : (m n : ℕ) (ls : List Link) (acts : List ActRange) → map as_values (mm.sent_over m n ls acts) ≡ hd.sent_over m n ls (map as_doing acts)
sent_same m n [] acts = refl
sent_same m n (l ∷ ls) acts =
    map_append as_values (mm.sent_by m n l acts) (mm.sent_over m (n + 1) ls acts)
    ∙ ap (λ x. x ++ map as_values (mm.sent_over m (n + 1) ls acts)) (sent_if (l.from == m) n l.output acts)
    ∙ ap (λ y. (if l.from == m then hd.carried n l.output (map as_doing acts) else []) ++ y) (sent_same m (n + 1) ls acts)

words_of_same : (app : AppTree) (m : ℕ) (ps : List ranges.Path) → map as_values (mm.words_of app m ps) ≡ hd.words_of app m (map as_path ps)
words_of_same app m [] = refl
words_of_same app m (p ∷ ps) =
    map_append as_values (mm.sent_over m 0 app.links p.acts) (mm.words_of app m ps)
    ∙ ap (λ x. x ++ map as_values (mm.words_of app m ps)) (sent_same m 0 app.links p.acts)
    ∙ ap (λ y. hd.sent_over m 0 app.links (map as_doing p.acts) ++ y) (words_of_same app m ps)

emits_same : (acts : List ActRange) → map as_interval (mm.may_emit acts) ≡ hl.may_emit (map as_doing acts)
emits_same [] = refl
emits_same (SendIn port i ∷ acts) = emits_same acts
emits_same (EmitIn i ∷ acts) = ap (λ l. as_interval i ∷ l) (emits_same acts)

abbrev needed : ℕ → List hi.Interval → List hi.Interval → hd.NeededPlace
needed m box owed = record { module_of = m; place = record { cells = box; owed = owed } }

places_of_same : (m : ℕ) (ps : List ranges.Path) → map as_needed (mm.places_of m ps) ≡ hd.places_of m (map as_path ps)
places_of_same m [] = refl
places_of_same m (p ∷ ps) =
    ap (λ x. needed m (map as_interval p.cells) x ∷ map as_needed (mm.places_of m ps)) (emits_same p.acts)
    ∙ ap (λ l. needed m (map as_interval p.cells) (hl.may_emit (map as_doing p.acts)) ∷ l) (places_of_same m ps)

ways_case : (tree : ModuleTree) (input : Option ℕ) (i : Interval) (cells owed : List Interval) → map as_path (mm.ways_at tree input i (record { cells = cells; owed = owed }))
    ≡ (if hc.owes_none (map as_interval owed) then ways tree input (as_interval i) (map as_interval cells) else [])
ways_case tree input i cells [] = ways_same tree input i cells
ways_case tree input i cells (x ∷ owed) = refl

ways_from_same : (q : PartTree) (input : Option ℕ) (i : Interval) (ps : List PlaceTree) → map as_path (mm.ways_from q.tree input i ps) ≡ hd.ways_from ways q input (as_interval i) (map as_place ps)
ways_from_same q input i [] = refl
ways_from_same q input i (p ∷ ps) =
    map_append as_path (mm.ways_at q.tree input i p) (mm.ways_from q.tree input i ps)
    ∙ ap (λ x. x ++ map as_path (mm.ways_from q.tree input i ps)) (ways_case q.tree input i p.cells p.owed)
    ∙ ap (λ y. (if hc.owes_none (map as_interval p.owed) then ways q.tree input (as_interval i) (map as_interval p.cells) else []) ++ y) (ways_from_same q input i ps)

abbrev asked : ℕ → hd.Freed → List hd.NeededPlace → List hd.NeededValues → hd.Demand
asked m f ps ws = record { modules = hd.Only m; devices = f; places = ps; readings = []; words = ws }

pub answers_same : (app : AppTree) (r : RowTree) (m : ℕ) (q : PartTree) (input : Option ℕ) (i : Interval) (f : Freed) → as_demand (mm.answers app r m q.tree input i f)
    ≡ hd.answers ways app (as_row r) m q input (as_interval i) (as_freed f)
answers_same app r m q input i f =
    let ps = mm.ways_from q.tree input i (places_at r.places m) in
    ap (λ x. asked m (as_freed f) x (map as_values (mm.words_of app m ps))) (places_of_same m ps)
    ∙ ap (λ y. asked m (as_freed f) (hd.places_of m (map as_path ps)) y) (words_of_same app m ps)
    ∙ ap (λ l. asked m (as_freed f) (hd.places_of m l) (hd.words_of app m l))
    (ways_from_same q input i (places_at r.places m) ∙ ap (λ l. hd.ways_from ways q input (as_interval i) l) (at_map as_place r.places m))
