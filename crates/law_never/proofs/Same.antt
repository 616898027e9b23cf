-- Tests are the same.
use Rattle.std.proofs.Common.{◌≡◌, ℕ, zero, suc, ◌+◌, ◌&&◌, ◌||◌, Bool, not, max, if◌then◌else◌, List, [], ◌∷◌, map, Option, Some}
use Rattle.std.proofs.Common.{None, refl, ap, ◌∙◌, nat_le}
use Rattle.std.specs.Prelude.{slice_get, unwrap_or}
use Rattle.sx_mean.specs.declared.apps.AppDevice.{AppDevice}
use Rattle.sx_mean.specs.Application.{AppTree, PartTree}
use Rattle.sx_span.specs.declared.intervals.Interval.{Interval}
use Rattle.sx_table.specs.declared.stays.Freed.{Freed}
use Rattle.sx_table.specs.declared.stays.Freed.TheVariants.{Nobody, Only, AtNode}
use Rattle.sx_table.specs.Boxes.{box_has, box_within, fills, spans, within}
use Rattle.sx_table.specs.Places.{PlaceTree, covers_places, fills_each, has_place, place_within}
use Rattle.sx_table.specs.Stays.{frees_device, frees_module, is_device_at, is_part_at, is_set, list_stays, values_at, values_stay}
use Rattle.sx_table.specs.Rows.{stays, RowTree, absent_stays, absents_stay, places_at, places_list_stays, places_stay}
use Rattle.sx_model.specs.Consequences as mc
use Rattle.law_never.specs.Tables as ht
use Rattle.law_never.specs.Check as hc
use Rattle.law_never.specs.Demands as hd
use Rattle.law_never.specs.Same.{as_freed, as_interval, as_place, as_row}

pub and_same : (a c b d : Bool) → a ≡ c → b ≡ d → (a && b) ≡ (c && d)
and_same a c b d p q = ap (λ x. x && b) p ∙ ap (λ y. c && y) q

pub or_same : (a c b d : Bool) → a ≡ c → b ≡ d → (a || b) ≡ (c || d)
or_same a c b d p q = ap (λ x. x || b) p ∙ ap (λ y. c || y) q

pub at_map : {A B : Type 0} (f : A → B) (xss : List (List A)) (n : ℕ) → map f (unwrap_or (slice_get xss n) []) ≡ unwrap_or (slice_get (map (map f) xss) n) []
at_map f [] n = refl
at_map f (xs ∷ xss) zero = refl
at_map f (xs ∷ xss) (suc n) = at_map f xss n

pub spans_same : (low high : ℕ) (is : List Interval) → spans low high is ≡ hc.spans low high (map as_interval is)
spans_same low high [] = refl
spans_same low high (i ∷ is) =
    ap (λ x. if nat_le i.low low then x else spans low high is) (spans_same (max low (i.high + 1)) high is)
    ∙ ap (λ y. if nat_le i.low low then hc.spans (max low (i.high + 1)) high (map as_interval is) else y) (spans_same low high is)

pub within_same : (is js : List Interval) → box_within is js ≡ hc.box_within (map as_interval is) (map as_interval js)
within_same [] [] = refl
within_same [] (j ∷ js) = refl
within_same (i ∷ is) [] = refl
within_same (i ∷ is) (j ∷ js) = ap (λ y. within i j && y) (within_same is js)

pub has_same : (is : List Interval) (vs : List ℕ) → box_has is vs ≡ hc.box_has (map as_interval is) vs
has_same [] [] = refl
has_same [] (v ∷ vs) = refl
has_same (i ∷ is) [] = refl
has_same (i ∷ is) (v ∷ vs) = ap (λ y. (nat_le i.low v && nat_le v i.high) && y) (has_same is vs)

pub fills_same : (is : List Interval) (i : Interval) → fills is i ≡ hc.fills (map as_interval is) (as_interval i)
fills_same is i = spans_same i.low i.high is

pub fills_all : (js is : List Interval) → fills_each js is ≡ hc.each (hc.fills (map as_interval js)) (map as_interval is)
fills_all js [] = refl
fills_all js (i ∷ is) =
    and_same (fills js i) (hc.fills (map as_interval js) (as_interval i)) (fills_each js is) (hc.each (hc.fills (map as_interval js)) (map as_interval is))
    (fills_same js i) (fills_all js is)

pub place_same : (p q : PlaceTree) → place_within p q ≡ hc.place_within (as_place p) (as_place q)
place_same p q =
    and_same (box_within p.cells q.cells) (hc.box_within (map as_interval p.cells) (map as_interval q.cells))
    (box_within p.owed q.owed) (hc.box_within (map as_interval p.owed) (map as_interval q.owed)) (within_same p.cells q.cells) (within_same p.owed q.owed)

pub place_among : (p : PlaceTree) (qs : List PlaceTree) → has_place p qs ≡ hc.one (hc.place_within (as_place p)) (map as_place qs)
place_among p [] = refl
place_among p (q ∷ qs) =
    or_same (place_within p q) (hc.place_within (as_place p) (as_place q)) (has_place p qs) (hc.one (hc.place_within (as_place p)) (map as_place qs))
    (place_same p q) (place_among p qs)

pub covers_same : (ps qs : List PlaceTree) → covers_places ps qs ≡ hc.covers hc.place_within (map as_place ps) (map as_place qs)
covers_same [] qs = refl
covers_same (p ∷ ps) qs =
    and_same (has_place p qs) (hc.one (hc.place_within (as_place p)) (map as_place qs)) (covers_places ps qs) (hc.covers hc.place_within (map as_place ps) (map as_place qs))
    (place_among p qs) (covers_same ps qs)

part_same : (n : ℕ) (x : Option PartTree) → is_part_at n x ≡ mc.is_part_at n x
part_same n None = refl
part_same n (Some q) = refl

device_same : (n : ℕ) (x : Option AppDevice) → is_device_at n x ≡ mc.is_device_at n x
device_same n None = refl
device_same n (Some q) = refl

pub module_freed : (app : AppTree) (f : Freed) (m : ℕ) → frees_module app f m ≡ hd.frees_module app (as_freed f) m
module_freed app Nobody m = refl
module_freed app (Only k) m = refl
module_freed app (AtNode n) m = part_same n (slice_get app.parts m)

pub device_freed : (app : AppTree) (f : Freed) (d : ℕ) → frees_device app f d ≡ hd.frees_device app (as_freed f) d
device_freed app Nobody d = refl
device_freed app (Only k) d = refl
device_freed app (AtNode n) d = device_same n (slice_get app.devices d)

pub absents_same : (app : AppTree) (f : Freed) (n : ℕ) (bs : List Bool) (new : RowTree) → absents_stay app f n bs new.absent
    ≡ hc.each_from (λ m b. hd.frees_module app (as_freed f) m || (not b || hc.may_absent (as_row new) m)) n bs
absents_same app f n [] new = refl
absents_same app f n (b ∷ bs) new =
    and_same (absent_stays app f n b new.absent) (hd.frees_module app (as_freed f) n || (not b || hc.may_absent (as_row new) n))
    (absents_stay app f (n + 1) bs new.absent) (hc.each_from (λ m b. hd.frees_module app (as_freed f) m || (not b || hc.may_absent (as_row new) m)) (n + 1) bs)
    (ap (λ x. x || (not b || is_set new.absent n)) (module_freed app f n)) (absents_same app f (n + 1) bs new)

pub places_same : (app : AppTree) (f : Freed) (n : ℕ) (pss : List (List PlaceTree)) (new : RowTree) → places_stay app f n pss new.places
    ≡ hc.each_from (λ m xs. hd.frees_module app (as_freed f) m || hc.covers hc.place_within xs (ht.at (as_row new).places m)) n (map (map as_place) pss)
places_same app f n [] new = refl
places_same app f n (ps ∷ pss) new =
    and_same (places_list_stays app f n ps new.places) (hd.frees_module app (as_freed f) n || hc.covers hc.place_within (map as_place ps) (ht.at (as_row new).places n))
    (places_stay app f (n + 1) pss new.places) (hc.each_from
    (λ m xs. hd.frees_module app (as_freed f) m || hc.covers hc.place_within xs (ht.at (as_row new).places m)) (n + 1) (map (map as_place) pss))
    (or_same (frees_module app f n) (hd.frees_module app (as_freed f) n) (covers_places ps (places_at new.places n)) (hc.covers hc.place_within (map as_place ps) (ht.at (as_row new).places n))
    (module_freed app f n)
    (covers_same ps (places_at new.places n) ∙ ap (λ l. hc.covers hc.place_within (map as_place ps) l) (at_map as_place new.places n)))
    (places_same app f (n + 1) pss new)

at_fills : (xss : List (List Interval)) (n : ℕ) (xs : List Interval) → fills_each (values_at xss n) xs ≡ hc.each (hc.fills (ht.at (map (map as_interval) xss) n)) (map as_interval xs)
at_fills xss n xs = fills_all (values_at xss n) xs ∙ ap (λ l. hc.each (hc.fills l) (map as_interval xs)) (at_map as_interval xss n)

pub readings_same : (app : AppTree) (f : Freed) (n : ℕ) (old new : List (List Interval)) → values_stay app f n old new
    ≡ hc.each_from (λ d xs. hd.frees_device app (as_freed f) d || hc.each (hc.fills (ht.at (map (map as_interval) new) d)) xs) n (map (map as_interval) old)
readings_same app f n [] new = refl
readings_same app f n (xs ∷ xss) new =
    and_same (list_stays app f n xs new) (hd.frees_device app (as_freed f) n || hc.each (hc.fills (ht.at (map (map as_interval) new) n)) (map as_interval xs))
    (values_stay app f (n + 1) xss new) (hc.each_from (λ d xs. hd.frees_device app (as_freed f) d || hc.each (hc.fills (ht.at (map (map as_interval) new) d)) xs) (n + 1) (map (map as_interval) xss))
    (or_same (frees_device app f n) (hd.frees_device app (as_freed f) n) (fills_each (values_at new n) xs) (hc.each (hc.fills (ht.at (map (map as_interval) new) n)) (map as_interval xs))
    (device_freed app f n) (at_fills new n xs))
    (readings_same app f (n + 1) xss new)

pub words_same : (app : AppTree) (n : ℕ) (old new : List (List Interval)) → values_stay app Nobody n old new
    ≡ hc.each_from (λ c xs. hc.each (hc.fills (ht.at (map (map as_interval) new) c)) xs) n (map (map as_interval) old)
words_same app n [] new = refl
words_same app n (xs ∷ xss) new =
    and_same (list_stays app Nobody n xs new) (hc.each (hc.fills (ht.at (map (map as_interval) new) n)) (map as_interval xs))
    (values_stay app Nobody (n + 1) xss new) (hc.each_from (λ c xs. hc.each (hc.fills (ht.at (map (map as_interval) new) c)) xs) (n + 1) (map (map as_interval) xss))
    (at_fills new n xs) (words_same app (n + 1) xss new)

pub words : (app : AppTree) (modules devices : Freed) (r new : RowTree) → stays app modules devices r new
    ≡ hc.stays (hd.frees_module app (as_freed modules)) (hd.frees_device app (as_freed devices)) (as_row r) (as_row new)
words app modules devices r new =
    let w = words_same app 0 r.words new.words in
    let e = readings_same app devices 0 r.readings new.readings in
    let p = places_same app modules 0 r.places new in
    let a = absents_same app modules 0 r.absent new in
    ap (λ x. x && (places_stay app modules 0 r.places new.places && (values_stay app devices 0 r.readings new.readings && values_stay app Nobody 0 r.words new.words))) a
    ∙ ap (λ x. hc.each_from (λ m b. hd.frees_module app (as_freed modules) m || (not b || hc.may_absent (as_row new) m)) 0 r.absent
    && (x && (values_stay app devices 0 r.readings new.readings && values_stay app Nobody 0 r.words new.words))) p
    ∙ ap (λ x. hc.each_from (λ m b. hd.frees_module app (as_freed modules) m || (not b || hc.may_absent (as_row new) m)) 0 r.absent
    && (hc.each_from (λ m xs. hd.frees_module app (as_freed modules) m || hc.covers hc.place_within xs (ht.at (as_row new).places m)) 0 (map (map as_place) r.places)
    && (x && values_stay app Nobody 0 r.words new.words))) e
    ∙ ap (λ x. hc.each_from (λ m b. hd.frees_module app (as_freed modules) m || (not b || hc.may_absent (as_row new) m)) 0 r.absent
    && (hc.each_from (λ m xs. hd.frees_module app (as_freed modules) m || hc.covers hc.place_within xs (ht.at (as_row new).places m)) 0 (map (map as_place) r.places)
    && (hc.each_from (λ d xs. hd.frees_device app (as_freed devices) d || hc.each (hc.fills (ht.at (map (map as_interval) new.readings) d)) xs) 0 (map (map as_interval) r.readings)
    && x))) w
