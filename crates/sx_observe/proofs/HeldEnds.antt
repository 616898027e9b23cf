-- Whether a module has an end, by the connection.
use Rattle.std.proofs.Common.{◌≡◌, ℕ, zero, suc, ◌+◌, ◌<◌, ◌==◌, ◌&&◌, ◌||◌, Bool, true, false, if◌then◌else◌, List, [], ◌∷◌, Option, Some, None, refl, subst, ap, ◌∙◌, arith}
use Rattle.std.specs.Prelude.{slice_get}
use Rattle.std.specs.List.{list_any, cons_option}
use Rattle.std.proofs.lemmas.Bool.{eq-eqb, ne_eqb}
use Rattle.sx_lang.specs.declared.sides.Side.{Side}
use Rattle.sx_lang.specs.declared.sides.Side.TheVariants.{From, To}
use Rattle.sx_mean.specs.declared.apps.Link.{Link}
use Rattle.sx_mean.specs.declared.events.End.{End}
use Rattle.sx_mean.specs.Ends.{ends_after, sending, receiving}
use Rattle.sx_observe.specs.Computed.{at_side, is_held}
use Rattle.spec_run.specs.Observation.{is_end}

abbrev is_one : (End → Bool) → Option End → Bool
is_one test None = false
is_one test (Some e) = test e

one_more : (test : End → Bool) (o : Option End) (es : List End) → list_any test (cons_option o es) ≡ (is_one test o || list_any test es)
one_more test None es = refl
one_more test (Some e) es = refl

from_hits : (k n p q : ℕ) (c a b : Bool) → (n == k) ≡ c
    → (is_one (is_end k From) (if a then Some (record { link = n; side = From; port = p }) else None)
    || is_one (is_end k From) (if b then Some (record { link = n; side = To; port = q }) else None)) ≡ (c && a)
from_hits k n p q true true true h = ap (λ x. (x && true) || (x && false)) h
from_hits k n p q true true false h = ap (λ x. (x && true) || false) h
from_hits k n p q true false true h = ap (λ x. x && false) h
from_hits k n p q true false false h = refl
from_hits k n p q false true true h = ap (λ x. (x && true) || (x && false)) h
from_hits k n p q false true false h = ap (λ x. (x && true) || false) h
from_hits k n p q false false true h = ap (λ x. x && false) h
from_hits k n p q false false false h = refl

to_hits : (k n p q : ℕ) (c a b : Bool) → (n == k) ≡ c
    → (is_one (is_end k To) (if a then Some (record { link = n; side = From; port = p }) else None)
    || is_one (is_end k To) (if b then Some (record { link = n; side = To; port = q }) else None)) ≡ (c && b)
to_hits k n p q true true true h = ap (λ x. (x && false) || (x && true)) h
to_hits k n p q true true false h = ap (λ x. (x && false) || false) h
to_hits k n p q true false true h = ap (λ x. x && true) h
to_hits k n p q true false false h = refl
to_hits k n p q false true true h = ap (λ x. (x && false) || (x && true)) h
to_hits k n p q false true false h = ap (λ x. (x && false) || false) h
to_hits k n p q false false true h = ap (λ x. x && true) h
to_hits k n p q false false false h = refl

hits : (side : Side) (k n m : ℕ) (l : Link) (c : Bool) → (n == k) ≡ c → (is_one (is_end k side) (sending n m l) || is_one (is_end k side) (receiving n m l)) ≡ (c && at_side m side l)
hits From k n m l c h = from_hits k n l.output l.input c (l.from == m) (l.to == m) h
hits To k n m l c h = to_hits k n l.output l.input c (l.from == m) (l.to == m) h

or_same : (a b c : Bool) → (a || (b || c)) ≡ ((a || b) || c)
or_same true b c = refl
or_same false b c = refl

first : (side : Side) (k n m : ℕ) (l : Link) (ls : List Link) (c : Bool) → (n == k) ≡ c
    → list_any (is_end k side) (ends_after n m (l ∷ ls)) ≡ ((c && at_side m side l) || list_any (is_end k side) (ends_after (n + 1) m ls))
first side k n m l ls c h =
    let rest = list_any (is_end k side) (ends_after (n + 1) m ls) in
    one_more (is_end k side) (sending n m l) (cons_option (receiving n m l) (ends_after (n + 1) m ls))
    ∙ ap (λ x. is_one (is_end k side) (sending n m l) || x) (one_more (is_end k side) (receiving n m l) (ends_after (n + 1) m ls))
    ∙ or_same (is_one (is_end k side) (sending n m l)) (is_one (is_end k side) (receiving n m l)) rest
    ∙ ap (λ x. x || rest) (hits side k n m l c h)

below : (side : Side) (k n m : ℕ) (ls : List Link) → k < n → list_any (is_end k side) (ends_after n m ls) ≡ false
below side k n m [] h = refl
below side k n m (l ∷ ls) h = first side k n m l ls false (ne_eqb n k (λ e. absurd (omega (arith, e, h)))) ∙ below side k (n + 1) m ls (omega (arith, h))

or_none : (a b : Bool) → b ≡ false → (a || b) ≡ a
or_none true b h = refl
or_none false b h = h

at_place : (side : Side) (c n m : ℕ) (ls : List Link) → list_any (is_end (n + c) side) (ends_after n m ls) ≡ is_held m side (slice_get ls c)
at_place side c n m [] = refl
at_place side zero n m (l ∷ ls) =
    first side (n + 0) n m l ls true (eq-eqb n (n + 0) (omega arith)) ∙ or_none (at_side m side l)
    (list_any (is_end (n + 0) side) (ends_after (n + 1) m ls)) (below side (n + 0) (n + 1) m ls (omega arith))
at_place side (suc c) n m (l ∷ ls) =
    first side (n + suc c) n m l ls false (ne_eqb n (n + suc c) (λ e. absurd (omega (arith, e))))
    ∙ subst (λ k. list_any (is_end k side) (ends_after (n + 1) m ls) ≡ is_held m side (slice_get ls c)) (omega arith) (at_place side c (n + 1) m ls)

-- a module has the end exactly where the connection's side is at it
pub held_at : (side : Side) (c m : ℕ) (ls : List Link) → list_any (is_end c side) (ends_after 0 m ls) ≡ is_held m side (slice_get ls c)
held_at side c m ls = subst (λ k. list_any (is_end k side) (ends_after 0 m ls) ≡ is_held m side (slice_get ls c)) (omega arith) (at_place side c 0 m ls)
