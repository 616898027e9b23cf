-- The ends that the loop lists are those that the module holds.
use Rattle.std.proofs.Common.{◌≡◌, ℕ, ◌+◌, ◌≤◌, ◌==◌, if◌then◌else◌, Bool, true, false, List, [], ◌∷◌, length, map, Some, None, refl, ap, ◌∙◌, arith}
use Rattle.std.specs.List.{cons_option}
use Rattle.sx_lang.specs.declared.sides.Side.TheVariants.{From, To}
use Rattle.sx_mean.specs.declared.apps.Link.{Link}
use Rattle.sx_mean.specs.declared.events.End.{End}
use Rattle.sx_mean.specs.Application.{AppTree}
use Rattle.sx_mean.specs.Ends as mean
use Rattle.sx_deploy.specs.Ties.{byte}
use Rattle.sx_deploy.specs.Ends.{AreHeld, end_as, ends_after, ends_held}
use Rattle.std.proofs.Common.{Result, Ok, Err, IfOk, Vec, Global}

all_held : (ls : List Link) (n p : ℕ) → ends_after n p ls ≡ map end_as (mean.ends_after n p ls)
all_held [] n p = refl
all_held (l ∷ ls) n p = go (l.from == p) (l.to == p) (all_held ls (n + 1) p)
  where
    go : (a b : Bool) → ends_after (n + 1) p ls ≡ map end_as (mean.ends_after (n + 1) p ls)
        → cons_option (if a then Some (record { link = byte n; side = From; port = l.output }) else None)
        (cons_option (if b then Some (record { link = byte n; side = To; port = l.input }) else None) (ends_after (n + 1) p ls))
        ≡ map end_as (cons_option (if a then Some (record { link = n; side = From; port = l.output }) else None)
        (cons_option (if b then Some (record { link = n; side = To; port = l.input }) else None) (mean.ends_after (n + 1) p ls)))
    go true true h = ap (λ es. record { link = byte n; side = From; port = l.output } ∷ record { link = byte n; side = To; port = l.input } ∷ es) h
    go true false h = ap (λ es. record { link = byte n; side = From; port = l.output } ∷ es) h
    go false true h = ap (λ es. record { link = byte n; side = To; port = l.input } ∷ es) h
    go false false h = h

-- numbers below 256 are bytes
same_held : (ls : List Link) (n p : ℕ) → n + length ls ≤ 256 → ends_after n p ls ≡ mean.ends_after n p ls
same_held [] n p h = refl
same_held (l ∷ ls) n p h = go (l.from == p) (l.to == p) (omega (arith, h)) (same_held ls (n + 1) p (omega (arith, h)))
  where
    go : (a b : Bool) → byte n ≡ n → ends_after (n + 1) p ls ≡ mean.ends_after (n + 1) p ls
        → cons_option (if a then Some (record { link = byte n; side = From; port = l.output }) else None)
        (cons_option (if b then Some (record { link = byte n; side = To; port = l.input }) else None) (ends_after (n + 1) p ls))
        ≡ cons_option (if a then Some (record { link = n; side = From; port = l.output }) else None)
        (cons_option (if b then Some (record { link = n; side = To; port = l.input }) else None) (mean.ends_after (n + 1) p ls))
    go a b e h =
        ap (λ k. cons_option (if a then Some (record { link = k; side = From; port = l.output }) else None)
        (cons_option (if b then Some (record { link = k; side = To; port = l.input }) else None) (ends_after (n + 1) p ls))) e
        ∙ ap (λ es. cons_option (if a then Some (record { link = n; side = From; port = l.output }) else None)
        (cons_option (if b then Some (record { link = n; side = To; port = l.input }) else None) es)) h

pub are_held : (app : AppTree) (p : ℕ) (ends : List End) → ends ≡ ends_held app.links p → AreHeld app p ends
are_held app p ends h = record {
  all = h ∙ all_held app.links 0 p;
  few = λ few. h ∙ same_held app.links 0 p (omega (arith, few));
}

-- the ends that a call gives, where it gives some
pub held_if : {E : Type 0} (app : AppTree) (p : ℕ) (r : Result (Vec End Global) E)
    → IfOk r (λ ends. ends.items ≡ ends_held app.links p) → IfOk r (λ ends. AreHeld app p ends.items)
held_if app p (Ok ends) h = are_held app p ends.items h
held_if app p (Err e) h = tt
