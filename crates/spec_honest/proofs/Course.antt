-- What is kept by each reading and each delivery holds of a whole course.
use Rattle.std.proofs.Common.{◌≡◌, ℕ, zero, suc, ◌+◌, ◌≤◌, Bool, true, false, if◌then◌else◌, List, [], ◌∷◌, length, Option, Some, None, slice_get, refl, ap, subst, arith}
use Rattle.std.specs.List.{All}
use Rattle.std.specs.Option.{option_map_or}
use Rattle.std.proofs.lemmas.List.Elements.{All-head, All-tail}
use Rattle.std.proofs.lemmas.List.{length-append}
use Rattle.std.proofs.lemmas.Option.{same_Some}
use Rattle.sx_mean.specs.declared.events.SourceEvent.{SourceEvent}
use Rattle.sx_mean.specs.declared.events.SourceEvent.TheVariants as event
use Rattle.sx_mean.specs.Application.{AppTree, PartTree}
use Rattle.spec_honest.specs.Plain.{Plain, Sampling, Waiting, acts_send, delivers, driver_of, goes_in, is_still, oldest, reacted, reaction, reacts}
use Rattle.spec_honest.specs.Course.{Course, IsSampling, delivered, played, sensed, settled}

abbrev pub total : Course → ℕ
total c = length c.past + length c.plain.waiting

-- a reaction adds to what waits

reacted_more : (app : AppTree) (p : ℕ) (e : SourceEvent) (s : Plain) (q : PartTree) → length s.waiting ≤ length (reacted app p e s q).waiting
reacted_more app p e s q = let n = length-append s.waiting (acts_send app.links p (reaction p q e s.cells).acts) in omega (arith, n)

-- and so does what reacts where something is there
more_where : {A : Type 0} (f : A → Plain) (s : Plain) → ((x : A) → length s.waiting ≤ length (f x).waiting) → (o : Option A) → length s.waiting ≤ length (option_map_or f o s).waiting
more_where f s h None = omega arith
more_where f s h (Some x) = h x

reacts_more : (app : AppTree) (p : ℕ) (e : SourceEvent) (s : Plain) → length s.waiting ≤ length (reacts app p e s).waiting
reacts_more app p e s = more_where (reacted app p e s) s (reacted_more app p e s) (slice_get app.parts p)

sensed_more : (app : AppTree) (r : Sampling) (c : Course) → total c ≤ total (sensed app r c)
sensed_more app r c =
    let more = more_where (λ p. reacts app p (event.Sample r.value) c.plain) c.plain (λ p. reacts_more app p (event.Sample r.value) c.plain) (driver_of app r.device) in
    omega (arith, more)

delivered_more : (app : AppTree) (w : Waiting) (ws : List Waiting) (c : Course) → c.plain.waiting ≡ w ∷ ws → total c ≤ total (delivered app w ws c)
delivered_more app w ws c e =
    let t : Plain = record c.plain { waiting = ws } in
    let more : length ws ≤ length (delivers app w ws c.plain).waiting = more_where (goes_in app w.value t) t (λ l. reacts_more app l.to (event.Input l.input w.value) t) (slice_get app.links w.link) in
    let n : length c.plain.waiting ≡ suc (length ws) = ap length e in
    omega (arith, length-append c.past (w ∷ []), more, n)

-- What is kept by each reading and each delivery, where at most so many values are put on their way.
pub record Keeps (app : AppTree) (most : ℕ) (P : Course → Type 0) : Type 0 where
  pub reading : (r : Sampling) (c : Course) → IsSampling app r → c.plain.waiting ≡ [] → P c → total (sensed app r c) ≤ most → P (sensed app r c)
  pub delivery : (w : Waiting) (ws : List Waiting) (c : Course) → c.plain.waiting ≡ w ∷ ws → P c → total (delivered app w ws c) ≤ most → P (delivered app w ws c)

settled_more : (app : AppTree) (n : ℕ) (c : Course) → total c ≤ total (settled app n c)
settled_more app zero c = omega arith
settled_more app (suc n) c = go c.plain.waiting refl (λ d. settled_more app n d)
  where
    go : (ws : List Waiting) → c.plain.waiting ≡ ws → ((d : Course) → total d ≤ total (settled app n d)) → total c ≤ total (oldest c (λ w ws. settled app n (delivered app w ws c)) ws)
    go [] e more = omega arith
    go (w ∷ ws) e more = let a = delivered_more app w ws c e in let b = more (delivered app w ws c) in omega (arith, a, b)

settled_keeps : (app : AppTree) (most : ℕ) (P : Course → Type 0) → Keeps app most P → (n : ℕ) (c : Course) → P c → total (settled app n c) ≤ most → P (settled app n c)
settled_keeps app most P k zero c p few = p
settled_keeps app most P k (suc n) c p few = go c.plain.waiting refl (λ d. settled_keeps app most P k n d) few
  where
    go : (ws : List Waiting) → c.plain.waiting ≡ ws → ((d : Course) → P d → total (settled app n d) ≤ most → P (settled app n d))
        → total (oldest c (λ w ws. settled app n (delivered app w ws c)) ws) ≤ most → P (oldest c (λ w ws. settled app n (delivered app w ws c)) ws)
    go [] e more few = p
    go (w ∷ ws) e more few =
        let a : total (delivered app w ws c) ≤ most = (let b = settled_more app n (delivered app w ws c) in omega (arith, b, few)) in
        more (delivered app w ws c) (k.delivery w ws c e p a) few

pub still_is : (ws : List Waiting) → is_still ws ≡ true → ws ≡ []
still_is [] h = refl
still_is (w ∷ ws) h = absurd cc

pub record PlayedOn (app : AppTree) (n : ℕ) (rs : List Sampling) (d e : Course) : Type 0 where
  pub still : d.plain.waiting ≡ []
  pub more : played app n rs d ≡ Some e

pub played_on : (app : AppTree) (n : ℕ) (rs : List Sampling) (d e : Course) → (if is_still d.plain.waiting then played app n rs d else None) ≡ Some e → PlayedOn app n rs d e
played_on app n rs d e h = go (is_still d.plain.waiting) refl h
  where
    go : (b : Bool) → is_still d.plain.waiting ≡ b → (if b then played app n rs d else None) ≡ Some e → PlayedOn app n rs d e
    go true t h = record { still = still_is d.plain.waiting t; more = h }
    go false t h = absurd cc

played_more : (app : AppTree) (n : ℕ) (rs : List Sampling) (c e : Course) → played app n rs c ≡ Some e → total c ≤ total e
played_more app n [] c e h = subst (λ (d : Course). total c ≤ total d) (same_Some c e h) (omega arith)
played_more app n (r ∷ rs) c e h =
    let d = settled app n (sensed app r c) in
    let on = played_on app n rs d e h in
    let a = sensed_more app r c in
    let b = settled_more app n (sensed app r c) in
    let z = played_more app n rs d e on.more in
    omega (arith, a, b, z)

-- what is kept holds at the end, and nothing waits there
pub played_keeps : (app : AppTree) (most : ℕ) (P : Course → Type 0) → Keeps app most P → (n : ℕ) (rs : List Sampling) (c e : Course) → All (IsSampling app) rs → P c
    → c.plain.waiting ≡ [] → played app n rs c ≡ Some e → total e ≤ most → P e × (e.plain.waiting ≡ [])
played_keeps app most P k n [] c e all p still h few = subst (λ (d : Course). P d × (d.plain.waiting ≡ [])) (same_Some c e h) (p, still)
played_keeps app most P k n (r ∷ rs) c e all p still h few =
    let d = settled app n (sensed app r c) in
    let on = played_on app n rs d e h in
    let b = settled_more app n (sensed app r c) in
    let z = played_more app n rs d e on.more in
    let first : total (sensed app r c) ≤ most = omega (arith, b, z, few) in
    let there : total d ≤ most = omega (arith, z, few) in
    let begun = k.reading r c (All-head (IsSampling app) r rs all) still p first in
    played_keeps app most P k n rs d e (All-tail (IsSampling app) r rs all) (settled_keeps app most P k n (sensed app r c) begun there) on.still on.more few
