-- More deliveries than are due change nothing.
use Rattle.std.proofs.Common.{◌≡◌, ℕ, zero, suc, ◌+◌, ◌*◌, ◌≤◌, List, [], ◌∷◌, length, Some, refl, ap, ◌∙◌, subst, arith}
use Rattle.std.proofs.lemmas.List.{length-append}
use Rattle.std.proofs.lemmas.Option.{same_Some}
use Rattle.sx_mean.specs.Application.{AppTree}
use Rattle.spec_honest.specs.Plain.{MOST_DELIVERIES, Sampling, Waiting, oldest}
use Rattle.spec_honest.specs.Course.{Course, course_start, delivered, played, sensed, settled}
use Rattle.spec_honest.specs.Laws.{DeliveriesAreEnough}
use Rattle.spec_honest.proofs.Course.{played_on}

settled_still : (app : AppTree) (n : ℕ) (c : Course) → c.plain.waiting ≡ [] → settled app n c ≡ c
settled_still app zero c h = refl
settled_still app (suc n) c h = rw h refl

delivered_past : (app : AppTree) (w : Waiting) (ws : List Waiting) (c : Course) → length (delivered app w ws c).past ≡ length c.past + 1
delivered_past app w ws c = length-append c.past (w ∷ [])

settled_past : (app : AppTree) (n : ℕ) (c : Course) → length c.past ≤ length (settled app n c).past
settled_past app zero c = omega arith
settled_past app (suc n) c = go c.plain.waiting (λ d. settled_past app n d)
  where
    go : (ws : List Waiting) → ((d : Course) → length d.past ≤ length (settled app n d).past) → length c.past ≤ length (oldest c (λ w ws. settled app n (delivered app w ws c)) ws).past
    go [] more = omega arith
    go (w ∷ ws) more = let a = more (delivered app w ws c) in let b = delivered_past app w ws c in omega (arith, a, b)

settled_same : (app : AppTree) (n m : ℕ) (c : Course) → (settled app n c).plain.waiting ≡ [] → length (settled app n c).past ≤ length c.past + m → settled app m c ≡ settled app n c
settled_same app zero m c still few = settled_still app m c still
settled_same app (suc n) m c still few = go c.plain.waiting refl still few
    (λ k d s f. settled_same app n k d s f)
  where
    go : (ws : List Waiting) → c.plain.waiting ≡ ws → (oldest c (λ w ws. settled app n (delivered app w ws c)) ws).plain.waiting ≡ []
        → length (oldest c (λ w ws. settled app n (delivered app w ws c)) ws).past ≤ length c.past + m
        → ((k : ℕ) (d : Course) → (settled app n d).plain.waiting ≡ [] → length (settled app n d).past ≤ length d.past + k → settled app k d ≡ settled app n d)
        → settled app m c ≡ oldest c (λ w ws. settled app n (delivered app w ws c)) ws
    go [] e still few more = settled_still app m c e
    go (w ∷ ws) e still few more = at m few
      where
        at : (m : ℕ) → length (settled app n (delivered app w ws c)).past ≤ length c.past + m → settled app m c ≡ settled app n (delivered app w ws c)
        at zero few =
            absurd (let a = settled_past app n (delivered app w ws c) in let b = delivered_past app w ws c in omega (arith, a, b, few))
        at (suc k) few =
            let b = delivered_past app w ws c in
            ap (λ xs. oldest c (λ w ws. settled app k (delivered app w ws c)) xs) e ∙ more k (delivered app w ws c) still (omega (arith, few, b))

played_past : (app : AppTree) (n : ℕ) (rs : List Sampling) (c d : Course) → played app n rs c ≡ Some d → length c.past ≤ length d.past
played_past app n [] c d h = subst (λ (d : Course). length c.past ≤ length d.past) (same_Some c d h) (omega arith)
played_past app n (r ∷ rs) c d h =
    let e = settled app n (sensed app r c) in
    let on = played_on app n rs e d h in
    let a = settled_past app n (sensed app r c) in
    let b = played_past app n rs e d on.more in
    omega (arith, a, b)

played_same : (app : AppTree) (n m : ℕ) (rs : List Sampling) (c d : Course) → played app n rs c ≡ Some d → length d.past ≤ length c.past + m → played app m rs c ≡ Some d
played_same app n m [] c d h few = h
played_same app n m (r ∷ rs) c d h few =
    let e = settled app n (sensed app r c) in
    let on = played_on app n rs e d h in
    let a = settled_past app n (sensed app r c) in
    let b = played_past app n rs e d on.more in
    let same : settled app m (sensed app r c) ≡ e = settled_same app n m (sensed app r c) on.still (omega (arith, b, few)) in
    let rest : played app m rs e ≡ Some d = played_same app n m rs e d on.more (omega (arith, a, few)) in
    rw (same, on.still) rest

-- the values of 65,536 lines, three for each
most_are : (n : ℕ) → 3 * n ≤ 65536 → n ≤ MOST_DELIVERIES
unfolding MOST_DELIVERIES
most_are n h = omega (arith, h)

pub deliveries_are_enough : DeliveriesAreEnough
deliveries_are_enough app n m rs c h lines enough =
    let few : length c.past ≤ MOST_DELIVERIES = most_are (length c.past) (omega (arith, lines)) in
    played_same app n m rs (course_start app) c h (omega (arith, few, enough))
