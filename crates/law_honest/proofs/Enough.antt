-- The number of deliveries is no limit: where nothing waits any more, or where lines are few.
use Rattle.std.proofs.Common.{◌≡◌, ℕ, zero, suc, ◌+◌, ◌*◌, ◌≤◌, ◌⊎◌, inl, inr, List, [], ◌∷◌, ◌++◌, length, length-append, append_assoc, refl, sym, ◌∙◌, ap, arith}
use Rattle.sx_mean.specs.Application.{AppTree}
use Rattle.sx_sched.specs.Lines.{Line}
use Rattle.spec_honest.specs.Plain.{MOST_DELIVERIES, Waiting, oldest}
use Rattle.spec_honest.specs.Course.{Course, delivered, lines_so_far, settled}
use Rattle.law_delivery.specs.Schedule.{delivery_lines, settling_lines}
use Rattle.sx_drive.specs.Honest.{MOST_LINES}

-- Nothing waits after some deliveries, or as many were made.

pub settled_or : (app : AppTree) (n : ℕ) (c : Course) → ((settled app n c).plain.waiting ≡ []) ⊎ (length (settled app n c).past ≡ length c.past + n)
settled_or app zero c = inr (omega arith)
settled_or app (suc n) c = go c.plain.waiting refl (λ d. settled_or app n d)
  where
    go : (xs : List Waiting) → c.plain.waiting ≡ xs → ((d : Course) → ((settled app n d).plain.waiting ≡ []) ⊎ (length (settled app n d).past ≡ length d.past + n))
        → ((oldest c (λ x ws. settled app n (delivered app x ws c)) xs).plain.waiting ≡ []) ⊎ (length (oldest c (λ x ws. settled app n (delivered app x ws c)) xs).past ≡ length c.past + suc n)
    go [] e more = inl e
    go (x ∷ ws) e more =
        let one : length (c.past ++ x ∷ []) ≡ length c.past + 1 = length-append c.past (x ∷ []) in
        elim (more (delivered app x ws c)) [ inl still ↦ inl still | inr far ↦ inr (omega (arith, far, one)) ]

-- three lines for each delivery are more than a schedule has
pub still_at : (app : AppTree) (n k : ℕ) (c : Course) → 65536 ≤ n → lines_so_far app k (settled app n c) ≤ 65536 → (settled app n c).plain.waiting ≡ []
still_at app n k c most few = elim (settled_or app n c) [ inl still ↦ still | inr far ↦ absurd (omega (arith, far, most, few)) ]

pub most_lines : 65536 ≤ MOST_LINES
unfolding MOST_LINES
most_lines = omega arith

-- Where nothing waits any more, further deliveries are none.

-- at most m deliveries are the same as at most n
pub record Same (app : AppTree) (n m : ℕ) (c : Course) : Type 0 where
  pub course : settled app m c ≡ settled app n c
  pub lines : settling_lines app m c ≡ settling_lines app n c

none_more : (app : AppTree) (m : ℕ) (c : Course) → c.plain.waiting ≡ [] → Same app 0 m c
none_more app zero c e = record { course = refl; lines = refl }
none_more app (suc m) c e = record {
  course = ap (λ (xs : List Waiting). oldest c (λ x ws. settled app m (delivered app x ws c)) xs) e;
  lines = ap (λ (xs : List Waiting). oldest [] (λ x ws. delivery_lines app x c ++ settling_lines app m (delivered app x ws c)) xs) e;
}

pub same_settled : (app : AppTree) (n m : ℕ) (c : Course) → n ≤ m → (settled app n c).plain.waiting ≡ [] → Same app n m c
same_settled app zero m c le still = none_more app m c still
same_settled app (suc n) zero c le still = absurd (omega (arith, le))
same_settled app (suc n) (suc m) c le still =
    let both = go c.plain.waiting still (λ d s. same_settled app n m d (omega (arith, le)) s) in
    record { course = both.0; lines = both.1 }
  where
    go : (xs : List Waiting) → (oldest c (λ x ws. settled app n (delivered app x ws c)) xs).plain.waiting ≡ [] → ((d : Course) → (settled app n d).plain.waiting ≡ [] → Same app n m d)
        → (oldest c (λ x ws. settled app m (delivered app x ws c)) xs ≡ oldest c (λ x ws. settled app n (delivered app x ws c)) xs)
        × (oldest [] (λ x ws. delivery_lines app x c ++ settling_lines app m (delivered app x ws c)) xs ≡ oldest [] (λ x ws. delivery_lines app x c ++ settling_lines app n (delivered app x ws c)) xs)
    go [] s more = (refl, refl)
    go (x ∷ ws) s more =
        let same = more (delivered app x ws c) s in (
          same.course,
          ap (λ (ls : List Line). delivery_lines app x c ++ ls) same.lines,
        )

-- at most m deliveries begin with at most n
pub more_settling : (app : AppTree) (n m : ℕ) (c : Course) → n ≤ m → (right : List Line) × (settling_lines app m c ≡ settling_lines app n c ++ right)
more_settling app zero m c le = (settling_lines app m c, refl)
more_settling app (suc n) zero c le = absurd (omega (arith, le))
more_settling app (suc n) (suc m) c le = go c.plain.waiting (λ d. more_settling app n m d (omega (arith, le)))
  where
    go : (xs : List Waiting) → ((d : Course) → (right : List Line) × (settling_lines app m d ≡ settling_lines app n d ++ right))
        → (right : List Line) × (oldest [] (λ x ws. delivery_lines app x c ++ settling_lines app m (delivered app x ws c)) xs
        ≡ oldest [] (λ x ws. delivery_lines app x c ++ settling_lines app n (delivered app x ws c)) xs ++ right)
    go [] more = ([], refl)
    go (x ∷ ws) more =
        let r = more (delivered app x ws c) in (
          r.0,
          ap (λ (ls : List Line). delivery_lines app x c ++ ls) r.1 ∙ sym (append_assoc (delivery_lines app x c) (settling_lines app n (delivered app x ws c)) r.0),
        )

pub fewer_deliveries : MOST_DELIVERIES ≤ MOST_LINES
unfolding MOST_DELIVERIES MOST_LINES
fewer_deliveries = omega arith

-- three lines for each of them
pub enough_deliveries : 65535 ≤ 3 * MOST_DELIVERIES
unfolding MOST_DELIVERIES
enough_deliveries = omega arith
