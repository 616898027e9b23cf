-- The first 65,536 lines are the same, whatever the number of deliveries at a reading.
use Rattle.std.proofs.Common.{◌≡◌, ℕ, ◌+◌, ◌*◌, ◌<◌, ◌≤◌, ◌⊎◌, inl, inr, true, List, [], ◌∷◌, ◌++◌, length, length-append, take, append_assoc, refl, sym, ◌∙◌, ap, subst, arith}
use Rattle.std.specs.List.{All}
use Rattle.std.proofs.lemmas.List.{take-append-le}
use Rattle.std.proofs.lemmas.List.Elements.{All-head, All-tail}
use Rattle.sx_mean.specs.Application.{AppTree}
use Rattle.sx_mean.specs.Validity.{is_valid}
use Rattle.sx_sched.specs.Lines.{Line}
use Rattle.spec_run.specs.Setting.{Setting}
use Rattle.spec_honest.specs.Plain.{MOST_DELIVERIES, Sampling}
use Rattle.spec_honest.specs.Course.{Course, IsSampling, course_start, lines_so_far, sensed, settled}
use Rattle.spec_honest.proofs.AsPlain.{IsTold, told_sensed, told_start}
use Rattle.law_setup.specs.Schedule.{setup_schedule}
use Rattle.law_setup.proofs.Counting.{schedule_long}
use Rattle.law_delivery.specs.Schedule.{honest_schedule, reading_lines, readings_lines, settling_lines}
use Rattle.law_delivery.proofs.Fitting.{reading_long, settling_fits}
use Rattle.sx_drive.specs.Honest.{MOST_LINES}
use Rattle.law_honest.proofs.Enough.{enough_deliveries, fewer_deliveries, more_settling, same_settled, settled_or}

-- two lists of lines begin with the same
pub record Begins (xs ys : List Line) : Type 0 where
  pub front : List Line
  pub left : List Line
  pub right : List Line
  pub one : xs ≡ front ++ left
  pub other : ys ≡ front ++ right

-- they are the same, or begin with the same, which with so many lines before are more than a schedule has room for
abbrev pub Alike : List Line → List Line → ℕ → Type 0
Alike xs ys from = (xs ≡ ys) ⊎ ((b : Begins xs ys) × (65536 < length b.front + from))

-- after the same lines
alike_behind : (ls xs ys : List Line) (a b : ℕ) → length ls + a ≡ b → Alike xs ys b → Alike (ls ++ xs) (ls ++ ys) a
alike_behind ls xs ys a b long alike = elim alike [
  | inl same ↦ inl (ap (λ (zs : List Line). ls ++ zs) same)
  | inr begins ↦
      let f = begins.0 in
      let more = length-append ls f.front in
      let many = begins.1 in
      inr ((
        record {
          front = ls ++ f.front;
          left = f.left;
          right = f.right;
          one = ap (λ (zs : List Line). ls ++ zs) f.one ∙ sym (append_assoc ls f.front f.left);
          other = ap (λ (zs : List Line). ls ++ zs) f.other ∙ sym (append_assoc ls f.front f.right);
        },
        omega (arith, long, more, many),
      ))
]

module _ (set : Setting) (valid : is_valid set.app ≡ true) (n m : ℕ) (le : n ≤ m) (enough : 65535 ≤ 3 * n) where
  abbrev app : AppTree
  app = set.app

  -- one reading, and its deliveries
  module _ (k : ℕ) (r : Sampling) (rs : List Sampling) (c : Course) (is : IsSampling set.app r) (h : IsTold set.app c) where
    abbrev s : Course
    s = sensed set.app r c

    abbrev e : Course
    e = settled set.app n s

    abbrev ls : List Line
    ls = reading_lines set.app r c ++ settling_lines set.app n s

    long_to : length ls + lines_so_far set.app k c ≡ lines_so_far set.app (k + 1) e
    long_to =
        let a = length-append (reading_lines set.app r c) (settling_lines set.app n s) in
        let b = reading_long set valid r c is k in
        let d = (settling_fits set valid n (k + 1) s (told_sensed set.app r c is h)).0.long in
        sum (length ls) (length (reading_lines set.app r c)) (length (settling_lines set.app n s)) (lines_so_far set.app k c) (lines_so_far set.app (k + 1) s) (lines_so_far set.app (k + 1) e) a b d
      where
        sum : (x y z a b d : ℕ) → x ≡ y + z → y + a ≡ b → z + b ≡ d → x + a ≡ d
        sum x y z a b d p q r = omega (arith, p, q, r)

    still_alike : (settled set.app m s ≡ e) → settling_lines set.app m s ≡ settling_lines set.app n s
        → Alike (readings_lines set.app m rs e) (readings_lines set.app n rs e) (lines_so_far set.app (k + 1) e)
        → Alike (readings_lines set.app m (r ∷ rs) c) (readings_lines set.app n (r ∷ rs) c) (lines_so_far set.app k c)
    still_alike course lines rest =
        let same : readings_lines set.app m (r ∷ rs) c ≡ ls ++ readings_lines set.app m rs e =
        ap (λ (zs : List Line). reading_lines set.app r c ++ zs ++ readings_lines set.app m rs (settled set.app m s)) lines
        ∙ ap (λ (z : Course). ls ++ readings_lines set.app m rs z) course in
        subst (λ (zs : List Line). Alike zs (ls ++ readings_lines set.app n rs e) (lines_so_far set.app k c)) (sym same)
        (alike_behind ls (readings_lines set.app m rs e) (readings_lines set.app n rs e) (lines_so_far set.app k c) (lines_so_far set.app (k + 1) e) long_to rest)

    far_alike : length e.past ≡ length s.past + n → Alike (readings_lines set.app m (r ∷ rs) c) (readings_lines set.app n (r ∷ rs) c) (lines_so_far set.app k c)
    far_alike far =
        let more = more_settling set.app n m s le in
        let others : List Line = readings_lines set.app m rs (settled set.app m s) in
        let long = long_to in
        inr ((
          record {
            front = ls;
            left = more.0 ++ others;
            right = readings_lines set.app n rs e;
            one =
                ap (λ (zs : List Line). reading_lines set.app r c ++ zs ++ others) more.1
                ∙ ap (λ (zs : List Line). zs ++ others) (sym (append_assoc (reading_lines set.app r c) (settling_lines set.app n s) more.0)) ∙ append_assoc ls more.0 others;
            other = refl;
          },
          omega (arith, long, far, enough),
        ))

  readings_alike : (k : ℕ) (rs : List Sampling) (c : Course) → All (IsSampling app) rs → IsTold app c → Alike (readings_lines app m rs c) (readings_lines app n rs c) (lines_so_far app k c)
  readings_alike k [] c all h = inl refl
  readings_alike k (r ∷ rs) c all h =
      let is = All-head (IsSampling app) r rs all in
      let s : Course = sensed app r c in
      let e : Course = settled app n s in
      let told = (settling_fits set valid n (k + 1) s (told_sensed app r c is h)).1 in
      elim (settled_or app n s) [
        | inl still ↦
            let same = same_settled app n m s le still in
            still_alike k r rs c is h same.course same.lines (readings_alike (k + 1) rs e (All-tail (IsSampling app) r rs all) told)
        | inr far ↦ far_alike k r rs c is h far
      ]

pub schedules_alike : (set : Setting) (rs : List Sampling) → is_valid set.app ≡ true → All (IsSampling set.app) rs
    → Alike (setup_schedule set.app ++ readings_lines set.app MOST_LINES rs (course_start set.app)) (honest_schedule set.app rs) 0
schedules_alike set rs valid all =
    let start : Course = course_start set.app in
    let long = schedule_long set 0 0 set.app.parts in
    alike_behind (setup_schedule set.app) (readings_lines set.app MOST_LINES rs start) (readings_lines set.app MOST_DELIVERIES rs start) 0 (lines_so_far set.app 0 start) (omega (arith, long))
    (readings_alike set valid MOST_DELIVERIES MOST_LINES fewer_deliveries enough_deliveries 0 rs start all (told_start set.app))

-- so many of their first lines are the same
pub first_same : (k : ℕ) (xs ys : List Line) → k ≤ 65536 → Alike xs ys 0 → take k xs ≡ take k ys
first_same k xs ys few alike = elim alike [
  | inl same ↦ ap (λ (zs : List Line). take k zs) same
  | inr begins ↦
      let b = begins.0 in
      let many = begins.1 in
      let within : k ≤ length b.front = omega (arith, many, few) in
      ap (λ (zs : List Line). take k zs) b.one ∙ take-append-le k b.front b.left within ∙ sym (take-append-le k b.front b.right within) ∙ ap (λ (zs : List Line). take k zs) (sym b.other)
]

-- and if the ones are too many, so are the others
pub both_many : (xs ys : List Line) → Alike xs ys 0 → 65536 < length xs → 65536 < length ys
both_many xs ys alike many = elim alike [
  | inl same ↦ subst (λ (zs : List Line). 65536 < length zs) same many
  | inr begins ↦
      let b = begins.0 in
      let front = begins.1 in
      let all = ap (λ (zs : List Line). length zs) b.other ∙ length-append b.front b.right in
      omega (arith, front, all)
]

-- few lines are the same
pub few_same : (xs ys : List Line) → Alike xs ys 0 → length xs ≤ 65536 → xs ≡ ys
few_same xs ys alike few = elim alike [
  | inl same ↦ same
  | inr begins ↦
      let b = begins.0 in
      let front = begins.1 in
      let all = ap (λ (zs : List Line). length zs) b.one ∙ length-append b.front b.left in
      absurd (omega (arith, front, all, few))
]
