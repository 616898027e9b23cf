-- How many lines the set-up has, and that they are in form.
use Rattle.std.proofs.Common.{◌≡◌, ℕ, zero, suc, ◌+◌, ◌*◌, ◌<◌, ◌≤◌, List, [], ◌∷◌, ◌++◌, length, length-append, Some, refl, subst, arith}
use Rattle.std.specs.Prelude.{slice_get}
use Rattle.sx_mean.specs.declared.events.End.{End}
use Rattle.sx_mean.specs.Application.{PartTree}
use Rattle.sx_mean.specs.Ends.{ends_of}
use Rattle.sx_mean.proofs.Ends.{ends_hold}
use Rattle.sx_mean.proofs.ValidApplications.{valid_applications}
use Rattle.sx_sched.specs.Lines.{Line}
use Rattle.spec_run.specs.Setting.{Setting}
use Rattle.spec_run.specs.Law.{LinesInForm}
use Rattle.spec_honest.specs.Course.{parts_lines, parts_packets}
use Rattle.law_setup.specs.Schedule.{attest_lines, key_lines, part_lines, parts_schedule}
use Rattle.law_setup.specs.Laws.{SetUpFits}

keys_long : (m n number k : ℕ) → length (key_lines m n number k) ≡ 2 * k
keys_long m n number zero = refl
keys_long m n number (suc k) = let r = keys_long m n (number + 1) k in omega (arith, r)

pub part_long : (m number : ℕ) (q : PartTree) (es : List End) → length (part_lines m number q es) ≡ 6 + 2 * length es
part_long m number q es =
    let a = length-append (attest_lines m q.node number) (key_lines m q.node (number + 2) (length es)) in
    let b = keys_long m q.node (number + 2) (length es) in
    omega (arith, a, b)

pub both_formed : (set : Setting) (xs ys : List Line) → LinesInForm set xs → LinesInForm set ys → LinesInForm set (xs ++ ys)
both_formed set [] ys a b = b
both_formed set (x ∷ xs) ys a b = (a.0, both_formed set xs ys a.1 b)

keys_formed : (set : Setting) (m n number k : ℕ) → LinesInForm set (key_lines m n number k)
keys_formed set m n number zero = tt
keys_formed set m n number (suc k) = (omega arith, ((omega arith, omega arith, omega arith), keys_formed set m n (number + 1) k))

part_formed : (set : Setting) (m number : ℕ) (q : PartTree) (es : List End) → m < length set.app.parts → LinesInForm set (part_lines m number q es)
part_formed set m number q es lt =
    both_formed set (attest_lines m q.node number) (key_lines m q.node (number + 2) (length es))
    (tt, (lt, (omega arith, ((omega arith, omega arith, omega arith), (tt, (tt, tt))))))
    (keys_formed set m q.node (number + 2) (length es))

module _ (set : Setting) where
  pub schedule_long : (m number : ℕ) (qs : List PartTree) → length (parts_schedule set.app m number qs) ≡ parts_lines set.app m qs
  schedule_long m number [] = refl
  schedule_long m number (q ∷ qs) =
      let es = ends_of set.app m in
      let rest = parts_schedule set.app (m + 1) (number + 2 + length es) qs in
      let a = length-append (part_lines m number q es) rest in
      let b = part_long m number q es in
      let c = schedule_long (m + 1) (number + 2 + length es) qs in
      omega (arith, a, b, c)

  pub schedule_formed : (m number : ℕ) (qs : List PartTree) → m + length qs ≤ length set.app.parts → LinesInForm set (parts_schedule set.app m number qs)
  schedule_formed m number [] le = tt
  schedule_formed m number (q ∷ qs) le =
      let es = ends_of set.app m in
      both_formed set (part_lines m number q es) (parts_schedule set.app (m + 1) (number + 2 + length es) qs) (part_formed set m number q es (omega (arith, le)))
      (schedule_formed (m + 1) (number + 2 + length es) qs (omega (arith, le)))

  abbrev FewEnds : ℕ → List PartTree → Type 0
  FewEnds m qs = (i : ℕ) (q : PartTree) → slice_get qs i ≡ Some q → length (ends_of set.app (m + i)) ≤ 16

  next_few : (m : ℕ) (q : PartTree) (qs : List PartTree) → FewEnds m (q ∷ qs) → FewEnds (m + 1) qs
  next_few m q qs h i x e =
      let next : m + suc i ≡ m + 1 + i = omega arith in
      subst (λ (j : ℕ). length (ends_of set.app j) ≤ 16) next (h (suc i) x e)

  first_few : (m : ℕ) (q : PartTree) (qs : List PartTree) → FewEnds m (q ∷ qs) → length (ends_of set.app m) ≤ 16
  first_few m q qs h =
      let here : m + 0 ≡ m = omega arith in
      subst (λ (j : ℕ). length (ends_of set.app j) ≤ 16) here (h 0 q refl)

  lines_few : (m : ℕ) (qs : List PartTree) → FewEnds m qs → parts_lines set.app m qs ≤ 38 * length qs
  lines_few m [] h = omega arith
  lines_few m (q ∷ qs) h =
      let a = lines_few (m + 1) qs (next_few m q qs h) in
      let b = first_few m q qs h in
      omega (arith, a, b)

  packets_few : (m : ℕ) (qs : List PartTree) → FewEnds m qs → parts_packets set.app m qs ≤ 18 * length qs
  packets_few m [] h = omega arith
  packets_few m (q ∷ qs) h =
      let a = packets_few (m + 1) qs (next_few m q qs h) in
      let b = first_few m q qs h in
      omega (arith, a, b)

pub set_up_fits : SetUpFits
set_up_fits set room =
    let few = (valid_applications set.app room.valid).few_parts in
    let ends : FewEnds set 0 set.app.parts = λ i q e.
    let here : i ≡ 0 + i = omega arith in
    subst (λ (j : ℕ). length (ends_of set.app j) ≤ 16) here (ends_hold set.app i q room.valid e).few in
    let a = lines_few set 0 set.app.parts ends in
    let b = packets_few set 0 set.app.parts ends in
    record {
      lines = schedule_long set 0 0 set.app.parts;
      few = omega (arith, a, few);
      packets = omega (arith, b, few);
      formed = schedule_formed set 0 0 set.app.parts (omega arith);
    }
