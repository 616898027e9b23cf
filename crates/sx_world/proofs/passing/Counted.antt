-- Steps that show nothing, counted down.
use Rattle.std.proofs.Common.{◌≡◌, ℕ, zero, suc, ◌-◌, ◌<◌, ◌≤◌, ◌==◌, ◌&&◌, Bool, false, Option, Some, None, refl, sym, subst, ap, ◌∙◌, arith}
use Rattle.std.proofs.lemmas.Bool.Decides.{nat_tests}
use Rattle.sx_tag.specs.Mac.{Mac}
use Rattle.spec_machine.specs.declared.kinds.Seen.{Seen}
use Rattle.spec_machine.specs.State.{State}
use Rattle.spec_machine.specs.Step.{step}
use Rattle.sx_node.specs.Telling.{silent, told}
use Rattle.sx_world.specs.Passing.{after_steps, AreQuiet, EndsWith, taken}
use Rattle.sx_world.proofs.passing.Passed.{quiet_boot, none_of}

-- Of `count` steps of a node `old` so many are left. Those that were taken showed nothing, and the
-- node is `now`.
pub record Counted (mac : Mac) (idle : Bool) (count left : ℕ) (old now : State) : Type 0 where
  pub within : left ≤ count
  pub quiet : AreQuiet mac idle (count - left) old
  pub leaves : now ≡ after_steps mac (count - left) old

-- one step less is left after one more
one_more : (count left : ℕ) → 0 < left → left ≤ count → count - (left - 1) ≡ suc (count - left)
one_more count left some within = omega arith

none_taken : (count : ℕ) → count - count ≡ 0
none_taken count = omega arith

pub counted_none : (mac : Mac) (idle : Bool) (count : ℕ) (s : State) → Counted mac idle count count s s
counted_none mac idle count s = record {
  within = omega arith;
  quiet = subst (λ k. AreQuiet mac idle k s) (sym (none_taken count)) tt;
  leaves = ap (λ k. after_steps mac k s) (sym (none_taken count));
}

pub counted_on : (mac : Mac) (idle : Bool) (count left : ℕ) (old now new : State) → Counted mac idle count left old now → 0 < left
    → new ≡ (step mac now).state → (step mac now).shown ≡ silent → (idle && (new.cur == 0)) ≡ false → Counted mac idle count (left - 1) old new
counted_on mac idle count left old now new c some leaves shown runs =
    let more = one_more count left some c.within in
    let within = c.within in
    let t = after_steps mac (count - left) old in
    let showed : (step mac t).shown ≡ silent = ap (λ s. (step mac s).shown) (sym c.leaves) ∙ shown in
    let left_so : new ≡ (step mac t).state = leaves ∙ ap (λ s. (step mac s).state) c.leaves in
    let ran : (idle && ((step mac t).state.cur == 0)) ≡ false = ap (λ (s : State). idle && (s.cur == 0)) (sym left_so) ∙ runs in
    record {
      within = omega arith;
      quiet = subst (λ k. AreQuiet mac idle k old) (sym more) (c.quiet, showed, ran);
      leaves = left_so ∙ ap (λ k. after_steps mac k old) (sym more);
    }

-- the same, of a step that said so
pub counted_told : (mac : Mac) (idle : Bool) (count left : ℕ) (old now new : State) (seen : Seen) (b : Bool) → Counted mac idle count left old now → 0 < left
    → new ≡ (step mac now).state → told b seen ≡ (step mac now).shown → b ≡ false → (idle && (new.cur == 0)) ≡ false → Counted mac idle count (left - 1) old new
counted_told mac idle count left old now new seen b c some leaves shown quiet runs =
    let showed : silent ≡ (step mac now).shown = subst (λ i. told i seen ≡ (step mac now).shown) quiet shown in
    counted_on mac idle count left old now new c some leaves (sym showed) runs

-- where a module runs, its id isn't that of none
pub not_none : (s : State) → 0 < s.cur → (s.cur == 0) ≡ false
not_none s h = grind (arith, nat_tests, h)

-- they reset nothing
pub counted_boot : (mac : Mac) (idle : Bool) (count left : ℕ) (old now : State) → Counted mac idle count left old now → old.boot < 4294967295 → now.boot < 4294967295
counted_boot mac idle count left old now c small =
    subst (λ k. k < 4294967295) (sym (ap (λ (s : State). s.boot) c.leaves ∙ quiet_boot mac idle (count - left) old c.quiet)) small

-- and end with one that shows this
pub counted_last : (mac : Mac) (idle : Bool) (count left : ℕ) (old now : State) (seen : Seen) → Counted mac idle count left old now → 0 < left
    → seen ≡ (step mac now).shown → EndsWith mac count (count - left) (Some seen) old
counted_last mac idle count left old now seen c some shown =
    let within = c.within in
    (omega arith, shown ∙ ap (λ s. (step mac s).shown) c.leaves)

pub counted_left : (mac : Mac) (idle : Bool) (count left : ℕ) (old now new : State) → Counted mac idle count left old now
    → new ≡ (step mac now).state → new ≡ after_steps mac (suc (count - left)) old
counted_left mac idle count left old now new c leaves = leaves ∙ ap (λ s. (step mac s).state) c.leaves

-- none is left
pub all_quiet : (mac : Mac) (idle : Bool) (count : ℕ) (old now : State) → Counted mac idle count 0 old now → AreQuiet mac idle count old
all_quiet mac idle count old now c =
    let all : count - 0 ≡ count = omega arith in
    subst (λ k. AreQuiet mac idle k old) all c.quiet

pub all_leaves : (mac : Mac) (idle : Bool) (count : ℕ) (old now : State) → Counted mac idle count 0 old now → now ≡ after_steps mac count old
all_leaves mac idle count old now c =
    let all : count - 0 ≡ count = omega arith in
    c.leaves ∙ ap (λ k. after_steps mac k old) all

-- more of them in one go
left_less : (left k : ℕ) → left - k - 1 ≡ left - suc k
left_less left k = omega arith

pub counted_over : (mac : Mac) (idle : Bool) (count left k : ℕ) (old now : State) → Counted mac idle count left old now → AreQuiet mac idle k now → k ≤ left
    → Counted mac idle count (left - k) old (after_steps mac k now)
counted_over mac idle count left zero old now c q few =
    let same : left - 0 ≡ left = omega arith in
    subst (λ i. Counted mac idle count i old now) (sym same) c
counted_over mac idle count left (suc k) old now c q few =
    let t = after_steps mac k now in
    let fewer : k ≤ left = omega arith in
    let some : 0 < left - k = omega arith in
    let so_far = counted_over mac idle count left k old now c q.0 fewer in
    subst (λ i. Counted mac idle count i old (step mac t).state) (left_less left k)
    (counted_on mac idle count (left - k) old t (step mac t).state so_far some refl q.1 q.2)

-- Steps that were taken in one go, and one that showed this.
pub record Part (mac : Mac) (idle : Bool) (left k : ℕ) (now new : State) (seen : Seen) : Type 0 where
  pub quiet : AreQuiet mac idle k now
  pub few : k < left
  pub shown : seen ≡ (step mac (after_steps mac k now)).shown
  pub leaves : new ≡ after_steps mac (suc k) now

pub part_of : (mac : Mac) (idle : Bool) (left k : ℕ) (now new : State) (last : Option Seen) (seen : Seen) → AreQuiet mac idle k now → EndsWith mac left k last now
    → new ≡ after_steps mac (taken k last) now → last ≡ Some seen → Part mac idle left k now new seen
part_of mac idle left k now new last seen quiet ends leaves e =
    let end : EndsWith mac left k (Some seen) now = subst (λ o. EndsWith mac left k o now) e ends in
    record {
      quiet = quiet;
      few = end.0;
      shown = end.1;
      leaves = leaves ∙ ap (λ o. after_steps mac (taken k o) now) e;
    }

module _ (mac : Mac) (idle : Bool) (count left k : ℕ) (old now new : State) (seen : Seen) (c : Counted mac idle count left old now) (p : Part mac idle left k now new seen) where
  some_left : 0 < left - k
  some_left = let few = p.few in omega arith

  pub part_over : Counted mac idle count (left - k) old (after_steps mac k now)
  part_over = let few = p.few in counted_over mac idle count left k old now c p.quiet (omega arith)

  pub part_last : EndsWith mac count (count - (left - k)) (Some seen) old
  part_last = counted_last mac idle count (left - k) old (after_steps mac k now) seen part_over some_left p.shown

  pub part_left : new ≡ after_steps mac (suc (count - (left - k))) old
  part_left = counted_left mac idle count (left - k) old (after_steps mac k now) new part_over p.leaves

  pub part_on : seen ≡ silent → (idle && (new.cur == 0)) ≡ false → Counted mac idle count (left - k - 1) old new
  part_on quiet runs =
      counted_on mac idle count (left - k) old (after_steps mac k now) new part_over some_left p.leaves (sym p.shown ∙ quiet) runs

-- as many as were asked for, all in one go
pub part_all : (mac : Mac) (idle : Bool) (count left k : ℕ) (old now new : State) (last : Option Seen) → Counted mac idle count left old now → AreQuiet mac idle k now
    → EndsWith mac left k last now → new ≡ after_steps mac (taken k last) now → ((v : Seen) → last ≡ Some v → ⊥) → Counted mac idle count 0 old new
part_all mac idle count left k old now new last c quiet ends leaves none =
    let e = none_of last none in
    let all : k ≡ left = subst (λ o. EndsWith mac left k o now) e ends in
    let left_by : new ≡ after_steps mac k now = leaves ∙ ap (λ o. after_steps mac (taken k o) now) e in
    let over : left - k ≡ 0 = omega (arith, all) in
    subst (λ t. Counted mac idle count 0 old t) (sym left_by)
    (subst (λ i. Counted mac idle count i old (after_steps mac k now)) over (counted_over mac idle count left k old now c quiet (omega (arith, all))))
