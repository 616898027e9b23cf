-- The formats of first words, and how each is read.
use Rattle.std.proofs.Common.{◌≡◌, ◌≢◌, ℕ, ◌-◌, ◌/◌, ◌%◌, ◌<◌, ◌≤◌, ◌==◌, Bool, true, false, cond, ◌&&◌, refl, ◌⊎◌, arith, Option, Some, None}
use Rattle.std.specs.Prelude.{nat_lt, nat_le}
use Rattle.std.proofs.lemmas.Bool.Decides.{nat_tests}
use Rattle.sx_isa.specs.declared.instruction.Instr.{Instr}
use Rattle.sx_isa.specs.declared.instruction.Instr.TheVariants.{Reti, Jump, Sancus}
use Rattle.sx_isa.specs.Reading.{offset_at, two_at, one_at, is_sancus, instruction_at}

-- which of the formats a first word has
test_both : {A : Type 0} (b : Bool) (x y : ℕ → ℕ → A) (P : (ℕ → ℕ → A) → Type 0) → (b ≡ true → P x) →
    (b ≡ false → P y) → P (λ m n. cond b (x m n) (y m n))
test_both b x y P on off =
    elim b as (λ v. b ≡ v → P (λ m n. cond v (x m n) (y m n))) [ true ↦ on | false ↦ off ] refl

pub by_format : (P : (ℕ → ℕ → Option (Instr × ℕ)) → Type 0) (w0 : ℕ) →
    (0x4000 ≤ w0 → P (two_at w0)) →
    (0x2000 ≤ w0 → w0 < 0x4000 → P (λ w1 w2. Some (Jump (w0 / 1024 % 8) (offset_at (w0 % 1024)), 1))) →
    (0x1380 ≤ w0 → w0 < 0x1388 → w0 ≢ 0x1383 → P (λ w1 w2. Some (Sancus (w0 - 0x1380), 1))) →
    (w0 ≡ 0x1300 → P (λ w1 w2. Some (Reti, 1))) →
    (0x1000 ≤ w0 → w0 < 0x1300 → P (λ w1 w2. one_at w0 w1)) →
    ((w0 < 0x1000) ⊎ ((0x1300 < w0) × (w0 < 0x1380)) ⊎ (w0 ≡ 0x1383) ⊎ ((0x1388 ≤ w0) × (w0 < 0x2000)) → P (λ w1 w2. None)) →
    P (instruction_at w0)
unfolding instruction_at
by_format P w0 two jump sancus reti one none =
    test_both (nat_le 0x4000 w0) _ _ P (λ e. two (grind (arith, nat_tests)))
    (λ e. test_both (nat_le 0x2000 w0) _ _ P (λ f. jump (grind (arith, nat_tests)) (grind (arith, nat_tests)))
    (λ f. test_both (is_sancus w0) _ _ P (λ g. sancus (grind (arith, nat_tests)) (grind (arith, nat_tests)) (grind (arith, nat_tests)))
    (λ g. test_both (w0 == 0x1300) _ _ P (λ h. reti (grind (arith, nat_tests)))
    (λ h. test_both (nat_le 0x1000 w0 && nat_lt w0 0x1300) _ _ P (λ k. one (grind (arith, nat_tests)) (grind (arith, nat_tests)))
    (λ k. none (grind (arith, nat_tests)))))))

pub two_format : (w0 : ℕ) → 0x4000 ≤ w0 → instruction_at w0 ≡ two_at w0
two_format w0 h =
    by_format (λ r. r ≡ two_at w0) w0 (λ k. refl) (λ a b. absurd (omega arith))
    (λ a b c. absurd (omega arith)) (λ e. absurd (omega arith)) (λ a b. absurd (omega arith))
    (λ c. absurd (omega arith))

pub one_format : (w0 : ℕ) → 0x1000 ≤ w0 → w0 < 0x1300 → instruction_at w0 ≡ (λ w1 w2. one_at w0 w1)
one_format w0 h k =
    by_format (λ r. r ≡ (λ w1 w2. one_at w0 w1)) w0 (λ a. absurd (omega arith))
    (λ a b. absurd (omega arith)) (λ a b c. absurd (omega arith)) (λ e. absurd (omega arith))
    (λ a b. refl) (λ c. absurd (omega arith))

pub jump_format : (w0 : ℕ) → 0x2000 ≤ w0 → w0 < 0x4000 →
    instruction_at w0 ≡ (λ w1 w2. Some (Jump (w0 / 1024 % 8) (offset_at (w0 % 1024)), 1))
jump_format w0 h k =
    by_format (λ r. r ≡ (λ w1 w2. Some (Jump (w0 / 1024 % 8) (offset_at (w0 % 1024)), 1))) w0
    (λ a. absurd (omega arith)) (λ a b. refl) (λ a b c. absurd (omega arith))
    (λ e. absurd (omega arith)) (λ a b. absurd (omega arith)) (λ c. absurd (omega arith))

pub sancus_format : (w0 : ℕ) → 0x1380 ≤ w0 → w0 < 0x1388 → w0 ≢ 0x1383 →
    instruction_at w0 ≡ (λ w1 w2. Some (Sancus (w0 - 0x1380), 1))
sancus_format w0 h k l =
    by_format (λ r. r ≡ (λ w1 w2. Some (Sancus (w0 - 0x1380), 1))) w0 (λ a. absurd (omega arith))
    (λ a b. absurd (omega arith)) (λ a b c. refl) (λ e. absurd (omega arith))
    (λ a b. absurd (omega arith)) (λ c. absurd (omega arith))
