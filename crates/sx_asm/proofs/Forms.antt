-- The tests of operands tell which instructions there are.
use Rattle.std.proofs.Common.{◌≡◌, ℕ, ◌<◌, ◌≤◌, ◌%◌, Bool, true, false, ◌&&◌, ◌||◌, List, [], refl, ap, ◌∙◌, arith}
use Rattle.std.specs.Prelude.{IsTrue, ◌↔◌, ◌==◌, nat_lt, nat_le}
use Rattle.std.proofs.lemmas.Bool.Decides.{nat_tests}
use Rattle.std.proofs.lemmas.Bool.{and_parts, and_from}
use Rattle.std.specs.Bool.{one_answer}
use Rattle.sx_isa.specs.declared.instruction.Operand.{Operand}
use Rattle.sx_isa.specs.declared.instruction.Operand.TheVariants.{Reg, Indexed, Indirect, Increment, Symbolic, Absolute, Immediate, Const}
use Rattle.sx_isa.specs.declared.instruction.Op1.{Op1}
use Rattle.sx_isa.specs.declared.instruction.Op2.{Op2}
use Rattle.sx_isa.specs.declared.instruction.Instr.TheVariants.{Two, One}
use Rattle.sx_isa.specs.Legal.{is_allowed}
use Rattle.sx_isa.specs.Spelling.{is_constant}
use Rattle.sx_isa.specs.Instructions.{IsSource, IsDestination, IsInstruction, IsOffset}
use Rattle.sx_isa.specs.Legal.{is_value}
use Rattle.sx_asm.specs.declared.written.Value.TheVariants.{Number, Name}
use Rattle.sx_asm.specs.declared.written.Written.{Written}
use Rattle.sx_asm.specs.declared.written.Written.TheVariants as written
use Rattle.sx_asm.specs.declared.written.Label.{Label}
use Rattle.sx_asm.specs.Meaning.{operand_at, distance, offset}
use Rattle.sx_asm.specs.Assembled.{in_reach}
use Rattle.sx_asm.specs.Forms.{HasWord}
use Rattle.sx_asm.specs.Assembled.{is_source, is_destination}

pub source_true : (o : Operand) → HasWord o → is_source o ≡ true → IsSource o
source_true (Reg r) w h = grind (arith, nat_tests)
source_true (Indexed r x) w h = grind (arith, nat_tests)
source_true (Symbolic x) w h = w
source_true (Absolute x) w h = w
source_true (Indirect r) w h = grind (arith, nat_tests)
source_true (Increment r) w h = grind (arith, nat_tests)
source_true (Immediate x) w h = w
source_true (Const c) w h = h

pub source_test : (o : Operand) → IsSource o → is_source o ≡ true
source_test (Reg r) h = grind (arith, nat_tests)
source_test (Indexed r x) h = grind (arith, nat_tests)
source_test (Symbolic x) h = refl
source_test (Absolute x) h = refl
source_test (Indirect r) h = grind (arith, nat_tests)
source_test (Increment r) h = grind (arith, nat_tests)
source_test (Immediate x) h = refl
source_test (Const c) h = h

pub destination_true : (o : Operand) → HasWord o → is_destination o ≡ true → IsDestination o
destination_true (Reg r) w h = grind (arith, nat_tests)
destination_true (Indexed r x) w h = grind (arith, nat_tests)
destination_true (Symbolic x) w h = w
destination_true (Absolute x) w h = w
destination_true (Indirect r) w h = absurd (cc)
destination_true (Increment r) w h = absurd (cc)
destination_true (Immediate x) w h = absurd (cc)
destination_true (Const c) w h = absurd (cc)

pub destination_test : (o : Operand) → IsDestination o → is_destination o ≡ true
destination_test (Reg r) h = grind (arith, nat_tests)
destination_test (Indexed r x) h = grind (arith, nat_tests)
destination_test (Symbolic x) h = refl
destination_test (Absolute x) h = refl
destination_test (Indirect r) h = absurd h
destination_test (Increment r) h = absurd h
destination_test (Immediate x) h = absurd h
destination_test (Const c) h = absurd h

pub two_tested : (op : Op2) (byte : Bool) (s d : Operand) (r : Bool) → HasWord s → HasWord d → (IsTrue r ↔ IsInstruction (Two op byte s d))
    → r ≡ (is_source s && is_destination d)
two_tested op byte s d r v w e =
    one_answer {P = r ≡ true} r (is_source s && is_destination d) (λ h. h, λ h. h) (
      λ h. e.1 (source_true s v (and_parts (is_source s) (is_destination d) h).0, destination_true d w (and_parts (is_source s) (is_destination d) h).1),
      λ h. and_from (is_source s) (is_destination d) (source_test s (e.0 h).0) (destination_test d (e.0 h).1),
    )

pub one_tested : (op : Op1) (byte : Bool) (s : Operand) (r : Bool) → HasWord s → (IsTrue r ↔ IsInstruction (One op byte s))
    → r ≡ (is_source s && is_allowed op byte s)
one_tested op byte s r v e =
    one_answer {P = r ≡ true} r (is_source s && is_allowed op byte s) (λ h. h, λ h. h) (
      λ h. e.1 (source_true s v (and_parts (is_source s) (is_allowed op byte s) h).0, (and_parts (is_source s) (is_allowed op byte s) h).1),
      λ h. and_from (is_source s) (is_allowed op byte s) (source_test s (e.0 h).0) (e.0 h).1,
    )

-- the labels' addresses change no form
pub same_source : (labels : List Label) (at : ℕ) (w : Written) → is_source (operand_at labels at w) ≡ is_source (operand_at [] 0 w)
same_source labels at (written.Reg r) = refl
same_source labels at (written.Indexed v r) = refl
same_source labels at (written.Indirect r) = refl
same_source labels at (written.Increment r) = refl
same_source labels at (written.Hash (Number n)) = refl
same_source labels at (written.Hash (Name s)) = refl
same_source labels at (written.Immediate v) = refl
same_source labels at (written.Absolute v) = refl
same_source labels at (written.Symbolic v) = refl

pub same_destination : (labels : List Label) (at : ℕ) (w : Written) → is_destination (operand_at labels at w) ≡ is_destination (operand_at [] 0 w)
same_destination labels at (written.Reg r) = refl
same_destination labels at (written.Indexed v r) = refl
same_destination labels at (written.Indirect r) = refl
same_destination labels at (written.Increment r) = refl
same_destination labels at (written.Hash (Number n)) = by_test (is_constant n) refl
  where
    by_test : (b : Bool) → is_constant n ≡ b → is_destination (operand_at labels at (written.Hash (Number n))) ≡ is_destination (operand_at [] 0 (written.Hash (Number n)))
    by_test true e = rw e refl
    by_test false e = rw e refl
same_destination labels at (written.Hash (Name s)) = refl
same_destination labels at (written.Immediate v) = refl
same_destination labels at (written.Absolute v) = refl
same_destination labels at (written.Symbolic v) = refl

pub same_value : (labels : List Label) (at : ℕ) (w : Written) → is_value (operand_at labels at w) ≡ is_value (operand_at [] 0 w)
same_value labels at (written.Reg r) = refl
same_value labels at (written.Indexed v r) = refl
same_value labels at (written.Indirect r) = refl
same_value labels at (written.Increment r) = refl
same_value labels at (written.Hash (Number n)) = by_test (is_constant n) refl
  where
    by_test : (b : Bool) → is_constant n ≡ b → is_value (operand_at labels at (written.Hash (Number n))) ≡ is_value (operand_at [] 0 (written.Hash (Number n)))
    by_test true e = rw e refl
    by_test false e = rw e refl
same_value labels at (written.Hash (Name s)) = refl
same_value labels at (written.Immediate v) = refl
same_value labels at (written.Absolute v) = refl
same_value labels at (written.Symbolic v) = refl

pub source_at : (labels : List Label) (at : ℕ) (w : Written) (o : Operand) → is_source (operand_at [] 0 w) ≡ true → o ≡ operand_at labels at w → HasWord o → IsSource o
source_at labels at w o h e f = source_true o f (ap is_source e ∙ same_source labels at w ∙ h)

pub destination_at : (labels : List Label) (at : ℕ) (w : Written) (o : Operand) → is_destination (operand_at [] 0 w) ≡ true → o ≡ operand_at labels at w → HasWord o → IsDestination o
destination_at labels at w o h e f = destination_true o f (ap is_destination e ∙ same_destination labels at w ∙ h)

pub allowed_at : (labels : List Label) (at : ℕ) (op : Op1) (byte : Bool) (w : Written) → (is_source (operand_at [] 0 w) && is_allowed op byte (operand_at [] 0 w)) ≡ true
    → is_allowed op byte (operand_at labels at w) ≡ true
allowed_at labels at op byte w h = rw (same_value labels at w) (and_parts (is_source (operand_at [] 0 w)) (is_allowed op byte (operand_at [] 0 w)) h).1

-- what a jump reaches has an offset of ten bits
pub near_offset : (next target : ℕ) → target < 65536 → next < 65536 → in_reach next target ≡ true → IsOffset (offset (distance next target))
near_offset next target t n h = by_sign (nat_lt (distance next target) 32768) refl
  where
    d : distance next target < 65536
    d = omega arith

    near : (nat_le (distance next target) 1022 || nat_le 64512 (distance next target)) ≡ true
    near = (and_parts (target % 2 == 0) (nat_le (distance next target) 1022 || nat_le 64512 (distance next target)) h).1

    by_sign : (b : Bool) → nat_lt (distance next target) 32768 ≡ b → IsOffset (offset (distance next target))
    by_sign true e = rw e (let k : distance next target < 32768 = grind (arith, nat_tests, e) in let l : distance next target ≤ 1022 = grind (arith, nat_tests, k, near) in omega (arith, l))
    by_sign false e = rw e (let k : 32768 ≤ distance next target = grind (arith, nat_tests, e) in let l : 64512 ≤ distance next target = grind (arith, nat_tests, k, near) in omega (arith, l, d))
