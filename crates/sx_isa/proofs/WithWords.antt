-- Other extension words change the operands of what is read, and nothing else.
use Rattle.std.proofs.Common.{◌≡◌, ℕ, ◌+◌, ◌/◌, ◌%◌, ◌<◌, ◌==◌, Bool, true, false, cond, not, ◌&&◌, ◌||◌, refl, ap, sym, ◌∙◌, arith, Option, Some, None}
use Rattle.std.specs.Prelude.{if◌then◌else◌, option_map}
use Rattle.std.proofs.lemmas.Bool.Decides.{nat_tests}
use Rattle.sx_isa.specs.declared.instruction.Operand.{Operand}
use Rattle.sx_isa.specs.declared.instruction.Operand.TheVariants.{Reg, Indexed, Indirect, Increment, Symbolic, Absolute, Immediate, Const}
use Rattle.sx_isa.specs.declared.instruction.Op2.{Op2}
use Rattle.sx_isa.specs.declared.instruction.Op1.{Op1}
use Rattle.sx_isa.specs.declared.instruction.Instr.{Instr}
use Rattle.sx_isa.specs.declared.instruction.Instr.TheVariants.{One}
use Rattle.sx_isa.specs.Legal.{has_byte_form, writes_back, is_allowed, is_value}
use Rattle.sx_isa.specs.Reading.{source_at, destination_at, takes_word, op2_at, op1_at, two_of, one_of, two_at, one_at, instruction_at}
use Rattle.sx_isa.specs.Extending.{has_word, with_word, extended}
use Rattle.sx_isa.proofs.Formats.{by_format}
use Rattle.lemmas.specs.Truth.{truth}

abbrev with_words : ℕ → ℕ → Instr × ℕ → Instr × ℕ
with_words w1 w2 f = (extended f.0 w1 w2, f.1)

-- Operands.

source_has : (r m x : ℕ) → m < 4 → has_word (source_at r m x) ≡ takes_word r m
source_has r m x h = grind (arith, nat_tests)

source_with : (r m v x : ℕ) → with_word (source_at r m v) x ≡ source_at r m x
source_with r m v x = grind (arith, nat_tests)

destination_with : (r m v x : ℕ) → option_map (λ (a : Operand). with_word a x) (destination_at r m v) ≡ destination_at r m x
destination_with r m v x = grind (arith, nat_tests)

value_with : (a : Operand) (x : ℕ) → is_value (with_word a x) ≡ is_value a
value_with (Reg r) x = refl
value_with (Indexed r y) x = refl
value_with (Indirect r) x = refl
value_with (Increment r) x = refl
value_with (Symbolic y) x = refl
value_with (Absolute y) x = refl
value_with (Immediate y) x = refl
value_with (Const c) x = refl

-- Two operands.

two_with : (o : Option Op2) (b : Bool) (s : Operand) (d : Option Operand) (n w1 w2 : ℕ) →
    two_of o b (with_word s w1) (option_map (λ (a : Operand). with_word a (if has_word s then w2 else w1)) d) n
    ≡ option_map (with_words w1 w2) (two_of o b s d n)
two_with None b s d n w1 w2 = refl
two_with (Some op) b s None n w1 w2 = refl
two_with (Some op) b s (Some d) n w1 w2 = refl

two_joined : (o : Option Op2) (b : Bool) (s t : Operand) (d e : Option Operand) (n w1 w2 : ℕ) → with_word s w1 ≡ t →
    option_map (λ (a : Operand). with_word a (if has_word s then w2 else w1)) d ≡ e →
    two_of o b t e n ≡ option_map (with_words w1 w2) (two_of o b s d n)
two_joined o b s t d e n w1 w2 source target =
    sym (ap (λ (a : Operand). two_of o b a (option_map (λ (a : Operand). with_word a (if has_word s then w2 else w1)) d) n) source
    ∙ ap (λ (a : Option Operand). two_of o b t a n) target)
    ∙ two_with o b s d n w1 w2

two_reads : (w0 v1 v2 w1 w2 : ℕ) → two_at w0 w1 w2 ≡ option_map (with_words w1 w2) (two_at w0 v1 v2)
unfolding two_at
two_reads w0 v1 v2 w1 w2 =
    let r = w0 / 256 % 16 in
    let m = w0 / 16 % 4 in
    let behind : (if has_word (source_at r m v1) then w2 else w1) ≡ (if takes_word r m then w2 else w1) = ap
    (λ (b : Bool). if b then w2 else w1) (source_has r m v1 (omega arith)) in
    two_joined (op2_at (w0 / 4096)) ((w0 / 64 % 2) == 1) (source_at r m v1) (source_at r m w1)
    (destination_at (w0 % 16) (w0 / 128 % 2) (if takes_word r m then v2 else v1))
    (destination_at (w0 % 16) (w0 / 128 % 2) (if takes_word r m then w2 else w1))
    (1 + truth (takes_word r m) + truth (takes_word (w0 % 16) (w0 / 128 % 2))) w1 w2 (source_with r m v1 w1)
    (destination_with (w0 % 16) (w0 / 128 % 2) (if takes_word r m then v2 else v1) (if has_word (source_at r m v1) then w2 else w1)
    ∙ ap (destination_at (w0 % 16) (w0 / 128 % 2)) behind)

-- One operand.

tested : (t u : Bool) (f : Instr × ℕ) (w1 w2 : ℕ) → u ≡ t →
    cond u (Some (with_words w1 w2 f)) None ≡ option_map (with_words w1 w2) (cond t (Some f) None)
tested true true f w1 w2 e = refl
tested false false f w1 w2 e = refl
tested true false f w1 w2 e = absurd (cc)
tested false true f w1 w2 e = absurd (cc)

one_with : (o : Option Op1) (b : Bool) (a : Operand) (n w1 w2 : ℕ) →
    one_of o b (with_word a w1) n ≡ option_map (with_words w1 w2) (one_of o b a n)
one_with None b a n w1 w2 = refl
one_with (Some op) b a n w1 w2 =
    let same : is_allowed op b (with_word a w1) ≡ is_allowed op b a = ap
    (λ v. (has_byte_form op || not b) && not (writes_back op && v)) (value_with a w1) in
    tested (is_allowed op b a) (is_allowed op b (with_word a w1)) (One op b a, n) w1 w2 same

one_reads : (w0 v1 w1 w2 : ℕ) → one_at w0 w1 ≡ option_map (with_words w1 w2) (one_at w0 v1)
unfolding one_at
one_reads w0 v1 w1 w2 =
    let r = w0 % 16 in
    let m = w0 / 16 % 4 in
    let o = op1_at (w0 / 128 % 8) in
    let b = (w0 / 64 % 2) == 1 in
    let n = 1 + truth (takes_word r m) in
    sym (ap (λ (a : Operand). one_of o b a n) (source_with r m v1 w1)) ∙ one_with o b (source_at r m v1) n w1 w2

-- Every first word.

reads_on : (w0 v1 v2 w1 w2 : ℕ) → instruction_at w0 w1 w2 ≡ option_map (with_words w1 w2) (instruction_at w0 v1 v2)
reads_on w0 v1 v2 w1 w2 =
    by_format (λ r. r w1 w2 ≡ option_map (with_words w1 w2) (r v1 v2)) w0 (λ h. two_reads w0 v1 v2 w1 w2)
    (λ h k. refl) (λ h k l. refl) (λ h. refl) (λ h k. one_reads w0 v1 w1 w2) (λ h. refl)

pub reads_extended : (w0 v1 v2 w1 w2 n : ℕ) (i : Instr) → instruction_at w0 v1 v2 ≡ Some (i, n) →
    instruction_at w0 w1 w2 ≡ Some (extended i w1 w2, n)
reads_extended w0 v1 v2 w1 w2 n i h = reads_on w0 v1 v2 w1 w2 ∙ ap (option_map (with_words w1 w2)) h
