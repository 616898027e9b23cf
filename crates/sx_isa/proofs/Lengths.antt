-- The length is that of the first word, whatever follows it.
use Rattle.std.proofs.Common.{◌≡◌, ℕ, ◌/◌, ◌%◌, Bool, true, false, cond, not, ◌&&◌, ◌||◌, [], ◌++◌, length, get_or, refl, ap, sym, ◌∙◌, Option, Some, None, is_some}
use Rattle.std.specs.Prelude.{if◌then◌else◌, option_map}
use Rattle.sx_isa.specs.declared.instruction.Operand.{Operand}
use Rattle.sx_isa.specs.declared.instruction.Op2.{Op2}
use Rattle.sx_isa.specs.declared.instruction.Op1.{Op1}
use Rattle.sx_isa.specs.declared.instruction.Instr.{Instr}
use Rattle.sx_isa.specs.declared.instruction.Instr.TheVariants.{Two, One, Reti, Jump, Sancus}
use Rattle.sx_isa.specs.Spelling.{spelling}
use Rattle.sx_isa.specs.Instructions.{first_word, IsInstruction}
use Rattle.sx_isa.specs.Legal.{has_byte_form, writes_back, is_allowed, is_value}
use Rattle.sx_isa.specs.Reading.{takes_word, two_of, one_of, two_at, one_at, instruction_at, length_of}
use Rattle.sx_isa.proofs.Operands.{destination_some, source_value}
use Rattle.sx_isa.proofs.Formats.{by_format}
use Rattle.sx_isa.proofs.Spelled.{spelled_reads}

abbrev pub counted : Option (Instr × ℕ) → Option ℕ
counted r = option_map (λ f. f.1) r

two_of_length : (o : Option Op2) (b : Bool) (s s' : Operand) (d d' : Option Operand) (n : ℕ) →
    is_some d ≡ is_some d' →
    counted (two_of o b s d n) ≡ counted (two_of o b s' d' n)
two_of_length None b s s' d d' n e = refl
two_of_length (Some op) b s s' None None n e = refl
two_of_length (Some op) b s s' (Some d) (Some d') n e = refl
two_of_length (Some op) b s s' None (Some d') n e = absurd (cc)
two_of_length (Some op) b s s' (Some d) None n e = absurd (cc)

test_length : (t t' : Bool) (i j : Instr) (n : ℕ) → t ≡ t' →
    counted (cond t (Some (i, n)) None) ≡ counted (cond t' (Some (j, n)) None)
test_length true true i j n e = refl
test_length false false i j n e = refl
test_length true false i j n e = absurd (cc)
test_length false true i j n e = absurd (cc)

one_of_length : (o : Option Op1) (b : Bool) (a a' : Operand) (n : ℕ) → is_value a ≡ is_value a' →
    counted (one_of o b a n) ≡ counted (one_of o b a' n)
one_of_length None b a a' n e = refl
one_of_length (Some op) b a a' n e =
    let same : is_allowed op b a ≡ is_allowed op b a' = ap
    (λ v. (has_byte_form op || not b) && not (writes_back op && v)) e in
    test_length (is_allowed op b a) (is_allowed op b a') (One op b a) (One op b a') n same

pub steady : (w0 w1 w2 v1 v2 : ℕ) →
    counted (instruction_at w0 w1 w2) ≡ counted (instruction_at w0 v1 v2)
unfolding two_at one_at
steady w0 w1 w2 v1 v2 =
    by_format (λ r. counted (r w1 w2) ≡ counted (r v1 v2)) w0
    (λ h. two_of_length _ _ _ _ _ _ _ (destination_some (w0 % 16) (w0 / 128 % 2)
    (if takes_word (w0 / 256 % 16) (w0 / 16 % 4) then w2 else w1) (if takes_word (w0 / 256 % 16) (w0 / 16 % 4) then v2 else v1)))
    (λ h k. refl) (λ h k l. refl) (λ h. refl) (λ h k. one_of_length _ _ _ _ _ (source_value (w0 % 16) (w0 / 16 % 4) w1 v1)) (λ h. refl)

pub length_is : (w0 w1 w2 : ℕ) → length_of w0 ≡ counted (instruction_at w0 w1 w2)
unfolding length_of
length_is w0 w1 w2 = steady w0 0 0 w1 w2

first_or_zero : (i : Instr) → get_or (spelling i ++ []) 0 0 ≡ first_word i
first_or_zero (Two op byte src dst) = refl
first_or_zero (One op byte arg) = refl
first_or_zero Reti = refl
first_or_zero (Jump cond offset) = refl
first_or_zero (Sancus code) = refl

pub length_of_spelling : (i : Instr) → IsInstruction i →
    length_of (first_word i) ≡ Some (length (spelling i))
length_of_spelling i h =
    ap length_of (sym (first_or_zero i)) ∙
    (length_is (get_or (spelling i ++ []) 0 0) (get_or (spelling i ++ []) 1 0) (get_or (spelling i ++ []) 2 0) ∙ ap counted (spelled_reads i h []))

pub counted_some : (r : Option (Instr × ℕ)) (n : ℕ) → counted r ≡ Some n →
    (i : Instr) × (r ≡ Some (i, n))
counted_some None n e = absurd (cc)
counted_some (Some f) n e = let same : f.1 ≡ n = cc in (f.0, ap (λ k. Some (f.0, k)) same)

uncounted : (r : Option (Instr × ℕ)) → counted r ≡ None → r ≡ None
uncounted None e = refl
uncounted (Some f) e = absurd (cc)

pub length_none : (w0 w1 w2 : ℕ) → length_of w0 ≡ None → instruction_at w0 w1 w2 ≡ None
length_none w0 w1 w2 e = uncounted (instruction_at w0 w1 w2) (sym (length_is w0 w1 w2) ∙ e)
