-- How an instruction is read where its first word is, whatever its extension words are.
use Rattle.std.proofs.Common.{◌≡◌, ℕ, ◌==◌, Bool, true, false, not, List, [], ◌∷◌, length, length-append, Some}
use Rattle.std.proofs.Common.{refl, sym, ◌∙◌, ap, arith, if◌then◌else◌, drop, get_or}
use Rattle.std.specs.Prelude.{nat_lt, ℤ, pos, negsuc}
use Rattle.std.proofs.lemmas.Bool.{and_parts, ltb-true, true≢false, eq-eqb}
use Rattle.sx_isa.specs.declared.instruction.Operand.{Operand}
use Rattle.sx_isa.specs.declared.instruction.Operand.TheVariants.{Reg, Indexed, Indirect, Increment, Symbolic, Absolute, Immediate, Const}
use Rattle.sx_isa.specs.declared.instruction.Instr.{Instr}
use Rattle.sx_isa.specs.declared.instruction.Instr.TheVariants.{Two, One, Reti, Jump, Sancus}
use Rattle.sx_isa.specs.Extending.{extended, has_word, with_word}
use Rattle.sx_isa.specs.Instructions.{IsInstruction, IsGeneral, IsSource, IsDestination, IsOffset, first_word}
use Rattle.sx_isa.specs.Legal.{is_allowed, is_value}
use Rattle.sx_isa.specs.Reading.{instruction_at, length_of}
use Rattle.sx_isa.specs.Spelling.{at, constant, place_of, spelling}
use Rattle.sx_isa.proofs.Lengths.{length_of_spelling}
use Rattle.sx_isa.proofs.Spelled.{spelled_reads}
use Rattle.sx_isa.proofs.WithWords.{reads_extended}
use Rattle.sx_isa.specs.Shaped.{is_general, is_source, is_destination, is_offset, is_shaped}

unequal : (r n : ℕ) → not (r == n) ≡ true → r ≡ n → ⊥
unequal r n h e = true≢false (sym h ∙ ap not (eq-eqb r n e))

general : (r : ℕ) → is_general r ≡ true → IsGeneral r
general r h =
    let a = and_parts _ _ h in
    let b = and_parts _ _ a.0 in
    let c = and_parts _ _ b.0 in
    (ltb-true r 16 c.0, unequal r 0 c.1, unequal r 2 b.1, unequal r 3 a.1)

source : (o : Operand) → is_source o ≡ true → IsSource (with_word o 0)
source (Reg r) h = let a = and_parts _ _ h in (ltb-true r 16 a.0, unequal r 3 a.1)
source (Indexed r x) h = (general r h, omega arith)
source (Symbolic x) h = omega arith
source (Absolute x) h = omega arith
source (Indirect r) h =
    let a = and_parts _ _ h in
    let b = and_parts _ _ a.0 in
    (ltb-true r 16 b.0, unequal r 2 b.1, unequal r 3 a.1)
source (Increment r) h = general r h
source (Immediate x) h = omega arith
source (Const c) h = h

destination : (o : Operand) → is_destination o ≡ true → IsDestination (with_word o 0)
destination (Reg r) h = ltb-true r 16 h
destination (Indexed r x) h = (general r h, omega arith)
destination (Symbolic x) h = omega arith
destination (Absolute x) h = omega arith
destination (Indirect r) h = true≢false (sym h)
destination (Increment r) h = true≢false (sym h)
destination (Immediate x) h = true≢false (sym h)
destination (Const c) h = true≢false (sym h)

offset : (o : ℤ) → is_offset o ≡ true → IsOffset o
offset (pos n) h = ltb-true n 512 h
offset (negsuc n) h = ltb-true n 512 h

value_same : (o : Operand) → is_value (with_word o 0) ≡ is_value o
value_same (Reg r) = refl
value_same (Indexed r x) = refl
value_same (Symbolic x) = refl
value_same (Absolute x) = refl
value_same (Indirect r) = refl
value_same (Increment r) = refl
value_same (Immediate x) = refl
value_same (Const c) = refl

-- with other extension words the operand is at the same place
record SamePlace (o : Operand) : Type 0 where
  register : (place_of (with_word o 0)).register ≡ (place_of o).register
  mode : (place_of (with_word o 0)).mode ≡ (place_of o).mode
  words : length (place_of (with_word o 0)).words ≡ length (place_of o).words
  has : has_word (with_word o 0) ≡ has_word o
  again : (x : ℕ) → with_word (with_word o 0) x ≡ with_word o x

same_place : (o : Operand) → SamePlace o
same_place (Reg r) = record { register = refl; mode = refl; words = refl; has = refl; again = λ x. refl }
same_place (Indexed r y) = record { register = refl; mode = refl; words = refl; has = refl; again = λ x. refl }
same_place (Symbolic y) = record { register = refl; mode = refl; words = refl; has = refl; again = λ x. refl }
same_place (Absolute y) = record { register = refl; mode = refl; words = refl; has = refl; again = λ x. refl }
same_place (Indirect r) = record { register = refl; mode = refl; words = refl; has = refl; again = λ x. refl }
same_place (Increment r) = record { register = refl; mode = refl; words = refl; has = refl; again = λ x. refl }
same_place (Immediate y) = record { register = refl; mode = refl; words = refl; has = refl; again = λ x. refl }
same_place (Const c) = record { register = refl; mode = refl; words = refl; has = refl; again = λ x. refl }

-- an instruction of this shape is one, with 0 for its extension words
bare_is : (i : Instr) → is_shaped i ≡ true → IsInstruction (extended i 0 0)
bare_is (Two op byte src dst) h =
    let a = and_parts (is_source src) (is_destination dst) h in
    (source src a.0, pick (has_word src))
  where
    pick : (b : Bool) → IsDestination (with_word dst (if b then 0 else 0))
    pick true = destination dst (and_parts (is_source src) (is_destination dst) h).1
    pick false = destination dst (and_parts (is_source src) (is_destination dst) h).1
bare_is (One op byte arg) h =
    let a = and_parts (is_source arg) (is_allowed op byte arg) h in
    let v = value_same arg in
    (source arg a.0, rw v (a.1))
bare_is Reti h = tt
bare_is (Jump cond o) h =
    let a = and_parts (nat_lt cond 8) (is_offset o) h in
    (ltb-true cond 8 a.0, offset o a.1)
bare_is (Sancus code) h =
    let a = and_parts (nat_lt code 8) (not (code == 3)) h in
    (ltb-true code 8 a.0, unequal code 3 a.1)

either_zero : (b : Bool) → ◌≡◌ {A = ℕ} (if b then 0 else 0) 0
either_zero true = refl
either_zero false = refl

first_same : (i : Instr) → first_word (extended i 0 0) ≡ first_word i
first_same (Two op byte src dst) =
    let z = either_zero (has_word src) in
    let s = same_place src in
    let d = same_place dst in
    let sr = s.register in
    let sm = s.mode in
    let dr = d.register in
    let dm = d.mode in
    rw (z, sr, sm, dr, dm) refl
first_same (One op byte arg) =
    let s = same_place arg in
    let sr = s.register in
    let sm = s.mode in
    rw (sr, sm) refl
first_same Reti = refl
first_same (Jump cond o) = refl
first_same (Sancus code) = refl

length_same : (i : Instr) → length (spelling (extended i 0 0)) ≡ length (spelling i)
length_same (Two op byte src dst) =
    let z = either_zero (has_word src) in
    let s = (same_place src).words in
    let d = (same_place dst).words in
    let e = length-append (place_of src).words (place_of dst).words in
    let g = length-append (place_of (with_word src 0)).words (place_of (with_word dst 0)).words in
    rw z (omega (arith, s, d, e, g))
length_same (One op byte arg) = let s = (same_place arg).words in omega (arith, s)
length_same Reti = refl
length_same (Jump cond o) = refl
length_same (Sancus code) = refl

again : (i : Instr) (x y : ℕ) → extended (extended i 0 0) x y ≡ extended i x y
again (Two op byte src dst) x y =
    let z = either_zero (has_word src) in
    let s = same_place src in
    let d = same_place dst in
    let sa = s.again x in
    let sh = s.has in
    let da = d.again (if has_word src then y else x) in
    rw (z, sa, sh, da) refl
again (One op byte arg) x y = let s = (same_place arg).again x in rw s refl
again Reti x y = refl
again (Jump cond o) x y = refl
again (Sancus code) x y = refl

reads_bare : (i : Instr) → IsInstruction i → (x y : ℕ) → instruction_at (first_word i) x y ≡ Some (extended i x y, length (spelling i))
reads_bare (Two op byte src dst) h x y = reads_extended _ _ _ x y _ _ (spelled_reads (Two op byte src dst) h [])
reads_bare (One op byte arg) h x y = reads_extended _ _ _ x y _ _ (spelled_reads (One op byte arg) h [])
reads_bare Reti h x y = reads_extended _ _ _ x y _ _ (spelled_reads Reti h [])
reads_bare (Jump cond o) h x y = reads_extended _ _ _ x y _ _ (spelled_reads (Jump cond o) h [])
reads_bare (Sancus code) h x y = reads_extended _ _ _ x y _ _ (spelled_reads (Sancus code) h [])

-- how many words it has, and how it is read
pub counted : (i : Instr) → is_shaped i ≡ true → length_of (first_word i) ≡ Some (length (spelling i))
counted i shaped = ap length_of (sym (first_same i)) ∙ length_of_spelling (extended i 0 0) (bare_is i shaped) ∙ ap (λ n. Some n) (length_same i)

pub begins : (i : Instr) → is_shaped i ≡ true → (x y : ℕ) → instruction_at (first_word i) x y ≡ Some (extended i x y, length (spelling i))
begins i shaped x y =
    let f = first_same i in
    let l = length_same i in
    let e = again i x y in
    ap (λ w. instruction_at w x y) (sym f) ∙ reads_bare (extended i 0 0) (bare_is i shaped) x y
    ∙ ap (λ n. Some (extended (extended i 0 0) x y, n)) l ∙ ap (λ (j : Instr). Some (j, length (spelling i))) e

-- an operand's own word
data OperandWords (o : Operand) : Type 0 where
  Without : (place_of o).words ≡ [] → has_word o ≡ false → ((x : ℕ) → with_word o x ≡ o) → OperandWords o
  With : (y : ℕ) → (place_of o).words ≡ y ∷ [] → has_word o ≡ true → with_word o y ≡ o → OperandWords o

pub constant_words : (c : ℕ) → (constant c).words ≡ []
constant_words c = pick (c == 0) (c == 1) (c == 2) (c == 4) (c == 8)
  where
    pick : (c0 c1 c2 c4 c8 : Bool) → (if c0 then at 3 0 [] else if c1 then at 3 1 [] else if c2 then at 3 2 [] else if c4 then at 2 2 [] else if c8 then at 2 3 [] else at 3 3 []).words ≡ []
    pick true c1 c2 c4 c8 = refl
    pick false true c2 c4 c8 = refl
    pick false false true c4 c8 = refl
    pick false false false true c8 = refl
    pick false false false false true = refl
    pick false false false false false = refl

operand_words : (o : Operand) → OperandWords o
operand_words (Reg r) = Without refl refl (λ x. refl)
operand_words (Indexed r y) = With y refl refl refl
operand_words (Symbolic y) = With y refl refl refl
operand_words (Absolute y) = With y refl refl refl
operand_words (Indirect r) = Without refl refl (λ x. refl)
operand_words (Increment r) = Without refl refl (λ x. refl)
operand_words (Immediate y) = With y refl refl refl
operand_words (Const c) = Without (constant_words c) refl (λ x. refl)

abbrev pub behind : Instr → List ℕ
behind i = drop 1 (spelling i)

-- an instruction is read back from its own words
pub own : (i : Instr) → extended i (get_or (behind i) 0 0) (get_or (behind i) 1 0) ≡ i
own (Two op byte src dst) = elim (operand_words src) [
  | Without sw sh sx ↦ elim (operand_words dst) [
    | Without dw dh dx ↦ let s = sx 0 in let d = dx 0 in rw (sw, dw, sh, s, d) refl
    | With y dw dh dx ↦ let s = sx y in rw (sw, dw, sh, s, dx) refl
  ]
  | With x sw sh sx ↦ elim (operand_words dst) [
    | Without dw dh dx ↦ let d = dx 0 in rw (sw, dw, sh, sx, d) refl
    | With y dw dh dx ↦ rw (sw, dw, sh, sx, dx) refl
  ]
]
own (One op byte arg) = elim (operand_words arg) [
  | Without sw sh sx ↦ let s = sx 0 in rw (sw, s) refl
  | With x sw sh sx ↦ rw (sw, sx) refl
]
own Reti = refl
own (Jump cond o) = refl
own (Sancus code) = refl

pub spelled : (i : Instr) → spelling i ≡ first_word i ∷ behind i
spelled (Two op byte src dst) = refl
spelled (One op byte arg) = refl
spelled Reti = refl
spelled (Jump cond o) = refl
spelled (Sancus code) = refl
