-- How many bytes the first instruction of some bytes has, and the code that a text gives.
use Rattle.std.proofs.Common.{◌≡◌, ℕ, ◌+◌, ◌-◌, ◌*◌, ◌/◌, ◌%◌, ◌≤◌, ◌<◌, min, Bool, true, false, cond}
use Rattle.std.proofs.Common.{List, [], ◌∷◌, length, refl, subst, arith, length-append, Some, None}
use Rattle.std.specs.Prelude.{◌==◌, nat_le, Option, Result, Ok, Err}
use Rattle.std.proofs.lemmas.Bool.Decides.{nat_tests}
use Rattle.sx_isa.specs.declared.instruction.Operand.{Operand}
use Rattle.sx_isa.specs.declared.instruction.Op2.{Op2}
use Rattle.sx_isa.specs.declared.instruction.Op1.{Op1}
use Rattle.sx_isa.specs.declared.instruction.Instr.{Instr}
use Rattle.sx_isa.specs.Legal.{is_allowed}
use Rattle.sx_isa.specs.Spelling.{is_constant, Place, constant, place_of}
use Rattle.sx_isa.specs.Reading.{two_of, one_of, two_at, one_at, instruction_at, takes_word}
use Rattle.sx_isa.proofs.Formats.{by_format}
use Rattle.sx_asm.specs.declared.error.AsmError.{AsmError}
use Rattle.sx_asm.specs.declared.written.Value.{Value}
use Rattle.sx_asm.specs.declared.written.Value.TheVariants.{Number, Name}
use Rattle.sx_asm.specs.declared.written.Written.{Written}
use Rattle.sx_asm.specs.declared.written.Written.TheVariants as written
use Rattle.sx_asm.specs.declared.written.Item.{Item}
use Rattle.sx_asm.specs.declared.written.Item.TheVariants.{Label, Word, Two, One, Jump, Reti, Sancus}
use Rattle.sx_asm.specs.declared.written.Entry.{Entry}
use Rattle.sx_asm.specs.declared.written.Label.{Label as Placed}
use Rattle.sx_asm.specs.Reading.{◌>>=◌, read}
use Rattle.sx_asm.specs.Meaning.{extension, size, further, hash_operand, operand_at, labels_of, words_at, bytes_of, code_of}
use Rattle.sx_asm.specs.Assembled.{formed, named, reached, fitted, stands, code_with, code_or_fault, assembled}
use Rattle.sx_asm.specs.Shown.{line_of, listed, word_from}
use Rattle.sx_asm.proofs.Listings.{bytes_length}
use Rattle.command_promise.proofs.Endings.{pick}
use Rattle.lemmas.specs.Truth.{truth}

-- ---- instructions

-- one to three words
abbrev Few : ℕ → Type 0
Few n = (1 ≤ n) × (n ≤ 3)

abbrev FewIn : Option (Instr × ℕ) → Type 0
FewIn None = Unit {0}
FewIn (Some f) = Few f.1

bit_few : (a b : Bool) → Few (1 + truth a + truth b)
bit_few true true = (omega arith, omega arith)
bit_few true false = (omega arith, omega arith)
bit_few false true = (omega arith, omega arith)
bit_few false false = (omega arith, omega arith)

one_bit : (a : Bool) → Few (1 + truth a)
one_bit true = (omega arith, omega arith)
one_bit false = (omega arith, omega arith)

two_few : (o : Option Op2) (byte : Bool) (src : Operand) (dst : Option Operand) (n : ℕ) → Few n
    → FewIn (two_of o byte src dst n)
two_few None byte src dst n h = tt
two_few (Some op) byte src None n h = tt
two_few (Some op) byte src (Some d) n h = h

one_few : (o : Option Op1) (byte : Bool) (arg : Operand) (n : ℕ) → Few n → FewIn (one_of o byte arg n)
one_few None byte arg n h = tt
one_few (Some op) byte arg n h = pick (is_allowed op byte arg) _ _ FewIn h tt

words_few : (w0 w1 w2 : ℕ) → FewIn (instruction_at w0 w1 w2)
unfolding two_at one_at
words_few w0 w1 w2 =
    by_format (λ r. FewIn (r w1 w2)) w0
    (λ h. two_few _ _ _ _ _ (bit_few (takes_word (w0 / 256 % 16) (w0 / 16 % 4)) (takes_word (w0 % 16) (w0 / 128 % 2))))
    (λ h k. (omega arith, omega arith)) (λ h k l. (omega arith, omega arith)) (λ h. (omega arith, omega arith))
    (λ h k. one_few _ _ _ _ (one_bit (takes_word (w0 % 16) (w0 / 16 % 4)))) (λ h. tt)

-- a line is the text of one to three words of the bytes
pub record Sized (bytes : List ℕ) (size : ℕ) : Type 0 where
  pub some : 2 ≤ size
  pub few : size ≤ 6
  pub even : size % 2 ≡ 0
  pub within : size ≤ length bytes

word_sized : (bytes : List ℕ) → 2 ≤ length bytes → Sized bytes 2
word_sized bytes h = record { some = omega arith; few = omega arith; even = refl; within = h }

line_sized : (at : ℕ) (bytes : List ℕ) (r : Option (Instr × ℕ)) → 2 ≤ length bytes → FewIn r → Sized bytes (line_of at bytes r).1
line_sized at bytes None h few = word_sized bytes h
line_sized at bytes (Some f) h few = by_length (nat_le (2 * f.1) (length bytes)) refl
  where
    by_length : (t : Bool) → nat_le (2 * f.1) (length bytes) ≡ t → Sized bytes (line_of at bytes (Some f)).1
    by_length false g = rw g (word_sized bytes h)
    by_length true g =
        let long : 2 * f.1 ≤ length bytes = grind (arith, nat_tests, g) in
        rw g (record { some = omega (arith, few.0); few = omega (arith, few.1); even = omega arith; within = long })

pub listed_sized : (at : ℕ) (bytes : List ℕ) → 2 ≤ length bytes → Sized bytes (listed at bytes).1
unfolding listed
listed_sized at bytes h = line_sized at bytes _ h (words_few (word_from bytes 0) (word_from bytes 2) (word_from bytes 4))

-- ---- code

constant_none : (c : ℕ) → length (constant c).words ≡ 0
constant_none c =
    let P : Place → Type 0 = λ p. length p.words ≡ 0 in
    pick (c == 0) _ _ P refl
    (pick (c == 1) _ _ P refl (pick (c == 2) _ _ P refl (pick (c == 4) _ _ P refl (pick (c == 8) _ _ P refl refl))))

-- an operand has the extension words that were worked out for it
hash_words_are : (labels : List Placed) (v : Value) → length (place_of (hash_operand labels v)).words ≡ extension (written.Hash v)
hash_words_are labels (Number n) = by_test (is_constant n) refl
  where
    by_test : (t : Bool) → is_constant n ≡ t → length (place_of (hash_operand labels (Number n))).words ≡ extension (written.Hash (Number n))
    by_test true e = rw e (constant_none n)
    by_test false e = rw e refl
hash_words_are labels (Name s) = refl

words_are : (labels : List Placed) (at : ℕ) (w : Written) → length (place_of (operand_at labels at w)).words ≡ extension w
words_are labels at (written.Reg r) = refl
words_are labels at (written.Indexed v r) = refl
words_are labels at (written.Indirect r) = refl
words_are labels at (written.Increment r) = refl
words_are labels at (written.Hash v) = hash_words_are labels v
words_are labels at (written.Immediate v) = refl
words_are labels at (written.Absolute v) = refl
words_are labels at (written.Symbolic v) = refl

item_size : (labels : List Placed) (at : ℕ) (i : Item) → 2 * length (words_at labels at i) ≡ size i
item_size labels at (Label s) = refl
item_size labels at (Word v) = refl
item_size labels at (Two op byte src dst) =
    let s = operand_at labels (further at 2) src in
    let d = operand_at labels (further at (2 + 2 * extension src)) dst in
    omega (
      arith,
      words_are labels (further at 2) src,
      words_are labels (further at (2 + 2 * extension src)) dst,
      length-append (place_of s).words (place_of d).words,
    )
item_size labels at (One op byte arg) = omega (arith, words_are labels (further at 2) arg)
item_size labels at (Jump cond target) = refl
item_size labels at Reti = refl
item_size labels at (Sancus code) = refl

code_fits : (labels : List Placed) (at room : ℕ) (es : List Entry) → fitted room es ≡ Ok tt → length (code_of labels at es) ≤ room
code_fits labels at room [] h = omega arith
code_fits labels at room (e ∷ es) h = by_test (nat_le (size e.item) room) refl (code_fits labels (further at (size e.item)) (room - size e.item) es)
  where
    by_test : (t : Bool) → nat_le (size e.item) room ≡ t
        → (fitted (room - size e.item) es ≡ Ok tt → length (code_of labels (further at (size e.item)) es) ≤ room - size e.item)
        → length (code_of labels at (e ∷ es)) ≤ room
    by_test false f ih = absurd (let k = rw f at h in cc)
    by_test true f ih =
        let words = words_at labels at e.item in
        let fits : size e.item ≤ room = grind (arith, nat_tests, f) in
        omega (
          arith,
          ih (rw f at h),
          fits,
          item_size labels at e.item,
          bytes_length words,
          length-append (bytes_of words) (code_of labels (further at (size e.item)) es),
        )

code_even : (labels : List Placed) (at : ℕ) (es : List Entry) → length (code_of labels at es) % 2 ≡ 0
code_even labels at [] = refl
code_even labels at (e ∷ es) =
    let words = words_at labels at e.item in
    omega (
      arith,
      code_even labels (further at (size e.item)) es,
      bytes_length words,
      length-append (bytes_of words) (code_of labels (further at (size e.item)) es),
    )

-- an answer that came through a step
passed : {A B : Type 0} (r : Result A AsmError) (f : A → Result B AsmError) (y : B) → r >>= f ≡ Ok y → (x : A) × (r ≡ Ok x) × (f x ≡ Ok y)
passed (Ok x) f y h = (x, refl, h)
passed (Err e) f y h = absurd (cc h)

-- code is in words, none above 65,535
pub record Standing (at : ℕ) (code : List ℕ) : Type 0 where
  pub even : length code % 2 ≡ 0
  pub fits : at + length code ≤ 65536

stands_fits : (labels : List Placed) (at : ℕ) (es : List Entry) → at < 65536 → stands at es ≡ Ok tt → at + length (code_of labels at es) ≤ 65536
stands_fits labels at es low h = by_test (at % 2 == 0) refl
  where
    by_test : (t : Bool) → (at % 2 == 0) ≡ t → at + length (code_of labels at es) ≤ 65536
    by_test false f = absurd (let k = rw f at h in cc)
    by_test true f = omega (arith, code_fits labels at (min 8192 (65536 - at)) es (rw f at h), low)

code_stands : (labels : List Placed) (at : ℕ) (es : List Entry) (code : List ℕ) → at < 65536 → code_with labels at es ≡ Ok code → Standing at code
code_stands labels at es code low h =
    let a = passed (formed es) _ code h in
    let b = passed (named labels 0 es) _ code a.2 in
    let c = passed (reached labels at es) _ code b.2 in
    let d = passed (stands at es) _ code c.2 in
    let same : code_of labels at es ≡ code = (let e = d.2 in cc) in
    let P : List ℕ → Type 0 = λ x. Standing at x in
    subst P same (record { even = code_even labels at es; fits = stands_fits labels at es low d.1 })

pub assembled_stands : (at : ℕ) (text code : List ℕ) → at < 65536 → assembled at text ≡ Ok code → Standing at code
unfolding assembled
assembled_stands at text code low h =
    let r = passed (read text) (code_or_fault at) code h in code_stands (labels_of at r.0) at r.0 code low r.2
