-- The computing reading is the spelling read back: its laws, and the clauses of the calls.
use Rattle.std.proofs.Common.{◌≡◌, ℕ, ◌<◌, [], ◌∷◌, length, refl, ap, sym, ◌∙◌, Option, Some, None, IfSome, IsNone, lit<, ◌↔◌}
use Rattle.sx_isa.specs.declared.instruction.Instr.{Instr}
use Rattle.sx_isa.specs.Spelling.{spelling}
use Rattle.sx_isa.specs.Instructions.{first_word, IsInstruction, IsIllegal, BeginsWith}
use Rattle.sx_isa.specs.Reading.{instruction_at, length_of}
use Rattle.sx_isa.proofs.Spelled.{reads}
use Rattle.sx_isa.proofs.Sound.{first_begins, illegal, none, sound}
use Rattle.sx_isa.proofs.Lengths.{counted, counted_some, length_is, length_none, length_of_spelling}

-- the laws of the computing reading
pub reading_found : (w0 w1 w2 n : ℕ) (i : Instr) → w0 < 65536 → w1 < 65536 → w2 < 65536 →
    (instruction_at w0 w1 w2 ≡ Some (i, n)) ↔ BeginsWith (w0 ∷ w1 ∷ w2 ∷ []) i n
reading_found w0 w1 w2 n i a b c = (λ e. sound w0 w1 w2 a b c (i, n) e, reads w0 w1 w2 i n)

pub reading_none : (w0 w1 w2 : ℕ) → w0 < 65536 → w1 < 65536 → w2 < 65536 →
    (instruction_at w0 w1 w2 ≡ None) ↔ IsIllegal w0
reading_none w0 w1 w2 a b c = (none w0 w1 w2 a, illegal w0 w1 w2 a b c)

pub length_read : (w0 w1 w2 n : ℕ) →
    (length_of w0 ≡ Some n) ↔ ((i : Instr) × (instruction_at w0 w1 w2 ≡ Some (i, n)))
length_read w0 w1 w2 n =
    (λ e. counted_some (instruction_at w0 w1 w2) n (sym (length_is w0 w1 w2) ∙ e), λ f. length_is w0 w1 w2 ∙ ap counted f.1)

pub length_found : (w0 n : ℕ) → w0 < 65536 →
    (length_of w0 ≡ Some n) ↔ ((i : Instr) × IsInstruction i × (first_word i ≡ w0) × (length (spelling i) ≡ n))
length_found w0 n a = (
  λ e. (
      let f = (length_read w0 0 0 n).0 e in
      let b = sound w0 0 0 a (lit< tt) (lit< tt) (f.0, n) f.1 in
      (f.0, b.0, first_begins w0 (0 ∷ 0 ∷ []) f.0 n b, sym b.1)
      ),
  λ f. ap length_of (sym f.2) ∙ (length_of_spelling f.0 f.1 ∙ ap Some f.3),
)

pub length_illegal : (w0 : ℕ) → w0 < 65536 → (length_of w0 ≡ None) ↔ IsIllegal w0
length_illegal w0 a =
    (λ e. none w0 0 0 a (length_none w0 0 0 e), λ h. length_is w0 0 0 ∙ ap counted (illegal w0 0 0 a (lit< tt) (lit< tt) h))

-- the clauses of the calls
pub decode_found : (w0 w1 w2 : ℕ) (r : Option (Instr × ℕ)) → w0 < 65536 → w1 < 65536 → w2 < 65536 →
    r ≡ instruction_at w0 w1 w2 → IfSome r (λ f. BeginsWith (w0 ∷ w1 ∷ w2 ∷ []) f.0 f.1)
decode_found w0 w1 w2 None a b c e = tt
decode_found w0 w1 w2 (Some f) a b c e = sound w0 w1 w2 a b c f (sym e)

is_none : {A : Type 0} (r : Option A) → IsNone r → r ≡ None
is_none None h = refl
is_none (Some x) h = absurd (cc)

none_is : {A : Type 0} (r : Option A) → r ≡ None → IsNone r
none_is None h = refl
none_is (Some x) h = absurd (cc)

-- what is none exactly where the first word is illegal, as the calls say it
pub none_where : {A : Type 0} (r q : Option A) (w0 : ℕ) → r ≡ q → (q ≡ None) ↔ IsIllegal w0 →
    IsNone r ↔ IsIllegal w0
none_where r q w0 e both = (λ h. both.0 (sym e ∙ is_none r h), λ h. none_is r (e ∙ both.1 h))
