-- Operands that are shown are read again.
use Rattle.std.proofs.Common.{◌≡◌, ℕ, ◌+◌, ◌*◌, ◌<◌, ◌≤◌, Bool, true, false, not, List, [], ◌∷◌, ◌++◌, length, refl, sym, ap, ◌∙◌, arith, Some, append_assoc, length-append}
use Rattle.std.proofs.lemmas.List.{append-nil}
use Rattle.std.specs.Prelude.{codes, ◌==◌, if◌then◌else◌, IsTrue}
use Rattle.std.specs.List.{list_all}
use Rattle.std.proofs.lemmas.Bool.Decides.{nat_tests}
use Rattle.sx_isa.specs.declared.instruction.Operand.{Operand}
use Rattle.sx_isa.specs.declared.instruction.Operand.TheVariants as operand
use Rattle.sx_isa.specs.Spelling.{is_constant}
use Rattle.sx_isa.specs.Instructions.{IsSource, IsDestination, IsWord}
use Rattle.sx_isa.proofs.Bare.{constant_words}
use Rattle.sx_asm.specs.declared.written.Token.{Token}
use Rattle.sx_asm.specs.declared.written.Token.TheVariants as token
use Rattle.sx_asm.specs.declared.written.Value.TheVariants.{Number}
use Rattle.sx_asm.specs.declared.written.Written.{Written}
use Rattle.sx_asm.specs.declared.written.Written.TheVariants as written
use Rattle.sx_asm.specs.Words.{register_name}
use Rattle.sx_asm.specs.Tokens.{is_word_byte}
use Rattle.sx_asm.specs.Grammar.{operand_of, parted, is_semicolon}
use Rattle.sx_asm.specs.Reading.{is_newline, parts, onto_first}
use Rattle.sx_asm.specs.Meaning.{further, distance, operand_at, extension}
use Rattle.sx_asm.specs.Assembled.{operand_known}
use Rattle.sx_asm.specs.Shown.{hex_digits, hex, operand_text, source_size}
use Rattle.sx_asm.proofs.ShownTokens.{IsToken, hex_token, register_token}
use Rattle.sx_asm.proofs.Parts.{NotWord, no, all_first, all_rest, read_in, reads_word, reads_sign, reads_hash, reads_hashes}

-- registers and words of an operand
abbrev pub HasPlace : Operand → Type 0
HasPlace (operand.Reg r) = r < 16
HasPlace (operand.Indexed r x) = (r < 16) × IsWord x
HasPlace (operand.Symbolic x) = IsWord x
HasPlace (operand.Absolute x) = IsWord x
HasPlace (operand.Indirect r) = r < 16
HasPlace (operand.Increment r) = r < 16
HasPlace (operand.Immediate x) = IsWord x
HasPlace (operand.Const c) = IsTrue (is_constant c)

pub place_source : (o : Operand) → IsSource o → HasPlace o
place_source (operand.Reg r) h = h.0
place_source (operand.Indexed r x) h = (h.0.0, h.1)
place_source (operand.Symbolic x) h = h
place_source (operand.Absolute x) h = h
place_source (operand.Indirect r) h = h.0
place_source (operand.Increment r) h = h.0
place_source (operand.Immediate x) h = h
place_source (operand.Const c) h = h

pub place_destination : (o : Operand) → IsDestination o → HasPlace o
place_destination (operand.Reg r) h = h
place_destination (operand.Indexed r x) h = (h.0.0, h.1)
place_destination (operand.Symbolic x) h = h
place_destination (operand.Absolute x) h = h
place_destination (operand.Indirect r) h = absurd h
place_destination (operand.Increment r) h = absurd h
place_destination (operand.Immediate x) h = absurd h
place_destination (operand.Const c) h = absurd h

constant_word : (c : ℕ) → IsTrue (is_constant c) → c < 65536
constant_word c h = grind (arith, nat_tests, h)

pub further_word : (at x : ℕ) → further at x < 65536
further_word at x = omega arith

-- Tokens.

abbrev pub operand_tokens : ℕ → Operand → List Token
operand_tokens at (operand.Reg r) = token.Reg r ∷ []
operand_tokens at (operand.Indexed r x) = token.Number x ∷ token.Open ∷ token.Reg r ∷ token.Close ∷ []
operand_tokens at (operand.Indirect r) = token.At ∷ token.Reg r ∷ []
operand_tokens at (operand.Increment r) = token.At ∷ token.Reg r ∷ token.Plus ∷ []
operand_tokens at (operand.Symbolic x) = token.Number (further at x) ∷ []
operand_tokens at (operand.Absolute x) = token.Ampersand ∷ token.Number x ∷ []
operand_tokens at (operand.Immediate x) = (if is_constant x then token.HashHash else token.Hash) ∷ token.Number x ∷ []
operand_tokens at (operand.Const c) = token.Hash ∷ token.Number c ∷ []

pub reads_token : (t : Token) (w rest : List ℕ) → IsToken t w → NotWord rest → read_in (w ++ rest) ≡ t ∷ read_in rest
reads_token t w rest f n = reads_word w rest t f.0 f.1 n

abbrev pub behind : Token → List Token → List Token
behind t ts = t ∷ ts

pub grouped : (a b c d rest : List ℕ) → (((a ++ b) ++ c) ++ d) ++ rest ≡ a ++ (b ++ (c ++ (d ++ rest)))
grouped a b c d rest = simp append_assoc

pub reads_operand : (at : ℕ) (o : Operand) (rest : List ℕ) → HasPlace o → NotWord rest
    → read_in (operand_text at o ++ rest) ≡ operand_tokens at o ++ read_in rest
reads_operand at (operand.Reg r) rest h n = reads_token (token.Reg r) (register_name r) rest (register_token r h) n
reads_operand at (operand.Indexed r x) rest h n =
    let e : operand_text at (operand.Indexed r x) ++ rest ≡ hex x ++ (40 ∷ (register_name r ++ (41 ∷ rest))) =
    grouped (hex x) (codes "(") (register_name r) (codes ")") rest in
    ap read_in e
    ∙ reads_token (token.Number x) (hex x) (40 ∷ (register_name r ++ (41 ∷ rest))) (hex_token x h.1) refl
    ∙ ap (behind (token.Number x))
    (reads_sign 40 (register_name r ++ (41 ∷ rest)) token.Open refl refl refl refl
    ∙ ap (behind token.Open)
    (reads_token (token.Reg r) (register_name r) (41 ∷ rest) (register_token r h.0) refl
    ∙ ap (behind (token.Reg r)) (reads_sign 41 rest token.Close refl refl refl refl)))
reads_operand at (operand.Indirect r) rest h n =
    reads_sign 64 (register_name r ++ rest) token.At refl refl refl refl
    ∙ ap (behind token.At) (reads_token (token.Reg r) (register_name r) rest (register_token r h) n)
reads_operand at (operand.Increment r) rest h n =
    ap read_in (ap (λ (t : List ℕ). 64 ∷ t) (append_assoc (register_name r) (43 ∷ []) rest))
    ∙ reads_sign 64 (register_name r ++ (43 ∷ rest)) token.At refl refl refl refl
    ∙ ap (behind token.At)
    (reads_token (token.Reg r) (register_name r) (43 ∷ rest) (register_token r h) refl
    ∙ ap (behind (token.Reg r)) (reads_sign 43 rest token.Plus refl refl refl refl))
reads_operand at (operand.Symbolic x) rest h n =
    reads_token (token.Number (further at x)) (hex (further at x)) rest (hex_token (further at x) (further_word at x)) n
reads_operand at (operand.Absolute x) rest h n =
    reads_sign 38 (hex x ++ rest) token.Ampersand refl refl refl refl
    ∙ ap (behind token.Ampersand) (reads_token (token.Number x) (hex x) rest (hex_token x h) n)
reads_operand at (operand.Immediate x) rest h n = by_test (is_constant x) refl
  where
    by_test : (b : Bool) → is_constant x ≡ b → read_in (operand_text at (operand.Immediate x) ++ rest) ≡ operand_tokens at (operand.Immediate x) ++ read_in rest
    by_test true e =
        rw e
        (reads_hashes (120 ∷ (hex_digits x ++ rest)) ∙ ap (behind token.HashHash) (reads_token (token.Number x) (hex x) rest (hex_token x h) n))
    by_test false e =
        rw e
        (reads_hash (120 ∷ (hex_digits x ++ rest)) ∙ ap (behind token.Hash) (reads_token (token.Number x) (hex x) rest (hex_token x h) n))
reads_operand at (operand.Const c) rest h n =
    reads_hash (120 ∷ (hex_digits c ++ rest))
    ∙ ap (behind token.Hash) (reads_token (token.Number c) (hex c) rest (hex_token c (constant_word c h)) n)

pub reads_last : (at : ℕ) (o : Operand) → HasPlace o → read_in (operand_text at o) ≡ operand_tokens at o
reads_last at o h =
    ap read_in (sym (append-nil (operand_text at o))) ∙ reads_operand at o [] h tt ∙ append-nil (operand_tokens at o)

-- What the tokens say.

abbrev pub written_of : ℕ → Operand → Written
written_of at (operand.Reg r) = written.Reg r
written_of at (operand.Indexed r x) = written.Indexed (Number x) r
written_of at (operand.Indirect r) = written.Indirect r
written_of at (operand.Increment r) = written.Increment r
written_of at (operand.Symbolic x) = written.Symbolic (Number (further at x))
written_of at (operand.Absolute x) = written.Absolute (Number x)
written_of at (operand.Immediate x) = if is_constant x then written.Immediate (Number x) else written.Hash (Number x)
written_of at (operand.Const c) = written.Hash (Number c)

pub says_operand : (at : ℕ) (o : Operand) → operand_of (operand_tokens at o) ≡ Some (written_of at o)
says_operand at (operand.Reg r) = refl
says_operand at (operand.Indexed r x) = refl
says_operand at (operand.Indirect r) = refl
says_operand at (operand.Increment r) = refl
says_operand at (operand.Symbolic x) = refl
says_operand at (operand.Absolute x) = refl
says_operand at (operand.Immediate x) = by_test (is_constant x) refl
  where
    by_test : (b : Bool) → is_constant x ≡ b → operand_of (operand_tokens at (operand.Immediate x)) ≡ Some (written_of at (operand.Immediate x))
    by_test true e = rw e refl
    by_test false e = rw e refl
says_operand at (operand.Const c) = refl

pub parts_operand : (at : ℕ) (o : Operand) (rest : List Token) → parted (operand_tokens at o ++ token.Comma ∷ rest) ≡ Some (operand_tokens at o, rest)
parts_operand at (operand.Reg r) rest = refl
parts_operand at (operand.Indexed r x) rest = refl
parts_operand at (operand.Indirect r) rest = refl
parts_operand at (operand.Increment r) rest = refl
parts_operand at (operand.Symbolic x) rest = refl
parts_operand at (operand.Absolute x) rest = refl
parts_operand at (operand.Immediate x) rest = by_test (is_constant x) refl
  where
    by_test : (b : Bool) → is_constant x ≡ b
        → parted (operand_tokens at (operand.Immediate x) ++ token.Comma ∷ rest) ≡ Some (operand_tokens at (operand.Immediate x), rest)
    by_test true e = rw e refl
    by_test false e = rw e refl
parts_operand at (operand.Const c) rest = refl

abbrev pub is_plain : Token → Bool
is_plain t = not (is_semicolon t)

pub plain_operand : (at : ℕ) (o : Operand) → list_all is_plain (operand_tokens at o) ≡ true
plain_operand at (operand.Reg r) = refl
plain_operand at (operand.Indexed r x) = refl
plain_operand at (operand.Indirect r) = refl
plain_operand at (operand.Increment r) = refl
plain_operand at (operand.Symbolic x) = refl
plain_operand at (operand.Absolute x) = refl
plain_operand at (operand.Immediate x) = by_test (is_constant x) refl
  where
    by_test : (b : Bool) → is_constant x ≡ b → list_all is_plain (operand_tokens at (operand.Immediate x)) ≡ true
    by_test true e = rw e refl
    by_test false e = rw e refl
plain_operand at (operand.Const c) = refl

pub operand_back : (p : ℕ) (o : Operand) → p < 65536 → HasPlace o → operand_at [] p (written_of p o) ≡ o
operand_back p (operand.Reg r) w h = refl
operand_back p (operand.Indexed r x) w h = refl
operand_back p (operand.Indirect r) w h = refl
operand_back p (operand.Increment r) w h = refl
operand_back p (operand.Symbolic x) w h = let e : distance p (further p x) ≡ x = omega (arith, h) in ap operand.Symbolic e
operand_back p (operand.Absolute x) w h = refl
operand_back p (operand.Immediate x) w h = by_test (is_constant x) refl
  where
    by_test : (b : Bool) → is_constant x ≡ b → operand_at [] p (written_of p (operand.Immediate x)) ≡ operand.Immediate x
    by_test true e = rw e refl
    by_test false e = rw e (rw e refl)
operand_back p (operand.Const c) w h = rw h refl

pub extension_back : (p : ℕ) (o : Operand) → HasPlace o → 2 * extension (written_of p o) ≡ source_size o
extension_back p (operand.Reg r) h = refl
extension_back p (operand.Indexed r x) h = refl
extension_back p (operand.Indirect r) h = refl
extension_back p (operand.Increment r) h = refl
extension_back p (operand.Symbolic x) h = refl
extension_back p (operand.Absolute x) h = refl
extension_back p (operand.Immediate x) h = by_test (is_constant x) refl
  where
    by_test : (b : Bool) → is_constant x ≡ b → 2 * extension (written_of p (operand.Immediate x)) ≡ source_size (operand.Immediate x)
    by_test true e = rw e refl
    by_test false e = rw e (rw e refl)
extension_back p (operand.Const c) h = rw (h, constant_words c) refl

pub known_back : (p : ℕ) (o : Operand) → operand_known [] (written_of p o) ≡ true
known_back p (operand.Reg r) = refl
known_back p (operand.Indexed r x) = refl
known_back p (operand.Indirect r) = refl
known_back p (operand.Increment r) = refl
known_back p (operand.Symbolic x) = refl
known_back p (operand.Absolute x) = refl
known_back p (operand.Immediate x) = by_test (is_constant x) refl
  where
    by_test : (b : Bool) → is_constant x ≡ b → operand_known [] (written_of p (operand.Immediate x)) ≡ true
    by_test true e = rw e refl
    by_test false e = rw e refl
known_back p (operand.Const c) = refl

-- Length, and no newline.

abbrev pub is_inner : ℕ → Bool
is_inner b = not (is_newline b)

abbrev pub IsFine : ℕ → List ℕ → Type 0
IsFine n text = (list_all is_inner text ≡ true) × (length text ≤ n)

pub all_append : {A : Type 0} (p : A → Bool) (xs ys : List A) → list_all p xs ≡ true → list_all p ys ≡ true → list_all p (xs ++ ys) ≡ true
all_append {A} p [] ys h k = k
all_append {A} p (x ∷ xs) ys h k = by_test (p x) refl (λ (g : list_all p xs ≡ true). all_append p xs ys g k)
  where
    by_test : (b : Bool) → p x ≡ b → (list_all p xs ≡ true → list_all p (xs ++ ys) ≡ true) → list_all p (x ∷ xs ++ ys) ≡ true
    by_test true e ih = rw e (ih (rw e at h))
    by_test false e ih = no (rw e at h)

pub fine_append : (m n k : ℕ) (x y : List ℕ) → IsFine m x → IsFine n y → m + n ≤ k → IsFine k (x ++ y)
fine_append m n k x y f g h = (all_append is_inner x y f.0 g.0, omega (arith, f.1, g.1, h, length-append x y))

inner_word : (w : List ℕ) → list_all is_word_byte w ≡ true → list_all is_inner w ≡ true
inner_word [] h = refl
inner_word (b ∷ bs) h =
    by_test (b == 10) refl (all_first is_word_byte b bs h) (inner_word bs (all_rest is_word_byte b bs h))
  where
    by_test : (t : Bool) → (b == 10) ≡ t → is_word_byte b ≡ true → list_all is_inner bs ≡ true → list_all is_inner (b ∷ bs) ≡ true
    by_test false e w ih = rw e ih
    by_test true e w ih = let k : b ≡ 10 = grind (arith, nat_tests, e) in no (rw k at w)

pub fine_token : (t : Token) (w : List ℕ) → IsToken t w → IsFine 9 w
fine_token t [] f = no f.0
fine_token t (b ∷ bs) f = (inner_word (b ∷ bs) f.0, (let h = f.2 in grind (arith, nat_tests, h)))

fine_hex : (x : ℕ) → IsWord x → IsFine 9 (hex x)
fine_hex x h = fine_token (token.Number x) (hex x) (hex_token x h)

fine_register : (r : ℕ) → r < 16 → IsFine 9 (register_name r)
fine_register r h = fine_token (token.Reg r) (register_name r) (register_token r h)

fine_sign : (c : ℕ) → is_inner c ≡ true → IsFine 1 (c ∷ [])
fine_sign c h = (rw h refl, omega arith)

pub fine_operand : (at : ℕ) (o : Operand) → HasPlace o → IsFine 20 (operand_text at o)
fine_operand at (operand.Reg r) h = let f = fine_register r h in (f.0, omega (arith, f.1))
fine_operand at (operand.Indexed r x) h =
    fine_append 19 1 20 ((hex x ++ codes "(") ++ register_name r) (codes ")")
    (fine_append 10 9 19 (hex x ++ codes "(") (register_name r)
    (fine_append 9 1 10 (hex x) (codes "(") (fine_hex x h.1) (fine_sign 40 refl) (omega arith)) (fine_register r h.0) (omega arith))
    (fine_sign 41 refl) (omega arith)
fine_operand at (operand.Indirect r) h = fine_append 1 9 20 (codes "@") (register_name r) (fine_sign 64 refl) (fine_register r h) (omega arith)
fine_operand at (operand.Increment r) h =
    fine_append 1 10 20 (codes "@") (register_name r ++ codes "+") (fine_sign 64 refl)
    (fine_append 9 1 10 (register_name r) (codes "+") (fine_register r h) (fine_sign 43 refl) (omega arith)) (omega arith)
fine_operand at (operand.Symbolic x) h = let f = fine_hex (further at x) (further_word at x) in (f.0, omega (arith, f.1))
fine_operand at (operand.Absolute x) h = fine_append 1 9 20 (codes "&") (hex x) (fine_sign 38 refl) (fine_hex x h) (omega arith)
fine_operand at (operand.Immediate x) h = by_test (is_constant x) refl
  where
    by_test : (b : Bool) → is_constant x ≡ b → IsFine 20 (operand_text at (operand.Immediate x))
    by_test true e = rw e (fine_append 2 9 20 (codes "##") (hex x) (refl, omega arith) (fine_hex x h) (omega arith))
    by_test false e = rw e (fine_append 1 9 20 (codes "#") (hex x) (fine_sign 35 refl) (fine_hex x h) (omega arith))
fine_operand at (operand.Const c) h = fine_append 1 9 20 (codes "#") (hex c) (fine_sign 35 refl) (fine_hex c (constant_word c h)) (omega arith)

pub parts_none : {A : Type 0} (at : A → Bool) (xs : List A) → list_all (λ x. not (at x)) xs ≡ true → parts at xs ≡ xs ∷ []
parts_none {A} at [] h = refl
parts_none {A} at (x ∷ xs) h = by_test (at x) refl (parts_none at xs)
  where
    by_test : (b : Bool) → at x ≡ b → (list_all (λ x. not (at x)) xs ≡ true → parts at xs ≡ xs ∷ []) → parts at (x ∷ xs) ≡ (x ∷ xs) ∷ []
    by_test true e ih = no (rw e at h)
    by_test false e ih = rw e (ap (onto_first x) (ih (rw e at h)))
