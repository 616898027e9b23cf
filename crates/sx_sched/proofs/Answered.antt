-- Answers of the code are those that are meant.
use Rattle.std.proofs.Common.{◌≡◌, ℕ, ◌/◌, ◌%◌, Bool, true, false, ◌&&◌, ◌==◌, nat_le, List, length, Result, Ok, Err, refl, sym, ap, subst, ◌∙◌, arith}
use Rattle.std.specs.Prelude.{is_ok, if◌then◌else◌, IsTrue}
use Rattle.std.specs.List.{list_all}
use Rattle.std.specs.Str.{IsUtf8, is_utf8}
use Rattle.std.proofs.lemmas.Bool.Decides.{nat_tests}
use Rattle.std.proofs.lemmas.Str.{IsUtf8-from_is_utf8, is_utf8-from_IsUtf8}
use Rattle.std.proofs.lemmas.List.Sums.{AllPass-from_list_all, list_all-from_AllPass}
use Rattle.hex.specs.Hex.{decode_of, is_hex_digit}
use Rattle.hex.specs.declared.error.FromHexError.{FromHexError}
use Rattle.hex.proofs.HexLemmas.{decode_of-digits, decode_of-ok}
use Rattle.sx_asm.specs.declared.error.AsmError.{AsmError}
use Rattle.sx_asm.specs.Assembled.{assembled}
use Rattle.sx_sched.specs.HexText.{is_hex_text}
use Rattle.sx_sched.specs.declared.lines.LineError.{LineError}
use Rattle.sx_sched.specs.declared.lines.LineError.TheVariants.{Fault, OutOfMemory}
use Rattle.sx_sched.specs.Reading.{no_bytes, no_code, decoded_bytes, bytes_of, code_in, code_of}
use Rattle.sx_sched.specs.Answers.{AreSaid, MayWant, Answers}

one_way : (t : Bool) (b : List ℕ) → is_ok (if t then Ok b else Err no_bytes) ≡ t
one_way true b = refl
one_way false b = refl

-- the test tells whether a word says bytes
pub says_bytes : (most : ℕ) (word : List ℕ) → is_hex_text most word ≡ is_ok (bytes_of most word)
says_bytes most word = by_result (decode_of word) refl
  where
    by_digits : (e : FromHexError) (t : Bool) → decode_of word ≡ Err e → list_all is_hex_digit word ≡ t → is_hex_text most word ≡ is_ok (bytes_of most word)
    by_digits e false h d = rw (d, h) refl
    by_digits e true h d = by_length (length word % 2 == 0) refl
      where
        by_length : (t : Bool) → (length word % 2 == 0) ≡ t → is_hex_text most word ≡ is_ok (bytes_of most word)
        by_length false l = rw (d, l, h) refl
        by_length true l =
            let even : length word % 2 ≡ 0 = grind (arith, nat_tests, l) in
            let some = decode_of-digits word even (AllPass-from_list_all is_hex_digit word d) in
            absurd (cc (some.1, h))

    by_result : (r : Result (List ℕ) FromHexError) → decode_of word ≡ r → is_hex_text most word ≡ is_ok (bytes_of most word)
    by_result (Err e) h = by_digits e (list_all is_hex_digit word) h refl
    by_result (Ok b) h =
        let facts = decode_of-ok word b h in
        let digits : list_all is_hex_digit word ≡ true = list_all-from_AllPass is_hex_digit word facts.1 in
        let even : (length word % 2 == 0) ≡ true = rw facts.0 refl in
        let half : length word / 2 ≡ length b = let twice = facts.2 in omega (arith, twice) in
        rw (digits, even, half, h) (sym (one_way (nat_le 1 (length b) && nat_le (length b) most) b))

decoded_only : (most : ℕ) (r : Result (List ℕ) FromHexError) → is_ok (decoded_bytes most r) ≡ false → decoded_bytes most r ≡ Err no_bytes
decoded_only most (Err e) h = refl
decoded_only most (Ok b) h = by_test (nat_le 1 (length b) && nat_le (length b) most) refl
  where
    by_test : (t : Bool) → (nat_le 1 (length b) && nat_le (length b) most) ≡ t → decoded_bytes most (Ok b) ≡ Err no_bytes
    by_test false e = rw e refl
    by_test true e = absurd (let no : true ≡ false = sym (ap (λ (t : Bool). is_ok (if t then Ok b else Err no_bytes)) e) ∙ h in cc)

-- no bytes are said
pub says_none : (most : ℕ) (word : List ℕ) → is_hex_text most word ≡ false → bytes_of most word ≡ Err no_bytes
says_none most word h = decoded_only most (decode_of word) (sym (says_bytes most word) ∙ h)

are_said : (r : Result (List ℕ) LineError) → is_ok r ≡ true → AreSaid r
are_said (Ok b) h = tt
are_said (Err e) h = absurd (cc)

-- bytes are said, so memory for them may be required
pub says_some : (most : ℕ) (word : List ℕ) → is_hex_text most word ≡ true → AreSaid (bytes_of most word)
says_some most word h = are_said (bytes_of most word) (sym (says_bytes most word) ∙ h)

pub says_these : (most : ℕ) (word b : List ℕ) → is_hex_text most word ≡ true → decode_of word ≡ Ok b → bytes_of most word ≡ Ok b
says_these most word b h e = by_test (nat_le 1 (length b) && nat_le (length b) most) refl
  where
    said : bytes_of most word ≡ decoded_bytes most (Ok b)
    said = ap (decoded_bytes most) e

    by_test : (t : Bool) → (nat_le 1 (length b) && nat_le (length b) most) ≡ t → bytes_of most word ≡ Ok b
    by_test true t = said ∙ rw t refl
    by_test false t =
        let no : bytes_of most word ≡ Err no_bytes = said ∙ rw t refl in
        absurd (let f : true ≡ false = sym h ∙ says_bytes most word ∙ ap (λ (r : Result (List ℕ) LineError). is_ok r) no in cc)

-- What a text says.

abbrev CodeWants : List ℕ → Result (List ℕ) LineError → Type 0
CodeWants text = MayWant (λ (code : List ℕ). Unit {0}) text

-- a text that is UTF-8 may need memory, whether it has code or not
may_want : (text : List ℕ) (r : Result (List ℕ) AsmError) → IsTrue (is_utf8 text) → CodeWants text (code_in r)
may_want text (Err e) u = (refl, u)
may_want text (Ok code) u = by_test (nat_le 1 (length code) && nat_le (length code) 1024)
  where
    by_test : (t : Bool) → CodeWants text (if t then Ok code else Err no_code)
    by_test true = tt
    by_test false = (refl, u)

wanted : {T : Type 0} (view : T → List ℕ) (text : List ℕ) (meant : Result (List ℕ) LineError) (r : Result T LineError)
    → CodeWants text meant → Answers view (λ said. Unit {0}) meant r → Answers view (CodeWants text) meant r
wanted view text meant (Ok x) w h = h
wanted view text meant (Err (Fault rule)) w h = h
wanted view text meant (Err OutOfMemory) w h = w

-- what the assembler gives for a text that is UTF-8
pub code_given : {T : Type 0} (view : T → List ℕ) (at : ℕ) (text : List ℕ) (r : Result T LineError) → IsUtf8 text
    → Answers view (λ said. Unit {0}) (code_in (assembled at text)) r → Answers view (CodeWants text) (code_of assembled at text) r
code_given view at text r u h =
    let e : is_utf8 text ≡ true = is_utf8-from_IsUtf8 text u in
    let same : code_in (assembled at text) ≡ code_of assembled at text = rw e refl in
    subst (λ (meant : Result (List ℕ) LineError). Answers view (CodeWants text) meant r) same
    (wanted view text (code_in (assembled at text)) r (may_want text (assembled at text) e) h)

pub no_text : (at : ℕ) (text : List ℕ) → (IsUtf8 text → ⊥) → code_of assembled at text ≡ Err no_code
no_text at text n = by_test (is_utf8 text) refl
  where
    by_test : (t : Bool) → is_utf8 text ≡ t → code_of assembled at text ≡ Err no_code
    by_test false e = rw e refl
    by_test true e = absurd (n (IsUtf8-from_is_utf8 text e))
