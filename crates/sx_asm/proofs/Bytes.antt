-- What is assembled are bytes.
use Rattle.std.proofs.Common.{◌≡◌, ℕ, List, [], ◌∷◌, ◌++◌, Result, Ok, Err, subst, arith}
use Rattle.sx_asm.specs.declared.written.Entry.{Entry}
use Rattle.sx_asm.specs.declared.written.Label.{Label as Placed}
use Rattle.sx_asm.specs.declared.error.AsmError.{AsmError}
use Rattle.sx_asm.specs.Reading.{◌>>=◌, read}
use Rattle.sx_asm.specs.Meaning.{further, size, words_at, labels_of, bytes_of, code_of}
use Rattle.sx_asm.specs.Assembled.{formed, named, reached, stands, code_or_fault, assembled}
use Rattle.sx_asm.specs.Laws.{EachByte}

both : (xs ys : List ℕ) → EachByte xs → EachByte ys → EachByte (xs ++ ys)
both [] ys h k = k
both (x ∷ xs) ys h k = (h.0, both xs ys h.1 k)

words_bytes : (ws : List ℕ) → EachByte (bytes_of ws)
words_bytes [] = tt
words_bytes (w ∷ ws) = (omega arith, (omega arith, words_bytes ws))

code_bytes : (labels : List Placed) (at : ℕ) (es : List Entry) → EachByte (code_of labels at es)
code_bytes labels at [] = tt
code_bytes labels at (e ∷ es) =
    both (bytes_of (words_at labels at e.item)) (code_of labels (further at (size e.item)) es) (words_bytes (words_at labels at e.item))
    (code_bytes labels (further at (size e.item)) es)

-- an answer that is what an earlier rule lets through
let_through : {A : Type 0} (r : Result A AsmError) (next : A → Result (List ℕ) AsmError) (code : List ℕ)
    → ((a : A) → next a ≡ Ok code → EachByte code) → (r >>= next) ≡ Ok code → EachByte code
let_through (Ok a) next code f h = f a h
let_through (Err e) next code f h = absurd (cc)

given : (labels : List Placed) (at : ℕ) (es : List Entry) (code : List ℕ)
    → ◌≡◌ {A = Result (List ℕ) AsmError} (Ok (code_of labels at es)) (Ok code) → EachByte code
given labels at es code h = let same : code_of labels at es ≡ code = cc in subst EachByte same (code_bytes labels at es)

fault_or_bytes : (at : ℕ) (es : List Entry) (code : List ℕ) → code_or_fault at es ≡ Ok code → EachByte code
fault_or_bytes at es code h =
    let labels = labels_of at es in
    let_through (formed es) _ code
    (λ a. let_through (named labels 0 es) _ code
    (λ b. let_through (reached labels at es) _ code
    (λ c. let_through (stands at es) _ code (λ d. given labels at es code)))) h

pub assembled_bytes : (at : ℕ) (text code : List ℕ) → assembled at text ≡ Ok code → EachByte code
unfolding assembled
assembled_bytes at text code h = let_through (read text) (code_or_fault at) code (λ es. fault_or_bytes at es code) h
