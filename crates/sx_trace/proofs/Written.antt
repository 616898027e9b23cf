-- A text that is written part by part.
use Rattle.std.proofs.Common.{◌≡◌, ℕ, ◌+◌, List, ◌++◌, length, take, drop, refl, sym, ap, subst, ◌∙◌, append_assoc, arith}
use Rattle.std.proofs.lemmas.List.{take_at, drop_at, drop-drop, length-append}
use Rattle.sx_trace.specs.Written.{IsWrittenText}

-- the first part
pub written_first : (part old new : List ℕ) → new ≡ take 0 old ++ (part ++ drop (0 + length part) old) → IsWrittenText part old (length part) new
written_first part old new e =
    let n : 0 + length part ≡ length part = omega arith in
    record { bytes = e ∙ ap (λ (k : ℕ). part ++ drop k old) n; count_is = refl }

-- one more part after what is written
pub written_more : (text first part old new : List ℕ) (count : ℕ) → IsWrittenText text first count old
    → new ≡ take count old ++ (part ++ drop (count + length part) old) → IsWrittenText (text ++ part) first (count + length part) new
written_more text first part old new count h e =
    let n : length text ≡ count = sym h.count_is in
    let long : count + length part ≡ length (text ++ part) = sym (length-append text part ∙ ap (λ (k : ℕ). k + length part) n) in
    let front : take count old ≡ text = ap (λ (xs : List ℕ). take count xs) h.bytes ∙ take_at text (drop (length text) first) count n in
    let rest : drop count old ≡ drop count first =
    ap (λ (xs : List ℕ). drop count xs) h.bytes ∙ drop_at text (drop (length text) first) count n ∙ ap (λ (k : ℕ). drop k first) n in
    let behind : drop (count + length part) old ≡ drop (length (text ++ part)) first =
    sym (drop-drop (length part) count old) ∙ ap (λ (xs : List ℕ). drop (length part) xs) rest
    ∙ drop-drop (length part) count first ∙ ap (λ (k : ℕ). drop k first) long in
    record {
      bytes = e ∙ ap (λ (xs : List ℕ). xs ++ (part ++ drop (count + length part) old)) front
          ∙ ap (λ (xs : List ℕ). text ++ (part ++ xs)) behind ∙ sym (append_assoc text part _);
      count_is = long;
    }

-- the same text, put otherwise
pub written_as : (text text' first : List ℕ) (count : ℕ) (new : List ℕ) → text ≡ text' → IsWrittenText text first count new → IsWrittenText text' first count new
written_as text text' first count new e h = let P : List ℕ → Type 0 = λ t. IsWrittenText t first count new in subst P e h

-- what is written is the text
pub written_text : (text first : List ℕ) (count : ℕ) (new : List ℕ) → IsWrittenText text first count new → take count new ≡ text
written_text text first count new h = ap (λ (xs : List ℕ). take count xs) h.bytes ∙ take_at text (drop (length text) first) count (sym h.count_is)
