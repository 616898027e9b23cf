-- Instructions that are put one after the other.
use Rattle.std.proofs.Common.{◌≡◌, ℕ, ◌+◌, ◌<◌, true, List, [], ◌∷◌, ◌++◌, Result, Ok, Err, OnOk, drop, length, refl, sym, ap, ◌∙◌, get_or}
use Rattle.std.proofs.lemmas.Bool.{and_parts}
use Rattle.std.proofs.lemmas.List.{append_assoc, drop_more}
use Rattle.sx_isa.specs.declared.instruction.Instr.{Instr}
use Rattle.sx_isa.specs.declared.instruction.Instr.TheVariants.{Reti}
use Rattle.sx_isa.specs.Spelling.{spelling}
use Rattle.sx_isa.specs.Standing.{words_of}
use Rattle.sx_isa.specs.Shaped.{are_shaped, is_shaped}
use Rattle.sx_tmpl.specs.Text.{bytes_of}
use Rattle.sx_tmpl.proofs.Texts.TextBytes.{bytes_append}

-- the instruction at a place
pub written : (is : List Instr) (k : ℕ) (d : Instr) (text text2 start : List ℕ) → k < length is → text2 ≡ text ++ bytes_of (spelling (get_or is k d))
    → text ++ bytes_of (words_of (drop k is)) ≡ start → text2 ++ bytes_of (words_of (drop (k + 1) is)) ≡ start
written is k d text text2 start lt put before =
    let rest = words_of (drop (k + 1) is) in
    ap (λ (t : List ℕ). t ++ bytes_of rest) put
    ∙ append_assoc text (bytes_of (spelling (get_or is k d))) (bytes_of rest)
    ∙ ap (λ (l : List ℕ). text ++ l) (sym (bytes_append (spelling (get_or is k d)) rest))
    ∙ ap (λ (r : List Instr). text ++ bytes_of (words_of r)) (sym (drop_more is k d lt))
    ∙ before

-- the first of those that are left, and what is left after it
shaped_parts : (is : List Instr) (k : ℕ) (d : Instr) → k < length is → are_shaped (drop k is) ≡ true → (is_shaped (get_or is k d) ≡ true) × (are_shaped (drop (k + 1) is) ≡ true)
shaped_parts is k d lt h =
    and_parts (is_shaped (get_or is k d)) (are_shaped (drop (k + 1) is)) (ap (λ (r : List Instr). are_shaped r) (sym (drop_more is k d lt)) ∙ h)

pub shaped_here : (is : List Instr) (k : ℕ) (d : Instr) → k < length is → are_shaped (drop k is) ≡ true → is_shaped (get_or is k d) ≡ true
shaped_here is k d lt h = (shaped_parts is k d lt h).0

pub shaped_behind : (is : List Instr) (k : ℕ) → k < length is → are_shaped (drop k is) ≡ true → are_shaped (drop (k + 1) is) ≡ true
shaped_behind is k lt h = (shaped_parts is k Reti lt h).1

-- an instruction alone
pub shaped_alone : (i : Instr) → are_shaped (i ∷ []) ≡ true → is_shaped i ≡ true
shaped_alone i h = (and_parts (is_shaped i) true h).0

-- those after it are shaped as well
pub shaped_after : (i : Instr) (is : List Instr) → are_shaped (i ∷ is) ≡ true → are_shaped is ≡ true
shaped_after i is h = (and_parts (is_shaped i) (are_shaped is) h).1

words_append : (is js : List Instr) → words_of (is ++ js) ≡ words_of is ++ words_of js
words_append [] js = refl
words_append (i ∷ is) js = ap (λ (ws : List ℕ). spelling i ++ ws) (words_append is js) ∙ sym (append_assoc (spelling i) (words_of is) (words_of js))

-- instructions, and those after them, which may not be put
pub then_rest : {U E : Type 0} (r : Result U E) (is js : List Instr) (text text2 text3 : List ℕ) → text2 ≡ text ++ bytes_of (words_of is)
    → OnOk r (text3 ≡ text2 ++ bytes_of (words_of js)) → OnOk r (text3 ≡ text ++ bytes_of (words_of (is ++ js)))
then_rest (Err e) is js text text2 text3 first rest = tt
then_rest (Ok u) is js text text2 text3 first rest =
    rest
    ∙ ap (λ (t : List ℕ). t ++ bytes_of (words_of js)) first
    ∙ append_assoc text (bytes_of (words_of is)) (bytes_of (words_of js))
    ∙ ap (λ (l : List ℕ). text ++ l) (sym (bytes_append (words_of is) (words_of js)))
    ∙ ap (λ (ws : List ℕ). text ++ bytes_of ws) (sym (words_append is js))
