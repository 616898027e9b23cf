-- Lines of a text, read one after the other.
use Rattle.std.proofs.Common.{◌≡◌, ℕ, ◌+◌, ◌-◌, ◌≤◌, Bool, true, false, List, [], ◌∷◌, ◌++◌, length, Some, None, refl, sym, ap, ◌∙◌, append_assoc, arith}
use Rattle.std.specs.Prelude.{Option, Result, Ok, Err, nat_le, ok_or}
use Rattle.std.proofs.lemmas.Bool.Decides.{nat_tests}
use Rattle.std.proofs.lemmas.Bool.{and_parts}
use Rattle.sx_asm.specs.declared.written.Item.{Item}
use Rattle.sx_asm.specs.declared.written.Entry.{Entry}
use Rattle.sx_asm.specs.declared.error.AsmError.{AsmError}
use Rattle.sx_asm.specs.Reading.{◌>>=◌, placed_entries, not_written, onto_first, parts, taken, items_of, line_fits, read_lines, is_newline}
use Rattle.sx_asm.specs.Adding.{grown, continued}

-- a line after which lines follow has a newline
pub taken_more : (line xs : List ℕ) → length line + 1 ≡ taken line (parts is_newline xs)
taken_more line [] = refl
taken_more line (x ∷ xs) = by_test (is_newline x) refl
  where
    by_parts : (ps : List (List ℕ)) → length line + 1 ≡ taken line (onto_first x ps)
    by_parts [] = refl
    by_parts (p ∷ ps) = refl

    by_test : (b : Bool) → is_newline x ≡ b → length line + 1 ≡ taken line (parts is_newline (x ∷ xs))
    by_test true e = rw e refl
    by_test false e = rw e (by_parts (parts is_newline xs))

pub fits_left : (left : ℕ) (line xs : List ℕ) → line_fits left line (parts is_newline xs) ≡ true → length line + 1 ≤ left
fits_left left line xs h =
    let b : nat_le (taken line (parts is_newline xs)) left ≡ true = (and_parts (nat_le (length line) 4096) _ h).1 in
    let k : taken line (parts is_newline xs) ≤ left = grind (arith, nat_tests, b) in
    omega (arith, k, taken_more line xs)

-- what a line says and what the lines after it say, before which entries are
joined : (before after : List Entry) (n : ℕ) (e : AsmError) (meant : Option (List Item)) (rest : Result (List Entry) AsmError) → grown before n meant ≡ Some after
    → continued before (ok_or meant e >>= (λ items. rest >>= (λ entries. Ok (placed_entries n items ++ entries)))) ≡ continued after rest
joined before after n e None rest h = absurd (cc)
joined before after n e (Some items) (Err f) h = refl
joined before after n e (Some items) (Ok entries) h =
    let k : before ++ placed_entries n items ≡ after = cc in
    ap Ok (sym (append_assoc before (placed_entries n items) entries) ∙ ap (λ (es : List Entry). es ++ entries) k)

pub next_line : (n left : ℕ) (line xs : List ℕ) (before after : List Entry) → line_fits left line (parts is_newline xs) ≡ true
    → grown before n (items_of line) ≡ Some after
    → continued before (read_lines n left (line ∷ parts is_newline xs))
    ≡ continued after (read_lines (n + 1) (left - (length line + 1)) (parts is_newline xs))
next_line n left line xs before after h g =
    rw (h, taken_more line xs)
    (joined before after n (not_written n) (items_of line) (read_lines (n + 1) (left - taken line (parts is_newline xs)) (parts is_newline xs)) g)
