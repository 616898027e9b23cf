-- What is added to entries, part by part.
use Rattle.std.proofs.Common.{◌≡◌, ℕ, Bool, true, false, List, [], ◌∷◌, ◌++◌, length, Some, None, refl, sym, ap, ◌∙◌, append_assoc}
use Rattle.std.proofs.lemmas.List.{append-nil}
use Rattle.std.specs.Prelude.{Option, Result, Ok, Err}
use Rattle.sx_asm.specs.declared.written.Token.{Token}
use Rattle.sx_asm.specs.declared.written.Value.{Value}
use Rattle.sx_asm.specs.declared.written.Item.{Item}
use Rattle.sx_asm.specs.declared.written.Item.TheVariants.{Label, Word}
use Rattle.sx_asm.specs.declared.written.Entry.{Entry}
use Rattle.sx_asm.specs.declared.error.AsmError.{AsmError}
use Rattle.sx_asm.specs.declared.error.AsmError.TheVariants.{Fault, OutOfMemory}
use Rattle.sx_asm.specs.Grammar.{value, first, data_of, is_comma, is_colon, labelled, statement_of}
use Rattle.sx_asm.specs.Reading.{placed_entries, not_written, append, onto_first, parts}
use Rattle.sx_asm.specs.Fronts.{in_front}
use Rattle.sx_asm.specs.Adding.{grown, AddsEntries}

none_meant : (before : List Entry) (n : ℕ) (meant : Option (List Item)) → grown before n meant ≡ None → meant ≡ None
none_meant before n None h = refl
none_meant before n (Some is) h = absurd (cc)

fault_is : (meant : Option (List Item)) (n : ℕ) (before after : List Entry) (e : AsmError) → meant ≡ None → e ≡ not_written n
    → AddsEntries meant n before after (Err e)
fault_is meant n before after (Fault rule line) h f = (h, f)
fault_is meant n before after OutOfMemory h f = tt

-- where what is left is not in the grammar, the whole isn't
pub fault_stays : (before mid after : List Entry) (n : ℕ) (meant rest : Option (List Item)) (e : AsmError)
    → grown before n meant ≡ grown mid n rest → rest ≡ None → e ≡ not_written n → AddsEntries meant n before after (Err e)
fault_stays before mid after n meant rest e h r f =
    let k : grown mid n rest ≡ None = rw r refl in
    fault_is meant n before after e (none_meant before n meant (h ∙ k)) f

pub no_value : (t : Token) (ts : List Token) → value t ≡ None → data_of (t ∷ ts) ≡ None
no_value t [] h = rw h refl
no_value t (c ∷ ts) h = by_test (is_comma c) refl
  where
    by_test : (b : Bool) → is_comma c ≡ b → data_of (t ∷ c ∷ ts) ≡ None
    by_test true e = rw (e, h) refl
    by_test false e = rw e refl

pub no_comma : (t c : Token) (ts : List Token) → is_comma c ≡ false → data_of (t ∷ c ∷ ts) ≡ None
no_comma t c ts h = rw h refl

-- a value of data before those after its comma
pub next_value : (t c : Token) (ts : List Token) (v : Value) (n : ℕ) (before after : List Entry) → value t ≡ Some v
    → is_comma c ≡ true → after ≡ before ++ record { line = n; item = Word v } ∷ [] → grown before n (data_of (t ∷ c ∷ ts)) ≡ grown after n (data_of ts)
next_value t c ts v n before after h k e = rw (k, h, e) (onto (data_of ts))
  where
    onto : (rest : Option (List Item))
        → grown before n (first (Some (Word v)) rest) ≡ grown (before ++ record { line = n; item = Word v } ∷ []) n rest
    onto None = refl
    onto (Some is) = ap Some (sym (append_assoc before (record { line = n; item = Word v } ∷ []) (placed_entries n is)))

pub last_value : (t : Token) (ts : List Token) (v : Value) (n : ℕ) (before after : List Entry) → length ts ≡ 0 → value t ≡ Some v
    → after ≡ before ++ record { line = n; item = Word v } ∷ [] → grown before n (data_of (t ∷ ts)) ≡ Some after
last_value t [] v n before after l h e = rw (h, e) refl
last_value t (u ∷ ts) v n before after l h e = absurd (cc)

-- an item before what is meant
adds_first : (i : Item) (meant : Option (List Item)) (n : ℕ) (before after : List Entry) (r : Result (Unit {0}) AsmError)
    → AddsEntries meant n (before ++ record { line = n; item = i } ∷ []) after r → AddsEntries (first (Some i) meant) n before after r
adds_first i None n before after (Ok u) h = h
adds_first i (Some is) n before after (Ok u) h = ap Some (sym (append_assoc before (record { line = n; item = i } ∷ []) (placed_entries n is))) ∙ h
adds_first i meant n before after (Err (Fault rule line)) h = (rw h.0 refl, h.1)
adds_first i meant n before after (Err OutOfMemory) h = tt

pub adds_label : (s : List ℕ) (t : Token) (ts : List Token) (n : ℕ) (before mid after : List Entry) (r : Result (Unit {0}) AsmError)
    → is_colon t ≡ true → mid ≡ before ++ record { line = n; item = Label s } ∷ []
    → AddsEntries (statement_of ts) n mid after r → AddsEntries (labelled s (t ∷ ts)) n before after r
adds_label s t ts n before mid after r c m h = rw c (adds_first (Label s) (statement_of ts) n before after r (rw m at h))

placed_append : (n : ℕ) (is js : List Item) → placed_entries n (is ++ js) ≡ placed_entries n is ++ placed_entries n js
placed_append n [] js = refl
placed_append n (i ∷ is) js = ap (λ (es : List Entry). record { line = n; item = i } ∷ es) (placed_append n is js)

-- a piece's items before those of the pieces after it
pub next_piece : (n : ℕ) (before after : List Entry) (meant rest : Option (List Item)) → grown before n meant ≡ Some after
    → grown before n (append meant rest) ≡ grown after n rest
next_piece n before after None rest h = absurd (cc)
next_piece n before after (Some is) None h = refl
next_piece n before after (Some is) (Some js) h =
    let e : before ++ placed_entries n is ≡ after = cc in
    rw (placed_append n is js, ← append_assoc before (placed_entries n is) (placed_entries n js), e) refl

pub last_piece : (n : ℕ) (before after : List Entry) (meant : Option (List Item)) → grown before n meant ≡ Some after
    → grown before n (append meant (Some [])) ≡ Some after
last_piece n before after meant h = next_piece n before after meant (Some []) h ∙ ap Some (append-nil after)

pub nothing_in_front : {A : Type 0} (at : A → Bool) (xs : List A) → parts at xs ≡ in_front [] (parts at xs)
nothing_in_front {A} at [] = refl
nothing_in_front {A} at (x ∷ xs) = by_test (at x) refl
  where
    by_parts : (ps : List (List A)) → onto_first x ps ≡ in_front [] (onto_first x ps)
    by_parts [] = refl
    by_parts (p ∷ ps) = refl

    by_test : (b : Bool) → at x ≡ b → parts at (x ∷ xs) ≡ in_front [] (parts at (x ∷ xs))
    by_test true e = rw e refl
    by_test false e = rw e (by_parts (parts at xs))
