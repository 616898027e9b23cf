-- The words of instructions, and items one after the other.
use Rattle.std.proofs.Common.{◌≡◌, ℕ, ◌≤◌, Bool, true, false, List, ◌∷◌, length, refl, sym, ap, ◌∙◌, arith, ◌+◌, suc, ◌<◌, ◌++◌, drop, get_or, add-one, drop-cons, append_assoc}
use Rattle.std.proofs.lemmas.List.{length-take}
use Rattle.std.specs.Prelude.{Ok}
use Rattle.sx_isa.specs.declared.instruction.Instr.{Instr}
use Rattle.sx_isa.specs.Instructions.{BeginsWith}
use Rattle.sx_asm.specs.declared.written.Entry.{Entry}
use Rattle.sx_asm.specs.declared.written.Label.{Label}
use Rattle.sx_asm.specs.Meaning.{further, size, bytes_of, words_at, code_of}
use Rattle.sx_asm.specs.Assembled.{has_form, formed, reaches, reached}

-- an instruction's words are among those before which it is
pub within : (ws : List ℕ) (i : Instr) (n : ℕ) → BeginsWith ws i n → n ≤ length ws
within ws i n h = omega (arith, h.1, ap length h.2, length-take n ws)

pub has_formed : (e : Entry) (es : List Entry) → formed (e ∷ es) ≡ Ok tt → has_form e.item ≡ true
has_formed e es h = by_test (has_form e.item) refl
  where
    by_test : (b : Bool) → has_form e.item ≡ b → has_form e.item ≡ true
    by_test true f = f
    by_test false f = absurd (let k = rw f at h in cc)

pub formed_behind : (e : Entry) (es : List Entry) → formed (e ∷ es) ≡ Ok tt → formed es ≡ Ok tt
formed_behind e es h = rw (has_formed e es h) at h

pub has_reached : (labels : List Label) (at : ℕ) (e : Entry) (es : List Entry) → reached labels at (e ∷ es) ≡ Ok tt → reaches labels at e.item ≡ true
has_reached labels at e es h = by_test (reaches labels at e.item) refl
  where
    by_test : (b : Bool) → reaches labels at e.item ≡ b → reaches labels at e.item ≡ true
    by_test true f = f
    by_test false f = absurd (let k = rw f at h in cc)

pub reached_behind : (labels : List Label) (at : ℕ) (e : Entry) (es : List Entry) → reached labels at (e ∷ es) ≡ Ok tt
    → reached labels (further at (size e.item)) es ≡ Ok tt
reached_behind labels at e es h = rw (has_reached labels at e es h) at h

pub front_of : (es : List Entry) (i : ℕ) (e : Entry) → i < length es → e ≡ get_or es i e → drop i es ≡ e ∷ drop (i + 1) es
front_of es i e h f = rw (add-one, drop-cons es i e) (ap (λ (x : Entry). x ∷ drop (suc i) es) (sym f))

-- an item's bytes after those before it
pub next_item : (labels : List Label) (at to : ℕ) (es : List Entry) (i : ℕ) (e : Entry) (before after whole : List ℕ)
    → i < length es → e ≡ get_or es i e → whole ≡ before ++ code_of labels at (drop i es)
    → after ≡ before ++ bytes_of (words_at labels at e.item) → to ≡ further at (size e.item)
    → whole ≡ after ++ code_of labels to (drop (i + 1) es)
next_item labels at to es i e before after whole h f w a t =
    let k : whole ≡ before ++ (bytes_of (words_at labels at e.item) ++ code_of labels (further at (size e.item)) (drop (i + 1) es)) =
    w ∙ (rw (front_of es i e h f) refl) in
    k ∙ (rw (a, t) (sym (append_assoc before (bytes_of (words_at labels at e.item)) (code_of labels (further at (size e.item)) (drop (i + 1) es)))))

pub form_at : (es : List Entry) (i : ℕ) (e : Entry) → i < length es → e ≡ get_or es i e → formed (drop i es) ≡ Ok tt
    → (has_form e.item ≡ true) × (formed (drop (i + 1) es) ≡ Ok tt)
form_at es i e h f k =
    let g : formed (e ∷ drop (i + 1) es) ≡ Ok tt = rw (front_of es i e h f) at k in
    (has_formed e (drop (i + 1) es) g, formed_behind e (drop (i + 1) es) g)

pub reach_at : (labels : List Label) (at to : ℕ) (es : List Entry) (i : ℕ) (e : Entry) → i < length es → e ≡ get_or es i e → to ≡ further at (size e.item)
    → reached labels at (drop i es) ≡ Ok tt → reached labels to (drop (i + 1) es) ≡ Ok tt
reach_at labels at to es i e h f t k =
    let g : reached labels at (e ∷ drop (i + 1) es) ≡ Ok tt = rw (front_of es i e h f) at k in rw t (reached_behind labels at e (drop (i + 1) es) g)
