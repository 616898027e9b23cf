-- The bytes of 256 pages, one after the other.
use Rattle.std.proofs.Common.{◌≡◌, ℕ, zero, suc, ◌+◌, ◌-◌, ◌*◌, ◌/◌, ◌%◌, ◌<◌, List, [], ◌∷◌, ◌++◌, length, get_or, set, replicate, refl, sym, subst, ◌∙◌, ap, arith, length-set, Option, Some, None}
use Rattle.std.proofs.lemmas.List.{get_or_append_left, get_or-append_right, set-append_left, set-append_right, replicate-append-replicate, length-replicate}
use Rattle.std.proofs.lemmas.List.Elements.{All-head, All-tail, All-set, All-get_or, All-replicate}
use Rattle.std.specs.Prelude.{All}
use Rattle.sx_bus.specs.Memory.{blank, AreMemoryBytes}
use Rattle.sx_bus.proofs.Bytes.{AreMemoryBytes-set, AreMemoryBytes-blank}
use Rattle.sx_pages.specs.Pages.{Pages, zeros, no_pages}
use Rattle.sx_paged.specs.Memory.{page_bytes, joined, IsMemory, byte_at, after_put}

abbrev Even : Option (List ℕ) → Type 0
Even page = length (page_bytes page) ≡ 256

pub length-zeros : length zeros ≡ 256
unfolding zeros
length-zeros = length-replicate {A = ℕ} 256 0

get-joined : (pages : Pages) (i j : ℕ) → All Even pages → i < length pages → j < 256 → get_or (joined pages) (i * 256 + j) 0 ≡ get_or (page_bytes (get_or pages i None)) j 0
get-joined [] i j all h k = absurd (omega (arith, h))
get-joined (p ∷ ps) zero j all h k =
    let here : j < length (page_bytes p) = omega (arith, All-head Even p ps all, k) in
    let at : 0 * 256 + j ≡ j = omega arith in
    ap (λ (n : ℕ). get_or (page_bytes p ++ joined ps) n 0) at ∙ get_or_append_left (page_bytes p) (joined ps) 0 j here
get-joined (p ∷ ps) (suc i) j all h k =
    let at : suc i * 256 + j - 256 ≡ i * 256 + j = omega arith in
    get_or-append_right (page_bytes p) (joined ps) 256 (suc i * 256 + j) 0 (All-head Even p ps all) (omega arith) ∙ ap (λ (n : ℕ). get_or (joined ps) n 0) at
    ∙ get-joined ps i j (All-tail Even p ps all) (omega (arith, h)) k

set-joined : (pages : Pages) (i j byte : ℕ) → All Even pages → i < length pages → j < 256
    → set (joined pages) (i * 256 + j) byte ≡ joined (set pages i (Some (set (page_bytes (get_or pages i None)) j byte)))
set-joined [] i j byte all h k = absurd (omega (arith, h))
set-joined (p ∷ ps) zero j byte all h k =
    let here : j < length (page_bytes p) = omega (arith, All-head Even p ps all, k) in
    let at : 0 * 256 + j ≡ j = omega arith in
    ap (λ (n : ℕ). set (page_bytes p ++ joined ps) n byte) at ∙ set-append_left (page_bytes p) (joined ps) j byte here
set-joined (p ∷ ps) (suc i) j byte all h k =
    let at : suc i * 256 + j - 256 ≡ i * 256 + j = omega arith in
    set-append_right (page_bytes p) (joined ps) 256 (suc i * 256 + j) byte (All-head Even p ps all) (omega arith)
    ∙ ap (λ (bytes : List ℕ). page_bytes p ++ bytes) (ap (λ (n : ℕ). set (joined ps) n byte) at ∙ set-joined ps i j byte (All-tail Even p ps all) (omega (arith, h)) k)

none-joined : (n : ℕ) → joined (replicate n None) ≡ replicate (n * 256) 0
unfolding zeros
none-joined zero = refl
none-joined (suc n) =
    let more : 256 + n * 256 ≡ suc n * 256 = omega arith in
    ap (λ (bytes : List ℕ). replicate 256 0 ++ bytes) (none-joined n) ∙ replicate-append-replicate 256 (n * 256) 0 ∙ ap (λ (m : ℕ). replicate m 0) more

pub joined-none : joined no_pages ≡ blank 65536
unfolding no_pages blank
joined-none = none-joined 256

pub byte-joined : (pages : Pages) (at : ℕ) → IsMemory pages → at < 65536 → byte_at pages at ≡ get_or (joined pages) at 0
byte-joined pages at is h =
    let whole : at / 256 * 256 + at % 256 ≡ at = omega arith in
    sym (get-joined pages (at / 256) (at % 256) is.even (omega (arith, is.count, h)) (omega arith)) ∙ ap (λ (n : ℕ). get_or (joined pages) n 0) whole

pub joined-put : (pages : Pages) (at byte : ℕ) → IsMemory pages → at < 65536 → joined (after_put pages at byte) ≡ set (joined pages) at byte
joined-put pages at byte is h =
    let whole : at / 256 * 256 + at % 256 ≡ at = omega arith in
    sym (set-joined pages (at / 256) (at % 256) byte is.even (omega (arith, is.count, h)) (omega arith)) ∙ ap (λ (n : ℕ). set (joined pages) n byte) whole

pub IsMemory-put : (pages : Pages) (at byte : ℕ) → IsMemory pages → at < 65536 → IsMemory (after_put pages at byte)
IsMemory-put pages at byte is h = record {
  count = length-set pages (at / 256) _ ∙ is.count;
  even = All-set Even pages (at / 256) (Some (set (page_bytes (get_or pages (at / 256) None)) (at % 256) byte))
      (length-set (page_bytes (get_or pages (at / 256) None)) (at % 256) byte ∙ All-get_or Even pages (at / 256) None (omega (arith, is.count, h)) is.even) is.even;
}

pub IsMemory-none : IsMemory no_pages
unfolding no_pages
IsMemory-none = record { count = length-replicate {A = Option (List ℕ)} 256 None; even = All-replicate Even 256 None length-zeros }

pub AreMemoryBytes-none : AreMemoryBytes (joined no_pages)
AreMemoryBytes-none = subst AreMemoryBytes (sym joined-none) (AreMemoryBytes-blank 65536 refl)

pub AreMemoryBytes-put : (pages : Pages) (at byte : ℕ) → IsMemory pages → at < 65536 → byte < 256 → AreMemoryBytes (joined pages) → AreMemoryBytes (joined (after_put pages at byte))
AreMemoryBytes-put pages at byte is h small bytes = subst AreMemoryBytes (sym (joined-put pages at byte is h)) (AreMemoryBytes-set (joined pages) at byte bytes small)
