-- What the pages hold, read from the marks and the slots, through a change.
use Rattle.std.proofs.Common.{◌≡◌, ℕ, zero, suc, ◌+◌, ◌<◌, Bool, true, false, List, [], ◌∷◌, ◌++◌, length, get_or, set, map, take, drop, replicate, refl, sym}
use Rattle.std.proofs.Common.{◌∙◌, ap, subst, arith, Option, Some, None}
use Rattle.std.proofs.lemmas.List.{set-get_or}
use Rattle.sx_pages.specs.Ownership.{Slot}
use Rattle.sx_pages.specs.Pages.{Pages, is_page, is_live, bytes_of, held, zeros, no_pages, size}
use Rattle.sx_pages.specs.Arena.{byte_in, page_of, pages_of, zeroed, count}

pub get_or-pages_of : (lives : List Bool) (pages : List (List Slot)) (i : ℕ) → length lives ≡ length pages
    → get_or (pages_of lives pages) i None ≡ page_of (get_or lives i false) (get_or pages i [])
get_or-pages_of [] [] i e = refl
get_or-pages_of [] (p ∷ ps) i e = absurd (omega (arith, e))
get_or-pages_of (l ∷ ls) [] i e = absurd (omega (arith, e))
get_or-pages_of (l ∷ ls) (p ∷ ps) zero e = refl
get_or-pages_of (l ∷ ls) (p ∷ ps) (suc i) e = get_or-pages_of ls ps i (omega (arith, e))

pub pages_of-set : (lives : List Bool) (pages : List (List Slot)) (i : ℕ) (l : Bool) (p : List Slot) → length lives ≡ length pages
    → pages_of (set lives i l) (set pages i p) ≡ set (pages_of lives pages) i (page_of l p)
pages_of-set [] [] i l p e = refl
pages_of-set [] (x ∷ ps) i l p e = absurd (omega (arith, e))
pages_of-set (x ∷ ls) [] i l p e = absurd (omega (arith, e))
pages_of-set (x ∷ ls) (y ∷ ps) zero l p e = refl
pages_of-set (x ∷ ls) (y ∷ ps) (suc i) l p e = ap (λ (z : Pages). page_of x y ∷ z) (pages_of-set ls ps i l p (omega (arith, e)))

-- a change of the slots alone
pub pages_of-written : (lives : List Bool) (pages : List (List Slot)) (i : ℕ) (p : List Slot) → length lives ≡ length pages
    → pages_of lives (set pages i p) ≡ set (pages_of lives pages) i (page_of (get_or lives i false) p)
pages_of-written lives pages i p e =
    ap (λ (ls : List Bool). pages_of ls (set pages i p)) (sym (set-get_or lives i false)) ∙ pages_of-set lives pages i (get_or lives i false) p e

is_page-page_of : (l : Bool) (p : List Slot) → is_page (page_of l p) ≡ l
is_page-page_of false p = refl
is_page-page_of true p = refl

pub is_live-pages_of : (lives : List Bool) (pages : List (List Slot)) (i : ℕ) → length lives ≡ length pages
    → is_live (pages_of lives pages) i ≡ get_or lives i false
is_live-pages_of lives pages i e = ap is_page (get_or-pages_of lives pages i e) ∙ is_page-page_of (get_or lives i false) (get_or pages i [])

pub size-pages_of : (lives : List Bool) (pages : List (List Slot)) → length lives ≡ length pages → size (pages_of lives pages) ≡ count lives
size-pages_of [] [] e = refl
size-pages_of [] (p ∷ ps) e = absurd (omega (arith, e))
size-pages_of (l ∷ ls) [] e = absurd (omega (arith, e))
size-pages_of (false ∷ ls) (p ∷ ps) e = size-pages_of ls ps (omega (arith, e))
size-pages_of (true ∷ ls) (p ∷ ps) e = ap suc (size-pages_of ls ps (omega (arith, e)))

pub count-taken : (lives : List Bool) (i : ℕ) → i < length lives → get_or lives i false ≡ false → count (set lives i true) ≡ suc (count lives)
count-taken [] i h e = absurd (omega (arith, h))
count-taken (false ∷ ls) zero h e = refl
count-taken (true ∷ ls) zero h e = cc
count-taken (false ∷ ls) (suc i) h e = count-taken ls i (omega (arith, h)) e
count-taken (true ∷ ls) (suc i) h e = ap suc (count-taken ls i (omega (arith, h)) e)

pub count-released : (lives : List Bool) (i : ℕ) → get_or lives i false ≡ true → suc (count (set lives i false)) ≡ count lives
count-released [] i e = cc
count-released (false ∷ ls) zero e = cc
count-released (true ∷ ls) zero e = refl
count-released (false ∷ ls) (suc i) e = count-released ls i e
count-released (true ∷ ls) (suc i) e = ap suc (count-released ls i e)

pub count-none : (n : ℕ) → count (replicate n false) ≡ 0
count-none zero = refl
count-none (suc n) = count-none n

none_of : (pages : List (List Slot)) → pages_of (replicate (length pages) false) pages ≡ replicate (length pages) None
none_of [] = refl
none_of (p ∷ ps) = ap (λ (z : Pages). None ∷ z) (none_of ps)

pub pages_of-none : (pages : List (List Slot)) → length pages ≡ 256 → pages_of (replicate 256 false) pages ≡ no_pages
unfolding no_pages
pages_of-none pages e = subst (λ (n : ℕ). pages_of (replicate n false) pages ≡ replicate n None) e (none_of pages)

-- only what the live pages hold counts
pub pages_of-same : (lives : List Bool) (ps qs : List (List Slot)) → length lives ≡ length ps → length lives ≡ length qs
    → ((i : ℕ) → i < length lives → get_or lives i false ≡ true → get_or qs i [] ≡ get_or ps i []) → pages_of lives qs ≡ pages_of lives ps
pages_of-same [] ps qs e f same = refl
pages_of-same (l ∷ ls) [] qs e f same = absurd (omega (arith, e))
pages_of-same (l ∷ ls) (p ∷ ps) [] e f same = absurd (omega (arith, f))
pages_of-same (false ∷ ls) (p ∷ ps) (q ∷ qs) e f same =
    ap (λ (z : Pages). None ∷ z) (pages_of-same ls ps qs (omega (arith, e)) (omega (arith, f)) (λ i h t. same (suc i) (omega (arith, h)) t))
pages_of-same (true ∷ ls) (p ∷ ps) (q ∷ qs) e f same =
    (λ j. page_of true (same 0 (omega arith) refl j) ∷ pages_of-same ls ps qs (omega (arith, e)) (omega (arith, f)) (λ i h t. same (suc i) (omega (arith, h)) t) j)

bytes-at : (ps : List Slot) (i : ℕ) → get_or (map byte_in ps) i 0 ≡ byte_in (get_or ps i None)
bytes-at [] i = refl
bytes-at (p ∷ ps) zero = refl
bytes-at (p ∷ ps) (suc i) = bytes-at ps i

bytes-set : (ps : List Slot) (i byte : ℕ) → map byte_in (set ps i (Some byte)) ≡ set (map byte_in ps) i byte
bytes-set [] i byte = refl
bytes-set (p ∷ ps) zero byte = refl
bytes-set (p ∷ ps) (suc i) byte = ap (λ (z : List ℕ). byte_in p ∷ z) (bytes-set ps i byte)

held-live : (lives : List Bool) (pages : List (List Slot)) (p : ℕ) → length lives ≡ length pages → get_or lives p false ≡ true
    → held (pages_of lives pages) p ≡ map byte_in (get_or pages p [])
held-live lives pages p e t = ap bytes_of (get_or-pages_of lives pages p e ∙ ap (λ (l : Bool). page_of l (get_or pages p [])) t)

pub read-is : (lives : List Bool) (pages : List (List Slot)) (p at byte : ℕ) → length lives ≡ length pages → get_or lives p false ≡ true
    → get_or (get_or pages p []) at None ≡ Some byte → byte ≡ get_or (held (pages_of lives pages) p) at 0
read-is lives pages p at byte e t is =
    sym (ap (λ (bytes : List ℕ). get_or bytes at 0) (held-live lives pages p e t) ∙ bytes-at (get_or pages p []) at ∙ ap byte_in is)

-- the bytes of slots that hold these
bytes-of : (bytes : List ℕ) → map byte_in (map Some bytes) ≡ bytes
bytes-of [] = refl
bytes-of (b ∷ bytes) = ap (λ (rest : List ℕ). b ∷ rest) (bytes-of bytes)

pub page-is : (lives : List Bool) (pages : List (List Slot)) (p : ℕ) (bytes : List ℕ) → length lives ≡ length pages → get_or lives p false ≡ true
    → get_or pages p [] ≡ map Some bytes → bytes ≡ held (pages_of lives pages) p
page-is lives pages p bytes e t is = sym (held-live lives pages p e t ∙ ap (map byte_in) is ∙ bytes-of bytes)

pub write-is : (lives : List Bool) (pages : List (List Slot)) (p at byte : ℕ) → length lives ≡ length pages → get_or lives p false ≡ true
    → pages_of lives (set pages p (set (get_or pages p []) at (Some byte))) ≡ set (pages_of lives pages) p (Some (set (held (pages_of lives pages) p) at byte))
write-is lives pages p at byte e t =
    pages_of-written lives pages p _ e ∙ ap (λ (x : Option (List ℕ)). set (pages_of lives pages) p x)
    (ap (λ (l : Bool). page_of l (set (get_or pages p []) at (Some byte))) t ∙ ap (λ (x : List ℕ). Some x)
    (bytes-set (get_or pages p []) at byte ∙ ap (λ (x : List ℕ). set x at byte) (sym (held-live lives pages p e t))))

zeros-are : (n : ℕ) → map byte_in (replicate n (Some 0)) ≡ replicate n 0
zeros-are zero = refl
zeros-are (suc n) = ap (λ (z : List ℕ). 0 ∷ z) (zeros-are n)

bytes-zeroed : map byte_in zeroed ≡ zeros
unfolding zeroed zeros
bytes-zeroed = zeros-are 256

pub take-is : (lives : List Bool) (pages : List (List Slot)) (p : ℕ) → length lives ≡ length pages
    → pages_of (set lives p true) (set pages p zeroed) ≡ set (pages_of lives pages) p (Some zeros)
take-is lives pages p e = pages_of-set lives pages p true zeroed e ∙ ap (λ (x : List ℕ). set (pages_of lives pages) p (Some x)) bytes-zeroed

-- a page of which the first slots are copied
pub blend : {X : Type 0} (n : ℕ) (from to : List X) → List X
blend n from to = take n from ++ drop n to

blend-suc : {X : Type 0} (n : ℕ) (from to : List X) (d : X) → n < length from → n < length to → set (blend n from to) n (get_or from n d) ≡ blend (suc n) from to
unfolding blend
blend-suc n [] to d h k = absurd (omega (arith, h))
blend-suc n (x ∷ xs) [] d h k = absurd (omega (arith, k))
blend-suc zero (x ∷ xs) (y ∷ ys) d h k = refl
blend-suc (suc n) (x ∷ xs) (y ∷ ys) d h k = ap (λ z. x ∷ z) (blend-suc n xs ys d (omega (arith, h)) (omega (arith, k)))

pub blend-more : {X : Type 0} (n : ℕ) (from to : List X) (d : X) → n < length from → n < length to → set (blend n from to) n (get_or from n d) ≡ blend (n + 1) from to
blend-more {X} n from to d h k = let e : suc n ≡ n + 1 = omega arith in blend-suc n from to d h k ∙ ap (λ (m : ℕ). blend {X = X} m from to) e

pub blend-none : {X : Type 0} (from to : List X) → blend 0 from to ≡ to
unfolding blend
blend-none from to = refl

pub blend-all : {X : Type 0} (n : ℕ) (from to : List X) → length from ≡ n → length to ≡ n → blend n from to ≡ from
unfolding blend
blend-all zero [] [] h k = refl
blend-all zero (x ∷ xs) to h k = absurd (omega (arith, h))
blend-all zero [] (y ∷ ys) h k = absurd (omega (arith, k))
blend-all (suc n) [] to h k = absurd (omega (arith, h))
blend-all (suc n) (x ∷ xs) [] h k = absurd (omega (arith, k))
blend-all (suc n) (x ∷ xs) (y ∷ ys) h k = ap (λ z. x ∷ z) (blend-all n xs ys (omega (arith, h)) (omega (arith, k)))
