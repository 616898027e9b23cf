-- A paged memory stays one through its calls, and what the pages hold that its numbers name.
use Rattle.std.proofs.Common.{◌≡◌, ◌≢◌, ℕ, zero, suc, ◌+◌, ◌<◌, ◌≤◌, ◌/◌, ◌%◌, ◌-◌, ◌==◌, Bool, true, false, List, [], ◌∷◌, length, get_or, set, take, drop, replicate}
use Rattle.std.proofs.Common.{refl, sym, ◌∙◌, ap, subst, arith, length-set, Option, Some, None, if◌then◌else◌}
use Rattle.std.proofs.lemmas.Bool.{false≢true, true_from_ne_false, cases_eq, cases_lt, eq-eqb, ne_eqb, lt-ltb}
use Rattle.std.proofs.lemmas.List.{get_or-set_same, get_or-set_other, get_or-take, get_or-drop, get_or-map, get_or-replicate, set-set, length-replicate, length-map, ext_get_or}
use Rattle.sx_pages.proofs.Slots.{choose}
use Rattle.sx_pages.specs.Pages.{Pages, with_byte, is_page, bytes_of, is_live, held, zeros, no_pages, size}
use Rattle.sx_paged.specs.Laws.{PresentGrows}
use Rattle.sx_paged.specs.Paged.{page_of, paged, spare, AreBlank, IsPaged}
use Rattle.sx_paged.specs.Memory.{page_bytes, after_put}

abbrev Page : Type 0
Page = Option (List ℕ)

-- how many pages are live
size-put : (pages : Pages) (p : ℕ) (bytes : List ℕ) → p < length pages → is_live pages p ≡ false → size (set pages p (Some bytes)) ≡ suc (size pages)
size-put [] p bytes h e = absurd (omega (arith, h))
size-put (None ∷ ps) zero bytes h e = refl
size-put (Some b ∷ ps) zero bytes h e = cc
size-put (None ∷ ps) (suc p) bytes h e = size-put ps p bytes (omega (arith, h)) e
size-put (Some b ∷ ps) (suc p) bytes h e = ap suc (size-put ps p bytes (omega (arith, h)) e)

size-write : (pages : Pages) (p : ℕ) (bytes : List ℕ) → is_live pages p ≡ true → size (set pages p (Some bytes)) ≡ size pages
size-write [] p bytes e = cc
size-write (None ∷ ps) zero bytes e = cc
size-write (Some b ∷ ps) zero bytes e = refl
size-write (None ∷ ps) (suc p) bytes e = size-write ps p bytes e
size-write (Some b ∷ ps) (suc p) bytes e = ap suc (size-write ps p bytes e)

size-drop : (pages : Pages) (p : ℕ) → is_live pages p ≡ true → suc (size (set pages p None)) ≡ size pages
size-drop [] p e = cc
size-drop (None ∷ ps) zero e = cc
size-drop (Some b ∷ ps) zero e = refl
size-drop (None ∷ ps) (suc p) e = size-drop ps p e
size-drop (Some b ∷ ps) (suc p) e = ap suc (size-drop ps p e)

size-none : (n : ℕ) → size (replicate n None) ≡ 0
size-none zero = refl
size-none (suc n) = size-none n

size-most : (pages : Pages) → size pages ≤ length pages
size-most [] = omega arith
size-most (None ∷ ps) = omega (arith, size-most ps)
size-most (Some b ∷ ps) = omega (arith, size-most ps)

-- if a page is absent, not all are live; if all but one are live, each other one is
size-room : (pages : Pages) (p : ℕ) → p < length pages → is_live pages p ≡ false → size pages < length pages
size-room pages p h e = omega (arith, size-put pages p [] h e, size-most (set pages p (Some [])), length-set pages p (Some []))

size-others : (pages : Pages) (p q : ℕ) → size pages + 1 ≡ length pages → p < length pages → is_live pages p ≡ false → q < length pages → q ≢ p → is_live pages q ≡ true
size-others pages p q full h e k ne = true_from_ne_false (is_live pages q) (λ absent.
    let more : Pages = set pages p (Some []) in
    let long : length more ≡ length pages = length-set pages p (Some []) in
    let less : size more < length more = size-room more q (omega (arith, long, k)) (ap is_page (get_or-set_other pages p q (Some []) None ne) ∙ absent) in
    absurd (omega (arith, less, long, full, size-put pages p [] h e)))

live-within : (pages : Pages) (p : ℕ) → is_live pages p ≡ true → p < length pages
live-within [] p e = cc
live-within (x ∷ ps) zero e = omega arith
live-within (x ∷ ps) (suc p) e = omega (arith, live-within ps p e)

live-set : (arena : Pages) (p q : ℕ) (bytes : List ℕ) → p < length arena → is_live arena q ≡ true → is_live (set arena p (Some bytes)) q ≡ true
live-set arena p q bytes h t = choose (cases_eq q p)
    (λ e. ap (λ (k : ℕ). is_live (set arena p (Some bytes)) k) e ∙ ap is_page (get_or-set_same arena p (Some bytes) None h))
    (λ ne. ap is_page (get_or-set_other arena p q (Some bytes) None ne) ∙ t)

-- the page that a number names
of-blank : (arena : Pages) (blank number : ℕ) → number ≡ blank → page_of arena blank number ≡ None
of-blank arena blank number e = ap (λ (t : Bool). if t then None else get_or arena number None) (eq-eqb number blank e)

of-own : (arena : Pages) (blank number : ℕ) → number ≢ blank → page_of arena blank number ≡ get_or arena number None
of-own arena blank number ne = ap (λ (t : Bool). if t then None else get_or arena number None) (ne_eqb number blank ne)

of-other : (arena : Pages) (blank number p : ℕ) (x : Page) → number ≢ p → page_of (set arena p x) blank number ≡ page_of arena blank number
of-other arena blank number p x ne = ap (λ (page : Page). if number == blank then None else page) (get_or-set_other arena p number x None ne)

at-index : (arena : Pages) (numbers : List ℕ) (blank i : ℕ) → i < length numbers → get_or (paged arena numbers blank) i None ≡ page_of arena blank (get_or numbers i 0)
at-index arena numbers blank i h = get_or-map (page_of arena blank) numbers i 0 None h

-- pages that differ in one entry
changed : (arena arena2 : Pages) (numbers numbers2 : List ℕ) (blank blank2 i : ℕ) (x : Page) → length numbers ≡ 256 → length numbers2 ≡ 256 → i < 256
    → ((j : ℕ) → j < 256 → j ≢ i → page_of arena2 blank2 (get_or numbers2 j 0) ≡ page_of arena blank (get_or numbers j 0))
    → page_of arena2 blank2 (get_or numbers2 i 0) ≡ x → paged arena2 numbers2 blank2 ≡ set (paged arena numbers blank) i x
changed arena arena2 numbers numbers2 blank blank2 i x long long2 hi others here =
    let old : Pages = paged arena numbers blank in
    let same : length old ≡ 256 = length-map numbers (page_of arena blank) ∙ long in
    let new : length (paged arena2 numbers2 blank2) ≡ 256 = length-map numbers2 (page_of arena2 blank2) ∙ long2 in
    let set_long : length (set old i x) ≡ 256 = length-set old i x ∙ same in
    ext_get_or None (paged arena2 numbers2 blank2) (set old i x) (new ∙ sym set_long) (λ j h. at-index arena2 numbers2 blank2 j (omega (arith, h, new, long2))
    ∙ choose (cases_eq j i)
    (λ e. ap (λ (k : ℕ). page_of arena2 blank2 (get_or numbers2 k 0)) e ∙ here ∙ sym (get_or-set_same old i x None (omega (arith, same, hi))) ∙ ap (λ (k : ℕ). get_or (set old i x) k None) (sym e))
    (λ ne. others j (omega (arith, h, new)) ne ∙ sym (at-index arena numbers blank j (omega (arith, h, new, long))) ∙ sym (get_or-set_other old i j x None ne)))

-- what the numbers of a paged memory name
pub numbered : (arena : Pages) (numbers : List ℕ) (blank i : ℕ) → IsPaged arena numbers blank → i < 256 → get_or numbers i 0 < 256
numbered arena numbers blank i is hi = omega (arith, is.whole, live-within arena (get_or numbers i 0) (is.live i hi))

present : (arena : Pages) (numbers : List ℕ) (blank i : ℕ) → IsPaged arena numbers blank → i < 256 → get_or numbers i 0 ≢ blank → is_live (paged arena numbers blank) i ≡ true
present arena numbers blank i is hi own =
    ap is_page (at-index arena numbers blank i (omega (arith, is.long, hi)) ∙ of-own arena blank (get_or numbers i 0) own) ∙ is.live i hi

absent : (arena : Pages) (numbers : List ℕ) (blank i : ℕ) → IsPaged arena numbers blank → i < 256 → get_or numbers i 0 ≡ blank → is_live (paged arena numbers blank) i ≡ false
absent arena numbers blank i is hi e =
    ap is_page (at-index arena numbers blank i (omega (arith, is.long, hi)) ∙ of-blank arena blank (get_or numbers i 0) e)

pages-long : (arena : Pages) (numbers : List ℕ) (blank : ℕ) → IsPaged arena numbers blank → length (paged arena numbers blank) ≡ 256
pages-long arena numbers blank is = length-map numbers (page_of arena blank) ∙ is.long

blank-live : (arena : Pages) (numbers : List ℕ) (blank : ℕ) → IsPaged arena numbers blank → blank < 256 → is_live arena blank ≡ true
blank-live arena numbers blank is h = ap is_page (is.zeroed h)

unnumbered : (arena : Pages) (numbers : List ℕ) (blank i p : ℕ) → IsPaged arena numbers blank → i < 256 → is_live arena p ≡ false → get_or numbers i 0 ≢ p
unnumbered arena numbers blank i p is hi f e = false≢true (sym f ∙ ap (is_live arena) (sym e) ∙ is.live i hi)

unblank : (arena : Pages) (numbers : List ℕ) (blank p : ℕ) → IsPaged arena numbers blank → p < 256 → is_live arena p ≡ false → p ≢ blank
unblank arena numbers blank p is h f e = false≢true (sym f ∙ ap (is_live arena) e ∙ blank-live arena numbers blank is (omega (arith, h, e)))

pub spare-some : (blank : ℕ) → blank < 256 → spare blank ≡ 1
spare-some blank h = ap (λ (t : Bool). if t then 1 else 0) (lt-ltb blank 256 h)

-- what a page holds, present or not
live-bytes : (x : Page) → is_page x ≡ true → bytes_of x ≡ page_bytes x
live-bytes None e = cc
live-bytes (Some b) e = refl

pub held-is : (arena : Pages) (numbers : List ℕ) (blank i : ℕ) → IsPaged arena numbers blank → i < 256
    → held arena (get_or numbers i 0) ≡ page_bytes (get_or (paged arena numbers blank) i None)
held-is arena numbers blank i is hi =
    let n : ℕ = get_or numbers i 0 in let place = at-index arena numbers blank i (omega (arith, is.long, hi)) in
    choose (cases_eq n blank)
    (λ e. ap (held arena) e ∙ ap bytes_of (is.zeroed (omega (arith, numbered arena numbers blank i is hi, e))) ∙ ap page_bytes (sym (place ∙ of-blank arena blank n e)))
    (λ ne. live-bytes (get_or arena n None) (is.live i hi) ∙ ap page_bytes (sym (place ∙ of-own arena blank n ne)))

-- a present page is written
pages-write : (arena : Pages) (numbers : List ℕ) (blank i : ℕ) (bytes : List ℕ) → IsPaged arena numbers blank → i < 256 → get_or numbers i 0 ≢ blank
    → paged (set arena (get_or numbers i 0) (Some bytes)) numbers blank ≡ set (paged arena numbers blank) i (Some bytes)
pages-write arena numbers blank i bytes is hi own =
    let n : ℕ = get_or numbers i 0 in
    changed arena (set arena n (Some bytes)) numbers numbers blank blank i (Some bytes) is.long is.long hi
    (λ j hj ne. of-other arena blank (get_or numbers j 0) n (Some bytes) (λ e. ne (sym (is.apart i j hi hj own (sym e)))))
    (of-own (set arena n (Some bytes)) blank n own ∙ get_or-set_same arena n (Some bytes) None (live-within arena n (is.live i hi)))

pub IsPaged-write : (arena : Pages) (numbers : List ℕ) (blank i : ℕ) (bytes : List ℕ) → IsPaged arena numbers blank → i < 256 → get_or numbers i 0 ≢ blank
    → IsPaged (set arena (get_or numbers i 0) (Some bytes)) numbers blank
IsPaged-write arena numbers blank i bytes is hi own =
    let n : ℕ = get_or numbers i 0 in let old : Pages = paged arena numbers blank in
    let pages : size (paged (set arena n (Some bytes)) numbers blank) ≡ size old =
    ap size (pages-write arena numbers blank i bytes is hi own) ∙ size-write old i bytes (present arena numbers blank i is hi own) in
    record {
      whole = length-set arena n (Some bytes) ∙ is.whole;
      long = is.long;
      live = λ j h. live-set arena n (get_or numbers j 0) bytes (live-within arena n (is.live i hi)) (is.live j h);
      apart = is.apart;
      within = is.within;
      zeroed = λ h. get_or-set_other arena n blank (Some bytes) None (λ e. own (sym e)) ∙ is.zeroed h;
      counted = omega (arith, size-write arena n bytes (is.live i hi), pages, is.counted);
    }

pub write-is : (arena : Pages) (numbers : List ℕ) (blank at byte : ℕ) → IsPaged arena numbers blank → at / 256 < 256 → get_or numbers (at / 256) 0 ≢ blank
    → paged (with_byte arena (get_or numbers (at / 256) 0) (at % 256) byte) numbers blank ≡ after_put (paged arena numbers blank) at byte
write-is arena numbers blank at byte is h own =
    pages-write arena numbers blank (at / 256) _ is h own
    ∙ ap (λ (bytes : List ℕ). set (paged arena numbers blank) (at / 256) (Some (set bytes (at % 256) byte))) (held-is arena numbers blank (at / 256) is h)

-- the pages after a word was written, whose bytes lie on one page
pub word-is : (arena : Pages) (numbers : List ℕ) (blank at low high : ℕ) → IsPaged arena numbers blank → at / 256 < 256 → at % 2 ≡ 0 → get_or numbers (at / 256) 0 ≢ blank
    → paged (with_byte (with_byte arena (get_or numbers (at / 256) 0) (at % 256) low) (get_or numbers (at / 256) 0) (at % 256 + 1) high) numbers blank
    ≡ after_put (after_put (paged arena numbers blank) at low) (at + 1) high
word-is arena numbers blank at low high is h even own =
    let n : ℕ = get_or numbers (at / 256) 0 in
    let one : Pages = with_byte arena n (at % 256) low in
    let same : (at + 1) / 256 ≡ at / 256 = omega (arith, even) in
    let next : at % 256 + 1 ≡ (at + 1) % 256 = omega (arith, even) in
    let number : n ≡ get_or numbers ((at + 1) / 256) 0 = ap (λ (k : ℕ). get_or numbers k 0) (sym same) in
    (λ j. paged (with_byte one (number j) (next j) high) numbers blank)
    ∙ write-is one numbers blank (at + 1) high (IsPaged-write arena numbers blank (at / 256) _ is h own) (omega (arith, h, same)) (λ e. own (number ∙ e))
    ∙ ap (λ (pages : Pages). after_put pages (at + 1) high) (write-is arena numbers blank at low is h own)

-- an absent page is written: a page that was free becomes its page
blank-bytes : (arena : Pages) (numbers : List ℕ) (blank i : ℕ) → IsPaged arena numbers blank → i < 256 → get_or numbers i 0 ≡ blank
    → page_bytes (get_or (paged arena numbers blank) i None) ≡ zeros
blank-bytes arena numbers blank i is hi e = ap page_bytes (at-index arena numbers blank i (omega (arith, is.long, hi)) ∙ of-blank arena blank (get_or numbers i 0) e)

pages-put : (arena : Pages) (numbers : List ℕ) (blank i p : ℕ) (bytes : List ℕ) → IsPaged arena numbers blank → i < 256 → p < 256 → is_live arena p ≡ false
    → paged (set arena p (Some bytes)) (set numbers i p) blank ≡ set (paged arena numbers blank) i (Some bytes)
pages-put arena numbers blank i p bytes is hi hp f =
    let there : i < length numbers = omega (arith, is.long, hi) in
    changed arena (set arena p (Some bytes)) numbers (set numbers i p) blank blank i (Some bytes) is.long (length-set numbers i p ∙ is.long) hi
    (λ j hj ne. ap (page_of (set arena p (Some bytes)) blank) (get_or-set_other numbers i j p 0 ne)
    ∙ of-other arena blank (get_or numbers j 0) p (Some bytes) (unnumbered arena numbers blank j p is hj f))
    (ap (page_of (set arena p (Some bytes)) blank) (get_or-set_same numbers i p 0 there) ∙ of-own (set arena p (Some bytes)) blank p (unblank arena numbers blank p is hp f)
    ∙ get_or-set_same arena p (Some bytes) None (omega (arith, is.whole, hp)))

pub put-is : (arena : Pages) (numbers : List ℕ) (blank at p byte : ℕ) → IsPaged arena numbers blank → at / 256 < 256 → p < 256 → is_live arena p ≡ false
    → get_or numbers (at / 256) 0 ≡ blank
    → paged (with_byte (set arena p (Some zeros)) p (at % 256) byte) (set numbers (at / 256) p) blank ≡ after_put (paged arena numbers blank) at byte
put-is arena numbers blank at p byte is hi hp f e =
    let i = at / 256 in let within : p < length arena = omega (arith, is.whole, hp) in
    let bytes : held (set arena p (Some zeros)) p ≡ zeros = ap bytes_of (get_or-set_same arena p (Some zeros) None within) in
    ap (λ (b : List ℕ). paged (set (set arena p (Some zeros)) p (Some (set b (at % 256) byte))) (set numbers i p) blank) bytes
    ∙ ap (λ (a : Pages). paged a (set numbers i p) blank) (set-set arena p (Some zeros) (Some (set zeros (at % 256) byte)))
    ∙ pages-put arena numbers blank i p (set zeros (at % 256) byte) is hi hp f
    ∙ ap (λ (b : List ℕ). set (paged arena numbers blank) i (Some (set b (at % 256) byte))) (sym (blank-bytes arena numbers blank i is hi e))

pub IsPaged-put : (arena : Pages) (numbers : List ℕ) (blank i p : ℕ) (bytes more : List ℕ) → IsPaged arena numbers blank → i < 256 → p < 256 → is_live arena p ≡ false
    → get_or numbers i 0 ≡ blank → IsPaged (set (set arena p (Some bytes)) p (Some more)) (set numbers i p) blank
IsPaged-put arena numbers blank i p bytes more is hi hp f e =
    let within : p < length arena = omega (arith, is.whole, hp) in let there : i < length numbers = omega (arith, is.long, hi) in
    let old : Pages = paged arena numbers blank in
    let here : get_or (set numbers i p) i 0 ≡ p = get_or-set_same numbers i p 0 there in
    let other : (j : ℕ) → j ≢ i → get_or (set numbers i p) j 0 ≡ get_or numbers j 0 = λ j ne. get_or-set_other numbers i j p 0 ne in
    let at : (j : ℕ) → j ≡ i → get_or (set numbers i p) j 0 ≡ p = λ j same. ap (λ (k : ℕ). get_or (set numbers i p) k 0) same ∙ here in
    let pages : size (paged (set arena p (Some more)) (set numbers i p) blank) ≡ suc (size old) =
    ap size (pages-put arena numbers blank i p more is hi hp f) ∙ size-put old i more (omega (arith, pages-long arena numbers blank is, hi)) (absent arena numbers blank i is hi e) in
    subst (λ (a : Pages). IsPaged a (set numbers i p) blank) (sym (set-set arena p (Some bytes) (Some more))) (record {
      whole = length-set arena p (Some more) ∙ is.whole;
      long = length-set numbers i p ∙ is.long;
      live = λ j hj. choose (cases_eq j i)
          (λ same. ap (is_live (set arena p (Some more))) (at j same) ∙ ap is_page (get_or-set_same arena p (Some more) None within))
          (λ ne. ap (is_live (set arena p (Some more))) (other j ne) ∙ live-set arena p (get_or numbers j 0) more within (is.live j hj));
      apart = λ j k hj hk own both. choose (cases_eq j i)
          (λ one. choose (cases_eq k i) (λ two. one ∙ sym two) (λ ne. absurd (unnumbered arena numbers blank k p is hk f (sym (other k ne) ∙ sym both ∙ at j one))))
          (λ ne. choose (cases_eq k i) (λ two. absurd (unnumbered arena numbers blank j p is hj f (sym (other j ne) ∙ both ∙ at k two)))
          (λ ne2. is.apart j k hj hk (λ b. own (other j ne ∙ b)) (sym (other j ne) ∙ both ∙ other k ne2)));
      within = is.within;
      zeroed = λ h. get_or-set_other arena p blank (Some more) None (λ same. unblank arena numbers blank p is hp f (sym same)) ∙ is.zeroed h;
      counted = omega (arith, size-put arena p more within f, pages, is.counted);
    })

-- an absent page is written and no page is free: the blank page becomes its page, since all others are present
others-present : (arena : Pages) (numbers : List ℕ) (blank i : ℕ) → IsPaged arena numbers blank → i < 256 → get_or numbers i 0 ≡ blank → size arena ≡ 256
    → (j : ℕ) → j < 256 → j ≢ i → get_or numbers j 0 ≢ blank
others-present arena numbers blank i is hi e full j hj ne same =
    let old : Pages = paged arena numbers blank in
    let long : length old ≡ 256 = pages-long arena numbers blank is in
    let one : spare blank ≡ 1 = spare-some blank (omega (arith, numbered arena numbers blank i is hi, e)) in
    false≢true (sym (absent arena numbers blank j is hj same)
    ∙ size-others old i j (omega (arith, is.counted, full, one, long)) (omega (arith, long, hi)) (absent arena numbers blank i is hi e) (omega (arith, long, hj)) ne)

pages-last : (arena : Pages) (numbers : List ℕ) (blank i : ℕ) (bytes : List ℕ) → IsPaged arena numbers blank → i < 256 → get_or numbers i 0 ≡ blank → size arena ≡ 256
    → paged (set arena (get_or numbers i 0) (Some bytes)) numbers 256 ≡ set (paged arena numbers blank) i (Some bytes)
pages-last arena numbers blank i bytes is hi e full =
    let n : ℕ = get_or numbers i 0 in
    let less : (j : ℕ) → j < 256 → get_or numbers j 0 ≢ 256 = λ j hj same. omega (arith, numbered arena numbers blank j is hj, same) in
    changed arena (set arena n (Some bytes)) numbers numbers blank 256 i (Some bytes) is.long is.long hi
    (λ j hj ne. let own : get_or numbers j 0 ≢ blank = others-present arena numbers blank i is hi e full j hj ne in
    of-own (set arena n (Some bytes)) 256 (get_or numbers j 0) (less j hj) ∙ get_or-set_other arena n (get_or numbers j 0) (Some bytes) None (λ same. own (same ∙ e))
    ∙ sym (of-own arena blank (get_or numbers j 0) own))
    (of-own (set arena n (Some bytes)) 256 n (less i hi) ∙ get_or-set_same arena n (Some bytes) None (live-within arena n (is.live i hi)))

pub last-is : (arena : Pages) (numbers : List ℕ) (blank at byte : ℕ) → IsPaged arena numbers blank → at / 256 < 256 → get_or numbers (at / 256) 0 ≡ blank → size arena ≡ 256
    → paged (with_byte arena (get_or numbers (at / 256) 0) (at % 256) byte) numbers 256 ≡ after_put (paged arena numbers blank) at byte
last-is arena numbers blank at byte is h e full =
    pages-last arena numbers blank (at / 256) _ is h e full
    ∙ ap (λ (bytes : List ℕ). set (paged arena numbers blank) (at / 256) (Some (set bytes (at % 256) byte))) (held-is arena numbers blank (at / 256) is h)

pub IsPaged-last : (arena : Pages) (numbers : List ℕ) (blank i : ℕ) (bytes : List ℕ) → IsPaged arena numbers blank → i < 256 → get_or numbers i 0 ≡ blank → size arena ≡ 256
    → IsPaged (set arena (get_or numbers i 0) (Some bytes)) numbers 256
IsPaged-last arena numbers blank i bytes is hi e full =
    let n : ℕ = get_or numbers i 0 in let old : Pages = paged arena numbers blank in
    let one : spare blank ≡ 1 = spare-some blank (omega (arith, numbered arena numbers blank i is hi, e)) in
    let none : spare 256 ≡ 0 = refl in
    let pages : size (paged (set arena n (Some bytes)) numbers 256) ≡ suc (size old) =
    ap size (pages-last arena numbers blank i bytes is hi e full)
    ∙ size-put old i bytes (omega (arith, pages-long arena numbers blank is, hi)) (absent arena numbers blank i is hi e) in
    record {
      whole = length-set arena n (Some bytes) ∙ is.whole;
      long = is.long;
      live = λ j h. live-set arena n (get_or numbers j 0) bytes (live-within arena n (is.live i hi)) (is.live j h);
      apart = λ j k hj hk own both. choose (cases_eq j i)
          (λ one. choose (cases_eq k i) (λ two. one ∙ sym two)
          (λ ne. absurd (others-present arena numbers blank i is hi e full k hk ne (sym both ∙ ap (λ (l : ℕ). get_or numbers l 0) one ∙ e))))
          (λ ne. is.apart j k hj hk (others-present arena numbers blank i is hi e full j hj ne) both);
      within = omega arith;
      zeroed = λ h. absurd (omega (arith, h));
      counted = omega (arith, size-write arena n bytes (is.live i hi), pages, is.counted, one, none);
    }

-- if all pages are present, that of the index 0 becomes absent, so that there is a blank page again
pub regain-free : (arena : Pages) (numbers : List ℕ) → IsPaged arena numbers 256 → size (set arena (get_or numbers 0 0) None) ≡ 256 → ⊥
regain-free arena numbers is full = omega (arith, size-drop arena (get_or numbers 0 0) (is.live 0 (omega arith)), size-most arena, is.whole, full)

pub IsPaged-regain : (arena : Pages) (numbers : List ℕ) (p : ℕ) → IsPaged arena numbers 256 → p < 256 → is_live (set arena (get_or numbers 0 0) None) p ≡ false
    → IsPaged (set (set arena (get_or numbers 0 0) None) p (Some zeros)) (set numbers 0 p) (get_or (set numbers 0 p) 0 0)
IsPaged-regain arena numbers p is hp f =
    let q : ℕ = get_or numbers 0 0 in let freed : Pages = set arena q None in let next : Pages = set freed p (Some zeros) in
    let first : 0 < 256 = omega arith in
    let old : Pages = paged arena numbers 256 in
    let long : length freed ≡ 256 = length-set arena q None ∙ is.whole in
    let own : (j : ℕ) → j < 256 → get_or numbers j 0 ≢ 256 = λ j hj e. omega (arith, numbered arena numbers 256 j is hj, e) in
    let here : get_or (set numbers 0 p) 0 0 ≡ p = get_or-set_same numbers 0 p 0 (omega (arith, is.long)) in
    let other : (j : ℕ) → j ≢ 0 → get_or (set numbers 0 p) j 0 ≡ get_or numbers j 0 = λ j ne. get_or-set_other numbers 0 j p 0 ne in
    let at : (j : ℕ) → j ≡ 0 → get_or (set numbers 0 p) j 0 ≡ p = λ j same. ap (λ (k : ℕ). get_or (set numbers 0 p) k 0) same ∙ here in
    let past : (j : ℕ) → j < 256 → j ≢ 0 → get_or numbers j 0 ≢ q = λ j hj ne e. ne (is.apart j 0 hj first (own j hj) e) in
    let stays : (j : ℕ) → j < 256 → j ≢ 0 → is_live freed (get_or numbers j 0) ≡ true =
    λ j hj ne. ap is_page (get_or-set_other arena q (get_or numbers j 0) None None (past j hj ne)) ∙ is.live j hj in
    let new : (j : ℕ) → j < 256 → j ≢ 0 → get_or numbers j 0 ≢ p = λ j hj ne e. false≢true (sym f ∙ ap (is_live freed) (sym e) ∙ stays j hj ne) in
    let shown : paged next (set numbers 0 p) p ≡ set old 0 None =
    changed arena next numbers (set numbers 0 p) 256 p 0 None is.long (length-set numbers 0 p ∙ is.long) first
    (λ j hj ne. ap (page_of next p) (other j ne) ∙ of-own next p (get_or numbers j 0) (new j hj ne)
    ∙ get_or-set_other freed p (get_or numbers j 0) (Some zeros) None (new j hj ne) ∙ get_or-set_other arena q (get_or numbers j 0) None None (past j hj ne)
    ∙ sym (of-own arena 256 (get_or numbers j 0) (own j hj)))
    (of-blank next p (get_or (set numbers 0 p) 0 0) here) in
    let fewer : suc (size (paged next (set numbers 0 p) p)) ≡ size old = ap (λ (pages : Pages). suc (size pages)) shown ∙ size-drop old 0 (present arena numbers 256 0 is first (own 0 first)) in
    let none : spare 256 ≡ 0 = refl in
    subst (IsPaged next (set numbers 0 p)) (sym here) (record {
      whole = length-set freed p (Some zeros) ∙ long;
      long = length-set numbers 0 p ∙ is.long;
      live = λ j hj. choose (cases_eq j 0)
          (λ same. ap (is_live next) (at j same) ∙ ap is_page (get_or-set_same freed p (Some zeros) None (omega (arith, long, hp))))
          (λ ne. ap (is_live next) (other j ne) ∙ live-set freed p (get_or numbers j 0) zeros (omega (arith, long, hp)) (stays j hj ne));
      apart = λ j k hj hk absent both. choose (cases_eq j 0)
          (λ same. absurd (absent (at j same)))
          (λ ne. choose (cases_eq k 0) (λ same. absurd (absent (both ∙ at k same))) (λ ne2. is.apart j k hj hk (own j hj) (sym (other j ne) ∙ both ∙ other k ne2)));
      within = omega (arith, hp);
      zeroed = λ h. get_or-set_same freed p (Some zeros) None (omega (arith, long, hp));
      counted = omega (arith, size-put freed p zeros (omega (arith, long, hp)) f, size-drop arena q (is.live 0 first), fewer, is.counted, none, spare-some p hp);
    })

-- a present page becomes absent
pub IsPaged-drop : (arena : Pages) (numbers : List ℕ) (blank i : ℕ) → IsPaged arena numbers blank → blank < 256 → i < 256 → get_or numbers i 0 ≢ blank
    → IsPaged (set arena (get_or numbers i 0) None) (set numbers i blank) blank
IsPaged-drop arena numbers blank i is hb hi own =
    let n : ℕ = get_or numbers i 0 in let next : Pages = set arena n None in let old : Pages = paged arena numbers blank in
    let here : get_or (set numbers i blank) i 0 ≡ blank = get_or-set_same numbers i blank 0 (omega (arith, is.long, hi)) in
    let other : (j : ℕ) → j ≢ i → get_or (set numbers i blank) j 0 ≡ get_or numbers j 0 = λ j ne. get_or-set_other numbers i j blank 0 ne in
    let at : (j : ℕ) → j ≡ i → get_or (set numbers i blank) j 0 ≡ blank = λ j same. ap (λ (k : ℕ). get_or (set numbers i blank) k 0) same ∙ here in
    let past : (j : ℕ) → j < 256 → j ≢ i → get_or numbers j 0 ≢ n = λ j hj ne e. ne (sym (is.apart i j hi hj own (sym e))) in
    let zeroed : get_or next blank None ≡ Some zeros = get_or-set_other arena n blank None None (λ e. own (sym e)) ∙ is.zeroed hb in
    let shown : paged next (set numbers i blank) blank ≡ set old i None =
    changed arena next numbers (set numbers i blank) blank blank i None is.long (length-set numbers i blank ∙ is.long) hi
    (λ j hj ne. ap (page_of next blank) (other j ne) ∙ of-other arena blank (get_or numbers j 0) n None (past j hj ne))
    (of-blank next blank (get_or (set numbers i blank) i 0) here) in
    let fewer : suc (size (paged next (set numbers i blank) blank)) ≡ size old = ap (λ (pages : Pages). suc (size pages)) shown ∙ size-drop old i (present arena numbers blank i is hi own) in
    record {
      whole = length-set arena n None ∙ is.whole;
      long = length-set numbers i blank ∙ is.long;
      live = λ j hj. choose (cases_eq j i)
          (λ same. ap (is_live next) (at j same) ∙ ap is_page zeroed)
          (λ ne. ap (is_live next) (other j ne) ∙ ap is_page (get_or-set_other arena n (get_or numbers j 0) None None (past j hj ne)) ∙ is.live j hj);
      apart = λ j k hj hk absent both. choose (cases_eq j i)
          (λ same. absurd (absent (at j same)))
          (λ ne. choose (cases_eq k i) (λ same. absurd (absent (both ∙ at k same)))
          (λ ne2. is.apart j k hj hk (λ b. absent (other j ne ∙ b)) (sym (other j ne) ∙ both ∙ other k ne2)));
      within = is.within;
      zeroed = λ h. zeroed;
      counted = omega (arith, size-drop arena n (is.live i hi), fewer, is.counted);
    }

-- no page is present
all-blank : (arena : Pages) (blank n : ℕ) → paged arena (replicate n blank) blank ≡ replicate n None
all-blank arena blank zero = refl
all-blank arena blank (suc n) = λ j. of-blank arena blank blank refl j ∷ all-blank arena blank n j

pub paged-empty : (arena : Pages) (blank : ℕ) → paged arena (replicate 256 blank) blank ≡ no_pages
unfolding no_pages
paged-empty arena blank = all-blank arena blank 256

pub IsPaged-new : (p : ℕ) → p < 256 → IsPaged (set no_pages p (Some zeros)) (replicate 256 p) p
unfolding no_pages
IsPaged-new p hp =
    let arena : Pages = set no_pages p (Some zeros) in
    let long : length no_pages ≡ 256 = length-replicate {A = Page} 256 None in
    let number : (i : ℕ) → i < 256 → get_or (replicate 256 p) i 0 ≡ p = λ i h. get_or-replicate 256 i p 0 h in
    let zeroed : get_or arena p None ≡ Some zeros = get_or-set_same no_pages p (Some zeros) None (omega (arith, long, hp)) in
    let free : is_live no_pages p ≡ false = ap is_page (get_or-replicate {A = Page} 256 p None None hp) in
    let none : size no_pages ≡ 0 = size-none 256 in
    let pages : size (paged arena (replicate 256 p) p) ≡ 0 = ap size (all-blank arena p 256) ∙ size-none 256 in
    record {
      whole = length-set no_pages p (Some zeros) ∙ long;
      long = length-replicate {A = ℕ} 256 p;
      live = λ i h. ap (is_live arena) (number i h) ∙ ap is_page zeroed;
      apart = λ i j hi hj own both. absurd (own (number i hi));
      within = omega (arith, hp);
      zeroed = λ h. zeroed;
      counted = omega (arith, size-put no_pages p zeros (omega (arith, long, hp)) free, none, pages, spare-some p hp);
    }

-- a turn of the loops that release the pages
pub upto : (n i : ℕ) → i < n + 1 → i ≢ n → i < n
upto n i h ne = choose (cases_lt i n) (λ lt. lt) (λ ge. absurd (ne (omega (arith, h, ge))))

pub keep-step : (numbers : List ℕ) (blank n : ℕ) → get_or numbers n 0 ≡ blank → AreBlank numbers blank n → AreBlank numbers blank (n + 1)
keep-step numbers blank n e so_far i hi = choose (cases_eq i n) (λ same. ap (λ (k : ℕ). get_or numbers k 0) same ∙ e) (λ ne. so_far i (upto n i hi ne))

pub run-step : (numbers : List ℕ) (blank n count : ℕ) → take count (drop n numbers) ≡ replicate count blank → AreBlank numbers blank n → AreBlank numbers blank (n + count)
run-step numbers blank n count e so_far i hi = choose (cases_lt i n) (so_far i) (λ ge.
    let inside : i - n < count = omega (arith, hi, ge) in
    ap (λ (k : ℕ). get_or numbers k 0) (omega (arith, ge)) ∙ sym (get_or-drop n numbers (i - n) 0) ∙ sym (get_or-take count (drop n numbers) (i - n) 0 inside)
    ∙ ap (λ (run : List ℕ). get_or run (i - n) 0) e ∙ get_or-replicate count (i - n) blank 0 inside)

pub all-same : (numbers : List ℕ) (blank n : ℕ) → length numbers ≡ n → AreBlank numbers blank n → numbers ≡ replicate n blank
all-same numbers blank n long all =
    ext_get_or 0 numbers (replicate n blank) (long ∙ sym (length-replicate {A = ℕ} n blank))
    (λ i h. all i (omega (arith, h, long)) ∙ sym (get_or-replicate n i blank 0 (omega (arith, h, long))))

pub present_grows : PresentGrows
present_grows pages address byte is h =
    let within : address / 256 < length pages = omega (arith, is.count, h) in
    let more : suc (size pages) ≡ size pages + 1 = omega arith in
    (size-write pages (address / 256) _, λ f. size-put pages (address / 256) _ within f ∙ more)
