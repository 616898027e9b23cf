-- Pages by where they start, and their numbers.
use Rattle.std.proofs.Common.{◌≡◌, ◌≢◌, ℕ, zero, suc, ◌+◌, ◌*◌, ◌/◌, ◌%◌, ◌<◌, List, [], ◌∷◌, true, false, length, get_or, set, map, replicate, refl, sym, ap, subst, ◌∙◌, arith, Some, None}
use Rattle.std.proofs.lemmas.Bool.{cases_eq}
use Rattle.std.proofs.lemmas.List.{get_or-set_same, get_or-set_other, length-map}
use Rattle.sx_pages.proofs.Slots.{choose}
use Rattle.sx_pages.specs.Pages.{Pages, with_byte, is_live, held, zeros, no_pages, size}
use Rattle.sx_paged.specs.Memory.{page_bytes, byte_at, after_put}
use Rattle.sx_paged.specs.Paged.{number, kept, paged, spare, IsPaged, IsKept, AreBlank}
use Rattle.sx_paged.proofs.Kept.{numbered, held-is, spare-some, write-is, IsPaged-write, word-is, put-is, IsPaged-put, last-is, IsPaged-last, IsPaged-regain, regain-free, IsPaged-drop, paged-empty, IsPaged-new, upto}

pub number-at : (starts : List ℕ) (i : ℕ) → get_or (map number starts) i 0 ≡ number (get_or starts i 0)
number-at [] i = refl
number-at (s ∷ starts) zero = refl
number-at (s ∷ starts) (suc i) = number-at starts i

pub numbers-set : (starts : List ℕ) (i s : ℕ) → map number (set starts i s) ≡ set (map number starts) i (number s)
numbers-set [] i s = refl
numbers-set (x ∷ starts) zero s = refl
numbers-set (x ∷ starts) (suc i) s = ap (λ (rest : List ℕ). number x ∷ rest) (numbers-set starts i s)

pub numbers-same : (n s : ℕ) → map number (replicate n s) ≡ replicate n (number s)
numbers-same zero s = refl
numbers-same (suc n) s = ap (λ (rest : List ℕ). number s ∷ rest) (numbers-same n s)

pub number-of : (s : ℕ) → s % 256 ≡ 0 → number s ≡ s / 256
number-of s h = omega (arith, h)

pub number-start : (p : ℕ) → number (p * 256) ≡ p
number-start p = omega arith

pub even-set : (starts : List ℕ) (i s : ℕ) → s % 256 ≡ 0 → ((j : ℕ) → get_or starts j 0 % 256 ≡ 0) → (j : ℕ) → get_or (set starts i s) j 0 % 256 ≡ 0
even-set [] i s h all j = all j
even-set (x ∷ starts) zero s h all zero = h
even-set (x ∷ starts) zero s h all (suc j) = all (suc j)
even-set (x ∷ starts) (suc i) s h all zero = all 0
even-set (x ∷ starts) (suc i) s h all (suc j) = even-set starts i s h (λ k. all (suc k)) j

even-same : (n s : ℕ) → s % 256 ≡ 0 → (j : ℕ) → get_or (replicate n s) j 0 % 256 ≡ 0
even-same zero s h j = refl
even-same (suc n) s h zero = h
even-same (suc n) s h (suc j) = even-same n s h j

module _ (arena : Pages) (starts : List ℕ) (blank : ℕ) (is : IsKept arena starts blank) where
  abbrev numbers : List ℕ
  numbers = map number starts

  -- the number of the page at an index
  pub index-number : (i : ℕ) → get_or numbers i 0 ≡ get_or starts i 0 / 256
  index-number i = number-at starts i ∙ number-of (get_or starts i 0) (is.even i)

  pub start-within : (i : ℕ) → i < 256 → get_or starts i 0 + 255 < 65536
  start-within i h = omega (arith, numbered arena numbers (number blank) i is.pages h, index-number i, is.even i)

  pub live-at : (i : ℕ) → i < 256 → is_live arena (get_or starts i 0 / 256) ≡ true
  live-at i h = ap (is_live arena) (sym (index-number i)) ∙ is.pages.live i h

  pub held-at : (i : ℕ) → i < 256 → held arena (get_or starts i 0 / 256) ≡ page_bytes (get_or (kept arena starts blank) i None)
  held-at i h = ap (held arena) (sym (index-number i)) ∙ held-is arena numbers (number blank) i is.pages h

  -- a page that doesn't start where the blank one does has another number
  own-at : (i : ℕ) → i < 256 → get_or starts i 0 ≢ blank → get_or numbers i 0 ≢ number blank
  own-at i h own same =
      let n : number (get_or starts i 0) ≡ number blank = sym (number-at starts i) ∙ same in
      choose (cases_eq blank 65535)
      (λ none. omega (arith, is.even i, start-within i h, n, none))
      (λ ne. own (omega (arith, is.even i, is.start ne, n)))

  -- a place on a page
  pub place-page : (i o place : ℕ) → o < 256 → place ≡ get_or starts i 0 + o → place / 256 ≡ get_or numbers i 0
  place-page i o place h e = omega (arith, h, e, is.even i, index-number i)

  pub place-index : (i o place : ℕ) → o < 256 → place ≡ get_or starts i 0 + o → place % 256 ≡ o
  place-index i o place h e = omega (arith, h, e, is.even i)

  pub read-kept : (at place : ℕ) → at / 256 < 256 → place ≡ get_or starts (at / 256) 0 + at % 256 → get_or (held arena (place / 256)) (place % 256) 0 ≡ byte_at (kept arena starts blank) at
  read-kept at place h e =
      let page = place-page (at / 256) (at % 256) place (omega arith) e in let index = place-index (at / 256) (at % 256) place (omega arith) e in
      (λ j. get_or (held arena (page j)) (index j) 0)
      ∙ ap (λ (bytes : List ℕ). get_or bytes (at % 256) 0) (held-is arena numbers (number blank) (at / 256) is.pages h)

  pub live-place : (at place : ℕ) → at / 256 < 256 → place ≡ get_or starts (at / 256) 0 + at % 256 → is_live arena (place / 256) ≡ true
  live-place at place h e = ap (is_live arena) (place-page (at / 256) (at % 256) place (omega arith) e) ∙ is.pages.live (at / 256) h

  pub IsKept-write : (i p : ℕ) (bytes : List ℕ) → i < 256 → get_or starts i 0 ≢ blank → p ≡ get_or numbers i 0 → IsKept (set arena p (Some bytes)) starts blank
  IsKept-write i p bytes h own e = record {
    pages = subst (λ (n : ℕ). IsPaged (set arena n (Some bytes)) numbers (number blank)) (sym e) (IsPaged-write arena numbers (number blank) i bytes is.pages h (own-at i h own));
    even = is.even;
    small = is.small;
    start = is.start;
  }

  pub write-kept : (at place byte : ℕ) → at / 256 < 256 → get_or starts (at / 256) 0 ≢ blank → place ≡ get_or starts (at / 256) 0 + at % 256
      → kept (with_byte arena (place / 256) (place % 256) byte) starts blank ≡ after_put (kept arena starts blank) at byte
  write-kept at place byte h own e =
      let page = place-page (at / 256) (at % 256) place (omega arith) e in let index = place-index (at / 256) (at % 256) place (omega arith) e in
      (λ j. paged (with_byte arena (page j) (index j) byte) numbers (number blank)) ∙ write-is arena numbers (number blank) at byte is.pages h (own-at (at / 256) h own)

  pub word-kept : (at place low high : ℕ) → at / 256 < 256 → at % 2 ≡ 0 → get_or starts (at / 256) 0 ≢ blank → place ≡ get_or starts (at / 256) 0 + at % 256
      → kept (with_byte (with_byte arena (place / 256) (place % 256) low) (place / 256) (place % 256 + 1) high) starts blank
      ≡ after_put (after_put (kept arena starts blank) at low) (at + 1) high
  word-kept at place low high h even own e =
      let page = place-page (at / 256) (at % 256) place (omega arith) e in let index = place-index (at / 256) (at % 256) place (omega arith) e in
      (λ j. paged (with_byte (with_byte arena (page j) (index j) low) (page j) (index j + 1) high) numbers (number blank))
      ∙ word-is arena numbers (number blank) at low high is.pages h even (own-at (at / 256) h own)

  -- an absent page is written
  blank-at : (i : ℕ) → get_or starts i 0 ≡ blank → get_or numbers i 0 ≡ number blank
  blank-at i e = number-at starts i ∙ ap number e

  numbers-new : (i p : ℕ) → map number (set starts i (p * 256)) ≡ set numbers i p
  numbers-new i p = numbers-set starts i (p * 256) ∙ ap (set numbers i) (number-start p)

  pub put-kept : (at p byte : ℕ) → at / 256 < 256 → p < 256 → is_live arena p ≡ false → get_or starts (at / 256) 0 ≡ blank
      → kept (with_byte (set arena p (Some zeros)) p (at % 256) byte) (set starts (at / 256) (p * 256)) blank ≡ after_put (kept arena starts blank) at byte
  put-kept at p byte h hp f e =
      ap (λ (ns : List ℕ). paged (with_byte (set arena p (Some zeros)) p (at % 256) byte) ns (number blank)) (numbers-new (at / 256) p)
      ∙ put-is arena numbers (number blank) at p byte is.pages h hp f (blank-at (at / 256) e)

  pub IsKept-put : (i p : ℕ) (bytes more : List ℕ) → i < 256 → p < 256 → is_live arena p ≡ false → get_or starts i 0 ≡ blank
      → IsKept (set (set arena p (Some bytes)) p (Some more)) (set starts i (p * 256)) blank
  IsKept-put i p bytes more h hp f e = record {
    pages = subst (λ (ns : List ℕ). IsPaged (set (set arena p (Some bytes)) p (Some more)) ns (number blank)) (sym (numbers-new i p))
        (IsPaged-put arena numbers (number blank) i p bytes more is.pages h hp f (blank-at i e));
    even = even-set starts i (p * 256) (omega arith) is.even;
    small = is.small;
    start = is.start;
  }

  pub last-kept : (at byte : ℕ) → at / 256 < 256 → get_or starts (at / 256) 0 ≡ blank → size arena ≡ 256
      → kept (with_byte arena (get_or starts (at / 256) 0 / 256) (at % 256) byte) starts 65535 ≡ after_put (kept arena starts blank) at byte
  last-kept at byte h e full =
      ap (λ (n : ℕ). paged (with_byte arena n (at % 256) byte) numbers 256) (sym (index-number (at / 256)))
      ∙ last-is arena numbers (number blank) at byte is.pages h (blank-at (at / 256) e) full

  pub IsKept-last : (i : ℕ) (bytes : List ℕ) → i < 256 → get_or starts i 0 ≡ blank → size arena ≡ 256 → IsKept (set arena (get_or starts i 0 / 256) (Some bytes)) starts 65535
  IsKept-last i bytes h e full = record {
    pages = subst (λ (n : ℕ). IsPaged (set arena n (Some bytes)) numbers 256) (index-number i) (IsPaged-last arena numbers (number blank) i bytes is.pages h (blank-at i e) full);
    even = is.even;
    small = omega arith;
    start = λ ne. absurd (ne refl);
  }

  -- a present page becomes absent
  pub IsKept-drop : (i : ℕ) → i < 256 → blank % 256 ≡ 0 → get_or starts i 0 ≢ blank → IsKept (set arena (get_or starts i 0 / 256) None) (set starts i blank) blank
  IsKept-drop i h page own = record {
    pages = subst (λ (n : ℕ). IsPaged (set arena n None) (map number (set starts i blank)) (number blank)) (index-number i)
        (subst (λ (ns : List ℕ). IsPaged (set arena (get_or numbers i 0) None) ns (number blank)) (sym (numbers-set starts i blank))
        (IsPaged-drop arena numbers (number blank) i is.pages (omega (arith, page, is.small)) h (own-at i h own)));
    even = even-set starts i blank page is.even;
    small = is.small;
    start = is.start;
  }

  pub count-none : blank ≡ 65535 → size arena ≡ size (kept arena starts blank)
  count-none e =
      let none : spare (number blank) ≡ 0 = ap (λ (s : ℕ). spare (number s)) e in
      omega (arith, is.pages.counted, none)

  pub count-one : blank ≢ 65535 → size arena ≡ size (kept arena starts blank) + 1
  count-one ne = omega (arith, is.pages.counted, spare-some (number blank) (omega (arith, is.start ne, is.small)))

pub kept-empty : (arena : Pages) (blank : ℕ) → kept arena (replicate 256 blank) blank ≡ no_pages
kept-empty arena blank = ap (λ (ns : List ℕ). paged arena ns (number blank)) (numbers-same 256 blank) ∙ paged-empty arena (number blank)

pub IsKept-new : (p : ℕ) → p < 256 → IsKept (set no_pages p (Some zeros)) (replicate 256 (p * 256)) (p * 256)
IsKept-new p h = record {
  pages = subst (λ (ns : List ℕ). IsPaged (set no_pages p (Some zeros)) ns (number (p * 256))) (sym (numbers-same 256 (p * 256)))
      (subst (λ (n : ℕ). IsPaged (set no_pages p (Some zeros)) (replicate 256 n) n) (sym (number-start p)) (IsPaged-new p h));
  even = even-same 256 (p * 256) (omega arith);
  small = omega (arith, h);
  start = λ ne. omega arith;
}

-- if all pages are present, that of the index 0 becomes absent, so that there is a blank page again
pub regain-kept : (arena : Pages) (starts : List ℕ) → IsKept arena starts 65535 → size (set arena (get_or starts 0 0 / 256) None) ≡ 256 → ⊥
regain-kept arena starts is full =
    regain-free arena (map number starts) is.pages (ap (λ (n : ℕ). size (set arena n None)) (index-number arena starts 65535 is 0) ∙ full)

pub IsKept-regain : (arena : Pages) (starts : List ℕ) (p : ℕ) → IsKept arena starts 65535 → p < 256 → is_live (set arena (get_or starts 0 0 / 256) None) p ≡ false
    → IsKept (set (set arena (get_or starts 0 0 / 256) None) p (Some zeros)) (set starts 0 (p * 256)) (get_or (set starts 0 (p * 256)) 0 0)
IsKept-regain arena starts p is h f =
    let ns : List ℕ = map number starts in let n : get_or ns 0 0 ≡ get_or starts 0 0 / 256 = index-number arena starts 65535 is 0 in
    let there : 0 < length ns = omega (arith, is.pages.long) in
    let first : 0 < length starts = omega (arith, is.pages.long, length-map starts number) in
    subst (IsKept (set (set arena (get_or starts 0 0 / 256) None) p (Some zeros)) (set starts 0 (p * 256))) (sym (get_or-set_same starts 0 (p * 256) 0 first)) (record {
      pages = subst (λ (q : ℕ). IsPaged (set (set arena q None) p (Some zeros)) (map number (set starts 0 (p * 256))) (number (p * 256))) n
          (subst (λ (ms : List ℕ). IsPaged (set (set arena (get_or ns 0 0) None) p (Some zeros)) ms (number (p * 256))) (sym (numbers-set starts 0 (p * 256) ∙ ap (set ns 0) (number-start p)))
          (subst (λ (b : ℕ). IsPaged (set (set arena (get_or ns 0 0) None) p (Some zeros)) (set ns 0 p) b) (get_or-set_same ns 0 p 0 there ∙ sym (number-start p))
          (IsPaged-regain arena ns p is.pages h (ap (λ (q : ℕ). is_live (set arena q None) p) n ∙ f))));
      even = even-set starts 0 (p * 256) (omega arith) is.even;
      small = omega (arith, h);
      start = λ ne. omega arith;
    })

-- a turn of the loops that release the pages
pub drop-step : (arena : Pages) (starts : List ℕ) (blank n : ℕ) → n < 256 → IsKept arena starts blank → blank % 256 ≡ 0 → get_or starts n 0 ≢ blank → AreBlank starts blank n
    → IsKept (set arena (get_or starts n 0 / 256) None) (set starts n blank) blank × AreBlank (set starts n blank) blank (n + 1)
drop-step arena starts blank n h is page own so_far =
    let long : length starts ≡ 256 = sym (length-map starts number) ∙ is.pages.long in (
      IsKept-drop arena starts blank is n h page own,
      λ i hi. choose (cases_eq i n)
          (λ same. ap (λ (k : ℕ). get_or (set starts n blank) k 0) same ∙ get_or-set_same starts n blank 0 (omega (arith, long, h)))
          (λ ne. get_or-set_other starts n i blank 0 ne ∙ so_far i (upto n i hi ne)),
    )
