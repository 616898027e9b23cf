-- A turn of each loop over the pages.
use Rattle.std.proofs.Common.{◌≡◌, ◌≢◌, ℕ, ◌+◌, ◌<◌, List, [], length, get_or, set, sym, ◌∙◌, ap, subst, arith, Some, None}
use Rattle.std.proofs.lemmas.Bool.{cases_eq, cases_lt}
use Rattle.std.proofs.lemmas.List.{get_or-set_same, set-set, set-get_or, length-replicate, get_or-replicate}
use Rattle.sx_pages.specs.Ownership.{Slot, IsArenaBlock}
use Rattle.sx_pages.specs.Arena.{first, zeroed, AllLinked}
use Rattle.sx_pages.proofs.Slots.{length-page, choose}
use Rattle.sx_pages.proofs.Views.{blend, blend-none, blend-more, blend-all}
use Rattle.sx_pages.proofs.Kept.{first-put, first-other}

abbrev Blocks : Type 0
Blocks = List (List Slot)

pub length-zeroed : length zeroed ≡ 256
unfolding zeroed
length-zeroed = length-replicate {A = Slot} 256 (Some 0)

pub get_or-zeroed : (n : ℕ) → n < 256 → get_or zeroed n None ≡ Some 0
unfolding zeroed
get_or-zeroed n h = get_or-replicate 256 n (Some 0) None h

pub blend-begins : (pages : Blocks) (p : ℕ) (from : List Slot) → pages ≡ set pages p (blend 0 from (get_or pages p []))
blend-begins pages p from = sym (ap (λ (x : List Slot). set pages p x) (blend-none from (get_or pages p [])) ∙ set-get_or pages p [])

pub blend-goes : (old now : Blocks) (p n : ℕ) (from : List Slot) (x : Slot) → IsArenaBlock old → p < 256 → n < 256 → length from ≡ 256 → get_or from n None ≡ x
    → now ≡ set old p (blend n from (get_or old p [])) → set now p (set (get_or now p []) n x) ≡ set old p (blend (n + 1) from (get_or old p []))
blend-goes old now p n from x is hp hn long e is_now =
    let page = get_or old p [] in
    let it : get_or now p [] ≡ blend n from page = ap (λ (ps : Blocks). get_or ps p []) is_now ∙ get_or-set_same old p (blend n from page) [] (omega (arith, is.0, hp)) in
    let more : set (get_or now p []) n x ≡ blend (n + 1) from page =
    (λ i. set (it i) n (sym e i)) ∙ blend-more n from page None (omega (arith, long, hn)) (omega (arith, length-page old p hp is, hn)) in
    (λ i. set (is_now i) p (more i)) ∙ set-set old p (blend n from page) (blend (n + 1) from page)

pub blend-ends : (old : Blocks) (p n : ℕ) (from : List Slot) → IsArenaBlock old → p < 256 → n ≡ 256 → length from ≡ 256
    → set old p (blend n from (get_or old p [])) ≡ set old p from
blend-ends old p n from is hp e long = ap (λ (x : List Slot). set old p x) (blend-all n from (get_or old p []) (long ∙ sym e) (length-page old p hp is ∙ sym e))

below : (page n : ℕ) → page < n + 1 → page ≢ n → page < n
below page n h ne = choose (cases_lt page n) (λ lt. lt) (λ ge. absurd (ne (omega (arith, h, ge))))

pub AllLinked-more : (pages : Blocks) (n next : ℕ) → IsArenaBlock pages → n < 256 → next < 256 → (n < 255 → next ≡ n + 1) → AllLinked pages n
    → AllLinked (set pages n (set (get_or pages n []) 0 (Some next))) (n + 1)
AllLinked-more pages n next is h hn it all page hp = choose (cases_eq page n)
    (λ e. (
      next,
      hn,
      subst (λ (k : ℕ). first (set pages n (set (get_or pages n []) 0 (Some next))) k ≡ Some next)
          (sym e) (first-put pages n next is h),
      λ lt. it (subst (λ (k : ℕ). k < 255) e lt) ∙ ap (λ (k : ℕ). k + 1) (sym e),
    ))
    (λ ne. let old = all page (below page n hp ne) in (old.0, old.1, first-other pages n page _ ne ∙ old.2, old.3))
