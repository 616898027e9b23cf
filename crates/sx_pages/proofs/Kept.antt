-- An arena stays one through its calls.
use Rattle.std.proofs.Common.{◌≡◌, ◌≢◌, ℕ, zero, suc, ◌+◌, ◌-◌, ◌<◌, ◌≤◌, Bool, true, false, List, [], ◌∷◌, length, get_or, set, replicate, refl, sym, ◌∙◌, ap, subst, arith, length-set, Some, None}
use Rattle.std.proofs.lemmas.Bool.{false≢true, cases_eq}
use Rattle.std.proofs.lemmas.List.{get_or-set_same, get_or-set_other, length-replicate}
use Rattle.std.proofs.lemmas.List.Elements.{All-set, All-replicate, All-get_or}
use Rattle.std.specs.Prelude.{All}
use Rattle.sx_pages.specs.Ownership.{Slot, IsArenaBlock}
use Rattle.sx_pages.specs.Arena.{byte_in, HasByte, first, IsChain, IsArena, zeroed, AllLinked, AreCopied}
use Rattle.sx_pages.proofs.Slots.{length-page, choose}
use Rattle.sx_pages.proofs.Views.{count-taken, count-released, count-none}

abbrev Lives : Type 0
Lives = List Bool

abbrev Blocks : Type 0
Blocks = List (List Slot)

apart : (lives : Lives) (p q : ℕ) → get_or lives p false ≡ true → get_or lives q false ≡ false → q ≢ p
apart lives p q t f e = false≢true (sym f ∙ ap (λ (k : ℕ). get_or lives k false) e ∙ t)

pub first-other : (pages : Blocks) (p q : ℕ) (x : List Slot) → q ≢ p → first (set pages p x) q ≡ first pages q
first-other pages p q x ne = ap (λ (page : List Slot). get_or page 0 None) (get_or-set_other pages p q x [] ne)

still : (lives : Lives) (page q : ℕ) → get_or (set lives page true) q false ≡ false → get_or lives q false ≡ false
still [] page q f = refl
still (l ∷ ls) zero zero f = cc
still (l ∷ ls) zero (suc q) f = f
still (l ∷ ls) (suc page) zero f = f
still (l ∷ ls) (suc page) (suc q) f = still ls page q f

-- only the links of pages that aren't live count
chain-same : (lives : Lives) (ps qs : Blocks) (page n : ℕ) → ((q : ℕ) → q < 256 → get_or lives q false ≡ false → first qs q ≡ first ps q)
    → IsChain lives ps page n → IsChain lives qs page n
chain-same lives ps qs page zero same c = tt
chain-same lives ps qs page (suc n) same c =
    (c.0, c.1, c.2, c.3, same page c.0 c.1 ∙ c.4, chain-same (set lives page true) ps qs c.2 n (λ q h f. same q h (still lives page q f)) c.5)

back : (lives : Lives) (p : ℕ) → get_or lives p false ≡ true → set (set lives p false) p true ≡ lives
back [] p e = refl
back (false ∷ ls) zero e = cc
back (true ∷ ls) zero e = refl
back (l ∷ ls) (suc p) e = ap (λ (z : Lives). l ∷ z) (back ls p e)

-- a page is written whole
full-set : (lives : Lives) (pages : Blocks) (p : ℕ) (x : List Slot) → p < length pages → (get_or lives p false ≡ true → All HasByte x)
    → ((q : ℕ) → q < 256 → q ≢ p → get_or lives q false ≡ true → All HasByte (get_or pages q []))
    → (q : ℕ) → q < 256 → get_or lives q false ≡ true → All HasByte (get_or (set pages p x) q [])
full-set lives pages p x hp new old q h t = choose (cases_eq q p)
    (λ e. subst (λ (k : ℕ). All HasByte (get_or (set pages p x) k [])) (sym e) (subst (All HasByte) (sym (get_or-set_same pages p x [] hp)) (new (subst (λ (k : ℕ). get_or lives k false ≡ true) e t))))
    (λ ne. subst (All HasByte) (sym (get_or-set_other pages p q x [] ne)) (old q h ne t))

-- the links stay where no page but one changed
links-set : (lives now : Lives) (pages : Blocks) (p : ℕ) (x : List Slot) → (get_or now p false ≡ false → HasByte (first (set pages p x) p))
    → ((q : ℕ) → q < 256 → get_or lives q false ≡ false → HasByte (first pages q)) → ((q : ℕ) → q ≢ p → get_or now q false ≡ get_or lives q false)
    → (q : ℕ) → q < 256 → get_or now q false ≡ false → HasByte (first (set pages p x) q)
links-set lives now pages p x new old same q h f = choose (cases_eq q p)
    (λ e. subst (λ (k : ℕ). HasByte (first (set pages p x) k)) (sym e) (new (subst (λ (k : ℕ). get_or now k false ≡ false) e f)))
    (λ ne. let it = old q h (sym (same q ne) ∙ f) in (it.0, first-other pages p q x ne ∙ it.1))

pub written : (lives : Lives) (pages : Blocks) (head free p at : ℕ) → IsArenaBlock pages → IsArena lives pages head free → p < 256 → at < 256 → get_or lives p false ≡ true
    → HasByte (get_or (get_or pages p []) at None)
written lives pages head free p at is a hp hat t = All-get_or HasByte (get_or pages p []) at None (omega (arith, length-page pages p hp is, hat)) (a.full p hp t)

pub IsArena-write : (lives : Lives) (pages : Blocks) (head free p at byte : ℕ) → IsArenaBlock pages → IsArena lives pages head free → p < 256 → get_or lives p false ≡ true
    → IsArena lives (set pages p (set (get_or pages p []) at (Some byte))) head free
IsArena-write lives pages head free p at byte is a hp t = record {
  flags = a.flags;
  begins = a.begins;
  links = links-set lives lives pages p _ (λ f. absurd (false≢true (sym f ∙ t))) a.links (λ q ne. refl);
  full = full-set lives pages p _ (omega (arith, is.0, hp)) (λ _. All-set HasByte (get_or pages p []) at (Some byte) (byte, refl) (a.full p hp t)) (λ q h ne. a.full q h);
  chained = chain-same lives pages _ head free (λ q h f. first-other pages p q _ (apart lives p q t f)) a.chained;
  counted = a.counted;
}

pub first-put : (pages : Blocks) (p byte : ℕ) → IsArenaBlock pages → p < 256 → first (set pages p (set (get_or pages p []) 0 (Some byte))) p ≡ Some byte
first-put pages p byte is hp =
    ap (λ (page : List Slot). get_or page 0 None) (get_or-set_same pages p _ [] (omega (arith, is.0, hp)))
    ∙ get_or-set_same (get_or pages p []) 0 (Some byte) None (omega (arith, length-page pages p hp is))

pub IsArena-release : (lives : Lives) (pages : Blocks) (head free p : ℕ) → IsArenaBlock pages → IsArena lives pages head free → p < 256 → get_or lives p false ≡ true
    → IsArena (set lives p false) (set pages p (set (get_or pages p []) 0 (Some head))) p (free + 1)
IsArena-release lives pages head free p is a hp t =
    let new = set pages p (set (get_or pages p []) 0 (Some head)) in
    let gone : get_or (set lives p false) p false ≡ false = get_or-set_same lives p false false (omega (arith, a.flags, hp)) in
    let rest : IsChain (set (set lives p false) p true) new head free = subst (λ (ls : Lives). IsChain ls new head free)
    (sym (back lives p t)) (chain-same lives pages new head free (λ q h f. first-other pages p q _ (apart lives p q t f)) a.chained) in
    let more : suc free ≡ free + 1 = omega arith in
    record {
      flags = length-set lives p false ∙ a.flags;
      begins = hp;
      links = links-set lives (set lives p false) pages p _ (λ _. (head, first-put pages p head is hp)) a.links (λ q ne. get_or-set_other lives p q false false ne);
      full = full-set (set lives p false) pages p _ (omega (arith, is.0, hp)) (λ u. absurd (false≢true (sym gone ∙ u))) (λ q h ne u. a.full q h (sym (get_or-set_other lives p q false false ne) ∙ u));
      chained = subst (λ (n : ℕ). IsChain (set lives p false) new p n) more (hp, gone, head, a.begins, first-put pages p head is hp, rest);
      counted = omega (arith, count-released lives p t, a.counted);
    }

pub positive : (n : ℕ) → (n ≡ 0 → ⊥) → 0 < n
positive zero f = absurd (f refl)
positive (suc n) f = omega arith

pub linked : (lives : Lives) (pages : Blocks) (head free : ℕ) → IsArena lives pages head free → 0 < free → (head < 256) × (get_or lives head false ≡ false) × HasByte (first pages head)
linked lives pages head zero a h = absurd (omega (arith, h))
linked lives pages head (suc n) a h = let c = a.chained in (c.0, c.1, (c.2, c.4))

pub IsArena-take : (lives : Lives) (pages : Blocks) (head free next : ℕ) → IsArenaBlock pages → IsArena lives pages head free → 0 < free → first pages head ≡ Some next
    → IsArena (set lives head true) (set pages head zeroed) next (free - 1)
unfolding zeroed
IsArena-take lives pages head zero next is a h e = absurd (omega (arith, h))
IsArena-take lives pages head (suc n) next is a h e =
    let c = a.chained in
    let now : get_or (set lives head true) head false ≡ true = get_or-set_same lives head true false (omega (arith, a.flags, c.0)) in
    let same : c.2 ≡ next = ap byte_in (sym c.4 ∙ e) in
    let rest : IsChain (set lives head true) (set pages head zeroed) next n = chain-same
    (set lives head true) pages _ next n (λ q h' f. first-other pages head q _ (apart (set lives head true) head q now f))
    (subst (λ (k : ℕ). IsChain (set lives head true) pages k n) same c.5) in
    let less : n ≡ suc n - 1 = omega arith in
    record {
      flags = length-set lives head true ∙ a.flags;
      begins = subst (λ (k : ℕ). k < 256) same c.3;
      links = links-set lives (set lives head true) pages head _ (λ f. absurd (false≢true (sym f ∙ now))) a.links (λ q ne. get_or-set_other lives head q true false ne);
      full = full-set (set lives head true) pages head _ (omega (arith, is.0, c.0))
          (λ _. All-replicate HasByte 256 (Some 0) (0, refl)) (λ q h' ne u. a.full q h' (sym (get_or-set_other lives head q true false ne) ∙ u));
      chained = subst (λ (k : ℕ). IsChain (set lives head true) (set pages head zeroed) next k) less rest;
      counted = omega (arith, count-taken lives head (omega (arith, a.flags, c.0)) c.1, a.counted);
    }

chain-new : (lives : Lives) (pages : Blocks) (h n : ℕ) → h + n ≤ 256 → length lives ≡ 256 → ((q : ℕ) → h ≤ q → get_or lives q false ≡ false) → AllLinked pages 256 → IsChain lives pages h n
chain-new lives pages h zero le long free all = tt
chain-new lives pages h (suc zero) le long free all = let it = all h (omega (arith, le)) in (omega (arith, le), free h (omega arith), it.0, it.1, it.2, tt)
chain-new lives pages h (suc (suc n)) le long free all =
    let it = all h (omega (arith, le)) in (
      omega (arith, le),
      free h (omega arith),
      it.0,
      it.1,
      it.2,
      subst (λ (k : ℕ). IsChain (set lives h true) pages k (suc n)) (sym (it.3 (omega (arith, le))))
          (chain-new (set lives h true) pages (h + 1) (suc n) (omega (arith, le)) (length-set lives h true ∙ long)
          (λ q m. get_or-set_other lives h q true false (λ e. absurd (omega (arith, m, e))) ∙ free q (omega (arith, m))) all),
    )

none-live : (n q : ℕ) → get_or (replicate n false) q false ≡ false
none-live zero q = refl
none-live (suc n) zero = refl
none-live (suc n) (suc q) = none-live n q

pub IsArena-new : (pages : Blocks) → AllLinked pages 256 → IsArena (replicate 256 false) pages 0 256
IsArena-new pages all = record {
  flags = length-replicate 256 false;
  begins = omega arith;
  links = λ q h f. ((all q h).0, (all q h).2);
  full = λ q h t. absurd (false≢true (sym (none-live 256 q) ∙ t));
  chained = chain-new (replicate 256 false) pages 0 256 (omega arith) (length-replicate 256 false) (λ q m. none-live 256 q) all;
  counted = omega (arith, count-none 256);
}

pub IsArena-copy : (lives : Lives) (from to : Blocks) (head free : ℕ) → IsArena lives from head free → AreCopied lives from to 256 → IsArena lives to head free
IsArena-copy lives from to head free a copied = record {
  flags = a.flags;
  begins = a.begins;
  links = λ q h f. ((a.links q h f).0, (copied q h).1 f ∙ (a.links q h f).1);
  full = λ q h t. subst (All HasByte) (sym ((copied q h).0 t)) (a.full q h t);
  chained = chain-same lives from to head free (λ q h f. (copied q h).1 f) a.chained;
  counted = a.counted;
}
