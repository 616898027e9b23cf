-- Tables of sections that differ in their keys alone.
use Rattle.std.proofs.Common.{◌≡◌, ℕ, suc, ◌+◌, Bool, true, false, cond, not, ◌&&◌, ◌||◌, ◌==◌, is_some, List, [], ◌∷◌, ◌++◌, length, Option, Some, None, refl, sym, ◌∙◌, ap, ap₂, subst}
use Rattle.std.specs.List.{list_all, list_any}
use Rattle.sx_rules.specs.declared.access.Access.{Access}
use Rattle.sx_rules.specs.declared.access.Access.TheVariants.{Read, Write, Run}
use Rattle.sx_rules.specs.declared.section.Section.{Section}
use Rattle.sx_rules.specs.declared.section.Layout.{Layout}
use Rattle.sx_rules.specs.Access.{Sections, in_public, in_private, allows, may, holder, outside_private, in_order, extends, section_of}
use Rattle.sx_rules.specs.Admission.{clear_of, good_bounds, parts_apart, no_overlap, no_device, is_full, ids_used, refusal, without}
use Rattle.sx_tag.specs.Mac.{Mac}
use Rattle.spec_machine.specs.Ranges.{meets, meets_private, meets_public}
use Rattle.spec_machine.specs.Step.{is_live, word_outside}
use Rattle.spec_machine.specs.Memory.{even}
use Rattle.spec_machine.proofs.ProtectGuard.{chosen}
use Rattle.law_forgery.specs.Tags.{SameTags}

module _ (mac nac : Mac) where
  -- the sections differ in their keys alone, and no tag tells the keys apart
  abbrev pub LikeSection : Section → Section → Type 0
  LikeSection x y = (y ≡ record x { key = y.key }) × SameTags mac x.key nac y.key

  abbrev pub LikeAll : List Section → List Section → Type 0
  LikeAll [] [] = Unit {0}
  LikeAll [] (y ∷ ys) = ⊥
  LikeAll (x ∷ xs) [] = ⊥
  LikeAll (x ∷ xs) (y ∷ ys) = LikeSection x y × LikeAll xs ys

  abbrev pub LikeFound : Option Section → Option Section → Type 0
  LikeFound None None = Unit {0}
  LikeFound None (Some y) = ⊥
  LikeFound (Some x) None = ⊥
  LikeFound (Some x) (Some y) = LikeSection x y

  -- a test that doesn't look at keys
  abbrev pub Keyless : (Section → Bool) → Type 0
  Keyless test = (x : Section) (k : List ℕ) → test (record x { key = k }) ≡ test x

  pub all_like : (test : Section → Bool) → Keyless test → (xs ys : List Section) → LikeAll xs ys → list_all test ys ≡ list_all test xs
  all_like test f [] [] h = refl
  all_like test f [] (y ∷ ys) h = absurd h
  all_like test f (x ∷ xs) [] h = absurd h
  all_like test f (x ∷ xs) (y ∷ ys) h = ap₂ (λ b c. b && c) (ap test h.0.0 ∙ f x y.key) (all_like test f xs ys h.1)

  pub any_like : (test : Section → Bool) → Keyless test → (xs ys : List Section) → LikeAll xs ys → list_any test ys ≡ list_any test xs
  any_like test f [] [] h = refl
  any_like test f [] (y ∷ ys) h = absurd h
  any_like test f (x ∷ xs) [] h = absurd h
  any_like test f (x ∷ xs) (y ∷ ys) h = ap₂ (λ b c. b || c) (ap test h.0.0 ∙ f x y.key) (any_like test f xs ys h.1)

  allows_like : (own : ℕ) (access : Access) (at : ℕ) → Keyless (allows own access at)
  allows_like own Read at x k = refl
  allows_like own Write at x k = refl
  allows_like own Run at x k = refl

  pub may_like : (xs ys : List Section) (own : ℕ) (access : Access) (at : ℕ) → LikeAll xs ys → may ys own access at ≡ may xs own access at
  unfolding may
  may_like xs ys own access at h = all_like (allows own access at) (allows_like own access at) xs ys h

  pub holder_like : (xs ys : List Section) (at : ℕ) → LikeAll xs ys → holder ys at ≡ holder xs at
  holder_like [] [] at h = refl
  holder_like [] (y ∷ ys) at h = absurd h
  holder_like (x ∷ xs) [] at h = absurd h
  holder_like (x ∷ xs) (y ∷ ys) at h =
      ap (λ (z : Section). cond (in_public z at) z.id (holder ys at)) h.0.0
      ∙ ap (λ (n : ℕ). cond (in_public x at) x.id n) (holder_like xs ys at h.1)

  pub outside_like : (xs ys : List Section) (at : ℕ) → LikeAll xs ys → outside_private ys at ≡ outside_private xs at
  outside_like xs ys at h = all_like (λ s. not (in_private s at)) (λ x k. refl) xs ys h

  pub word_outside_like : (xs ys : List Section) (at : ℕ) → LikeAll xs ys → word_outside ys at ≡ word_outside xs at
  word_outside_like xs ys at h = ap₂ (λ b c. b && c) (outside_like xs ys (even at) h) (outside_like xs ys (even at + 1) h)

  pub in_order_like : (xs ys : List Section) (cur pc : ℕ) → LikeAll xs ys → in_order ys cur pc ≡ in_order xs cur pc
  in_order_like xs ys cur pc h = all_like (λ s. not (in_public s pc) || (cur == s.id || pc == s.layout.pub_from)) (λ x k. refl) xs ys h

  pub extends_like : (xs ys : List Section) (own at : ℕ) → LikeAll xs ys → extends ys own at ≡ extends xs own at
  extends_like xs ys own at h = all_like (λ s. not (in_private s at) && (not (in_public s at) || own == s.id)) (λ x k. refl) xs ys h

  pub meets_private_like : (xs ys : List Section) (at n : ℕ) → LikeAll xs ys → meets_private ys at n ≡ meets_private xs at n
  meets_private_like xs ys at n h = any_like (λ s. meets at n s.layout.priv_from s.layout.priv_to) (λ x k. refl) xs ys h

  pub meets_public_like : (xs ys : List Section) (at n : ℕ) → LikeAll xs ys → meets_public ys at n ≡ meets_public xs at n
  meets_public_like xs ys at n h = any_like (λ s. meets at n s.layout.pub_from s.layout.pub_to) (λ x k. refl) xs ys h

  pub length_like : (xs ys : List Section) → LikeAll xs ys → length ys ≡ length xs
  length_like [] [] h = refl
  length_like [] (y ∷ ys) h = absurd h
  length_like (x ∷ xs) [] h = absurd h
  length_like (x ∷ xs) (y ∷ ys) h = ap suc (length_like xs ys h.1)

  chosen_like : (b : Bool) (x y : Section) (o p : Option Section) → LikeSection x y → LikeFound o p → LikeFound (cond b (Some x) o) (cond b (Some y) p)
  chosen_like true x y o p h g = h
  chosen_like false x y o p h g = g

  pub found_like : (xs ys : List Section) (id : ℕ) → LikeAll xs ys → LikeFound (section_of xs id) (section_of ys id)
  found_like [] [] id h = tt
  found_like [] (y ∷ ys) id h = absurd h
  found_like (x ∷ xs) [] id h = absurd h
  found_like (x ∷ xs) (y ∷ ys) id h =
      subst (λ (i : ℕ). LikeFound (cond (x.id == id) (Some x) (section_of xs id)) (cond (i == id) (Some y) (section_of ys id))) (sym (ap (λ (z : Section). z.id) h.0.0))
      (chosen_like (x.id == id) x y (section_of xs id) (section_of ys id) h.0 (found_like xs ys id h.1))

  some_like : (o p : Option Section) → LikeFound o p → is_some p ≡ is_some o
  some_like None None h = refl
  some_like None (Some y) h = absurd h
  some_like (Some x) None h = absurd h
  some_like (Some x) (Some y) h = refl

  pub live_like : (xs ys : List Section) (id : ℕ) → LikeAll xs ys → is_live ys id ≡ is_live xs id
  live_like xs ys id h = some_like (section_of xs id) (section_of ys id) (found_like xs ys id h)

  pub append_like : (xs ys : List Section) (x y : Section) → LikeAll xs ys → LikeSection x y → LikeAll (xs ++ x ∷ []) (ys ++ y ∷ [])
  append_like [] [] x y h g = (g, tt)
  append_like [] (z ∷ ys) x y h g = absurd h
  append_like (z ∷ xs) [] x y h g = absurd h
  append_like (z ∷ xs) (u ∷ ys) x y h g = (h.0, append_like xs ys x y h.1 g)

  kept_like : (b : Bool) (x y : Section) (xs ys us vs : List Section) → LikeSection x y → LikeAll xs ys → LikeAll us vs → LikeAll (cond b xs (x ∷ us)) (cond b ys (y ∷ vs))
  kept_like true x y xs ys us vs h f g = f
  kept_like false x y xs ys us vs h f g = (h, g)

  pub without_like : (xs ys : List Section) (id : ℕ) → LikeAll xs ys → LikeAll (without xs id) (without ys id)
  without_like [] [] id h = tt
  without_like [] (y ∷ ys) id h = absurd h
  without_like (x ∷ xs) [] id h = absurd h
  without_like (x ∷ xs) (y ∷ ys) id h =
      subst (λ (i : ℕ). LikeAll (cond (x.id == id) xs (x ∷ without xs id)) (cond (i == id) ys (y ∷ without ys id))) (sym (ap (λ (z : Section). z.id) h.0.0))
      (kept_like (x.id == id) x y xs ys (without xs id) (without ys id) h.0 h.1 (without_like xs ys id h.1))

  pub refusal_like : (t u : Sections) (l : Layout) (places : List ℕ) → LikeAll t.live u.live → u.next ≡ t.next → refusal u l places ≡ refusal t l places
  unfolding refusal
  refusal_like t u l places h e =
      let o : no_overlap u.live l ≡ no_overlap t.live l = ap (λ b. parts_apart l && b) (all_like (clear_of l) (λ x k. refl) t.live u.live h) in
      let f : is_full u ≡ is_full t = ap (λ n. Rattle.std.specs.Prelude.nat_le 8 n) (length_like t.live u.live h) in
      let i : ids_used u ≡ ids_used t = ap (λ n. Rattle.std.specs.Prelude.nat_lt 65535 n) e in
      ap (λ b. chosen (good_bounds l) b (no_device places l) (is_full u) (ids_used u)) o
      ∙ ap (λ b. chosen (good_bounds l) (no_overlap t.live l) (no_device places l) b (ids_used u)) f
      ∙ ap (λ b. chosen (good_bounds l) (no_overlap t.live l) (no_device places l) (is_full t) b) i
