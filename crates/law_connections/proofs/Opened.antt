-- What outside code may read is in the open; tables of sections that differ in keys.
use Rattle.std.proofs.Common.{◌≡◌, ◌≢◌, ℕ, zero, suc, ◌+◌, ◌<◌, ◌≤◌, Bool, true, false, cond, not, ◌&&◌, ◌||◌, ◌==◌, inl, inr, List, [], ◌∷◌, ◌++◌}
use Rattle.std.proofs.Common.{Option, Some, None, refl, sym, ◌∙◌, ap, subst, arith}
use Rattle.std.proofs.lemmas.Bool.{and_parts, cases_lt, not-true}
use Rattle.sx_rules.specs.declared.access.Access.TheVariants.{Read}
use Rattle.sx_rules.specs.declared.section.Section.{Section}
use Rattle.sx_rules.specs.Access.{may, extends, in_private, in_public, Lives, section_of, outside_private}
use Rattle.sx_rules.specs.Admission.{without}
use Rattle.sx_tag.specs.Mac.{Mac}
use Rattle.spec_machine.specs.Memory.{even}
use Rattle.spec_machine.specs.Run.{may_at, may_range}
use Rattle.spec_machine.proofs.PlanGuard.{passes, barred}
use Rattle.sx_tmpl.proofs.Agreeing.{AtPlaces}
use Rattle.law_connections.proofs.Outside.{Unhidden, SameSection, SameSections}
use Rattle.law_forgery.proofs.Tables.{LikeAll}

-- Code that belongs to none of the sections that hide.

-- code of `own` is of no section that hides
abbrev pub IsOutsider : (Section → Bool) → List Section → ℕ → Type 0
IsOutsider hides live own = (x : Section) → Lives live x → hides x ≡ true → own ≢ x.id

module _ (hides : Section → Bool) (live : List Section) (own : ℕ) (outsider : IsOutsider hides live own) where
  pub readable_open : (at : ℕ) → may live own Read at ≡ true → Unhidden hides live at
  readable_open at h x l e = barred live own Read at x l (outsider x l e) h

  pub readable_places : (wide : Bool) (at : ℕ) → may_at wide live own Read at ≡ true → AtPlaces (Unhidden hides live) wide at
  readable_places true at h =
      let p = and_parts (may live own Read (even at)) (may live own Read (even at + 1)) h in
      (readable_open (even at) p.0, readable_open (even at + 1) p.1)
  readable_places false at h = readable_open at h

  pub range_open : (at n : ℕ) → may_range live own Read at n ≡ true → (k : ℕ) → at ≤ k → k < at + n → Unhidden hides live k
  range_open at zero h k a b = absurd (omega arith)
  range_open at (suc n) h k a b =
      let p = and_parts (may live own Read (at + n)) (may_range live own Read at n) h in
      elim (cases_lt k (at + n)) [
        | inl lt ↦ range_open at n p.1 k a lt
        | inr ge ↦ let e : at + n ≡ k = omega arith in
            subst (λ (j : ℕ). Unhidden hides live j) e (readable_open (at + n) p.0)
      ]

  pub extends_open : (at : ℕ) → extends live own at ≡ true → Unhidden hides live at
  extends_open at h x l e =
      let p = passes (λ u. not (in_private u at) && (not (in_public u at) || own == u.id)) live x l h in
      not-true (in_private x at) (and_parts (not (in_private x at)) (not (in_public x at) || own == x.id) p).0

pub outside_open : (hides : Section → Bool) (live : List Section) (at : ℕ) → outside_private live at ≡ true → Unhidden hides live at
outside_open hides live at h x l e = not-true (in_private x at) (passes (λ u. not (in_private u at)) live x l h)

-- Tables.

-- a tag function of no tags
abbrev pub blank_mac : Mac
blank_mac key message = []

module _ (mac nac : Mac) where
  abbrev pub SameFound : (Section → Bool) → Option Section → Option Section → Type 0
  SameFound hides None None = Unit {0}
  SameFound hides None (Some y) = ⊥
  SameFound hides (Some x) None = ⊥
  SameFound hides (Some x) (Some y) = SameSection mac nac hides x y

  -- tables that differ in keys
  pub blank_all : (hides : Section → Bool) (xs ys : List Section) → SameSections mac nac hides xs ys → LikeAll blank_mac blank_mac xs ys
  blank_all hides [] [] h = tt
  blank_all hides [] (y ∷ ys) h = absurd h
  blank_all hides (x ∷ xs) [] h = absurd h
  blank_all hides (x ∷ xs) (y ∷ ys) h = ((h.0.0, λ kind rest ne. refl), blank_all hides xs ys h.1)

  -- the same where what hides is the same
  pub same_hides : (hides hidet : Section → Bool) (xs ys : List Section) → ((x : Section) → Lives xs x → hidet x ≡ hides x) → SameSections mac nac hides xs ys → SameSections mac nac hidet xs ys
  same_hides hides hidet [] [] f h = tt
  same_hides hides hidet [] (y ∷ ys) f h = absurd h
  same_hides hides hidet (x ∷ xs) [] f h = absurd h
  same_hides hides hidet (x ∷ xs) (y ∷ ys) f h =
      ((h.0.0, λ e. h.0.1 (sym (f x (inl refl)) ∙ e)), same_hides hides hidet xs ys (λ z l. f z (inr l)) h.1)

  chosen_same : (hides : Section → Bool) (b : Bool) (x y : Section) (o p : Option Section) → SameSection mac nac hides x y → SameFound hides o p
      → SameFound hides (cond b (Some x) o) (cond b (Some y) p)
  chosen_same hides true x y o p h g = h
  chosen_same hides false x y o p h g = g

  pub found_same : (hides : Section → Bool) (xs ys : List Section) (id : ℕ) → SameSections mac nac hides xs ys → SameFound hides (section_of xs id) (section_of ys id)
  found_same hides [] [] id h = tt
  found_same hides [] (y ∷ ys) id h = absurd h
  found_same hides (x ∷ xs) [] id h = absurd h
  found_same hides (x ∷ xs) (y ∷ ys) id h =
      subst (λ (i : ℕ). SameFound hides (cond (x.id == id) (Some x) (section_of xs id)) (cond (i == id) (Some y) (section_of ys id))) (sym (ap (λ (z : Section). z.id) h.0.0))
      (chosen_same hides (x.id == id) x y (section_of xs id) (section_of ys id) h.0 (found_same hides xs ys id h.1))

  pub append_same : (hides : Section → Bool) (xs ys : List Section) (x y : Section) → SameSections mac nac hides xs ys → SameSection mac nac hides x y
      → SameSections mac nac hides (xs ++ x ∷ []) (ys ++ y ∷ [])
  append_same hides [] [] x y h g = (g, tt)
  append_same hides [] (z ∷ ys) x y h g = absurd h
  append_same hides (z ∷ xs) [] x y h g = absurd h
  append_same hides (z ∷ xs) (u ∷ ys) x y h g = (h.0, append_same hides xs ys x y h.1 g)

  kept_same : (hides : Section → Bool) (b : Bool) (x y : Section) (xs ys us vs : List Section) → SameSection mac nac hides x y → SameSections mac nac hides xs ys → SameSections mac nac hides us vs
      → SameSections mac nac hides (cond b xs (x ∷ us)) (cond b ys (y ∷ vs))
  kept_same hides true x y xs ys us vs h f g = f
  kept_same hides false x y xs ys us vs h f g = (h, g)

  pub without_same : (hides : Section → Bool) (xs ys : List Section) (id : ℕ) → SameSections mac nac hides xs ys → SameSections mac nac hides (without xs id) (without ys id)
  without_same hides [] [] id h = tt
  without_same hides [] (y ∷ ys) id h = absurd h
  without_same hides (x ∷ xs) [] id h = absurd h
  without_same hides (x ∷ xs) (y ∷ ys) id h =
      subst (λ (i : ℕ). SameSections mac nac hides (cond (x.id == id) xs (x ∷ without xs id)) (cond (i == id) ys (y ∷ without ys id))) (sym (ap (λ (z : Section). z.id) h.0.0))
      (kept_same hides (x.id == id) x y xs ys (without xs id) (without ys id) h.0 h.1 (without_same hides xs ys id h.1))
