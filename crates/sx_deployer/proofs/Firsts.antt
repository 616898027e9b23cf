-- A connection that no module has stays in its first epoch.
use Rattle.std.proofs.Common.{◌≡◌, ℕ, zero, suc, ◌+◌, ◌<◌, false, List, [], ◌∷◌, length, map, Option, Some, None, get_or, refl, sym, ap, subst, ◌∙◌, arith, replicate}
use Rattle.std.specs.Prelude.{slice_index_or}
use Rattle.std.proofs.lemmas.List.{length-map}
use Rattle.std.proofs.lemmas.Bool.{or_parts}
use Rattle.sx_mean.specs.declared.events.End.{End}
use Rattle.sx_deployer.specs.declared.target.Target.{Target}
use Rattle.sx_deployer.specs.Keeping.{AreFirst, Known, has_link, is_held, known, raised_from, renewed}

zeros : (n c : ℕ) → ◌≡◌ {A = ℕ} (get_or (replicate n 0) c 0) 0
zeros zero c = refl
zeros (suc n) zero = refl
zeros (suc n) (suc c) = zeros n c

-- at the beginning all are
pub first_at_all : (targets : List Known) (n : ℕ) → AreFirst targets (replicate n 0)
first_at_all targets n = λ c h. zeros n c

-- a module has no end of such a connection
not_had : (ts : List Target) (i : ℕ) (t : Target) (c : ℕ) → i < length ts → t ≡ slice_index_or ts i t → is_held (map known ts) c ≡ false → has_link t.ends.items c ≡ false
not_had [] i t c lt e h = absurd (omega (arith, lt))
not_had (s ∷ ts) zero t c lt e h =
    subst (λ (x : Target). has_link x.ends.items c ≡ false) (sym e) (or_parts (has_link s.ends.items c) (is_held (map known ts) c) h).0
not_had (s ∷ ts) (suc i) t c lt e h =
    not_had ts i t c (omega (arith, lt)) e (or_parts (has_link s.ends.items c) (is_held (map known ts) c) h).1

-- a connection that no end is of isn't raised
not_raised : (k c : ℕ) (es : List End) (epochs : List ℕ) → has_link es (k + c) ≡ false → get_or (raised_from k es epochs) c 0 ≡ get_or epochs c 0
not_raised k c es [] h = refl
not_raised k zero es (e ∷ epochs) h =
    let P : ℕ → Type 0 = λ n. has_link es n ≡ false in
    let at : has_link es k ≡ false = subst P (omega arith) h in
    rw at refl
not_raised k (suc c) es (e ∷ epochs) h =
    let P : ℕ → Type 0 = λ n. has_link es n ≡ false in
    not_raised (k + 1) c es epochs (subst P (omega arith) h)

none_renewed : (es : List End) (last : Option ℕ) (epochs : List ℕ) (c : ℕ) → has_link es c ≡ false → get_or (renewed es last epochs) c 0 ≡ get_or epochs c 0
none_renewed es None epochs c h = refl
none_renewed es (Some boot) epochs c h =
    let P : ℕ → Type 0 = λ n. has_link es n ≡ false in
    not_raised 0 c es epochs (subst P (omega arith) h)

-- nor is one that no module has, where a module's connections are renewed
pub first_renewed : (ts : List Target) (i : ℕ) (t : Target) (es : List End) (last : Option ℕ) (epochs next : List ℕ) → i < length ts → t ≡ slice_index_or ts i t
    → es ≡ t.ends.items → next ≡ renewed es last epochs → AreFirst (map known ts) epochs → AreFirst (map known ts) next
first_renewed ts i t es last epochs next lt at had is are =
    λ c h.
    let none : has_link es c ≡ false = subst (λ (xs : List End). has_link xs c ≡ false) (sym had) (not_had ts i t c lt at h) in
    subst (λ (xs : List ℕ). get_or xs c 0 ≡ 0) (sym is) (none_renewed es last epochs c none ∙ are c h)

-- an index of what contracts see of the modules is one of theirs
pub within : (ts : List Target) (seen : List Known) (m i : ℕ) → map known ts ≡ seen → m < length seen → i ≡ m → i < length ts
within ts seen m i e h same =
    let long : length seen ≡ length ts = ap (λ (xs : List Known). length xs) (sym e) ∙ length-map ts known in
    omega (arith, h, same, long)
