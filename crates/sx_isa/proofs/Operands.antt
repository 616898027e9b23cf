-- Operands and the places where they are, from and back.
use Rattle.std.proofs.Common.{◌≡◌, ℕ, zero, suc, ◌<◌, ◌≤◌, ◌==◌, true, false, [], ◌∷◌, length, take, refl, subst, sym, ◌⊎◌, inl, inr, IsTrue, arith, Some, None, is_some}
use Rattle.std.specs.Prelude.{if◌then◌else◌}
use Rattle.std.proofs.lemmas.Bool.{ne_eqb}
use Rattle.std.proofs.lemmas.Bool.Decides.{nat_tests}
use Rattle.sx_isa.specs.declared.instruction.Operand.{Operand}
use Rattle.sx_isa.specs.declared.instruction.Operand.TheVariants.{Reg, Indexed, Indirect, Increment, Symbolic, Absolute, Immediate, Const}
use Rattle.sx_isa.specs.Spelling.{place_of, at, is_constant}
use Rattle.sx_isa.specs.Legal.{is_value}
use Rattle.sx_isa.specs.Instructions.{IsSource, IsDestination, IsGeneral, IsValuePlace}
use Rattle.sx_isa.specs.Reading.{source_at, destination_at, takes_word}
use Rattle.lemmas.specs.Truth.{truth}

-- a register is one of the three with meanings of their own, or a general one
by_register : (P : ℕ → Type 0) (r : ℕ) → r < 16 → P 0 → P 2 → P 3 →
    (IsGeneral r → (r == 0) ≡ false → (r == 2) ≡ false → (r == 3) ≡ false → P r) → P r
by_register P zero h p0 p2 p3 general = p0
by_register P (suc zero) h p0 p2 p3 general =
    general (omega arith, omega arith, omega arith, omega arith) refl refl refl
by_register P (suc (suc zero)) h p0 p2 p3 general = p2
by_register P (suc (suc (suc zero))) h p0 p2 p3 general = p3
by_register P (suc (suc (suc (suc r)))) h p0 p2 p3 general =
    general (omega arith, omega arith, omega arith, omega arith) (ne_eqb _ _ (omega arith))
    (ne_eqb _ _ (omega arith)) (ne_eqb _ _ (omega arith))

-- what is read at a place is an operand that is there
pub record SourceStands (m x r : ℕ) : Type 0 where
  pub valid : IsSource (source_at r m x)
  pub place : place_of (source_at r m x) ≡ at r m (if takes_word r m then x ∷ [] else [])

pub source_stands : (r m x : ℕ) → r < 16 → m < 4 → x < 65536 → SourceStands m x r
source_stands r zero x h k w =
    by_register (SourceStands 0 x) r h (record { valid = (omega arith, omega arith); place = refl })
    (record { valid = (omega arith, omega arith); place = refl })
    (record { valid = refl; place = refl })
    (λ g e0 e2 e3. record { valid = rw e3 (omega arith, omega arith); place = rw e3 refl })
source_stands r (suc zero) x h k w =
    by_register (SourceStands 1 x) r h (record { valid = w; place = refl })
    (record { valid = w; place = refl }) (record { valid = refl; place = refl })
    (λ g e0 e2 e3. record { valid = rw (e0, e2, e3) (g, w); place = rw (e0, e2, e3) refl })
source_stands r (suc (suc zero)) x h k w =
    by_register (SourceStands 2 x) r h
    (record { valid = (omega arith, omega arith, omega arith); place = refl })
    (record { valid = refl; place = refl }) (record { valid = refl; place = refl })
    (λ g e0 e2 e3. record { valid = rw (e2, e3) (omega arith, omega arith, omega arith); place = rw (e2, e3) refl })
source_stands r (suc (suc (suc zero))) x h k w =
    by_register (SourceStands 3 x) r h (record { valid = w; place = refl })
    (record { valid = refl; place = refl }) (record { valid = refl; place = refl })
    (λ g e0 e2 e3. record { valid = rw (e0, e2, e3) g; place = rw (e0, e2, e3) refl })
source_stands r (suc (suc (suc (suc m)))) x h k w = absurd (omega arith)

-- what is written at a place, if there is something, is there, and R3 in memory is nothing
pub record DestinationStands (m x r : ℕ) (d : Operand) : Type 0 where
  pub valid : IsDestination d
  pub place : place_of d ≡ at r m (if takes_word r m then x ∷ [] else [])

destination_is : (m x r : ℕ) (a d : Operand) → DestinationStands m x r a → Some a ≡ Some d →
    DestinationStands m x r d
destination_is m x r a d s e = let same : a ≡ d = cc in subst (DestinationStands m x r) same s

pub destination_stands : (r m x : ℕ) → r < 16 → m < 2 → x < 65536 → (d : Operand) →
    destination_at r m x ≡ Some d → DestinationStands m x r d
destination_stands r zero x h k w =
    λ d. destination_is 0 x r (Reg r) d (record { valid = h; place = refl })
destination_stands r (suc zero) x h k w =
    by_register (λ r. (d : Operand) → destination_at r 1 x ≡ Some d → DestinationStands 1 x r d) r h
    (λ d. destination_is 1 x 0 (Symbolic x) d (record { valid = w; place = refl }))
    (λ d. destination_is 1 x 2 (Absolute x) d (record { valid = w; place = refl }))
    (λ d e. absurd (cc))
    (λ g e0 e2 e3 d. rw (e0, e2, e3) (destination_is 1 x r (Indexed r x) d (record { valid = (g, w); place = rw e3 refl })))
destination_stands r (suc (suc m)) x h k w = absurd (omega arith)

pub destination_none : (r m x : ℕ) → m < 2 → destination_at r m x ≡ None → (m ≡ 1) × (r ≡ 3)
destination_none r m x h e = (grind (arith, nat_tests), grind (arith, nat_tests))

-- whether it is one, and whether it is a value, doesn't depend on the word that follows
pub destination_some : (r m x y : ℕ) → is_some (destination_at r m x) ≡ is_some (destination_at r m y)
destination_some r m x y = grind (arith, nat_tests)

pub source_value : (r m x y : ℕ) → is_value (source_at r m x) ≡ is_value (source_at r m y)
source_value r m x y = grind (arith, nat_tests)

pub value_place : (r m x : ℕ) → is_value (source_at r m x) ≡ true → m < 4 → IsValuePlace r m
value_place r m x e h = grind (arith, nat_tests)

-- an operand is what is read where it is
pub record SourceBack (a : Operand) : Type 0 where
  pub register : (place_of a).register < 16
  pub mode : (place_of a).mode < 4
  pub count : length (place_of a).words ≡ truth (takes_word (place_of a).register (place_of a).mode)
  pub operand : (x : ℕ) → take (length (place_of a).words) (x ∷ []) ≡ (place_of a).words →
      source_at (place_of a).register (place_of a).mode x ≡ a

constant_cases : (P : ℕ → Type 0) (c : ℕ) → IsTrue (is_constant c) → P 0 → P 1 → P 2 → P 4 → P 8 →
    P 65535 → P c
constant_cases P c h p0 p1 p2 p4 p8 p65535 =
    let cases : (c ≡ 0) ⊎ (c ≡ 1) ⊎ (c ≡ 2) ⊎ (c ≡ 4) ⊎ (c ≡ 8) ⊎ (c ≡ 65535) =
    grind (arith, nat_tests) in
    elim cases [
      | inl e ↦ subst P (sym e) p0
      | inr (inl e) ↦ subst P (sym e) p1
      | inr (inr (inl e)) ↦ subst P (sym e) p2
      | inr (inr (inr (inl e))) ↦ subst P (sym e) p4
      | inr (inr (inr (inr (inl e)))) ↦ subst P (sym e) p8
      | inr (inr (inr (inr (inr e)))) ↦ subst P (sym e) p65535
    ]

pub source_back : (a : Operand) → IsSource a → SourceBack a
source_back (Reg r) h =
    record { register = omega arith; mode = omega arith; count = grind (arith, nat_tests); operand = λ x e. grind (arith, nat_tests) }
source_back (Indexed r y) h =
    record { register = omega arith; mode = omega arith; count = grind (arith, nat_tests); operand = λ x e. (let same : x ≡ y = cc in grind (arith, nat_tests)) }
source_back (Symbolic y) h =
    record { register = omega arith; mode = omega arith; count = refl; operand = λ x e. cc }
source_back (Absolute y) h =
    record { register = omega arith; mode = omega arith; count = refl; operand = λ x e. cc }
source_back (Indirect r) h =
    record { register = omega arith; mode = omega arith; count = grind (arith, nat_tests); operand = λ x e. grind (arith, nat_tests) }
source_back (Increment r) h =
    record { register = omega arith; mode = omega arith; count = grind (arith, nat_tests); operand = λ x e. grind (arith, nat_tests) }
source_back (Immediate y) h =
    record { register = omega arith; mode = omega arith; count = refl; operand = λ x e. cc }
source_back (Const c) h =
    constant_cases (λ c. SourceBack (Const c)) c h
    (record { register = omega arith; mode = omega arith; count = refl; operand = λ x e. refl })
    (record { register = omega arith; mode = omega arith; count = refl; operand = λ x e. refl })
    (record { register = omega arith; mode = omega arith; count = refl; operand = λ x e. refl })
    (record { register = omega arith; mode = omega arith; count = refl; operand = λ x e. refl })
    (record { register = omega arith; mode = omega arith; count = refl; operand = λ x e. refl })
    (record { register = omega arith; mode = omega arith; count = refl; operand = λ x e. refl })

pub record DestinationBack (a : Operand) : Type 0 where
  pub register : (place_of a).register < 16
  pub mode : (place_of a).mode < 2
  pub count : length (place_of a).words ≡ truth (takes_word (place_of a).register (place_of a).mode)
  pub operand : (x : ℕ) → take (length (place_of a).words) (x ∷ []) ≡ (place_of a).words →
      destination_at (place_of a).register (place_of a).mode x ≡ Some a
  pub not_three : (place_of a).mode ≡ 1 → (place_of a).register ≡ 3 → ⊥

pub destination_back : (a : Operand) → IsDestination a → DestinationBack a
destination_back (Reg r) h =
    record { register = h; mode = omega arith; count = grind (arith, nat_tests); operand = λ x e. refl; not_three = λ m e. omega arith }
destination_back (Indexed r y) h =
    record { register = omega arith; mode = omega arith; count = grind (arith, nat_tests); operand = λ x e. (let same : x ≡ y = cc in grind (arith, nat_tests)); not_three = λ m e. omega arith }
destination_back (Symbolic y) h =
    record { register = omega arith; mode = omega arith; count = refl; operand = λ x e. cc; not_three = λ m e. omega arith }
destination_back (Absolute y) h =
    record { register = omega arith; mode = omega arith; count = refl; operand = λ x e. cc; not_three = λ m e. omega arith }
destination_back (Indirect r) h = absurd h
destination_back (Increment r) h = absurd h
destination_back (Immediate y) h = absurd h
destination_back (Const c) h = absurd h

-- an operand has one extension word at most
pub words_few : (a : Operand) → length (place_of a).words ≤ 1
words_few (Reg r) = omega arith
words_few (Indexed r x) = omega arith
words_few (Indirect r) = omega arith
words_few (Increment r) = omega arith
words_few (Symbolic x) = omega arith
words_few (Absolute x) = omega arith
words_few (Immediate x) = omega arith
words_few (Const c) = grind arith
