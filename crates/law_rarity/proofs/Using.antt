-- A run uses few keys, so few tables have a place that it uses.
use Rattle.std.proofs.Common.{◌≡◌, ℕ, zero, suc, ◌+◌, ◌*◌, ◌^◌, ◌<◌, ◌≤◌, ◌==◌, ◌||◌, inl, inr, Bool, true, false, List, [], ◌∷◌, ◌++◌, length, slice_index, Option, Some, None, refl, sym, ◌∙◌, ap, subst, arith}
use Rattle.std.specs.Prelude.{slice_get}
use Rattle.std.proofs.lemmas.Bool.{true≢false, or_parts, or_left, or_right, eq-eqb, cases_eq}
use Rattle.std.proofs.lemmas.List.{length-append}
use Rattle.sx_model.specs.State.{FIELDS}
use Rattle.sx_sched.specs.Lines.{Line}
use Rattle.spec_machine.specs.Memory.{bytes_from}
use Rattle.spec_machine.specs.State.{State}
use Rattle.spec_run.specs.Setting.{Setting}
use Rattle.spec_run.specs.State.{World}
use Rattle.law_isolation.specs.Happening.{Happening, Step}
use Rattle.law_forgery.specs.Moments.{Moment, moment}
use Rattle.law_counting.proofs.Lines.{entry_below}
use Rattle.law_counting.specs.Counting.{IsTable, at, one, count}
use Rattle.law_counting.specs.Processes.{is_in}
use Rattle.law_counting.specs.Meeting.{meets}
use Rattle.law_counting.proofs.Sums.{sum_le}
use Rattle.law_counting.proofs.Meeting.{few_meet}
use Rattle.law_rarity.specs.Places.{AreApart, UsesNoPlace, PlacesRarelyHit}
use Rattle.law_rarity.proofs.Entries.{number, number_of}
use Rattle.law_rarity.proofs.Extending.{moment_before}

-- The 16 bytes that code would use as a key.

abbrev used_by : Option State → List ℕ
used_by None = []
used_by (Some s) = number (bytes_from s.mem (slice_index s.regs 9) 16) ∷ []

abbrev used_at : Happening → World → List ℕ
used_at (Step n) w = used_by (slice_get w.nodes n)
used_at x w = []

abbrev used_in : Option Moment → List ℕ
used_in None = []
used_in (Some now) = used_at now.next now.world

-- before the j-th moment
abbrev used : Setting → List Line → ℕ → List ℕ
used a lines zero = []
used a lines (suc j) = used_in (moment a lines j) ++ used a lines j

used_few : (a : Setting) (lines : List Line) (j : ℕ) → length (used a lines j) ≤ j
used_few a lines zero = omega arith
used_few a lines (suc j) =
    let rest = used_few a lines j in
    let both = length-append (used_in (moment a lines j)) (used a lines j) in
    let first = by (moment a lines j) in
    omega (arith, rest, both, first)
  where
    of : (o : Option State) → length (used_by o) ≤ 1
    of None = omega arith
    of (Some s) = omega arith

    happens : (x : Happening) (w : World) → length (used_at x w) ≤ 1
    happens (Step n) w = of (slice_get w.nodes n)
    happens x w = omega arith

    by : (o : Option Moment) → length (used_in o) ≤ 1
    by None = omega arith
    by (Some now) = happens now.next now.world

in_back : (v : ℕ) (xs ys : List ℕ) → is_in v ys ≡ true → is_in v (xs ++ ys) ≡ true
in_back v [] ys h = h
in_back v (x ∷ xs) ys h = or_right (x == v) (is_in v (xs ++ ys)) (in_back v xs ys h)

in_front : (v : ℕ) (xs ys : List ℕ) → is_in v xs ≡ true → is_in v (xs ++ ys) ≡ true
in_front v [] ys h = absurd (true≢false (sym h))
in_front v (x ∷ xs) ys h = by (x == v) h (in_front v xs ys)
  where
    by : (b : Bool) → (b || is_in v xs) ≡ true → (is_in v xs ≡ true → is_in v (xs ++ ys) ≡ true) → (b || is_in v (xs ++ ys)) ≡ true
    by true h rec = refl
    by false h rec = rec h

used_then : (a : Setting) (lines : List Line) (v k j : ℕ) → k < j → is_in v (used_in (moment a lines k)) ≡ true → is_in v (used a lines j) ≡ true
used_then a lines v k zero lt h = absurd (omega (arith, lt))
used_then a lines v k (suc j) lt h = elim (cases_eq k j) [
  | inl same ↦ in_front v (used_in (moment a lines j)) (used a lines j) (subst (λ (z : ℕ). is_in v (used_in (moment a lines z)) ≡ true) same h)
  | inr ne ↦ in_back v (used_in (moment a lines j)) (used a lines j) (used_then a lines v k j (omega (arith, lt, ne)) h)
]

-- A table that meets none of these values.

no_value : (n w : ℕ) (values t : List ℕ) → IsTable n w t → meets values t ≡ false → (f : ℕ) → f < n → is_in (at t f) values ≡ false
no_value zero w values t table none f lt = absurd (omega (arith, lt))
no_value (suc n) w values [] table none f lt = absurd table
no_value (suc n) w values (v ∷ vs) table none zero lt = (or_parts (is_in v values) (meets (v ∷ values) vs) none).0
no_value (suc n) w values (v ∷ vs) table none (suc f) lt =
    let rest = no_value n w (v ∷ values) vs table.1 (or_parts (is_in v values) (meets (v ∷ values) vs) none).1 f (omega (arith, lt)) in
    (or_parts (v == at vs f) (is_in (at vs f) values) rest).1

none_twice : (n w : ℕ) (values t : List ℕ) → IsTable n w t → meets values t ≡ false → (e f : ℕ) → e < n → f < n → at t e ≡ at t f → e ≡ f
none_twice zero w values t table none e f le lf same = absurd (omega (arith, le))
none_twice (suc n) w values [] table none e f le lf same = absurd table
none_twice (suc n) w values (v ∷ vs) table none e f le lf same = by e f le lf same (λ d g ld lg z. none_twice n w (v ∷ values) vs table.1 rest d g ld lg z)
  where
    rest : meets (v ∷ values) vs ≡ false
    rest = (or_parts (is_in v values) (meets (v ∷ values) vs) none).1

    differs : (g : ℕ) → g < n → v ≡ at vs g → ⊥
    differs g lt same =
        let other = (or_parts (v == at vs g) (is_in (at vs g) values) (no_value n w (v ∷ values) vs table.1 rest g lt)).0 in
        true≢false (sym (eq-eqb v (at vs g) same) ∙ other)

    by : (e f : ℕ) → e < suc n → f < suc n → at (v ∷ vs) e ≡ at (v ∷ vs) f → ((d g : ℕ) → d < n → g < n → at vs d ≡ at vs g → d ≡ g) → e ≡ f
    by zero zero le lf same rec = refl
    by zero (suc g) le lf same rec = absurd (differs g (omega (arith, lf)) same)
    by (suc d) zero le lf same rec = absurd (differs d (omega (arith, le)) (sym same))
    by (suc d) (suc g) le lf same rec = ap suc (rec d g (omega (arith, le)) (omega (arith, lf)) same)

module _ (a : Setting) (lines : List Line) (q : ℕ) (ends : moment a lines q ≡ None) (fields : ℕ) (same : fields ≡ FIELDS) (t : List ℕ) (table : IsTable fields (2 ^ 128) t)
    (none : meets (used a lines q) t ≡ false) where
  apart : AreApart t
  apart e f le lf = none_twice fields (2 ^ 128) (used a lines q) t table none e f (omega (arith, le, same)) (omega (arith, lf, same))

  unused : UsesNoPlace a t lines
  unused k now here before n s next there other = record {
    held = λ row own sec kind read f lt is.
        let key = bytes_from s.mem (slice_index s.regs 9) 16 in
        let low : f < fields = omega (arith, lt, same) in
        let its : number key ≡ at t f = ap number is ∙ number_of (at t f) (entry_below fields (2 ^ 128) t table f low) in
        let in_use : is_in (number key) (used_in (moment a lines k)) ≡ true =
        ap (λ (o : Option Moment). is_in (number key) (used_in o)) here
        ∙ ap (λ (x : Happening). is_in (number key) (used_at x now.world)) next
        ∙ ap (λ (o : Option State). is_in (number key) (used_by o)) there
        ∙ or_left (number key == number key) false (eq-eqb (number key) (number key) refl) in
        true≢false (sym (used_then a lines (number key) k q (moment_before a lines k q now ends here) in_use)
        ∙ ap (λ (v : ℕ). is_in v (used a lines q)) its ∙ no_value fields (2 ^ 128) (used a lines q) t table none f low);
    admitted = λ row new. tt;
  }

-- of any number of fields, so that nothing computes it
of_fields : (fields : ℕ) → fields ≡ FIELDS → (a : Setting) (lines : List Line) (q : ℕ) → moment a lines q ≡ None → (p : List ℕ → Bool)
    → ((t : List ℕ) → IsTable fields (2 ^ 128) t → p t ≡ true → (AreApart t → UsesNoPlace a t lines → ⊥))
    → count fields (2 ^ 128) p * 2 ^ 128 ≤ (q + fields) * fields * (2 ^ 128) ^ fields
of_fields fields same a lines q ends p hits =
    let w : ℕ = 2 ^ 128 in
    let values = used a lines q in
    let met : List ℕ → Bool = λ t. meets values t in
    let less : count fields w p ≤ count fields w met = sum_le fields w (λ t. one (p t)) (λ t. one (met t)) (λ t table. by (p t) (met t) (λ h m. hits t table h (apart a lines q ends fields same t table m) (unused a lines q ends fields same t table m))) in
    let few : count fields w met * w ≤ (length values + fields) * fields * w ^ fields = few_meet fields w values in
    grown w (w ^ fields) (count fields w p) (count fields w met) (length values) q fields less (used_few a lines q) few
  where
    by : (b c : Bool) → (b ≡ true → c ≡ false → ⊥) → one b ≤ one c
    by true true h = omega arith
    by true false h = absurd (h refl refl)
    by false c h = omega arith

    grown : (w s c m l q n : ℕ) → c ≤ m → l ≤ q → m * w ≤ (l + n) * n * s → c * w ≤ (q + n) * n * s
    grown w s c m l q n less few h =
        let a : c * w ≤ m * w = Rattle.std.proofs.lemmas.Nat.mul-le c w m w less (omega arith) in
        let b : (l + n) * n ≤ (q + n) * n = Rattle.std.proofs.lemmas.Nat.mul-le (l + n) n (q + n) n (omega (arith, few)) (omega arith) in
        let d : (l + n) * n * s ≤ (q + n) * n * s = Rattle.std.proofs.lemmas.Nat.mul-le ((l + n) * n) s ((q + n) * n) s b (omega arith) in
        omega (arith, a, d, h)

pub places_rarely_hit : PlacesRarelyHit
places_rarely_hit a lines q ends p hits = of_fields FIELDS refl a lines q ends p hits
