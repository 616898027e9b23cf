-- Entries of the ledger.
use Rattle.std.proofs.Common.{◌≡◌, ℕ, ◌⊎◌, inl, inr, ◌==◌, true, false, List, [], ◌∷◌, ◌++◌, refl, sym, ◌∙◌, ap}
use Rattle.std.specs.Prelude.{bytes_eq}
use Rattle.std.proofs.lemmas.Bool.{true≢false, and_parts, eqb-true, or_cases, or_left, or_right, and_from, eq-eqb}
use Rattle.std.proofs.lemmas.Slice.Eq.{bytes_eq-Decides}
use Rattle.std.proofs.lemmas.List.Folds.{list_any-append}
use Rattle.sx_ledger.specs.declared.entry.Maker.{Maker}
use Rattle.sx_ledger.specs.declared.entry.Maker.TheVariants.{Deployer, Module}
use Rattle.spec_run.specs.Ledger.{Made, same_maker, same_entry, is_made}
use Rattle.lemmas.proofs.Texts.{bytes_eq-same}

maker_same : (a b : Maker) → same_maker a b ≡ true → a ≡ b
maker_same Deployer Deployer e = refl
maker_same Deployer (Module m) e = absurd (true≢false (sym e))
maker_same (Module m) Deployer e = absurd (true≢false (sym e))
maker_same (Module m) (Module k) e = ap Module (eqb-true m k e)

pub entry_same : (a b : Made) → same_entry a b ≡ true → a ≡ b
entry_same a b e =
    let p = and_parts (same_maker a.maker b.maker) _ e in
    let q = and_parts (a.target == b.target) _ p.1 in
    let r = and_parts (a.boot == b.boot) _ q.1 in
    let s = and_parts (bytes_eq a.header b.header) (bytes_eq a.body b.body) r.1 in
    ap (λ (z : Maker). record { maker = z; target = a.target; boot = a.boot; header = a.header; body = a.body }) (maker_same a.maker b.maker p.0)
    ∙ ap (λ (z : ℕ). record { maker = b.maker; target = z; boot = a.boot; header = a.header; body = a.body }) (eqb-true a.target b.target q.0)
    ∙ ap (λ (z : ℕ). record { maker = b.maker; target = b.target; boot = z; header = a.header; body = a.body }) (eqb-true a.boot b.boot r.0)
    ∙ ap (λ (z : List ℕ). record { maker = b.maker; target = b.target; boot = b.boot; header = z; body = a.body }) ((bytes_eq-Decides a.header b.header).0 s.0)
    ∙ ap (λ (z : List ℕ). record { maker = b.maker; target = b.target; boot = b.boot; header = b.header; body = z }) ((bytes_eq-Decides a.body b.body).0 s.1)

-- what was made was made in a longer ledger
pub made_before : (list : List Made) (new m : Made) → is_made list m ≡ true → is_made (list ++ new ∷ []) m ≡ true
made_before list new m h = list_any-append (same_entry m) list (new ∷ []) ∙ or_left (is_made list m) (is_made (new ∷ []) m) h

-- an entry of a longer ledger is an old one or the new one
pub made_behind : (ledger : List Made) (new e : Made) → is_made (ledger ++ new ∷ []) e ≡ true → (is_made ledger e ≡ true) ⊎ (e ≡ new)
made_behind [] new e h = elim (or_cases (same_entry e new) false h) [ inl s ↦ inr (entry_same e new s) | inr f ↦ absurd (true≢false (sym f)) ]
made_behind (a ∷ ledger) new e h = elim (or_cases (same_entry e a) (is_made (ledger ++ new ∷ []) e) h) [
  | inl s ↦ inl (or_left (same_entry e a) (is_made ledger e) s)
  | inr r ↦ elim (made_behind ledger new e r) [ inl o ↦ inl (or_right (same_entry e a) (is_made ledger e) o) | inr n ↦ inr n ]
]

-- Entries that were made.

pub same_maker-refl : (a : Maker) → same_maker a a ≡ true
same_maker-refl Deployer = refl
same_maker-refl (Module m) = eq-eqb m m refl

pub same_entry-refl : (e : Made) → same_entry e e ≡ true
same_entry-refl e =
    and_from (same_maker e.maker e.maker) _ (same_maker-refl e.maker)
    (and_from (e.target == e.target) _ (eq-eqb e.target e.target refl)
    (and_from (e.boot == e.boot) _ (eq-eqb e.boot e.boot refl)
    (and_from (bytes_eq e.header e.header) (bytes_eq e.body e.body) (bytes_eq-same e.header) (bytes_eq-same e.body))))

-- what is in the ledger was made
pub made_in : (before after : List Made) (e : Made) → is_made (before ++ e ∷ after) e ≡ true
made_in [] after e = or_left (same_entry e e) (is_made after e) (same_entry-refl e)
made_in (x ∷ before) after e = or_right (same_entry e x) (is_made (before ++ e ∷ after) e) (made_in before after e)
