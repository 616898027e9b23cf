-- The set of the ledger's entries holds what was made.
use Rattle.std.proofs.Common.{◌≡◌, ℕ, inl, inr, ◌-◌, true, Result, Ok, Err, OnOk, List, [], ◌∷◌, ◌++◌, length, take, replicate, sym, subst, ap, ◌∙◌}
use Rattle.std.specs.List.{Contains}
use Rattle.std.proofs.Math.Seq.{take-append_seam}
use Rattle.sx_ledger.specs.declared.entry.Entry.{Entry}
use Rattle.sx_ledger.specs.Made.{Made}
use Rattle.sx_ledger.specs.Entries.{entry_of, made_of, AddsEntry}
use Rattle.spec_run.specs.Ledger.{is_made}
use Rattle.sx_observe.specs.Observing.{IsShort, Records}
use Rattle.spec_run.proofs.tie.Entries.{made_before, made_behind, made_in}

tells : (m : Made) → made_of (entry_of m) ≡ m
tells m =
    let made : List ℕ → List ℕ → Made = λ h b. record { maker = m.maker; target = m.target; boot = m.boot; header = h; body = b } in
    ap (λ h. made h (take (length m.body) (m.body ++ replicate (32 - length m.body) 0))) (take-append_seam m.header (replicate (32 - length m.header) 0))
    ∙ ap (λ b. made m.header b) (take-append_seam m.body (replicate (32 - length m.body) 0))

one_entry : (a b : Made) → entry_of a ≡ entry_of b → a ≡ b
one_entry a b e = sym (tells a) ∙ ap made_of e ∙ tells b

-- the set after the making of an entry
pub recorded : (old new : List Entry) (list : List Made) (m : Made) → AddsEntry old new (entry_of m) → Records old list → Records new (list ++ m ∷ [])
recorded old new list m adds h = λ e short. (there e short, back e short)
  where
    there : (e : Made) → IsShort e → Contains new (entry_of e) → is_made (list ++ m ∷ []) e ≡ true
    there e short c = elim ((adds (entry_of e)).0 c) [
      | inl o ↦ made_before list m e ((h e short).0 o)
      | inr s ↦ subst (λ x. is_made (list ++ m ∷ []) x ≡ true) (sym (one_entry e m s)) (made_in list [] m)
    ]

    back : (e : Made) → IsShort e → is_made (list ++ m ∷ []) e ≡ true → Contains new (entry_of e)
    back e short t = elim (made_behind list m e t) [
      | inl o ↦ (adds (entry_of e)).1 (inl ((h e short).1 o))
      | inr s ↦ (adds (entry_of e)).1 (inr (ap entry_of s))
    ]

-- so it is where the entry found memory
pub recorded_ok : {X E : Type 0} (r : Result X E) (old new : List Entry) (m : Made) (e : Entry) → e ≡ entry_of m → OnOk r (AddsEntry old new e)
    → OnOk r ((list : List Made) → Records old list → Records new (list ++ m ∷ []))
recorded_ok (Ok x) old new m e same adds = λ list h. recorded old new list m (subst (λ z. AddsEntry old new z) same adds) h
recorded_ok (Err x) old new m e same adds = tt
