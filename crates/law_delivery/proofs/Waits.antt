-- The packets of values that wait: they are there and were made, also after an event, and those that it makes are after them.
use Rattle.std.proofs.Common.{◌≡◌, ℕ, suc, ◌+◌, ◌⊎◌, inl, inr, ◌||◌, Bool, true, false, List, [], ◌∷◌, ◌++◌, length, Some, slice_get, refl, sym, ◌∙◌, ap, subst, arith}
use Rattle.std.proofs.lemmas.List.{append-nil}
use Rattle.sx_ledger.specs.declared.entry.Maker.TheVariants as maker
use Rattle.sx_ledger.specs.Made.{Made, NO_TARGET}
use Rattle.spec_invocation.specs.Acts.{event_header}
use Rattle.spec_invocation.specs.Windows.{two}
use Rattle.spec_run.specs.Setting.{Setting}
use Rattle.spec_run.specs.Ledger.{is_made, made_entry, same_entry}
use Rattle.spec_run.specs.Observation.{sender_of}
use Rattle.spec_run.specs.State.{World}
use Rattle.spec_run.proofs.tie.Lists.{get_before}
use Rattle.spec_run.proofs.tie.Entries.{made_in}
use Rattle.spec_honest.specs.Plain.{Waiting}
use Rattle.spec_honest.specs.Course.{count_over}
use Rattle.law_setup.proofs.forms.Settled.{IsOnItsWay, event_of}
use Rattle.law_delivery.proofs.Making.{entries_for, entry_of, pieces_of}

-- a value of two lists, one after the other, is one of the first or of the second
pub split_two : (xs ys before after : List Waiting) (x : Waiting) → xs ++ ys ≡ before ++ x ∷ after
    → ((rest : List Waiting) × (xs ≡ before ++ x ∷ rest)) ⊎ ((front : List Waiting) × (before ≡ xs ++ front) × (ys ≡ front ++ x ∷ after))
split_two [] ys before after x e = inr (before, refl, e)
split_two (z ∷ xs) ys [] after x e =
    let e2 : z ∷ (xs ++ ys) ≡ x ∷ after = e in
    let h : z ≡ x = cc in
    inl (xs, ap (λ (y : Waiting). y ∷ xs) h)
split_two (z ∷ xs) ys (b ∷ before) after x e =
    let e2 : z ∷ (xs ++ ys) ≡ b ∷ (before ++ x ∷ after) = e in
    let h : z ≡ b = cc in
    let t : xs ++ ys ≡ before ++ x ∷ after = cc in
    elim (split_two xs ys before after x t) [
      | inl r ↦ inl (r.0, ap (λ (y : Waiting). y ∷ xs) h ∙ ap (λ (zs : List Waiting). b ∷ zs) r.1)
      | inr r ↦ inr (r.0, ap (λ (zs : List Waiting). b ∷ zs) r.1 ∙ ap (λ (y : Waiting). y ∷ (xs ++ r.0)) (sym h), r.2)
    ]

-- an entry that was made is made in a longer ledger
made_more : (xs ys : List Made) (e : Made) → is_made xs e ≡ true → is_made (xs ++ ys) e ≡ true
made_more [] ys e h = absurd cc
made_more (x ∷ xs) ys e h = go (same_entry e x) h (λ k. made_more xs ys e k)
  where
    go : (b : Bool) → (b || is_made xs e) ≡ true → (is_made xs e ≡ true → is_made (xs ++ ys) e ≡ true) → (b || is_made (xs ++ ys) e) ≡ true
    go true k more = refl
    go false k more = more k

-- a packet on its way is so in a world with more packets and entries
pub way_kept : (set : Setting) (w v : World) (ps : List (List ℕ)) (es : List Made) (packet link number value : ℕ) → v.packets ≡ w.packets ++ ps → v.ledger ≡ w.ledger ++ es
    → IsOnItsWay set w packet link number value → IsOnItsWay set v packet link number value
way_kept set w v ps es packet link number value packets ledger h =
    let e : Made = made_entry (maker.Module (sender_of set.app link)) NO_TARGET 0 (event_header (record { is_open = true; field = link; number = number; key = [] })) (two value) in
    record {
      stands = ap (λ zs. slice_get zs packet) packets ∙ get_before w.packets ps packet (event_of set link number value) h.stands;
      made = ap (λ (zs : List Made). is_made zs e) ledger ∙ made_more w.ledger es e h.made;
    }

-- the packet of a value among those that an event makes
piece_at : (set : Setting) (all front after : List Waiting) (x : Waiting)
    → slice_get (pieces_of set all (front ++ x ∷ after)) (length front) ≡ Some (event_of set x.link (count_over x.link (all ++ front)) x.value)
piece_at set all [] after x = ap (λ (zs : List Waiting). Some (event_of set x.link (count_over x.link zs) x.value)) (sym (append-nil all))
piece_at set all (w ∷ front) after x =
    piece_at set (all ++ w ∷ []) front after x
    ∙ ap (λ (zs : List Waiting). Some (event_of set x.link (count_over x.link zs) x.value)) (Rattle.std.proofs.Common.append_assoc all (w ∷ []) front)

-- and its entry
entry_at : (m : ℕ) (all front after : List Waiting) (x : Waiting)
    → (before : List Made) × (behind : List Made) × (entries_for m all (front ++ x ∷ after) ≡ before ++ entry_of m (all ++ front) x ∷ behind)
entry_at m all [] after x = ([], entries_for m (all ++ x ∷ []) after, ap (λ (zs : List Waiting). entry_of m zs x ∷ entries_for m (all ++ x ∷ []) after) (sym (append-nil all)))
entry_at m all (w ∷ front) after x =
    let r = entry_at m (all ++ w ∷ []) front after x in (
      entry_of m all w ∷ r.0,
      r.1,
      ap (λ (zs : List Made). entry_of m all w ∷ zs)
          (r.2 ∙ ap (λ (zs : List Waiting). r.0 ++ entry_of m zs x ∷ r.1) (Rattle.std.proofs.Common.append_assoc all (w ∷ []) front)),
    )

get_behind : {X : Type 0} → (xs ys : List X) (i : ℕ) (v : X) → slice_get ys i ≡ Some v → slice_get (xs ++ ys) (length xs + i) ≡ Some v
get_behind [] ys i v h = ap (λ (k : ℕ). slice_get ys k) (Rattle.std.proofs.Common.zero-add i) ∙ h
get_behind (x ∷ xs) ys i v h =
    let n : length (x ∷ xs) + i ≡ suc (length xs + i) = omega arith in
    ap (λ (k : ℕ). slice_get (x ∷ (xs ++ ys)) k) n ∙ get_behind xs ys i v h

-- a value that the m-th module's event sent is on its way
pub way_made : (set : Setting) (w v : World) (m : ℕ) (all front after : List Waiting) (x : Waiting) → v.packets ≡ w.packets ++ pieces_of set all (front ++ x ∷ after)
    → v.ledger ≡ w.ledger ++ entries_for m all (front ++ x ∷ after) → sender_of set.app x.link ≡ m
    → IsOnItsWay set v (length w.packets + length front) x.link (count_over x.link (all ++ front)) x.value
way_made set w v m all front after x packets ledger sender =
    let r = entry_at m all front after x in
    let e = entry_of m (all ++ front) x in
    let there : v.ledger ≡ (w.ledger ++ r.0) ++ e ∷ r.1 = (ledger ∙ ap (λ (zs : List Made). w.ledger ++ zs) r.2 ∙ sym (Rattle.std.proofs.Common.append_assoc w.ledger r.0 (e ∷ r.1))) in
    let made : is_made v.ledger e ≡ true = (ap (λ (zs : List Made). is_made zs e) there ∙ made_in (w.ledger ++ r.0) r.1 e) in
    record {
      stands = ap (λ zs. slice_get zs (length w.packets + length front)) packets
          ∙ get_behind w.packets (pieces_of set all (front ++ x ∷ after)) (length front) (event_of set x.link (count_over x.link (all ++ front)) x.value) (piece_at set all front after x);
      made = subst (λ (j : ℕ). is_made v.ledger (made_entry (maker.Module j) NO_TARGET 0 (event_header
          (record { is_open = true; field = x.link; number = count_over x.link (all ++ front); key = [] })) (two x.value)) ≡ true) (sym sender) made;
    }
