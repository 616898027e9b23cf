-- A run of sound code is regular at every moment.
use Rattle.std.proofs.Common.{◌≡◌, ℕ, zero, suc, ◌≤◌, ◌⊎◌, inl, inr, true, List, [], ◌∷◌, length, Option, Some, None, ◌∙◌, subst, refl}
use Rattle.std.specs.Prelude.{slice_get}
use Rattle.std.specs.List.{list_all}
use Rattle.sx_rules.specs.declared.access.Violation.{Violation}
use Rattle.sx_bus.specs.Devices.{HaveSamples}
use Rattle.sx_image.specs.Reach.{Comes, Goes, Stops, Here, Next, Ends}
use Rattle.spec_invocation.specs.Marks.{Mark, HasPrefix}
use Rattle.spec_invocation.specs.Setup.{Call, Setup}
use Rattle.sx_ir.specs.declared.ir.Ir.{Ir}
use Rattle.sx_ir.specs.Conf.{Conf, Halt, Violates, Stuck}
use Rattle.sx_ir.specs.Meaning.{OperationResult, saved, do_at, has_key_mark, no_count, op_step, op_count, part_from, CodeReaches, OnViolation}
use Rattle.sx_ir.specs.Sound.{is_sound_op}
use Rattle.sx_tmpl.specs.Performs.{IsRegular, ReturnsBehind}
use Rattle.sx_tmpl.proofs.Texts.SoundOps.{one_of}
use Rattle.sx_tmpl.specs.Unseen.{SameSlots}
use Rattle.sx_compile.proofs.Spared.{Spares, SparesAfter, keyed_more, same_slots, slots_trans, some_spares}
use Rattle.sx_compile.proofs.Kept.{Kept, KeptAfter, ReturnsFrom, some_kept, prefix_same, prefix_trans}

-- the beginning of a part keeps it
part_kept : (parts : List (ℕ × ℕ)) (h : ℕ) (c : Conf) → KeptAfter c (part_from parts h c)
part_kept [] h c = tt
part_kept (part ∷ parts) zero c = record { marks = prefix_same c.marks; window = refl; room = λ r. r; back = inr refl; samples = λ h. h }
part_kept (part ∷ parts) (suc h) c = part_kept parts h c

-- so are the slots
part_spares : (ends : ℕ) (parts : List (ℕ × ℕ)) (h : ℕ) (c : Conf) → SparesAfter ends c (part_from parts h c)
part_spares ends [] h c = tt
part_spares ends (part ∷ parts) zero c = inr (same_slots ends c.priv)
part_spares ends (part ∷ parts) (suc h) c = part_spares ends parts h c

module _ (s : Setup) (first : List ℕ) (ops : List Ir) (parts : List (ℕ × ℕ)) (n m size : ℕ) (sound : list_all (is_sound_op n m size) ops ≡ true) (call : Call) (all : List Mark) (B : Violation → List Mark
    → Type 0) (Q : Conf → Type 0)
    (at_exit : (t : Conf) → Q t → HasPrefix all t.marks) (at_end : (v : Violation) (marks : List Mark) → B v marks → HasPrefix all marks) where
  -- the next place to return to
  next_back : (c : Conf) (o : Option ℕ) → ReturnsFrom c o → (i : Ir) → slice_get ops c.place ≡ Some i → ReturnsBehind ops c.back → ReturnsBehind ops o
  next_back c None f i e r = tt
  next_back c (Some p) (inl same) i e r = subst (ReturnsBehind ops) same r
  next_back c (Some p) (inr next) i e r = (c.place, i, next, e)

  abbrev HasBack : OperationResult → Type 0
  HasBack (Goes t) = ReturnsBehind ops t.back
  HasBack (Stops v) = Unit {0}

  step_back : (c : Conf) → ReturnsBehind ops c.back → HasBack (op_step s (part_from parts) ops c)
  unfolding op_step
  step_back c r = go (slice_get ops c.place) refl
    where
      of : (i : Ir) → slice_get ops c.place ≡ Some i → (a : OperationResult) → KeptAfter c a → HasBack a
      of i e (Goes t) k = next_back c t.back k.back i e r
      of i e (Stops v) k = tt

      go : (o : Option Ir) → slice_get ops c.place ≡ o → HasBack (do_at s (part_from parts) o c)
      go None e = tt
      go (Some i) e = of i e (do_at s (part_from parts) (Some i) c) (some_kept s (part_from parts) (part_kept parts) n m size i c (one_of (is_sound_op n m size) ops c.place i sound e))

  step_kept : (c : Conf) → KeptAfter c (op_step s (part_from parts) ops c)
  unfolding op_step
  step_kept c = go (slice_get ops c.place) refl
    where
      go : (o : Option Ir) → slice_get ops c.place ≡ o → KeptAfter c (do_at s (part_from parts) o c)
      go None e = tt
      go (Some i) e = some_kept s (part_from parts) (part_kept parts) n m size i c (one_of (is_sound_op n m size) ops c.place i sound e)

  step_spares : (c : Conf) → SparesAfter (length s.ends) c (op_step s (part_from parts) ops c)
  unfolding op_step
  step_spares c = go (slice_get ops c.place) refl
    where
      go : (o : Option Ir) → slice_get ops c.place ≡ o → SparesAfter (length s.ends) c (do_at s (part_from parts) o c)
      go None e = tt
      go (Some i) e = some_spares s (part_from parts) (part_spares (length s.ends) parts) n m size i c (one_of (is_sound_op n m size) ops c.place i sound e)

  -- slots are as at first, or a key was unwrapped
  abbrev HasSlots : Conf → Type 0
  HasSlots c = (has_key_mark c.marks ≡ true) ⊎ SameSlots (length s.ends) first c.priv

  next_slots : (c t : Conf) → HasPrefix t.marks c.marks → HasSlots c → Spares (length s.ends) c t → HasSlots t
  next_slots c t more (inl keyed) kept = inl (subst (λ (l : List Mark). has_key_mark l ≡ true) more.1 (keyed_more c.marks more.0 keyed))
  next_slots c t more (inr same) (inl keyed) = inl keyed
  next_slots c t more (inr same) (inr rest) = inr (slots_trans (length s.ends) first c.priv t.priv same rest)

  -- the run, regular at every moment
  abbrev pub RegularRun : ℕ → Conf → Type 0
  RegularRun k c = Comes Conf Halt (op_step s (part_from parts) ops) (op_count no_count ops) (IsRegular (length s.ends) first ops call all) (OnViolation B) Q k c

  pub runs_regular : (k : ℕ) (c : Conf) → saved c 14 ≡ call.output → length c.stack ≤ 160 → ReturnsBehind ops c.back → HaveSamples c.devices → HasSlots c → CodeReaches s (part_from parts) no_count ops B Q k c
      → HasPrefix all c.marks × RegularRun k c
  runs_regular k c window room back samples slots (Here q) = (at_exit c q, Here q)
  runs_regular k c window room back samples slots (Next {k = j} {t = t} u e le r) =
      let kept : Kept c t = subst (KeptAfter c) e (step_kept c) in
      let rest = runs_regular j t (kept.window ∙ window) (kept.room room) (subst HasBack e (step_back c back)) (kept.samples samples) (next_slots c t kept.marks slots (subst (SparesAfter (length s.ends) c) e (step_spares c))) r in
      let begins = prefix_trans c.marks t.marks all kept.marks rest.0 in
      (begins, Next (record { window = window; marks = begins; room = room; back = back; samples = samples; slots = slots }) e le rest.1)
  runs_regular k c window room back samples slots (Ends {v = v} u e le b) =
      let begins = ended v (subst (KeptAfter c) e (step_kept c)) b in
      (begins, Ends (record { window = window; marks = begins; room = room; back = back; samples = samples; slots = slots }) e le b)
    where
      ended : (v : Halt) → KeptAfter c (Stops v) → OnViolation B c v → HasPrefix all c.marks
      ended (Violates v marks) kept b = prefix_trans c.marks marks all kept (at_end v marks b)
      ended Stuck kept b = absurd b
