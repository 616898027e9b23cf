-- Below 0x0200 nothing is refused, where no section and no device begins there.
use Rattle.std.proofs.Common.{◌≡◌, ℕ, zero, suc, ◌+◌, ◌<◌, ◌≤◌, inl, inr, Bool, true, false, ◌&&◌, ◌||◌, not, ◌==◌, List, [], ◌∷◌, length, Ok, refl, ap, ◌∙◌, arith}
use Rattle.std.specs.Prelude.{nat_lt, nat_le, slice_index, slice_set}
use Rattle.std.specs.List.{list_all}
use Rattle.std.proofs.lemmas.Bool.{and_from, lt-leb, le-ltb, cond-true, and_right}
use Rattle.sx_rules.specs.declared.access.Access.{Access}
use Rattle.sx_rules.specs.declared.access.Access.TheVariants.{Read, Write, Run}
use Rattle.sx_rules.specs.declared.section.Section.{Section}
use Rattle.sx_rules.specs.Access.{Lives, allows, may, in_private, in_public, at_entry}
use Rattle.sx_bus.specs.declared.devices.Window.{Window}
use Rattle.spec_machine.specs.Memory.{bytes_from}
use Rattle.spec_machine.specs.Ranges.{meets}
use Rattle.spec_machine.proofs.BytesFrom.{bytes_first}
use Rattle.spec_invocation.specs.Setup.{Setup}
use Rattle.spec_invocation.specs.Windows.{unless_device, read_byte, write_byte, then_, read_bytes, write_bytes, is_bad_window}
use Rattle.law_invocation.specs.Gives.{IsLowFree, low_end}

abbrev Above : List Section → Type 0
Above live = (x : Section) → Lives live x → (low_end ≤ x.layout.pub_from) × (low_end ≤ x.layout.priv_from)

pub below_from : (from at : ℕ) (rest : Bool) → at < from → (nat_le from at && rest) ≡ false
below_from from at rest lt = ap (λ b. b && rest) (lt-leb from at lt)

pub not_private : (x : Section) (at : ℕ) → at < x.layout.priv_from → in_private x at ≡ false
not_private x at lt = below_from x.layout.priv_from at (nat_lt at x.layout.priv_to) lt

pub not_public : (x : Section) (at : ℕ) → at < x.layout.pub_from → in_public x at ≡ false
not_public x at lt = below_from x.layout.pub_from at (nat_lt at x.layout.pub_to) lt

-- what a section says where neither of its parts lies
allowed : (own : ℕ) (access : Access) (at : ℕ) (x : Section) → at < x.layout.pub_from → at < x.layout.priv_from → allows own access at x ≡ true
allowed own Read at x a b = ap (λ c. not c || (own == x.id)) (not_private x at b)
allowed own Write at x a b = ap (λ c. not c && (not (in_private x at) || (own == x.id))) (not_public x at a) ∙ ap (λ c. not c || (own == x.id)) (not_private x at b)
allowed own Run at x a b = ap (λ c. not c && (not (in_public x at) || ((own == x.id) || at_entry x at))) (not_private x at b) ∙ ap (λ c. not c || ((own == x.id) || at_entry x at)) (not_public x at a)

pub may_low : (live : List Section) (own : ℕ) (access : Access) (at : ℕ) → at < low_end → Above live → may live own access at ≡ true
unfolding may
may_low [] own access at lt h = refl
may_low (x ∷ live) own access at lt h =
    let a = h x (inl refl) in
    and_from (allows own access at x) (list_all (allows own access at) live)
    (allowed own access at x (omega (arith, lt, a.0)) (omega (arith, lt, a.1)))
    (may_low live own access at lt (λ y l. h y (inr l)))

module _ (su : Setup) (devices : List Window) (low : IsLowFree su devices) where
  read_low : (mem : List ℕ) (at : ℕ) → at < low_end → read_byte su devices mem at ≡ Ok (slice_index mem at)
  unfolding read_byte
  read_low mem at lt =
      cond-true _ _ _ (may_low su.live su.section.id Read at lt low.sections)
      ∙ ap (λ o. unless_device o (slice_index mem at)) (low.free at lt)

  written_low : (mem : List ℕ) (at b : ℕ) → at < low_end → write_byte su devices mem at b ≡ Ok (slice_set mem at b)
  unfolding write_byte
  written_low mem at b lt =
      cond-true _ _ _ (may_low su.live su.section.id Write at lt low.sections)
      ∙ ap (λ o. unless_device o (slice_set mem at b)) (low.free at lt)

  pub read_all : (mem : List ℕ) (at n : ℕ) → at + n ≤ low_end → read_bytes su devices mem at n ≡ Ok (bytes_from mem at n)
  unfolding read_bytes bytes_from
  read_all mem at zero le = refl
  read_all mem at (suc n) le =
      ap (λ r. then_ r (λ b. then_ (read_bytes su devices mem (at + 1) n) (λ bs. Ok (b ∷ bs)))) (read_low mem at (omega (arith, le)))
      ∙ ap (λ r. then_ r (λ bs. Ok (slice_index mem at ∷ bs))) (read_all mem (at + 1) n (omega (arith, le)))
      ∙ ap (λ bs. Ok bs) (bytes_first mem at n)

  pub write_all : (mem : List ℕ) (at : ℕ) (bs : List ℕ) → at + length bs ≤ low_end → (new : List ℕ) × (write_bytes su devices mem at bs ≡ Ok new)
  unfolding write_bytes
  write_all mem at [] le = (mem, refl)
  write_all mem at (b ∷ bs) le =
      let r = write_all (slice_set mem at b) (at + 1) bs (omega (arith, le)) in
      (r.0, ap (λ r. then_ r (λ m. write_bytes su devices m (at + 1) bs)) (written_low mem at b (omega (arith, le))) ∙ r.1)

  own_above : (low_end ≤ su.section.layout.pub_from) × (low_end ≤ su.section.layout.priv_from)
  own_above = low.sections su.section low.lives

  -- the return address 0 isn't inside
  pub returns_outside : in_public su.section 0 ≡ false
  returns_outside = not_public su.section 0 (let a = own_above.0 in omega (arith, a))

  -- a window that ends below 0x0200 is fine
  pub good_window : (at n : ℕ) → at + n ≤ low_end → is_bad_window su at n ≡ false
  good_window at n le =
      let l = su.section.layout in
      let a = own_above.1 in
      ap (λ b. b || meets at n l.priv_from l.priv_to) (le-ltb 65536 (at + n) (omega (arith, le)))
      ∙ ap (λ b. nat_lt 0 n && (nat_lt at l.priv_to && b)) (le-ltb l.priv_from (at + n) (omega (arith, le, a))) ∙ and_right (nat_lt 0 n) (nat_lt at l.priv_to && false) (and_right (nat_lt at l.priv_to) false refl)
