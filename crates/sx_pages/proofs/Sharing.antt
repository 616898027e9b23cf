-- A `&` to a block reaches each byte that is there. Assumes `Logic`.
use Prim.Native.Nat.{ℕ, ◌+◌}
use Rattle.std.specs.Prelude.{List, [], ◌∷◌, Some, None}
use Rattle.std.specs.Borrow.{u8}
use seplogic.Ra.Ura.{Ura}
use base.Fml.{Lft, ftrue, ffalse}
use base.Fraction.{full_share}
use mir.Syntax.{w8}
use types.Logic.{Logic}
use denote.Plain.{uint_row_laws}
use denote.Struct.Laws.{u8-copy}
use denote.Memory.{each_shr_laws}
use denote.RattleType.{RowLaws}
use denote.RawPtr.{Ptr, block_ptr, null_ptr}
use denote.Sharing.{ShrLaws, said}
use denote.SharingLaws.{nothing_shr_laws, said_shr_laws}
use denote.Struct.Lending.{Lends, Lends-both, Lends-nothing, Lends-false}
use Rattle.sx_pages.specs.Ownership.{Slot, slot_own, page, pages_own, slot_lent, page_lent, pages_lent, block_owns, block_lends}

u8_laws : RowLaws u8
u8_laws = uint_row_laws w8

slot_lent_laws : (p : Slot) (b o : ℕ) → ShrLaws (slot_lent p b o)
slot_lent_laws (Some x) b o = u8_laws x b o
slot_lent_laws None b o = nothing_shr_laws

page_lent_laws : (ps : List Slot) (b o : ℕ) → ShrLaws (page_lent ps b o)
page_lent_laws ps b o = each_shr_laws ps slot_lent slot_lent_laws 1 b o

pub block_lends_laws : (p : Ptr) (pages : List (List Slot)) → ShrLaws (block_lends p pages)
block_lends_laws (block_ptr b o) pages = each_shr_laws pages page_lent page_lent_laws 256 b o
block_lends_laws null_ptr pages = said_shr_laws ffalse tt

module _ {M : Type 1} {𝓤 : Ura M} (𝓛 : Logic 𝓤) (l : Lft) where
  Lends-slot : (p : Slot) (b o : ℕ) → Lends 𝓛 (slot_own p b o) (slot_lent p b o) l
  Lends-slot (Some x) b o = λ κ ts. (u8-copy.copied M 𝓤 𝓛).shares full_share l x κ ts b o
  Lends-slot None b o = Lends-nothing 𝓛 (slot_own None b o) l

  Lends-page : (ps : List Slot) (b o : ℕ) → Lends 𝓛 (page.own_at ps b o) (page_lent ps b o) l
  Lends-page [] b o = Lends-nothing 𝓛 ftrue l
  Lends-page (p ∷ ps) b o =
      Lends-both 𝓛 (slot_own p b o) (page.own_at ps b (o + 1)) (slot_lent p b o) (page_lent ps b (o + 1)) l (Lends-slot p b o) (Lends-page ps b (o + 1))

  Lends-pages : (pages : List (List Slot)) (b o : ℕ) → Lends 𝓛 (pages_own pages b o) (pages_lent pages b o) l
  Lends-pages [] b o = Lends-nothing 𝓛 ftrue l
  Lends-pages (p ∷ ps) b o =
      Lends-both 𝓛 (page.own_at p b o) (pages_own ps b (o + 256)) (page_lent p b o) (pages_lent ps b (o + 256)) l (Lends-page p b o) (Lends-pages ps b (o + 256))

  pub Lends-block : (p : Ptr) (pages : List (List Slot)) → Lends 𝓛 (block_owns p pages) (block_lends p pages) l
  Lends-block (block_ptr b o) pages = Lends-pages pages b o
  Lends-block null_ptr pages = Lends-false 𝓛 (said ffalse) l
