-- What a block of pages owns and lends: the pages side by side, each of 256 slots, and each slot
-- empty or with a byte. Nobody has to believe it: the pointer is in a private struct, and the
-- checker holds each access against it.
use Rattle.std.specs.Prelude.{◌≡◌, ℕ, List, length, replicate, All, Option, Some, None}
use Rattle.std.specs.Borrow.{full_share, u8}
use base.Fml.{Lft, Fml, ffalse, froom}
use Rattle.std.specs.Coded.{coded_ℕ, coded_list, coded_option}
use mir.Syntax.{Ty, w8, ty_int, ty_array}
use types.SemTy.{SemTy}
use types.Share.{Parts, parts}
use denote.Memory.{part_at, shared_of, each_shared}
use denote.RawPtr.{Ptr, block_ptr, null_ptr}
use denote.Sharing.{nothing, said}

-- room for a byte of a page: empty, or with the byte that was written there
abbrev pub Slot : Type 0
Slot = Option ℕ

-- a page of which nothing is written
unfoldable pub unwritten_page : List Slot
unwritten_page = replicate 256 None

-- n such pages
unfoldable pub unwritten : ℕ → List (List Slot)
unwritten n = replicate n unwritten_page

-- 256 pages of 256 slots
abbrev pub IsArenaBlock : List (List Slot) → Type 0
IsArenaBlock pages = (length pages ≡ 256) × All (λ page. length page ≡ 256) pages

-- a slot at the offset o of the block b is owned, with its byte or as room for one
abbrev pub slot_own : Slot → ℕ → ℕ → Fml
slot_own (Some byte) b o = part_at u8 full_share byte b o
slot_own None b o = froom (ty_int w8) b o

-- a slot as a type that lies in memory
abbrev pub slot : SemTy
slot = record { rep = Slot; coded = coded_option coded_ℕ; size = 1; own_at = slot_own }

-- each part of a page is a slot
abbrev pub in_page : Parts slot
in_page = record { part = λ _. slot_own }

-- a page as a type that lies in memory
abbrev pub page : SemTy
page = record {
  rep = List Slot;
  coded = coded_list (coded_option coded_ℕ);
  size = 256;
  own_at =
      parts slot in_page full_share;
}

-- each part of a block is a page
abbrev pub in_block : Parts page
in_block = record { part = λ _. parts slot in_page full_share }

-- the pages from the offset o of the block b on
abbrev pub pages_own : List (List Slot) → ℕ → ℕ → Fml
pages_own pages b o = parts page in_block full_share pages b o

-- a slot that is lent: a byte that was written can be read
abbrev pub slot_lent : Slot → ℕ → ℕ → Lft → Fml
slot_lent (Some byte) b o = shared_of u8 byte b o
slot_lent None b o = nothing

-- a page that is lent
abbrev pub page_lent : List Slot → ℕ → ℕ → Lft → Fml
page_lent slots b o = each_shared slots slot_lent 1 b o

-- pages that are lent
abbrev pub pages_lent : List (List Slot) → ℕ → ℕ → Lft → Fml
pages_lent pages b o = each_shared pages page_lent 256 b o

-- what a pointer to the pages owns
abbrev pub block_owns : Ptr → List (List Slot) → Fml
block_owns (block_ptr b o) pages = pages_own pages b o
block_owns null_ptr pages = ffalse

-- what a `&` to it lends
abbrev pub block_lends : Ptr → List (List Slot) → Lft → Fml
block_lends (block_ptr b o) pages = pages_lent pages b o
block_lends null_ptr pages = said ffalse

-- the type that the block is allocated for
abbrev pub block_type : Ty
block_type = ty_array (ty_int w8) 65536
