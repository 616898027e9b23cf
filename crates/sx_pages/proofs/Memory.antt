-- What the walks of the functions on the pointer share. Assumes `Logic`.
--     slot_out, slot_in, slot_seen      one slot is taken out of the pages, put back with a byte, or seen
--     page_seen      the bytes of a page that was written whole are seen
--     of_room, to_room      room for the bytes of n pages is n pages of which nothing is written, and any pages are room
use Rattle.std.proofs.Common.{◌≡◌, ℕ, zero, suc, ◌+◌, ◌*◌, ◌<◌, List, [], ◌∷◌, length, get_or, set, map, replicate, refl, sym, ap, ◌∙◌, arith, Some, None}
use Rattle.std.proofs.lemmas.List.Elements.{All-head, All-tail}
use Rattle.std.specs.Prelude.{All}
use Rattle.std.specs.Borrow.{u8}
use seplogic.Ra.Ura.{Ura}
use base.Fraction.{full_share}
use base.Logic.{ent, sep, id⊢}
use base.Fml.{Lft, Fml, fsep, froom}
use mir.Syntax.{w8, ty_int, ty_array}
use mir.Val.{vint}
use base.Fml.{fat}
use types.Logic.{Logic, sem}
use types.Kit.{‵, ◌⊛◌, ◌$◌, ◌∵◌, !, qed, by, move, keep, use1, use2, split, fsplit, fjoin, rewrite, frame, done}
use denote.Index.{others, takes, puts, place_is, place_byte, place as nth}
use denote.Memory.{part_at, each_shared, shared_of}
use denote.Sharing.{beside}
use denote.Slice.{elements_shared}
use denote.Plain.{uint_out}
use denote.RawPtr.Room.{room_cut, room_glue, past, past_bytes}
use Rattle.sx_pages.specs.Ownership.{Slot, slot_own, in_page, page, in_block, pages_own, slot_lent, page_lent, pages_lent, unwritten_page, unwritten}

-- slots that hold these bytes lend each of them
bytes_lent : (bytes : List ℕ) (b o : ℕ) → page_lent (map Some bytes) b o ≡ elements_shared u8 bytes b o
bytes_lent [] b o = refl
bytes_lent (x ∷ bytes) b o = ap (λ (rest : Lft → Fml). beside (shared_of u8 x b o) rest) (bytes_lent bytes b (o + 1))

pub nth_is : (o p at : ℕ) → nth 1 (nth 256 o p) at ≡ p * 256 + at + o
nth_is o p at = place_byte (nth 256 o p) at ∙ omega (arith, place_is 256 o p)

module _ {M : Type 1} {𝓤 : Ura M} (𝓛 : Logic 𝓤) (b : ℕ) where
  open 𝓛 use {H}

  module _ (pages : List (List Slot)) (p at o : ℕ) where
    abbrev own_page : List Slot
    own_page = get_or pages p []

    -- the pages but for the slot
    abbrev pub Besides : Fml
    Besides = fsep (others in_page full_share own_page at b (nth 256 o p)) (others in_block full_share pages p b o)

    pub slot_out : p < length pages → at < length own_page
        → ent 𝓤 (sem 𝓛 (pages_own pages b o)) (sep 𝓤 (sem 𝓛 (slot_own (get_or own_page at None) b (p * 256 + at + o))) (sem 𝓛 Besides))
    slot_out hp hat = qed 𝓛 (‵ (pages_own pages b o) ∷ []) ∵
        use1 𝓛 (‵ (page.own_at own_page b (nth 256 o p)) ⊛ ‵ (others in_block full_share pages p b o)) (takes in_block full_share 𝓛 pages p [] b o hp) $ split ! $
        use1 𝓛 (‵ (slot_own (get_or own_page at None) b (nth 1 (nth 256 o p) at)) ⊛ ‵ (others in_page full_share own_page at b (nth 256 o p)))
        (takes in_page full_share 𝓛 own_page at None b (nth 256 o p) hat) $ split ! $
        rewrite ! 0 (λ (k : ℕ). ‵ (slot_own (get_or own_page at None) b k)) (nth_is o p at) refl $ frame ! $ fjoin ! $ done !

    pub slot_in : (byte : ℕ) → p < length pages → at < length own_page
        → ent 𝓤 (sep 𝓤 (sem 𝓛 (part_at u8 full_share byte b (p * 256 + at + o))) (sem 𝓛 Besides)) (sem 𝓛 (pages_own (set pages p (set own_page at (Some byte))) b o))
    slot_in byte hp hat = qed 𝓛 (‵ (part_at u8 full_share byte b (p * 256 + at + o)) ∷ ‵ Besides ∷ []) ∵
        rewrite ! 0 (λ (k : ℕ). ‵ (slot_own (Some byte) b k)) (sym (nth_is o p at)) refl $ move ! (1 ∷ []) $ fsplit ! $ move ! (2 ∷ 0 ∷ 1 ∷ []) $
        use2 𝓛 (‵ (page.own_at (set own_page at (Some byte)) b (nth 256 o p))) (puts in_page full_share 𝓛 own_page at (Some byte) b (nth 256 o p) hat) $
        by ! (puts in_block full_share 𝓛 pages p (set own_page at (Some byte)) b o hp)

  pub slot_room : (c : Slot) (o : ℕ) → ent 𝓤 (sem 𝓛 (slot_own c b o)) (H.room (ty_int w8) b o)
  slot_room (Some x) o = qed 𝓛 (‵ (part_at u8 full_share x b o) ∷ []) ∵
      use1 𝓛 (‵ (fat full_share (ty_int w8) b o (vint w8 x))) (uint_out 𝓛 full_share w8 x b o) $ by ! (𝓛.laws.at_room (ty_int w8) b o (vint w8 x))
  slot_room None o = id⊢ 𝓤 _

  of_slots : (m o : ℕ) → ent 𝓤 (H.room (ty_array (ty_int w8) m) b o) (sem 𝓛 (page.own_at (replicate m None) b o))
  of_slots zero o = qed 𝓛 (‵ (froom (ty_array (ty_int w8) 0) b o) ∷ []) ∵ keep ! [] $ done !
  of_slots (suc m) o = qed 𝓛 (‵ (froom (ty_array (ty_int w8) (suc m)) b o) ∷ []) ∵
      use1 𝓛 (‵ (froom (ty_int w8) b o) ⊛ ‵ (froom (ty_array (ty_int w8) m) b (o + 1))) (𝓛.laws.room_uncons (ty_int w8) m b o) $ split ! $ frame ! $ by ! (of_slots m (o + 1))

  pub of_room : (n o : ℕ) → ent 𝓤 (H.room (ty_array (ty_int w8) (n * 256)) b o) (sem 𝓛 (pages_own (unwritten n) b o))
  unfolding unwritten unwritten_page
  of_room zero o = qed 𝓛 (‵ (froom (ty_array (ty_int w8) (0 * 256)) b o) ∷ []) ∵ keep ! [] $ done !
  of_room (suc n) o = qed 𝓛 (‵ (froom (ty_array (ty_int w8) (suc n * 256)) b o) ∷ []) ∵
      rewrite ! 0 (λ (k : ℕ). ‵ (froom (ty_array (ty_int w8) k) b o)) {x = 256 + n * 256} (omega arith) refl $
      use1 𝓛 (‵ (froom (ty_array (ty_int w8) 256) b o) ⊛ ‵ (froom (ty_array (ty_int w8) (n * 256)) b (past (ty_int w8) 256 o))) (room_cut 𝓛 (ty_int w8) 256 (n * 256) b o) $ split ! $
      use1 𝓛 (‵ (page.own_at unwritten_page b o)) (of_slots 256 o) $ frame ! $
      rewrite ! 0 (λ (k : ℕ). ‵ (froom (ty_array (ty_int w8) (n * 256)) b k)) (past_bytes 256 o) refl $ by ! (of_room n (o + 256))

  to_slots : (ps : List Slot) (o : ℕ) → ent 𝓤 (sem 𝓛 (page.own_at ps b o)) (H.room (ty_array (ty_int w8) (length ps)) b o)
  to_slots [] o = 𝓛.laws.room_nil (ty_int w8) b o
  to_slots (c ∷ ps) o = qed 𝓛 (‵ (page.own_at (c ∷ ps) b o) ∷ []) ∵ fsplit ! $
      use1 𝓛 (‵ (froom (ty_int w8) b o)) (slot_room c o) $ move ! (1 ∷ []) $
      use1 𝓛 (‵ (froom (ty_array (ty_int w8) (length ps)) b (o + 1))) (to_slots ps (o + 1)) $ move ! (1 ∷ 0 ∷ []) $ by ! (𝓛.laws.room_cons (ty_int w8) (length ps) b o)

  pub to_room : (pages : List (List Slot)) (o : ℕ) → All (λ page. length page ≡ 256) pages
      → ent 𝓤 (sem 𝓛 (pages_own pages b o)) (H.room (ty_array (ty_int w8) (length pages * 256)) b o)
  to_room [] o all = 𝓛.laws.room_nil (ty_int w8) b o
  to_room (ps ∷ pages) o all = qed 𝓛 (‵ (pages_own (ps ∷ pages) b o) ∷ []) ∵ fsplit ! $
      use1 𝓛 (‵ (froom (ty_array (ty_int w8) (length ps)) b o)) (to_slots ps o) $
      rewrite ! 0 (λ (k : ℕ). ‵ (froom (ty_array (ty_int w8) k) b o)) (All-head (λ page. length page ≡ 256) ps pages all) refl $ move ! (1 ∷ []) $
      use1 𝓛 (‵ (froom (ty_array (ty_int w8) (length pages * 256)) b (o + 256))) (to_room pages (o + 256) (All-tail (λ page. length page ≡ 256) ps pages all)) $
      rewrite ! 0 (λ (k : ℕ). ‵ (froom (ty_array (ty_int w8) (length pages * 256)) b k)) (sym (past_bytes 256 o)) refl $ move ! (1 ∷ 0 ∷ []) $
      use2 𝓛 (‵ (froom (ty_array (ty_int w8) (256 + length pages * 256)) b o)) (room_glue 𝓛 (ty_int w8) 256 (length pages * 256) b o) $
      rewrite ! 0 (λ (k : ℕ). ‵ (froom (ty_array (ty_int w8) k) b o)) {x = length (ps ∷ pages) * 256} (omega arith) refl $ done !

  module _ (κ : Lft) where
    element_seen : {X : Type 0} (s : ℕ) (c : X → ℕ → ℕ → Lft → Fml) (xs : List X) (i : ℕ) (d : X) (o : ℕ) → i < length xs
        → ent 𝓤 (sem 𝓛 (each_shared xs c s b o κ)) (sem 𝓛 (c (get_or xs i d) b (nth s o i) κ))
    element_seen s c [] i d o l = absurd (omega arith)
    element_seen s c (x ∷ xs) zero d o l = qed 𝓛 (‵ (each_shared (x ∷ xs) c s b o κ) ∷ []) ∵ fsplit ! $ keep ! (0 ∷ []) $ done !
    element_seen s c (x ∷ xs) (suc i) d o l = qed 𝓛 (‵ (each_shared (x ∷ xs) c s b o κ) ∷ []) ∵ fsplit ! $ keep ! (1 ∷ []) $ by ! (element_seen s c xs i d (o + s) (omega arith))

    pub slot_seen : (pages : List (List Slot)) (p at o : ℕ) → p < length pages → at < length (get_or pages p [])
        → ent 𝓤 (sem 𝓛 (pages_lent pages b o κ)) (sem 𝓛 (slot_lent (get_or (get_or pages p []) at None) b (p * 256 + at + o) κ))
    slot_seen pages p at o hp hat = qed 𝓛 (‵ (pages_lent pages b o κ) ∷ []) ∵
        use1 𝓛 (‵ (page_lent (get_or pages p []) b (nth 256 o p) κ)) (element_seen 256 page_lent pages p [] o hp) $
        use1 𝓛 (‵ (slot_lent (get_or (get_or pages p []) at None) b (nth 1 (nth 256 o p) at) κ)) (element_seen 1 slot_lent (get_or pages p []) at None (nth 256 o p) hat) $
        rewrite ! 0 (λ (k : ℕ). ‵ (slot_lent (get_or (get_or pages p []) at None) b k κ)) (nth_is o p at) refl $ done !

    pub page_seen : (pages : List (List Slot)) (p o : ℕ) (bytes : List ℕ) → p < length pages → get_or pages p [] ≡ map Some bytes
        → ent 𝓤 (sem 𝓛 (pages_lent pages b o κ)) (sem 𝓛 (elements_shared u8 bytes b (p * 256 + o) κ))
    page_seen pages p o bytes hp is =
        let at : nth 256 o p ≡ p * 256 + o = omega (arith, place_is 256 o p) in
        qed 𝓛 (‵ (pages_lent pages b o κ) ∷ []) ∵
        use1 𝓛 (‵ (page_lent (get_or pages p []) b (nth 256 o p) κ)) (element_seen 256 page_lent pages p [] o hp) $
        rewrite ! 0 (λ (k : ℕ). ‵ (page_lent (get_or pages p []) b k κ)) at refl $
        rewrite ! 0 (λ (slots : List Slot). ‵ (page_lent slots b (p * 256 + o) κ)) is refl $
        rewrite ! 0 (λ (lent : Lft → Fml). ‵ (lent κ)) (bytes_lent bytes b (p * 256 + o)) refl $ done !
