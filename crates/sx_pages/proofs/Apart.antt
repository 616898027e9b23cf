-- Two blocks that are owned at once have no byte in common, as those of an arena and of its copy. Assumes `Logic` and `Model`.
use Rattle.std.proofs.Common.{◌≡◌, ℕ, ◌+◌, ◌*◌, ◌<◌, List, [], ◌∷◌, get_or, refl, arith, None}
use seplogic.Ra.Ura.{Ura}
use base.Logic.{ent, sep, never}
use base.Fml.{froom}
use mir.Syntax.{w8, ty_int}
use prog.Model.{Model}
use types.Logic.{Logic, sem}
use types.Kit.{‵, ◌⊛◌, ◌$◌, ◌∵◌, !, qed, by, move, keep, use1, split, rewrite}
use denote.RawPtr.{block_ptr}
use Rattle.sx_pages.specs.Ownership.{Slot, IsArenaBlock, slot_own, pages_own, block_owns}
use Rattle.sx_pages.proofs.Memory.{Besides, slot_out, slot_room}
use Rattle.sx_pages.proofs.Slots.{length-page}

-- if a byte of the one were a byte of the other, the two couldn't both be owned
pub share_no_byte : {M : Type 1} {𝓤 : Ura M} (𝓛 : Logic 𝓤) (𝓜 : Model 𝓤 𝓛.H) (b o r : ℕ) (ps qs : List (List Slot)) (p at q there : ℕ)
    → IsArenaBlock ps → IsArenaBlock qs → p < 256 → at < 256 → q < 256 → there < 256 → q * 256 + there + r ≡ p * 256 + at + o
    → ent 𝓤 (sep 𝓤 (sem 𝓛 (block_owns (block_ptr b o) ps)) (sem 𝓛 (block_owns (block_ptr b r) qs))) (never 𝓤)
share_no_byte {𝓤 = 𝓤} 𝓛 𝓜 b o r ps qs p at q there is is' hp hat hq hthere same =
    let k = p * 256 + at + o in
    qed 𝓛 (‵ (pages_own ps b o) ∷ ‵ (pages_own qs b r) ∷ []) ∵
    use1 𝓛 (‵ (slot_own (get_or (get_or ps p []) at None) b k) ⊛ ‵ (Besides 𝓛 b ps p at o))
    (slot_out 𝓛 b ps p at o (omega (arith, is.0, hp)) (omega (arith, length-page ps p hp is, hat))) $ split ! $
    use1 𝓛 (‵ (froom (ty_int w8) b k)) (slot_room 𝓛 b (get_or (get_or ps p []) at None) k) $ move ! (2 ∷ []) $
    use1 𝓛 (‵ (slot_own (get_or (get_or qs q []) there None) b (q * 256 + there + r)) ⊛ ‵ (Besides 𝓛 b qs q there r))
    (slot_out 𝓛 b qs q there r (omega (arith, is'.0, hq)) (omega (arith, length-page qs q hq is', hthere))) $ split ! $
    use1 𝓛 (‵ (froom (ty_int w8) b (q * 256 + there + r))) (slot_room 𝓛 b (get_or (get_or qs q []) there None) (q * 256 + there + r)) $
    rewrite ! 0 (λ (n : ℕ). ‵ (froom (ty_int w8) b n)) same refl $ keep ! (0 ∷ 2 ∷ []) $
    by ! (𝓜.room-room (ty_int w8) (ty_int w8) b k k k (omega arith, omega arith) (omega arith, omega arith))
