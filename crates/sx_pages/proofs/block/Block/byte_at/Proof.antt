-- `byte_at` shows one byte that the pages lend. Assumes `Logic`.
use Rattle.std.proofs.Common.{◌≡◌, ℕ, ◌+◌, ◌*◌, ◌/◌, ◌%◌, ◌<◌, List, [], ◌∷◌, length, get_or, refl, sym, ap, subst, arith, w64, Some, None}
use base.Logic.{ent, sep, never, id⊢}
use base.Fml.{Lft, ftrue, fhide, flft}
use mir.Syntax.{named}
use mir.Val.{Val, vptr}
use seplogic.Ra.Ura.{Ura}
use contract.Monad.{fact}
use contract.Running.{tables}
use types.Logic.{Logic, sem}
use types.Kit.{‵, raw, ◌⊛◌, at_ret, ◌$◌, ◌∵◌, !, qed, done, move, keep, drop, use1, split, join, fsplit, fjoin, feq_i, rewrite, suffices, frame}
use types.Run.{enter, of_opd, bin, load, look, addr, stop, fld, first, blocks, exec, returns}
use types.ByLocal.{alloc_all, pass_all, free_all, look_at, get, through, sets, sets_last, is, env}
use denote.Builtin.{usize, RefOf}
use denote.Exit.{yes}
use denote.Memory.{hidden_shr}
use denote.Opens.{shr_dup, hide, unhide}
use denote.Plain.{uint_vals, uint_Tells}
use denote.RattleType.{RattleType, RowLaws, owns}
use denote.RawPtr.{Ptr, RawPtr, block_of, count_of, InBlock, in_a_block, ptr_row_laws}
use denote.Ref.{ShrRef, shr_vals, shr_Tells}
use denote.Signature.{plain}
use denote.Steps.{nothing, heard}
use denote.Struct.Lending.{lent_out}
use denote.Struct.Owning.{shape}
use denote.Struct.Struct.{Struct, Struct-row_laws}
use denote.Triple.Walked.{Stays, walk_of, says, stay_dropped, Goes-dropped, ends_at}
use Rattle.std.proofs.Words.{pointer_in, pointer_out}
use Rattle.std.proofs.raw_atomic.Walks.{proved}
use Rattle.std.proofs.VecSteps.Shapes.{after}
use Rattle.sx_pages.specs.Ownership.{Slot, slot_lent, block_lends}
use Rattle.sx_pages.proofs.Memory.{slot_seen}
use Rattle.sx_pages.proofs.Slots.{length-page}
use Rattle.sx_pages.specs.contracts.block.Block.byte_at as f
use Rattle.sx_pages.proofs.block.Block.byte_at.Statement.{statement}
use Rattle.sx_pages.proofs.block.Block.byte_at.Code as code
use Rattle.sx_pages.specs.contracts.block.Block as C

abbrev R : RattleType
R = C.the_row

-- the one field that lies in memory
abbrev Words : RattleType
Words = Struct (shape C.the_type)

laws : RowLaws Words
laws = Struct-row_laws (shape C.the_type) (ptr_row_laws, tt)

shows_start : {M : Type 1} {𝓤 : Ura M} (𝓛 : Logic 𝓤) (κ : Lft) (b o : ℕ) (p : Ptr)
    → ent 𝓤 (sem 𝓛 (hidden_shr Words κ (p, tt) b o)) (sep 𝓤 (sem 𝓛 (hidden_shr RawPtr κ p b (o + 0))) (sem 𝓛 (hidden_shr Words κ (p, tt) b o)))
shows_start 𝓛 κ b o p = qed 𝓛 (‵ (hidden_shr Words κ (p, tt) b o) ∷ []) ∵ shr_dup ! Words laws (p, tt) b o κ $ unhide ! $ fsplit ! $ fsplit ! $ hide ! $ keep ! (0 ∷ 3 ∷ []) $ done !

abbrev Self : RattleType
Self = R

abbrev stayed : Stays f.ended.signature.params f.ended.kept
stayed = (stay_dropped (RefOf (0 ∷ []) tt (plain (λ _. R)) (λ _. tt)) yes, (stay_dropped (plain (λ _. usize)) yes, tt))

pub byte_at_spec : {M : Type 1} → statement M
byte_at_spec 𝓤 𝓛 𝓜 𝓡 wired =
    let c = f.clauses 𝓛 𝓜.mem 𝓡.returns in let W = walk_of 𝓛 f.ended stayed c in let 𝓣 = tables 𝓤 𝓛.H 𝓜 𝓡 𝓡.env in
    let number = Goes-dropped 𝓛 1 (plain (λ _. usize)) yes (λ κs x w. refl) in
    proved 𝓛 f.ended stayed c 𝓜 𝓡 (Goes-dropped 𝓛 1 (RefOf (0 ∷ []) tt (plain (λ _. R)) (λ _. tt)) yes (λ κs x w. refl), (number, tt))
    f.Key.name code.function (code.unfolded 𝓤 𝓛.H 𝓜 𝓡 wired)
    (λ κs. (shr_vals, (uint_vals w64, tt))) (λ κs. (shr_Tells (named 0) κs.0 R, (uint_Tells w64, tt))) (λ κs qs bounds a _ are.
    let κ = κs.0 in let b = a.0.ref_ptr.0 in let o = a.0.ref_ptr.1 in let h = a.0.now in let vs = shr_vals a.0 in
    let place = a.1.0 in let p = place / 256 in let at = place % 256 in let sum : p * 256 + at ≡ place = omega arith in
    let y : W.Ghost = ((κs, qs, bounds, a, (vs, (uint_vals w64 place, tt))), tt) in
    let Asked : Type 0 = (place < 65536) × ((byte : ℕ) × (get_or (get_or h.pages p []) at None ≡ Some byte)) in
    qed 𝓛 (((‵ (flft κ qs.0) ⊛ ‵ ftrue) ⊛ ‵ (owns (ShrRef (named 0) κ R ∷ usize ∷ []) a y.0.4)) ∷ raw (fact 𝓤 Asked) ∷ []) ∵
    move ! (1 ∷ []) $ heard ! Asked (λ asked.
    let hp : p < length h.pages = omega (arith, h.shaped.0, asked.0) in
    let hat : at < length (get_or h.pages p []) = omega (arith, length-page h.pages p (omega (arith, asked.0)) h.shaped) in
    split ! $ split ! $ move ! (2 ∷ []) $ fsplit ! $ fsplit ! $ drop ! $ keep ! (0 ∷ 2 ∷ []) $
    enter ! _ _ _ _ _ $ alloc_all ! (λ l. pass_all ! refl ((tt, tt), ((tt, record { fits = are.1.0.1 }), tt)) $
    use1 𝓛 (‵ (hidden_shr Words κ (h.start, tt) b o) ⊛ ‵ (fhide (block_lends h.start h.pages κ)))
    (lent_out 𝓛 C.struct C.the_codes C.the_heap C.the_lent κ h b o) $ split ! $ move ! (1 ∷ []) $ unhide ! $
    in_a_block ! h.start (λ s. block_lends s h.pages κ) (id⊢ 𝓤 (never 𝓤)) (λ b' o' e.
    let k = place + o' in let inb : InBlock h.start = subst InBlock (sym e) tt in
    use1 𝓛 (‵ (slot_lent (get_or (get_or h.pages p []) at None) b' (p * 256 + at + o') κ)) (slot_seen 𝓛 b' κ h.pages p at o' hp hat) $
    rewrite ! 0 (λ (n : ℕ). ‵ (slot_lent (get_or (get_or h.pages p []) at None) b' (n + o') κ)) sum refl $
    rewrite ! 0 (λ (c : Slot). ‵ (slot_lent c b' k κ)) asked.1.1 refl $ hide ! $ move ! (1 ∷ 2 ∷ []) $
    -- [a `&` to the field; the token; a `&` to the byte]
    first ! $ blocks ! $ pointer_in ! tt h.start inb b (o + 0) (shows_start 𝓛 κ b o h.start) (λ q'.
    sets ! (is ! (of_opd ! (load ! (through ! refl (fld ! refl (stop !))) (look ! 1 refl))) (ap (λ (s : Ptr). vptr (block_of s) (count_of s)) e)) refl (tt, tt) $
    pointer_out ! tt h.start inb b (o + 0) $
    sets ! (bin ! (get ! refl) (get ! refl) tt) refl (tt, tt) $
    sets_last ! (addr ! (through ! refl (stop !))) refl (tt, tt) $
    exec ! 𝓣.C 𝓣.Λ (env code.Mir.locals l) (after 1 (code.function).body) (at_ret _ (W.post y)) $
    sets ! (of_opd ! (get ! refl)) refl (tt, tt) $
    move ! (2 ∷ []) $ feq_i ! (List Val) (vptr b' k ∷ []) (vptr b' k ∷ []) refl $ fjoin ! $
    returns ! (look_at ! 0 refl) $ free_all ! refl $ keep ! (1 ∷ 0 ∷ []) $
    suffices ! _ (ends_at 𝓛 f.ended stayed c y (vptr b' k) (record { ref_ptr = (b', k); now = asked.1.0 }) (tt, (tt, tt)) (tt, (tt, tt))) $ says ! asked.1.1 $
    nothing ! $ move ! (1 ∷ 0 ∷ []) $ join ! $ frame ! $ nothing ! $ nothing ! $ fjoin ! $ nothing ! $ fjoin ! $ done !)))))
