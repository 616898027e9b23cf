-- `put_two_at` writes two slots, one after the other. Assumes `Logic`.
use Rattle.std.proofs.Common.{◌≡◌, ℕ, ◌+◌, ◌*◌, ◌/◌, ◌%◌, ◌<◌, List, [], ◌∷◌, length, get_or, set, refl, sym, ap, ◌∙◌, arith, w8, w64, Some, None}
use base.Fraction.{full_share}
use base.Logic.{id⊢}
use base.Fml.{ftrue, flft, froom}
use mir.Syntax.{ty_int, named}
use mir.Val.{Val, vunit}
use contract.Monad.{fact}
use contract.Running.{tables}
use types.Kit.{‵, raw, ◌⊛◌, at_ret, ◌$◌, ◌∵◌, !, qed, done, move, keep, use1, use2, split, join, fsplit, fsplit3, fjoin, feq_i, rewrite, suffices, frame, group}
use types.Part.{whole, sub, look_in}
use types.Run.{enter, of_opd, bin, load, unit_lit, init, stop, fld, assigns, assigns_last, lit, first, blocks, exec, returns}
use types.ByLocal.{alloc_all, pass_all, free_all, look_at, get, through, sets, env}
use denote.Builtin.{u8, usize}
use denote.Exit.{yes}
use denote.Laws.{shows}
use denote.Memory.{part_at, cell_at}
use denote.Plain.{uint_in, uint_vals, uint_Tells}
use denote.RawPtr.{Ptr, in_a_block}
use denote.RattleType.{owns}
use denote.Ref.{MutRef, mut_vals, mut_Tells}
use denote.Signature.{plain}
use denote.Steps.{nothing, heard, opens, closes, peeks}
use denote.Triple.Walked.{Stays, walk_of, says, stay_ref, stay_dropped, Goes-ref, Goes-dropped, ends_at}
use Rattle.std.proofs.raw_atomic.Walks.{proved}
use Rattle.std.proofs.VecSteps.Shapes.{after}
use Rattle.sx_pages.specs.Ownership.{slot_own, pages_own, block_owns}
use Rattle.sx_pages.proofs.Memory.{Besides, slot_out, slot_room, slot_in}
use Rattle.sx_pages.proofs.Slots.{length-page, IsArenaBlock-set}
use Rattle.sx_pages.specs.contracts.block.Block.put_two_at as f
use Rattle.sx_pages.proofs.block.Block.put_two_at.Statement.{statement}
use Rattle.sx_pages.proofs.block.Block.put_two_at.Code as code
use Rattle.sx_pages.specs.contracts.block.Block.{the_row as R}
use Rattle.sx_pages.proofs.block.Block.TheLaws.{lowers}

abbrev stayed : Stays f.ended.signature.params f.ended.kept
stayed = (stay_ref (0 ∷ []) tt (plain (λ _. R)), (stay_dropped (plain (λ _. usize)) yes, (stay_dropped (plain (λ _. u8)) yes, (stay_dropped (plain (λ _. u8)) yes, tt))))

pub put_two_at_spec : {M : Type 1} → statement M
put_two_at_spec 𝓤 𝓛 𝓜 𝓡 wired =
    let c = f.clauses 𝓛 𝓜.mem 𝓡.returns in let W = walk_of 𝓛 f.ended stayed c in let 𝓣 = tables 𝓤 𝓛.H 𝓜 𝓡 𝓡.env in
    let number = Goes-dropped 𝓛 1 (plain (λ _. usize)) yes (λ κs x w. refl) in let octet = Goes-dropped 𝓛 1 (plain (λ _. u8)) yes (λ κs x w. refl) in
    proved 𝓛 f.ended stayed c 𝓜 𝓡 (Goes-ref 𝓛 1 0 tt (plain (λ _. R)), (number, (octet, (octet, tt))))
    f.Key.name code.function (code.unfolded 𝓤 𝓛.H 𝓜 𝓡 wired)
    (λ κs. (mut_vals, (uint_vals w64, (uint_vals w8, (uint_vals w8, tt))))) (λ κs. (mut_Tells (named 0) κs.0 R, (uint_Tells w64, (uint_Tells w8, (uint_Tells w8, tt))))) (λ κs qs bounds a _ are.
    let b = a.0.ref_ptr.0 in let o = a.0.ref_ptr.1 in let h = a.0.now in let vs = mut_vals a.0 in
    let place = a.1.0 in let p = place / 256 in let at = place % 256 in let low = a.1.1.0 in let sum : p * 256 + at ≡ place = omega arith in
    let next = place + 1 in let p' = next / 256 in let at' = next % 256 in let high = a.1.1.1.0 in let sum' : p' * 256 + at' ≡ next = omega arith in
    let y : W.Ghost = ((κs, qs, bounds, a, (vs, (uint_vals w64 place, (uint_vals w8 low, (uint_vals w8 high, tt))))), tt) in
    let Asked : Type 0 = next < 65536 in
    qed 𝓛 (((‵ (flft κs.0 qs.0) ⊛ ‵ ftrue) ⊛ ‵ (owns (MutRef (named 0) κs.0 R ∷ usize ∷ u8 ∷ u8 ∷ []) a y.0.4)) ∷ raw (fact 𝓤 Asked) ∷ []) ∵
    move ! (1 ∷ []) $ heard ! Asked (λ asked.
    let page : p < 256 = omega (arith, asked) in let page' : p' < 256 = omega (arith, asked) in
    let one : R.Denot = record h { pages = set h.pages p (set (get_or h.pages p []) at (Some low)); shaped = IsArenaBlock-set h.pages p at low page h.shaped } in
    let two : R.Denot = record h { pages = set one.pages p' (set (get_or one.pages p' []) at' (Some high)); shaped = IsArenaBlock-set one.pages p' at' high page' one.shaped } in
    let hp : p < length h.pages = omega (arith, h.shaped.0, page) in
    let hat : at < length (get_or h.pages p []) = omega (arith, length-page h.pages p page h.shaped) in
    let hp' : p' < length one.pages = omega (arith, one.shaped.0, page') in
    let hat' : at' < length (get_or one.pages p' []) = omega (arith, length-page one.pages p' page' one.shaped) in
    split ! $ split ! $ move ! (2 ∷ []) $ fsplit ! $ keep ! (0 ∷ 2 ∷ []) $
    enter ! _ _ _ _ _ $ alloc_all ! (λ l. pass_all ! refl ((tt, tt), ((tt, record { fits = are.1.0.1 }), ((tt, record { fits = are.1.1.0.1 }), ((tt, record { fits = are.1.1.1.0.1 }), tt)))) $
    fsplit3 ! $ move ! (1 ∷ 2 ∷ 3 ∷ []) $ opens ! tt R b o (λ us.
    move ! (1 ∷ []) $ peeks ! R _ (shows 𝓛 R) h us (λ is. fsplit ! $ move ! (1 ∷ []) $
    in_a_block ! h.start (λ s. block_owns s h.pages) (id⊢ 𝓤 _) (λ b' o' e.
    let word = lowers.val_is h us is ∙ ap (λ (s : Ptr). lowers.lowered (record h { start = s }) ∷ []) e in
    let Cell = λ (ws : List Val). ‵ (cell_at full_share R.mir ws b o) in
    let k = place + o' in let slot = get_or (get_or h.pages p []) at None in
    let k' = 1 + k in let slot' = get_or (get_or one.pages p' []) at' None in
    let there : p' * 256 + at' + o' ≡ k' = omega (arith, sum') in
    rewrite ! 2 Cell word refl $
    -- [the pages; what the fields own; the struct's cell; the open borrow, in three entries]
    first ! $ blocks ! $
    sets ! (of_opd ! (load ! (through ! refl (fld ! refl (stop !))) (look_in ! 2 (sub ! 0 refl (whole !))))) refl (tt, tt) $
    sets ! (bin ! (get ! refl) (get ! refl) tt) refl (tt, tt) $
    use1 𝓛 (‵ (slot_own slot b' (p * 256 + at + o')) ⊛ ‵ (Besides 𝓛 b' h.pages p at o')) (slot_out 𝓛 b' h.pages p at o' hp hat) $ split ! $
    rewrite ! 0 (λ (n : ℕ). ‵ (slot_own slot b' (n + o'))) sum refl $
    use1 𝓛 (‵ (froom (ty_int w8) b' k)) (slot_room 𝓛 b' slot k) $
    assigns ! (of_opd ! (get ! refl)) (through ! refl (stop !)) (init ! 0 refl (tt, record { fits = are.1.1.0.1 })) $
    use1 𝓛 (‵ (part_at u8 full_share low b' k)) (uint_in 𝓛 full_share w8 low b' k) $
    rewrite ! 0 (λ (n : ℕ). ‵ (part_at u8 full_share low b' (n + o'))) (sym sum) refl $
    use2 𝓛 (‵ (pages_own one.pages b' o')) (slot_in 𝓛 b' h.pages p at o' low hp hat) $
    sets ! (bin ! (get ! refl) (lit ! tt) tt) refl (tt, tt) $
    use1 𝓛 (‵ (slot_own slot' b' (p' * 256 + at' + o')) ⊛ ‵ (Besides 𝓛 b' one.pages p' at' o')) (slot_out 𝓛 b' one.pages p' at' o' hp' hat') $ split ! $
    rewrite ! 0 (λ (n : ℕ). ‵ (slot_own slot' b' n)) there refl $
    use1 𝓛 (‵ (froom (ty_int w8) b' k')) (slot_room 𝓛 b' slot' k') $
    assigns_last ! (of_opd ! (get ! refl)) (through ! refl (stop !)) (init ! 0 refl (tt, record { fits = are.1.1.1.0.1 })) $
    exec ! 𝓣.C 𝓣.Λ (env code.Mir.locals l) (after 1 (code.function).body) (at_ret _ (W.post y)) $
    sets ! (of_opd ! (unit_lit !)) refl (tt, tt) $
    use1 𝓛 (‵ (part_at u8 full_share high b' k')) (uint_in 𝓛 full_share w8 high b' k') $
    rewrite ! 0 (λ (n : ℕ). ‵ (part_at u8 full_share high b' n)) (sym there) refl $
    use2 𝓛 (‵ (pages_own two.pages b' o')) (slot_in 𝓛 b' one.pages p' at' o' high hp' hat') $
    rewrite ! 0 (λ (s : Ptr). ‵ (block_owns s two.pages)) (sym e) refl $ rewrite ! 2 Cell (sym word) refl $
    move ! (1 ∷ []) $ fjoin ! $ move ! (1 ∷ []) $ closes ! tt R two us b o $
    returns ! (look_at ! 0 refl) $ free_all ! refl $ move ! (3 ∷ []) $
    suffices ! _ (ends_at 𝓛 f.ended stayed c y vunit tt (two, (tt, (tt, (tt, tt)))) (tt, (tt, (tt, (tt, tt))))) $ says ! (refl, refl) $
    group ! 3 $ nothing ! $ nothing ! $ join ! $ nothing ! $ join ! $ nothing ! $ join ! $ move ! (1 ∷ 0 ∷ []) $ join ! $ nothing ! $ move ! (2 ∷ 0 ∷ []) $ join ! $ frame ! $ frame ! $
    feq_i ! _ (vunit ∷ []) _ refl $ done !))))))
