use Rattle.std.proofs.Common.{◌≡◌, ℕ, suc, ◌-◌, [], ◌∷◌, ◌++◌, length, take, drop, get_or, replicate, sym, ◌∙◌, ap, arith, add-one, length-append, length-drop}
use Rattle.std.specs.List.{remove}
use Rattle.std.proofs.lemmas.List.{take_at, length-take-le}
use Rattle.std.proofs.lemmas.Slice.{put_mid-rotated}
use borrow.Rule.Slice.PartMut.{put_mid}
use Rattle.sx_rules.specs.declared.section.Section.{Section}
use Rattle.sx_rules.proofs.table.close_gap.Goals as goal

-- The section at the index goes to the end, after the others.
pub returns : goal.returns
returns c =
    let live = c.args.live.now in
    let at = c.args.index in
    let none : Section = record { layout = record { pub_from = 0; pub_to = 0; priv_from = 0; priv_to = 0 }; provider = 0; id = 0; key = replicate 16 0 } in
    let moved : put_mid at (length live - at) live c.rotate_left.new.self ≡ remove live at ++ get_or live at none ∷ [] =
    put_mid-rotated _ _ _ _ none c.requires (omega arith) c.rotate_left.ensures.after in
    let front = length-take-le at live (omega (arith, c.requires)) in
    let count : length (remove live at) ≡ length live - 1 =
    omega (arith, c.requires, length-append (take at live) (drop (suc at) live), front, length-drop (suc at) live) in
    ap (take (length live - 1)) moved ∙ take_at (remove live at) _ _ count ∙ ap (λ (n : ℕ). take at live ++ drop n live) (sym (add-one at))
