use Rattle.std.proofs.Common.{◌≡◌, ◌∷◌, [], refl, ◌∙◌}
use Rattle.sx_asm.specs.Grammar.{is_semicolon, piece_of}
use Rattle.sx_asm.specs.Reading.{parts, items_in}
use Rattle.sx_asm.proofs.Growing.{next_piece, last_piece}
use Rattle.sx_asm.proofs.reading.add_pieces.Goals as goal

pub returns-in_default : goal.returns-in_default
returns-in_default c =
    let piece = c.split_piece.result.0.now in
    let e : parts is_semicolon c.loop-more.rest.now ≡ piece ∷ [] = c.split_piece.ensures.parts ∙ (rw c.in_default.is refl) in
    c.loop-more.invariant
    ∙ (rw e (last_piece c.args.line c.loop-more.entries.items c.add_piece.new.entries.items (piece_of piece) c.in_ok-add_piece.ensures))

pub loop-more-preserved : goal.loop-more-preserved
loop-more-preserved c =
    let piece = c.split_piece.result.0.now in
    let more = parts is_semicolon c.in-Some.more.now in
    let e : parts is_semicolon c.loop-more.rest.now ≡ piece ∷ more = c.split_piece.ensures.parts ∙ (rw c.in-Some.is refl) in
    c.loop-more.invariant
    ∙ (rw e (next_piece c.args.line c.loop-more.entries.items c.add_piece.new.entries.items (piece_of piece) (items_in more) c.in_ok-add_piece.ensures))
