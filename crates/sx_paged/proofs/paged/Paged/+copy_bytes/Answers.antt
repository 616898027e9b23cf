use Rattle.std.proofs.Common.{◌≡◌, ◌+◌, ◌-◌, ◌%◌, ◌++◌, List, ℕ, length, take, drop, ◌∙◌, ap, arith, length-append}
use Rattle.std.proofs.lemmas.List.{length-take-le, length-drop}
use Rattle.sx_paged.specs.Memory.{joined}
use Rattle.sx_paged.proofs.Standing.{copied_on, length-joined}
use Rattle.sx_paged.proofs.paged.Paged.+copy_bytes.Goals as goal

pub returns-else-into-room : goal.returns-else-into-room
returns-else-into-room t c =
    let at = c.args.at in let room = 256 - c.args.at % 256 in let into = c.args.into.now in let mem = joined c.args.self.now in
    let first = c.copy_on_page-else-into-room.new.into in
    let here : first ≡ take room (drop at mem) =
    c.copy_on_page-else-into-room.ensures ∙ ap (λ (n : ℕ). take n (drop at mem)) (length-take-le room into (omega (arith, c.if-into-room.false))) in
    let long : length first ≡ room = ap length here ∙ length-take-le room (drop at mem)
    (omega (arith, length-drop at mem, length-joined c.args.self.now c.requires.shaped, c.requires.within, c.if-into-room.false)) in
    let all : List ℕ = first ++ drop room into in
    let sum : length all - room ≡ length into - room = omega (arith, length-append first (drop room into), length-drop room into, long) in
    let count : length (take (length all - room) (drop room all)) ≡ length into - room = length-take-le (length all - room) (drop room all) (omega (arith, length-drop room all)) ∙ sum in
    copied_on mem into first c.copy_bytes.new.into at room long (omega (arith, c.if-into-room.false)) here
    (c.copy_bytes.ensures ∙ ap (λ (n : ℕ). take n (drop (at + room) mem)) count)
