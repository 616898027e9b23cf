use Rattle.std.proofs.Common.{◌≡◌, ◌+◌, ◌*◌, ◌++◌, length, sym, ap, ◌∙◌, arith}
use Rattle.sx_lang.specs.View.{module_of}
use Rattle.sx_stub.specs.Stub as stub
use Rattle.sx_stub.specs.Stub.{cases, find_any, found_code}
use Rattle.sx_stub.proofs.Fit.{length-find}
use Rattle.sx_stub.proofs.Steps.{behind, grown}
use Rattle.sx_stub.proofs.finding.put_search.Goals as goal

pub put_found-requires-clause-short : goal.put_found-requires-clause-short
put_found-requires-clause-short c =
    let x = c.args.code.now.items in
    let y = c.put_find_cases.new.code.items in
    let found = c.len.result + 4 * length c.args.ends.now + 3 in
    let one = grown x y (cases (find_any found) (length x) 0 c.args.ends.now) c.in_ok-put_find_cases.ensures in
    let two = grown y c.put_returns.new.code.items (stub.returns 5) c.in_ok-put_returns.ensures in
    omega (arith, one, two, length-find found (length x) 0 c.args.ends.now, c.requires.short, c.requires.ends)

pub returns : goal.returns
returns c =
    let r = c.put_found.result in
    let tree = module_of c.args.tree.now in
    let ends = c.args.ends.now in
    let x = c.args.code.now.items in
    let y = c.put_find_cases.new.code.items in
    let w = c.put_returns.new.code.items in
    let z = c.put_found.new.code.items in
    let found = length x + 4 * length ends + 3 in
    let found_is : c.len.result + 4 * length c.args.ends.now + 3 ≡ found = omega (arith, c.len.ensures) in
    let find = cases (find_any found) (length x) 0 ends in
    let first : y ≡ x ++ find = c.in_ok-put_find_cases.ensures ∙ ap (λ f. x ++ cases (find_any f) (length x) 0 ends) found_is in
    let one = grown x y find first in
    behind r x y z find (λ p. stub.returns 5 ++ found_code tree ends found) (length y) first (sym one)
    (behind r y w z (stub.returns 5) (λ p. found_code tree ends p) found c.in_ok-put_returns.ensures (omega (arith, one, length-find found (length x) 0 ends)) c.put_found.ensures)
