use Rattle.std.proofs.Common.{◌≡◌, ◌++◌, ◌∷◌, [], arith, map, Vec, Global}
use Rattle.std.proofs.lemmas.Grind.{common_steps}
use Rattle.std.proofs.lemmas.List.{map-append}
use Rattle.sx_deploy.specs.declared.sources.ParsedModule.{ParsedModule}
use Rattle.sx_deploy.specs.Seen.{parsed_as}
use Rattle.sx_deploy.proofs.Begun.{stops, goes_on}
use Rattle.sx_deploy.proofs.sources.coded_all.Goals as goal

pub returns-in-Err : goal.returns-in-Err
returns-in-Err c =
    stops parsed_as (λ (v : Vec ParsedModule Global). map parsed_as v.items) c.args.modules.now c.loop-entry.entry-index c.entry-item.result (map parsed_as c.loop-entry.done.items)
    c.len.result c.in-Err.error c.loop-entry.invariant c.loop-entry-test.true c.entry-item.is (grind (arith, common_steps)) c.in-Err.ensures

pub loop-entry-preserved : goal.loop-entry-preserved
loop-entry-preserved c =
    let more : map parsed_as c.push.new.self.items ≡ map parsed_as c.loop-entry.done.items ++ parsed_as c.in-Ok.one ∷ [] = grind (arith, common_steps, map-append) in
    goes_on c.args.modules.now c.loop-entry.entry-index c.entry-item.result (map parsed_as c.loop-entry.done.items) _ c.len.result (parsed_as c.in-Ok.one)
    c.loop-entry.invariant c.loop-entry-test.true c.entry-item.is (grind (arith, common_steps)) c.in-Ok.ensures more
