use Rattle.sx_parse.proofs.Modules.{told_found, told_only, told_fault}
use Rattle.sx_parse.proofs.parse.parse.Goals as goal

pub returns : goal.returns
returns c = record {
  found = told_found c.args.text.now c.module_of_text.result c.module_of_text.ensures;
  only = told_only c.args.text.now c.module_of_text.result c.module_of_text.ensures;
  fault = told_fault c.args.text.now c.module_of_text.result c.module_of_text.ensures;
}
