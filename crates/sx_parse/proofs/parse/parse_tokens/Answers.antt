use Rattle.sx_parse.proofs.Modules.{tokens_found, tokens_only, tokens_fault}
use Rattle.sx_parse.proofs.parse.parse_tokens.Goals as goal

pub returns : goal.returns
returns c = record {
  found = tokens_found c.args.tokens.now c.args.end c.read_tokens.result c.read_tokens.ensures;
  only = tokens_only c.args.tokens.now c.args.end c.read_tokens.result c.read_tokens.ensures;
  fault = tokens_fault c.args.tokens.now c.args.end c.read_tokens.result c.read_tokens.ensures;
}
