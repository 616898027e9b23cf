use Rattle.std.proofs.Common.{ℕ, List, OnOk, append-nil, sym, subst}
use Rattle.sx_isa.specs.Spelling.{spelling}
use Rattle.sx_tmpl.specs.Text.{PutsWords}
use Rattle.sx_tmpl.proofs.put.put_one.Goals as goal

pub returns : goal.returns
returns c =
    subst (λ (words : List ℕ). OnOk c.put_instruction.result (PutsWords words c.args.text.now.items c.put_instruction.new.text.items))
    (sym (append-nil (spelling c.args.instruction))) c.put_instruction.ensures
