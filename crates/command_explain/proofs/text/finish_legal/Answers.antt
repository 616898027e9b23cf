use Rattle.command_explain.proofs.text.finish_legal.Goals as goal

pub returns-clause-memory : goal.returns-clause-memory
returns-clause-memory g c = λ six. cc (six, c.finish.ensures.status (λ five. cc (six, five)))
