use Rattle.std.proofs.Common.{List, subst, sym}
use Rattle.sx_mean.specs.declared.apps.Link.{Link}
use Rattle.sx_compile.proofs.Links.{SendSame}
use Rattle.test_compiler.proofs.lowered.lowered_of.Goals as goal

pub sends_few-requires : goal.sends_few-requires
sends_few-requires c = subst (λ (ls : List Link). SendSame ls c.args.ends.now) (sym c.deref.ensures.value) c.in_ok-links.ensures
