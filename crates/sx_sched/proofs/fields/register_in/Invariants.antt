use Rattle.std.proofs.Common.{◌≡◌, drop, map}
use Rattle.sx_asm.specs.Entries.{entry_of}
use Rattle.sx_sched.specs.Reading.{register_in}
use Rattle.sx_sched.proofs.fields.register_in.Given as goal

abbrev pub invariant-loop-name : goal.invariant-loop-name
invariant-loop-name l = register_in (map entry_of l.table) l.word ≡ register_in (map entry_of (drop l.name-index l.table)) l.word
