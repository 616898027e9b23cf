-- What commands say of reads and writes that fail, of their streams at the start (m0) and at the
-- end (m1).
use Rattle.std.specs.Prelude.{◌≡◌}
use Rattle.sx_io.specs.Counts.{next_count, Rose}
use Rattle.sx_io.specs.Streams.{OneReadFault}
use Rattle.command_promise.specs.declared.status.Status.{Status}
use Rattle.command_promise.specs.declared.status.Status.TheVariants.{ReadFailed, WriteFailed}
use Rattle.command_promise.specs.Told.{CommandAt}

-- no read and no write failed: neither count rose, nor is at its last value
abbrev pub IsFaultless : CommandAt → CommandAt → Type 0
IsFaultless m0 m1 =
    (Rose m0.source.faults m1.source.faults → ⊥) × (Rose m0.sink.faults m1.sink.faults → ⊥)

-- A status tells of faults: 4 only of one read that failed, after which nothing was read; 5 exactly
-- of one write that failed.
pub record TellsFaults (m0 m1 : CommandAt) (status : Status) : Type 0 where
  pub read : status ≡ ReadFailed → OneReadFault m0.source m1.source
  pub write : status ≡ WriteFailed → m1.sink.faults ≡ next_count m0.sink.faults
  pub no_write : (status ≡ WriteFailed → ⊥) → m1.sink.faults ≡ m0.sink.faults
