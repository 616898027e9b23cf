-- What a command says of what it read and wrote: that it is what is defined for the input.
--
-- What is defined is a function of the answers that the lines of the input give.
use Rattle.std.specs.Prelude.{ℕ, ◌≡◌, Bool, List, ◌∷◌, [], ◌++◌, codes, IsTrue}
use Rattle.sx_io.specs.Counts.{next_count}
use Rattle.sx_io.specs.Prefixes.{AppendsPrefix}
use Rattle.sx_io.specs.Streams.{SourceAt, SinkAt}
use Rattle.sx_io.specs.Reading.{Answer, Limit}
use Rattle.command_promise.specs.declared.status.Status.{Status}
use Rattle.command_promise.specs.declared.status.Status.TheVariants.{ReadFailed, WriteFailed, OutOfMemory}
use Rattle.command_promise.specs.Reads.{Reads}

-- what is written, and the exit status
pub record Output : Type 0 where
  pub text : List ℕ
  pub status : Status

-- the same after a text
abbrev pub behind : List ℕ → Output → Output
behind text o = record { text = text ++ o.text; status = o.status }

-- a command's source and sink at one moment
pub record CommandAt : Type 0 where
  pub source : SourceAt
  pub sink : SinkAt

-- a moment of a command: where its source and its sink are
abbrev pub command_at : SourceAt → SinkAt → CommandAt
command_at source sink = record { source = source; sink = sink }

-- the line that says that a read failed
unfoldable pub read_line : List ℕ
read_line = codes "fault read" ++ 10 ∷ []

-- what is defined if a read failed and nothing else is due
abbrev pub unread_output : Output
unread_output = record { text = read_line; status = ReadFailed }

-- All that is defined was written, and the status is the defined one; but if a write failed or
-- memory ran out, only a prefix of it was. One write failed if the status says so, and else none
-- did.
pub record CommandEnds (to_tell : Bool) (k0 k1 : SinkAt) (status : Status)
    (o : Output) : Type 0 where
  pub whole : (status ≡ WriteFailed → ⊥) → (status ≡ OutOfMemory → ⊥) → (status ≡ o.status)
      × (IsTrue to_tell → k1.written ≡ k0.written ++ o.text)
  pub prefix : IsTrue to_tell → AppendsPrefix k0.written k1.written o.text
  pub no_fault : (status ≡ WriteFailed → ⊥) → k1.faults ≡ k0.faults
  pub fault : status ≡ WriteFailed → k1.faults ≡ next_count k0.faults

-- What a command says: the bytes that it took decide what was written, and the status; and it took
-- at most 4,096 bytes past the end of the line whose text it was writing. `said` is what was due
-- before that line, and it was written whole. And `also` holds of the answers.
pub record Told (tells to_tell : Bool) (limit : Limit) (m0 m1 : CommandAt) (status : Status)
    (defined : List Answer → Output) (also : List Answer → Type 0) : Type 0 where
  pub said : List ℕ
  pub part : List ℕ
  pub wrote : IsTrue to_tell → m1.sink.written ≡ m0.sink.written ++ (said ++ part)
  pub reads : Reads tells limit m0.source m1.source defined (behind said unread_output)
      (λ answers. CommandEnds to_tell m0.sink m1.sink status (defined answers) × also answers)
