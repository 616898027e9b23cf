-- What the parts of a command do: how far it has come, and what is left. A part says of itself that
-- whatever came before, the command says this in the end (`Rest`), or that it goes on (`DoesPart`);
-- the laws in proofs/Laws.antt put the parts together.
use Rattle.std.specs.Prelude.{ℕ, ◌≡◌, Bool, List, ◌++◌, IsTrue}
use Rattle.sx_io.specs.Streams.{SinkAt}
use Rattle.sx_io.specs.Reading.{Answer, Limit}
use Rattle.sx_io.specs.Next.{Ahead}
use Rattle.command_promise.specs.Got.{Got}
use Rattle.command_promise.specs.declared.status.Status.{Status}
use Rattle.command_promise.specs.declared.turned.Turned.{Turned}
use Rattle.command_promise.specs.declared.turned.Turned.TheVariants.{On, Stop}
use Rattle.command_promise.specs.Told.{Output, behind, CommandAt, unread_output, CommandEnds, Told}

-- A command has come so far: this text was written, the prefix of it before the last line was
-- given, and `left` says what is still to be written.
pub record Begun (tells to_tell : Bool) (limit limit' : Limit) (m0 m1 : CommandAt) (now : Ahead)
    (defined left : List Answer → Output) (also : List Answer → Type 0) : Type 0 where
  pub said : List ℕ
  pub part : List ℕ
  pub wrote : IsTrue to_tell → m1.sink.written ≡ m0.sink.written ++ (said ++ part)
  pub no_fault : m1.sink.faults ≡ m0.sink.faults
  pub got : Got tells limit limit' m0.source m1.source now defined
      (λ answers. behind (said ++ part) (left answers)) (behind said unread_output) also

-- beside the output, the answers say this
abbrev pub Notes : (List Answer → List ℕ) → List ℕ → List Answer → Type 0
Notes aside noted answers = aside answers ≡ noted

-- a part that does the rest of a command, whatever came before
abbrev pub Rest : Bool → Bool → Limit → Ahead → CommandAt → CommandAt → Status
    → (List Answer → Output) → Type 0
Rest tells to_tell limit' now m1 m2 status left =
    (limit : Limit) (m0 : CommandAt) (defined : List Answer → Output) (aside : List Answer
    → List ℕ) (noted : List ℕ)
    → Begun tells to_tell limit limit' m0 m1 now defined left (Notes aside noted)
    → Told tells to_tell limit m0 m2 status defined (Notes aside noted)

-- a part that reads nothing: some text was written, and this is left
pub record WroteSome (to_tell : Bool) (k0 k1 : SinkAt) (before after : List Answer
    → Output) : Type 0 where
  pub text : List ℕ
  pub wrote : IsTrue to_tell → k1.written ≡ k0.written ++ text
  pub same : (more : List Answer) → before more ≡ behind text (after more)
  pub no_fault : k1.faults ≡ k0.faults

-- it did its part, and leaves the rest, or it ends the command
abbrev pub DoesPart : Bool → SinkAt → SinkAt → (List Answer → Output) → Turned
    → (List Answer → Output) → Type 0
DoesPart to_tell k0 k1 before On after = WroteSome to_tell k0 k1 before after
DoesPart to_tell k0 k1 before (Stop status) after =
    (more : List Answer) → CommandEnds to_tell k0 k1 status (before more)
