-- Runs of the same input are the same, and what `lines` shows is the run of `run`.
use Rattle.std.specs.Prelude.{◌≡◌, ℕ, true, List, flat_map, slice_get, take, Some}
use Rattle.command_promise.specs.declared.status.Status.{Status}
use Rattle.command_promise.specs.Told.{CommandAt}
use Rattle.sx_io.specs.Reading.{Answer}
use Rattle.sx_tag.specs.Mac.{Mac}
use Rattle.sx_sched.specs.Lines.{Line}
use Rattle.sx_sched.specs.Reading.{Assembler}
use Rattle.sx_deploy.specs.Deployment.{Deployed}
use Rattle.spec_run.specs.Setting.{Setting}
use Rattle.spec_run.specs.State.{World}
use Rattle.spec_run.specs.Run.{run}
use Rattle.command_deploy.specs.Same.{IsUnhindered, WriteTheSame}
use Rattle.command_world.specs.Turning.{after_next}
use Rattle.command_run.specs.Lines.{performed, performed_of}
use Rattle.command_run.specs.Output.{items_of}
use Rattle.command_run.specs.Promise.{RunDeployPromise}

-- Two calls of `run` over the same input, neither of which is hindered, write the same trace.
abbrev pub RunsAreSame : Type 0
RunsAreSame = (assemble : Assembler) (mac : Mac) (m0 m1 k0 k1 : CommandAt) (s t : Status)
    → RunDeployPromise assemble mac true true m0 m1 s → RunDeployPromise assemble mac true true k0 k1 t
    → m0.source.rest ≡ k0.source.rest → IsUnhindered m0 m1 s → IsUnhindered k0 k1 t
    → WriteTheSame m0 m1 s k0 k1 t

-- The items that `lines` writes of all lines, put together, are those of `run`.
abbrev pub LinesGiveItems : Type 0
LinesGiveItems = (assemble : Assembler) (mac : Mac) (d : Deployed) (texts : List (List ℕ))
    (more : List Answer)
    → flat_map (λ p. p.items) (performed_of assemble mac d texts more)
    ≡ items_of assemble mac d texts more

-- The k-th line that is performed, counted from 0, is shown with the k-th text, and with the items
-- that it gives in the world after the k lines before it.
abbrev pub EachGivesItsItems : Type 0
EachGivesItsItems = (set : Setting) (w : World) (texts : List (List ℕ)) (lines : List Line) (k : ℕ)
    (text : List ℕ) (line : Line)
    → slice_get texts k ≡ Some text → slice_get lines k ≡ Some line
    → slice_get (performed set w texts lines) k
    ≡ Some (record {
      text = text;
      items = (after_next set (run set w (take k lines)).world line).items;
    })
