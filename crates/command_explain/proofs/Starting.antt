-- From a deployment to its trace: the lines of images, and the start.
use Rattle.std.proofs.Common.{◌≡◌, ◌&&◌, ℕ, ◌+◌, Bool, true, false, if◌then◌else◌, List, take, refl, ap, subst, Result, Ok, Err}
use Rattle.std.specs.Prelude.{IfErr, IfOk, OnErr, nat_le}
use Rattle.sx_io.specs.Streams.{SourceAt, SinkAt}
use Rattle.sx_io.specs.Reading.{Answer, Limit}
use Rattle.sx_io.specs.Next.{Ahead, Next}
use Rattle.sx_io.specs.Passed.{longest_passed}
use Rattle.sx_io.specs.declared.lines.LineRead.TheVariants as read
use Rattle.command_promise.specs.declared.status.Status.{Status}
use Rattle.command_promise.specs.Told.{CommandAt, Output, command_at, unread_output}
use Rattle.command_promise.specs.Parts.{Begun, Rest}
use Rattle.command_promise.proofs.Laws.{begun-line, begun-same, ends-out-of-memory, ends-same, prefix-none, told-stop}
use Rattle.sx_entries.specs.Gives.{GivesOne}
use Rattle.sx_entries.specs.declared.fault.DeployError.{DeployError}
use Rattle.sx_entries.specs.declared.fault.DeployError.TheVariants as error
use Rattle.sx_entries.specs.declared.fault.DeployFault.{DeployFault}
use Rattle.sx_deploy.specs.Deployment.{Deployed, IsRead}
use Rattle.sx_deploy.specs.SeenDeployment.{deployed_as}
use Rattle.sx_deploy.specs.declared.deployment.Deployment.{Deployment}
use Rattle.sx_deploy.proofs.Meanings.{one_meaning}
use Rattle.command_head.specs.Ends.{EndsRefused}
use Rattle.command_explain.specs.declared.images.ImageLine.TheVariants as image
use Rattle.command_explain.specs.Meant.{AreMeanings, Meanings}
use Rattle.command_explain.specs.Output.{explain_deployed, explain_found}
use Rattle.command_explain.specs.Trace.{Behind, Missing, Start, Unread, image_line, image_lines, is_image, is_trace, most_images, on_image, start, trace_lines}

-- ---- a line before `trace`

by_trace : (t b : Bool) → (if t then image.Trace else if b then image.Image else image.Other) ≡ image.Trace → t ≡ true
by_trace true b e = refl
by_trace false true e = absurd (cc e)
by_trace false false e = absurd (cc e)

by_image : (t b : Bool) → (if t then image.Trace else if b then image.Image else image.Other) ≡ image.Image → t ≡ false
by_image true b e = absurd (cc e)
by_image false b e = refl

pub trace_is : (number : ℕ) (text : List ℕ) → image_line number text ≡ image.Trace → is_trace text ≡ true
trace_is number text e = by_trace (is_trace text) (nat_le number most_images && is_image text) e

pub image_is : (number : ℕ) (text : List ℕ) → image_line number text ≡ image.Image → is_trace text ≡ false
image_is number text e = by_image (is_trace text) (nat_le number most_images && is_image text) e

-- the limits after a line, by whether it is `trace`
abbrev pub lines_by : Bool → Limit
lines_by t lines = if t then trace_lines lines else image_lines lines

-- what is said from a line of this number on, by the start
abbrev pub start_from : (Start → Output) → ℕ → List Answer → Output
start_from say number more = say (start number more)

module _ {tells to_tell : Bool} {limit : Limit} {m0 : CommandAt} {s1 s2 : SourceAt} {k1 : SinkAt} {old new : Ahead} {F : List Answer → Output} {also : List Answer → Type 0} {into : List ℕ} {n : ℕ}
    (say : Start → Output) (unread : say (Missing Unread) ≡ unread_output) (number : ℕ) (b : Begun tells to_tell limit image_lines m0 (command_at s1 k1) old F (start_from say number) also)
    (x : Next longest_passed tells s1 s2 old new into (read.Text n)) where
  pub given : Begun tells to_tell limit (lines_by (is_trace (take n into))) m0 (command_at s2 k1) new F
      (λ more. say (on_image number (image_line number (take n into)) more (start (number + 1) more))) also
  given = begun-line (start_from say number) unread b x

  limited : (t : Bool) → is_trace (take n into) ≡ t → Begun tells to_tell limit (lines_by t) m0 (command_at s2 k1) new F
      (λ more. say (on_image number (image_line number (take n into)) more (start (number + 1) more))) also
  limited t e =
      let P : Bool → Type 0 = λ t. Begun tells to_tell limit (lines_by t) m0 (command_at s2 k1) new F
      (λ more. say (on_image number (image_line number (take n into)) more (start (number + 1) more))) also in
      subst P e given

  pub behind_image : image_line number (take n into) ≡ image.Image → Begun tells to_tell limit image_lines m0 (command_at s2 k1) new F (start_from say (number + 1)) also
  behind_image e =
      begun-same (start_from say (number + 1)) (λ more. ap (λ l. say (on_image number l more (start (number + 1) more))) e)
      (limited false (image_is number (take n into) e))

  pub behind_trace : image_line number (take n into) ≡ image.Trace → Begun tells to_tell limit trace_lines m0 (command_at s2 k1) new F (λ more. say (Behind more)) also
  behind_trace e =
      begun-same (λ more. say (Behind more)) (λ more. ap (λ l. say (on_image number l more (start (number + 1) more))) e)
      (limited true (trace_is number (take n into) e))

-- ---- after a head

pub explain_behind : {tells to_tell : Bool} {now : Ahead} {s0 s1 : SourceAt} {k0 k1 : SinkAt} {status : Status} (text : List ℕ) (r : Result Deployment DeployError) → GivesOne deployed_as r (IsRead text)
    → IfOk r (λ d. (means : Meanings) → AreMeanings means → Rest tells to_tell image_lines now (command_at s0 k0) (command_at s1 k1) status (explain_deployed means (deployed_as d)))
    → IfErr r (λ e. EndsRefused to_tell k0 k1 status e) → OnErr r (s1 ≡ s0) → (means : Meanings) → AreMeanings means
    → Rest tells to_tell image_lines now (command_at s0 k0) (command_at s1 k1) status (explain_found means (means.deployment text))
explain_behind {tells} {to_tell} {now} {s0} {s1} {k0} {k1} {status} text (Ok d) read good bad same means is =
    let P : Result Deployed DeployFault → Type 0 = λ r. Rest tells to_tell image_lines now (command_at s0 k0) (command_at s1 k1) status (explain_found means r) in
    subst P (one_meaning text (Ok (deployed_as d)) (means.deployment text) read (is.deployment text)) (good means is)
explain_behind {tells} {to_tell} {now} {s0} {s1} {k0} {k1} {status} text (Err (error.Fault f)) read good bad same means is =
    rw same (λ limit m0 defined aside noted b.
    told-stop b (λ more. ends-same _ _ _ _ _ _ (ap (λ r. explain_found means r more) (one_meaning text (means.deployment text) (Err f) (is.deployment text) read)) bad.0))
explain_behind {tells} {to_tell} {now} {s0} {s1} {k0} {k1} {status} text (Err error.OutOfMemory) read good bad same means is =
    rw (same, bad.0, bad.1) (λ limit m0 defined aside noted b.
    told-stop b (λ more. ends-out-of-memory to_tell k0 k0 (explain_found means (means.deployment text) more) (λ t. prefix-none k0.written k0.written _ refl) refl))
