-- The lines that were given, where one that was held or read comes next.
use Rattle.std.proofs.Common.{◌≡◌, ◌+◌, inr, ◌∷◌, ◌++◌, ℕ, [], Bool, List, length, take, arith}
use Rattle.std.proofs.lemmas.List.{length-append}
use Rattle.sx_io.specs.Streams.{SourceAt}
use Rattle.sx_io.specs.Reading.{Answer, Line}
use Rattle.sx_io.specs.Next.{Ahead}
use Rattle.command_promise.specs.Head.{head_lines}
use Rattle.command_head.specs.Given.{RanOutSince}
use Rattle.command_head.proofs.Came.{Came, given_came, wants_came}
use Rattle.command_deploy.proofs.Given.{Gave}

module _ {tells : Bool} {s1 s2 s3 : SourceAt} {old now new : Ahead} {number : ℕ} (into : List ℕ) (n : ℕ) (g : Gave tells s1 s2 old now number) (came : Came tells s2 s3 now new into n) where
  -- one more
  pub gave_came : Gave tells s1 s3 old new (number + 1)
  gave_came = record {
    lines = g.lines ++ Line (take n into) ∷ [];
    numbered = (let l = length-append g.lines (Line (take n into) ∷ []) in let k = g.numbered in omega (arith, l, k));
    since = given_came g.lines into n g.since came;
  }

  -- at which memory ran out
  pub ran_out_came : (May : List Answer → List ℕ → Type 0) → May g.lines (take n into) → RanOutSince head_lines head_lines May tells s1 s3 old new
  ran_out_came May may =
      (g.lines ++ Line (take n into) ∷ [], given_came g.lines into n g.since came, inr (wants_came g.lines into n g.since came May may))
