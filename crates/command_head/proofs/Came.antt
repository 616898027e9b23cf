-- A line that came, and was held or read for it.
use Rattle.std.proofs.lemmas.List.{append-nil}
use Rattle.std.proofs.Common.{◌≡◌, ◌∙◌, ◌⊎◌, ◌≤◌, inl, inr, ◌∷◌, ◌++◌, ℕ, [], Bool, List, length, append_assoc, ap, refl, sym, subst, take, Some, Result, Ok}
use Rattle.sx_io.specs.Streams.{SourceAt}
use Rattle.sx_io.specs.Reading.{Answer, Fault, Line, longest}
use Rattle.sx_io.specs.Next.{Ahead, GivesHeld, Next, Took}
use Rattle.sx_io.specs.declared.lines.LineRead.{LineRead}
use Rattle.sx_io.specs.declared.lines.LineRead.TheVariants as read
use Rattle.sx_io.specs.declared.outside.Failed.{Failed}
use Rattle.command_promise.specs.Head.{head_lines}
use Rattle.command_promise.specs.Told.{CommandAt}
use Rattle.command_promise.proofs.Takings.{got-line, got-same, open-not-at-end}
use Rattle.command_text.specs.Keeping.{ComesNext}
use Rattle.command_text.proofs.Keeping.{few_left}
use Rattle.command_head.specs.Given.{GivenSince, WantsLast}
use Rattle.command_head.proofs.Given.{given_line, wants_last}

pub record Came (tells : Bool) (s1 s2 : SourceAt) (old new : Ahead) (into : List ℕ) (n : ℕ) : Type 0 where
  pub how : ((s2 ≡ s1) × GivesHeld old new into (Some n)) ⊎ Next longest tells s1 s2 old new into (read.Text n)

pub came_text : (tells to_tell : Bool) (m0 m1 : CommandAt) (kept left : List ℕ) (old new : Ahead) (into : List ℕ) (n : ℕ) (r : Result LineRead Failed) → r ≡ Ok (read.Text n)
    → ComesNext tells to_tell m0 m1 kept left old new into r → Came tells m0.source m1.source old new into n
came_text tells to_tell m0 m1 kept left old new into n r is comes =
    let R : Result LineRead Failed → Type 0 = λ r. ComesNext tells to_tell m0 m1 kept left old new into r in
    let here : R (Ok (read.Text n)) = subst R is comes in
    elim here [
      | inl held ↦ record { how = inl (ap (λ (m : CommandAt). m.source) held.0, held.2) }
      | inr reads ↦ record { how = inr reads.2 }
    ]

-- one that was held is the next, and nothing is read for it
held_next : (tells : Bool) (s : SourceAt) (old new : Ahead) (into : List ℕ) (n : ℕ) → length old.held ≤ longest → GivesHeld old new into (Some n) → Next longest tells s s old new into (read.Text n)
held_next tells s old new into n few held =
    let P : List ℕ → Type 0 = λ bytes. Took longest bytes (read.Text n) into new in record {
      takes = λ o. record {
        got = [];
        from_source = λ t. refl;
        took = subst P (sym (append-nil old.held)) held.2;
        faults = record { faults = refl; left = refl };
        at_end = λ e. absurd (open-not-at-end new.state held.1 e);
        no_end = λ e t. refl;
        asked = λ t. inl refl;
        few = few_left old.held held.2.1 new.held held.2.2 few;
      };
      again = λ c. absurd (c held.0);
    }

module _ {tells : Bool} {s1 s2 s3 : SourceAt} {old now new : Ahead} (lines : List Answer) (into : List ℕ) (n : ℕ) (given : GivenSince head_lines head_lines tells s1 s2 old now lines)
    (came : Came tells s2 s3 now new into n) where
  given_held : GivesHeld now new into (Some n) → GivenSince head_lines head_lines tells s1 s2 old new (lines ++ Line (take n into) ∷ [])
  given_held held = λ limit s0 f due b.
      let g = given limit s0 f due b in (
        f (lines ++ Fault ∷ []),
        got-same (λ more. ap f (sym (append_assoc lines (Line (take n into) ∷ []) more))) refl (got-line (λ more. f (lines ++ more)) g.1 (held_next tells s2 now new into n g.1.few held)),
      )

  pub given_came : GivenSince head_lines head_lines tells s1 s3 old new (lines ++ Line (take n into) ∷ [])
  given_came =
      let P : SourceAt → Type 0 = λ s. GivenSince head_lines head_lines tells s1 s old new (lines ++ Line (take n into) ∷ []) in
      elim came.how [
        | inl held ↦ subst P (sym held.0) (given_held held.1)
        | inr next ↦ given_line lines into n given next
      ]

  pub wants_came : (May : List Answer → List ℕ → Type 0) → May lines (take n into) → WantsLast head_lines May tells s1 s3 old (lines ++ Line (take n into) ∷ [])
  wants_came May may =
      elim came.how [
        | inl held ↦ (
          (lines, take n into, refl, may),
          λ limit s0 f due b i. inl ((given_came limit s0 f due b).1.no_end (open-not-at-end new.state held.1.1) i),
        )
        | inr next ↦ wants_last May lines into n given next may
      ]
