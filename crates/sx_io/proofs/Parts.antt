-- Lemmas on how a line is put together, its first bytes where the caller keeps them.
use Rattle.std.proofs.Common.{ℕ, zero, suc, ◌+◌, ◌-◌, ◌<◌, ◌≤◌, ◌≡◌, ◌∙◌, inr, Bool, false, true, if◌then◌else◌, List, [], ◌∷◌, ◌++◌, length, take, drop}
use Rattle.std.proofs.Common.{refl, ap, sym, subst, arith, length-append}
use Rattle.std.specs.Prelude.{IsTrue, slice_index}
use Rattle.std.proofs.lemmas.List.{append-nil, length-take, length-take-le, take_all}
use Rattle.std.proofs.Math.Seq.{take-length}
use Rattle.sx_io.specs.Reading.{newline, IsPlain, without_return}
use Rattle.sx_io.specs.Next.{Ahead, IsLineText, Next, Took}
use Rattle.sx_io.specs.Parts.{IsBegun, IsWithin, TakesFront, TakesHeld, TakesPart, TakesTurn, TurnAnswers, returns}
use Rattle.sx_io.specs.Passing.{FrontOf}
use Rattle.sx_io.specs.Streams.{SourceAt}
use Rattle.sx_io.specs.declared.lines.LineRead.{LineRead}
use Rattle.sx_io.specs.declared.lines.LineRead.TheVariants as read
use Rattle.sx_io.specs.declared.lines.Turn.{Turn}
use Rattle.sx_io.specs.declared.lines.Turn.TheVariants as turn
use Rattle.sx_io.specs.declared.lines.ReaderState.TheVariants as reader
use Rattle.sx_io.specs.declared.line_parts.Begun.{Begun}
use Rattle.sx_io.specs.declared.line_parts.Part.{Part}
use Rattle.sx_io.specs.declared.line_parts.Part.TheVariants as part
use Rattle.sx_io.proofs.Scans.{moves-more, moves-too-long, moves-view, moves-whole, plain-append, plain-at, took-whole}

-- parts of a list

take-less : (n m : ℕ) (xs : List ℕ) → n ≤ m → take n (take m xs) ≡ take n xs
take-less zero m xs h = refl
take-less (suc n) zero xs h = absurd (omega (arith, h))
take-less (suc n) (suc m) [] h = refl
take-less (suc n) (suc m) (x ∷ xs) h = ap (λ (ys : List ℕ). x ∷ ys) (take-less n m xs (omega (arith, h)))

take-turned : (n m : ℕ) (xs : List ℕ) → take n (take m xs) ≡ take m (take n xs)
take-turned zero zero xs = refl
take-turned zero (suc m) xs = refl
take-turned (suc n) zero xs = refl
take-turned (suc n) (suc m) [] = refl
take-turned (suc n) (suc m) (x ∷ xs) = ap (λ (ys : List ℕ). x ∷ ys) (take-turned n m xs)

-- what a part makes of a line

trimmed_text : (line : List ℕ) (b : Bool) → take (if b then length line - 1 else length line) line ≡ (if b then take (length line - 1) line else line)
trimmed_text line true = refl
trimmed_text line false = take-length line

less : (b : Bool) (n : ℕ) → (if b then n - 1 else n) ≤ n
less true n = omega arith
less false n = omega arith

module _ (limit : ℕ) (front new line chunk : List ℕ) (begun : Begun) (count : ℕ) (h : IsBegun front begun line) (plain : IsPlain (take count chunk)) where
  pub part_too_long : (held : List ℕ) → count ≤ length chunk → limit < begun.count + count → TakesPart limit line chunk part.TooLong new held
  part_too_long held le wide =
      let c = h.count in
      record { into = []; moves = moves-too-long limit line chunk count [] held h.plain plain le (omega (arith, c, wide)); fronts = tt }

  module _ (ends : Bool) (fits : begun.count + count ≤ limit) (le : count ≤ length chunk) (same : length new ≡ length front)
      (kept : take (begun.count + length (take count chunk)) new ≡ take (length front) (line ++ take count chunk))
      (last : ends ≡ returns (line ++ take count chunk)) where
    size : length (line ++ take count chunk) ≡ begun.count + count
    size = let l = length-append line (take count chunk) in let t = length-take-le count chunk le in let c = h.count in omega (arith, l, t, c)

    kept_all : take (begun.count + count) new ≡ take (length new) (line ++ take count chunk)
    kept_all =
        let t = length-take-le count chunk le in
        ap (λ (k : ℕ). take (begun.count + k) new) (sym t) ∙ kept ∙ ap (λ (k : ℕ). take k (line ++ take count chunk)) (sym same)

    pub part_more : count ≡ length chunk → TakesPart limit line chunk (part.More (record { count = begun.count + count; ends_in_return = ends })) new (drop count chunk)
    part_more whole =
        let c = h.count in
        let all : take (begun.count + count) (line ++ take count chunk) ≡ line ++ take count chunk = take_all (begun.count + count) (line ++ take count chunk) (omega (arith, size)) in
        record {
          into = line ++ take count chunk;
          moves = moves-more limit line chunk count (record { count = begun.count + count; ends_in_return = ends }) (line ++ take count chunk) h.plain plain whole (omega (arith, c)) fits all;
          fronts = record {
            plain = plain-at (line ++ take count chunk) (take (begun.count + count) (line ++ take count chunk)) (sym all) (plain-append line (take count chunk) h.plain plain);
            count = ap (λ (xs : List ℕ). length xs) all ∙ size;
            ends = last ∙ ap returns (sym all);
            first = kept_all ∙ ap (λ (xs : List ℕ). take (length new) xs) (sym all);
          };
        }

    pub part_whole : (n : ℕ) → n ≡ (if ends then begun.count + count - 1 else begun.count + count) → count < length chunk → slice_index chunk count ≡ newline
        → TakesPart limit line chunk (part.Whole n) new (drop (count + 1) chunk)
    part_whole n is lt ten =
        let c = h.count in
        let low = less ends (begun.count + count) in
        let small : n ≤ begun.count + count = omega (arith, is, low) in
        let ended = line ++ take count chunk in
        let text : take n ended ≡ without_return ended = (
        ap (λ (k : ℕ). take k ended) (is ∙ ap (λ (k : ℕ). if ends then k - 1 else k) (sym size) ∙ ap (λ (b : Bool). if b then length ended - 1 else length ended) last)
        ∙ trimmed_text ended (returns ended)
        ) in
        record {
          into = ended;
          moves = moves-whole limit line chunk count n ended h.plain plain (omega (arith, c, fits)) lt ten (omega (arith, small, fits)) text;
          fronts = sym (take-less n (begun.count + count) new small) ∙ ap (λ (xs : List ℕ). take n xs) kept_all ∙ take-turned n (length new) ended;
        }

-- a part of what is held
pub part_view : (limit : ℕ) (line held old : List ℕ) (from to used : ℕ) (p : Part) (front : List ℕ) → from + used ≤ to → take (to - from) (drop from held) ≡ old
    → TakesPart limit line (take (to - from) (drop from held)) p front (drop used (take (to - from) (drop from held)))
    → TakesPart limit line old p front (take (to - (from + used)) (drop (from + used) held))
part_view limit line held old from to used p front h e m = record {
  into = m.into;
  moves = moves-view limit line held old from to used p m.into h e m.moves;
  fronts = m.fronts;
}

-- a turn over what is held

pub held_whole : (limit : ℕ) (front line held : List ℕ) (count n : ℕ) (new : Ahead) → new.state ≡ reader.Open → TakesPart limit line held (part.Whole n) front new.held
    → TakesHeld limit line held count (turn.Done (read.Text n)) new front
held_whole limit front line held count n new is p =
    let m = p.moves in
    record { into = p.into; answers = took-whole limit (line ++ held) p.into m.1 n new is m.0 m.2 m.3 m.4 m.5; fronts = p.fronts }

-- a turn

pub turn_held : (limit : ℕ) (tells : Bool) (s : SourceAt) (line held : List ℕ) (count : ℕ) (t : Turn) (new : Ahead) (front : List ℕ)
    → TakesHeld limit line held count t new front → TakesTurn limit tells s s line held count t new front
turn_held limit tells s line held count t new front p = record {
  into = p.into;
  got = [];
  from_source = λ _. refl;
  answers = subst (λ bytes. TurnAnswers limit bytes count t p.into new) (sym (append-nil (line ++ held))) p.answers;
  fronts = p.fronts;
}

pub turn_read : (limit : ℕ) (tells : Bool) (s0 s1 : SourceAt) (line old held : List ℕ) (count : ℕ) (t : Turn) (new : Ahead) (front : List ℕ) → old ≡ []
    → (IsTrue tells → s0.rest ≡ held ++ s1.rest)
    → TakesHeld limit line held count t new front → TakesTurn limit tells s0 s1 line old count t new front
turn_read limit tells s0 s1 line old held count t new front none from p = record {
  into = p.into;
  got = held;
  from_source = from;
  answers = subst (λ bytes. TurnAnswers limit bytes count t p.into new) (sym (ap (λ (o : List ℕ). (line ++ o) ++ held) none ∙ ap (λ (b : List ℕ). b ++ held) (append-nil line))) p.answers;
  fronts = p.fronts;
}

-- nothing was there

bytes_none : (line old held : List ℕ) → old ≡ [] → held ≡ [] → (line ++ old) ++ held ≡ line
bytes_none line old held a b =
    ap (λ (o : List ℕ). (line ++ o) ++ held) a ∙ ap (λ (h : List ℕ). (line ++ []) ++ h) b ∙ append-nil (line ++ []) ∙ append-nil line

pub turn_rest : (limit : ℕ) (tells : Bool) (s0 s1 : SourceAt) (line old : List ℕ) (begun : Begun) (new : Ahead) (front : List ℕ) → old ≡ [] → new.held ≡ []
    → new.state ≡ reader.AtEnd → IsBegun front begun line
    → (begun.count ≡ 0 → ⊥) → begun.count ≤ limit → (IsTrue tells → s0.rest ≡ new.held ++ s1.rest)
    → TakesTurn limit tells s0 s1 line old begun.count (turn.Done (read.Text begun.count)) new front
turn_rest limit tells s0 s1 line old begun new front none left is h some few from =
    let size = h.count in
    let all : take begun.count line ≡ line = take_all begun.count line (omega (arith, size)) in
    record {
      into = line;
      got = new.held;
      from_source = from;
      answers = (
        few,
        line,
        bytes_none line old new.held none left ∙ sym (ap (λ (xs : List ℕ). line ++ xs) left ∙ append-nil line),
        (line, h.plain, omega (arith, size, few), inr (refl, all, omega (arith, size, some), left, is)),
      );
      fronts = h.first ∙ ap (λ (xs : List ℕ). take (length front) xs) (sym all);
    }

-- the turns so far
pub record SoFar (tells : Bool) (s0 s1 : SourceAt) (old held front : List ℕ) (begun : Begun) : Type 0 where
  pub line : List ℕ
  pub is : IsBegun front begun line
  pub got : List ℕ
  pub from : IsTrue tells → s0.rest ≡ got ++ s1.rest
  pub joined : old ++ got ≡ line ++ held

-- nothing has come
pub none_begun : (front : List ℕ) → IsBegun front (record { count = 0; ends_in_return = false }) []
none_begun front = record { plain = tt; count = refl; ends = refl; first = sym (take_all (length front) [] (omega arith)) }

pub so_far_none : (tells : Bool) (s : SourceAt) (old front : List ℕ) → SoFar tells s s old old front (record { count = 0; ends_in_return = false })
so_far_none tells s old front = record { line = []; is = none_begun front; got = []; from = λ _. refl; joined = append-nil old }

-- a call

pub is_within : (limit : ℕ) (bytes into : List ℕ) (answer : LineRead) (new : Ahead) → Took limit bytes answer into new → IsWithin limit answer
is_within limit bytes into (read.Text n) new t = t.0
is_within limit bytes into read.End new t = tt
is_within limit bytes into read.TooLong new t = tt
is_within limit bytes into read.Failed new t = tt

-- where there is room for the whole line, it is in front
pub took_front : (limit : ℕ) (bytes into front : List ℕ) (answer : LineRead) (new : Ahead) → FrontOf limit answer into front → Took limit bytes answer into new → Took limit bytes answer front new
took_front limit bytes into front (read.Text n) new f t =
    let small = t.0 in
    let short : length (take n into) ≤ limit = omega (arith, small, length-take n into) in
    let same : take n front ≡ take n into = f ∙ take_all limit (take n into) short in
    (t.0, t.1, t.2, subst (λ (text : List ℕ). IsLineText limit t.1 text new) (sym same) t.3)
took_front limit bytes into front read.End new f t = t
took_front limit bytes into front read.TooLong new f t = t
took_front limit bytes into front read.Failed new f t = t

-- a line that is held whole
pub held_text : (room limit : ℕ) (front held : List ℕ) (n : ℕ) (new : Ahead) → room ≡ limit → length front ≡ room → new.state ≡ reader.Open
    → TakesPart room [] held (part.Whole n) front new.held → Took limit held (read.Text n) front new
held_text room limit front held n new same wide is p =
    let m = p.moves in
    let f : FrontOf room (read.Text n) p.into front = subst (λ (k : ℕ). FrontOf k (read.Text n) p.into front) wide p.fronts in
    let t : Took room held (read.Text n) front new = took_front room held p.into front (read.Text n) new f (took-whole room held p.into m.1 n new is m.0 m.2 m.3 m.4 m.5) in
    subst (λ (k : ℕ). Took k held (read.Text n) front new) same t

pub next_open : (limit : ℕ) (tells : Bool) (s0 s1 : SourceAt) (old new : Ahead) (front : List ℕ) (answer : LineRead) → length front ≡ limit → old.state ≡ reader.Open
    → TakesFront limit tells s0 s1 old new front answer → Next limit tells s0 s1 old new front answer
next_open limit tells s0 s1 old new front answer room is t =
    let k = t.takes in
    let f : FrontOf limit answer t.into front = subst (λ (n : ℕ). FrontOf n answer t.into front) room t.fronts in record {
      takes = λ _. record {
        got = k.got;
        from_source = k.from_source;
        took = took_front limit (old.held ++ k.got) t.into front answer new f k.took;
        faults = k.faults;
        at_end = k.at_end;
        no_end = k.no_end;
        asked = k.asked;
        few = k.few;
      };
      again = λ n. absurd (n is);
    }
