-- What is left of a part of an honest run, and what was said so far.
use Rattle.std.proofs.Common.{◌≡◌, ◌++◌, List, [], Result, Ok, Err, IsErr, inl, inr, refl, sym, subst, ap, ◌∙◌}
use Rattle.std.proofs.lemmas.List.{append_assoc, append-nil}
use Rattle.sx_tag.specs.Mac.{Mac}
use Rattle.sx_deploy.specs.declared.deployment.Deployment.{Deployment}
use Rattle.spec_run.specs.Setting.{Setting}
use Rattle.sx_world.specs.Held.{Held}
use Rattle.sx_drive.specs.declared.said.Said.{Said as Told}
use Rattle.sx_drive.specs.Honest.{Said, Honest, Driven, still, then_}
use Rattle.sx_drive.specs.Driving.{Kept, Follows, LosesNothing, SaysLast, Did, Wanted, Does, GoesOn, all_said}

-- a part of an honest run
abbrev pub Part : Type 0
Part = Setting → Honest → Driven

-- Where the run is, with this left of the whole, and what was said before.
pub record At (mac : Mac) (d : Deployment) (old now : Kept) (before came : List Told) (set : Setting) (whole : Driven) (left : Part) : Type 0 where
  pub honest : Honest
  pub said : List Said
  pub follows : Follows mac d now set honest
  pub added : all_said came ≡ all_said before ++ said
  pub ends : (left set honest).honest ≡ whole.honest
  pub says : said ++ (left set honest).said ≡ whole.said
  pub lossless : LosesNothing old.world now.world (all_said before) (all_said came)

-- Of a part this much is left.
abbrev pub Remains : Mac → Deployment → Part → Part → Kept → Kept → List Told → List Told → Type 0
Remains mac d whole left old now before came =
    (set : Setting) (h : Honest) → Follows mac d old set h → At mac d old now before came set (whole set h) left

-- two parts that lose nothing, one after the other, lose nothing
pub loses_then : (old mid new : Held) (before among after : List Said) → LosesNothing old mid before among → LosesNothing mid new among after → LosesNothing old new before after
loses_then old mid new before among after (inl a) (inl b) = inl (b.0 ∙ a.0, b.1 ∙ a.1)
loses_then old mid new before among after (inr a) (inl b) =
    let P : Held → Type 0 = λ w. SaysLast w after in
    let Q : List Said → Type 0 = λ said. SaysLast mid said in
    inr (subst P (sym b.0) (subst Q (sym b.1) a))
loses_then old mid new before among after (inl a) (inr b) = inr b
loses_then old mid new before among after (inr a) (inr b) = inr b

-- nothing was done yet
pub remains_start : (mac : Mac) (d : Deployment) (whole : Part) (old : Kept) (before : List Told) → Remains mac d whole whole old old before before
remains_start mac d whole old before = λ set h f. record {
  honest = h;
  said = [];
  follows = f;
  added = sym (append-nil (all_said before));
  ends = refl;
  says = refl;
  lossless = inl (refl, refl);
}

-- one more part was done
pub remains_on : (mac : Mac) (d : Deployment) (whole left part rest : Part) (old now new : Kept) (before came after : List Told)
    → Remains mac d whole left old now before came
    → ((set : Setting) (h : Honest) → Follows mac d now set h → left set h ≡ then_ (part set h) (rest set))
    → Did mac d now new came after part → Remains mac d whole rest old new before after
remains_on mac d whole left part rest old now new before came after remains same did = λ set h f.
    let a = remains set h f in
    let e = same set a.honest a.follows in
    let g = did set a.honest a.follows in
    let p = part set a.honest in record {
      honest = p.honest;
      said = a.said ++ p.said;
      follows = g.0;
      added = g.1 ∙ ap (λ xs. xs ++ p.said) a.added ∙ append_assoc (all_said before) a.said p.said;
      ends = ap (λ (x : Driven). x.honest) (sym e) ∙ a.ends;
      says = append_assoc a.said p.said (rest set p.honest).said ∙ ap (λ (x : Driven). a.said ++ x.said) (sym e) ∙ a.says;
      lossless = loses_then old.world now.world new.world (all_said before) (all_said came) (all_said after) a.lossless g.2;
    }

-- memory ran out in a part
pub remains_wanted : (mac : Mac) (d : Deployment) (whole left part rest : Part) (old now new : Kept) (before came after : List Told)
    → Remains mac d whole left old now before came
    → ((set : Setting) (h : Honest) → Follows mac d now set h → left set h ≡ then_ (part set h) (rest set))
    → Wanted mac d now new came after part → Wanted mac d old new before after whole
remains_wanted mac d whole left part rest old now new before came after remains same wanted = λ set h f.
    let a = remains set h f in
    let e = same set a.honest a.follows in
    let both = wanted set a.honest a.follows in
    let w = both.0 in
    let p = part set a.honest in
    let more = (rest set p.honest).said in (
      record {
        front = a.said ++ w.front;
        rest = w.rest ++ more;
        added = w.added ∙ ap (λ xs. xs ++ w.front) a.added ∙ append_assoc (all_said before) a.said w.front;
        prefix = append_assoc a.said w.front (w.rest ++ more) ∙ ap (λ xs. a.said ++ xs) (sym (append_assoc w.front w.rest more)
            ∙ ap (λ xs. xs ++ more) w.prefix ∙ ap (λ (x : Driven). x.said) (sym e)) ∙ a.says;
      },
      loses_then old.world now.world new.world (all_said before) (all_said came) (all_said after) a.lossless both.1,
    )

-- nothing is left
pub remains_none : (mac : Mac) (d : Deployment) (whole left : Part) (old now : Kept) (before came : List Told)
    → Remains mac d whole left old now before came
    → ((set : Setting) (h : Honest) → Follows mac d now set h → left set h ≡ still h) → Did mac d old now before came whole
remains_none mac d whole left old now before came remains none = λ set h f.
    let a = remains set h f in
    let e = none set a.honest a.follows in (
      subst (λ x. Follows mac d now set x) (sym (ap (λ (x : Driven). x.honest) e) ∙ a.ends) a.follows,
      a.added ∙ ap (λ xs. all_said before ++ xs) (sym (append-nil a.said) ∙ ap (λ (x : Driven). a.said ++ x.said) (sym e) ∙ a.says),
      a.lossless,
    )

-- the last part was done, or memory ran out in it
pub remains_last : {X E : Type 0} (mac : Mac) (d : Deployment) (r : Result X E) (whole left part : Part) (old now new : Kept) (before came after : List Told)
    → Remains mac d whole left old now before came
    → ((set : Setting) (h : Honest) → Follows mac d now set h → left set h ≡ part set h)
    → Does mac d r now new came after part → Does mac d r old new before after whole
remains_last mac d (Ok x) whole left part old now new before came after remains same did = λ set h f.
    let a = remains set h f in
    let e = same set a.honest a.follows in
    let g = did set a.honest a.follows in
    let p = part set a.honest in (
      subst (λ y. Follows mac d new set y) (ap (λ (y : Driven). y.honest) (sym e) ∙ a.ends) g.0,
      g.1 ∙ ap (λ xs. xs ++ p.said) a.added ∙ append_assoc (all_said before) a.said p.said
          ∙ ap (λ xs. all_said before ++ xs) (ap (λ (y : Driven). a.said ++ y.said) (sym e) ∙ a.says),
      loses_then old.world now.world new.world (all_said before) (all_said came) (all_said after) a.lossless g.2,
    )
remains_last mac d (Err x) whole left part old now new before came after remains same wanted = λ set h f.
    let a = remains set h f in
    let e = same set a.honest a.follows in
    let both = wanted set a.honest a.follows in
    let w = both.0 in (
      record {
        front = a.said ++ w.front;
        rest = w.rest;
        added = w.added ∙ ap (λ xs. xs ++ w.front) a.added ∙ append_assoc (all_said before) a.said w.front;
        prefix = append_assoc a.said w.front w.rest ∙ ap (λ xs. a.said ++ xs) (w.prefix ∙ ap (λ (y : Driven). y.said) (sym e)) ∙ a.says;
      },
      loses_then old.world now.world new.world (all_said before) (all_said came) (all_said after) a.lossless both.1,
    )

-- memory ran out in a call
pub does_err : {X E : Type 0} (mac : Mac) (d : Deployment) (r : Result X E) (old new : Kept) (before after : List Told) (act : Part) → IsErr r
    → Wanted mac d old new before after act → Does mac d r old new before after act
does_err mac d (Ok x) old new before after act e wanted = absurd cc
does_err mac d (Err x) old new before after act e wanted = wanted

-- what was done leads on
pub still_goes : (mac : Mac) (d : Deployment) (old new : Kept) (before after : List Told) (act : Part)
    → GoesOn mac d old → Did mac d old new before after act → GoesOn mac d new
still_goes mac d old new before after act goes did = record {
  set = goes.set;
  honest = (act goes.set goes.honest).honest;
  follows = (did goes.set goes.honest goes.follows).0;
  deployed = goes.deployed;
  sound = goes.sound;
}
