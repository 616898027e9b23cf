use Rattle.std.proofs.Common.{arith, rules, ◌≡◌, ◌∙◌, ◌++◌, ◌∷◌, [], ◌≤◌, List, length, map, take, ap, subst, sym}
use Rattle.std.proofs.Math.Seq.{take-append_seam}
use Rattle.std.proofs.lemmas.List.{map-append}
use Rattle.sx_sched.specs.Lines.{Line}
use Rattle.sx_sched.specs.Seen.{line_of}
use Rattle.sx_sched.specs.declared.lines.Line.{Line as Read}
use Rattle.spec_run.specs.Setting.{Site}
use Rattle.sx_world.specs.Held.{Held}
use Rattle.sx_snap.specs.Kept.{Kept, first_sites}
use Rattle.sx_snap.proofs.Longer.{first_kept, on_ok}
use Rattle.sx_snap.proofs.timeline.Timeline.push_both.Goals.{in-Ok, in-Err}
use Rattle.sx_snap.proofs.timeline.Timeline.push_both.Goals as goal
use Rattle.lemmas.proofs.Results.{on_any_err}

pub returns-clause-ok : goal.returns-clause-ok
returns-clause-ok g c = elim c.match-push.branch [
  | in-Ok w ↦
      let line = line_of c.args.line in
      let cs = c.self.inside.checkpoints.items in
      let ls = c.self.inside.lines.items in
      let ev = c.self.inside.every in
      let whole = cs ++ c.args.world ∷ [] in
      let some : 1 ≤ length cs = subst (λ (n : List Held). 1 ≤ length n) (sym (ap (λ (k : Kept). k.checkpoints) c.self.view_is)) c.requires in
      let longer : Kept → Kept = λ k. record { sites = k.sites; lines = k.lines ++ line ∷ []; every = k.every; checkpoints = k.checkpoints ++ c.args.world ∷ [] } in
      let one = ap (λ (l : List Read). map line_of l) c.in_ok-push.ensures.items ∙ map-append line_of ls (c.args.line ∷ []) in
      on_ok c.match-push.result _ (w.self-is
      ∙ ap (λ (x : List Held). record { sites = first_sites x; lines = map line_of c.push.new.self.items; every = ev; checkpoints = x }) w.in-Ok.ensures.items
      ∙ ap (λ (l : List Line). record { sites = first_sites whole; lines = l; every = ev; checkpoints = whole }) one
      ∙ ap (λ (s : List Site). record { sites = s; lines = map line_of ls ++ line ∷ []; every = ev; checkpoints = whole }) (first_kept cs c.args.world some)
      ∙ ap longer c.self.view_is)
  | in-Err w ↦ search rules
]

pub returns-clause-err : goal.returns-clause-err
returns-clause-err g c = elim c.match-push.branch [
  | in-Ok w ↦ search rules
  | in-Err w ↦
      let cs = c.self.inside.checkpoints.items in
      let ls = c.self.inside.lines.items in
      let ev = c.self.inside.every in
      let count : c.len-count.result ≡ length ls = omega (arith, c.len-count.ensures, c.self.inside.lines.ok) in
      let back = w.truncate.ensures.items ∙ ap (λ n. take n c.push.new.self.items) count ∙ ap (λ (l : List Read). take (length ls) l) c.in_ok-push.ensures.items
      ∙ take-append_seam ls (c.args.line ∷ []) in
      on_any_err c.match-push.result (w.self-is
      ∙ ap (λ (x : List Held). record { sites = first_sites x; lines = map line_of w.truncate.new.self.items; every = ev; checkpoints = x }) w.in-Err.ensures.items
      ∙ ap (λ (l : List Read). record { sites = first_sites cs; lines = map line_of l; every = ev; checkpoints = cs }) back
      ∙ c.self.view_is)
]
