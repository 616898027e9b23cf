-- An honest run's items are legal, and lead the source model to where its course says.
use Rattle.std.proofs.Common.{◌++◌, Some, sym, ◌∙◌, ◌≡◌, ◌≤◌, true, List, length, ap, refl, arith}
use Rattle.std.specs.Prelude.{option_map}
use Rattle.sx_mean.specs.Application.{AppTree}
use Rattle.sx_mean.specs.Validity.{is_valid}
use Rattle.std.proofs.lemmas.List.{append-nil}
use Rattle.sx_mean.proofs.ValidApplications.{valid_applications}
use Rattle.sx_model.specs.State.{FIELDS, Model, power_on}
use Rattle.sx_model.specs.Legal.{after}
use Rattle.spec_honest.specs.Plain.{MOST_DELIVERIES, Sampling, Waiting}
use Rattle.spec_honest.specs.Course.{Course, IsHonest, course_start, words_over}
use Rattle.spec_honest.specs.Told.{Taken, numbered}
use Rattle.spec_honest.specs.Laws.{HonestDelivers}
use Rattle.spec_honest.proofs.Agreement.{Agrees}
use Rattle.spec_honest.proofs.Course.{Keeps, played_keeps, total}
use Rattle.spec_honest.proofs.AsPlain.{honest_is_as_plain, told_delivered, told_sensed, told_start}
use Rattle.spec_honest.proofs.Agreed.{fields_enough, Stands, delivered_agrees, sensed_agrees}
use Rattle.spec_honest.proofs.Setup.{map_long, set_up}

keeps_stands : (app : AppTree) → is_valid app ≡ true → Keeps app 65535 (λ c. Stands app c)
keeps_stands app valid = record {
  reading = λ r c is still h few. sensed_agrees app r c valid is few (told_sensed app r c is h.told) h;
  delivery = λ w ws c waits h few. delivered_agrees app w ws c valid waits few (told_delivered app w ws c valid waits h.told) h;
}

stands_first : (app : AppTree) → is_valid app ≡ true → Stands app (course_start app)
stands_first app valid =
    let s = set_up app valid in
    record {
      told = told_start app;
      long = map_long _ app.parts;
      model = s.model;
      ran = s.ran;
      agrees = s.agrees;
    }

-- an honest run's items are legal, and lead the source model to where its course says
pub record IsLegalRun (app : AppTree) (c : Course) : Type 0 where
  pub model : Model
  pub is : after app (power_on app) c.items ≡ Some model
  pub agrees : Agrees app c.plain c.past model

pub honest_is_legal : (app : AppTree) (rs : List Sampling) (c : Course) → IsHonest app rs c → IsLegalRun app c
honest_is_legal app rs c h =
    let still : length c.plain.waiting ≡ 0 = ap (λ (ws : List Waiting). length ws) (honest_is_as_plain app rs c h).still in
    let few : total c ≤ 65535 = (let lines = h.lines in omega (arith, lines, still)) in
    let k = (played_keeps app 65535 (λ c. Stands app c) (keeps_stands app h.valid) MOST_DELIVERIES rs (course_start app) c h.readings (stands_first app h.valid) refl h.course few).0 in
    record { model = k.model; is = k.ran; agrees = k.agrees }

pub honest_delivers : HonestDelivers
honest_delivers app rs c h =
    let run = honest_is_legal app rs c h in
    let plain = honest_is_as_plain app rs c h in
    let links : length app.links ≤ FIELDS = fields_enough (length app.links) (valid_applications app h.valid).few_links in
    let all : c.past ++ c.plain.waiting ≡ c.past = (ap (λ ws. c.past ++ ws) plain.still ∙ append-nil c.past) in
    record {
      model = run.model;
      legal = run.is;
      unforged = plain.well;
      delivered = λ k within.
          ap (λ o. option_map (numbered 0) o) (run.agrees.sent k (omega (arith, within, links)) ∙ ap (λ ws. Some (words_over k ws)) all)
          ∙ ap (λ (ts : List Taken). Some ts) (sym (plain.takes k));
      outputs = plain.outputs;
    }
