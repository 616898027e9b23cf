-- What is written of an honest run, reading by reading.
use Rattle.std.proofs.Common.{◌≡◌, ◌∙◌, ℕ, ◌+◌, Bool, true, false, List, [], ◌∷◌, ◌++◌, refl, ap, append_assoc, Result, Ok, Err}
use Rattle.std.specs.Prelude.{if◌then◌else◌}
use Rattle.sx_io.specs.Reading.{Answer}
use Rattle.sx_io.specs.Reading as answer
use Rattle.command_promise.specs.declared.status.Status.TheVariants.{Done}
use Rattle.command_promise.specs.Told.{Output, behind, unread_output}
use Rattle.sx_trace.specs.Names.{NameLists}
use Rattle.sx_deploy.specs.Deployment.{Deployed}
use Rattle.spec_run.specs.Setting.{Setting}
use Rattle.sx_drive.specs.Honest.{Driven, Honest, Said, each, reads, setup, start}
use Rattle.sx_drive.specs.Driving.{reading}
use Rattle.command_world.specs.Schedule.{Stop, AtEnd, Unread, Breaks}
use Rattle.command_drive.specs.declared.readings.ReadingLine.{ReadingLine}
use Rattle.command_drive.specs.declared.readings.ReadingLine.TheVariants as says
use Rattle.command_drive.specs.declared.readings.ReadingRule.{ReadingRule}
use Rattle.command_drive.specs.Output.{drive_readings, ended_output, long_output, reading_fault, said_text, steps_text, stop_output, told_run}
use Rattle.command_drive.specs.Parts.{drive_from, readings_output, part_output}
use Rattle.command_drive.specs.Input.{Readings, judged_reading, on_line, readings_from, rule_number}
use Rattle.command_drive.proofs.Quiet.{AreReadings, Quiet, quiet_readings}
use Rattle.command_drive.proofs.Sensors.{readings_given}
use Rattle.command_drive.proofs.Telling.{said_append}
use Rattle.command_drive.proofs.Ways.{AreThere}

-- the end of a run of which no line was left out
pub ended_short : (h : Honest) (stop : Stop) → h.long ≡ false → ended_output h stop ≡ stop_output h.world.steps stop
ended_short h stop e = ap (λ (b : Bool). if b then long_output else stop_output h.world.steps stop) e

pub ended_long : (h : Honest) (stop : Stop) → h.long ≡ true → ended_output h stop ≡ long_output
ended_long h stop e = ap (λ (b : Bool). if b then long_output else stop_output h.world.steps stop) e

-- what a part says comes before what the rest says
said_then : (names : NameLists) (a b : Driven) (o : Output) → behind (said_text names (a.said ++ b.said)) o ≡ behind (said_text names a.said) (behind (said_text names b.said) o)
said_then names a b o =
    ap (λ (t : List ℕ). record { text = t; status = o.status })
    (ap (λ (t : List ℕ). t ++ o.text) (said_append names a.said b.said) ∙ append_assoc (said_text names a.said) (said_text names b.said) o.text)

-- the rest says nothing
quiet_rest : (names : NameLists) (b : Driven) (stop : Stop) → Quiet b → told_run names b stop ≡ long_output
quiet_rest names b stop q = ap (λ (xs : List Said). behind (said_text names xs) (ended_output b.honest stop)) q.nothing ∙ ended_long b.honest stop q.long

-- a part, and the readings after it
part_rest : (d : Deployed) (set : Setting) (a : Driven) (x : Readings) (b : Bool) → a.honest.long ≡ b → AreThere d.names set → AreReadings d x.readings
    → told_run d.names (record { honest = (each (reads set) x.readings a.honest).honest; said = a.said ++ (each (reads set) x.readings a.honest).said }) x.stop
    ≡ behind (said_text d.names a.said) (if b then long_output else readings_output d.names set a.honest x)
part_rest d set a x false e there are =
    let rest = each (reads set) x.readings a.honest in said_then d.names a rest (ended_output rest.honest x.stop)
part_rest d set a x true e there are =
    let rest = each (reads set) x.readings a.honest in
    said_then d.names a rest (ended_output rest.honest x.stop)
    ∙ ap (λ (o : Output). behind (said_text d.names a.said) o) (quiet_rest d.names rest x.stop (quiet_readings d set there x.readings a.honest are e))

module _ (d : Deployed) (set : Setting) (h : Honest) (number : ℕ) (text : List ℕ) where
  on_text : (more : List Answer) (r : Result ReadingLine ReadingRule) → judged_reading d number text ≡ r
      → drive_from d set h number (answer.Line text ∷ more) ≡ readings_output d.names set h (on_line number r (readings_from d (number + 1) more))
  unfolding drive_from
  on_text more r e = ap (λ (r : Result ReadingLine ReadingRule). readings_output d.names set h (on_line number r (readings_from d (number + 1) more))) e

  -- a line without a reading
  pub drive_blank : (more : List Answer) → judged_reading d number text ≡ Ok says.Blank → drive_from d set h number (answer.Line text ∷ more) ≡ drive_from d set h (number + 1) more
  unfolding drive_from
  drive_blank more e = on_text more (Ok says.Blank) e

  -- a reading, and what follows where it leads
  pub drive_reading : (device value : ℕ) (more : List Answer) → AreThere d.names set → judged_reading d number text ≡ Ok (says.Reading device value)
      → drive_from d set h number (answer.Line text ∷ more) ≡ part_output d.names (reading device value set h) (λ g. drive_from d set g (number + 1)) more
  unfolding drive_from
  drive_reading device value more there e =
      let a = reading device value set h in
      on_text more (Ok (says.Reading device value)) e
      ∙ part_rest d set a (readings_from d (number + 1) more) a.honest.long refl there (readings_given d (number + 1) more)

  -- a line that breaks a rule
  pub drive_breaks : (rule : ReadingRule) (more : List Answer) → h.long ≡ false → judged_reading d number text ≡ Err rule
      → drive_from d set h number (answer.Line text ∷ more) ≡ reading_fault (rule_number rule) number
  drive_breaks rule more short e = on_text more (Err rule) e ∙ ended_short h (Breaks (rule_number rule) number) short

-- ---- the last answer

module _ (d : Deployed) (set : Setting) (h : Honest) (number : ℕ) (short : h.long ≡ false) where
  pub drive_ended : drive_from d set h number (answer.End ∷ []) ≡ record { text = steps_text h.world.steps; status = Done }
  unfolding drive_from
  drive_ended = ended_short h AtEnd short

  pub drive_too_long : drive_from d set h number (answer.Long ∷ []) ≡ reading_fault 1 number
  unfolding drive_from
  drive_too_long = ended_short h (Breaks 1 number) short

  pub drive_unread : drive_from d set h number (answer.Fault ∷ []) ≡ unread_output
  unfolding drive_from
  drive_unread = ended_short h Unread short

-- ---- from power-on

-- the set-up, and what follows where it leads
pub drive_set_up : (d : Deployed) (set : Setting) (more : List Answer) → AreThere d.names set
    → drive_readings d set more ≡ part_output d.names (setup set (start set)) (λ g. drive_from d set g 1) more
unfolding drive_from drive_readings
drive_set_up d set more there =
    let a = setup set (start set) in part_rest d set a (readings_from d 1 more) a.honest.long refl there (readings_given d 1 more)
