-- From the answers that the lines of an input give to the readings of an honest run. Nothing is
-- said here of what is written.
use Rattle.std.specs.Prelude.{ℕ, ◌+◌, nat_lt, if◌then◌else◌, List, [], ◌∷◌}
use Rattle.std.specs.Prelude.{Option, option_and_then, option_map, Result, Ok, Err, ok_or}
use Rattle.sx_io.specs.Numbers.{number_of}
use Rattle.sx_io.specs.Reading.{Answer, End, Long, Fault}
use Rattle.sx_io.specs.Reading as answer
use Rattle.sx_mean.specs.Application.{AppTree}
use Rattle.sx_trace.specs.Names.{sensor_place}
use Rattle.sx_sched.specs.Words.{words_of, one_word}
use Rattle.sx_sched.specs.Reading.{is_comment}
use Rattle.sx_deploy.specs.Deployment.{Deployed}
use Rattle.sx_drive.specs.Honest.{Reading}
use Rattle.spec_honest.specs.Plain.{driver_of}
use Rattle.command_world.specs.Schedule.{Stop, AtEnd, Unread, Breaks}
use Rattle.command_drive.specs.declared.readings.ReadingLine.{ReadingLine}
use Rattle.command_drive.specs.declared.readings.ReadingLine.TheVariants as says
use Rattle.command_drive.specs.declared.readings.ReadingRule.{ReadingRule}
use Rattle.command_drive.specs.declared.readings.ReadingRule.TheVariants.{TooLong, TooMany}
use Rattle.command_drive.specs.declared.readings.ReadingRule.TheVariants.{WrongCount, NoSensor}
use Rattle.command_drive.specs.declared.readings.ReadingRule.TheVariants.{NoValue}

-- the number of a rule, as it is printed
abbrev pub rule_number : ReadingRule → ℕ
rule_number TooLong = 1
rule_number TooMany = 2
rule_number WrongCount = 3
rule_number NoSensor = 4
rule_number NoValue = 5

-- the first answer, and what is made of it
infixl 10 ◌>>=◌
abbrev pub ◌>>=◌ : {A B : Type 0} → Result A ReadingRule → (A → Result B ReadingRule)
    → Result B ReadingRule
Ok x >>= f = f x
Err rule >>= f = Err rule

-- the device, if a module drives it
abbrev pub if_driven : AppTree → ℕ → Option ℕ
if_driven app device = option_map (λ (driver : ℕ). device) (driver_of app device)

-- the sensor of this name, which a module drives
abbrev pub sensor_in : Deployed → List ℕ → Result ℕ ReadingRule
sensor_in d word = ok_or (option_and_then (if_driven d.app) (sensor_place d.names word)) NoSensor

-- a value that a sensor can have
abbrev pub value_in : List ℕ → Result ℕ ReadingRule
value_in word = ok_or (number_of word 32767) NoValue

-- a sensor and its value
abbrev pub reading_in : Deployed → List ℕ → List (List ℕ) → Result ReadingLine ReadingRule
reading_in d first words = do
  second ← ok_or (one_word words) WrongCount
  device ← sensor_in d first
  value ← value_in second
  Ok (says.Reading device value)

-- what words say; none say nothing, as a comment does
abbrev pub said_in : Deployed → List (List ℕ) → Result ReadingLine ReadingRule
said_in d [] = Ok says.Blank
said_in d (first ∷ words) = if is_comment first then Ok says.Blank else reading_in d first words

-- What the line with this number, counted from 1, says; or the first rule that it breaks. There are
-- at most 65,536 lines, blank ones counted.
unfoldable pub judged_reading : Deployed → ℕ → List ℕ → Result ReadingLine ReadingRule
judged_reading d number text =
    if nat_lt 65536 number then Err TooMany else said_in d (words_of text)

-- memory may run out at a reading, and at no line that says none or breaks a rule
abbrev pub MayRunOut : Result ReadingLine ReadingRule → Type 0
MayRunOut (Ok (says.Reading device value)) = Unit {0}
MayRunOut _ = ⊥

-- the readings before the place where the lines end or break a rule, and that place
pub record Readings : Type 0 where
  pub readings : List Reading
  pub stop : Stop

-- readings that stop at once
abbrev pub stops : Stop → Readings
stops stop = record { readings = []; stop = stop }

-- the readings that begin with this line, or stop at it
abbrev pub on_line : ℕ → Result ReadingLine ReadingRule → Readings → Readings
on_line number (Err rule) rest = stops (Breaks (rule_number rule) number)
on_line number (Ok says.Blank) rest = rest
on_line number (Ok (says.Reading device value)) rest = record {
  readings = record { device = device; value = value } ∷ rest.readings;
  stop = rest.stop;
}

-- the readings from the line with this number on
abbrev pub readings_from : Deployed → ℕ → List Answer → Readings
readings_from d number [] = stops AtEnd
readings_from d number (End ∷ more) = stops AtEnd
readings_from d number (Long ∷ more) = stops (Breaks (rule_number TooLong) number)
readings_from d number (Fault ∷ more) = stops Unread
readings_from d number (answer.Line text ∷ more) =
    on_line number (judged_reading d number text) (readings_from d (number + 1) more)
