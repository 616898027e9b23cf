-- What a line of readings says is a reading of the deployment: a sensor that a module drives, with a value that it can have.
use Rattle.std.proofs.Common.{◌≡◌, ◌∙◌, ◌||◌, ◌+◌, ◌<◌, ◌≤◌, ℕ, suc, Bool, true, false, List, [], ◌∷◌, length, map, Option, Some, None, Result, Ok, Err, refl, sym, ap, subst, arith}
use Rattle.std.proofs.lemmas.List.{length-map}
use Rattle.std.proofs.lemmas.List.Quantifiers.{position-Some}
use Rattle.std.specs.Prelude.{IsSome, cond, if◌then◌else◌, is_some, nat_lt, ok_or, option_and_then, option_map, slice_get}
use Rattle.std.specs.List.{position_from}
use Rattle.std.specs.Str.{bytes_eq}
use Rattle.lemmas.proofs.Lists.{get_some}
use Rattle.sx_io.specs.Numbers.{number_of}
use Rattle.sx_io.specs.Reading.{Answer, End, Long, Fault}
use Rattle.sx_io.specs.Reading as answer
use Rattle.sx_mean.specs.Application.{AppTree, PartTree}
use Rattle.sx_mean.specs.Validity.{same_device}
use Rattle.sx_mean.specs.declared.apps.Part.{Part}
use Rattle.sx_mean.specs.View.{part_as}
use Rattle.sx_index.specs.Places.{place_of}
use Rattle.sx_trace.specs.Names.{NameLists, if_sensor, sensor_place}
use Rattle.sx_sched.specs.Reading.{is_comment}
use Rattle.sx_sched.specs.Words.{one_word, words_of}
use Rattle.sx_sched.proofs.Form.{number_within, sensor_get}
use Rattle.sx_deploy.specs.Deployment.{Deployed}
use Rattle.sx_deploy.specs.SeenDeployment.{deployed_as}
use Rattle.sx_deploy.specs.declared.deployment.Deployment.{Deployment}
use Rattle.sx_drive.specs.Honest.{Callee, callee_at, driver_of as driver_in}
use Rattle.law_honest.proofs.Tracking.{drivers_same}
use Rattle.sx_drive.specs.Driving.{IsDrivenSensor}
use Rattle.command_drive.specs.declared.readings.ReadingLine.{ReadingLine}
use Rattle.command_drive.specs.declared.readings.ReadingLine.TheVariants as says
use Rattle.command_drive.specs.declared.readings.ReadingRule.{ReadingRule}
use Rattle.command_drive.specs.declared.readings.ReadingRule.TheVariants.{TooMany, WrongCount, NoSensor, NoValue}
use Rattle.command_drive.specs.Parts.{IsGiven, drives, is_driven}
use Rattle.command_drive.specs.Input.{◌>>=◌, Readings, if_driven, judged_reading, on_line, reading_in, readings_from, said_in, sensor_in, value_in}
use Rattle.command_drive.proofs.Quiet.{AreReadings}

-- ---- words

ok_some : {A : Type 0} (o : Option A) (e : ReadingRule) (x : A) → ok_or o e ≡ Ok x → o ≡ Some x
ok_some None e x h = absurd (cc h)
ok_some (Some y) e x h = let same : y ≡ x = cc in ap (λ z. Some z) same

-- a sensor that was found has a name
record IsSensor (names : NameLists) (i : ℕ) : Type 0 where
  there : i < length names.devices
  sensor : slice_get names.sensors i ≡ Some true

sensor_there : (names : NameLists) (word : List ℕ) (i : ℕ) → sensor_place names word ≡ Some i → IsSensor names i
sensor_there names word i h = by_place (place_of names.devices word) refl h
  where
    by_place : (o : Option ℕ) → place_of names.devices word ≡ o → option_and_then (if_sensor names.sensors) o ≡ Some i → IsSensor names i
    by_place None e f = absurd (cc)
    by_place (Some d) e f =
        let got = sensor_get names.sensors d i f in
        subst (λ (k : ℕ). IsSensor names k) got.0 (record { there = (position-Some (λ x. bytes_eq x word) names.devices d [] e).0; sensor = got.1 })

-- the run of the code finds a driver just where the application has one

callee_there : (app : AppTree) (m device : ℕ) → m < length app.parts → option_map (λ (driver : Callee). device) (callee_at app m) ≡ Some device
callee_there app m device h =
    let got = get_some app.parts m h in
    ap (λ (o : Option PartTree). option_map (λ (driver : Callee). device) (option_map (λ (q : PartTree). record { part = m; node = q.node }) o)) got.1

place_inside : (device k p : ℕ) (qs : List PartTree) → position_from (λ (q : PartTree). same_device (Some device) q.device) k qs ≡ Some p → p < k + length qs
place_inside device k p [] e = absurd (cc e)
place_inside device k p (q ∷ qs) e = by_first (same_device (Some device) q.device) e (λ f. let rest = place_inside device (k + 1) p qs f in omega (arith, rest))
  where
    by_first : (b : Bool) → cond b (Some k) (position_from (λ (q : PartTree). same_device (Some device) q.device) (k + 1) qs) ≡ Some p
        → (position_from (λ (q : PartTree). same_device (Some device) q.device) (k + 1) qs ≡ Some p → p < k + suc (length qs)) → p < k + suc (length qs)
    by_first true f more = let same : k ≡ p = cc in omega (arith, same)
    by_first false f more = more f

found_alike : (app : AppTree) (device : ℕ) (o : Option ℕ) → position_from (λ (q : PartTree). same_device (Some device) q.device) 0 app.parts ≡ o
    → option_map (λ (driver : ℕ). device) o ≡ option_map (λ (driver : Callee). device) (option_and_then (callee_at app) o)
found_alike app device None e = refl
found_alike app device (Some p) e =
    let inside : p < 0 + length app.parts = place_inside device 0 p app.parts e in sym (callee_there app p device (omega (arith, inside)))

pub drivers_alike : (app : AppTree) (device : ℕ) → if_driven app device ≡ option_map (λ (driver : Callee). device) (driver_in app device)
drivers_alike app device =
    let o = position_from (λ (q : PartTree). same_device (Some device) q.device) 0 app.parts in
    ap (λ (x : Option ℕ). option_map (λ (driver : ℕ). device) x) (sym (drivers_same device 0 app.parts)) ∙ found_alike app device o refl

driven_by : (app : AppTree) (e i : ℕ) (o : Option Callee) → driver_in app e ≡ o → option_map (λ (driver : Callee). e) o ≡ Some i → (e ≡ i) × IsSome (driver_in app e)
driven_by app e i None h f = absurd (cc f)
driven_by app e i (Some x) h f = (cc, ap (λ (o : Option Callee). is_some o) h)

-- a sensor that is given is one that a module drives
pub sensor_given : (d : Deployed) (word : List ℕ) (i : ℕ) → sensor_in d word ≡ Ok i → IsDrivenSensor d i
sensor_given d word i h = by_place (sensor_place d.names word) refl (ok_some (option_and_then (if_driven d.app) (sensor_place d.names word)) NoSensor i h)
  where
    by_place : (o : Option ℕ) → sensor_place d.names word ≡ o → option_and_then (if_driven d.app) o ≡ Some i → IsDrivenSensor d i
    by_place None e f = absurd (cc f)
    by_place (Some k) e f =
        let driven = driven_by d.app k i (driver_in d.app k) refl (sym (drivers_alike d.app k) ∙ f) in
        let is = sensor_there d.names word k e in
        subst (λ (n : ℕ). IsDrivenSensor d n) driven.0 (record { there = is.there; sensor = is.sensor; driven = driven.1 })

value_given : (word : List ℕ) (value : ℕ) → value_in word ≡ Ok value → value < 32768
value_given word value h = let few : value ≤ 32767 = number_within word 32767 value (ok_some (number_of word 32767) NoValue value h) in omega (arith, few)

-- ---- lines

reading_given : (d : Deployed) (first : List ℕ) (words : List (List ℕ)) (r : ReadingLine) → reading_in d first words ≡ Ok r → IsGiven d r
reading_given d first words r h = by_word (ok_or (one_word words) WrongCount) h
  where
    by_value : (device : ℕ) (v : Result ℕ ReadingRule) → IsDrivenSensor d device → ((value : ℕ) → v ≡ Ok value → value < 32768)
        → (v >>= (λ value. Ok (says.Reading device value))) ≡ Ok r → IsGiven d r
    by_value device (Ok value) is few e =
        let same : says.Reading device value ≡ r = cc in subst (λ (x : ReadingLine). IsGiven d x) same (is, few value refl)
    by_value device (Err rule) is few e = absurd (cc e)

    by_sensor : (second : List ℕ) (s : Result ℕ ReadingRule) → ((device : ℕ) → s ≡ Ok device → IsDrivenSensor d device)
        → (s >>= (λ device. value_in second >>= (λ value. Ok (says.Reading device value)))) ≡ Ok r → IsGiven d r
    by_sensor second (Ok device) is e = by_value device (value_in second) (is device refl) (value_given second) e
    by_sensor second (Err rule) is e = absurd (cc e)

    by_word : (w : Result (List ℕ) ReadingRule)
        → (w >>= (λ second. sensor_in d first >>= (λ device. value_in second >>= (λ value. Ok (says.Reading device value))))) ≡ Ok r → IsGiven d r
    by_word (Ok second) e = by_sensor second (sensor_in d first) (sensor_given d first) e
    by_word (Err rule) e = absurd (cc e)

said_given : (d : Deployed) (words : List (List ℕ)) (r : ReadingLine) → said_in d words ≡ Ok r → IsGiven d r
said_given d [] r h = let same : says.Blank ≡ r = cc in subst (λ (x : ReadingLine). IsGiven d x) same tt
said_given d (first ∷ words) r h = by_comment (is_comment first) h
  where
    by_comment : (b : Bool) → (if b then Ok says.Blank else reading_in d first words) ≡ Ok r → IsGiven d r
    by_comment true e = let same : says.Blank ≡ r = cc in subst (λ (x : ReadingLine). IsGiven d x) same tt
    by_comment false e = reading_given d first words r e

-- what a line says is a reading of the deployment
pub judged_given : (d : Deployed) (number : ℕ) (text : List ℕ) (r : ReadingLine) → judged_reading d number text ≡ Ok r → IsGiven d r
unfolding judged_reading
judged_given d number text r h = by_number (nat_lt 65536 number) h
  where
    by_number : (b : Bool) → (if b then Err TooMany else said_in d (words_of text)) ≡ Ok r → IsGiven d r
    by_number true e = absurd (cc e)
    by_number false e = said_given d (words_of text) r e

line_given : (d : Deployed) (number : ℕ) (text : List ℕ) (r : Result ReadingLine ReadingRule) (rest : Readings) → judged_reading d number text ≡ r → AreReadings d rest.readings
    → AreReadings d (on_line number r rest).readings
line_given d number text (Err rule) rest e are = tt
line_given d number text (Ok says.Blank) rest e are = are
line_given d number text (Ok (says.Reading device value)) rest e are =
    let is = judged_given d number text (says.Reading device value) e in (record { sensor = is.0; value = is.1 }, are)

-- the readings of an input are those of the deployment
pub readings_given : (d : Deployed) (number : ℕ) (answers : List Answer) → AreReadings d (readings_from d number answers).readings
readings_given d number [] = tt
readings_given d number (End ∷ more) = tt
readings_given d number (Long ∷ more) = tt
readings_given d number (Fault ∷ more) = tt
readings_given d number (answer.Line text ∷ more) =
    line_given d number text (judged_reading d number text) (readings_from d (number + 1) more) refl (readings_given d (number + 1) more)

-- ---- whether a module drives a device

abbrev test : ℕ → PartTree → Bool
test device q = same_device (Some device) q.device

record Found (device k : ℕ) (ps : List Part) : Type 0 where
  place : ℕ
  is : position_from (test device) k (map part_as ps) ≡ Some place
  inside : place < k + length ps

found : (device k : ℕ) (ps : List Part) → is_driven ps device ≡ true → Found device k ps
found device k [] h = absurd (cc h)
found device k (p ∷ ps) h = by_first (drives device p) refl h (found device (k + 1) ps)
  where
    next : Found device (k + 1) ps → drives device p ≡ false → Found device k (p ∷ ps)
    next f e = record {
      place = f.place;
      is = ap (λ (b : Bool). cond b (Some k) (position_from (test device) (k + 1) (map part_as ps))) e ∙ f.is;
      inside = omega (arith, f.inside);
    }

    by_first : (b : Bool) → drives device p ≡ b → (b || is_driven ps device) ≡ true → (is_driven ps device ≡ true → Found device (k + 1) ps) → Found device k (p ∷ ps)
    by_first true e g f = record {
      place = k;
      is = ap (λ (b : Bool). cond b (Some k) (position_from (test device) (k + 1) (map part_as ps))) e;
      inside = omega arith;
    }
    by_first false e g f = next (f g) e

none_found : (device k : ℕ) (ps : List Part) → is_driven ps device ≡ false → position_from (test device) k (map part_as ps) ≡ None
none_found device k [] h = refl
none_found device k (p ∷ ps) h = by_first (drives device p) refl h (none_found device (k + 1) ps)
  where
    by_first : (b : Bool) → drives device p ≡ b → (b || is_driven ps device) ≡ false → (is_driven ps device ≡ false → position_from (test device) (k + 1) (map part_as ps) ≡ None)
        → position_from (test device) k (map part_as (p ∷ ps)) ≡ None
    by_first true e g f = absurd (cc g)
    by_first false e g f = ap (λ (b : Bool). cond b (Some k) (position_from (test device) (k + 1) (map part_as ps))) e ∙ f g

pub is_driven_there : (d : Deployment) (device : ℕ) → is_driven d.app.parts.items device ≡ true → if_driven (deployed_as d).app device ≡ Some device
is_driven_there d device h =
    let app = (deployed_as d).app in
    let f = found device 0 d.app.parts.items h in
    let inside : f.place < length app.parts = omega (arith, f.inside, length-map d.app.parts.items part_as) in
    drivers_alike app device ∙ ap (λ (o : Option ℕ). option_map (λ (driver : Callee). device) (option_and_then (callee_at app) o)) f.is ∙ callee_there app f.place device inside

pub not_driven_there : (d : Deployment) (device : ℕ) → is_driven d.app.parts.items device ≡ false → if_driven (deployed_as d).app device ≡ None
not_driven_there d device h =
    let app = (deployed_as d).app in
    drivers_alike app device ∙ ap (λ (o : Option ℕ). option_map (λ (driver : Callee). device) (option_and_then (callee_at app) o)) (none_found device 0 d.app.parts.items h)

-- a sensor of this name, which a module drives, or doesn't
pub given_there : (d : Deployed) (word : List ℕ) (device : ℕ) → sensor_place d.names word ≡ Some device → if_driven d.app device ≡ Some device
    → ◌≡◌ {A = Result ℕ ReadingRule} (Ok device) (sensor_in d word)
given_there d word device e f = sym (ap (λ (o : Option ℕ). ok_or (option_and_then (if_driven d.app) o) NoSensor) e ∙ ap (λ (o : Option ℕ). ok_or o NoSensor) f)

pub not_given : (d : Deployed) (word : List ℕ) (device : ℕ) → sensor_place d.names word ≡ Some device → if_driven d.app device ≡ None
    → ◌≡◌ {A = Result ℕ ReadingRule} (Err NoSensor) (sensor_in d word)
not_given d word device e f = sym (ap (λ (o : Option ℕ). ok_or (option_and_then (if_driven d.app) o) NoSensor) e ∙ ap (λ (o : Option ℕ). ok_or o NoSensor) f)
