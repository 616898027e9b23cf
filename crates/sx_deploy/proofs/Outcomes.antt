-- How the answers of the stages make the outcome of a text.
use Rattle.std.proofs.Common.{List, Result, Ok, Err, refl, sym}
use Rattle.sx_entries.specs.Gives.{Gives, GivesOne}
use Rattle.sx_entries.specs.declared.fault.DeployError.{DeployError}
use Rattle.sx_entries.specs.declared.fault.DeployError.TheVariants.{Fault, OutOfMemory}
use Rattle.sx_entries.specs.Entries.{EntryLists}
use Rattle.sx_deploy.specs.Sources.{AreCoded, Coded}
use Rattle.sx_deploy.specs.Deployment.{Deployed, deployed, IsFrom}

-- the sources gave no modules
pub breaks : {S T : Type 0} (seen : S → List Coded) (view : T → Deployed) (entries : EntryLists) (e : DeployError)
    → GivesOne seen (Err e) (AreCoded 0 entries.modules) → GivesOne view (Err e) (IsFrom (Ok entries))
breaks seen view entries (Fault f) h = record { coded = Err f; are_coded = h; comes = refl }
breaks seen view entries OutOfMemory h = tt

-- the rules after the sources decide
pub goes_on : {T : Type 0} (view : T → Deployed) (entries : EntryLists) (coded : List Coded) (r : Result T DeployError)
    → AreCoded 0 entries.modules (Ok coded) → Gives view r (deployed entries coded) → GivesOne view r (IsFrom (Ok entries))
goes_on view entries coded (Ok d) a h = record { coded = Ok coded; are_coded = a; comes = sym h }
goes_on view entries coded (Err (Fault f)) a h = record { coded = Ok coded; are_coded = a; comes = sym h }
goes_on view entries coded (Err OutOfMemory) a h = tt
