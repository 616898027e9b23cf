-- Makers see the same, so over the tags of the key tree a distinguisher is the run.
use Rattle.std.proofs.Common.{◌≡◌, ℕ, zero, suc, List, [], ◌∷◌, ◌++◌, sym, ◌∙◌, ap, ap₂}
use Rattle.std.specs.List.{list_any}
use Rattle.sx_trace.specs.declared.items.Item.{Item}
use Rattle.sx_model.specs.Legal.{is_forged}
use Rattle.sx_sched.specs.Lines.{Line}
use Rattle.spec_run.specs.Setting.{Setting}
use Rattle.spec_run.specs.State.{World, switched_on}
use Rattle.spec_run.specs.Run.{run}
use Rattle.law_forgery.specs.Tags.{AgreeOnTags, rekeyed}
use Rattle.law_forgery.specs.Named.{named, names, named_setting}
use Rattle.law_forgery.proofs.Scripts.{runs_keys_unseen}
use Rattle.law_forgery.proofs.Naming.{names_agree}
use Rattle.law_makers.specs.Makers.{Sight, sight, Made, more, made, MakersSeeTheSame, forges, DistinguisherIsRun, DistinguisherKnowsNoKey}

same_sight : (a b : Setting) (lines : List Line) → AgreeOnTags a b → sight a lines ≡ sight b lines
same_sight a b lines h =
    let same = runs_keys_unseen a b lines h in
    ap₂ (λ (items : List Item) (world : World). record { items = items; world = world }) same.0 same.1

pub makers_see_the_same : MakersSeeTheSame
makers_see_the_same a b make zero h =
    ap (λ (s : Sight). record { lines = []; sights = s ∷ [] }) (same_sight a b [] h)
makers_see_the_same a b make (suc n) h =
    let m = made a make n in
    ap (λ (s : Sight). record { lines = m.lines ++ make m.sights ∷ []; sights = m.sights ++ s ∷ [] }) (same_sight a b (m.lines ++ make m.sights ∷ []) h)
    ∙ ap (more b make) (makers_see_the_same a b make n h)

pub distinguisher_is_run : DistinguisherIsRun
distinguisher_is_run set make n oracle long has =
    let b = named_setting oracle set in
    let agree : AgreeOnTags set b = names_agree oracle set long has in
    sym (ap (list_any is_forged) (runs_keys_unseen set b (made set make n).lines agree).0
    ∙ ap (λ (m : Made). list_any is_forged (run b (switched_on b) m.lines).items) (makers_see_the_same set b make n agree))

pub distinguisher_knows_no_key : DistinguisherKnowsNoKey
distinguisher_knows_no_key set keys make n oracle long =
    ap (λ (count : ℕ). forges (rekeyed set (named oracle set.mac) (names 0 count) set.secret) make n) long
