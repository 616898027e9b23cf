-- Where the packet of the oldest value on its way is, and where it goes.
use Rattle.std.proofs.Common.{◌≡◌, ℕ, ◌+◌, ◌%◌, List, [], ◌∷◌, ◌++◌, length, Some, slice_get, ◌∙◌, ap, subst, arith}
use Rattle.std.specs.List.{All}
use Rattle.std.proofs.lemmas.List.Elements.{All-head}
use Rattle.spec_run.specs.Setting.{Setting}
use Rattle.spec_run.specs.State.{World}
use Rattle.spec_run.specs.Law.{IsLawfulSetting}
use Rattle.spec_honest.specs.Plain.{Waiting}
use Rattle.spec_honest.specs.Course.{Course, count_over, setup_packets}
use Rattle.spec_honest.proofs.AsPlain.{IsLinked}
use Rattle.law_setup.proofs.forms.Settled.{IsOnItsWay, event_of}
use Rattle.law_delivery.proofs.Going.{Stands}

-- the value's packet is this one; its third byte is the connection, which is there
pub record IsOldest (set : Setting) (w : World) (c : Course) (x : Waiting) : Type 0 where
  pub packet : List ℕ
  pub there : slice_get w.packets (setup_packets set.app + length c.past) ≡ Some packet
  pub third : slice_get packet 2 ≡ Some x.link
  pub linked : IsLinked set.app x

pub oldest_there : (set : Setting) → IsLawfulSetting set → (c : Course) (w : World) → Stands set w c → (x : Waiting) (ws : List Waiting) → c.plain.waiting ≡ x ∷ ws → IsOldest set w c x
oldest_there set sound c w stands x ws waits =
    let linked : IsLinked set.app x = All-head (IsLinked set.app) x ws (subst (λ zs. All (IsLinked set.app) zs) waits stands.told.linked) in
    let way : IsOnItsWay set w (setup_packets set.app + length c.past + 0) x.link (count_over x.link (c.past ++ [])) x.value = stands.settled.waiting x [] ws waits in
    let none : setup_packets set.app + length c.past ≡ setup_packets set.app + length c.past + 0 = omega arith in
    let few = sound.sound.links in
    let low : x.link % 256 ≡ x.link = omega (arith, few, linked) in
    record {
      packet = event_of set x.link (count_over x.link (c.past ++ [])) x.value;
      there = ap (slice_get w.packets) none ∙ way.stands;
      third = ap (λ (b : ℕ). Some b) low;
      linked = linked;
    }
