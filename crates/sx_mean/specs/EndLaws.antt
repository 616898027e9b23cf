-- What holds of the ends of a module.
use Rattle.std.specs.Prelude.{◌≡◌, ℕ, ◌+◌, ◌<◌, ◌≤◌, ◌⊎◌, true, List, length, Some, All, AllPairs}
use Rattle.std.specs.Prelude.{slice_get, count_by}
use Rattle.sx_lang.specs.Tree.{ModuleTree}
use Rattle.sx_lang.specs.declared.sides.Side.{Side}
use Rattle.sx_lang.specs.declared.sides.Side.TheVariants.{From, To}
use Rattle.sx_check.specs.Bounds.{is_input, is_output}
use Rattle.sx_mean.specs.declared.events.End.{End}
use Rattle.sx_mean.specs.Application.{AppTree, PartTree, ends_from, ends_to, links_from}
use Rattle.sx_mean.specs.Validity.{is_valid}
use Rattle.sx_mean.specs.Ends.{sending, ends_of, is_sending}

-- the ends that send what is sent to an output
abbrev pub senders : List End → ℕ → ℕ
senders ends output = count_by (λ e. is_sending output e.side e.port) ends

-- the ports of a side: the module's outputs where it sends, its inputs where it receives
abbrev pub ports_of : ModuleTree → Side → ℕ
ports_of m From = count_by is_output m.decls
ports_of m To = count_by is_input m.decls

-- the end is of an earlier connection, or the sending end of the same
abbrev pub IsBefore : End → End → Type 0
IsBefore a b = (a.link < b.link) ⊎ ((a.link ≡ b.link) × (a.side ≡ From) × (b.side ≡ To))

-- What a module's ends are: at most 16; in connection order, the sending end before the receiving
-- one, so none occurs twice; each of one of 64 connections, and at a port of the module.
pub record AreEnds (m : ModuleTree) (ends : List End) : Type 0 where
  pub few : length ends ≤ 16
  pub ordered : AllPairs IsBefore ends
  pub links : All (λ e. e.link < 64) ends
  pub ports : All (λ e. e.port < ports_of m e.side) ends

-- the ends of a part are those that its connections count
pub record AreCountedEnds (app : AppTree) (p : ℕ) : Type 0 where
  pub all : length (ends_of app p) ≡ ends_from app.links p + ends_to app.links p
  pub sending : (output : ℕ) → senders (ends_of app p) output ≡ links_from app.links p output

-- in each application the ends of a part are those that its connections count
abbrev pub EndsCounted : Type 0
EndsCounted = (app : AppTree) (p : ℕ) → AreCountedEnds app p

-- each part of a valid application holds what a module's ends are
abbrev pub EndsHold : Type 0
EndsHold = (app : AppTree) (p : ℕ) (q : PartTree) → is_valid app ≡ true
    → slice_get app.parts p ≡ Some q → AreEnds q.tree (ends_of app p)
