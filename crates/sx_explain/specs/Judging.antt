-- What a judge says of an item, as a function of the items before it.
use Rattle.std.specs.Prelude.{ℕ, if◌then◌else◌, List, [], ◌∷◌, ◌++◌, Option, Some, None, is_none}
use Rattle.std.specs.Prelude.{◌+◌, length}
use Rattle.std.specs.List.{list_any}
use Rattle.sx_mean.specs.Application.{AppTree}
use Rattle.sx_trace.specs.declared.items.Item.{Item}
use Rattle.sx_model.specs.State.{power_on}
use Rattle.sx_model.specs.Legal.{after, is_forged, before}
use Rattle.sx_explain.specs.declared.judge.Judged.{Judged}
use Rattle.sx_explain.specs.declared.judge.Judged.TheVariants.{Fine, Because, Illegal, Forged}
use Rattle.sx_explain.specs.declared.judge.Judged.TheVariants.{Unjudged}
use Rattle.sx_explain.specs.Causes.{cause}

-- the number of the first that is forged, if one is
abbrev pub first_forged : List Item → Option ℕ
first_forged items = if list_any is_forged items then Some (length (before items) + 1) else None

-- what is said of an item that the source allows
abbrev pub said : Option ℕ → Item → Judged
said (Some n) item = Because n
said None item = if is_forged item then Forged else Fine

-- What is said of an item after these: nothing once one was forged, that it is illegal exactly
-- where the source doesn't allow it, its cause where it has one, and that it is the first that is
-- forged.
abbrev pub judged : AppTree → List Item → Item → Judged
judged app items item =
    if list_any is_forged items then Unjudged
    else if is_none (after app (power_on app) (items ++ item ∷ [])) then Illegal
    else said (cause app items item) item
