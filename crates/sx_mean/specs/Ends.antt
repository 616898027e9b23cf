-- The ends of connections that a part of an application holds.
use Rattle.std.specs.Prelude.{ℕ, ◌+◌, ◌==◌, if◌then◌else◌, Bool, true, false, List, [], ◌∷◌, Option}
use Rattle.std.specs.Prelude.{Some, None}
use Rattle.std.specs.List.{cons_option}
use Rattle.sx_lang.specs.declared.sides.Side.{Side}
use Rattle.sx_lang.specs.declared.sides.Side.TheVariants.{From, To}
use Rattle.sx_mean.specs.declared.apps.Link.{Link}
use Rattle.sx_mean.specs.declared.events.End.{End}
use Rattle.sx_mean.specs.Application.{AppTree}

-- two sides are the same
abbrev pub same_side : Side → Side → Bool
same_side From From = true
same_side To To = true
same_side _ _ = false

-- the part's sending end of the n-th connection
abbrev pub sending : ℕ → ℕ → Link → Option End
sending n p l =
    if l.from == p then Some (record { link = n; side = From; port = l.output }) else None

-- the part's receiving end of the n-th connection
abbrev pub receiving : ℕ → ℕ → Link → Option End
receiving n p l = if l.to == p then Some (record { link = n; side = To; port = l.input }) else None

-- the ends of the connections from the n-th on
abbrev pub ends_after : ℕ → ℕ → List Link → List End
ends_after n p [] = []
ends_after n p (l ∷ ls) =
    cons_option (sending n p l) (cons_option (receiving n p l) (ends_after (n + 1) p ls))

-- the ends that the p-th part holds, in connection order, the sending end before the receiving one
abbrev pub ends_of : AppTree → ℕ → List End
ends_of app p = ends_after 0 p app.links

-- the end sends what is sent to this output
abbrev pub is_sending : ℕ → Side → ℕ → Bool
is_sending output From port = port == output
is_sending output To port = false
