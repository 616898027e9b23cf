-- The ends that a connection gives a module.
use Rattle.std.proofs.Common.{◌≡◌, ℕ, ◌+◌, List, ◌++◌, ◌∷◌, Option, Some, None, refl, sym, ap, ◌∙◌, append_assoc}
use Rattle.std.specs.List.{cons_option}
use Rattle.std.specs.Option.{option_to_list}
use Rattle.sx_mean.specs.declared.apps.Link.{Link}
use Rattle.sx_mean.specs.declared.events.End.{End}
use Rattle.sx_mean.specs.Ends.{ends_after, receiving, sending}

in_front : (o : Option End) (es : List End) → cons_option o es ≡ option_to_list o ++ es
in_front None es = refl
in_front (Some e) es = refl

-- the ends of a connection before those after it
pub both_ends : (n m : ℕ) (l : Link) (ls : List Link) (before : List End) →
    ((before ++ option_to_list (sending n m l)) ++ option_to_list (receiving n m l)) ++ ends_after (n + 1) m ls ≡ before ++ ends_after n m (l ∷ ls)
both_ends n m l ls before =
    let rest = ends_after (n + 1) m ls in
    append_assoc (before ++ option_to_list (sending n m l)) (option_to_list (receiving n m l)) rest
    ∙ append_assoc before (option_to_list (sending n m l)) (option_to_list (receiving n m l) ++ rest)
    ∙ ap (λ es. before ++ (option_to_list (sending n m l) ++ es)) (sym (in_front (receiving n m l) rest))
    ∙ ap (λ es. before ++ es) (sym (in_front (sending n m l) (cons_option (receiving n m l) rest)))
