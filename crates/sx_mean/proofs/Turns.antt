-- Going through the devices and the parts of an application.
use Rattle.std.proofs.Common.{◌≡◌, ℕ, suc, ◌+◌, ◌-◌, Bool, nat_lt, count_by, List, ◌∷◌, map, ◌<◌, length, get_or, drop, ap, add-one, sym, refl, ◌∙◌}
use Rattle.std.proofs.Math.Seq.{drop-cons}
use Rattle.std.proofs.lemmas.Bool.{ne_eqb}
use Rattle.sx_lang.specs.declared.tree.DeviceKind.{DeviceKind}
use Rattle.sx_lang.specs.declared.tree.Decl.{Decl}
use Rattle.sx_mean.specs.declared.apps.AppDevice.{AppDevice}
use Rattle.sx_mean.specs.declared.apps.Part.{Part}
use Rattle.sx_check.specs.Source.{source_tree}
use Rattle.sx_mean.specs.Application.{PartTree, is_at}
use Rattle.sx_mean.specs.Validity.{has_port}
use Rattle.sx_mean.specs.View.{part_as}

pub at_next : (e : AppDevice) (es : List AppDevice) (d node : ℕ) (kind : DeviceKind) → (d ≡ 0 → ⊥) → is_at (e ∷ es) d node kind ≡ is_at es (d - 1) node kind
at_next e es d node kind h = rw (ne_eqb d 0 h) refl

pub at_further : (es : List AppDevice) (i d node : ℕ) (kind : DeviceKind) (x : Bool) → i < length es → (d ≡ 0 → ⊥) → is_at (drop i es) d node kind ≡ x → is_at (drop (i + 1) es) (d - 1) node kind ≡ x
at_further es i d node kind x h n all =
    let e : AppDevice = record { node = 0; kind = kind } in
    ap (λ k. is_at (drop k es) (d - 1) node kind) (add-one i)
    ∙ sym (at_next (get_or es i e) (drop (suc i) es) d node kind n)
    ∙ ap (λ xs. is_at xs d node kind) (sym (drop-cons es i e h))
    ∙ all

pub port_next : (is_port : Decl → Bool) (part : PartTree) (parts : List PartTree) (p port : ℕ) → (p ≡ 0 → ⊥) → has_port is_port (part ∷ parts) p port ≡ has_port is_port parts (p - 1) port
port_next is_port part parts p port h = rw (ne_eqb p 0 h) refl

pub port_here : (is_port : Decl → Bool) (parts : List Part) (i p port : ℕ) (q : Part) (r x : Bool) → i < length parts → q ≡ get_or parts i q → p ≡ 0
    → r ≡ nat_lt port (count_by is_port (source_tree q.code).decls) → has_port is_port (map part_as (drop i parts)) p port ≡ x → r ≡ x
port_here is_port parts i p port q r x h e z given all =
    let rest : drop i parts ≡ q ∷ drop (suc i) parts = drop-cons parts i q h ∙ ap (λ z. z ∷ drop (suc i) parts) (sym e) in
    given
    ∙ ap (λ xs. has_port is_port (map part_as xs) 0 port) (sym rest)
    ∙ ap (λ n. has_port is_port (map part_as (drop i parts)) n port) (sym z)
    ∙ all
