-- Connections that rule 9 lets through go from an output to an input.
use Rattle.std.proofs.Common.{◌≡◌, ℕ, zero, suc, ◌+◌, ◌-◌, ◌<◌, ◌≤◌, ◌==◌, if◌then◌else◌, Bool, true, false, cond, nat_lt, List, [], ◌∷◌, ◌++◌, length, map}
use Rattle.std.proofs.Common.{count_by, Option, Some, None, slice_get, Ok, refl, sym, ap, subst, ◌∙◌, arith, length-append}
use Rattle.std.specs.List.{cons_option}
use Rattle.std.specs.Str.{bytes_eq}
use Rattle.std.proofs.lemmas.Bool.Decides.{nat_tests}
use Rattle.std.proofs.lemmas.List.Quantifiers.{position-Some}
use Rattle.std.proofs.lemmas.Option.{slice_get_within}
use Rattle.sx_lang.specs.declared.tree.Decl.{Decl}
use Rattle.sx_lang.specs.declared.tree.Decl.TheVariants as decl
use Rattle.sx_check.specs.Rules.{first_broken}
use Rattle.sx_check.proofs.Distinct.{count_by-cons}
use Rattle.sx_mean.specs.Validity.{has_port, is_port}
use Rattle.sx_mean.specs.declared.apps.Link.{Link}
use Rattle.sx_entries.specs.Stage.{made_after}
use Rattle.sx_entries.specs.declared.fault.Sort.TheVariants.{Connection}
use Rattle.sx_entries.proofs.Each.{Each, bind-Ok, each-snoc}
use Rattle.sx_entries.proofs.Tested.{made-keeps}
use Rattle.sx_entries.specs.Entries.{place_among}
use Rattle.sx_entries.specs.declared.entries.LinkEntry.{LinkEntry}
use Rattle.sx_entries.specs.declared.rows.EndRow.{EndRow}
use Rattle.sx_entries.proofs.RowForms.{through}
use Rattle.sx_entries.proofs.Kept.{in_entry-Ok}
use Rattle.sx_deploy.specs.Sources.{Coded}
use Rattle.sx_deploy.specs.Ties.{Port, byte, link_of, port_in, port_names, port_of, port_place, tied_link}
use Rattle.sx_deploy.specs.Deployment.{part_of}
use Rattle.sx_deploy.proofs.Sizes.{few_ports}

-- a declaration is a port where it has a port's name
one_port : (output : Bool) (d : Decl) (names : List (List ℕ)) → length (cons_option (port_in output d) names) ≡ cond (is_port output d) 1 0 + length names
one_port true (decl.Device k) names = omega arith
one_port true (decl.Input x) names = omega arith
one_port true (decl.Output x) names = omega arith
one_port true (decl.Var x n) names = omega arith
one_port true (decl.Array x n) names = omega arith
one_port false (decl.Device k) names = omega arith
one_port false (decl.Input x) names = omega arith
one_port false (decl.Output x) names = omega arith
one_port false (decl.Var x n) names = omega arith
one_port false (decl.Array x n) names = omega arith

pub ports_counted : (output : Bool) (ds : List Decl) → length (port_names output ds) ≡ count_by (is_port output) ds
ports_counted output [] = refl
ports_counted output (d ∷ ds) =
    one_port output d (port_names output ds) ∙ ap (λ n. cond (is_port output d) 1 0 + n) (ports_counted output ds) ∙ sym (count_by-cons (is_port output) d ds)

port_inside : (output : Bool) (ds : List Decl) (name : Option (List ℕ)) (port : ℕ) → port_place output ds name ≡ Some port → port < count_by (is_port output) ds
port_inside output ds None port h = absurd (cc)
port_inside output ds (Some name) port h =
    let inside : port < length (port_names output ds) = (position-Some (λ x. bytes_eq x name) (port_names output ds) port [] h).0 in
    let count : length (port_names output ds) ≡ count_by (is_port output) ds = ports_counted output ds in
    omega (arith, inside, count)

-- the number of a module and of one of its ports
port_there : (output : Bool) (ms : List Coded) (owner port : ℕ) (m : Coded) → slice_get ms owner ≡ Some m → port < count_by (is_port output) m.tree.decls
    → has_port (is_port output) (map part_of ms) owner port ≡ true
port_there output [] owner port m h k = absurd (cc)
port_there output (c ∷ cs) zero port m h k =
    let same : c ≡ m = cc in
    let inside : port < count_by (is_port output) c.tree.decls = subst (λ (x : Coded). port < count_by (is_port output) x.tree.decls) (sym same) k in
    grind (arith, nat_tests, inside)
port_there output (c ∷ cs) (suc owner) port m h k =
    let later : (suc owner == 0) ≡ false = grind (arith, nat_tests) in
    let one_less : suc owner - 1 ≡ owner = omega arith in
    subst (λ b. (if b then nat_lt port (count_by (is_port output) c.tree.decls) else has_port (is_port output) (map part_of cs) (suc owner - 1) port) ≡ true) (sym later)
    (subst (λ (n : ℕ). has_port (is_port output) (map part_of cs) n port ≡ true) (sym one_less) (port_there output cs owner port m h k))

pub each-get : {A : Type 0} (P : A → Type 0) (xs : List A) (i : ℕ) (x : A) → Each P xs → slice_get xs i ≡ Some x → P x
each-get P [] i x h e = absurd (cc)
each-get P (y ∷ ys) zero x h e = let same : y ≡ x = cc in subst P same h.0
each-get P (y ∷ ys) (suc i) x h e = each-get P ys i x h.1 e

abbrev pub IsLinked : List Coded → Link → Type 0
IsLinked modules l = (has_port (is_port true) (map part_of modules) l.from l.output ≡ true) × (has_port (is_port false) (map part_of modules) l.to l.input ≡ true)

module _ (modules : List Coded) (few : length modules ≤ 32) (sound : Each (λ (m : Coded). first_broken m.tree ≡ None) modules) where
  abbrev pub IsPort : Bool → Port → Type 0
  IsPort output p = has_port (is_port output) (map part_of modules) p.owner p.port ≡ true

  port_kept : (output : Bool) (row : EndRow) (p : Port) → port_of output modules row ≡ Some p → IsPort output p
  port_kept output row p h =
      through (IsPort output) (place_among (λ (m : Coded). m.name) modules row.owner) _ p (λ owner e1 h1.
      through (IsPort output) (slice_get modules owner) _ p (λ m e2 h2.
      through (IsPort output) (port_place output m.tree.decls row.port) _ p (λ port e3 h3.
      let same : record { owner = byte owner; port = byte port } ≡ p = cc in
      let inside : port < count_by (is_port output) m.tree.decls = port_inside output m.tree.decls row.port port e3 in
      let ports : count_by (is_port output) m.tree.decls ≤ 255 = few_ports m.tree output (each-get (λ (m : Coded). first_broken m.tree ≡ None) modules owner m sound e2) in
      let there : owner < length modules = slice_get_within modules owner m e2 in
      let own : owner ≡ byte owner = omega arith in
      let its : port ≡ byte port = omega arith in
      subst (IsPort output) same (subst (λ (n : ℕ). has_port (is_port output) (map part_of modules) n (byte port) ≡ true) own
      (subst (λ (n : ℕ). has_port (is_port output) (map part_of modules) owner n ≡ true) its (port_there output modules owner port m e2 inside)))) h2) h1) h

  link_kept : (row : LinkEntry) (l : Link) → link_of modules row ≡ Some l → IsLinked modules l
  link_kept row l h =
      through (IsLinked modules) (port_of true modules row.from) _ l (λ from e1 h1.
      through (IsLinked modules) (port_of false modules row.to) _ l (λ to e2 h2.
      let same : record { from = from.owner; output = from.port; to = to.owner; input = to.port } ≡ l = cc in
      subst (IsLinked modules) same (port_kept true row.from from e1, port_kept false row.to to e2)) h1) h

  pub all_linked : (rows : List LinkEntry) (links : List Link) → made_after (tied_link modules) [] rows ≡ Ok links → Each (IsLinked modules) links
  all_linked rows links h =
      made-keeps (Each (IsLinked modules)) (tied_link modules)
      (λ done row l old e. each-snoc (IsLinked modules) done l old (link_kept row l (in_entry-Ok 9 Connection (length done) (link_of modules row) l e))) [] rows links tt h

pub as_many : (modules : List Coded) (done : List Link) (rows : List LinkEntry) (links : List Link) → made_after (tied_link modules) done rows ≡ Ok links → length links ≡ length done + length rows
as_many modules done [] links h = let same : done ≡ links = cc in rw (← same) (omega arith)
as_many modules done (row ∷ rows) links h =
    let step = bind-Ok (tied_link modules done row) (λ l. made_after (tied_link modules) (done ++ l ∷ []) rows) links h in
    let rest : length links ≡ length (done ++ step.0 ∷ []) + length rows = as_many modules (done ++ step.0 ∷ []) rows links step.2 in
    let len : length (done ++ step.0 ∷ []) ≡ length done + 1 = length-append done (step.0 ∷ []) in
    omega (arith, rest, len)
