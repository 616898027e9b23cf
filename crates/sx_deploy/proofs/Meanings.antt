-- A text has one meaning.
use Rattle.std.proofs.Common.{◌≡◌, ◌⊎◌, inl, inr, ℕ, ◌+◌, List, [], ◌∷◌, Result, Ok, Err, refl, sym, ap, ◌∙◌}
use Rattle.sx_lang.specs.Tree.{ModuleTree}
use Rattle.sx_lex.specs.declared.tokens.Place.{Place}
use Rattle.spec_grammar.specs.Text.{Spells, IsFirstFault}
use Rattle.spec_grammar.proofs.Texts.{one_module_of_text, module_or_fault}
use Rattle.spec_grammar.proofs.OneFault.{one_fault, no_fault}
use Rattle.sx_entries.specs.Fault.{◌>>=◌, cut, fault}
use Rattle.sx_entries.specs.declared.fault.Place.TheVariants.{Source}
use Rattle.sx_entries.specs.declared.fault.DeployFault.{DeployFault}
use Rattle.sx_entries.specs.declared.entries.ModuleEntry.{ModuleEntry}
use Rattle.sx_entries.specs.Documents.{table_of}
use Rattle.sx_entries.specs.Entries.{EntryLists}
use Rattle.sx_deploy.specs.Sources.{Coded, coded, IsCoded, AreCoded, none_left, each, later, here}
use Rattle.sx_deploy.specs.Deployment.{Deployed, deployed, counted_in, IsFrom}
use Rattle.sx_deploy.specs.Law.{OneMeaning, SomeMeaning}

one_coded : (n : ℕ) (m : ModuleEntry) (a b : Result Coded DeployFault) → IsCoded n m a → IsCoded n m b → a ≡ b
one_coded n m (Ok c) (Ok d) x y =
    let same = one_module_of_text m.source x.0 y.0 x.1 y.1 in ap Ok (x.2 ∙ ap (coded m) same ∙ sym y.2)
one_coded n m (Ok c) (Err f) x y = absurd (no_fault m.source x.0 y.0 x.1 y.1)
one_coded n m (Err f) (Ok c) x y = absurd (no_fault m.source y.0 x.0 y.1 x.1)
one_coded n m (Err f) (Err g) x y =
    let same = one_fault m.source x.0 y.0 x.1 y.1 in
    ap Err (x.2 ∙ ap (λ (at : Place). fault 7 (Source (cut n) at.line at.column)) same ∙ sym y.2)

all_coded : {n : ℕ} {ms : List ModuleEntry} {a b : Result (List Coded) DeployFault} → AreCoded n ms a → AreCoded n ms b → a ≡ b
all_coded none_left none_left = refl
all_coded (each {n = n} {m = m} {c = c} x xs) (each {c = d} y ys) =
    let first = one_coded n m (Ok c) (Ok d) x y in let rest = all_coded xs ys in cc
all_coded (each xs_first xs) (later y ys) = let rest = all_coded xs ys in absurd (cc)
all_coded (each {n = n} {m = m} {c = c} x xs) (here {f = f} y) =
    let first = one_coded n m (Ok c) (Err f) x y in absurd (cc)
all_coded (later x xs) (each y ys) = let rest = all_coded xs ys in absurd (cc)
all_coded (later x xs) (later y ys) = let rest = all_coded xs ys in cc
all_coded (later {n = n} {m = m} {c = c} x xs) (here {f = f} y) =
    let first = one_coded n m (Ok c) (Err f) x y in absurd (cc)
all_coded (here {n = n} {m = m} {f = f} x) (each {c = c} y ys) =
    let first = one_coded n m (Err f) (Ok c) x y in absurd (cc)
all_coded (here {n = n} {m = m} {f = f} x) (later {c = c} y ys) =
    let first = one_coded n m (Err f) (Ok c) x y in absurd (cc)
all_coded (here {n = n} {m = m} {f = f} x) (here {f = g} y) =
    let first = one_coded n m (Err f) (Err g) x y in cc

one_from : (entries : Result EntryLists DeployFault) (a b : Result Deployed DeployFault) → IsFrom entries a → IsFrom entries b → a ≡ b
one_from (Ok e) a b x y = x.comes ∙ ap (λ coded. coded >>= deployed e) (all_coded x.are_coded y.are_coded) ∙ sym y.comes
one_from (Err f) a b x y = x ∙ sym y

pub one_meaning : OneMeaning
one_meaning text a b x y = one_from (table_of text >>= counted_in) a b x y

some_coded : (n : ℕ) (m : ModuleEntry) → (r : Result Coded DeployFault) × IsCoded n m r
some_coded n m = go (module_or_fault m.source)
  where
    go : ((tree : ModuleTree) × Spells m.source tree) ⊎ ((at : Place) × IsFirstFault m.source at) → (r : Result Coded DeployFault) × IsCoded n m r
    go (inl t) = (Ok (coded m t.0), (t.0, t.1, refl))
    go (inr f) = let at = f.0 in (Err (fault 7 (Source (cut n) at.line at.column)), (at, f.1, refl))

some_all_coded : (n : ℕ) (ms : List ModuleEntry) → (r : Result (List Coded) DeployFault) × AreCoded n ms r
some_all_coded n [] = (Ok [], none_left)
some_all_coded n (m ∷ ms) = let x = some_coded n m in let xs = some_all_coded (n + 1) ms in go x.0 xs.0 x.1 xs.1
  where
    go : (a : Result Coded DeployFault) (b : Result (List Coded) DeployFault) → IsCoded n m a → AreCoded (n + 1) ms b → (r : Result (List Coded) DeployFault) × AreCoded n (m ∷ ms) r
    go (Err f) b x xs = (Err f, here x)
    go (Ok c) (Err f) x xs = (Err f, later {c = c} x xs)
    go (Ok c) (Ok cs) x xs = (Ok (c ∷ cs), each x xs)

some_from : (entries : Result EntryLists DeployFault) → (outcome : Result Deployed DeployFault) × IsFrom entries outcome
some_from (Ok e) = let c = some_all_coded 0 e.modules in (c.0 >>= deployed e, record { coded = c.0; are_coded = c.1; comes = refl })
some_from (Err f) = (Err f, refl)

pub some_meaning : SomeMeaning
some_meaning text = some_from (table_of text >>= counted_in)
