-- The node at a place, and the nodes once it has acted: what calls on one node of the list cite.
use Rattle.std.proofs.Common.{◌≡◌, ◌<◌, ℕ, List, length, get_or, Some, sym, ap, ◌∙◌}
use Rattle.std.specs.Prelude.{slice_get, slice_set}
use Rattle.std.proofs.lemmas.Option.{get_or_from_slice_get, slice_get-get_or}
use Rattle.spec_machine.specs.State.{State}

pub slot_is : (nodes : List State) (n i : ℕ) (s d : State) → slice_get nodes n ≡ Some s → i ≡ n → get_or nodes i d ≡ s
slot_is nodes n i s d here same = ap (λ k. get_or nodes k d) same ∙ get_or_from_slice_get nodes n s d here

pub stands_at : (nodes : List State) (n i : ℕ) (d : State) → n < length nodes → i ≡ n → slice_get nodes n ≡ Some (get_or nodes i d)
stands_at nodes n i d inside same = slice_get-get_or nodes n d inside ∙ ap (λ k. Some (get_or nodes k d)) (sym same)

pub set_as : (nodes : List State) (n i : ℕ) (old s new : State) (f : State → State) → i ≡ n → old ≡ s → new ≡ f old → slice_set nodes i new ≡ slice_set nodes n (f s)
set_as nodes n i old s new f same here is = ap (λ k. slice_set nodes k new) same ∙ ap (λ x. slice_set nodes n x) (is ∙ ap f here)

pub shows_as : {A : Type 0} (shown : A) (old s : State) (f : State → A) → old ≡ s → shown ≡ f old → shown ≡ f s
shows_as shown old s f here is = is ∙ ap f here
