-- An element of a list after a change of it.
use Rattle.std.proofs.Common.{◌≡◌, ℕ, ◌<◌, ◌≤◌, Bool, List, length, Option, Some, None, is_some, unwrap_or, get_or, set, refl, ap, ◌∙◌}
use Rattle.std.proofs.lemmas.Option.{slice_get_past, slice_get_read}
use Rattle.std.proofs.lemmas.List.{set-get_or}
use Rattle.sx_model.specs.State.{Model, Reading, Standing}
use Rattle.sx_model.specs.Step.{◌>>?◌}
use Rattle.sx_model.specs.Changes.{at_index, on_device, on_module}

-- what a change made of an element is put in its place; where it made nothing, the element is as it was
put : {A : Type 0} → (xs : List A) (i : ℕ) (x : A) (o : Option A) → x ≡ get_or xs i x →
    set xs i (unwrap_or o x) ≡ unwrap_or (o >>? (λ y. Some (set xs i y))) xs
put xs i x None e = ap (λ y. set xs i y) e ∙ set-get_or xs i x
put xs i x (Some y) e = refl

answered : {A B : Type 0} → (o : Option A) (f : A → B) → is_some o ≡ is_some (o >>? (λ y. Some (f y)))
answered None f = refl
answered (Some y) f = refl

pub index_changed : {A : Type 0} → (xs : List A) (i : ℕ) (x y : A) (change : A → Option A) → i < length xs → x ≡ get_or xs i x → y ≡ unwrap_or (change x) x →
    set xs i y ≡ unwrap_or (at_index xs i change) xs
index_changed xs i x y change within e is =
    rw (slice_get_read xs (length xs) i x refl within e) (ap (λ z. set xs i z) is ∙ put xs i x (change x) e)

pub index_answered : {A : Type 0} → (xs : List A) (i : ℕ) (x : A) (b : Bool) (change : A → Option A) → i < length xs → x ≡ get_or xs i x → b ≡ is_some (change x) →
    b ≡ is_some (at_index xs i change)
index_answered xs i x b change within e is =
    is ∙ rw (slice_get_read xs (length xs) i x refl within e) (answered (change x) (λ y. set xs i y))

pub no_index : {A : Type 0} → (xs : List A) (i : ℕ) (change : A → Option A) → length xs ≤ i → at_index xs i change ≡ None
no_index xs i change past = rw (slice_get_past xs i past) refl

-- the same of a state's modules

record_with : (s : Model) (o : Option (List Standing)) (xs : List Standing) → xs ≡ unwrap_or o s.modules →
    record s { modules = xs } ≡ unwrap_or (o >>? (λ ys. Some (record s { modules = ys }))) s
record_with s None xs e = ap (λ ys. record s { modules = ys }) e
record_with s (Some ys) xs e = ap (λ zs. record s { modules = zs }) e

pub module_changed : (s : Model) (m : ℕ) (x y : Standing) (change : Standing → Option Standing) → m < length s.modules → x ≡ get_or s.modules m x → y ≡ unwrap_or (change x) x →
    record s { modules = set s.modules m y } ≡ unwrap_or (on_module s m change) s
module_changed s m x y change within e is = record_with s (at_index s.modules m change) _ (index_changed s.modules m x y change within e is)

pub module_answered : (s : Model) (m : ℕ) (x : Standing) (b : Bool) (change : Standing → Option Standing) → m < length s.modules → x ≡ get_or s.modules m x → b ≡ is_some (change x) →
    b ≡ is_some (on_module s m change)
module_answered s m x b change within e is =
    index_answered s.modules m x b change within e is ∙ answered (at_index s.modules m change) (λ ys. record s { modules = ys })

pub no_module : (s : Model) (m : ℕ) (change : Standing → Option Standing) → length s.modules ≤ m → on_module s m change ≡ None
no_module s m change past = rw (no_index s.modules m change past) refl

-- and of its devices

device_with : (s : Model) (o : Option (List Reading)) (xs : List Reading) → xs ≡ unwrap_or o s.devices →
    record s { devices = xs } ≡ unwrap_or (o >>? (λ ys. Some (record s { devices = ys }))) s
device_with s None xs e = ap (λ ys. record s { devices = ys }) e
device_with s (Some ys) xs e = ap (λ zs. record s { devices = zs }) e

pub device_changed : (s : Model) (d : ℕ) (x y : Reading) (change : Reading → Option Reading) → d < length s.devices → x ≡ get_or s.devices d x → y ≡ unwrap_or (change x) x →
    record s { devices = set s.devices d y } ≡ unwrap_or (on_device s d change) s
device_changed s d x y change within e is = device_with s (at_index s.devices d change) _ (index_changed s.devices d x y change within e is)

pub device_answered : (s : Model) (d : ℕ) (x : Reading) (b : Bool) (change : Reading → Option Reading) → d < length s.devices → x ≡ get_or s.devices d x → b ≡ is_some (change x) →
    b ≡ is_some (on_device s d change)
device_answered s d x b change within e is =
    index_answered s.devices d x b change within e is ∙ answered (at_index s.devices d change) (λ ys. record s { devices = ys })

pub no_device : (s : Model) (d : ℕ) (change : Reading → Option Reading) → length s.devices ≤ d → on_device s d change ≡ None
no_device s d change past = rw (no_index s.devices d change past) refl
