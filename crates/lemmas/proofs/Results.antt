-- Results: what holds whichever a result is.
use Rattle.std.proofs.Common.{Result, Ok, Err, OnErr}

pub on_any_err : {T E : Type 0} (r : Result T E) {A : Type 0} → A → OnErr r A
on_any_err (Ok x) a = tt
on_any_err (Err e) a = a
