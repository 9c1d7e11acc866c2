-- What is said of what an object tells, where it tells nothing: such a clause of a result holds whatever the result is.
use Rattle.std.proofs.Common.{Result, Ok, Err, IfOk, OnOk, OnErr}

pub if_ok-all : {T E : Type 0} (r : Result T E) (P : T → Type 0) → ((x : T) → P x) → IfOk r P
if_ok-all (Ok x) P h = h x
if_ok-all (Err e) P h = tt

pub on_ok-all : {T E : Type 0} (r : Result T E) (P : Type 0) → P → OnOk r P
on_ok-all (Ok x) P h = h
on_ok-all (Err e) P h = tt

pub on_err-all : {T E : Type 0} (r : Result T E) (P : Type 0) → P → OnErr r P
on_err-all (Ok x) P h = tt
on_err-all (Err e) P h = h
