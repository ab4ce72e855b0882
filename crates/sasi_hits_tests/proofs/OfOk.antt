-- What is known of an Ok.
use Rattle.std.proofs.Common.{◌≡◌, IfOk, Result, Ok, subst}

pub of_ok : {T E : Type 0} (P : T → Type 0) (r : Result T E) (v : T) → r ≡ Ok v → IfOk r P → P v
of_ok {T} {E} P r v is ok = subst (λ (k : Result T E). IfOk k P) is ok
