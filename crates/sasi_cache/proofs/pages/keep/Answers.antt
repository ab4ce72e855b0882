use Rattle.std.proofs.Common.{◌⊎◌, inl, inr, Result, Ok, Err, OnOk, OnErr}
use Rattle.sasi_cache.proofs.pages.keep.Goals as goal

either : {T E P Q : Type 0} (r : Result T E) → OnOk r P → OnErr r Q → P ⊎ Q
either (Ok x) ok err = inl ok
either (Err e) ok err = inr err

pub returns : goal.returns
returns c = either c.put.result c.put.ensures.entries c.put.ensures.err
