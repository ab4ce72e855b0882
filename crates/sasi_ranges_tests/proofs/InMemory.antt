-- Streams in memory read no file, and are ready.
use Rattle.std.proofs.Common.{◌≡◌, List, [], ◌∷◌, Option, IfOk, Result, Ok, subst, ⊎_elim}
use Rattle.sasi_host.specs.Names.{Folder}
use Rattle.sasi_host.specs.declared.name.FileName.{FileName}
use Rattle.sasi_ranges.specs.EachStream.{EachIsReady, SomeOpens}

pub of_ok : {T E : Type 0} (P : T → Type 0) (r : Result T E) (v : T) → r ≡ Ok v → IfOk r P → P v
of_ok {T} {E} P r v is ok = subst (λ (k : Result T E). IfOk k P) is ok

module _ {S : Type 0} where
  pub no_file : (opens : S → FileName → Type 0) → ((s : S) (name : FileName) → opens s name → ⊥) → (ss : List S) (name : FileName) → SomeOpens opens ss name → ⊥
  no_file opens none [] name is = is
  no_file opens none (s ∷ ss) name is = ⊎_elim (λ here. none s name here) (λ later. no_file opens none ss name later) is

  pub all_ready : (ready : S → Option Folder → Type 0) (files : Option Folder) → ((s : S) → ready s files) → (ss : List S) → EachIsReady ready files ss
  all_ready ready files each [] = tt
  all_ready ready files each (s ∷ ss) = (each s, all_ready ready files each ss)
