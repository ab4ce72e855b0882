-- What a call says of a source of which something was known at an earlier moment.
use Rattle.std.proofs.Common.{ℕ, List, [], Option, None, Some, Result, Ok, Err, IfOk, refl}
use Rattle.std.specs.FinMap.{get}
use Rattle.sasi_host.specs.declared.damage.Damage.{Damage}
use Rattle.sasi_host.specs.declared.fault.ReadFault.{ReadFault}
use Rattle.sasi_host.specs.declared.fault.ReadFault.TheVariants as fault
use Rattle.sasi_host.specs.View.{View}
use Rattle.sasi_host.specs.declared.name.FileName.{FileName}
use Rattle.sasi_host.specs.Names.{Folder}
use Rattle.sasi_memindex.specs.Book.{Book}
use Rattle.sasi_model.specs.Cells.{Partition}
use Rattle.sasi_ranges.specs.StreamCalls.{Spends, StreamFaults}
use Rattle.sasi_ranges.proofs.Calling.{fails_nothing, faults_as, faults_memory}
use Rattle.sasi_memindex.proofs.GrowthLaws.{grown_not}
use Rattle.sasi_recheck.specs.Sources.{Candidate, GivesFirst}
use Rattle.sasi_plan.specs.Begun.{Since}

-- what is so now is so since now
pub since_now : (Opens : FileName → Type 0) (Uses : ℕ → Type 0) (P : Option Folder → Book → Type 0) (files : Option Folder) (book : Book) → P files book → Since Opens Uses P files book
since_now Opens Uses P files book is = (files, book, record { there = λ some. some; files_are = λ name opens. refl; maps_are = λ number uses. grown_not (get book number) }, is)

-- what follows of what is left
pub gives_as : (P Q : List Candidate → Type 0) (left : List Candidate) (r : Result (Option (List ℕ × Partition)) ReadFault) → ((rest : List Candidate) → P rest → Q rest) → IfOk r (GivesFirst P left) → IfOk r (GivesFirst Q left)
gives_as P Q left (Err fault) follows gives = gives
gives_as P Q left (Ok None) follows gives = (gives.0, follows [] gives.1)
gives_as P Q left (Ok (Some one)) follows gives = (gives.0, gives.1, gives.2, gives.3, gives.4, follows gives.1 gives.5)

-- and of what may be spent
pub spends_as : {T : Type 0} (P Q : ℕ → Type 0) (most before now : ℕ) (r : Result T ReadFault) → ((rest : ℕ) → P rest → Q rest) → Spends P most before now r → Spends Q most before now r
spends_as P Q most before now (Err fault) follows spent = spent
spends_as P Q most before now (Ok value) follows spent = (spent.0, follows spent.0 spent.1, spent.2)

-- memory is lacking before anything was read
pub memory_lacks : {T L : Type 0} (Shown Shows : Damage → Type 0) (Leaves : L → Type 0) (v : View) → ((damage : Damage) → Shows damage → Shown damage) → StreamFaults {T = T} Shown Shows Leaves v v (Err fault.OutOfMemory)
memory_lacks {T} {L} Shown Shows Leaves v follows =
    faults_memory {R = ℕ} {T = T} {L = L} {M = L} Shown Shows Leaves Leaves v v 0
    (faults_as {T = ℕ} {L = L} {M = L} Shown Shown Shows Leaves Leaves v v (Ok 0) follows (λ l is. (l, is)) (fails_nothing {T = ℕ} {L = L} Shown Leaves v 0))
