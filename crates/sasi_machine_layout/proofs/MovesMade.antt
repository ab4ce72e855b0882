-- The moves of a write and of a flush, once they are made or stopped.
use Rattle.std.proofs.Common.{◌≡◌, ◌-◌, ◌<◌, if◌then◌else◌, Bool, true, false, ℕ, List, [], ◌∷◌, Option, Some, Result, Ok, Err, IfOk, OnErr, OnOk, slice_get, refl, sym, ap, ◌∙◌, arith}
use Rattle.std.specs.Option.{option_map_or}
use Rattle.sasi_cells.specs.declared.mutation.Mutation.{Mutation}
use Rattle.sasi_layout.specs.Layout.{Layout, TableParts, unflushed}
use Rattle.sasi_layout.specs.Moves.{Flush, Move, Put, after_flush, after_moves, after_put}
use Rattle.sasi_layout.specs.Statements.{are_full, flush_where, moves_asked, tests_unflushed}
use Rattle.sasi_model.specs.Abbreviations.{Partitions}
use Rattle.sasi_model.specs.Asked.{Writes}
use Rattle.sasi_machine_layout.specs.Contents.{IsContents, layout_of, table_with}
use Rattle.sasi_machine_layout.specs.Steps.{IsMadeInPart}
use Rattle.sasi_machine_layout.specs.declared.contents.Contents.{Contents}
use Rattle.sasi_machine_layout.specs.declared.contents.TableContents.{TableContents}
use Rattle.sasi_machine_layout.proofs.TableLists.{has_at, numbered_at}

-- ---- in part

pub nothing_made : (moves : List Move) (old new : Layout) → new ≡ old → IsMadeInPart moves old new
nothing_made moves old new same = record { done = []; rest = moves; parts = refl; new_is = same }

-- a write without its flush
pub put_made : (l new : Layout) (w : Mutation) → new ≡ after_put w l → IsMadeInPart (moves_asked l (Writes w.table w.key w.change)) l new
put_made l new w is = record { done = Put w ∷ []; rest = flush_where are_full w.table (after_put w l); parts = refl; new_is = is }

-- ---- a flush that a test asks for

-- what isn't flushed of a table is its memtable
pub tested : (test : List Partitions → Bool) (c : Contents) (table : ℕ) (t : TableContents) → IsContents c → 0 < table → slice_get c.tables.items (table - 1) ≡ Some t → tests_unflushed test table (layout_of c) ≡ test (t.memtable.partitions ∷ [])
tested test c table t good some there =
    let has = has_at c.schema.definitions c.schema.numbers c.tables.items (table - 1) t good.held there in
    ap (λ (o : Option TableParts). option_map_or (λ t. test (unflushed t)) o false)
    (numbered_at 1 (table - 1) table (layout_of c).tables (table_with has.definition has.numbers t) (omega (arith, some)) has.there)

pub flush_asked : (test : List Partitions → Bool) (table : ℕ) (l : Layout) → tests_unflushed test table l ≡ true → after_moves (flush_where test table l) l ≡ after_flush table l
flush_asked test table l is = ap (λ b. after_moves (if b then Flush table ∷ [] else []) l) is

pub flush_spared : (test : List Partitions → Bool) (table : ℕ) (l : Layout) → tests_unflushed test table l ≡ false → after_moves (flush_where test table l) l ≡ l
flush_spared test table l is = ap (λ b. after_moves (if b then Flush table ∷ [] else []) l) is

-- after a write
pub write_flushed : (w : Mutation) (l middle new : Layout) → middle ≡ after_put w l → tests_unflushed are_full w.table middle ≡ true → new ≡ after_flush w.table middle → new ≡ after_moves (moves_asked l (Writes w.table w.key w.change)) l
write_flushed w l middle new put full flushed =
    flushed ∙ sym (flush_asked are_full w.table middle full) ∙ ap (λ (m : Layout). after_moves (flush_where are_full w.table m) m) put

pub write_spared : (w : Mutation) (l middle : Layout) → middle ≡ after_put w l → tests_unflushed are_full w.table middle ≡ false → middle ≡ after_moves (moves_asked l (Writes w.table w.key w.change)) l
write_spared w l middle put room =
    sym (flush_spared are_full w.table middle room) ∙ ap (λ (m : Layout). after_moves (flush_where are_full w.table m) m) put

-- ---- results

pub on_ok : {T E P Q : Type 0} (result : Result T E) → (P → Q) → OnOk result P → OnOk result Q
on_ok (Ok x) f p = f p
on_ok (Err e) f p = tt

pub on_err : {T E P Q : Type 0} (result : Result T E) → (P → Q) → OnErr result P → OnErr result Q
on_err (Ok x) f p = tt
on_err (Err e) f p = f p

-- what holds whatever the result is
pub at_err : {T E P : Type 0} (result : Result T E) → P → OnErr result P
at_err (Ok x) p = tt
at_err (Err e) p = p

pub on_value : {T E : Type 0} {P Q : T → Type 0} (result : Result T E) → ((x : T) → P x → Q x) → IfOk result P → IfOk result Q
on_value (Ok x) f p = f x p
on_value (Err e) f p = tt
