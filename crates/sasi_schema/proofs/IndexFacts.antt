-- Facts on the indexes of a table.
use Rattle.std.proofs.Common.{◌≡◌, ◌-◌, ◌<◌, zero, suc, List, [], ◌∷◌, ◌++◌, length, map, get_or, Result, Ok, Err, OnOk, OnErr, Some, slice_get, refl, sym, ap, subst, ◌∙◌, arith}
use Rattle.std.specs.List.{All}
use Rattle.std.specs.Option.{option_map}
use Rattle.std.proofs.lemmas.List.{length-map}
use Rattle.std.proofs.lemmas.List.Elements.{All-append}
use Rattle.std.proofs.lemmas.Option.{slice_get-map, slice_get_read, slice_get_within}
use Rattle.sasi_types.specs.declared.index_def.IndexDef.{IndexDef}
use Rattle.sasi_model.specs.State.{Definition}
use Rattle.sasi_schema.specs.declared.table.Table.{Table}
use Rattle.sasi_schema.specs.Defined.{definition, definitions}
use Rattle.sasi_schema.specs.IndexFacts.{IsIndexIn, IsIndexOf}
use Rattle.sasi_schema.specs.Numbers.{RisesFrom}
use Rattle.sasi_schema.proofs.Rises.{rises_at}

-- ---- facts on all items

pub all_one : {X : Type 0} (P : X → Type 0) (x : X) → P x → All P (x ∷ [])
all_one P x is zero d inside = is
all_one P x is (suc k) d inside = absurd (omega arith)

-- what was true of each item is true of each, after one more was added or wasn't
pub all_added : {X A F : Type 0} (P : X → Type 0) (result : Result A F) (before after : List X) (x : X) → OnOk result (after ≡ before ++ x ∷ []) → OnErr result (after ≡ before)
    → All P before → P x → All P after
all_added P (Ok _) before after x ok err all is = subst (All P) (sym ok) (All-append P before (x ∷ []) all (all_one P x is))
all_added P (Err _) before after x ok err all is = subst (All P) (sym err) all

-- ---- the table of an index

pub table_within : (tables : List Table) (def : IndexDef) → IsIndexIn (definitions tables) def → def.table - 1 < length tables
table_within tables def is = rw (length-map tables definition) at (slice_get_within (definitions tables) (def.table - 1) is.definition is.found)

pub table_of_index : (tables : List Table) (def : IndexDef) (t : Table) → RisesFrom 1 (map (λ t. t.number) tables) → IsIndexIn (definitions tables) def
    → t ≡ get_or tables (def.table - 1) t → IsIndexOf t.number t.columns t.key def
table_of_index tables def t rises is at =
    let inside = table_within tables def is in
    let read : slice_get (definitions tables) (def.table - 1) ≡ Some (definition t) =
    slice_get-map definition tables (def.table - 1) ∙ ap (option_map definition) (slice_get_read tables (length tables) (def.table - 1) t refl inside at) in
    let same : is.definition ≡ definition t = cc (is.found) in
    let number : def.table ≡ t.number = omega (arith, is.above, rises_at 1 tables (def.table - 1) t rises inside at) in
    subst (λ n. IsIndexOf n t.columns t.key def) number (subst (λ (d : Definition). IsIndexOf def.table d.columns d.key def) same is.is)
