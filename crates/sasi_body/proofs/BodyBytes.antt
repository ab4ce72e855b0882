-- The bytes of a body: they are the same whatever the types, and fewer than 2^23.
use Rattle.std.proofs.Common.{◌≡◌, ◌<◌, ◌^◌, ◌≤◌, ◌*◌, ◌+◌, ℕ, length, Option, None, Some, refl, sym, ap, ◌∙◌, arith, List, [], ◌∷◌, ◌++◌, length-append, append_assoc, Result, Ok, Err, OnOk}
use Rattle.std.specs.Prelude.{IfSome}
use Rattle.std.specs.Int.{to_be_bytes, w16, w64}
use Rattle.std.specs.List.{AllByRecursion}
use Rattle.sasi_host.specs.Names.{Bytes}
use Rattle.sasi_types.specs.declared.column.ColumnType.{ColumnType}
use Rattle.sasi_types.specs.declared.value.Value.{Value}
use Rattle.sasi_types.specs.Value.{stored}
use Rattle.sasi_model.specs.Cells.{Partition}
use Rattle.sasi_model.specs.Stored.{HasBytes, HasCellBytes, IsCell}
use Rattle.sasi_cells.specs.Entries.{Entry}
use Rattle.sasi_formats.specs.Formats.{encoded, encoded_items}
use Rattle.sasi_formats.proofs.Putting.{same_items}
use Rattle.sasi_body.specs.Body.{key, value, cell, cells, body_of, content, body, cells_of, HasBody}
use Rattle.sasi_body.proofs.TypedValues.{value_short}

-- ---- whatever the types

-- the bytes of a cell are the same for all types, deletions and cells before
pub same_cell : (listed : List ColumnType) (deleted : ℕ) (before : List Entry) (e : Entry) → encoded (cell listed deleted before) e ≡ encoded (cell [] 0 []) e
same_cell listed deleted before e = ap (λ (l : Bytes). to_be_bytes w16 e.0 ++ (to_be_bytes w64 e.1.time ++ l)) (by_value e.1.value) where
  by_value : (v : Option Value) → encoded (value listed e.0) v ≡ encoded (value [] e.0) v
  by_value None = refl
  by_value (Some x) = refl

pub same_body : (listed : List ColumnType) (key_bytes : Bytes) (part : Partition) → encoded (body_of listed) (content key_bytes part) ≡ body key_bytes part
unfolding body
same_body listed key_bytes part =
    ap (λ (l : Bytes). (to_be_bytes w16 (length key_bytes) ++ key_bytes) ++ (to_be_bytes w64 part.deleted ++ (to_be_bytes w16 (length (cells_of part)) ++ l)))
    (same_items (λ before. encoded (cell listed part.deleted before)) (λ before. encoded (cell [] part.deleted before)) (λ before e. same_cell listed part.deleted before e ∙ sym (same_cell [] part.deleted before e)) (cells_of part) [])

-- the bytes in their parts
pub body_parts : (key_bytes : Bytes) (part : Partition)
    → body key_bytes part ≡ (to_be_bytes w16 (length key_bytes) ++ key_bytes) ++ (to_be_bytes w64 part.deleted ++ (to_be_bytes w16 (length (cells_of part)) ++ encoded_items (λ _. encoded (cell [] 0 [])) [] (cells_of part)))
unfolding body
body_parts key_bytes part =
    ap (λ (l : Bytes). (to_be_bytes w16 (length key_bytes) ++ key_bytes) ++ (to_be_bytes w64 part.deleted ++ (to_be_bytes w16 (length (cells_of part)) ++ l)))
    (same_items (λ before. encoded (cell [] part.deleted before)) (λ _. encoded (cell [] 0 [])) (λ before e. same_cell [] part.deleted before e) (cells_of part) [])

-- ---- lengths

value_length : (column : ℕ) (v : Option Value) → IfSome v HasBytes → length (encoded (value [] column) v) ≤ 65538
value_length column None has = omega arith
value_length column (Some x) has = omega (arith, value_short x has, length-append (to_be_bytes w16 (length (stored x))) (stored x))

cell_length : (deleted : ℕ) (e : Entry) → IsCell deleted e → length (encoded (cell [] 0 []) e) ≤ 65548
cell_length deleted e is =
    omega (arith, value_length e.0 e.1.value is.value, length-append (to_be_bytes w16 e.0) (to_be_bytes w64 e.1.time ++ encoded (value [] e.0) e.1.value), length-append (to_be_bytes w64 e.1.time) (encoded (value [] e.0) e.1.value))

cells_length : (deleted : ℕ) (before entries : List Entry) → AllByRecursion (IsCell deleted) entries → length (encoded_items (λ _. encoded (cell [] 0 [])) before entries) ≤ 65548 * length entries
cells_length deleted before [] each = omega arith
cells_length deleted before (e ∷ others) each =
    omega (arith, cell_length deleted e each.0, cells_length deleted (before ++ e ∷ []) others each.1, length-append (encoded (cell [] 0 []) e) (encoded_items (λ _. encoded (cell [] 0 [])) (before ++ e ∷ []) others))

parts_length : (key_bytes : Bytes) (part : Partition) → length (body key_bytes part) ≡ 12 + length key_bytes + length (encoded_items (λ _. encoded (cell [] 0 [])) [] (cells_of part))
parts_length key_bytes part =
    let entries = encoded_items (λ _. encoded (cell [] 0 [])) [] (cells_of part) in
    omega (
      arith,
      ap (λ (l : Bytes). length l) (body_parts key_bytes part),
      length-append (to_be_bytes w16 (length key_bytes) ++ key_bytes) (to_be_bytes w64 part.deleted ++ (to_be_bytes w16 (length (cells_of part)) ++ entries)),
      length-append (to_be_bytes w16 (length key_bytes)) key_bytes,
      length-append (to_be_bytes w64 part.deleted) (to_be_bytes w16 (length (cells_of part)) ++ entries),
      length-append (to_be_bytes w16 (length (cells_of part))) entries,
    )

-- a body has fewer than 2^23 bytes
pub body_short : (key_bytes : Bytes) (part : Partition) → HasBody key_bytes part → length (body key_bytes part) < 2 ^ 23
body_short key_bytes part has = omega (arith, has.key_short, has.count.few, cells_length part.deleted [] (cells_of part) has.cells, parts_length key_bytes part)

-- and at least 13
pub body_least : (key_bytes : Bytes) (part : Partition) → HasBody key_bytes part → 13 ≤ length (body key_bytes part)
body_least key_bytes part has = omega (arith, has.key_some, parts_length key_bytes part)

-- ---- what is put

-- the bytes of cells, whatever the deletion
cells_bytes : (deleted : ℕ) (entries : List Entry) → encoded (cells [] deleted) entries ≡ to_be_bytes w16 (length entries) ++ encoded_items (λ _. encoded (cell [] 0 [])) [] entries
cells_bytes deleted entries =
    ap (λ (l : Bytes). to_be_bytes w16 (length entries) ++ l) (same_items (λ before. encoded (cell [] deleted before)) (λ _. encoded (cell [] 0 [])) (λ before e. same_cell [] deleted before e) entries [])

pub all_put : (entries items : List Entry) (start old new : Bytes) → old ≡ start ++ to_be_bytes w16 (length entries) → items ≡ entries → new ≡ old ++ encoded_items (λ _. encoded (cell [] 0 [])) [] items → new ≡ start ++ encoded (cells [] 0) entries
all_put entries items start old new count same put =
    put ∙ ap (λ (l : List Entry). old ++ encoded_items (λ _. encoded (cell [] 0 [])) [] l) same ∙ ap (λ (l : Bytes). l ++ encoded_items (λ _. encoded (cell [] 0 [])) [] entries) count
    ∙ append_assoc start (to_be_bytes w16 (length entries)) (encoded_items (λ _. encoded (cell [] 0 [])) [] entries) ∙ ap (λ (l : Bytes). start ++ l) (sym (cells_bytes 0 entries))

pub body_put : {E : Type 0} (result : Result (Unit {0}) E) (key_bytes : Bytes) (part : Partition) (entries : List Entry) (start first second new : Bytes) → first ≡ start ++ encoded (key []) key_bytes → second ≡ first ++ to_be_bytes w64 part.deleted
    → entries ≡ cells_of part → OnOk result (new ≡ second ++ encoded (cells [] 0) entries) → OnOk result (new ≡ start ++ body key_bytes part)
unfolding body
body_put (Ok _) key_bytes part entries start first second new keyed timed same put =
    put ∙ ap (λ (l : List Entry). second ++ encoded (cells [] 0) l) same ∙ ap (λ (l : Bytes). second ++ l) (cells_bytes 0 (cells_of part) ∙ sym (cells_bytes part.deleted (cells_of part)))
    ∙ ap (λ (l : Bytes). l ++ encoded (cells [] part.deleted) (cells_of part)) (timed ∙ ap (λ (l : Bytes). l ++ to_be_bytes w64 part.deleted) keyed)
    ∙ regroup start (encoded (key []) key_bytes) (to_be_bytes w64 part.deleted) (encoded (cells [] part.deleted) (cells_of part))
  where
    regroup : (o a b c : Bytes) → ((o ++ a) ++ b) ++ c ≡ o ++ (a ++ (b ++ c))
    regroup o a b c = simp append_assoc
body_put (Err e) key_bytes part entries start first second new keyed timed same put = tt

-- the values of cells have bytes
pub values_have_bytes : (deleted : ℕ) (entries : List Entry) → AllByRecursion (IsCell deleted) entries → AllByRecursion HasCellBytes entries
values_have_bytes deleted [] each = tt
values_have_bytes deleted (e ∷ others) each = (each.0.value, values_have_bytes deleted others each.1)
