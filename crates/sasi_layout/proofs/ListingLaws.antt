-- What the moves make of the listing: a flush is one record that puts a file behind the others, and a create is one that creates a table.
use Rattle.std.specs.Prelude.{◌≡◌, ◌<◌, ◌≤◌, ℕ, suc, true, false, cond, nat_eq, nat_le, List, [], ◌∷◌, ◌++◌, map, Some, refl}
use Rattle.std.proofs.Common.{sym, ap, ◌∙◌, arith}
use Rattle.std.proofs.lemmas.Bool.Decides.{nat_tests}
use Rattle.std.proofs.lemmas.List.{map-append}
use Rattle.sasi_cells.specs.declared.mutation.Mutation.{Mutation}
use Rattle.sasi_model.specs.State.{Definition}
use Rattle.sasi_manifest.specs.declared.files.ListedFile.{ListedFile}
use Rattle.sasi_manifest.specs.declared.listing.Listing.{Listing}
use Rattle.sasi_manifest.specs.ListedDefinition.{ListedDefinition}
use Rattle.sasi_manifest.specs.ListedFiles.{with_file, without}
use Rattle.sasi_manifest.specs.Format.{IsNext}
use Rattle.sasi_manifest.specs.Listings.{at_number, replaced}
use Rattle.sasi_layout.specs.Layout.{File, Layout, TableParts, listed_of, listing_of, numbered}
use Rattle.sasi_layout.specs.Moves.{after_create, after_flush, after_freeze, after_put, create_edits, flush_edits, flush_table, flushed_file, flush_parts, freeze_table, new_listed_file, new_parts, parts_drawn, put_table}
use Rattle.sasi_layout.specs.NumbersInOrder.{HasFilesInOrder, HasNumbersInOrder, Rising}
use Rattle.std.specs.List.{AllByRecursion}
use Rattle.std.specs.Option.{option_map_or}
use Rattle.sasi_manifest.specs.declared.files.PartNumber.{PartNumber}
use Rattle.sasi_manifest.proofs.Replacing.{At}
use Rattle.sasi_layout.proofs.Numbered.{at_past, seen_of_it, unseen_at}

-- the listing of a layout with other tables
abbrev with_tables : Layout → List ListedDefinition → Listing
with_tables l ts = record (listing_of l) { tables = ts }

-- ---- moves that list nothing

pub put_listing : (m : Mutation) (l : Layout) → listing_of (after_put m l) ≡ listing_of l
put_listing m l = ap (with_tables l) (unseen_at listed_of (put_table l.partitioner l.last m) (λ t. refl) 1 m.table l.tables)

pub freeze_listing : (table : ℕ) (l : Layout) → listing_of (after_freeze table l) ≡ listing_of l
freeze_listing table l = ap (with_tables l) (unseen_at listed_of freeze_table (λ t. refl) 1 table l.tables)

-- ---- a flush

none_away : (fs : List ListedFile) → without [] fs ≡ fs
none_away [] = refl
none_away (f ∷ fs) = ap (λ (l : List ListedFile). f ∷ l) (none_away fs)

pub rising_bound : (low high : ℕ) (fs : List ListedFile) → Rising low high fs → low ≤ high
rising_bound low high [] rise = rise
rising_bound low high (f ∷ fs) rise = omega (arith, rise.0, rising_bound f.number high fs rise.1)

-- a file above all others is put behind them
put_last : (f : ListedFile) (low high : ℕ) (fs : List ListedFile) → Rising low high fs → high < f.number → with_file f fs ≡ fs ++ f ∷ []
put_last f low high [] rise above = refl
put_last f low high (g ∷ gs) rise above =
    let bound = rising_bound g.number high gs rise.1 in
    let less : g.number < f.number = omega (arith, bound, above) in
    let other : nat_le f.number g.number ≡ false = grind (arith, nat_tests, less) in
    ap (λ b. cond b (f ∷ g ∷ gs) (g ∷ with_file f gs)) other ∙ ap (λ (l : List ListedFile). g ∷ l) (put_last f g.number high gs rise.1 above)

-- the table that is flushed is in order, and draws these parts
abbrev Draws : ℕ → ℕ → ℕ → List PartNumber → TableParts → Type 0
Draws high last part parts t = HasFilesInOrder high last (listed_of t) × (parts_drawn part t ≡ parts)

flush_listed : (high last part : ℕ) (parts : List PartNumber) (t : TableParts) → Draws high last part parts t → listed_of (flush_table (suc high) part (suc last) t) ≡ replaced [] (new_listed_file (suc high) parts ∷ []) (suc last) (listed_of t)
flush_listed high last part parts t draws =
    let files : List ListedFile = map (λ (f : File). f.listed) t.files in
    ap (λ (fs : List ListedFile). record (listed_of t) { since = suc last; files = fs }) (
    map-append (λ (f : File). f.listed) t.files (flushed_file (suc high) part t ∷ [])
    ∙ ap (λ (ps : List PartNumber). files ++ new_listed_file (suc high) ps ∷ []) draws.1
    ∙ sym (put_last (new_listed_file (suc high) parts) 0 high files draws.0.rise (omega arith))
    ∙ ap (with_file (new_listed_file (suc high) parts)) (sym (none_away files)))

-- the parts that the table of the number draws
draws_at : (high last part n table : ℕ) (ts : List TableParts) → AllByRecursion (HasFilesInOrder high last) (map listed_of ts) → At n table (Draws high last part (option_map_or (parts_drawn part) (numbered n table ts) [])) ts
draws_at high last part n table [] in_order = tt
draws_at high last part n table (t ∷ ts) in_order =
    let rest = draws_at high last part (suc n) table ts in_order.1 in
    elim (nat_eq n table) as (λ b. nat_eq n table ≡ b → (b ≡ true → Draws high last part (option_map_or (parts_drawn part) (cond b (Some t) (numbered (suc n) table ts)) []) t) × At (suc n) table (Draws high last part (option_map_or (parts_drawn part) (cond b (Some t) (numbered (suc n) table ts)) [])) ts) [
      | true ↦ λ own. (λ is. (in_order.0, refl), at_past (suc n) table _ ts (let same : n ≡ table = grind (arith, nat_tests, own) in omega (arith, same)))
      | false ↦ λ other. (λ is. cc, rest)
    ] refl

-- what is listed of the tables after a flush
pub flushed_tables : (table : ℕ) (l : Layout) → HasNumbersInOrder l → (listing_of (after_flush table l)).tables ≡ at_number 1 table (replaced [] (new_listed_file (suc l.used.«data») (flush_parts table l) ∷ []) (suc l.last)) (listing_of l).tables
flushed_tables table l in_order = seen_of_it listed_of (flush_table (suc l.used.«data») l.used.part (suc l.last)) (Draws l.used.«data» l.last l.used.part (flush_parts table l)) (replaced [] (new_listed_file (suc l.used.«data») (flush_parts table l) ∷ []) (suc l.last))
    (flush_listed l.used.«data» l.last l.used.part (flush_parts table l)) 1 table l.tables (draws_at l.used.«data» l.last l.used.part 1 table l.tables in_order.files)

-- A flush is one record of the manifest.
pub flush_is_next : (table : ℕ) (l : Layout) → HasNumbersInOrder l → IsNext (listing_of l) (flush_edits table l) (listing_of (after_flush table l))
flush_is_next table l in_order = ap (λ (ts : List ListedDefinition). Some (record (listing_of (after_flush table l)) { tables = ts })) (flushed_tables table l in_order)

-- ---- a new table

-- what is listed of the tables with a new one
pub created_tables : (d : Definition) (l : Layout) → (listing_of (after_create d l)).tables ≡ (listing_of l).tables ++ listed_of (new_parts d l.last) ∷ []
created_tables d l = map-append listed_of l.tables (new_parts d l.last ∷ [])

-- A new table is one record too.
pub create_is_next : (d : Definition) (l : Layout) → d.indexes ≡ [] → IsNext (listing_of l) (create_edits d l) (listing_of (after_create d l))
create_is_next d l none =
    let bare_parts : listed_of (new_parts d l.last) ≡ listed_of (new_parts (record d { indexes = [] }) l.last) = λ i. listed_of (new_parts (record d { indexes = none i }) l.last) in
    ap (λ (ts : List ListedDefinition). Some (record (listing_of (after_create d l)) { tables = ts }))
    (created_tables d l ∙ ap (λ (one : ListedDefinition). (listing_of l).tables ++ one ∷ []) bare_parts)
