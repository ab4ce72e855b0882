-- What scans and look-ups give can be printed.
use Rattle.std.proofs.Common.{◌≡◌, ◌<◌, ℕ, zero, suc, List, [], ◌∷◌, slice_get, slice_index_or, length, Option, None, Some, IfSome, is_some, sym, ap, subst, ◌∙◌, arith}
use Rattle.std.specs.List.{AllByRecursion}
use Rattle.std.specs.Option.{option_map}
use Rattle.sasi_types.specs.declared.column.ColumnType.{ColumnType}
use Rattle.sasi_types.specs.declared.column.ColumnType.TheVariants as types_
use Rattle.sasi_model.specs.Cells.{Partition, empty_partition, merge}
use Rattle.sasi_model.specs.Stored.{IsBodyOf, IsValueOf}
use Rattle.sasi_cells.specs.Rows.{IsStored}
use Rattle.sasi_host.specs.Names.{Bytes}
use Rattle.sasi_memtable.specs.MemtableView.{MemtableView}
use Rattle.sasi_machine.specs.TableRows.{AreStored}
use Rattle.sasi_machine.specs.Where.{HasTexts}
use Rattle.sasi_machine.proofs.Texts.{body_texts, empty_texts, merged_texts}
use Rattle.sasi_scan.specs.Parts.{IsMergeOfParts, IsOfPart, of_file, of_map, merged_all}
use Rattle.sasi_recheck.specs.Sources.{GivesPrintable, IsPrintable}

value_stored : (kind : ColumnType) (bytes : List ℕ) → IsValueOf kind bytes → IsStored kind bytes
value_stored types_.Text bytes is = tt
value_stored types_.Int bytes is = is
value_stored types_.BigInt bytes is = is
value_stored types_.Uuid bytes is = is

-- the key of a body is a value of the first type
body_keyed : (types : List ColumnType) (kind : ColumnType) (key : Bytes) (part : Partition) → slice_get types 0 ≡ Some kind → IsBodyOf types key part → IsStored kind key
body_keyed types kind key part first is =
    let same : is.key_typed.type ≡ kind = (let both : Some is.key_typed.type ≡ Some kind = sym is.key_typed.listed ∙ first in cc) in
    subst (λ (k : ColumnType). IsStored k key) same (value_stored is.key_typed.type key is.key_typed.value)

all_within : {A : Type 0} (P : A → Type 0) (xs : List A) (x : A) (k : ℕ) → k < length xs → slice_index_or xs k x ≡ x → AllByRecursion P xs → P x
all_within P [] x k below is all = absurd (omega (arith, below))
all_within P (y ∷ xs) x zero below is all = subst P is all.0
all_within P (y ∷ xs) x (suc k) below is all = all_within P xs x k (omega (arith, below)) is all.1

module _ (types : List ColumnType) (ms : List MemtableView) (kind : ColumnType) (first : slice_get types 0 ≡ Some kind) (stored : AllByRecursion (λ (m : MemtableView). AreStored kind m.partitions) ms) (key : List ℕ) where
  -- what a part has of a key
  part_printable : (part : Partition) → IsOfPart types ms key part → IsPrintable kind key part
  part_printable part (of_file body) = record { stored = body_keyed types kind key part first body; texts = body_texts types key part body }
  part_printable part (of_map m q among there same) =
      let are = all_within (λ (m : MemtableView). AreStored kind m.partitions) ms m among.0 among.1 among.2 stored in
      record { stored = subst (λ (k : List ℕ). IsStored kind k) same (are.keys q (ap is_some there)); texts = are.texts q part there }

  all_texts : (base : Partition) (parts : List Partition) → HasTexts base → AllByRecursion (IsOfPart types ms key) parts → HasTexts (merged_all base parts)
  all_texts base [] one all = one
  all_texts base (p ∷ parts) one all = all_texts (merge base p) parts (merged_texts base p one (part_printable p all.0).texts) all.1

  -- and their merge
  pub parts_printable : (part : Partition) → IsMergeOfParts types ms key part → IsPrintable kind key part
  parts_printable part is = record {
    stored = (part_printable is.oldest is.oldest_of).stored;
    texts = subst HasTexts (sym is.is) (all_texts (merge empty_partition is.oldest) is.others (merged_texts empty_partition is.oldest empty_texts (part_printable is.oldest is.oldest_of).texts) is.others_of);
  }

  -- so can what is found of the key
  pub found_printable : (found : Option Partition) → IfSome found (IsMergeOfParts types ms key) → GivesPrintable kind (option_map (λ part. (key, part)) found)
  found_printable None is = tt
  found_printable (Some part) is = parts_printable part is
