-- The file of a compaction is there once its bytes are.
use Rattle.std.specs.Prelude.{◌≡◌, ◌≤◌, ◌^◌, ℕ, suc, Bool, true, false, cond, nat_eq, List, [], ◌∷◌, length, map, Some, refl}
use Rattle.std.proofs.Common.{sym, ap, subst, ◌∙◌}
use Rattle.std.specs.FinMap as map_
use Rattle.std.specs.List.{AllByRecursion}
use Rattle.std.specs.Ordering.{eq_by_cmp}
use Rattle.sasi_types.specs.DecoratedKey.{decorated_cmp, decorated_total}
use Rattle.sasi_types.specs.Token.{AreBytes}
use Rattle.sasi_types.specs.declared.decorated_key.DecoratedKey.{DecoratedKey}
use Rattle.sasi_types.specs.declared.partitioner.Partitioner.{Partitioner}
use Rattle.sasi_model.specs.Abbreviations.{Partitions, types_of}
use Rattle.sasi_model.specs.State.{Definition, decorated}
use Rattle.sasi_model.specs.Stored.{IsBodyOf}
use Rattle.sasi_cells.specs.declared.mutation.Mutation.{Mutation}
use Rattle.sasi_cells.proofs.Laws.Decorated.{equal_keys}
use Rattle.sasi_host.specs.Disk.{Each, IsFileDurable}
use Rattle.sasi_host.specs.Names.{Bytes, Folder, data_name}
use Rattle.sasi_host.specs.View.{View}
use Rattle.sasi_datawrite.specs.Format.{Content}
use Rattle.sasi_manifest.specs.ListedFiles.{is_among}
use Rattle.sasi_layout.specs.Compacted.{HasOutput, HasOutputIndexes, IsMerge}
use Rattle.sasi_layout.specs.Compacting.{Compaction, chosen, output_file}
use Rattle.sasi_layout.specs.Layout.{File, Layout, TableParts, bare, bare_table, numbered}
use Rattle.sasi_layout.specs.Serving.{AreStorable, IsStorable}
use Rattle.sasi_layout.specs.Shape.{AreShaped, HasFile, HasShape}
use Rattle.sasi_layout.proofs.CompactLaws.{at_one, holds_of}
use Rattle.sasi_layout.proofs.Contents.{has_written}
use Rattle.sasi_layout.proofs.Storable.{entries_storable, merged_storable}

-- ---- the sources

-- the map of a data file of a table can be stored in it
pub file_storable : (folder : Folder) (p : Partitioner) (d : Definition) (ns : List ℕ) (f : File) → HasFile folder p d ns f → AreStorable p (types_of d) f.holds
file_storable folder p d ns f has q part is =
    by has.content (sym (map_.get-from_entries decorated_total (map (λ one. (decorated p one.0, one.1)) has.content) q) ∙ ap (λ (m : Partitions). map_.get m q) (sym has.holds) ∙ is) has.keys has.data_file.typed
  where
    by : (content : Content) → map_.find decorated_cmp q (map (λ one. (decorated p one.0, one.1)) content) ≡ Some part → AllByRecursion (λ one. AreBytes one.0) content → AllByRecursion (λ one. IsBodyOf (types_of d) one.0 one.1) content → IsStorable p (types_of d) (q, part)
    by [] found keys typed = cc
    by (one ∷ rest) found keys typed =
        elim (eq_by_cmp decorated_cmp q (decorated p one.0)) as (λ b. eq_by_cmp decorated_cmp q (decorated p one.0) ≡ b → cond b (Some one.1) (map_.find decorated_cmp q (map (λ one. (decorated p one.0, one.1)) rest)) ≡ Some part → IsStorable p (types_of d) (q, part)) [
          | true ↦ λ same there.
              let at : q ≡ decorated p one.0 = equal_keys q (decorated p one.0) same in
              let parts : one.1 ≡ part = cc in
              record {
                key_is = at ∙ ap (λ (k : DecoratedKey). decorated p k.key) (sym at);
                bytes = subst (λ (k : DecoratedKey). AreBytes k.key) (sym at) keys.0;
                body = subst (λ (k : DecoratedKey). IsBodyOf (types_of d) k.key part) (sym at) (subst (IsBodyOf (types_of d) one.0) parts typed.0);
              }
          | false ↦ λ other there. by rest there keys.1 typed.1
        ] refl found

chosen_storable : (folder : Folder) (p : Partitioner) (d : Definition) (ns sources : List ℕ) (fs : List File) → AllByRecursion (HasFile folder p d ns) fs → AllByRecursion (AreStorable p (types_of d)) (holds_of (chosen sources fs))
chosen_storable folder p d ns sources [] all = tt
chosen_storable folder p d ns sources (f ∷ fs) all = by (is_among sources f.listed.number) (chosen_storable folder p d ns sources fs all.1)
  where
    by : (b : Bool) → AllByRecursion (AreStorable p (types_of d)) (holds_of (chosen sources fs)) → AllByRecursion (AreStorable p (types_of d)) (holds_of (cond b (f ∷ chosen sources fs) (chosen sources fs)))
    by true rest = (file_storable folder p d ns f all.0, rest)
    by false rest = rest

-- the files of the table of a number are there
pub shaped_files : (x : Folder) (p : Partitioner) (floor n number : ℕ) (logs : List (List Mutation)) (ts : List TableParts) (t : TableParts) → numbered n number ts ≡ Some t → AreShaped x p floor n logs (map bare_table ts) → AllByRecursion (HasFile x p t.definition t.numbers) t.files
shaped_files x p floor n number logs [] t there are = cc
shaped_files x p floor n number logs (k ∷ ts) t there are =
    elim (nat_eq n number) as (λ b. cond b (Some k) (numbered (suc n) number ts) ≡ Some t → AllByRecursion (HasFile x p t.definition t.numbers) t.files) [
      | true ↦ λ is. (let same : k ≡ t = cc in subst (λ (t : TableParts). AllByRecursion (HasFile x p t.definition t.numbers) t.files) same are.0.files)
      | false ↦ λ is. shaped_files x p floor (suc n) number logs ts t is are.1
    ] there

-- ---- the output

-- **Once each image has the bytes of the merge, and the index files, each has the file of the compaction.**
pub output_each : (c : Compaction) (l : Layout) (t : TableParts) (bytes : Bytes) (v : View) (logs : List (List Mutation)) → numbered 1 c.table l.tables ≡ Some t → length (types_of t.definition) ≤ 64 → Each v (λ x. HasShape x (bare l) logs)
    → IsMerge l.partitioner l.used.part c bytes t → IsFileDurable v (data_name c.output) bytes → length bytes ≤ 2 ^ 62 → Each v (HasOutputIndexes l.partitioner l.used.part c t) → Each v (λ x. HasShape x (bare l) logs × HasOutput c l x)
output_each c l t bytes v logs there few each merge kept fits indexes x now =
    let has = each x now in
    let files = shaped_files x l.partitioner l.floor 1 c.table logs l.tables t there has.tables in
    let out = output_file l.used.part c t in
    let storable : AreStorable l.partitioner (types_of t.definition) out.holds = merged_storable l.partitioner (types_of t.definition) few (holds_of (chosen c.sources t.files)) (chosen_storable x l.partitioner t.definition t.numbers c.sources t.files files) in (
      has,
      at_one (λ t. HasFile x l.partitioner t.definition t.numbers (output_file l.used.part c t)) 1 c.table l.tables t there
          (has_written x l.partitioner t.definition t.numbers out (record { some = merge.some; storable = entries_storable l.partitioner (types_of t.definition) out.holds storable })
          (kept x now ∙ ap (λ (b : Bytes). Some b) merge.bytes_are) (subst (λ (b : Bytes). length b ≤ 2 ^ 62) merge.bytes_are fits) (indexes x now)),
    )
