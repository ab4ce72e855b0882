-- A data file that was opened: what its partitions say of its content.
use Rattle.std.proofs.Common.{◌≡◌, ◌⊎◌, ℕ, ◌+◌, ◌^◌, ◌<◌, ◌≤◌, ◌++◌, [], length, length-append, ◌∙◌, ap, subst, arith, ⊎_elim, Option, Some, IfOk, IfErr, OnOk}
use Rattle.std.specs.Int.{to_be_bytes, w64}
use Rattle.std.specs.declared.result.Result.{Result}
use Rattle.std.specs.declared.result.Result.TheVariants.{Ok, Err}
use Rattle.sasi_host.specs.declared.fault.ReadFault.{ReadFault}
use Rattle.sasi_host.specs.declared.fault.ReadFault.TheVariants as fault
use Rattle.sasi_host.specs.Names.{Bytes}
use Rattle.sasi_host.specs.View.{View, contents}
use Rattle.sasi_host.specs.Disk.{Changes, Same}
use Rattle.sasi_host.proofs.ContentLaws.{contents_same}
use Rattle.sasi_types.specs.declared.partitioner.Partitioner.{Partitioner}
use Rattle.sasi_model.specs.Cells.{Partition}
use Rattle.sasi_body.specs.Body.{body, IsBodyOf}
use Rattle.sasi_body.proofs.Bodies.{bodies_same}
use Rattle.sasi_body.proofs.BodyBytes.{body_least, body_short}
use Rattle.sasi_host.specs.declared.name.FileName.{FileName}
use Rattle.sasi_host.specs.declared.damage.Damage.{Damage}
use Rattle.sasi_host.specs.declared.damage.FormatRule.TheVariants.{Place}
use Rattle.sasi_host.specs.Damages.{HasAt, DamageShown, seen_bytes}
use Rattle.sasi_host.proofs.DamageLaws.{shown_as}
use Rattle.sasi_tokentree.specs.Damages.{pair_offset}
use Rattle.sasi_dataread.specs.Damages.{ShowsPair, ShowsPartition}
use Rattle.sasi_dataread.specs.Damages.ShowsPair.{leads_nowhere, in_partition}
use Rattle.sasi_datawrite.specs.Format.{Content, header, partitions}
use Rattle.sasi_datawrite.proofs.Laws.{header_length}
use Rattle.sasi_dataread.specs.Opened.{OpenDataFile, StandsAt}
use Rattle.sasi_dataread.specs.Reads.{ReadsPartition, IsOpenOn, IsStoredAt, NoFalsePartitionDamage}
use Rattle.sasi_dataread.specs.Bodies.{length_prefixed, partition_reads, IsLength, IsPartitionOffset, NoFalseBodyDamage}
use Rattle.sasi_dataread.proofs.Laws.{partition_stands, partition_typed, partition_within}
use Rattle.sasi_dataread.proofs.Bodies.{sized_same}

-- ---- a partition

-- what was read is what stands there
pub gives_at : (v : View) (opened : OpenDataFile) (place : ℕ) (key : Bytes) (part : Partition) → IsBodyOf opened.types key part →
    ((bytes : Bytes) → contents v opened.file ≡ Some bytes → HasAt bytes place (length_prefixed (body key part))) → ReadsPartition v opened place key part
gives_at v opened place key part of stands partitioner content k p is at =
    let typed = partition_typed partitioner opened.types is.bytes content place k p is.data_file at in
    let same : body key part ≡ body k p =
    sized_same is.bytes place (body key part) (body k p) (omega (arith, body_short key part of.has)) (omega (arith, body_short k p typed.has))
    (stands is.bytes is.reads) (partition_stands partitioner opened.types is.bytes content place k p is.data_file at)
    in
    let both = bodies_same opened.types key k part p [] [] of typed (ap (λ (l : Bytes). l ++ []) same) in
    (both.0, both.1)

pub no_false_at : (v : View) (opened : OpenDataFile) (place : ℕ) (f : ReadFault) → NoFalseBodyDamage v opened.file opened.types opened.end place f → NoFalsePartitionDamage v opened place f
no_false_at v opened place fault.Failed no_false_damage = tt
no_false_at v opened place fault.OutOfMemory no_false_damage = tt
no_false_at v opened place (fault.Damaged damage) no_false_damage = λ partitioner content key part is at.
    no_false_damage is.bytes key part is.reads (partition_stands partitioner opened.types is.bytes content place key part is.data_file at)
    (partition_typed partitioner opened.types is.bytes content place key part is.data_file at)
    (omega (arith, partition_within content place key part at, is.of.end))

-- no partition of a data file is at an offset where none can begin
pub can_begin : (v : View) (opened : OpenDataFile) (partitioner : Partitioner) (content : Content) (place : ℕ) (key : Bytes) (part : Partition) → IsOpenOn v opened
    partitioner content → StandsAt content place key part → IsPartitionOffset opened.end place
can_begin v opened partitioner content place key part is at =
    let typed = partition_typed partitioner opened.types is.bytes content place key part is.data_file at in
    record {
      behind = omega (arith, at.begins, header_length, length-append header (partitions at.before));
      within = omega (arith, partition_within content place key part at, body_least key part typed.has, is.of.end);
    }

pub no_false_nowhere : (v : View) (opened : OpenDataFile) (place : ℕ) (damage : Damage) → (place < 16) ⊎ (opened.end < place + 17) → NoFalsePartitionDamage v
    opened place (fault.Damaged damage)
no_false_nowhere v opened place damage wrong partitioner content key part is at =
    let can = can_begin v opened partitioner content place key part is at in
    ⊎_elim (λ low. omega (arith, low, can.behind)) (λ high. omega (arith, high, can.within)) wrong

-- such an offset is blamed at its pair
pub nowhere_shown : (opened : OpenDataFile) (index place : ℕ) (bytes : Bytes) (damage : Damage) → damage.file ≡ opened.file → damage.rule ≡ Place
    → damage.at ≡ pair_offset opened.tree index + 8 → seen_bytes damage.seen ≡ to_be_bytes w64 place → (place < 16) ⊎ (opened.end < place + 17)
    → ShowsPair opened index place bytes damage
nowhere_shown opened index place bytes damage named rule at told wrong = leads_nowhere (record {
  named = named;
  rule = rule;
  at = at;
  told = told;
  wrong = λ can. ⊎_elim (λ low. omega (arith, low, can.behind)) (λ high. omega (arith, high, can.within)) wrong;
})

-- what is at one where one can begin is damage of its partition
pub there_shown : {T : Type 0} (v : View) (opened : OpenDataFile) (index place : ℕ) (result : Result T ReadFault) → IsPartitionOffset opened.end place → IfErr result
    (DamageShown v opened.file (ShowsPartition opened.types opened.end place opened.file)) → IfErr result (DamageShown v opened.file (ShowsPair opened index place))
there_shown v opened index place (Ok read) can shown = tt
there_shown v opened index place (Err f) can shown = shown_as (ShowsPartition opened.types opened.end place opened.file) (ShowsPair opened index place) v
    opened.file f (λ bytes damage is shows. in_partition can shows) shown

reads_at : (v : View) (opened : OpenDataFile) (page : Option ℕ) (place reads : ℕ) →
    ((bytes part : Bytes) → contents v opened.file ≡ Some bytes → HasAt bytes place (length_prefixed part) → length part < 2 ^ 32 → reads ≤ v.reads + partition_reads
    page place (length part))
    → (partitioner : Partitioner) (content : Content) (key : Bytes) (part : Partition) → IsOpenOn v opened partitioner content → StandsAt content
    place key part → reads ≤ v.reads + partition_reads page place (length (body key part))
reads_at v opened page place reads bound partitioner content key part is at =
    bound is.bytes (body key part) is.reads (partition_stands partitioner opened.types is.bytes content place key part is.data_file at)
    (omega (arith, body_short key part (partition_typed partitioner opened.types is.bytes content place key part is.data_file at).has))

-- what is stored at an offset was stored there before, if nothing was done
pub stored_before : (v w : View) (opened : OpenDataFile) (place : ℕ) (key : Bytes) (part : Partition) → Changes Same v w → IsStoredAt w opened place key part → IsStoredAt v opened place key part
stored_before v w opened place key part change stored = record { in_table = stored.in_table; fits = stored.fits; stands = λ bytes is. stored.stands bytes (contents_same v w opened.file change ∙ is) }

-- what holds in any case holds where a call succeeds
pub where_ok : {T : Type 0} (P : Type 0) (result : Result T ReadFault) → P → OnOk result P
where_ok P (Ok read) p = p
where_ok P (Err f) p = tt

-- ---- the same of a call's whole result, which speaks of a file by another name

pub at_stored : (v : View) (opened : OpenDataFile) (other : FileName) (place : ℕ) (result : Result (Bytes × Partition) ReadFault) → other ≡ opened.file
    → IfOk result (λ read. IsBodyOf opened.types read.0 read.1) → IfOk result (λ read. IsLength opened.end place (length (body read.0 read.1)))
    → IfOk result (λ read. (bytes : Bytes) → contents v other ≡ Some bytes → HasAt bytes place (length_prefixed (body read.0 read.1))) → IfOk result (λ read. IsStoredAt v opened place read.0 read.1)
at_stored v opened other place (Ok read) same of fits stands = record { in_table = of; fits = fits; stands = λ bytes is. stands bytes (ap (λ (n : FileName). contents v n) same ∙ is) }
at_stored v opened other place (Err f) same of fits stands = tt

pub at_ok : (v : View) (opened : OpenDataFile) (other : FileName) (place : ℕ) (result : Result (Bytes × Partition) ReadFault) → other ≡ opened.file → IfOk
    result (λ read. IsBodyOf opened.types read.0 read.1)
    → IfOk result (λ read. (bytes : Bytes) → contents v other ≡ Some bytes → HasAt bytes place (length_prefixed (body read.0 read.1))) → IfOk result (λ read. ReadsPartition v opened place read.0 read.1)
at_ok v opened other place (Ok read) same of stands = gives_at v opened place read.0 read.1 of (λ bytes is. stands bytes (ap (λ (n : FileName). contents v n) same ∙ is))
at_ok v opened other place (Err f) same of stands = tt

pub at_undamaged : (v : View) (opened : OpenDataFile) (other : FileName) (place : ℕ) (result : Result (Bytes × Partition) ReadFault) → other ≡ opened.file →
    IfErr result (NoFalseBodyDamage v other opened.types opened.end place) → IfErr result (NoFalsePartitionDamage v opened place)
at_undamaged v opened other place (Ok read) same no_false_damage = tt
at_undamaged v opened other place (Err f) same no_false_damage = no_false_at v opened place f (subst (λ (n : FileName). NoFalseBodyDamage v n opened.types opened.end place f) same no_false_damage)

pub at_damaged : (v : View) (opened : OpenDataFile) (other : FileName) (place : ℕ) (result : Result (Bytes × Partition) ReadFault) → other ≡ opened.file →
    IfErr result (DamageShown v other (ShowsPartition opened.types opened.end place other)) → IfErr result
    (DamageShown v opened.file (ShowsPartition opened.types opened.end place opened.file))
at_damaged v opened other place result same shown = subst (λ (n : FileName). IfErr result (DamageShown v n (ShowsPartition opened.types opened.end place n))) same shown

pub at_reads : (v : View) (opened : OpenDataFile) (other : FileName) (page : Option ℕ) (place reads : ℕ) → other ≡ opened.file →
    ((bytes part : Bytes) → contents v other ≡ Some bytes → HasAt bytes place (length_prefixed part) → length part < 2 ^ 32 → reads ≤ v.reads + partition_reads page
    place (length part))
    → (partitioner : Partitioner) (content : Content) (key : Bytes) (part : Partition) → IsOpenOn v opened partitioner content → StandsAt content
    place key part → reads ≤ v.reads + partition_reads page place (length (body key part))
at_reads v opened other page place reads same bound = reads_at v opened page place reads (λ bytes part is. bound bytes part (ap (λ (n : FileName). contents v n) same ∙ is))
