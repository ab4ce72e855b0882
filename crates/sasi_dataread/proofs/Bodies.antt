-- Bodies behind their lengths, as they are read.
use Rattle.std.proofs.Common.{Ok, ◌≡◌, ℕ, ◌+◌, ◌-◌, ◌/◌, ◌^◌, ◌<◌, ◌≤◌, List, length, take, drop, refl, sym, ◌∙◌, ap, subst, arith, lit<, length-append, Option, Some}
use Rattle.std.specs.Int.{to_be_bytes, w32}
use Rattle.sasi_host.specs.declared.name.FileName.{FileName}
use Rattle.sasi_host.specs.declared.fault.ReadFault.{ReadFault}
use Rattle.sasi_host.specs.declared.fault.ReadFault.TheVariants as fault
use Rattle.sasi_host.specs.Names.{Bytes}
use Rattle.std.specs.declared.result.Result.{Result}
use Rattle.sasi_host.specs.View.{View, ReadCost, contents}
use Rattle.sasi_types.specs.declared.column.ColumnType.{ColumnType}
use Rattle.sasi_model.specs.Cells.{Partition}
use Rattle.sasi_host.specs.Damages.{seen_bytes, OnDamage}
use Rattle.sasi_formats.specs.declared.fault.FormatFault.{FormatFault}
use Rattle.sasi_formats.specs.declared.fault.FormatFault.TheVariants as format_fault
use Rattle.sasi_formats.specs.Whole.{IsShownBy}
use Rattle.sasi_body.specs.Body.{body, body_of, IsBodyOf}
use Rattle.sasi_body.proofs.BodyBytes.{body_short, body_least}
use Rattle.sasi_body.proofs.Bodies.{offset_within}
use Rattle.sasi_host.specs.Disk.{Changes, Same}
use Rattle.sasi_host.proofs.ContentLaws.{contents_same}
use Rattle.sasi_host.specs.Damages.{HasAt, DamageShown, ShowsEnd, TellsSize}
use Rattle.sasi_host.specs.Buffered.{unbuffered_pages}
use Rattle.sasi_host.proofs.Offsets.{at_ends, same_at, first_at, second_at, both_at, window_at}
use Rattle.sasi_host.proofs.DamageLaws.{shown_as}
use Rattle.sasi_dataread.specs.Damages.{ShowsPartition}
use Rattle.sasi_dataread.specs.Damages.ShowsPartition.{no_length, no_body}
use Rattle.sasi_dataread.specs.Bodies.{length_prefixed, partition_reads, IsLength, IsWithinBody, NoFalseLengthDamage, NoFalseBytesDamage, NoFalseBodyDamage}
use Rattle.sasi_dataread.proofs.Numbers.{number_at}
use Rattle.sasi_dataread.proofs.Pages.{few_pages, fresh_on}
use Rattle.sasi_host.proofs.CauseLaws.{reads_on}

-- ---- what is read

-- the body at an offset is the only one there
pub sized_same : (bytes : Bytes) (at : ℕ) (a b : Bytes) → length a < 2 ^ 32 → length b < 2 ^ 32 → HasAt bytes at (length_prefixed a) → HasAt bytes at (length_prefixed b) → a ≡ b
sized_same bytes at a b a_fits b_fits ha hb =
    let long : length a ≡ length b = number_at bytes at (length a) (length b) a_fits b_fits (first_at bytes at (to_be_bytes w32 (length a)) a ha)
    (first_at bytes at (to_be_bytes w32 (length b)) b hb) in
    same_at bytes (at + 4) a b (second_at bytes at (to_be_bytes w32 (length a)) a ha) (second_at bytes at (to_be_bytes w32 (length b)) b hb) long

pub sized_read : (bytes body : Bytes) (place count : ℕ) → HasAt bytes place (to_be_bytes w32 count) → body ≡ take count (drop (place + 4) bytes) →
    length body ≡ count → place + 4 + count ≤ length bytes → HasAt bytes place (length_prefixed body)
sized_read bytes body place count has is long within =
    both_at bytes place (place + 4) (to_be_bytes w32 (length body)) body (subst (λ (n : ℕ). HasAt bytes place (to_be_bytes w32 n)) (sym long) has)
    refl (window_at bytes body (place + 4) count is within)

pub reads_cost : (bytes body : Bytes) (buffered after : Option ℕ) (place count r0 r1 r2 : ℕ) → count < 2 ^ 32 → length body < 2 ^ 32 → HasAt bytes place
    (to_be_bytes w32 count) → HasAt bytes place (length_prefixed body) → after ≡ Some ((place + 3) / 4096)
    → r1 ≤ r0 + unbuffered_pages buffered place 4 → r2 ≤ r1 + unbuffered_pages after (place + 4) count → r2 ≤ r0 + partition_reads buffered place (length body)
reads_cost bytes body buffered after place count r0 r1 r2 count_fits body_fits has stands after_is first second =
    let same : count ≡ length body = number_at bytes place count (length body) count_fits body_fits has (first_at bytes place (to_be_bytes w32 (length body)) body stands) in
    let more : unbuffered_pages after (place + 4) count ≡ unbuffered_pages (Some ((place + 4 - 1) / 4096)) (place + 4) (length body) =
    ap (λ (o : Option ℕ). unbuffered_pages o (place + 4) count) (after_is ∙ ap (λ (n : ℕ). Some (n / 4096)) (omega arith)) ∙ ap (λ (n : ℕ). unbuffered_pages (Some ((place + 4 - 1) / 4096)) (place + 4) n) same
    in
    omega (arith, first, second, more, fresh_on buffered place 4 (length body) (lit< tt))

-- a length and its body, one read after the other
pub both_causes : {S T : Type 0} (a b c : View) (buffered after : Option ℕ) (place count : ℕ) (first : S) (second : Result T ReadFault) →
    count < 2 ^ 23 → after ≡ Some ((place + 3) / 4096)
    → ReadCost (unbuffered_pages buffered place 4) a b (Ok first) → ReadCost (unbuffered_pages after (place + 4) count) b c second → ReadCost 2050 a c second
both_causes a b c buffered after place count first second short after_is one two =
    let more : unbuffered_pages after (place + 4) count ≡ unbuffered_pages (Some ((place + 4 - 1) / 4096)) (place + 4) count =
    ap (λ (o : Option ℕ). unbuffered_pages o (place + 4) count) (after_is ∙ ap (λ (n : ℕ). Some (n / 4096)) (omega arith))
    in
    reads_on a b c (unbuffered_pages buffered place 4) (unbuffered_pages after (place + 4) count) 2050 first second
    (omega (arith, more, fresh_on buffered place 4 count (lit< tt), few_pages buffered place (4 + count) (omega (arith, short)))) one two

-- ---- what shows damage

pub no_false_length : (v : View) (file : FileName) (end place : ℕ) (f : ReadFault) → DamageShown v file (ShowsEnd (place + 4) file) f → NoFalseLengthDamage v file end place f
no_false_length v file end place fault.Failed short = tt
no_false_length v file end place fault.OutOfMemory short = tt
no_false_length v file end place (fault.Damaged damage) short = λ bytes count is has wanted. let less = (short bytes is).short in omega (arith, less, at_ends bytes place (to_be_bytes w32 count) has)

pub no_false_far : (v : View) (file : FileName) (end place : ℕ) (f : ReadFault) → 2 ^ 62 < place →
    ((bytes : Bytes) → contents v file ≡ Some bytes → length bytes ≤ 2 ^ 62) → NoFalseLengthDamage v file end place f
no_false_far v file end place fault.Failed far fits = tt
no_false_far v file end place fault.OutOfMemory far fits = tt
no_false_far v file end place (fault.Damaged damage) far fits = λ bytes count is has wanted. let le = fits bytes is in omega (arith, far, le, at_ends bytes place (to_be_bytes w32 count) has)

pub no_false_sized : (v : View) (file : FileName) (end place : ℕ) (f : ReadFault) → NoFalseLengthDamage v file end place f → NoFalseBytesDamage v file end place f
no_false_sized v file end place fault.Failed no_false_damage = tt
no_false_sized v file end place fault.OutOfMemory no_false_damage = tt
no_false_sized v file end place (fault.Damaged damage) no_false_damage = λ bytes body is has wanted. no_false_damage bytes (length body) is (first_at bytes place (to_be_bytes w32 (length body)) body has) wanted

pub no_false_cut : (a b : View) (file : FileName) (end place count : ℕ) (f : ReadFault) → count < 2 ^ 23 →
    ((bytes : Bytes) → contents a file ≡ Some bytes → HasAt bytes place (to_be_bytes w32 count)) → Changes Same a b → DamageShown b file
    (ShowsEnd (place + 4 + count) file) f
    → NoFalseBytesDamage a file end place f
no_false_cut a b file end place count fault.Failed fits has same short = tt
no_false_cut a b file end place count fault.OutOfMemory fits has same short = tt
no_false_cut a b file end place count (fault.Damaged damage) fits has same short = λ bytes body is stands wanted.
    let less = (short bytes (contents_same a b file same ∙ is)).short in
    let long : count ≡ length body = number_at bytes place count (length body) (omega (arith, fits)) (omega (arith, wanted.short)) (has bytes is)
    (first_at bytes place (to_be_bytes w32 (length body)) body stands) in
    omega (arith, less, long, at_ends bytes place (length_prefixed body) stands, length-append (to_be_bytes w32 (length body)) body)

-- ---- what is shown

-- an offset that no file reaches
pub far_shown : (types : List ColumnType) (v : View) (file : FileName) (end place : ℕ) (f : ReadFault) → 2 ^ 62 < place →
    ((bytes : Bytes) → contents v file ≡ Some bytes → length bytes ≤ 2 ^ 62) → DamageShown v file (TellsSize file) f → DamageShown v file
    (ShowsPartition types end place file) f
far_shown types v file end place f far fits told =
    shown_as (TellsSize file) (ShowsPartition types end place file) v file f
    (λ bytes damage is tells. let le = fits bytes is in no_length (record { tells = tells; short = omega (arith, far, le) })) told

pub length_shown : (types : List ColumnType) (v : View) (file : FileName) (end place : ℕ) (f : ReadFault) → DamageShown v file (ShowsEnd (place + 4) file) f
    → DamageShown v file (ShowsPartition types end place file) f
length_shown types v file end place f shown = shown_as (ShowsEnd (place + 4) file) (ShowsPartition types end place file) v file f (λ bytes damage is ends. no_length ends) shown

pub body_shown : (types : List ColumnType) (v : View) (file : FileName) (end place count : ℕ) (f : ReadFault) →
    ((bytes : Bytes) → contents v file ≡ Some bytes → HasAt bytes place (to_be_bytes w32 count)) → IsLength end place count → DamageShown v file
    (ShowsEnd (place + 4 + count) file) f
    → DamageShown v file (ShowsPartition types end place file) f
body_shown types v file end place count f stands is_length shown = shown_as (ShowsEnd (place + 4 + count) file) (ShowsPartition types end place file)
    v file f (λ bytes damage is ends. no_body count (stands bytes is) is_length ends) shown

-- ---- bodies of a table

pub placed : (types : List ColumnType) (bytes : Bytes) (f : FormatFault) (count : ℕ) → count ≡ length bytes → IsShownBy (body_of types) bytes f → IsWithinBody count f
placed types bytes format_fault.OutOfMemory count is shown = tt
placed types bytes format_fault.Short count is shown = tt
placed types bytes format_fault.Long count is shown = tt
placed types bytes (format_fault.Broken broken) count is shown = omega (arith, is, offset_within types bytes broken.rule broken.at (seen_bytes broken.seen) shown)

length_of_body : (types : List ColumnType) (key : Bytes) (part : Partition) (end place : ℕ) → IsBodyOf types key part → place + 4 + length
    (body key part) ≤ end → IsLength end place (length (body key part))
length_of_body types key part end place of within = record {
  some = omega (arith, body_least key part of.has);
  short = body_short key part of.has;
  within = within;
}

pub no_false_body : (v : View) (file : FileName) (types : List ColumnType) (end place : ℕ) (f : ReadFault) → NoFalseBytesDamage v file end place f → NoFalseBodyDamage v file types end place f
no_false_body v file types end place fault.Failed no_false_damage = tt
no_false_body v file types end place fault.OutOfMemory no_false_damage = tt
no_false_body v file types end place (fault.Damaged damage) no_false_damage = λ bytes key part is has of within. no_false_damage bytes (body key part) is has (length_of_body types key part end place of within)

-- what isn't read as a body of the table is none
pub no_false_fault : (v : View) (file : FileName) (types : List ColumnType) (end place : ℕ) (read : Bytes) (inner : FormatFault) (f : ReadFault) → length
    read < 2 ^ 23 → ((bytes : Bytes) → contents v file ≡ Some bytes → HasAt bytes place (length_prefixed read))
    → ((key : Bytes) (part : Partition) → IsBodyOf types key part → read ≡ body key part → inner ≡ format_fault.OutOfMemory) →
    (inner ≡ format_fault.OutOfMemory → f ≡ fault.OutOfMemory) → NoFalseBodyDamage v file types end place f
no_false_fault v file types end place read inner fault.Failed short stands no_false_damage memory = tt
no_false_fault v file types end place read inner fault.OutOfMemory short stands no_false_damage memory = tt
no_false_fault v file types end place read inner (fault.Damaged damage) short stands no_false_damage memory = λ bytes key part is has of within.
    let same : read ≡ body key part = sized_same bytes place read (body key part) (omega (arith, short)) (omega (arith, body_short key part of.has)) (stands bytes is) has in
    let no = memory (no_false_damage key part of same) in
    cc

-- what a fault of the body shows the file shows
pub fault_shown : (v : View) (file : FileName) (types : List ColumnType) (end place : ℕ) (read : Bytes) (f : ReadFault) →
    ((bytes : Bytes) → contents v file ≡ Some bytes → HasAt bytes place (length_prefixed read))
    → ((whole : Bytes) → HasAt whole place (length_prefixed read) → OnDamage (ShowsPartition types end place file whole) f) → DamageShown v file (ShowsPartition types end place file) f
fault_shown v file types end place read fault.Failed stands shows = tt
fault_shown v file types end place read fault.OutOfMemory stands shows = tt
fault_shown v file types end place read (fault.Damaged damage) stands shows = λ bytes is. shows bytes (stands bytes is)
