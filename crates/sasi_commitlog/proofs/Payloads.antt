-- What a payload is made of, and that the payload of a mutation shows no corruption.
use Rattle.std.proofs.Common.{◌≡◌, ℕ, ◌+◌, ◌^◌, ◌<◌, ◌≤◌, Bool, true, List, ◌++◌, length, take, Option, None, Some, refl, sym, ◌∙◌, ap, subst, arith, append_assoc, Result, Ok, Err, OnOk}
use Rattle.std.specs.Prelude.{[], is_some, unwrap_or}
use Rattle.std.specs.Int.{to_be_bytes, w32}
use Rattle.sasi_host.specs.Names.{Bytes}
use Rattle.sasi_host.specs.Damages.{seen_bytes}
use Rattle.sasi_host.specs.declared.damage.FormatRule.TheVariants as rule
use Rattle.sasi_types.specs.declared.column.ColumnType.{ColumnType}
use Rattle.sasi_formats.specs.declared.fault.FormatFault.{FormatFault}
use Rattle.sasi_formats.specs.declared.fault.FormatFault.TheVariants as fault
use Rattle.sasi_formats.specs.Formats.{Encodes, Fits, encoded}
use Rattle.std.specs.Bool.{then_some}
use Rattle.sasi_formats.specs.Fields.{number}
use Rattle.sasi_fields.specs.Reading.{Reading}
use Rattle.sasi_formats.specs.Gives.{FailsWith}
use Rattle.sasi_formats.specs.Reader.{Outcome, Got, Short, Long, Broken, ◌>>=◌, outcome_as, read, tried}
use Rattle.sasi_formats.specs.Whole.{IsShownBy}
use Rattle.sasi_formats.proofs.Agreement.{is_encoded, never_both}
use Rattle.sasi_formats.proofs.Encoding.{encoded_only, fits}
use Rattle.sasi_formats.proofs.Fitting.{checked_fits, fits_checked, fits_number, number_fits}
use Rattle.sasi_formats.proofs.Offsets.{whole_within}
use Rattle.sasi_body.specs.Body.{Content, body, body_of, cells_of, content, IsBodyOf}
use Rattle.sasi_body.proofs.BodyBytes.{same_body}
use Rattle.sasi_body.proofs.FitBodies.{body_fits, cells_are, fits_body}
use Rattle.sasi_body.proofs.FittingBodies.{has_body}
use Rattle.sasi_cells.specs.Entries.{Entry, IsOrdered, partition_of}
use Rattle.sasi_cells.specs.declared.mutation.Mutation.{Mutation}
use Rattle.sasi_commitlog.specs.Format.{Tables, types_in, mutation_of, content_of, payload_of, IsMutationOf}
use Rattle.sasi_commitlog.specs.Faults.{IsWithin}

-- ---- its bytes

-- the number of the table, and the body
pub payload_is : (m : Mutation) → payload_of m ≡ to_be_bytes w32 m.table ++ body m.key m.change
unfolding payload_of body
payload_is m = refl

-- the same whatever the tables
pub same_payload : (tables : Tables) (m : Mutation) → encoded (mutation_of tables) (content_of m) ≡ payload_of m
same_payload tables m = ap (λ (l : Bytes). to_be_bytes w32 m.table ++ l) (same_body (unwrap_or (types_in tables m.table) []) m.key m.change) ∙ sym (payload_is m)

pub mutation_encodes : (tables : Tables) (m : Mutation) (bytes : Bytes) → IsMutationOf tables m → bytes ≡ payload_of m → Encodes (mutation_of tables) (content_of m) bytes
mutation_encodes tables m bytes is same = is_encoded (mutation_of tables) (content_of m) bytes is (same ∙ sym (same_payload tables m))

pub payload_put : {E : Type 0} (result : Result (Unit {0}) E) (m : Mutation) (start first new : Bytes) → first ≡ start ++ to_be_bytes w32 m.table → OnOk result (new ≡ first ++ body m.key m.change) → OnOk result (new ≡ start ++ payload_of m)
payload_put (Ok _) m start first new number put =
    put ∙ ap (λ (l : Bytes). l ++ body m.key m.change) number ∙ append_assoc start (to_be_bytes w32 m.table) (body m.key m.change) ∙ ap (λ (l : Bytes). start ++ l) (sym (payload_is m))
payload_put (Err e) m start first new number put = tt

-- ---- its table

-- a mutation of one of the tables: the types of that table's columns, in which its key and its change have a body
pub record IsListedMutation (tables : Tables) (m : Mutation) : Type 0 where
  pub types : List ColumnType
  pub number : m.table < 2 ^ 32
  pub listed : types_in tables m.table ≡ Some types
  pub body_is : IsBodyOf types m.key m.change

pub opened_mutation : (tables : Tables) (m : Mutation) → IsMutationOf tables m → IsListedMutation tables m
opened_mutation tables m is =
    let table = fits_checked rule.Number 4 (λ table. is_some (types_in tables table)) (number w32) m.table is.0 in
    by (types_in tables m.table) refl table.1 is.1 (fits_number w32 m.table table.0)
  where
    by : (found : Option (List ColumnType)) → types_in tables m.table ≡ found → is_some found ≡ true → Fits (body_of (unwrap_or found [])) (content m.key m.change) → m.table < 2 ^ 32 → IsListedMutation tables m
    by None same some body_fits small = absurd cc
    by (Some types) same some body_fits small = record { types = types; number = small; listed = same; body_is = has_body types m.key m.change body_fits }

pub listed_mutation : (tables : Tables) (m : Mutation) → IsListedMutation tables m → IsMutationOf tables m
listed_mutation tables m of = (
  checked_fits rule.Number 4 (λ table. is_some (types_in tables table)) (number w32) m.table (number_fits w32 m.table of.number) (ap is_some of.listed),
  subst (λ (found : Option (List ColumnType)). Fits (body_of (unwrap_or found [])) (content m.key m.change)) (sym of.listed) (body_fits of.types m.key m.change of.body_is),
)

-- ---- what is read of it

pub record IsMutationIn (tables : Tables) (bytes : Bytes) (mutation : Mutation) (deleted : ℕ) (entries : List Entry) : Type 0 where
  pub ordered : IsOrdered deleted entries
  pub of : IsMutationOf tables mutation
  pub bytes_are : bytes ≡ payload_of mutation

pub mutation_in : (tables : Tables) (bytes : Bytes) (table : ℕ) (key : Bytes) (deleted : ℕ) (entries : List Entry) → Encodes (mutation_of tables) (table, (key, (deleted, entries))) bytes
    → IsMutationIn tables bytes (record { table = table; key = key; change = partition_of deleted entries }) deleted entries
mutation_in tables bytes table key deleted entries h =
    let all = fits (mutation_of tables) (table, (key, (deleted, entries))) bytes h in
    let ordered = (fits_body (unwrap_or (types_in tables table) []) key deleted entries all.1).ordered in
    let same : entries ≡ cells_of (partition_of deleted entries) = sym (cells_are deleted entries ordered) in
    record {
      ordered = ordered;
      of = subst (λ (l : List Entry). Fits (mutation_of tables) (table, (key, (deleted, l)))) same all;
      bytes_are = encoded_only (mutation_of tables) (table, (key, (deleted, entries))) bytes h
          ∙ ap (λ (l : List Entry). encoded (mutation_of tables) (table, (key, (deleted, l)))) same
          ∙ same_payload tables (record { table = table; key = key; change = partition_of deleted entries });
    }

-- behind the number of a table comes a body in it
pub fields_read : (tables : Tables) (s behind : Reading) (table : ℕ) (types : List ColumnType) → read (number w32) s ≡ Got table behind → types_in tables table ≡ Some types
    → read (mutation_of tables) s ≡ outcome_as (λ (b : Content). (table, b)) (read (body_of types) behind)
fields_read tables s behind table types number_is found =
    ap (λ (r : Outcome ℕ). (r >>= λ a t. tried (then_some (is_some (types_in tables a)) a) rule.Number (length s.done) (take 4 s.left) t) >>= λ a t. body_behind a t) number_is
    ∙ ap (λ (b : Bool). tried (then_some b table) rule.Number (length s.done) (take 4 s.left) behind >>= λ a t. body_behind a t) (ap is_some found)
    ∙ ap (λ (f : Option (List ColumnType)). outcome_as (λ (b : Content). (table, b)) (read (body_of (unwrap_or f [])) behind)) found
  where
    body_behind : ℕ → Reading → Outcome (ℕ × Content)
    body_behind a t = outcome_as (λ (b : Content). (a, b)) (read (body_of (unwrap_or (types_in tables a) [])) t)

pub fields_fail : (table : ℕ) (whole : Outcome (ℕ × Content)) (part : Outcome Content) (f : FormatFault) → whole ≡ outcome_as (λ (b : Content). (table, b)) part → FailsWith part f → FailsWith whole f
fields_fail table whole part fault.OutOfMemory same fails = tt
fields_fail table whole part fault.Short same fails = same ∙ ap (λ (r : Outcome Content). outcome_as (λ (b : Content). (table, b)) r) fails
fields_fail table whole part fault.Long same fails = same ∙ ap (λ (r : Outcome Content). outcome_as (λ (b : Content). (table, b)) r) fails
fields_fail table whole part (fault.Broken broken) same fails = same ∙ ap (λ (r : Outcome Content). outcome_as (λ (b : Content). (table, b)) r) fails

-- ---- its faults

-- reading the payload of a mutation fails only out of memory
pub only_memory : (tables : Tables) (m : Mutation) (payload : Bytes) (f : FormatFault) → IsMutationOf tables m → payload ≡ payload_of m → IsShownBy (mutation_of tables) payload f → f ≡ fault.OutOfMemory
only_memory tables m payload fault.OutOfMemory is stands shown = refl
only_memory tables m payload fault.Short is stands shown = absurd (never_both (mutation_of tables) payload (content_of m) Short (mutation_encodes tables m payload is stands) shown)
only_memory tables m payload fault.Long is stands shown = absurd (never_both (mutation_of tables) payload (content_of m) Long (mutation_encodes tables m payload is stands) shown)
only_memory tables m payload (fault.Broken broken) is stands shown =
    absurd (never_both (mutation_of tables) payload (content_of m) (Broken broken.rule broken.at (seen_bytes broken.seen)) (mutation_encodes tables m payload is stands) shown)

-- the offset of a fault is within the bytes
pub payload_within : (tables : Tables) (payload : Bytes) (limit : ℕ) (f : FormatFault) → IsShownBy (mutation_of tables) payload f → length payload ≤ limit → IsWithin limit f
payload_within tables payload limit fault.OutOfMemory shown short = tt
payload_within tables payload limit fault.Short shown short = tt
payload_within tables payload limit fault.Long shown short = tt
payload_within tables payload limit (fault.Broken broken) shown short =
    omega (arith, short, whole_within (mutation_of tables) payload (Broken broken.rule broken.at (seen_bytes broken.seen)) shown)
