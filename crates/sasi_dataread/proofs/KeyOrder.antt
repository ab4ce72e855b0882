-- The keys that a scan gives rise, or the file shows that they don't.
use Rattle.std.specs.Prelude.{◌≡◌, ◌≢◌, ◌⊎◌, ℕ, zero, suc, ◌+◌, [], ◌∷◌, drop, map, Option, Some, None, Result, Ok, Err, refl}
use Rattle.std.proofs.Common.{◌∙◌, sym, ap, subst, arith, inl, inr}
use Rattle.std.specs.List.Sorted.{IsStrictlySortedBy}
use Rattle.std.specs.Ordering.{nat_cmp, ordering_then}
use Rattle.std.specs.Cmp.Lexicographic.{slice_cmp}
use Rattle.std.specs.declared.cmp.Ordering.TheVariants.{Less}
use Rattle.sasi_types.specs.declared.decorated_key.DecoratedKey.{DecoratedKey}
use Rattle.sasi_types.specs.declared.partitioner.Partitioner.{Partitioner}
use Rattle.sasi_types.specs.declared.tree.Pair.{Pair}
use Rattle.sasi_types.specs.DecoratedKey.{decorated_cmp}
use Rattle.sasi_types.specs.Token.{token_of}
use Rattle.sasi_model.specs.Cells.{Partition}
use Rattle.sasi_host.specs.declared.name.FileName.{FileName}
use Rattle.sasi_host.specs.declared.fault.ReadFault.{ReadFault}
use Rattle.sasi_host.specs.declared.fault.ReadFault.TheVariants as fault
use Rattle.sasi_host.specs.Names.{Bytes}
use Rattle.sasi_host.specs.Damages.{DamageShown, OnDamage}
use Rattle.sasi_host.specs.Disk.{Changes, Same}
use Rattle.sasi_host.specs.View.{ReadCost, View, contents}
use Rattle.sasi_host.proofs.CauseLaws.{damage_reads}
use Rattle.sasi_host.proofs.ContentLaws.{contents_same}
use Rattle.sasi_tokentree.specs.Scans.{HasEntry, ReadsEntry, StepsToPair}
use Rattle.sasi_datawrite.specs.Format.{Content, decorated_key, key_pairs}
use Rattle.sasi_dataread.specs.Opened.{OpenDataFile}
use Rattle.sasi_dataread.specs.Reads.{IsOpenOn, IsStoredAt, ReadsPartition}
use Rattle.sasi_dataread.specs.ReadCosts.{ScansPagesOnce}
use Rattle.sasi_dataread.specs.Scans.{DataScan, KeysAreBytes, NoFalseOpenedDamage, NoFalseScanDamage, PassesPartition, ReadsNextPartition, StepsToPartition}
use Rattle.sasi_dataread.specs.Tokens.{AgreesWith, token_by}
use Rattle.sasi_dataread.proofs.DataScan.{steps_to_partition}
use Rattle.sasi_dataread.specs.Damages.{ShowsData}
use Rattle.sasi_dataread.specs.Damages.ShowsData.{of_keys}
use Rattle.sasi_dataread.specs.KeyOrder.{HoldsKey, HoldsLast, IsLastKey, IsLastOf, TellsKeyDisorder, key_of}

-- ---- a content

none_behind : (index : ℕ) (content : Content) (one two : Bytes × Partition) (rest : Content) → content ≡ [] → drop index content ≡ one ∷ two ∷ rest → ⊥
none_behind zero [] one two rest none is = cc
none_behind (suc index) [] one two rest none is = cc
none_behind index (x ∷ content) one two rest none is = cc

-- of two of its partitions, one behind the other, the keys rise
sorted_next : (partitioner : Partitioner) (content rest : Content) (index : ℕ) (one two : Bytes × Partition) → IsStrictlySortedBy decorated_cmp (map (decorated_key partitioner) content)
    → drop index content ≡ one ∷ two ∷ rest → decorated_cmp (decorated_key partitioner one) (decorated_key partitioner two) ≡ Less
unfolding IsStrictlySortedBy
sorted_next partitioner [] rest index one two sorted is = absurd (none_behind index [] one two rest refl is)
sorted_next partitioner (x ∷ []) rest zero one two sorted is = absurd cc
sorted_next partitioner (x ∷ []) rest (suc index) one two sorted is = absurd (none_behind index [] one two rest refl is)
sorted_next partitioner (x ∷ y ∷ others) rest zero one two sorted is =
    let first : x ≡ one = cc in
    let second : y ≡ two = cc in
    subst (λ (o : Bytes × Partition). decorated_cmp (decorated_key partitioner o) (decorated_key partitioner two) ≡ Less) first
    (subst (λ (o : Bytes × Partition). decorated_cmp (decorated_key partitioner x) (decorated_key partitioner o) ≡ Less) second sorted.0.0)
sorted_next partitioner (x ∷ y ∷ others) rest (suc index) one two sorted is = sorted_next partitioner (y ∷ others) rest index one two sorted.1 is

rises_next : (partitioner : Partitioner) (content : Content) (before after : ℕ) (last : DecoratedKey) (one : ℕ × Bytes × Partition) → IsStrictlySortedBy decorated_cmp (map (decorated_key partitioner) content)
    → IsLastOf partitioner content before (Some last) → StepsToPartition partitioner content before after (Some one) → decorated_cmp last (key_of one) ≡ Less
rises_next partitioner content before after last one sorted is step =
    ap (λ (n : ℕ). ordering_then (nat_cmp n one.0) (slice_cmp nat_cmp last.key one.1)) is.3
    ∙ ap (λ (n : ℕ). ordering_then (nat_cmp (token_of partitioner last.key) n) (slice_cmp nat_cmp last.key one.1)) step.1
    ∙ sorted_next partitioner content (drop after content) is.0 (last.key, is.1) (one.1, one.2) sorted (is.2 ∙ ap (λ (l : Content). (last.key, is.1) ∷ l) step.0)

-- ---- the token that is given

-- in a content it is that of the key
given_token : (tokens : Option Partitioner) (partitioner : Partitioner) (stored : ℕ) (key : Bytes) → AgreesWith tokens partitioner → stored ≡ token_of partitioner key → token_by tokens stored key ≡ token_of partitioner key
given_token None partitioner stored key agrees is = is
given_token (Some own) partitioner stored key agrees is = ap (λ (p : Partitioner). token_of p key) agrees

pub reads_next : (v w : View) (opened : OpenDataFile) (tokens : Option Partitioner) (before after : ℕ) (pair : Pair) (token : ℕ) (key : Bytes) (part : Partition) → token ≡ token_by tokens pair.token key → Changes Same v w
    → ((partitioner : Partitioner) (content : Content) → IsOpenOn v opened partitioner content → KeysAreBytes content → StepsToPair (key_pairs partitioner content) before after (Some pair)) → ReadsPartition w opened pair.place key part
    → ReadsNextPartition v opened tokens before after (Some (token, key, part))
reads_next v w opened tokens before after pair token key part token_is change takes gives = λ partitioner content agrees is have.
    (let took = steps_to_partition v w opened before after pair key part partitioner content is change (takes partitioner content is have) gives in
    (took.0, token_is ∙ given_token tokens partitioner pair.token key agrees took.1))

pub no_false_of : (v : View) (opened : OpenDataFile) (tokens : Option Partitioner) (f : ReadFault) → NoFalseOpenedDamage v opened f → NoFalseScanDamage v opened tokens f
no_false_of v opened tokens fault.Failed none = tt
no_false_of v opened tokens fault.OutOfMemory none = tt
no_false_of v opened tokens (fault.Damaged damage) none = λ partitioner content agrees. none partitioner content

-- ---- the key that was given last

pub last_key_still : (a b : View) (opened : OpenDataFile) (tokens : Option Partitioner) (before after : ℕ) (last : Option DecoratedKey) → Changes Same a b → after ≡ before → IsLastKey a.files opened tokens before last → IsLastKey b.files opened tokens after last
last_key_still a b opened tokens before after last change same is = record {
  holds = λ bytes told. subst (λ (n : ℕ). HoldsLast bytes opened tokens n last) (sym same) (is.holds bytes (sym (contents_same a b opened.file change) ∙ told));
  content = λ bytes partitioner content agrees told data_file of keys.
      subst (λ (n : ℕ). IsLastOf partitioner content n last) (sym same) (is.content bytes partitioner content agrees (sym (contents_same a b opened.file change) ∙ told) data_file of keys);
}

module _ (v w : View) (opened : OpenDataFile) (tokens : Option Partitioner) (before after : ℕ) (pair : Pair) (token : ℕ) (key : Bytes) (part : Partition) (token_is : token ≡ token_by tokens pair.token key) (step : after ≡ before + 1) (change : Changes Same v w) (entry : ReadsEntry v opened.file opened.tree after (Some pair)) (stored : IsStoredAt w opened pair.place key part) where
  index_is : entry.0 ≡ before
  index_is = omega (arith, entry.1, step)

  -- the pair leads to the key
  abbrev holds_key : (bytes : Bytes) → contents v opened.file ≡ Some bytes → HoldsKey bytes opened tokens before (key_of (token, key, part)) part
  holds_key bytes told = record {
    pair = pair;
    entry = subst (λ (n : ℕ). HasEntry bytes opened.tree n pair) index_is (entry.2 bytes told);
    token_is = token_is;
    in_table = stored.in_table;
    stands = stored.stands bytes (contents_same v w opened.file change ∙ told);
  }

  -- it is the last one afterwards
  pub last_key_given : ReadsNextPartition v opened tokens before after (Some (token, key, part)) → IsLastKey w.files opened tokens after (Some (key_of (token, key, part)))
  last_key_given reads = record {
    holds = λ bytes told. (before, part, step, holds_key bytes (sym (contents_same v w opened.file change) ∙ told));
    content = λ bytes partitioner content agrees told data_file of keys.
        (let one = reads partitioner content agrees (record { bytes = bytes; reads = sym (contents_same v w opened.file change) ∙ told; data_file = data_file; of = of }) keys in
        (before, part, one.0, one.1));
  }

  -- or the file shows that it doesn't come behind the last one
  pub keys_shown : (file : FileName) (last : Option DecoratedKey) (f : ReadFault) → file ≡ opened.file → IsLastKey v.files opened tokens before last → OnDamage (TellsKeyDisorder file pair.place last (token, key, part)) f
      → DamageShown v opened.file (ShowsData opened) f
  keys_shown file last fault.Failed named is tells = tt
  keys_shown file last fault.OutOfMemory named is tells = tt
  keys_shown file last (fault.Damaged damage) named is tells = λ bytes told.
      (let here : HoldsLast bytes opened tokens before (Some tells.before) = subst (λ (o : Option DecoratedKey). HoldsLast bytes opened tokens before o) tells.was (is.holds bytes told) in
      let now = before in
      let under = tokens in
      of_keys (record {
        named = tells.named ∙ named;
        rule_is = tells.rule_is;
        tokens = under;
        before = here.0;
        index = now;
        follows = here.2;
        last = tells.before;
        last_part = here.1;
        key = key_of (token, key, part);
        part = part;
        has_last = here.3;
        has_key = holds_key bytes told;
        disorder = tells.disorder;
        at_is = tells.at_is;
        seen_is = tells.seen_is;
      }))

-- in a right file it does
pub no_false_keys : (v : View) (opened : OpenDataFile) (tokens : Option Partitioner) (file : FileName) (before after place : ℕ) (last : Option DecoratedKey) (one : ℕ × Bytes × Partition) (f : ReadFault)
    → IsLastKey v.files opened tokens before last → ReadsNextPartition v opened tokens before after (Some one) → OnDamage (TellsKeyDisorder file place last one) f → NoFalseScanDamage v opened tokens f
no_false_keys v opened tokens file before after place last one fault.Failed is reads tells = tt
no_false_keys v opened tokens file before after place last one fault.OutOfMemory is reads tells = tt
no_false_keys v opened tokens file before after place last one (fault.Damaged damage) is reads tells = λ partitioner content agrees open_on have.
    (let here : IsLastOf partitioner content before (Some tells.before) = subst (λ (o : Option DecoratedKey). IsLastOf partitioner content before o) tells.was
    (is.content open_on.bytes partitioner content agrees open_on.reads open_on.data_file open_on.of have) in
    tells.disorder (rises_next partitioner content before after tells.before one open_on.data_file.content_is.rising here (reads partitioner content agrees open_on have)))

-- ---- reads

-- a fault behind a read that isn't one of the host
pub told_reads : {S T : Type 0} (a b : View) (n : ℕ) (first : S) (f : ReadFault) → f ≢ fault.Failed → ReadCost n a b (Ok first) → ReadCost {T = T} n a b (Err f)
told_reads a b n first fault.Failed other one = absurd (other refl)
told_reads a b n first fault.OutOfMemory other one = record {
  disk = one.disk;
  out = one.out;
  reads = one.reads;
  ok = tt;
  failed = λ is. absurd (cc);
  memory = λ is. one.ok;
  damaged = λ damage is. absurd (cc);
}
told_reads a b n first (fault.Damaged damage) other one = damage_reads a b n n first damage (omega arith) one

-- a scan that failed is where it was, or behind the partition
pub passes_err : (v : View) (opened : OpenDataFile) (tokens : Option Partitioner) (before after : ℕ) (found : Option (ℕ × Bytes × Partition)) → PassesPartition v opened tokens before after found → (after ≡ before) ⊎ (after ≡ before + 1)
passes_err v opened tokens before after None passes = inl passes.1
passes_err v opened tokens before after (Some one) passes = inr passes.1

-- what a scan reads doesn't depend on the key that it gave last, nor on where its tokens come from
abbrev with_last : DataScan → Option Partitioner → Option DecoratedKey → DataScan
with_last scan tokens last = record { opened = scan.opened; tokens = tokens; passed = scan.passed; pairs_buffered = scan.pairs_buffered; buffered = scan.buffered; last_pair = scan.last_pair; last = last }

pub scans_with : {T : Type 0} (a b : View) (old new : DataScan) (tokens : Option Partitioner) (before after : Option DecoratedKey) (result : Result T ReadFault) → ScansPagesOnce a b old new result
    → ScansPagesOnce a b (with_last old tokens before) (with_last new tokens after) result
scans_with a b old new tokens before after (Ok x) once = λ partitioner content is have sequential.
    (let here = once partitioner content is have (record { pairs = sequential.pairs; partitions = sequential.partitions; pairs_within = sequential.pairs_within; within = sequential.within }) in
    record {
      sequential = record { pairs = here.sequential.pairs; partitions = here.sequential.partitions; pairs_within = here.sequential.pairs_within; within = here.sequential.within };
      pages = here.pages;
    })
scans_with a b old new tokens before after (Err f) once = λ partitioner content is have sequential.
    once partitioner content is have (record { pairs = sequential.pairs; partitions = sequential.partitions; pairs_within = sequential.pairs_within; within = sequential.within })
