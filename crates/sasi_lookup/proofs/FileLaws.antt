-- Calls on one data file.
use Rattle.std.proofs.Common.{◌≡◌, ℕ, zero, suc, ◌+◌, ◌-◌, ◌*◌, ◌<◌, ◌≤◌, List, [], ◌∷◌, length, get_or, Option, None, Some, IfErr, IfOk, IfSome, IsSome, Result, Ok, Err, refl, sym, ap, subst, ◌∙◌, arith, inl}
use Rattle.std.specs.Prelude.{Contains}
use Rattle.std.specs.List.{AllByRecursion}
use Rattle.sasi_types.specs.declared.column.ColumnType.{ColumnType}
use Rattle.sasi_types.specs.declared.partitioner.Partitioner.{Partitioner}
use Rattle.sasi_types.specs.declared.tree.TreeRef.{TreeRef}
use Rattle.sasi_host.specs.declared.damage.Damage.{Damage}
use Rattle.sasi_host.specs.declared.fault.ReadFault.{ReadFault}
use Rattle.sasi_host.specs.declared.fault.ReadFault.TheVariants as fault
use Rattle.sasi_host.specs.declared.name.FileName.{FileName}
use Rattle.sasi_host.specs.Damages.{DamageShown}
use Rattle.sasi_host.specs.Disk.{Changes, Same}
use Rattle.sasi_host.specs.Names.{Bytes, Folder}
use Rattle.sasi_host.specs.PageReading.{CanRead, HasRead}
use Rattle.sasi_host.specs.View.{IsThere, ReadCost, View, contents, contents_in}
use Rattle.sasi_host.proofs.ChangeLaws.{stays}
use Rattle.sasi_host.proofs.ContentLaws.{contents_same}
use Rattle.sasi_tokentree.specs.Heights.{height}
use Rattle.sasi_datawrite.specs.declared.footer.Footer.{Footer}
use Rattle.sasi_datawrite.specs.Files.{IsDataFile}
use Rattle.sasi_datawrite.specs.Format.{Content, header}
use Rattle.sasi_datawrite.proofs.Laws.{pairs_length}
use Rattle.sasi_dataread.specs.declared.token_keys.PlacedKey.{PlacedKey}
use Rattle.sasi_dataread.specs.Bodies.{IsPartitionOffset}
use Rattle.sasi_dataread.specs.Damages.{ShowsData, ShowsHeaderOrFooter, opened_by}
use Rattle.sasi_dataread.specs.Damages.ShowsDataFile.{inside, outside}
use Rattle.sasi_dataread.specs.Finds.{token_reads}
use Rattle.sasi_dataread.specs.HeaderAndFooter.{HasHeaderAndFooter}
use Rattle.sasi_dataread.specs.Opened.{IsOpenedAs, OpenDataFile}
use Rattle.sasi_dataread.specs.PlacedKeys.{HasKeysOfToken, LeadToKeys, keys_at}
use Rattle.sasi_dataread.specs.Reads.{IsOpenOn, NoFalseDataDamage}
use Rattle.sasi_dataread.specs.Scans.{KeysAreBytes, NoFalseOpenedDamage}
use Rattle.sasi_ranges.specs.StreamCalls.{StreamFaults}
use Rattle.sasi_ranges.proofs.Calling.{faults_then, files_same, on_err}
use Rattle.sasi_lookup.specs.Files.{FileShows, IsAtPair, IsDataOf, IsFileReady, IsOpenIn, IsOpenWith, LookedFile}
use Rattle.sasi_lookup.specs.Reads.{keys_reads, opening_reads}

-- ---- lists and results

pub all_has : {X : Type 0} (P : X → Type 0) (xs : List X) (x : X) → AllByRecursion P xs → Contains xs x → P x
all_has {X} P xs x all there = by xs there.0 all there.1 there.2
  where
    by : (ys : List X) (i : ℕ) → AllByRecursion P ys → i < length ys → get_or ys i x ≡ x → P x
    by [] i all within is = absurd (omega (arith, within))
    by (y ∷ ys) zero all within is = subst P is all.0
    by (y ∷ ys) (suc i) all within is = by ys i all.1 (omega (arith, within)) is

pub if_ok : {A E : Type 0} (P Q : A → Type 0) (r : Result A E) → ((x : A) → P x → Q x) → IfOk r P → IfOk r Q
if_ok P Q (Ok x) follows is = follows x is
if_ok P Q (Err e) follows is = tt

-- ---- what is needed, and what is left

pub can_read_as : (K : Option Folder → Type 0) (v : View) (name other : FileName) → other ≡ name → CanRead K v name → CanRead K v other
can_read_as K v name other is can = subst (CanRead K v) (sym is) can

pub read_as : (K : Option Folder → Type 0) (A B : FileName → Type 0) (u v : View) (name other : FileName) → other ≡ name → HasRead K A B u v other → HasRead K A B u v name
read_as K A B u v name other is read = subst (HasRead K A B u v) is read

pub reads_none : (K : Option Folder → Type 0) (A : FileName → Type 0) (v : View) (name : FileName) → K v.files → HasRead K A A v v name
reads_none K A v name agrees = record { agrees = agrees; covers = λ file at. inl at; changes = stays v }

there_still : (a b : View) (name : FileName) → Changes Same a b → IsThere a name → IsThere b name
there_still a b name change there = subst (λ (o : Option Folder). IsSome o → IsSome (contents_in o name)) (sym (files_same a b change)) there

pub can_read_still : (K L : Option Folder → Type 0) (A B : FileName → Type 0) (u v : View) (name : FileName) → CanRead K u name → HasRead L A B u v name → CanRead L v name
can_read_still K L A B u v name can read = record { there = there_still u v name read.changes can.there; agrees = read.agrees }

-- the reads that were made bound themselves
pub own_cost : {T : Type 0} (u v : View) (n : ℕ) (r : Result T ReadFault) → ReadCost n u v r → ReadCost (v.reads - u.reads) u v r
own_cost u v n r one = record { disk = one.disk; out = one.out; reads = omega arith; ok = one.ok; failed = one.failed; memory = one.memory; damaged = one.damaged }

-- a fault that is handed on, and another answer after the same reads
pub cost_handed : {S T : Type 0} (u v : View) (n : ℕ) (f : ReadFault) → ReadCost {T = S} n u v (Err f) → ReadCost {T = T} n u v (Err f)
cost_handed u v n f one = record { disk = one.disk; out = one.out; reads = one.reads; ok = tt; failed = one.failed; memory = one.memory; damaged = one.damaged }

pub cost_ok : {S T : Type 0} (u v : View) (n : ℕ) (s : S) (t : T) → ReadCost n u v (Ok s) → ReadCost n u v (Ok t)
cost_ok u v n s t one = record { disk = one.disk; out = one.out; reads = one.reads; ok = one.ok; failed = tt; memory = tt; damaged = tt }

pub cost_none : {T : Type 0} (v : View) (n : ℕ) (t : T) → ReadCost n v v (Ok t)
cost_none v n t = record { disk = omega arith; out = refl; reads = omega arith; ok = refl; failed = tt; memory = tt; damaged = tt }

-- memory ends behind reads that didn't fail
pub memory_fault : {S T L : Type 0} (Shown Shows : Damage → Type 0) (Leaves : L → Type 0) (u v : View) (s : S) → StreamFaults Shown Shows Leaves u v (Ok s) → StreamFaults {T = T} Shown Shows Leaves u v (Err fault.OutOfMemory)
memory_fault Shown Shows Leaves u v s one = record {
  causes = record {
    disk = one.causes.disk;
    out = one.causes.out;
    reads = one.causes.reads;
    ok = tt;
    failed = λ is. absurd (let no : fault.OutOfMemory ≡ fault.Failed = is in cc);
    memory = λ _. one.causes.ok;
    damaged = λ damage is. absurd (let no : fault.OutOfMemory ≡ fault.Damaged damage = is in cc);
  };
  damaged = tt;
  undamaged = tt;
  shows = one.shows;
}

-- ---- an open file

-- what the folder reads under the name stays
module _ (old new : Option Folder) (name : FileName) (same : contents_in new name ≡ contents_in old name) where
  pub open_stays : (types : List ColumnType) (o : OpenDataFile) → IsOpenIn old types name o → IsOpenIn new types name o
  open_stays types o is = record { named = is.named; typed = is.typed; footer = λ bytes reads. is.footer bytes (sym same ∙ reads) }

  pub data_stays : (p : Partitioner) (types : List ColumnType) (opened : Option OpenDataFile) (content : Content) → IsDataOf old p types name opened content → IsDataOf new p types name opened content
  data_stays p types opened content is = record { bytes = is.bytes; reads = same ∙ is.reads; data_file = is.data_file; of_bytes = is.of_bytes; opened_as = is.opened_as }

  pub pairs_stay : (o : OpenDataFile) (keys : List PlacedKey) → o.file ≡ name → AllByRecursion (IsAtPair old o) keys → AllByRecursion (IsAtPair new o) keys
  pairs_stay o [] named all = tt
  pairs_stay o (k ∷ keys) named all = (
    record {
      index = all.0.index;
      pair = all.0.pair;
      at = all.0.at;
      begins = all.0.begins;
      entry = λ bytes reads. all.0.entry bytes (ap (contents_in old) named ∙ sym same ∙ ap (contents_in new) (sym named) ∙ reads);
    },
    pairs_stay o keys named all.1,
  )

  pub open_with_stays : (types : List ColumnType) (keys : List PlacedKey) (o : OpenDataFile) → IsOpenWith old types name keys o → IsOpenWith new types name keys o
  open_with_stays types keys o is = record { is_open = open_stays types o is.is_open; at_pairs = pairs_stay o keys is.is_open.named is.at_pairs }

-- it is the data file of the content
pub open_on : (v w : View) (name : FileName) (types : List ColumnType) (o : OpenDataFile) (p : Partitioner) (opened : Option OpenDataFile) (content : Content) → Changes Same v w → o.file ≡ name → o.types ≡ types
    → IsDataOf v.files p types name opened content → IsOpenedAs o p content → IsOpenOn w o p content
open_on v w name types o p opened content change named typed is opens = record {
  bytes = is.bytes;
  reads = ap (contents w) named ∙ contents_same v w name change ∙ is.reads;
  data_file = subst (λ (ts : List ColumnType). IsDataFile p ts is.bytes content) (sym typed) is.data_file;
  of = opens;
}

-- its damage is that of the data file
shown_of : (name : FileName) (types : List ColumnType) (o : OpenDataFile) (bytes : Bytes) (damage : Damage) → o.file ≡ name → o.types ≡ types → ShowsData o bytes damage
    → ShowsData (opened_by name types (record { tree = o.tree; max_timestamp = o.max_timestamp; end = o.end })) bytes damage
shown_of name types o bytes damage named typed shows =
    subst (λ (f : FileName). ShowsData (opened_by f types numbers) bytes damage) named (subst (λ (ts : List ColumnType). ShowsData (opened_by o.file ts numbers) bytes damage) typed shows)
  where
    numbers : Footer
    numbers = record { tree = o.tree; max_timestamp = o.max_timestamp; end = o.end }

pub data_shown : (v : View) (name : FileName) (types : List ColumnType) (o : OpenDataFile) (damage : Damage) → IsOpenIn v.files types name o
    → ((bytes : Bytes) → contents v o.file ≡ Some bytes → ShowsData o bytes damage) → FileShows types name v.files damage
data_shown v name types o damage is shows bytes reads =
    inside (record { tree = o.tree; max_timestamp = o.max_timestamp; end = o.end }) (is.footer bytes reads) (shown_of name types o bytes damage is.named is.typed (shows bytes (ap (contents v) is.named ∙ reads)))

-- ---- the file is opened

module _ (v w : View) (name : FileName) (types : List ColumnType) (change : Changes Same v w) where
  pub opened_now : (o : OpenDataFile) → o.file ≡ name → o.types ≡ types
      → ((bytes : Bytes) → contents v name ≡ Some bytes → HasHeaderAndFooter bytes (record { tree = o.tree; max_timestamp = o.max_timestamp; end = o.end })) → IsOpenIn w.files types name o
  opened_now o named typed has = record { named = named; typed = typed; footer = λ bytes reads. has bytes (sym (contents_same v w name change) ∙ reads) }

  pub opening_faults : {T : Type 0} (opened : Option OpenDataFile) (n : ℕ) (r : Result T ReadFault) → ReadCost n v w r → IfErr r (DamageShown v name (ShowsHeaderOrFooter name)) → IfErr r (NoFalseDataDamage v name)
      → StreamFaults (FileShows types name v.files) (FileShows types name w.files) (λ (has : Partitioner × Content). IsDataOf v.files has.0 types name opened has.1) v w r
  opening_faults opened n r causes damaged undamaged = record {
    causes = own_cost v w n r causes;
    damaged = on_err (λ damage. (bytes : Bytes) → contents v name ≡ Some bytes → ShowsHeaderOrFooter name bytes damage) (FileShows types name v.files) r (λ damage shows bytes reads. outside (shows bytes reads)) damaged;
    undamaged = on_err (λ _. (bytes : Bytes) (p : Partitioner) (ts : List ColumnType) (content : Content) → contents v name ≡ Some bytes → IsDataFile p ts bytes content → ⊥)
        (λ _. (has : Partitioner × Content) → IsDataOf v.files has.0 types name opened has.1 → ⊥) r (λ damage no has is. no is.bytes has.0 types has.1 is.reads is.data_file) undamaged;
    shows = λ damage is bytes reads. is bytes (contents_same v w name change ∙ reads);
  }

-- ---- the keys of a token are read

-- they are at pairs of the key tree
pub at_pairs : (w u : View) (o : OpenDataFile) (token first : ℕ) (keys : List PlacedKey) → Changes Same w u → LeadToKeys w o token first keys → AllByRecursion (IsAtPair u.files o) keys
at_pairs w u o token first [] change lead = tt
at_pairs w u o token first (k ∷ keys) change lead = (
  record {
    index = first;
    pair = lead.0.leads.pair;
    at = lead.0.at;
    begins = subst (IsPartitionOffset o.end) lead.0.at lead.0.leads.begins;
    entry = λ bytes reads. lead.0.leads.entry bytes (sym (contents_same w u o.file change) ∙ reads);
  },
  at_pairs w u o token (suc first) keys change lead.1,
)

module _ (w u : View) (name : FileName) (types : List ColumnType) (o : OpenDataFile) (change : Changes Same w u) (is_open : IsOpenIn w.files types name o) where
  pub keys_ready : (token : ℕ) (keys : List PlacedKey) → HasKeysOfToken w o token keys → IsOpenWith u.files types name keys o
  keys_ready token keys has = record { is_open = open_stays w.files u.files name (contents_same w u name change) types o is_open; at_pairs = at_pairs w u o token has.first keys change has.lead }

  pub keys_faults : {T : Type 0} (n : ℕ) (r : Result T ReadFault) → ReadCost n w u r → IfErr r (DamageShown w o.file (ShowsData o)) → IfErr r (NoFalseOpenedDamage w o)
      → StreamFaults (FileShows types name w.files) (FileShows types name u.files) (λ (has : Partitioner × Content). IsDataOf w.files has.0 types name (Some o) has.1) w u r
  keys_faults n r causes damaged undamaged = record {
    causes = own_cost w u n r causes;
    damaged = on_err (λ damage. (bytes : Bytes) → contents w o.file ≡ Some bytes → ShowsData o bytes damage) (FileShows types name w.files) r (λ damage shows. data_shown w name types o damage is_open shows) damaged;
    undamaged = on_err (λ _. (p : Partitioner) (content : Content) → IsOpenOn w o p content → KeysAreBytes content → ⊥) (λ _. (has : Partitioner × Content) → IsDataOf w.files has.0 types name (Some o) has.1 → ⊥) r
        (λ damage no has is. no has.0 has.1 (open_on w w name types o has.0 (Some o) has.1 (stays w) is_open.named is_open.typed is is.opened_as) is.of_bytes) undamaged;
    shows = λ damage is bytes reads. is bytes (contents_same w u name change ∙ reads);
  }

  pub keys_cost : (token : ℕ) (p : Partitioner) (content : Content)
      → ((most : ℕ) (p : Partitioner) (content : Content) → o.tree.pairs ≤ most → IsOpenOn w o p content → KeysAreBytes content → u.reads ≤ w.reads + (2 * height most o.tree.pairs + 2 + token_reads p token (length header) content))
      → IsDataOf w.files p types name (Some o) content → u.reads ≤ w.reads + keys_reads p token content
  keys_cost token p content costs is =
      let opens : IsOpenedAs o p content = is.opened_as in
      let on = open_on w w name types o p (Some o) content (stays w) is_open.named is_open.typed is opens in
      let count : o.tree.pairs ≡ length content = ap (λ (t : TreeRef). t.pairs) opens.tree ∙ pairs_length p (length header) content in
      let cost = costs (length content) p content (omega (arith, count)) on is.of_bytes in
      let levels : height (length content) o.tree.pairs ≡ height (length content) (length content) = ap (height (length content)) count in
      omega (arith, cost, levels)

-- ---- a file is turned to a token

module _ (v w u : View) (name : FileName) (types : List ColumnType) (x : Option OpenDataFile) (o : OpenDataFile) (token : ℕ) (first : Changes Same v w) (second : Changes Same w u) (is_open : IsOpenIn w.files types name o)
    (opens : (p : Partitioner) (content : Content) → IsDataOf v.files p types name x content → IsOpenedAs o p content) where
  pub data_then : (z : View) → Changes Same v z → (p : Partitioner) (content : Content) → IsDataOf v.files p types name x content → IsDataOf z.files p types name (Some o) content
  data_then z change p content is = record { bytes = is.bytes; reads = contents_same v z name change ∙ is.reads; data_file = is.data_file; of_bytes = is.of_bytes; opened_as = opens p content is }

  pub turned_keys : (keys : List PlacedKey) → ((p : Partitioner) (content : Content) → IsOpenOn w o p content → KeysAreBytes content → keys ≡ keys_at p token (length header) content)
      → (p : Partitioner) (content : Content) → IsDataOf v.files p types name x content → keys ≡ keys_at p token (length header) content
  turned_keys keys gives p content is = gives p content (open_on v w name types o p x content first is_open.named is_open.typed is (opens p content is)) is.of_bytes

  pub turned_cost : ((p : Partitioner) (content : Content) → IsDataOf v.files p types name x content → w.reads ≤ v.reads + opening_reads x)
      → ((most : ℕ) (p : Partitioner) (content : Content) → o.tree.pairs ≤ most → IsOpenOn w o p content → KeysAreBytes content → u.reads ≤ w.reads + (2 * height most o.tree.pairs + 2 + token_reads p token (length header) content))
      → (p : Partitioner) (content : Content) → IsDataOf v.files p types name x content → u.reads ≤ v.reads + (opening_reads x + keys_reads p token content)
  turned_cost opening costs p content is = omega (arith, opening p content is, keys_cost w u name types o second is_open token p content costs (data_then w first p content is))

  pub turned_faults : {S T : Type 0} (n : ℕ) (s : S) (r : Result T ReadFault)
      → StreamFaults (FileShows types name v.files) (FileShows types name w.files) (λ (has : Partitioner × Content). IsDataOf v.files has.0 types name x has.1) v w (Ok s) → ReadCost n w u r → IfErr r (DamageShown w o.file (ShowsData o)) → IfErr r (NoFalseOpenedDamage w o)
      → StreamFaults (FileShows types name v.files) (FileShows types name u.files) (λ (has : Partitioner × Content). IsDataOf v.files has.0 types name x has.1) v u r
  turned_faults n s r one causes damaged undamaged =
      faults_then _ _ _ _ _ v w u s r (λ has is. (has, data_then w first has.0 has.1 is)) one (keys_faults w u name types o second is_open n r causes damaged undamaged)

-- of a file by its fields, after which it may be closed
module _ (v w : View) (types : List ColumnType) (token : ℕ) (old : LookedFile) (name : FileName) (opened : Option OpenDataFile) (named : name ≡ old.name) (was : opened ≡ old.opened) where
  pub data_as : (p : Partitioner) (content : Content) → IsDataOf v.files p types old.name old.opened content → IsDataOf v.files p types name opened content
  data_as p content is = subst (λ (n : FileName). IsDataOf v.files p types n opened content) (sym named) (subst (λ (x : Option OpenDataFile). IsDataOf v.files p types old.name x content) (sym was) is)

  pub reads_as : ((p : Partitioner) (content : Content) → IsDataOf v.files p types name opened content → w.reads ≤ v.reads + (opening_reads opened + keys_reads p token content))
      → (p : Partitioner) (content : Content) → IsDataOf v.files p types old.name old.opened content → w.reads ≤ v.reads + (opening_reads old.opened + keys_reads p token content)
  reads_as clause p content is = subst (λ (x : Option OpenDataFile). w.reads ≤ v.reads + (opening_reads x + keys_reads p token content)) was (clause p content (data_as p content is))

  pub faults_in_file : {T : Type 0} (r : Result T ReadFault)
      → StreamFaults (FileShows types name v.files) (FileShows types name w.files) (λ (has : Partitioner × Content). IsDataOf v.files has.0 types name opened has.1) v w r
      → StreamFaults (FileShows types old.name v.files) (FileShows types old.name w.files) (λ (has : Partitioner × Content). IsDataOf v.files has.0 types old.name old.opened has.1) v w r
  faults_in_file r one =
      subst (λ (n : FileName). StreamFaults (FileShows types n v.files) (FileShows types n w.files) (λ (has : Partitioner × Content). IsDataOf v.files has.0 types n old.opened has.1) v w r) named
      (subst (λ (x : Option OpenDataFile). StreamFaults (FileShows types name v.files) (FileShows types name w.files) (λ (has : Partitioner × Content). IsDataOf v.files has.0 types name x has.1) v w r) was one)

  pub open_before : IsFileReady types old v.files → IfSome opened (IsOpenIn v.files types name)
  open_before ready =
      subst (λ (n : FileName). IfSome opened (IsOpenIn v.files types n)) (sym named)
      (subst (λ (x : Option OpenDataFile). IfSome x (IsOpenIn v.files types old.name)) (sym was) (by old.opened ready))
    where
      by : (x : Option OpenDataFile) → IfSome x (IsOpenWith v.files types old.name old.keys) → IfSome x (IsOpenIn v.files types old.name)
      by None is = tt
      by (Some o) is = is.is_open

-- a closed one
pub closed_ready : (x : Option Folder) (types : List ColumnType) (name : FileName) (keys : List PlacedKey) (opened : Option OpenDataFile) → opened ≡ None → IfSome opened (IsOpenWith x types name keys)
closed_ready x types name keys opened none = subst (λ (o : Option OpenDataFile). IfSome o (IsOpenWith x types name keys)) (sym none) tt

pub closed_data : (v w : View) (types : List ColumnType) (old : LookedFile) (name : FileName) (opened : Option OpenDataFile) → name ≡ old.name → opened ≡ None → Changes Same v w
    → (p : Partitioner) (content : Content) → IsDataOf v.files p types old.name old.opened content → IsDataOf w.files p types name opened content
closed_data v w types old name opened named none change p content is =
    subst (λ (n : FileName). IsDataOf w.files p types n opened content) (sym named)
    (subst (λ (x : Option OpenDataFile). IsDataOf w.files p types old.name x content) (sym none)
    (record { bytes = is.bytes; reads = contents_same v w old.name change ∙ is.reads; data_file = is.data_file; of_bytes = is.of_bytes; opened_as = tt }))
