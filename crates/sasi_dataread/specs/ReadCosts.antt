-- How many pages a scan of a data file reads.
use Rattle.std.specs.Prelude.{◌≡◌, ℕ, ◌+◌, ◌*◌, ◌/◌, ◌<◌, ◌≤◌, length, take, MatchResult, None, Ok, Err, Some}
use Rattle.std.specs.declared.result.Result.{Result}
use Rattle.std.proofs.Common.{ap, arith, sym, ◌∙◌}
use Rattle.sasi_types.specs.declared.partitioner.Partitioner.{Partitioner}
use Rattle.sasi_host.specs.declared.fault.ReadFault.{ReadFault}
use Rattle.sasi_host.specs.Names.{Bytes}
use Rattle.sasi_host.specs.Buffered.{Buffered, reached}
use Rattle.sasi_host.specs.View.{View}
use Rattle.sasi_tokentree.specs.Scans.{PairScan, read_from}
use Rattle.sasi_datawrite.specs.Format.{Content, front}
use Rattle.sasi_dataread.specs.Opened.{OpenDataFile}
use Rattle.sasi_dataread.specs.Reads.{IsOpenOn}
use Rattle.sasi_dataread.specs.Scans.{DataScan, KeysAreBytes}

-- how many pages a file has
abbrev pub file_pages : Bytes → ℕ
file_pages bytes = (length bytes + 4095) / 4096

-- the pages up to the buffered one of the key tree, and those up to the one of the partitions
abbrev pub progress : DataScan → ℕ
progress walk = reached walk.pairs_buffered.page + reached walk.buffered.page

-- A sequential scan: its buffered pages begin before what is read for the next pair and before the next partition, and are pages of the file.
pub record IsSequential (bytes : Bytes) (content : Content) (walk : DataScan) : Type 0 where
  pub pairs : (page : ℕ) → walk.pairs_buffered.page ≡ Some page → 4096 * page < read_from walk.opened.tree walk.passed
  pub partitions : (page : ℕ) → walk.buffered.page ≡ Some page → 4096 * page < length (front (take walk.passed content))
  pub pairs_within : reached walk.pairs_buffered.page ≤ file_pages bytes
  pub within : reached walk.buffered.page ≤ file_pages bytes

-- the scan stays sequential, and each page that it comes to is read once
pub record ReadsEachPageOnce (bytes : Bytes) (content : Content) (reads reads_after : ℕ) (old new : DataScan) : Type 0 where
  pub sequential : IsSequential bytes content new
  pub pages : reads_after + progress old ≤ reads + progress new

-- A step of a sequential scan reads each page that it comes to once. Where it fails it reads at most the pages that are left, those of the file once for the key tree and once for the partitions.
abbrev pub ScansPagesOnce : {T : Type 0} → View → View → DataScan → DataScan → Result T ReadFault → Type 0
ScansPagesOnce a b old new result = (partitioner : Partitioner) (content : Content) (is : IsOpenOn a old.opened partitioner content) → KeysAreBytes content → IsSequential is.bytes content old
    → MatchResult result (λ _. ReadsEachPageOnce is.bytes content a.reads b.reads old new) (λ _. b.reads + progress old ≤ a.reads + 2 * file_pages is.bytes)

-- a scan by its parts, whatever it gave last, and wherever its tokens come from
abbrev pub scan_of : OpenDataFile → PairScan → Buffered → DataScan
scan_of opened tree buffered = record { opened = opened; tokens = None; passed = tree.passed; pairs_buffered = tree.buffered; buffered = buffered; last_pair = tree.last; last = None }

-- ---- laws

-- a scan with no page buffered is sequential
pub begins_sequential : (bytes : Bytes) (content : Content) (walk : DataScan) → walk.pairs_buffered.page ≡ None → walk.buffered.page ≡ None → IsSequential bytes content walk
begins_sequential bytes content walk no_pairs none = record {
  pairs = λ page is. absurd (let no : None ≡ Some page = sym no_pairs ∙ is in cc);
  partitions = λ page is. absurd (let no : None ≡ Some page = sym none ∙ is in cc);
  pairs_within = omega (arith, ap reached no_pairs);
  within = omega (arith, ap reached none);
}

-- a scan comes to each page at most twice: once for the key tree, once for the partitions
pub progress_within : (bytes : Bytes) (content : Content) (walk : DataScan) → IsSequential bytes content walk → progress walk ≤ 2 * file_pages bytes
progress_within bytes content walk sequential = omega (arith, sequential.pairs_within, sequential.within)

-- so a step that goes on reads at most the pages that are left, too
pub once_within : (bytes : Bytes) (content : Content) (reads reads_after : ℕ) (old new : DataScan) → ReadsEachPageOnce bytes content reads reads_after old new → reads_after + progress old ≤ reads + 2 * file_pages bytes
once_within bytes content reads reads_after old new once = omega (arith, once.pages, progress_within bytes content new once.sequential)

-- what bounds a count where a call succeeds, and where it fails, bounds it always
pub always_within : {T : Type 0} (P : Type 0) (now most : ℕ) (result : Result T ReadFault) → (P → now ≤ most) → MatchResult result (λ _. P) (λ _. now ≤ most) → now ≤ most
always_within P now most (Ok x) goes within = goes within
always_within P now most (Err f) goes within = within
