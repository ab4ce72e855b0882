-- How many reads a SELECT may take, by the parts of its table: a map has one data file, so the map tells its pages.
use Rattle.std.specs.Prelude.{ℕ, ◌+◌, ◌*◌, nat_eq, Bool, true, false, ◌||◌, not, if◌then◌else◌, List, [], ◌∷◌, length, Option}
use Rattle.std.specs.FinMap as map_
use Rattle.std.specs.List.{filter, list_any, sum_by}
use Rattle.sasi_types.specs.declared.decorated_key.DecoratedKey.{DecoratedKey}
use Rattle.sasi_types.specs.declared.partitioner.Partitioner.{Partitioner}
use Rattle.sasi_types.specs.Token.{token_of}
use Rattle.sasi_terms.specs.declared.op.Op.{Op}
use Rattle.sasi_terms.specs.Holds.{holds}
use Rattle.sasi_model.specs.Abbreviations.{Partitions}
use Rattle.sasi_model.specs.Conditions.{Condition, OfKey, Indexed, Plain}
use Rattle.sasi_model.specs.Filters.{answers, where_of}
use Rattle.sasi_model.specs.IndexTerms.{terms_at}
use Rattle.sasi_model.specs.State.{Index}
use Rattle.sasi_body.specs.Body.{body}
use Rattle.sasi_datawrite.specs.Format.{Content, data_bytes, header, partition_bytes}
use Rattle.sasi_dataread.specs.Bodies.{partition_pages}
use Rattle.sasi_dataread.specs.ReadCosts.{file_pages}
use Rattle.sasi_indexread.specs.Asked.{is_run}
use Rattle.sasi_postings.specs.Postings.{distinct}
use Rattle.sasi_layout.specs.Flushed.{contents_of}
use Rattle.sasi_candidates.specs.Groups.{groups, looks}
use Rattle.sasi_candidates.specs.Parts.{Disk, Memory, Origin, Part, is_stored, spilled}

-- ---- the searches of index files

-- a search goes through the stored terms that are as asked, where these follow one another, and else through all
abbrev pub is_scanned : Op → List ℕ → List ℕ → Bool
is_scanned op word term = holds op term word || not (is_run op)

-- the pairs of a key that it goes through: one for each such term, and one where the key is in the spill
abbrev pub pairs_at : Index → Op → List ℕ → Partitions → DecoratedKey → ℕ
pairs_at index op word m q = length (filter (is_scanned op word) (distinct (filter (is_stored index m) (terms_at index.rule index.column m q)))) + (if spilled index m q then 1 else 0)

-- the search of a word
abbrev pub search_cost : Index → Op → Partitions → List ℕ → ℕ
search_cost index op m word = 32 + 4 * sum_by (λ e. pairs_at index op word m e.0) (map_.entries m)

abbrev pub has_index : Index → Origin → Bool
has_index index Memory = true
has_index index (Disk columns) = list_any (nat_eq index.column) columns

-- **The searches of a condition** in a file that has its index: one for each word
abbrev pub searches_cost : Part → Condition → ℕ
searches_cost part (OfKey bytes) = 0
searches_cost part (Indexed index search) = if has_index index part.origin then sum_by (search_cost index search.op part.holds) search.words else 0
searches_cost part (Plain column comparison) = 0

-- ---- files without an index that is asked for

abbrev pub lacks_index : Origin → Condition → Bool
lacks_index origin (OfKey bytes) = false
lacks_index origin (Indexed index search) = not (has_index index origin)
lacks_index origin (Plain column comparison) = false

-- a condition on the key or on an indexed column
abbrev pub narrows : Condition → Bool
narrows (OfKey bytes) = true
narrows (Indexed index search) = true
narrows (Plain column comparison) = false

-- all keys of the file are read: an index is missing that a condition asks for, or no condition narrows
abbrev pub reads_all : List Condition → Origin → Bool
reads_all conditions origin = list_any (lacks_index origin) conditions || not (list_any narrows conditions)

abbrev pub pages_of_file : Partitioner → Partitions → ℕ
pages_of_file partitioner m = file_pages (data_bytes partitioner (contents_of m))

-- **What is read of a file, whatever the candidates are**
abbrev pub file_cost : Partitioner → List Condition → Part → ℕ
file_cost partitioner conditions part = sum_by (searches_cost part) conditions + (if reads_all conditions part.origin then 2 * pages_of_file partitioner part.holds else 0)

-- ---- looked tokens

-- the pages of the partitions with a token, each counted by itself, where the first partition is at this offset
abbrev pub token_pages : Partitioner → ℕ → ℕ → Content → ℕ
token_pages partitioner token at [] = 0
token_pages partitioner token at (one ∷ others) =
    (if nat_eq (token_of partitioner one.0) token then partition_pages at (length (body one.0 one.1)) else 0) + token_pages partitioner token (at + length (partition_bytes one.0 one.1)) others

abbrev pub is_on_disk : Origin → Bool
is_on_disk Memory = false
is_on_disk (Disk columns) = true

abbrev pub files_of : List Part → List Part
files_of parts = filter (λ (part : Part). is_on_disk part.origin) parts

-- **What one look at a token costs**, over all files
abbrev pub token_cost : Partitioner → List Part → ℕ → ℕ
token_cost partitioner parts token = sum_by (λ (part : Part). 16 + 2 * token_pages partitioner token (length header) (contents_of part.holds)) (files_of parts)

-- ---- all of it

-- **How many reads a SELECT may take**
abbrev pub cost : Partitioner → List Part → List Condition → Option ℕ → ℕ
cost partitioner parts conditions limit =
    sum_by (file_cost partitioner conditions) (files_of parts) + looks (token_cost partitioner parts) (answers (where_of conditions)) limit (groups partitioner parts conditions)
