-- The definitions, computed on small tables.
use Rattle.std.proofs.Common.{◌≡◌, cond, not, is_some, if◌then◌else◌, ℕ, ◌+◌, Bool, true, false, ◌&&◌, ◌||◌, nat_le, length, map, List, [], ◌∷◌, codes, replicate, Option, Some, None, refl, ap, ◌∙◌}
use Rattle.std.proofs.lemmas.Cmp.{tied_itself}
use Rattle.std.specs.Cmp.{nat_cmp_total}
use Rattle.std.specs.FinMap as map_
use Rattle.std.specs.List.{filter, list_all, list_any}
use Rattle.std.specs.Option.{option_and_then}
use Rattle.std.specs.Ordering.{is_eq, nat_cmp}
use Rattle.sasi_types.specs.declared.cell.Cell.{Cell}
use Rattle.sasi_types.specs.declared.decorated_key.DecoratedKey.{DecoratedKey}
use Rattle.sasi_types.specs.declared.mode.Mode.{Mode}
use Rattle.sasi_types.specs.declared.mode.Mode.TheVariants as modes
use Rattle.sasi_types.specs.declared.partitioner.Partitioner.TheVariants.{Lead8}
use Rattle.sasi_types.specs.declared.rule.Rule.TheVariants.{Whole}
use Rattle.sasi_types.specs.declared.value.Value.TheVariants.{Text}
use Rattle.sasi_types.specs.DecoratedKey.{decorated_cmp, decorated_total}
use Rattle.sasi_types.specs.Token.{token_of}
use Rattle.sasi_terms.specs.declared.op.Op.{Op}
use Rattle.sasi_terms.specs.declared.op.Op.TheVariants as ops
use Rattle.sasi_model.specs.Abbreviations.{Partitions, value_of}
use Rattle.sasi_model.specs.Cells.{Partition}
use Rattle.sasi_model.specs.Conditions.{Condition, Indexed, OfKey, Plain, Equals, Search, finds}
use Rattle.sasi_model.specs.Filters.{AllOf, key_asked, leaves, where_of}
use Rattle.sasi_model.specs.IndexTerms.{any_holds, cell_at, terms_of_cell}
use Rattle.sasi_model.specs.State.{Index}
use Rattle.sasi_model.specs.Tokens.{same}
use Rattle.sasi_sparse.specs.Sparse.{is_rare}
use Rattle.sasi_postings.specs.Postings.{distinct, is_short}
use Rattle.sasi_segments.specs.Sorting.{inserted, sort}
use Rattle.sasi_layout.specs.Layout.{TableParts}
use Rattle.sasi_candidates.specs.Candidates.{admits, is_candidate}
use Rattle.sasi_candidates.specs.Checks.{given, looked}
use Rattle.sasi_candidates.specs.Costs.{files_of, is_scanned, pairs_at, reads_all}
use Rattle.sasi_candidates.specs.Groups.{Group, by_token, candidates_in, groups, is_looked, looks}
use Rattle.sasi_candidates.specs.LayoutParts.{columns_of}
use Rattle.sasi_candidates.specs.Parts.{Memory, Disk, Part, hit, hit_in_index, hit_in_memory, is_stored, keys_with}

-- ---- LIMIT

-- the second candidate is the last one that is looked at for one row
one_of_two : looked (Some 1) (nat_le 2) (1 ∷ 2 ∷ 1 ∷ 3 ∷ []) ≡ 2
one_of_two = refl

given_one : given (Some 1) (nat_le 2) (1 ∷ 2 ∷ 1 ∷ 3 ∷ []) ≡ 2 ∷ []
given_one = refl

-- none is looked at for none, and all where LIMIT isn't reached or there is none
none_for_none : looked (Some 0) (nat_le 2) (1 ∷ 2 ∷ []) ≡ 0
none_for_none = refl

all_for_more : looked (Some 3) (nat_le 2) (1 ∷ 2 ∷ 1 ∷ 3 ∷ 1 ∷ []) ≡ 5
all_for_more = refl

all_without_limit : looked None (nat_le 2) (1 ∷ 2 ∷ 1 ∷ []) ≡ 3
all_without_limit = refl

-- ---- what is stored

five_keys : is_rare modes.Sparse 5 ≡ true
five_keys = refl

six_keys : is_rare modes.Sparse 6 ≡ false
six_keys = refl

many_in_prefix : is_rare modes.Prefix 1000 ≡ true
many_in_prefix = refl

-- ---- a table of two columns with an index each, which keep texts whole

abbrev index_of : Mode → ℕ → Index
index_of mode column = record { name = []; column = column; mode = mode; rule = Some (Whole false) }

abbrev first : Index
first = index_of modes.Prefix 1

abbrev second : Index
second = index_of modes.Prefix 2

abbrev equals : List ℕ → Search
equals text = record { op = ops.Eq; words = text ∷ [] }

abbrev key : DecoratedKey
key = record { token = 7; key = codes "k" }

abbrev written : List ℕ → Cell
written text = record { time = 1; value = Some (Text text) }

-- a partition with a text in one column
abbrev row : ℕ → List ℕ → Partition
row column text = record { deleted = 0; cells = map_.from_entries {R = nat_cmp} ((column, written text) ∷ []) }

abbrev table : ℕ → List ℕ → Partitions
table column text = map_.from_entries {R = decorated_cmp} ((key, row column text) ∷ [])

at_key : (column : ℕ) (text : List ℕ) → map_.get (table column text) key ≡ Some (row column text)
at_key column text = map_.get-from_entries decorated_total ((key, row column text) ∷ []) key

current : (column : ℕ) (text : List ℕ) → cell_at (table column text) key column ≡ Some (written text)
current column text =
    ap (λ (o : Option Partition). option_and_then (λ (p : Partition). map_.get p.cells column) o) (at_key column text)
    ∙ map_.get-from_entries nat_cmp_total ((column, written text) ∷ []) column
    ∙ ap (λ r. cond (is_eq r) (Some (written text)) None) (tied_itself nat_cmp_total column)

no_second : (text : List ℕ) → cell_at (table 1 text) key 2 ≡ None
no_second text =
    ap (λ (o : Option Partition). option_and_then (λ (p : Partition). map_.get p.cells 2) o) (at_key 1 text)
    ∙ map_.get-from_entries nat_cmp_total ((1, written text) ∷ []) 2

-- ---- hits

-- in memory the text itself is asked
memory_hit : hit_in_memory first (equals (codes "a")) (table 1 (codes "a")) key ≡ true
memory_hit = ap (λ (o : Option Cell). finds first.rule (equals (codes "a")) (value_of o)) (current 1 (codes "a"))

memory_miss : hit_in_memory first (equals (codes "b")) (table 1 (codes "a")) key ≡ false
memory_miss = ap (λ (o : Option Cell). finds first.rule (equals (codes "b")) (value_of o)) (current 1 (codes "a"))

-- in a file with the index, its term is found, and no other
abbrev file_test : (index : Index) (text word : List ℕ) (m : Partitions) (o : Option Cell) → Bool
file_test index text word m o =
    list_any (λ term. not (is_stored index m term)) (terms_of_cell index.rule o) || list_all (λ w. any_holds ops.Eq w (filter (is_stored index m) (terms_of_cell index.rule o))) (word ∷ [])

file_hit : hit_in_index first (equals (codes "a")) (table 1 (codes "a")) key ≡ true
file_hit = ap (file_test first (codes "a") (codes "a") (table 1 (codes "a"))) (current 1 (codes "a"))

file_miss : hit_in_index first (equals (codes "b")) (table 1 (codes "a")) key ≡ false
file_miss = ap (file_test first (codes "a") (codes "b") (table 1 (codes "a"))) (current 1 (codes "a"))

-- a text of 1,024 bytes is stored; one that is longer is in the spill, which every word finds
abbrev long : ℕ → List ℕ
long size = replicate size 97

stored_miss : hit_in_index first (equals (codes "b")) (table 1 (long 1024)) key ≡ false
stored_miss = ap (file_test first (long 1024) (codes "b") (table 1 (long 1024))) (current 1 (long 1024))

spill_hit : hit_in_index first (equals (codes "b")) (table 1 (long 1025)) key ≡ true
spill_hit = ap (file_test first (long 1025) (codes "b") (table 1 (long 1025))) (current 1 (long 1025))

-- a SPARSE index doesn't store a text that six keys have
abbrev six_rows : List (DecoratedKey × Partition)
six_rows = map (λ n. (record { token = n; key = codes "k" }, row 1 (codes "a"))) (1 ∷ 2 ∷ 3 ∷ 4 ∷ 5 ∷ 6 ∷ [])

abbrev six_keys_map : Partitions
six_keys_map = map_.from_sorted {R = decorated_cmp} six_rows

column_one : map_.get (row 1 (codes "a")).cells 1 ≡ Some (written (codes "a"))
column_one = map_.get-from_entries nat_cmp_total ((1, written (codes "a")) ∷ []) 1

abbrev sparse : Index
sparse = index_of modes.Sparse 1

all_six : keys_with sparse six_keys_map (codes "a") ≡ 6
all_six =
    ap (λ (es : List (DecoratedKey × Partition)). length (filter (λ e. list_any (same (codes "a")) (terms_of_cell sparse.rule (map_.get e.1.cells 1))) es)) (map_.entries-from_sorted decorated_cmp six_rows tt)
    ∙ ap (λ (o : Option Cell). length (filter (λ (e : DecoratedKey × Partition). list_any (same (codes "a")) (terms_of_cell sparse.rule o)) six_rows)) column_one

crowded : is_stored sparse six_keys_map (codes "a") ≡ false
crowded = ap (λ n. is_short (codes "a") && is_rare modes.Sparse n) all_six

-- without the index each key of the file is a hit
every_key : hit first (equals (codes "b")) key (record { origin = Disk (2 ∷ []); holds = table 1 (codes "a") }) ≡ true
every_key = ap is_some (at_key 1 (codes "a"))

-- ---- candidates

abbrev on_disk : ℕ → List ℕ → Part
on_disk column text = record { origin = Disk (1 ∷ 2 ∷ []); holds = table column text }

-- a text that was overwritten is still a hit of the older part, so its key is a candidate
stale : is_candidate (on_disk 1 (codes "a") ∷ record { origin = Memory; holds = table 1 (codes "b") } ∷ []) (AllOf (leaves (Indexed first (equals (codes "a")) ∷ []))) key ≡ true
stale = ap (λ b. (b || (hit first (equals (codes "a")) key (record { origin = Memory; holds = table 1 (codes "b") }) || false)) && true) file_hit

-- where two files have the two columns that are asked for, the key is a candidate, though it is a hit of both in neither
second_hit : hit second (equals (codes "b")) key (on_disk 2 (codes "b")) ≡ true
second_hit = ap (file_test second (codes "b") (codes "b") (table 2 (codes "b"))) (current 2 (codes "b"))

second_miss : hit second (equals (codes "b")) key (on_disk 1 (codes "a")) ≡ false
second_miss = ap (file_test second (codes "b") (codes "b") (table 1 (codes "a"))) (no_second (codes "a"))

two_files : is_candidate (on_disk 1 (codes "a") ∷ on_disk 2 (codes "b") ∷ []) (AllOf (leaves (Indexed first (equals (codes "a")) ∷ Indexed second (equals (codes "b")) ∷ []))) key ≡ true
two_files =
    ap (λ b. (b || (hit first (equals (codes "a")) key (on_disk 2 (codes "b")) || false)) && ((hit second (equals (codes "b")) key (on_disk 1 (codes "a")) || (hit second (equals (codes "b")) key (on_disk 2 (codes "b")) || false)) && true)) file_hit
    ∙ ap (λ b. (b || (hit second (equals (codes "b")) key (on_disk 2 (codes "b")) || false)) && true) second_miss
    ∙ ap (λ b. (b || false) && true) second_hit

-- a condition on the key leaves that key, and one on a column without an index every key
by_key : admits [] key (OfKey (codes "k")) && not (admits [] key (OfKey (codes "j"))) ≡ true
by_key = refl

by_plain : admits [] key (Plain 3 (Equals (codes "x"))) ≡ true
by_plain = refl

-- ---- the parts of a layout

abbrev parts_of_table : TableParts
parts_of_table = record {
  definition = record { name = codes "t"; columns = []; key = 0; indexes = first ∷ second ∷ [] };
  numbers = 4 ∷ 9 ∷ [];
  since = 1;
  first = None;
  files = [];
  frozen = [];
  memtable = map_.empty;
}

-- a file has the columns of the indexes that its parts name; an index that isn't the table's has none
columns : columns_of parts_of_table (record { index = 9; part = 2 } ∷ record { index = 7; part = 3 } ∷ []) ≡ 2 ∷ []
columns = refl

-- ---- keys by their tokens

abbrev keyed : ℕ → List ℕ → DecoratedKey
keyed token name = record { token = token; key = name }

abbrev one_of : ℕ → List ℕ → DecoratedKey × Partition
one_of token name = (keyed token name, row 1 (codes "a"))

abbrev two_of_seven : Group
two_of_seven = record { token = 7; rows = one_of 7 (codes "k1") ∷ one_of 7 (codes "k2") ∷ [] }

abbrev one_of_nine : Group
one_of_nine = record { token = 9; rows = one_of 9 (codes "k3") ∷ [] }

-- keys that share a token are one group
shared : by_token (one_of 7 (codes "k1") ∷ one_of 7 (codes "k2") ∷ one_of 9 (codes "k3") ∷ []) ≡ two_of_seven ∷ one_of_nine ∷ []
shared = refl

-- the first condition on the key tells the token, whatever is asked beside it
first_key : key_asked (Plain 3 (Equals (codes "x")) ∷ OfKey (codes "k") ∷ OfKey (codes "j") ∷ []) ≡ Some (codes "k")
first_key = refl

-- also where no part has the key
no_part : map (λ (g : Group). g.token) (groups Lead8 [] (OfKey (codes "k") ∷ [])) ≡ token_of Lead8 (codes "k") ∷ []
no_part = refl

-- ---- hits that meet at a token, and at none of its keys

abbrev one_key : DecoratedKey
one_key = keyed 7 (codes "k1")

abbrev other_key : DecoratedKey
other_key = keyed 7 (codes "k2")

-- the one key has a text in the first column, and the other one in the second
abbrev both_rows : List (DecoratedKey × Partition)
both_rows = (one_key, row 1 (codes "a")) ∷ (other_key, row 2 (codes "b")) ∷ []

abbrev in_memory : Part
in_memory = record { origin = Memory; holds = map_.from_entries {R = decorated_cmp} both_rows }

abbrev both_asked : List Condition
both_asked = Indexed first (equals (codes "a")) ∷ Indexed second (equals (codes "b")) ∷ []

abbrev at_column : ℕ → Option Partition → Option Cell
at_column column o = option_and_then (λ (p : Partition). map_.get p.cells column) o

one_first : hit first (equals (codes "a")) one_key in_memory ≡ true
one_first =
    ap (λ (o : Option Partition). finds first.rule (equals (codes "a")) (value_of (at_column 1 o))) (map_.get-from_entries decorated_total both_rows one_key)
    ∙ ap (λ (o : Option Cell). finds first.rule (equals (codes "a")) (value_of o)) (map_.get-from_entries nat_cmp_total ((1, written (codes "a")) ∷ []) 1)

one_second : hit second (equals (codes "b")) one_key in_memory ≡ false
one_second =
    ap (λ (o : Option Partition). finds second.rule (equals (codes "b")) (value_of (at_column 2 o))) (map_.get-from_entries decorated_total both_rows one_key)
    ∙ ap (λ (o : Option Cell). finds second.rule (equals (codes "b")) (value_of o)) (map_.get-from_entries nat_cmp_total ((1, written (codes "a")) ∷ []) 2)

other_first : hit first (equals (codes "a")) other_key in_memory ≡ false
other_first =
    ap (λ (o : Option Partition). finds first.rule (equals (codes "a")) (value_of (at_column 1 o))) (map_.get-from_entries decorated_total both_rows other_key)
    ∙ ap (λ (o : Option Cell). finds first.rule (equals (codes "a")) (value_of o)) (map_.get-from_entries nat_cmp_total ((2, written (codes "b")) ∷ []) 1)

other_second : hit second (equals (codes "b")) other_key in_memory ≡ true
other_second =
    ap (λ (o : Option Partition). finds second.rule (equals (codes "b")) (value_of (at_column 2 o))) (map_.get-from_entries decorated_total both_rows other_key)
    ∙ ap (λ (o : Option Cell). finds second.rule (equals (codes "b")) (value_of o)) (map_.get-from_entries nat_cmp_total ((2, written (codes "b")) ∷ []) 2)

-- the token is looked at,
abbrev both_met : (a b c d : Bool) → Bool
both_met a b c d = ((a || false) || ((b || false) || false)) && (((c || false) || ((d || false) || false)) && true)

met_at_token : is_looked (in_memory ∷ []) (where_of both_asked) (record { token = 7; rows = both_rows }) ≡ true
met_at_token =
    ap (λ b. both_met b (hit first (equals (codes "a")) other_key in_memory) (hit second (equals (codes "b")) one_key in_memory) (hit second (equals (codes "b")) other_key in_memory)) one_first
    ∙ ap (λ b. both_met true (hit first (equals (codes "a")) other_key in_memory) b (hit second (equals (codes "b")) other_key in_memory)) one_second
    ∙ ap (λ b. both_met true (hit first (equals (codes "a")) other_key in_memory) false b) other_second

-- and has no candidate
one_is_none : is_candidate (in_memory ∷ []) (where_of both_asked) one_key ≡ false
one_is_none = ap (λ b. (b || false) && ((hit second (equals (codes "b")) one_key in_memory || false) && true)) one_first ∙ ap (λ b. (b || false) && true) one_second

other_is_none : is_candidate (in_memory ∷ []) (where_of both_asked) other_key ≡ false
other_is_none = ap (λ b. (b || false) && ((hit second (equals (codes "b")) other_key in_memory || false) && true)) other_first

abbrev rows_if : Bool → Bool → List (DecoratedKey × Partition)
rows_if a b = cond a ((one_key, row 1 (codes "a")) ∷ cond b ((other_key, row 2 (codes "b")) ∷ []) []) (cond b ((other_key, row 2 (codes "b")) ∷ []) [])

none_in_keys : (candidates_in (in_memory ∷ []) (where_of both_asked) (record { token = 7; rows = both_rows })).rows ≡ []
none_in_keys = ap (λ b. rows_if b (is_candidate (in_memory ∷ []) (where_of both_asked) other_key)) one_is_none ∙ ap (λ b. rows_if false b) other_is_none

-- asked for one of them, only the key that is a hit is a candidate
abbrev first_asked : List Condition
first_asked = Indexed first (equals (codes "a")) ∷ []

one_is : is_candidate (in_memory ∷ []) (where_of first_asked) one_key ≡ true
one_is = ap (λ b. (b || false) && true) one_first

other_isnt : is_candidate (in_memory ∷ []) (where_of first_asked) other_key ≡ false
other_isnt = ap (λ b. (b || false) && true) other_first

one_in_keys : (candidates_in (in_memory ∷ []) (where_of first_asked) (record { token = 7; rows = both_rows })).rows ≡ (one_key, row 1 (codes "a")) ∷ []
one_in_keys = ap (λ b. rows_if b (is_candidate (in_memory ∷ []) (where_of first_asked) other_key)) one_is ∙ ap (λ b. rows_if true b) other_isnt

-- and without a condition both are
both_in_keys : (candidates_in (in_memory ∷ []) (where_of []) (record { token = 7; rows = both_rows })).rows ≡ both_rows
both_in_keys = refl

-- ---- how often tokens are looked at

-- a token that costs 10 is paid for each candidate, and once where there is none
for_each : looks (λ token. 10) (λ e. true) None (two_of_seven ∷ one_of_nine ∷ []) ≡ 30
for_each = refl

for_none : looks (λ token. 10) (λ e. true) None (record { token = 8; rows = [] } ∷ one_of_nine ∷ []) ≡ 20
for_none = refl

-- for one row only the first candidate is paid; for two rows both of the first token, and the next one isn't looked at
for_one_row : looks (λ token. 10) (λ e. true) (Some 1) (two_of_seven ∷ one_of_nine ∷ []) ≡ 10
for_one_row = refl

for_two_rows : looks (λ token. 10) (λ e. true) (Some 2) (two_of_seven ∷ one_of_nine ∷ []) ≡ 20
for_two_rows = refl

-- a candidate that fails is paid, too
for_failed : looks (λ token. 10) (λ e. same e.0.key (codes "k2")) (Some 1) (two_of_seven ∷ one_of_nine ∷ []) ≡ 20
for_failed = refl

-- where fewer rows pass than LIMIT allows, all tokens are looked at
for_too_few : looks (λ token. 10) (λ e. same e.0.key (codes "k1")) (Some 2) (two_of_seven ∷ one_of_nine ∷ []) ≡ 30
for_too_few = refl

-- ---- what files cost

-- the search of a stored term that is as asked goes through its pair, and that of another term doesn't
abbrev pairs_of : Index → Op → (text word : List ℕ) → Partitions → Option Cell → ℕ
pairs_of index op text word m o =
    length (filter (is_scanned op word) (distinct (filter (is_stored index m) (terms_of_cell index.rule o)))) + (if list_any (λ term. not (is_stored index m term)) (terms_of_cell index.rule o) then 1 else 0)

one_pair : pairs_at first ops.Eq (codes "a") (table 1 (codes "a")) key ≡ 1
unfolding sort inserted
one_pair = ap (pairs_of first ops.Eq (codes "a") (codes "a") (table 1 (codes "a"))) (current 1 (codes "a"))

no_pair : pairs_at first ops.Eq (codes "b") (table 1 (codes "a")) key ≡ 0
unfolding sort inserted
no_pair = ap (pairs_of first ops.Eq (codes "a") (codes "b") (table 1 (codes "a"))) (current 1 (codes "a"))

-- a suffix goes through each stored term
scanned_pair : pairs_at first ops.Suffix (codes "b") (table 1 (codes "a")) key ≡ 1
unfolding sort inserted
scanned_pair = ap (pairs_of first ops.Suffix (codes "a") (codes "b") (table 1 (codes "a"))) (current 1 (codes "a"))

-- every search goes through the spill
spilled_pair : pairs_at first ops.Eq (codes "b") (table 1 (long 1025)) key ≡ 1
unfolding sort inserted
spilled_pair = ap (pairs_of first ops.Eq (long 1025) (codes "b") (table 1 (long 1025))) (current 1 (long 1025))

-- all keys of a file are read where it lacks an index that is asked for, or where no condition narrows
lacking : reads_all (Indexed first (equals (codes "a")) ∷ []) (Disk (2 ∷ [])) ≡ true
lacking = refl

indexed : reads_all (Indexed first (equals (codes "a")) ∷ []) (Disk (1 ∷ 2 ∷ [])) ≡ false
indexed = refl

lacking_one : reads_all (Indexed first (equals (codes "a")) ∷ Indexed second (equals (codes "b")) ∷ []) (Disk (1 ∷ [])) ≡ true
lacking_one = refl

by_one_key : reads_all (OfKey (codes "k") ∷ Plain 3 (Equals (codes "x")) ∷ []) (Disk []) ≡ false
by_one_key = refl

unnarrowed : reads_all (Plain 3 (Equals (codes "x")) ∷ []) (Disk (1 ∷ [])) ≡ true
unnarrowed = refl

-- maps in memory aren't read
only_files : files_of (record { origin = Memory; holds = table 1 (codes "a") } ∷ on_disk 1 (codes "a") ∷ []) ≡ on_disk 1 (codes "a") ∷ []
only_files = refl
