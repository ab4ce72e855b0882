-- A fault at a node is one of the tree; and the cost of one read after another.
use Rattle.std.proofs.Common.{◌≡◌, ℕ, zero, suc, ◌+◌, ◌-◌, ◌*◌, ◌<◌, ◌≤◌, min, List, length, refl, sym, ◌∙◌, ap, subst, arith, inl, inr, ⊎_elim, Ok}
use Rattle.std.proofs.lemmas.Bool.Decides.{leb_tells}
use Rattle.std.specs.declared.result.Result.{Result}
use Rattle.sasi_types.specs.declared.tree.Pair.{Pair}
use Rattle.sasi_host.specs.declared.name.FileName.{FileName}
use Rattle.sasi_host.specs.declared.fault.ReadFault.{ReadFault}
use Rattle.sasi_host.specs.declared.fault.ReadFault.TheVariants as fault
use Rattle.sasi_host.specs.Names.{Bytes}
use Rattle.sasi_host.specs.View.{View, ReadCost}
use Rattle.sasi_host.proofs.CauseLaws.{reads_on, reads_within}
use Rattle.sasi_host.specs.Disk.{Changes, Same}
use Rattle.sasi_tokentree.specs.Format.{nodes, size, entries_of_node, above}
use Rattle.sasi_tokentree.proofs.Sizes.{part_length, first_above_length}
use Rattle.sasi_tokentree.specs.Heights.{height, bytes_below_root}
use Rattle.sasi_tokentree.proofs.HeightLaws.{none_below_root, more_below_root, one_high, more_high}
use Rattle.sasi_tokentree.specs.Reads.{IsReached, NoFalseNodeDamage, NoFalseLevelDamage, HasLevels}
use Rattle.sasi_tokentree.proofs.AfterRead.{reads_still}
use Rattle.sasi_tokentree.proofs.StoredLevels.{stands_node, stands_above, stands_one}

pub part_size : (entries : List Pair) (node count here : ℕ) → length entries ≡ count → here ≡ min (count - 255 * node) 255 → length (entries_of_node entries node) ≡ here
part_size entries node count here long is = omega (arith, part_length entries node, long, is)

pub no_false_part : (v : View) (file : FileName) (level at count node here : ℕ) (f : ReadFault) → 255 * node < count → here ≡ min (count - 255 * node)
    255 → NoFalseNodeDamage v file level (at + 4088 * node) here f → NoFalseLevelDamage v file level at count f
no_false_part v file level at count node here fault.Failed lt is no_false_damage = tt
no_false_part v file level at count node here fault.OutOfMemory lt is no_false_damage = tt
no_false_part v file level at count node here (fault.Damaged damage) lt is no_false_damage = λ bytes entries reads stands long.
    no_false_damage bytes (entries_of_node entries node) reads (stands_node bytes level at entries node stands (omega (arith, lt, long))) (part_size entries node count here long is)

pub no_false_one : (v : View) (file : FileName) (level at count : ℕ) (f : ReadFault) → count ≤ 255 → NoFalseNodeDamage v file level at count f → NoFalseLevelDamage v file level at count f
no_false_one v file level at count fault.Failed le no_false_damage = tt
no_false_one v file level at count fault.OutOfMemory le no_false_damage = tt
no_false_one v file level at count (fault.Damaged damage) le no_false_damage = λ bytes entries reads stands long. no_false_damage bytes entries reads
    (stands_one bytes level at entries stands (omega (arith, le, long))) long

pub up : (bytes : Bytes) (level at count : ℕ) (entries : List Pair) → 255 < count → length entries ≡ count → HasLevels bytes level at entries →
    HasLevels bytes (level + 1) (at + size count) (above at entries)
up bytes level at count entries many long stands = subst (λ (n : ℕ). HasLevels bytes (level + 1) (at + size n) (above at entries)) long
    (stands_above bytes level at entries stands (omega (arith, many, long)))

pub up_length : (at count : ℕ) (entries : List Pair) → length entries ≡ count → length (above at entries) ≡ nodes count
up_length at count entries long = first_above_length at entries (nodes (length entries)) ∙ ap nodes long

pub no_false_up : (v : View) (file : FileName) (level at count : ℕ) (f : ReadFault) → 255 < count → NoFalseLevelDamage v file (level + 1) (at + size count) (nodes count) f → NoFalseLevelDamage v file level at count f
no_false_up v file level at count fault.Failed many no_false_damage = tt
no_false_up v file level at count fault.OutOfMemory many no_false_damage = tt
no_false_up v file level at count (fault.Damaged damage) many no_false_damage = λ bytes entries reads stands long.
    no_false_damage bytes (above at entries) reads (up bytes level at count entries many long stands) (up_length at count entries long)

pub no_false_before : (a b : View) (was now : FileName) (level at count : ℕ) (f : ReadFault) → Changes Same a b → now ≡ was → NoFalseLevelDamage b now level at count f → NoFalseLevelDamage a was level at count f
no_false_before a b was now level at count fault.Failed change same no_false_damage = tt
no_false_before a b was now level at count fault.OutOfMemory change same no_false_damage = tt
no_false_before a b was now level at count (fault.Damaged damage) change same no_false_damage = λ bytes entries reads. no_false_damage bytes entries (reads_still a b was now bytes change same reads)

-- ---- reads

pub one_level_reads : (most count : ℕ) → 0 < count → count ≤ most → 2 ≤ 2 * height most count
one_level_reads zero count some le = absurd (omega arith)
one_level_reads (suc most) count some le = ⊎_elim (λ one. omega (arith, one_high most count one.1)) (λ more. omega (arith, more_high most count more.1)) (leb_tells count 255)

-- the levels above and one node more
pub more_level_reads : {S T : Type 0} (a b c : View) (most count : ℕ) (first : S) (second : Result T ReadFault) → 255 < count → count ≤ most
    → ((bound : ℕ) → nodes count ≤ bound → ReadCost (2 * height bound (nodes count)) a b (Ok first)) → ReadCost 2 b c second → ReadCost (2 * height most count) a c second
more_level_reads a b c zero count first second many le one two = absurd (omega arith)
more_level_reads a b c (suc most) count first second many le one two =
    reads_on a b c (2 * height most (nodes count)) 2 (2 * height (suc most) count) first second (omega (arith, more_high most count many)) (one most (omega (arith, many, le))) two

pub above_reads : {S : Type 0} (a b : View) (most count : ℕ) (first : Result S ReadFault) → 255 < count → count ≤ most
    → ((bound : ℕ) → nodes count ≤ bound → ReadCost (2 * height bound (nodes count)) a b first) → ReadCost (2 * height most count) a b first
above_reads a b zero count first many le one = absurd (omega arith)
above_reads a b (suc most) count first many le one = reads_within a b (2 * height most (nodes count)) (2 * height (suc most) count) first
    (omega (arith, more_high most count many)) (one most (omega (arith, many, le)))

-- ---- the bytes before the last level

pub below_root_none : (most count : ℕ) → count ≤ 255 → 0 ≡ bytes_below_root most count
unfolding bytes_below_root
below_root_none zero count le = refl
below_root_none (suc most) count le = sym (none_below_root most count le)

pub below_root_more : (most count here above : ℕ) → 255 < count → count ≤ most → here ≡ size count → ((bound : ℕ) → nodes count ≤ bound → above ≡ bytes_below_root bound (nodes count)) → here + above ≡ bytes_below_root most count
below_root_more zero count here above many le is others = absurd (omega arith)
below_root_more (suc most) count here above many le is others = omega (arith, is, others most (omega (arith, many, le)), more_below_root most count many)

-- ---- how far the file reaches behind a search

-- in a level of one node, the node was read
pub reached_in_one : (bytes : Bytes) (at count index : ℕ) → count ≤ 255 → at + (8 + 16 * count) ≤ length bytes → IsReached bytes at count index
reached_in_one bytes at count index one whole lt = inr (omega (arith, lt, one, whole))

-- else one of its nodes was
pub reached_in_node : (bytes : Bytes) (at count node here below : ℕ) → 255 < count → below ≤ here → here ≡ min (count - 255 * node) 255 → at + 4088 * node + (8 + 16 * here) ≤
    length bytes → IsReached bytes at count (255 * node + below)
reached_in_node bytes at count node here below many within is whole lt = ⊎_elim
    (λ full. inl (many, omega (arith, full.1, within, is)))
    (λ less. inr (omega (arith, lt, is, whole, less.1)))
    (leb_tells 255 below)

-- or none, and then it is the first entry
pub reached_none : (bytes : Bytes) (at count : ℕ) → 255 < count → IsReached bytes at count 0
reached_none bytes at count many lt = inl (many, refl)
