-- The faults of a block's entries.
use Rattle.std.proofs.Common.{◌≡◌, ◌≢◌, ℕ, Bool, ◌+◌, ◌*◌, ◌≤◌, ◌-◌, length, take, drop, min, false, sym, ap, ◌∙◌, subst, arith, length-drop, inl, inr}
use Rattle.std.proofs.lemmas.List.{drop_min, take_rest}
use Rattle.sasi_fields.specs.Reading.{Reading}
use Rattle.std.specs.Prelude.{◌⊎◌, ◌<◌, Some}
use Rattle.sasi_types.specs.declared.tree.TreeRef.{TreeRef}
use Rattle.sasi_tokentree.specs.Damages.{is_tree_ref}
use Rattle.sasi_host.specs.Names.{Bytes}
use Rattle.sasi_host.specs.Damages.{seen_bytes}
use Rattle.sasi_host.specs.declared.damage.FormatRule.{FormatRule}
use Rattle.sasi_host.specs.declared.damage.FormatRule.TheVariants as rule
use Rattle.sasi_formats.specs.Formats.{Format}
use Rattle.sasi_formats.specs.Reader.{Corruption, Failed, Got, Outcome, outcome_as, read, start}
use Rattle.sasi_formats.specs.Reader as reader
use Rattle.sasi_formats.specs.Failures.{Fails}
use Rattle.sasi_formats.specs.Gives.{FailsWith}
use Rattle.sasi_formats.specs.declared.fault.FormatFault.{FormatFault}
use Rattle.sasi_formats.specs.declared.fault.FormatFault.TheVariants as fault
use Rattle.sasi_formats.proofs.Agreement.{fails_exactly, reads_exactly}
use Rattle.sasi_formats.proofs.Encoding.{fits}
use Rattle.sasi_formats.proofs.Offsets.{fails_within}
use Rattle.sasi_termblocks.specs.declared.fault.BlockFault.{BlockFault}
use Rattle.sasi_termblocks.specs.declared.fault.BlockFault.TheVariants.{OutOfMemory, Broken}
use Rattle.sasi_termblocks.specs.Entries.{is_below, term, term_entry}
use Rattle.sasi_termblocks.specs.declared.term_entry.TermEntry.{TermEntry}
use Rattle.sasi_termblocks.specs.Windows.{BreaksEntry, BreaksNext, BreaksTree, HasEntry, HasSize, IsFault, bytes_in, count_in, offset_in}
use Rattle.sasi_termblocks.specs.Windows.BreaksEntry.{offset, field}
use Rattle.sasi_termblocks.specs.BlockFaults.{BreaksUpTo, IsBrokenAt, IsMisplaced, IsMoved, IsNear, IsPlaced, PointsTo}
use Rattle.sasi_termblocks.specs.Descents.{pointer_to}
use Rattle.sasi_termblocks.proofs.EntryLaws.{entry_term as short_entry}

-- the offset of a fault that a format tells lies within the block
pub entry_placed : {A : Type 0} (format : Format A) (block : Bytes) (index : ℕ) (f : FormatFault) → length block ≡ 4096 → FailsWith (read format (start (bytes_in block index))) f → IsPlaced f
unfolding bytes_in
entry_placed format block index fault.OutOfMemory long fails = tt
entry_placed format block index fault.Short long fails = tt
entry_placed format block index fault.Long long fails = tt
entry_placed format block index (fault.Broken broken) long fails =
    let s = start (bytes_in block index) in
    let f = reader.Broken broken.rule broken.at (seen_bytes broken.seen) in
    let within : broken.at ≤ length (bytes_in block index) = fails_within format s f ((fails_exactly format s f).0 fails) in
    omega (arith, within, length-drop (offset_in block index) block, long)

-- the moved fault is that of the entry
pub entry_moved : {A : Type 0} (format : Format A) (block : Bytes) (index : ℕ) (f : FormatFault) (now : BlockFault) → FailsWith (read format (start (bytes_in block index))) f → IsMoved block index f now → IsNear now
    → IsFault (BreaksEntry format block index) now
entry_moved format block index f OutOfMemory fails moved near = tt
entry_moved format block index fault.OutOfMemory (Broken now) fails moved near = absurd (no_broken now moved)
  where
    no_broken : (b : _) → Broken b ≡ OutOfMemory → ⊥
    no_broken b is = cc
entry_moved format block index fault.Short (Broken now) fails moved near =
    (offset moved.0 moved.1 moved.2 (inl ((fails_exactly format (start (bytes_in block index)) reader.Short).0 fails)), near)
entry_moved format block index fault.Long (Broken now) fails moved near =
    (offset moved.0 moved.1 moved.2 (inr ((fails_exactly format (start (bytes_in block index)) reader.Long).0 fails)), near)
entry_moved format block index (fault.Broken broken) (Broken now) fails moved near =
    let s = start (bytes_in block index) in
    let is = (fails_exactly format s (reader.Broken broken.rule broken.at (seen_bytes broken.seen))).0 fails in (
      field broken.at moved.1
          (subst (λ (r : FormatRule). Fails format s (reader.Broken r broken.at (seen_bytes now.seen))) (sym moved.0)
          (subst (λ (l : Bytes). Fails format s (reader.Broken broken.rule broken.at l)) (sym moved.2) is)),
      near,
    )

-- ---- a broken term breaks the entry

entry_term : (s : _) (f : Corruption) → Fails term s f → Fails term_entry s f
entry_term s f h = inl (inl h)

pointer_term : (low high : ℕ) (s : _) (f : Corruption) → Fails term s f → Fails (pointer_to low high) s f
pointer_term low high s f h = inl h

either : {A B C D : Type 0} → (A → C) → (B → D) → A ⊎ B → C ⊎ D
either f g (inl a) = inl (f a)
either f g (inr b) = inr (g b)

pub entry_breaks : (block : Bytes) (index : ℕ) (broken : FormatRule) (at : ℕ) (seen : Bytes) → BreaksEntry term block index broken at seen → BreaksEntry term_entry block index broken at seen
entry_breaks block index broken at seen (offset r a s fails) = offset r a s (either (entry_term (start (bytes_in block index)) reader.Short) (entry_term (start (bytes_in block index)) reader.Long) fails)
entry_breaks block index broken at seen (field inner a fails) = field inner a (entry_term (start (bytes_in block index)) (reader.Broken broken inner seen) fails)

pub pointer_breaks : (low high : ℕ) (block : Bytes) (index : ℕ) (broken : FormatRule) (at : ℕ) (seen : Bytes) → BreaksEntry term block index broken at seen → BreaksEntry (pointer_to low high) block index broken at seen
pointer_breaks low high block index broken at seen (offset r a s fails) =
    offset r a s (either (pointer_term low high (start (bytes_in block index)) reader.Short) (pointer_term low high (start (bytes_in block index)) reader.Long) fails)
pointer_breaks low high block index broken at seen (field inner a fails) = field inner a (pointer_term low high (start (bytes_in block index)) (reader.Broken broken inner seen) fails)

-- ---- what a reader before an entry gives

pub got_entry : {A : Type 0} (format : Format A) (block : Bytes) (index : ℕ) (s t : Reading) (value : A) → s ≡ start (bytes_in block index) → read format s ≡ Got value t → HasEntry format block index value
got_entry format block index s t value is got = (t, subst (λ (r : Reading). read format r ≡ Got value t) is got)

pub fault_placed : {A : Type 0} (format : Format A) (block : Bytes) (index : ℕ) (s : Reading) (f : FormatFault) → length block ≡ 4096 → s ≡ start (bytes_in block index) → FailsWith (read format s) f → IsPlaced f
fault_placed format block index s f long is fails = entry_placed format block index f long (subst (λ (r : Reading). FailsWith (read format r) f) is fails)

pub fault_moved : {A : Type 0} (format : Format A) (block : Bytes) (index : ℕ) (s : Reading) (f : FormatFault) (now : BlockFault) → s ≡ start (bytes_in block index) → FailsWith (read format s) f → IsMoved block index f now → IsNear now
    → IsFault (BreaksEntry format block index) now
fault_moved format block index s f now is fails moved near = entry_moved format block index f now (subst (λ (r : Reading). FailsWith (read format r) f) is fails) moved near

-- the offset of a pointer alone
pointer_got : (o : Outcome (Bytes × ℕ)) (place : ℕ) (t : Reading) → outcome_as (λ both. both.1) o ≡ Got place t → (x : Bytes) × (o ≡ Got (x, place) t)
pointer_got (Got both u) place t is =
    let value : both.1 ≡ place = cc in
    let behind : u ≡ t = cc in
    (both.0, ap (λ (n : ℕ). Got (both.0, n) u) value ∙ ap (λ (r : Reading). Got (both.0, place) r) behind)
pointer_got (Failed f) place t is = absurd cc

as_fails : (o : Outcome (Bytes × ℕ)) (f : Corruption) → outcome_as (λ both. both.1) o ≡ Failed f → o ≡ Failed f
as_fails (Got both u) f is = absurd cc
as_fails (Failed g) f is = let same : g ≡ f = cc in ap (λ (x : Corruption). Failed x) same

pub pointer_fails : (o : Outcome (Bytes × ℕ)) (f : FormatFault) → FailsWith (outcome_as (λ both. both.1) o) f → FailsWith o f
pointer_fails o fault.OutOfMemory fails = tt
pointer_fails o fault.Short fails = as_fails o reader.Short fails
pointer_fails o fault.Long fails = as_fails o reader.Long fails
pointer_fails o (fault.Broken b) fails = as_fails o (reader.Broken b.rule b.at (seen_bytes b.seen)) fails

pub points_to : (low high : ℕ) (block : Bytes) (index : ℕ) (s t : Reading) (place : ℕ) → s ≡ start (bytes_in block index) → outcome_as (λ both. both.1) (read (pointer_to low high) s) ≡ Got place t → PointsTo low high block index place
points_to low high block index s t place is got =
    let both = pointer_got (read (pointer_to low high) s) place t got in
    (both.0, got_entry (pointer_to low high) block index s t (both.0, place) is both.1)

-- the bytes from an offset on, as a slice has them
pub window_cut : (block : Bytes) (n m : ℕ) → length block ≡ 4096 → m ≡ min n 4096 → take (length block - m) (drop m block) ≡ drop n block
window_cut block n m long is =
    ap (λ (k : ℕ). take (length block - k) (drop k block)) (is ∙ ap (λ (k : ℕ). min n k) (sym long)) ∙ take_rest block (min n (length block)) ∙ drop_min n block

pub reader_is : (block : Bytes) (index n m : ℕ) → length block ≡ 4096 → n ≡ offset_in block index → m ≡ min n 4096 → take (length block - m) (drop m block) ≡ bytes_in block index
unfolding bytes_in
reader_is block index n m long n_is m_is = window_cut block n m long m_is ∙ ap (λ (k : ℕ). drop k block) n_is

-- two entries that don't rise
pub order_fault : (block : Bytes) (index last : ℕ) (before after : Bytes) (at : ℕ) (seen : Bytes) (now : BlockFault) → index ≡ last + 1 → HasEntry term block last before → HasEntry term block index after → is_below before after ≡ false
    → at ≡ offset_in block index → seen ≡ take 8 (bytes_in block index) → IsBrokenAt rule.Order at seen now → IsNear now → IsFault (BreaksUpTo block index) now
order_fault block index last before after at seen OutOfMemory is has_before has_after disorder at_is seen_is broken near = tt
order_fault block index last before after at seen (Broken b) is has_before has_after disorder at_is seen_is broken near = (
  inr (
    last,
    is,
    record {
      before = before;
      after = after;
      has_before = has_before;
      has_after = subst (λ (n : ℕ). HasEntry term block n after) is has_after;
      disorder = disorder;
      rule_is = broken.0;
      at_is = broken.1 ∙ at_is ∙ ap (λ (n : ℕ). offset_in block n) is;
      seen_is = broken.2 ∙ seen_is ∙ ap (λ (n : ℕ). take 8 (bytes_in block n)) is;
    },
  ),
  near,
)

-- an entry where the way to it tells otherwise
pub misplaced_fault : (test : Bool) (index : ℕ) (sought block entry : Bytes) (now : BlockFault) → HasEntry term block index entry → is_below entry sought ≡ test → IsBrokenAt rule.Order (offset_in block index) (take 8 (bytes_in block index)) now
    → IsNear now → IsFault (IsMisplaced test index sought block) now
misplaced_fault test index sought block entry OutOfMemory has compared broken near = tt
misplaced_fault test index sought block entry (Broken b) has compared broken near =
    (record { entry = entry; has = has; compared = compared; rule_is = broken.0; at_is = broken.1; seen_is = broken.2 }, near)

pub order_at : (block : Bytes) (index at : ℕ) (seen : Bytes) (now : BlockFault) → at ≡ offset_in block index → seen ≡ take 8 (bytes_in block index) → IsBrokenAt rule.Order at seen now
    → IsBrokenAt rule.Order (offset_in block index) (take 8 (bytes_in block index)) now
order_at block index at seen OutOfMemory at_is seen_is broken = broken
order_at block index at seen (Broken b) at_is seen_is broken = (broken.0, broken.1 ∙ at_is, broken.2 ∙ seen_is)

-- ---- an entry that is passed over

abbrev no_value : TermEntry → Unit {0}
no_value entry = tt

skipped : (o : Outcome TermEntry) (t : Reading) → outcome_as no_value o ≡ Got tt t → (entry : TermEntry) × (o ≡ Got entry t)
skipped (Got entry u) t is = let behind : u ≡ t = cc in (entry, ap (λ (r : Reading). Got entry r) behind)
skipped (Failed f) t is = absurd cc

pub size_got : (block : Bytes) (index : ℕ) (s t : Reading) (size : ℕ) → s ≡ start (bytes_in block index) → outcome_as no_value (read term_entry s) ≡ Got tt t → size ≡ length t.done → HasSize block index size
size_got block index s t size is got size_is = let both = skipped (read term_entry s) t got in (both.0, t, subst (λ (r : Reading). read term_entry r ≡ Got both.0 t) is both.1, size_is)

skip_failed : (o : Outcome TermEntry) (f : Corruption) → outcome_as no_value o ≡ Failed f → o ≡ Failed f
skip_failed (Got entry u) f is = absurd cc
skip_failed (Failed g) f is = let same : g ≡ f = cc in ap (λ (x : Corruption). Failed x) same

pub skip_fails : (o : Outcome TermEntry) (f : FormatFault) → FailsWith (outcome_as no_value o) f → FailsWith o f
skip_fails o fault.OutOfMemory fails = tt
skip_fails o fault.Short fails = skip_failed o reader.Short fails
skip_fails o fault.Long fails = skip_failed o reader.Long fails
skip_fails o (fault.Broken b) fails = skip_failed o (reader.Broken b.rule b.at (seen_bytes b.seen)) fails

-- an entry that stands elsewhere than where the one before it ends
pub next_fault : (block : Bytes) (index size : ℕ) (now : BlockFault) → HasSize block index size → offset_in block (index + 1) - offset_in block index ≢ size
    → IsBrokenAt rule.Number (2 + 2 * (index + 1)) (take 2 (drop (2 + 2 * (index + 1)) block)) now → IsNear now → IsFault (BreaksNext block index) now
next_fault block index size OutOfMemory has wrong broken near = tt
next_fault block index size (Broken b) has wrong broken near = (record { size = size; has = has; wrong = wrong; rule_is = broken.0; at_is = broken.1; seen_is = broken.2 }, near)

-- ---- an entry that refers to no tree

-- the term of an entry is short
pub term_of_entry : (block : Bytes) (index : ℕ) (entry : TermEntry) → HasEntry term_entry block index entry → length entry.term ≤ 1024
term_of_entry block index entry has =
    let next = (reads_exactly term_entry (start (bytes_in block index)) has.0 entry).0 has.1 in
    short_entry entry (fits term_entry entry next.field next.is)

pub root_at : (block : Bytes) (at_read at_is cut : ℕ) (now : BlockFault) → length block ≡ 4096 → at_read ≡ at_is → cut ≡ min at_read 4096 → IsBrokenAt rule.Place at_read (take 8 (take (length block - cut) (drop cut block))) now
    → IsBrokenAt rule.Place at_is (take 8 (drop at_is block)) now
root_at block at_read at_is cut OutOfMemory long same cut_is broken = broken
root_at block at_read at_is cut (Broken b) long same cut_is broken =
    (broken.0, broken.1 ∙ same, broken.2 ∙ ap (λ (l : Bytes). take 8 l) (window_cut block at_read cut long cut_is) ∙ ap (λ (n : ℕ). take 8 (drop n block)) same)

pub tree_fault : (first index : ℕ) (block : Bytes) (entry : TermEntry) (tree : TreeRef) (now : BlockFault) → index < count_in block → HasEntry term_entry block index entry → entry.list ≡ Some tree → is_tree_ref 16 first tree ≡ false
    → IsBrokenAt rule.Place (offset_in block index + (3 + length entry.term)) (take 8 (drop (offset_in block index + (3 + length entry.term)) block)) now → IsNear now → IsFault (BreaksTree first index block) now
tree_fault first index block entry tree OutOfMemory within has list wrong broken near = tt
tree_fault first index block entry tree (Broken b) within has list wrong broken near =
    (record { entry = entry; tree = tree; within = within; has = has; list = list; wrong = wrong; rule_is = broken.0; at_is = broken.1; seen_is = broken.2 }, near)
