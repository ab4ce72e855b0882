-- The corruption of a block is that of the file.
use Rattle.std.proofs.Common.{◌≡◌, ℕ, ◌+◌, ◌*◌, ◌/◌, ◌<◌, ◌≤◌, ◌^◌, length, take, drop, [], ◌∷◌, true, Option, None, Some, ⊎_elim, sym, ap, ◌∙◌, subst, arith, inl, inr, rules}
use Rattle.std.specs.Prelude.{◌⊎◌, Bool, false, if◌then◌else◌, nat_lt}
use Rattle.std.proofs.lemmas.Bool.Decides.{leb_tells}
use Rattle.std.proofs.Common.{length-drop}
use Rattle.std.proofs.lemmas.List.{length-take, take-take}
use Rattle.sasi_host.proofs.Offsets.{same_at, window_at}
use Rattle.sasi_host.specs.declared.name.FileName.{FileName}
use Rattle.sasi_host.specs.declared.damage.Damage.{Damage}
use Rattle.sasi_host.specs.declared.damage.FormatRule.{FormatRule}
use Rattle.sasi_host.specs.declared.damage.Seen.{Seen}
use Rattle.sasi_host.specs.declared.fault.ReadFault.{ReadFault}
use Rattle.sasi_host.specs.declared.fault.ReadFault.TheVariants as read
use Rattle.sasi_host.specs.Names.{Bytes}
use Rattle.sasi_host.specs.Damages.{DamageShown, HasAt, ShowsEnd, TellsSize, seen_bytes}
use Rattle.sasi_host.specs.View.{View, contents}
use Rattle.sasi_host.specs.Disk.{Changes, Same}
use Rattle.sasi_host.proofs.DamageLaws.{end_shown, shown_as, shown_before}
use Rattle.sasi_termblocks.specs.declared.fault.BlockFault.{BlockFault}
use Rattle.sasi_termblocks.specs.declared.fault.BlockFault.TheVariants.{OutOfMemory, Broken}
use Rattle.sasi_termblocks.specs.declared.block_ref.BlockRef.{BlockRef}
use Rattle.sasi_termblocks.specs.declared.list_form.ListForm.{ListForm}
use Rattle.sasi_termblocks.specs.Entries.{is_below, term}
use Rattle.sasi_termblocks.specs.Windows.{IsFault, count_in}
use Rattle.sasi_termblocks.specs.BlockFaults.{BreaksEnd, BreaksFirstPointer, BreaksLeast, BreaksSome, BreaksUpTo, IsMisplaced, IsNear}
use Rattle.sasi_termblocks.specs.Damages.{BreaksGiven, BreaksPointers, BreaksSplit, BreaksTerms, IsLifted, Leads, LeadsFor, LeadsTo, ShowsBlock, ShowsBlocks, ShowsGiven}
use Rattle.sasi_termblocks.specs.Damages.ShowsBlock.{ends, breaks}
use Rattle.sasi_termblocks.specs.Damages.ShowsBlocks.{in_terms, in_pointers, misled, of_other_form, ends_early, behind_terms, led_too_far, led_too_near}
use Rattle.sasi_termblocks.specs.declared.term_entry.TermEntry.{TermEntry}
use Rattle.sasi_termblocks.specs.Descents.{high_page, low_page}
use Rattle.sasi_termblocks.specs.Scans.{EndsBelow, EndsPast, GivesEntry, IsPast, ReadsHere}
use Rattle.sasi_termblocks.proofs.Faults.{entry_breaks, pointer_breaks}

-- a fault of one kind is one of a wider kind
pub fault_as : (Some_ All_ : FormatRule → ℕ → Bytes → Type 0) (f : BlockFault) → ((r : FormatRule) (at : ℕ) (seen : Bytes) → Some_ r at seen → All_ r at seen) → IsFault Some_ f → IsFault All_ f
fault_as Some_ All_ OutOfMemory wider is = tt
fault_as Some_ All_ (Broken b) wider is = (wider b.rule b.at (seen_bytes b.seen) is.0, is.1)

pub fault_near : (Breaks : FormatRule → ℕ → Bytes → Type 0) (f : BlockFault) → IsFault Breaks f → IsNear f
fault_near Breaks OutOfMemory is = tt
fault_near Breaks (Broken b) is = is.1

-- what breaks some terms breaks a term block, or a pointer block
pub terms_broken : (block : Bytes) (count : ℕ) (r : FormatRule) (at : ℕ) (seen : Bytes) → count ≡ count_in block → BreaksSome term block count r at seen → BreaksTerms block r at seen
terms_broken block count r at seen is some = inr (inl (some.0, omega (arith, some.1, is), entry_breaks block some.0 r at seen some.2))

pub pointers_broken : (low high : ℕ) (block : Bytes) (count : ℕ) (r : FormatRule) (at : ℕ) (seen : Bytes) → count ≡ count_in block → BreaksSome term block count r at seen → BreaksPointers low high block r at seen
pointers_broken low high block count r at seen is some = inr (some.0, omega (arith, some.1, is), pointer_breaks low high block some.0 r at seen some.2)

pub order_broken : (block : Bytes) (index : ℕ) (r : FormatRule) (at : ℕ) (seen : Bytes) → index < count_in block → BreaksUpTo block index r at seen → BreaksTerms block r at seen
order_broken block index r at seen lt (inl some) = inr (inl (some.0, omega (arith, some.1, lt), entry_breaks block some.0 r at seen some.2))
order_broken block index r at seen lt (inr two) = inr (inr (inl (two.0, omega (arith, two.1, lt), two.2)))

pub least_broken : (first : ℕ) (form : ListForm) (index : ℕ) (least block : Bytes) (r : FormatRule) (at : ℕ) (seen : Bytes) → index < count_in block → BreaksLeast index least block r at seen → BreaksGiven first form index least block r at seen
least_broken first form index least block r at seen lt (inl broken) = inl (inr (inl (index, lt, entry_breaks block index r at seen broken)))
least_broken first form index least block r at seen lt (inr misplaced) = inr (inl misplaced)

pub end_broken : (block : Bytes) (index : ℕ) (r : FormatRule) (at : ℕ) (seen : Bytes) → index < count_in block → BreaksEnd block index r at seen → BreaksTerms block r at seen
end_broken block index r at seen lt (inl entry) = inr (inl (index, lt, entry))
end_broken block index r at seen lt (inr next) = inr (inr (inr (index, next.0, next.1)))

-- ---- in the file

-- a fault of a block on a page of the file
pub lifted_shown : (Breaks : Bytes → FormatRule → ℕ → Bytes → Type 0) (v : View) (file named : FileName) (page : ℕ) (block : Bytes) (f : BlockFault) (result : ReadFault) → named ≡ file → IsFault (Breaks block) f
    → IsLifted named (4096 * page) f result → length block ≡ 4096 → ((bytes : Bytes) → contents v file ≡ Some bytes → HasAt bytes (4096 * page) block) → DamageShown v file (ShowsBlock Breaks file page) result
lifted_shown Breaks v file named page block OutOfMemory result same is lifted long stands = subst (λ (f : ReadFault). DamageShown v file (ShowsBlock Breaks file page) f) (sym lifted) tt
lifted_shown Breaks v file named page block (Broken b) (read.Damaged damage) same is lifted long stands = λ bytes there.
    breaks block b.at (lifted.0 ∙ same) (stands bytes there) long lifted.1
    (subst (λ (s : Seen). Breaks block damage.rule b.at (seen_bytes s)) (sym lifted.3)
    (subst (λ (r : FormatRule). Breaks block r b.at (seen_bytes b.seen)) (sym lifted.2) is.0))
lifted_shown Breaks v file named page block (Broken b) read.Failed same is lifted long stands = tt
lifted_shown Breaks v file named page block (Broken b) read.OutOfMemory same is lifted long stands = tt

-- a file that ends within it
pub end_of_block : (Breaks : Bytes → FormatRule → ℕ → Bytes → Type 0) (v : View) (file : FileName) (page : ℕ) (f : ReadFault) → DamageShown v file (ShowsEnd (4096 * page + 4096) file) f → DamageShown v file (ShowsBlock Breaks file page) f
end_of_block Breaks v file page f shown = shown_as (ShowsEnd (4096 * page + 4096) file) (ShowsBlock Breaks file page) v file f (λ bytes damage is early. ends early) shown

-- what was shown of the file after calls that leave it, it showed before
pub shown_still : (Shows : FileName → Bytes → Damage → Type 0) (a b : View) (was now : FileName) (f : ReadFault) → Changes Same a b → now ≡ was → DamageShown b now (Shows now) f → DamageShown a was (Shows was) f
shown_still Shows a b was now f change same shown = subst (λ (name : FileName). DamageShown a name (Shows name) f) same (shown_before (Shows now) a b now f change shown)

-- ---- a page that was loaded

pub page_stands : (bytes window : Bytes) (page : ℕ) → window ≡ take 4096 (drop (4096 * page) bytes) → 4096 ≤ length window → HasAt bytes (4096 * page) (take 4096 window)
page_stands bytes window page is le =
    let all : take 4096 window ≡ take 4096 (drop (4096 * page) bytes) = ap (λ (l : Bytes). take 4096 l) is ∙ take-take 4096 4096 (drop (4096 * page) bytes) (omega arith) in
    let long : 4096 ≤ length (drop (4096 * page) bytes) = omega (arith, le, ap (λ (l : Bytes). length l) is, length-take 4096 (drop (4096 * page) bytes)) in
    window_at bytes (take 4096 window) (4096 * page) 4096 all (omega (arith, long, length-drop (4096 * page) bytes))

pub page_short : (bytes window : Bytes) (page : ℕ) → window ≡ take 4096 (drop (4096 * page) bytes) → length window < 4096 → length bytes < 4096 * page + 4096
page_short bytes window page is lt =
    omega (arith, lt, ap (λ (l : Bytes). length l) is, length-take 4096 (drop (4096 * page) bytes), length-drop (4096 * page) bytes)

-- ---- the whole

-- blocks that no file can have
pub too_long_shown : (v : View) (file : FileName) (r : BlockRef) (form : ListForm) (f : ReadFault) → ((bytes : Bytes) → contents v file ≡ Some bytes → length bytes ≤ 2 ^ 62) → (2 ^ 62 < r.first) ⊎ (2 ^ 50 < r.blocks) → DamageShown v file (TellsSize file) f
    → DamageShown v file (ShowsBlocks file r form) f
too_long_shown v file r form f most long told =
    shown_as (ShowsEnd (r.first + 4096 * r.blocks) file) (ShowsBlocks file r form) v file f (λ bytes damage is early. ends_early early)
    (end_shown v file (r.first + 4096 * r.blocks) f (λ bytes is. let le = most bytes is in ⊎_elim (λ a. omega (arith, a, le)) (λ b. omega (arith, b, le)) long) told)

pub terms_shown : (v : View) (file : FileName) (r : BlockRef) (form : ListForm) (page : ℕ) (f : ReadFault) → r.first / 4096 ≤ page → page < r.first / 4096 + r.blocks → DamageShown v file (ShowsBlock BreaksTerms file page) f → DamageShown v file (ShowsBlocks file r form) f
terms_shown v file r form page f low high shown = shown_as (ShowsBlock BreaksTerms file page) (ShowsBlocks file r form) v file f (λ bytes damage is block. in_terms page low high block) shown

pub pointers_shown : (v : View) (file : FileName) (r : BlockRef) (form : ListForm) (level page : ℕ) (f : ReadFault) → 0 < level → ((bytes : Bytes) → contents v file ≡ Some bytes → Leads bytes r level page)
    → DamageShown v file (ShowsBlock (BreaksPointers (low_page r level) (high_page r level page)) file page) f → DamageShown v file (ShowsBlocks file r form) f
pointers_shown v file r form level page f some leads shown =
    shown_as (ShowsBlock (BreaksPointers (low_page r level) (high_page r level page)) file page) (ShowsBlocks file r form) v file f (λ bytes damage is block. in_pointers level page some (leads bytes is) block) shown

-- the first pointer block
pub behind_shown : (v : View) (file : FileName) (r : BlockRef) (form : ListForm) (f : ReadFault) → 0 < r.levels → DamageShown v file (ShowsBlock (BreaksFirstPointer (r.first / 4096)) file (r.first / 4096 + r.blocks)) f → DamageShown v file (ShowsBlocks file r form) f
behind_shown v file r form f some shown =
    shown_as (ShowsBlock (BreaksFirstPointer (r.first / 4096)) file (r.first / 4096 + r.blocks)) (ShowsBlocks file r form) v file f (λ bytes damage is block. behind_terms some block) shown

-- a block to which the pointers lead
split_shows : (file : FileName) (r : BlockRef) (form : ListForm) (sought : Bytes) (page : ℕ) (bytes : Bytes) (damage : Damage) → r.first / 4096 ≤ page → page < r.first / 4096 + r.blocks → LeadsFor bytes r sought 0 page
    → ShowsBlock (BreaksSplit (r.first / 4096) page sought) file page bytes damage → ShowsBlocks file r form bytes damage
split_shows file r form sought page bytes damage low high leads (ends early) = in_terms page low high (ends early)
split_shows file r form sought page bytes damage low high leads (breaks window at named stands long at_is (inl broken)) = in_terms page low high (breaks window at named stands long at_is broken)
split_shows file r form sought page bytes damage low high leads (breaks window at named stands long at_is (inr late)) = led_too_far sought page leads late.0 (breaks window at named stands long at_is late.1)

pub split_shown : (v : View) (file : FileName) (r : BlockRef) (form : ListForm) (sought : Bytes) (page : ℕ) (f : ReadFault) → r.first / 4096 ≤ page → page < r.first / 4096 + r.blocks → ((bytes : Bytes) → contents v file ≡ Some bytes → LeadsFor bytes r sought 0 page)
    → DamageShown v file (ShowsBlock (BreaksSplit (r.first / 4096) page sought) file page) f → DamageShown v file (ShowsBlocks file r form) f
split_shown v file r form sought page f low high leads shown =
    shown_as (ShowsBlock (BreaksSplit (r.first / 4096) page sought) file page) (ShowsBlocks file r form) v file f (λ bytes damage is block. split_shows file r form sought page bytes damage low high (leads bytes is) block) shown

-- a block of which an entry is given
given_shows : (file : FileName) (r : BlockRef) (form : ListForm) (page index : ℕ) (least bytes : Bytes) (damage : Damage) → r.first / 4096 ≤ page → page < r.first / 4096 + r.blocks → ShowsBlock (BreaksGiven r.first form index least) file page bytes damage
    → ShowsGiven file r form page index least bytes damage
given_shows file r form page index least bytes damage low high (ends early) = inl (in_terms page low high (ends early))
given_shows file r form page index least bytes damage low high (breaks window at named stands long at_is (inl broken)) = inl (in_terms page low high (breaks window at named stands long at_is broken))
given_shows file r form page index least bytes damage low high (breaks window at named stands long at_is (inr (inl early))) = inr (high, breaks window at named stands long at_is early)
given_shows file r form page index least bytes damage low high (breaks window at named stands long at_is (inr (inr (inl wrong)))) = inl (misled page index low high (breaks window at named stands long at_is wrong))
given_shows file r form page index least bytes damage low high (breaks window at named stands long at_is (inr (inr (inr other)))) = inl (of_other_form page index low high (breaks window at named stands long at_is other))

pub given_shown : (v : View) (file : FileName) (r : BlockRef) (form : ListForm) (page index : ℕ) (least : Bytes) (f : ReadFault) → r.first / 4096 ≤ page → page < r.first / 4096 + r.blocks → DamageShown v file (ShowsBlock (BreaksGiven r.first form index least) file page) f
    → DamageShown v file (ShowsGiven file r form page index least) f
given_shown v file r form page index least f low high shown =
    shown_as (ShowsBlock (BreaksGiven r.first form index least) file page) (ShowsGiven file r form page index least) v file f (λ bytes damage is block. given_shows file r form page index least bytes damage low high block) shown

pub given_all : (v : View) (file : FileName) (r : BlockRef) (form : ListForm) (page index : ℕ) (least : Bytes) (f : ReadFault) → DamageShown v file (ShowsBlocks file r form) f → DamageShown v file (ShowsGiven file r form page index least) f
given_all v file r form page index least f shown = shown_as (ShowsBlocks file r form) (ShowsGiven file r form page index least) v file f (λ bytes damage is all. inl all) shown

-- where the pointers lead to it
pub found_shown : (v : View) (file : FileName) (r : BlockRef) (form : ListForm) (page index : ℕ) (sought : Bytes) (f : ReadFault) → ((bytes : Bytes) → contents v file ≡ Some bytes → LeadsTo bytes r sought page index)
    → DamageShown v file (ShowsGiven file r form page index sought) f → DamageShown v file (ShowsBlocks file r form) f
found_shown v file r form page index sought f leads shown =
    shown_as (ShowsGiven file r form page index sought) (ShowsBlocks file r form) v file f (λ bytes damage is shows. ⊎_elim (λ all. all) (λ early. led_too_near sought page index (leads bytes is) early.0 early.1) shows) shown

-- or where the entry needs to be above none
none_below : (t : Bytes) → is_below t [] ≡ true → ⊥
none_below [] is = absurd cc
none_below (b ∷ others) is = absurd cc

next_block : (file : FileName) (r : BlockRef) (form : ListForm) (page index : ℕ) (bytes : Bytes) (damage : Damage) → r.first / 4096 ≤ page → page < r.first / 4096 + r.blocks → ShowsBlock (IsMisplaced true index []) file page bytes damage → ShowsBlocks file r form bytes damage
next_block file r form page index bytes damage low high (ends early) = in_terms page low high (ends early)
next_block file r form page index bytes damage low high (breaks window at named stands long at_is early) = absurd (none_below early.entry early.compared)

next_shows : (file : FileName) (r : BlockRef) (form : ListForm) (page index : ℕ) (bytes : Bytes) (damage : Damage) → r.first / 4096 ≤ page → ShowsGiven file r form page index [] bytes damage → ShowsBlocks file r form bytes damage
next_shows file r form page index bytes damage low (inl all) = all
next_shows file r form page index bytes damage low (inr both) = next_block file r form page index bytes damage low both.0 both.1

pub next_shown : (v : View) (file : FileName) (r : BlockRef) (form : ListForm) (page index : ℕ) (f : ReadFault) → r.first / 4096 ≤ page → DamageShown v file (ShowsGiven file r form page index []) f → DamageShown v file (ShowsBlocks file r form) f
next_shown v file r form page index f low shown = shown_as (ShowsGiven file r form page index []) (ShowsBlocks file r form) v file f (λ bytes damage is shows. next_shows file r form page index bytes damage low shows) shown

-- an entry that a block gives
pub here_given : (v : View) (file : FileName) (page index new_page new_index : ℕ) (window : Bytes) (found : Option TermEntry) → ((bytes : Bytes) → contents v file ≡ Some bytes → HasAt bytes (4096 * page) window)
    → GivesEntry window page index new_page new_index found → ReadsHere v file page index new_page new_index found
here_given v file page index new_page new_index window None stands gives = tt
here_given v file page index new_page new_index window (Some entry) stands gives = λ bytes is. (window, stands bytes is, gives)

-- ---- where a scan ends

-- a block that has no further entry
pub ends_within : (v : View) (file : FileName) (r : BlockRef) (page index new_page new_index : ℕ) (window : Bytes) (found : Option TermEntry) → page < r.first / 4096 + r.blocks → length window ≡ 4096
    → ((bytes : Bytes) → contents v file ≡ Some bytes → HasAt bytes (4096 * page) window) → GivesEntry window page index new_page new_index found → EndsPast v file r page index new_page new_index found
ends_within v file r page index new_page new_index window None lt long stands gives = (gives.1, gives.2, λ bytes is. inr (window, lt, stands bytes is, long, gives.3, gives.0))
ends_within v file r page index new_page new_index window (Some entry) lt long stands gives = lt

-- where the pointers lead within a block it has the entry
not_within : (bytes : Bytes) (sought : Bytes) (page index : ℕ) (r : BlockRef) (block : Bytes) → LeadsTo bytes r sought page index → HasAt bytes (4096 * page) block → length block ≡ 4096 → 0 < count_in block → count_in block ≤ index → ⊥
not_within bytes sought page index r block leads stands long some le = ⊎_elim
    (λ last.
    let test : nat_lt leads.below (count_in leads.block) ≡ false = search (rules, last.1) in
    let index_same : index ≡ 0 = leads.index_is ∙ ap (λ (t : Bool). if t then leads.below else 0) test in
    absurd (omega (arith, le, some, index_same)))
    (λ inner.
    let test : nat_lt leads.below (count_in leads.block) ≡ true = search (rules, inner.1) in
    let page_same : page ≡ leads.from = leads.page_is ∙ ap (λ (t : Bool). if t then leads.from else leads.from + 1) test in
    let index_same : index ≡ leads.below = leads.index_is ∙ ap (λ (t : Bool). if t then leads.below else 0) test in
    let same : block ≡ leads.block = same_at bytes (4096 * leads.from) block leads.block (subst (λ (n : ℕ). HasAt bytes (4096 * n) block) page_same stands) leads.stands (long ∙ sym leads.long) in
    let count_same : count_in block ≡ count_in leads.block = ap (λ (w : Bytes). count_in w) same in
    absurd (omega (arith, le, index_same, count_same, inner.1)))
    (leb_tells (count_in leads.block) leads.below)

leads_past : (bytes : Bytes) (r : BlockRef) (sought : Bytes) (page index : ℕ) → LeadsTo bytes r sought page index → IsPast bytes r page index → r.first / 4096 + r.blocks ≤ page
leads_past bytes r sought page index leads past = ⊎_elim (λ behind. behind.0) (λ within. absurd (not_within bytes sought page index r within.0 leads within.2 within.3 within.4 within.5)) past

-- so a search ends behind the last block
pub ends_below : (v w : View) (file now : FileName) (r : BlockRef) (sought : Bytes) (page index new_page new_index : ℕ) (found : Option TermEntry) → ((bytes : Bytes) → contents v file ≡ Some bytes → contents w now ≡ Some bytes)
    → ((bytes : Bytes) → contents v file ≡ Some bytes → LeadsTo bytes r sought page index) → EndsPast w now r page index new_page new_index found → EndsBelow v file r sought new_page new_index found
ends_below v w file now r sought page index new_page new_index None still leads gone = λ bytes is.
    (let led = leads bytes is in
    let past = leads_past bytes r sought page index led (gone.2 bytes (still bytes is)) in
    inr (omega (arith, past, gone.0), subst (λ (n : ℕ). LeadsTo bytes r sought n new_index) (sym gone.0) (subst (λ (n : ℕ). LeadsTo bytes r sought page n) (sym gone.1) led)))
ends_below v w file now r sought page index new_page new_index (Some entry) still leads gone = tt
