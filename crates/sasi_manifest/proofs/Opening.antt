-- The reading of a manifest, record by record.
use Rattle.std.proofs.Common.{◌≡◌, ◌≤◌, ◌-◌, ◌+◌, ◌^◌, ℕ, true, false, IsTrue, List, [], ◌∷◌, ◌++◌, length, Option, Some, None, refl, sym, ◌∙◌, ap, subst, arith, inl, inr}
use Rattle.std.proofs.lemmas.List.{append-nil}
use Rattle.sasi_host.specs.declared.name.FileName.{FileName}
use Rattle.sasi_host.specs.declared.damage.Damage.{Damage}
use Rattle.sasi_host.specs.declared.damage.FormatRule.TheVariants.{Number}
use Rattle.sasi_host.specs.declared.fault.ReadFault.{ReadFault}
use Rattle.sasi_host.specs.declared.fault.ReadFault.TheVariants as fault
use Rattle.sasi_host.specs.Names.{Bytes, manifest_name}
use Rattle.sasi_host.specs.View.{View, IsSound, contents}
use Rattle.sasi_host.specs.Disk.{Changes, Same}
use Rattle.sasi_host.proofs.ChangeLaws.{then_same}
use Rattle.sasi_host.proofs.ContentLaws.{contents_same, there_where}
use Rattle.sasi_host.proofs.Durability.{file_durable_contents, file_durable_same}
use Rattle.sasi_gated.specs.Damages.{IsGatedDamage}
use Rattle.sasi_host.specs.Damages.{seen_bytes}
use Rattle.sasi_gated.specs.Format.{IsGated}
use Rattle.sasi_gated.specs.Gates.{IsAtGate}
use Rattle.sasi_gated.proofs.Laws.{gated_at}
use Rattle.sasi_gated.specs.Reads.{GatedDamageShown, GatedDamageShownAt, ReadsGate}
use Rattle.sasi_host.specs.Damages.{OnDamage}
use Rattle.sasi_gated.specs.Handles.{Handle}
use Rattle.sasi_host.specs.Buffered.{IsBuffered}
use Rattle.sasi_host.specs.Sequential.{ReadsEachOnce, ReadsNoFurther, ReadsWithinPages}
use Rattle.sasi_gated.proofs.ReadCostLaws.{fails_within, opens_on, opens_within}
use Rattle.sasi_manifest.specs.declared.edit.Edit.{Edit}
use Rattle.sasi_manifest.specs.declared.listing.Listing.{Listing}
use Rattle.sasi_formats.specs.Formats.{Encodes}
use Rattle.sasi_formats.proofs.EncodingsAgree.{is_encoded_of, encodes_of}
use Rattle.sasi_formats.specs.Reader.{Short, Long, Broken}
use Rattle.sasi_formats.specs.Whole.{IsShownBy}
use Rattle.sasi_formats.specs.declared.fault.Broken.{Broken as ABroken}
use Rattle.sasi_formats.specs.declared.fault.FormatFault.{FormatFault}
use Rattle.sasi_formats.specs.declared.fault.FormatFault.TheVariants as format_fault
use Rattle.sasi_formats.proofs.Offsets.{whole_within}
use Rattle.sasi_manifest.specs.Edits.{edits}
use Rattle.sasi_manifest.specs.Listings.{after_all, with_record_counted, length_of}
use Rattle.sasi_manifest.proofs.Consistency.{record_consistent}
use Rattle.sasi_manifest.specs.Format.{RecordsLeadTo}
use Rattle.sasi_manifest.specs.Damages.{IsLengthDamage, IsManifestDamage, NoFalseManifestDamage}
use Rattle.sasi_manifest.proofs.Laws.{leads_on, manifest_undamaged}
use Rattle.sasi_manifest.specs.Reading.{IsReadingManifest, IsOffsetWithin, IsDamageOfRecord, ReadsWhole, ReadsListing, ReadsUpTo, StandsWhereKept}
use Rattle.sasi_manifest.proofs.Records.{record_applies, sizes_stay, something_listed}
use Rattle.sasi_manifest.proofs.CrashMoments.{counted_sizes}

-- ---- where a fault lies

pub fault_within : (from : Option Listing) (payload : Bytes) (most : ℕ) (f : FormatFault) → length payload ≤ most → IsShownBy (edits from) payload f → IsOffsetWithin most f
fault_within from payload most format_fault.OutOfMemory short shown = tt
fault_within from payload most format_fault.Short short shown = tt
fault_within from payload most format_fault.Long short shown = tt
fault_within from payload most (format_fault.Broken broken) short shown = omega (arith, short, whole_within (edits from) payload (Broken broken.rule broken.at (seen_bytes broken.seen)) shown)

-- ---- damage

pub shown_outside : (v : View) (n : ℕ) (file : FileName) (f : ReadFault) → file ≡ manifest_name n → GatedDamageShown v file f → IsManifestDamage v n f
shown_outside v n file fault.Failed named shown = tt
shown_outside v n file fault.OutOfMemory named shown = tt
shown_outside v n file (fault.Damaged damage) named shown = λ bytes is.
    inl (subst (λ (l : FileName). IsGatedDamage l bytes damage) named (shown bytes (subst (λ (l : FileName). contents v l ≡ Some bytes) (sym named) is)))

-- what the file read at first, it reads still
still : (a b : View) (n : ℕ) (gated : Handle) (listed : Option Listing) (bytes : Bytes) → IsReadingManifest a b n gated listed → contents a (manifest_name n) ≡ Some bytes → contents b gated.file ≡ Some bytes
still a b n gated listed bytes on is = ap (λ (l : FileName). contents b l) on.file ∙ contents_same a b (manifest_name n) on.same ∙ is

pub shown_at_gate : (a b : View) (n : ℕ) (gated : Handle) (listed : Option Listing) (f : ReadFault) → IsReadingManifest a b n gated listed → GatedDamageShownAt b gated.file gated.at f → IsManifestDamage a n f
shown_at_gate a b n gated listed fault.Failed on shown = tt
shown_at_gate a b n gated listed fault.OutOfMemory on shown = tt
shown_at_gate a b n gated listed (fault.Damaged damage) on shown = λ bytes is.
    let read = on.reads bytes is in
    inl (subst (λ (l : FileName). IsGatedDamage l bytes damage) on.file
    (shown bytes read.done read.rest (still a b n gated listed bytes on is)
    (subst (λ (l : FileName). IsAtGate l bytes gated.at read.done read.rest) (sym on.file) read.at_gate)))

pub shown_inside : (a b : View) (n after : ℕ) (gated : Handle) (listed : Option Listing) (payload : Bytes) (f : ReadFault)
    → IsReadingManifest a b n gated listed → ReadsGate b gated.file gated.at after true payload → OnDamage
    (IsDamageOfRecord n (length_of listed - 1) listed payload) f → IsManifestDamage a n f
shown_inside a b n after gated listed payload fault.Failed on gate telling = tt
shown_inside a b n after gated listed payload fault.OutOfMemory on gate telling = tt
shown_inside a b n after gated listed payload (fault.Damaged damage) on gate telling = λ bytes is.
    let read = on.reads bytes is in
    let opened = gate bytes read.done read.rest (still a b n gated listed bytes on is) (subst (λ (l : FileName). IsAtGate l bytes gated.at read.done read.rest) (sym on.file) read.at_gate) in
    let offset : length_of listed - 1 ≡ gated.at = omega (arith, on.reaches) in
    inr (
      telling.named,
      inr (record {
        before = length_of listed - 1;
        done = read.done;
        rest = read.rest;
        listed = listed;
        payload = payload;
        tail = opened.0;
        gate_stands = subst (λ (k : ℕ). IsAtGate (manifest_name n) bytes k read.done read.rest) (sym offset) read.at_gate;
        leads = read.leads;
        opens = opened.1;
        found = telling.found;
        fails = telling.fails;
        told = telling.told;
      }),
    )

-- a manifest's records begin with a start: so nothing is listed only before the first
counted_then : (p : Bytes) (x : Option Listing) → (x ≡ None → ⊥) → (y : Listing) × (with_record_counted p x ≡ Some y)
counted_then p None some = absurd (some refl)
counted_then p (Some x) some = (_, refl)

some_listed : (x : Option Listing) (ps : List Bytes) → (y : Listing) × (x ≡ Some y) → RecordsLeadTo x ps None → ⊥
some_listed x [] (y, is) leads = let e : Some y ≡ None = sym is ∙ leads in cc
some_listed x (q ∷ qs) (y, is) (es, is_encoded, more) =
    let applied = record_applies x es q (encodes_of (edits x) es q is_encoded) in
    some_listed (with_record_counted q (after_all x es)) qs (counted_then q (after_all x es) (something_listed x es applied.apply applied.some)) more

none_read : (from : Option Listing) (records : List Bytes) → RecordsLeadTo from records None → records ≡ []
none_read from [] leads = refl
none_read from (p ∷ ps) (es, is_encoded, more) =
    let applied = record_applies from es p (encodes_of (edits from) es p is_encoded) in
    absurd (some_listed (with_record_counted p (after_all from es)) ps (counted_then p (after_all from es) (something_listed from es applied.apply applied.some)) more)

pub shown_empty : (a b : View) (n after : ℕ) (gated : Handle) (payload : Bytes) (damage : Damage) → IsReadingManifest a b n gated None
    → ReadsGate b gated.file gated.at after false payload → damage.file ≡ manifest_name n → damage.at ≡ 16 → damage.rule ≡ Number
    → seen_bytes damage.seen ≡ 0 ∷ []
    → IsManifestDamage a n (fault.Damaged damage)
shown_empty a b n after gated payload damage on gate named offset rule seen bytes is =
    let read = on.reads bytes is in
    let closed = gate bytes read.done read.rest (still a b n gated None bytes on is) (subst (λ (l : FileName). IsAtGate l bytes gated.at read.done read.rest) (sym on.file) read.at_gate) in
    let at : gated.at ≡ 16 = omega (arith, on.reaches) in
    inr (
      named,
      inl (record {
        rest = read.rest;
        gate_stands = subst (λ (l : List Bytes). IsAtGate (manifest_name n) bytes 16 l read.rest) (none_read None read.done read.leads)
            (subst (λ (k : ℕ). IsAtGate (manifest_name n) bytes k read.done read.rest) at read.at_gate);
        closed = closed.1;
        rule_is = rule;
        offset_is = offset;
        seen_is = seen;
      }),
    )

-- ---- what was read

pub reading_next_record : (a b c : View) (n : ℕ) (old new : Handle) (listed : Option Listing) (listing : Listing) (payload : Bytes)
    (es : List Edit) → IsReadingManifest a b n old listed → ReadsGate b old.file old.at new.at true payload → Changes Same b c
    → new.at ≡ old.at + (5 + length payload) → new.at ≤ 2 ^ 62 → new.file ≡ old.file → IsTrue new.usable
    → c.disk_faults ≡ b.disk_faults → c.out_faults ≡ b.out_faults → IsBuffered new.buffered c.files
    → ReadsEachOnce b c old.file old.buffered.page new.buffered.page new.at → Encodes (edits listed) es payload → Some listing ≡ with_record_counted payload (after_all listed es) → IsReadingManifest a c n new (Some listing)
reading_next_record a b c n old new listed listing payload es on gate same offset fits file usable disk out buffered once is made =
    let sizes = counted_sizes (after_all listed es) payload listing made in
    let stay = sizes_stay listed es (record_applies listed es payload is).apply in
    record {
      file = file ∙ on.file;
      usable = usable;
      fits = fits;
      reaches = omega (arith, sizes.1, stay.1, offset, on.reaches);
      few_records = omega (arith, sizes.0, stay.0, offset, on.few_records);
      there = there_where b c Same (manifest_name n) same (contents_same b c (manifest_name n) same) on.there;
      same = then_same a b c Same on.same same;
      disk = disk ∙ on.disk;
      out = out ∙ on.out;
      buffered = buffered;
      once = opens_on a b c old new (contents_same a b old.file on.same) file on.once once;
      reads = λ bytes told.
          let read = on.reads bytes told in
          let opened = gate bytes read.done read.rest (still a b n old listed bytes on told) (subst (λ (l : FileName). IsAtGate l bytes old.at read.done read.rest) (sym on.file) read.at_gate) in
          record {
            done = read.done ++ payload ∷ [];
            rest = opened.0;
            at_gate = subst (λ (l : FileName). IsAtGate l bytes new.at (read.done ++ payload ∷ []) opened.0) on.file opened.2;
            leads = leads_on None listed (Some listing) read.done (payload ∷ []) read.leads (es, is_encoded_of (edits listed) es payload is, sym made);
          };
      consistent = record_consistent listed payload es listing (record_applies listed es payload is).apply made on.consistent;
    }

-- the pages that were read up to the end, and up to an error
pub reads_within : (a b c : View) (n : ℕ) (old new : Handle) (listed : Option Listing) → IsReadingManifest a b n old listed → new.file ≡ old.file
    → ReadsEachOnce b c old.file old.buffered.page new.buffered.page new.at → ReadsWithinPages a c (manifest_name n)
reads_within a b c n old new listed on file once =
    subst (λ (f : FileName). ReadsWithinPages a c f) (file ∙ on.file)
    (opens_within a c new (opens_on a b c old new (contents_same a b old.file on.same) file on.once once))

-- and up to the gate at which the reading ends
up_to : (a c : View) (file : FileName) (page : Option ℕ) (at : ℕ) → ReadsEachOnce a c file None page at → ReadsUpTo a c at
up_to a c file None at once = omega (arith, once.pages)
up_to a c file (Some page) at once = omega (arith, once.pages, once.sequential page refl)

pub reads_up_to : (a b c : View) (n : ℕ) (old new : Handle) (listed : Option Listing) → IsReadingManifest a b n old listed → new.file ≡ old.file
    → ReadsEachOnce b c old.file old.buffered.page new.buffered.page new.at → ReadsUpTo a c new.at
reads_up_to a b c n old new listed on file once =
    up_to a c new.file new.buffered.page new.at (opens_on a b c old new (contents_same a b old.file on.same) file on.once once)

pub reads_no_further : (a b c : View) (n : ℕ) (old : Handle) (listed : Option Listing) → IsReadingManifest a b n old listed
    → ReadsNoFurther b c old.file old.buffered.page old.at → ReadsWithinPages a c (manifest_name n)
reads_no_further a b c n old listed on further =
    subst (λ (f : FileName). ReadsWithinPages a c f) on.file (fails_within a b c old (contents_same a b old.file on.same) on.once further)

pub read_whole : (a b : View) (n after : ℕ) (gated : Handle) (listing : Listing) (payload : Bytes) → IsReadingManifest a b n gated (Some listing)
    → ReadsGate b gated.file gated.at after false payload → ReadsWhole a n after listing
read_whole a b n after gated listing payload on gate bytes told =
    let read = on.reads bytes told in
    let closed = gate bytes read.done read.rest (still a b n gated (Some listing) bytes on told) (subst (λ (l : FileName). IsAtGate l bytes gated.at read.done read.rest) (sym on.file) read.at_gate) in
    record { done = read.done; rest = read.rest; at_gate = subst (λ (l : FileName). IsAtGate l bytes after read.done read.rest) on.file closed.2; closed = closed.1; builds = read.leads }

pub reads_listing : (a : View) (n at : ℕ) (listing : Listing) → ReadsWhole a n at listing → ReadsListing a n listing
reads_listing a n at listing whole bytes told =
    let read = whole bytes told in
    (read.done, subst (λ (l : List Bytes). IsGated (manifest_name n) bytes l) (append-nil read.done) (gated_at (manifest_name n) bytes at read.done read.rest [] read.at_gate read.closed), read.builds)

pub stands_where_kept : (a b : View) (n at : ℕ) (listing : Listing) → IsSound a → Changes Same a b → ReadsWhole a n at listing → StandsWhereKept a b n at listing
stands_where_kept a b n at listing sound same whole bytes told kept =
    let read = whole bytes (file_durable_contents a (manifest_name n) bytes sound told kept) in
    record {
      records = read.done;
      at_end = record {
        bytes = bytes;
        rest = read.rest;
        kept = file_durable_same a b
            (manifest_name n) bytes same kept;
        at_gate = read.at_gate;
        closed = read.closed;
      };
      builds = read.builds;
    }

pub no_false_damage : (v : View) (n : ℕ) (f : ReadFault) → IsManifestDamage v n f → NoFalseManifestDamage v n f
no_false_damage v n fault.Failed shown = tt
no_false_damage v n fault.OutOfMemory shown = tt
no_false_damage v n (fault.Damaged damage) shown = λ bytes listing told is. manifest_undamaged n bytes damage listing is (shown bytes told)

-- the damage that a fault of a record is
pub tells_short : (n before : ℕ) (from : Option Listing) (payload : Bytes) (f : FormatFault) (damage : Damage) → f ≡ format_fault.Short → IsShownBy (edits from) payload f
    → damage.file ≡ manifest_name n → IsLengthDamage before payload damage.rule damage.at (seen_bytes damage.seen) → IsDamageOfRecord n before from payload damage
tells_short n before from payload f damage is shown named told =
    record { named = named; found = Short; fails = subst (λ (x : FormatFault). IsShownBy (edits from) payload x) is shown; told = told }

pub tells_long : (n before : ℕ) (from : Option Listing) (payload : Bytes) (f : FormatFault) (damage : Damage) → f ≡ format_fault.Long → IsShownBy (edits from) payload f
    → damage.file ≡ manifest_name n → IsLengthDamage before payload damage.rule damage.at (seen_bytes damage.seen) → IsDamageOfRecord n before from payload damage
tells_long n before from payload f damage is shown named told =
    record { named = named; found = Long; fails = subst (λ (x : FormatFault). IsShownBy (edits from) payload x) is shown; told = told }

pub tells_broken : (n before : ℕ) (from : Option Listing) (payload : Bytes) (f : FormatFault) (broken : ABroken) (damage : Damage)
    → f ≡ format_fault.Broken broken → IsShownBy (edits from) payload f → damage.file ≡ manifest_name n → damage.rule ≡ broken.rule
    → damage.at ≡ before + 5 + broken.at → damage.seen ≡ broken.seen → IsDamageOfRecord n before from payload damage
tells_broken n before from payload f broken damage is shown named rule offset seen = record {
  named = named;
  found = Broken broken.rule broken.at (seen_bytes broken.seen);
  fails = subst (λ (x : FormatFault). IsShownBy (edits from) payload x) is shown;
  told = (rule, omega (arith, offset), ap seen_bytes seen);
}
