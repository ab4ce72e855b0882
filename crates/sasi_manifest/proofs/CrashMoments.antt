-- What each moment of a call leaves of a manifest and its seal.
use Rattle.std.proofs.Common.{◌≡◌, ◌≢◌, ◌≤◌, ◌+◌, ◌^◌, ℕ, List, [], ◌∷◌, ◌++◌, length, Option, Some, None, sym, ◌∙◌, ap, subst, arith, inl, inr, ⊎_elim, true, false, IsTrue, length-append}
use Rattle.std.specs.FinMap.{get}
use Rattle.sasi_host.specs.declared.name.FileName.{FileName}
use Rattle.sasi_host.specs.declared.name.Kind.TheVariants.{Manifest, Seal}
use Rattle.sasi_host.specs.Names.{Bytes, Folder, manifest_name, seal_name}
use Rattle.sasi_host.specs.View.{View, IsSound, Reaches}
use Rattle.sasi_host.specs.Disk.{Changes, FileChange, Same, AnyChange, LeftWith, MaybeCreated}
use Rattle.sasi_host.proofs.ChangeLaws.{changes_as, changes_on, changes_among, stays, step_as, each_on}
use Rattle.sasi_host.proofs.Durability.{file_durable_other}
use Rattle.sasi_host.proofs.ContentLaws.{reaches_where, contents_other}
use Rattle.sasi_gated.specs.Format.{IsBeforeOrAfter, header, frame, new_gated_file}
use Rattle.sasi_gated.proofs.Laws.{gated_end, header_length, frame_length}
use Rattle.sasi_gated.proofs.HandleLaws.{end_stays}
use Rattle.sasi_gated.specs.Reads.{AppendsRecord}
use Rattle.sasi_gated.specs.Handles.{Handle, IsAtEnd}
use Rattle.sasi_manifest.specs.declared.edit.Edit.{Edit}
use Rattle.sasi_manifest.specs.declared.listing.Listing.{Listing}
use Rattle.sasi_manifest.specs.Consistent.{IsConsistent}
use Rattle.sasi_manifest.proofs.Consistency.{record_consistent}
use Rattle.sasi_formats.proofs.EncodingsAgree.{is_encoded_of}
use Rattle.sasi_manifest.specs.Edits.{AllApply, encoded, edits as edits_after}
use Rattle.sasi_manifest.specs.Listings.{after_all, with_record_counted, rewrite_edits, records_of, length_of}
use Rattle.sasi_manifest.specs.Format.{IsNext, IsRewritten}
use Rattle.sasi_manifest.specs.Abbreviations.{Builds}
use Rattle.sasi_manifest.specs.OpenManifest.{ManifestState, IsOpenManifest, IsAtListingEnd, ManifestStands, IsEither, IsUnsealed, ChangesOnlyManifest, Creates}
use Rattle.sasi_manifest.proofs.Laws.{leads_on}
use Rattle.sasi_manifest.proofs.Records.{record_encodes, sizes_stay}

-- ---- an append

next_builds : (listing next : Listing) (edits : List Edit) (records : List Bytes) → AllApply (Some listing) edits → 1 ≤ length edits
    → length (encoded edits) ≤ 2 ^ 30 → IsNext listing edits next → Builds records listing → Builds (records ++ encoded edits ∷ []) next
next_builds listing next edits records apply some short is builds =
    leads_on None (Some listing) (Some next) records (encoded edits ∷ []) builds (edits, is_encoded_of (edits_after (Some listing)) edits (encoded edits) (record_encodes (Some listing) edits apply some short), sym is)

pub appended : (a b : View) (n at after : ℕ) (file : FileName) (listing next : Listing) (edits : List Edit) → file ≡ manifest_name n
    → AllApply (Some listing) edits → 1 ≤ length edits → length (encoded edits) ≤ 2 ^ 30 → IsNext listing edits next
    → AppendsRecord a b file at after (encoded edits)
    → ManifestStands a n at listing → ManifestStands b n after next
appended a b n at after file listing next edits named apply some short is gains stands = record {
  records = stands.records ++ encoded edits ∷ [];
  at_end = subst (λ (f : FileName). IsAtEnd b f after (stands.records ++ encoded edits ∷ [])) named
      (gains stands.records (subst (λ (f : FileName). IsAtEnd a f at stands.records) (sym named) stands.at_end));
  builds = next_builds listing next edits stands.records apply some short is stands.builds;
}

pub either_listed : (a b : View) (n at : ℕ) (file : FileName) (listing next : Listing) (edits : List Edit) → file ≡ manifest_name n
    → AllApply (Some listing) edits → 1 ≤ length edits → length (encoded edits) ≤ 2 ^ 30 → IsNext listing edits next
    → ((records : List Bytes) → IsAtEnd a file at records → Changes
    (FileChange file (LeftWith (IsBeforeOrAfter file records (encoded edits)))) a b) → ManifestStands a n at listing → Changes
    (FileChange (manifest_name n) (LeftWith (IsEither n listing next))) a b
either_listed a b n at file listing next edits named apply some short is moments stands =
    let change = subst (λ (f : FileName). Changes (FileChange f (LeftWith (IsBeforeOrAfter f stands.records (encoded edits)))) a b) named
    (moments stands.records (subst (λ (f : FileName). IsAtEnd a f at stands.records) (sym named) stands.at_end)) in
    changes_as a b (FileChange (manifest_name n) (LeftWith (IsBeforeOrAfter (manifest_name n) stands.records (encoded edits)))) (FileChange (manifest_name n) (LeftWith (IsEither n listing next))) change
    (step_as (manifest_name n) (LeftWith (IsBeforeOrAfter (manifest_name n) stands.records (encoded edits))) (LeftWith (IsEither n listing next)) (λ x y left. (left.0, left.1, means left.0 left.2)))
  where
    means : (bytes : Bytes) → IsBeforeOrAfter (manifest_name n) stands.records (encoded edits) bytes → IsEither n listing next bytes
    means bytes before_or_after =
        ⊎_elim (λ gated. inl (stands.records, gated, stands.builds))
        (λ gated. inr (
          stands.records ++ encoded edits ∷ [],
          gated,
          next_builds listing next edits stands.records apply some short is
              stands.builds,
        )) before_or_after

-- at each moment between the two the manifest lists what it did, or what it does after the edits
abbrev pub ListsEither : View → View → ManifestState → List Edit → Type 0
ListsEither a b m edits = (next : Listing) → IsNext m.listing edits next → ManifestStands a m.number m.at m.listing → Changes (FileChange (manifest_name m.number) (LeftWith (IsEither m.number m.listing next))) a b

-- so it is while edits are appended
pub lists_either : (a b : View) (file : FileName) (m : ManifestState) (edits put : List Edit) → file ≡ manifest_name m.number
    → AllApply (Some m.listing) edits → 1 ≤ length edits → length (encoded edits) ≤ 2 ^ 30 → put ≡ edits
    → ((records : List Bytes) → IsAtEnd a file m.at records → Changes (FileChange file (LeftWith (IsBeforeOrAfter file records (encoded put)))) a b)
    → ListsEither a b m edits
lists_either a b file m edits put named apply some short same moments next is stands =
    either_listed a b m.number m.at file m.listing next edits named apply some short is
    (subst (λ (l : List Edit). (records : List Bytes) → IsAtEnd a file m.at records → Changes (FileChange file (LeftWith (IsBeforeOrAfter file records (encoded l)))) a b) same moments) stands

-- ---- a new manifest

kinds_apart : Seal ≡ Manifest → ⊥
kinds_apart is = cc

pub seal_apart : (n : ℕ) → seal_name n ≢ manifest_name n
seal_apart n is = kinds_apart (ap (λ (f : FileName). f.kind) is)

pub manifest_apart : (n : ℕ) → manifest_name n ≢ seal_name n
manifest_apart n is = seal_apart n (sym is)

pub unmade : (v : View) (n : ℕ) (listing : Listing) → IsSound v → IsUnsealed v n → Changes (Creates n listing) v v
unmade v n listing sound unsealed =
    changes_among v v (λ x. get x (seal_name n) ≡ None) Same (Creates n listing) sound unsealed (stays v)
    (λ x y none same. record { others = λ name a b. ap (λ (f : Folder). get f name) same; whole = inl (ap (λ (f : Folder). get f (seal_name n)) same ∙ none) })

pub unmade_touches : (v : View) (n : ℕ) → Changes (ChangesOnlyManifest n) v v
unmade_touches v n = changes_as v v Same (ChangesOnlyManifest n) (stays v) (λ x y same name a b. ap (λ (f : Folder). get f name) same)

pub made_file : (a b : View) (n : ℕ) (listing : Listing) → IsSound a → IsUnsealed a n → Changes (FileChange (manifest_name n) AnyChange) a b → Changes (Creates n listing) a b
made_file a b n listing sound unsealed change =
    changes_among a b (λ x. get x (seal_name n) ≡ None) (FileChange (manifest_name n) AnyChange) (Creates n listing) sound unsealed change
    (λ x y none step. record { others = λ name a b. step.others name a; whole = inl (step.others (seal_name n) (seal_apart n) ∙ none) })

pub made_file_touches : (a b : View) (n : ℕ) → Changes (FileChange (manifest_name n) AnyChange) a b → Changes (ChangesOnlyManifest n) a b
made_file_touches a b n change = changes_as a b (FileChange (manifest_name n) AnyChange) (ChangesOnlyManifest n) change (λ x y step name u v. step.others name u)

pub still_unsealed : (a b : View) (n : ℕ) → Changes (FileChange (manifest_name n) AnyChange) a b → IsUnsealed a n → IsUnsealed b n
still_unsealed a b n change unsealed = each_on a b (FileChange (manifest_name n) AnyChange) (λ f. get f (seal_name n) ≡ None) change (λ x y step none. step.others (seal_name n) (seal_apart n) ∙ none) unsealed

-- the one record of a new manifest
pub new_builds : (listing made : Listing) (payload : Bytes) → AllApply None (rewrite_edits listing) → length
    (encoded (rewrite_edits listing)) ≤ 2 ^ 30 → payload ≡ encoded (rewrite_edits listing) → IsRewritten listing made → Builds (payload ∷ []) made
new_builds listing made payload apply short is rewritten =
    subst (λ (l : Bytes). Builds (l ∷ []) made) (sym is) (rewrite_edits listing, is_encoded_of (edits_after None) (rewrite_edits listing) (encoded (rewrite_edits listing)) (record_encodes None (rewrite_edits listing) apply (omega arith) short), sym rewritten)

made_seal : (a b : View) (n at : ℕ) (listing : Listing) (records : List Bytes) → IsSound a → IsUnsealed a n → IsAtEnd a
    (manifest_name n) at records → Builds records listing → Changes (FileChange (seal_name n) MaybeCreated) a b → Changes (Creates n listing) a b
made_seal a b n at listing records sound unsealed end builds change =
    changes_among a b (λ x. (get x (seal_name n) ≡ None) × (get x (manifest_name n) ≡ Some end.bytes)) (FileChange (seal_name n) MaybeCreated)
    (Creates n listing) sound (λ x now. (unsealed x now, end.kept x now)) change
    (λ x y known step. record {
      others = λ name u v. step.others name v;
      whole = ⊎_elim (λ same. inl (same ∙ known.0))
          (λ made. inr (
            made,
            end.bytes,
            step.others (manifest_name n) (manifest_apart n) ∙ known.1,
            (records, gated_end a (manifest_name n) at records end, builds),
          )) step.this;
    })

pub made_both : (a b c : View) (n at : ℕ) (listing : Listing) (records : List Bytes) → IsSound a → IsSound b → IsUnsealed a n → Changes
    (FileChange (manifest_name n) AnyChange) a b → IsAtEnd b (manifest_name n) at records → Builds records listing → Changes
    (FileChange (seal_name n) MaybeCreated) b c
    → Changes (Creates n listing) a c
made_both a b c n at listing records sound_a sound_b unsealed first end builds second =
    changes_on a b c (Creates n listing) (Creates n listing) (Creates n listing) (made_file a b n listing sound_a unsealed first)
    (made_seal b c n at listing records sound_b (still_unsealed a b n first unsealed) end builds second)
    (λ x y s. s) (λ x y z s t. record { others = λ name u v. t.others name u v ∙ s.others name u v; whole = t.whole })

pub made_both_touches : (a b c : View) (n : ℕ) → Changes (FileChange (manifest_name n) AnyChange) a b → Changes (FileChange (seal_name n) MaybeCreated) b c → Changes (ChangesOnlyManifest n) a c
made_both_touches a b c n first second =
    changes_on a b c (FileChange (manifest_name n) AnyChange) (FileChange (seal_name n) MaybeCreated) (ChangesOnlyManifest n) first second
    (λ x y step name u v. step.others name u) (λ x y z s t name u v. t.others name v ∙ s.others name u)

pub stands_made : (b c : View) (n at : ℕ) (listing : Listing) (records : List Bytes) → IsAtEnd b (manifest_name n) at records
    → Builds records listing → Changes (FileChange (seal_name n) MaybeCreated) b c → ManifestStands c n at listing
stands_made b c n at listing records end builds change = record {
  records = records;
  at_end = end_stays b c (manifest_name n) at records (λ bytes. file_durable_other b c (seal_name n) (manifest_name n) MaybeCreated bytes (manifest_apart n) change) end;
  builds = builds;
}

pub room_made : (b c : View) (n at : ℕ) → Changes (FileChange (seal_name n) MaybeCreated) b c → Reaches b (manifest_name n) at → Reaches c (manifest_name n) at
room_made b c n at change reaches =
    reaches_where b c (FileChange (seal_name n) MaybeCreated) (manifest_name n) at change
    (contents_other b c (seal_name n) (manifest_name n) MaybeCreated (manifest_apart n) change) reaches

-- ---- how long it is

pub counted_sizes : (from : Option Listing) (payload : Bytes) (listing : Listing) → Some listing ≡ with_record_counted payload from
    → (listing.records ≡ records_of from + 1) × (listing.length ≡ length_of from + (5 + length payload))
counted_sizes None payload listing is = cc
counted_sizes (Some l) payload listing is =
    let same : listing ≡ record l { records = l.records + 1; length = l.length + (5 + length payload) }
    = cc in (ap (λ (x : Listing). x.records) same, ap (λ (x : Listing). x.length) same)

new_length : (file : FileName) (payload : Bytes) → length (new_gated_file file (Some payload)) ≡ 22 + length payload
new_length file payload = omega (arith, header_length file, frame_length payload, length-append (header file) (1 ∷ (frame payload ++ 0 ∷ [])), length-append (frame payload) (0 ∷ []))

pub new_is_open : (n : ℕ) (gated : Handle) (listing made : Listing) (file : FileName) (payload : Bytes) → AllApply None (rewrite_edits listing)
    → payload ≡ encoded (rewrite_edits listing) → IsRewritten listing made → file ≡ manifest_name n → gated.file ≡ file → gated.at + 1 ≡ length
    (new_gated_file file (Some payload)) → gated.at ≤ 2 ^ 62
    → IsTrue gated.usable → IsOpenManifest n gated made true
new_is_open n gated listing made file payload apply is rewritten named of offset fits usable =
    let sizes = counted_sizes (after_all None (rewrite_edits listing)) (encoded (rewrite_edits listing)) made rewritten in
    let stay = sizes_stay None (rewrite_edits listing) apply in
    record {
      file = of ∙ named;
      ready = λ yes. record {
        fits = fits;
        reaches = omega
            (arith, sizes.1, stay.1, offset, new_length file payload, ap length is);
        few_records = omega
            (arith, sizes.0, stay.0, offset, new_length file payload);
        handle = usable;
      };
      consistent = record_consistent None (encoded (rewrite_edits listing)) (rewrite_edits listing) made apply rewritten tt;
    }

pub next_is_open : (n : ℕ) (old new : Handle) (listing next : Listing) (edits : List Edit) → old.file ≡ manifest_name n
    → IsAtListingEnd old listing → IsConsistent listing → AllApply (Some listing) edits → IsNext listing edits next
    → new.at ≡ old.at + (5 + length (encoded edits)) → new.at ≤ 2 ^ 62 → new.file ≡ old.file → IsTrue new.usable → IsOpenManifest n new next true
next_is_open n old new listing next edits named held known apply is offset fits same usable =
    let sizes = counted_sizes (after_all (Some listing) edits) (encoded edits) next is in
    let stay = sizes_stay (Some listing) edits apply in
    record {
      file = same ∙ named;
      ready = λ yes. record { fits = fits; reaches = omega (arith, sizes.1, stay.1, offset, held.reaches); few_records = omega (arith, sizes.0, stay.0, offset, held.few_records); handle = usable };
      consistent = record_consistent (Some listing) (encoded edits) edits next apply is known;
    }

-- after a fault
pub fault_is_open : (n : ℕ) (old new : Handle) (listing : Listing) → old.file ≡ manifest_name n → new.file ≡ old.file → IsConsistent listing → IsOpenManifest n new listing false
fault_is_open n old new listing named same known = record { file = same ∙ named; ready = λ yes. cc; consistent = known }
