-- How often an opening reads the host, over its parts.
use Rattle.std.proofs.Common.{◌≡◌, ℕ, zero, suc, ◌+◌, ◌*◌, ◌-◌, ◌<◌, ◌≤◌, List, Option, Some, None, IsSome, refl, sym, ◌∙◌, ap, subst, inl, inr, ⊎_elim, is_some, arith}
use Rattle.std.specs.FinMap.{get}
use Rattle.sasi_host.specs.declared.name.FileName.{FileName}
use Rattle.sasi_host.specs.Names.{Bytes, Folder, log_name, manifest_name}
use Rattle.sasi_host.proofs.ContentLaws.{contents_same}
use Rattle.sasi_host.specs.Disk.{Changes, Same}
use Rattle.sasi_host.specs.Sequential.{ReadsWithinPages}
use Rattle.sasi_host.specs.View.{View, IsThere, contents, contents_in}
use Rattle.sasi_manifest.specs.declared.listing.Listing.{Listing}
use Rattle.sasi_manifest.specs.Reading.{ReadsListing}
use Rattle.sasi_manifest.specs.OpenManifest.{ManifestState}
use Rattle.sasi_recover.specs.SealedFolder.{IsChecked}
use Rattle.sasi_recover.specs.OpeningReads.{data_count, ends_reads, file_reads, index_count, segment_reads, live_reads, OpensReadingOnce, ReadsFileOnce, ReadsListedOnce, ReadsListingOnce, ReadsLiveOnce, ReadsStoreOnce}
use Rattle.sasi_recover.proofs.DeletedFiles.{keeps_segment, unless_kept}
use Rattle.sasi_recover.proofs.SealedStore.{bytes_there, reads_of}

-- ---- segments

-- the live segments from this number on, by the first of them and the others
one_segment : (folder : Folder) (number last : ℕ) → number ≤ last
    → segment_reads folder number (suc last - number) ≡ file_reads (get folder (log_name number)) + segment_reads folder (number + 1) (suc last - (number + 1))
one_segment folder number last within =
    let more : suc last - number ≡ suc (suc last - (number + 1)) = omega (arith, within) in
    let following : suc number ≡ number + 1 = omega arith in
    ap (λ k. segment_reads folder number k) more
    ∙ ap (λ k. file_reads (get folder (log_name number)) + segment_reads folder k (suc last - (number + 1))) following

-- segments that read the same
same_reads : (x y : Folder) (number count : ℕ) → ((segment : ℕ) → number ≤ segment → segment < number + count → get y (log_name segment) ≡ get x (log_name segment))
    → segment_reads y number count ≡ segment_reads x number count
same_reads x y number zero same = refl
same_reads x y number (suc count) same =
    let first : file_reads (get y (log_name number)) ≡ file_reads (get x (log_name number)) = ap file_reads (same number (omega arith) (omega arith)) in
    let others : segment_reads y (suc number) count ≡ segment_reads x (suc number) count =
    same_reads x y (suc number) count (λ segment above below. same segment (omega (arith, above)) (omega (arith, below))) in
    cc

-- ---- live segments, one after another

-- a segment was read within its pages, and so the folder's
within_folder : (a b c : View) (folder : Folder) (number : ℕ) → Changes Same a b → a.files ≡ Some folder → IsThere a (log_name number)
    → ReadsWithinPages b c (log_name number) → c.reads ≤ b.reads + file_reads (get folder (log_name number))
within_folder a b c folder number same files there once =
    let bytes = bytes_there a folder (log_name number) files there in
    let is : contents b (log_name number) ≡ Some bytes.0 = contents_same a b (log_name number) same ∙ reads_of a folder (log_name number) bytes.0 files bytes.1 in
    subst (λ (o : Option Bytes). c.reads ≤ b.reads + file_reads o) (sym bytes.1) (once bytes.0 is)

module _ (a b c : View) (listing : Listing) (number : ℕ) (within : number ≤ listing.last) (same : Changes Same a b) (folder : Folder)
    (files : a.files ≡ Some folder) (there : IsThere a (log_name number))
    (left : b.reads + segment_reads folder number (suc listing.last - number) ≤ a.reads + live_reads folder listing)
    (once : ReadsWithinPages b c (log_name number)) where
  -- the reads that are left after one segment more
  pub live_more : c.reads + segment_reads folder (number + 1) (suc listing.last - (number + 1)) ≤ a.reads + live_reads folder listing
  live_more = omega (arith, left, within_folder a b c folder number same files there once, one_segment folder number listing.last within)

  pub live_within : c.reads ≤ a.reads + live_reads folder listing
  live_within = omega (arith, live_more)

-- ---- a store

-- where a file is there, it is read within its pages
pub once_there : (a b : View) (file : FileName) → IsThere a file → ReadsWithinPages a b file → ReadsFileOnce a b file
once_there a b file there once told = by (contents a file) refl (there told)
  where
    by : (o : Option Bytes) → contents a file ≡ o → IsSome o → b.reads ≤ a.reads + file_reads (contents a file)
    by None is some = cc
    by (Some bytes) is some = subst (λ (o : Option Bytes). b.reads ≤ a.reads + file_reads o) (sym is) (once bytes is)

-- what a told file is read, by the folder
once_in : (a b : View) (folder : Folder) (file : FileName) → a.files ≡ Some folder → ReadsFileOnce a b file → b.reads ≤ a.reads + file_reads (get folder file)
once_in a b folder file files once = subst (λ (o : Option Folder). b.reads ≤ a.reads + file_reads (contents_in o file)) files
    (once (ap (λ (o : Option Folder). is_some o) files))

-- the ends of the listed files were read, other files were deleted, and the live segments were read
pub listing_read : (a b c : View) (folder : Folder) (m : ManifestState) (wanted : List FileName) (time : ℕ) → a.files ≡ Some folder → IsChecked a b m wanted time → ends_reads wanted ≡ 2 * data_count m.listing.tables + 3 * index_count m.listing.tables
    → b.reads ≤ a.reads + ends_reads wanted → ReadsLiveOnce b c m.listing → ReadsListingOnce folder m.listing a c
listing_read a b c folder m wanted time files checked count first live =
    let now = checked.deletes.seen folder files in
    let same = same_reads folder now.0 m.listing.floor (suc m.listing.last - m.listing.floor)
    (λ segment above below. unless_kept _ _ _ (keeps_segment m.number m.listing.floor m.listing.last wanted segment above (omega (arith, above, below))) (now.2 (log_name segment))) in
    omega (arith, first, count, live now.0 now.1, same)

-- the manifest was read, and then what it lists
pub store_read : (a b c : View) (folder : Folder) (number : ℕ) (listing : Listing) → a.files ≡ Some folder → IsThere a (manifest_name number)
    → ReadsListing a number listing → ReadsFileOnce a b (manifest_name number) → ReadsListingOnce folder listing b c → ReadsStoreOnce folder number a c
store_read a b c folder number listing files there reads once rest =
    let bytes = bytes_there a folder (manifest_name number) files there in
    let first : b.reads ≤ a.reads + file_reads (Some bytes.0) = subst (λ (o : Option Bytes). b.reads ≤ a.reads + file_reads o) bytes.1
    (once_in a b folder (manifest_name number) files once) in
    inr (record {
      bytes = bytes.0;
      listing = listing;
      there = bytes.1;
      lists = reads bytes.0 (reads_of a folder (manifest_name number) bytes.0 files bytes.1);
      most = omega (arith, first, rest);
    })

-- the manifest alone was
pub manifest_read : (a b : View) (folder : Folder) (number : ℕ) → a.files ≡ Some folder → ReadsFileOnce a b (manifest_name number)
    → ReadsStoreOnce folder number a b
manifest_read a b folder number files once = inl (once_in a b folder (manifest_name number) files once)

-- behind calls that read nothing
pub store_behind : (a b c : View) (folder : Folder) (number : ℕ) → b.reads ≡ a.reads → ReadsStoreOnce folder number b c → ReadsStoreOnce folder number a c
store_behind a b c folder number none (inl most) = inl (omega (arith, none, most))
store_behind a b c folder number none (inr listed) = inr (record {
  bytes = listed.bytes;
  listing = listed.listing;
  there = listed.there;
  lists = listed.lists;
  most = omega (arith, none, listed.most);
})

-- before calls that read nothing
pub opening_on : (folder : Folder) (a b c : View) → c.reads ≡ b.reads → OpensReadingOnce folder a b → OpensReadingOnce folder a c
opening_on folder a b c none once = ⊎_elim (λ same. inl (none ∙ same))
    (λ sealed. inr (
      sealed.0,
      sealed.1,
      ⊎_elim (λ most. inl (omega (arith, none, most)))
          (λ (listed : ReadsListedOnce folder sealed.0 a b). inr (record {
            bytes = listed.bytes;
            listing = listed.listing;
            there = listed.there;
            lists = listed.lists;
            most = omega (arith, none, listed.most);
          })) sealed.2,
    )) once
