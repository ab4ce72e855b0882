-- The live segments, one after another.
use Rattle.std.proofs.Common.{◌≡◌, ℕ, suc, ◌+◌, ◌≤◌, List, [], ◌∷◌, ◌++◌, Some, length, refl, sym, ap, subst, ◌∙◌, arith, append_assoc, length-append}
use Rattle.sasi_host.specs.declared.fault.ReadFault.{ReadFault}
use Rattle.sasi_host.specs.declared.fault.ReadFault.TheVariants as fault
use Rattle.sasi_host.proofs.ContentLaws.{contents_same, there_where, told_after}
use Rattle.sasi_host.specs.Disk.{Changes, Same}
use Rattle.sasi_host.proofs.Durability.{file_durable_same}
use Rattle.sasi_host.proofs.ChangeLaws.{stays, then_same}
use Rattle.sasi_host.specs.Names.{Folder, log_name}
use Rattle.sasi_host.specs.Sequential.{ReadsWithinPages}
use Rattle.sasi_host.specs.View.{View, IsThere, IsTold}
use Rattle.sasi_cells.specs.declared.mutation.Mutation.{Mutation}
use Rattle.sasi_commitlog.specs.LogPosition.{IsAtLogEnd}
use Rattle.sasi_manifest.specs.declared.listing.Listing.{Listing}
use Rattle.sasi_recover.specs.ReplayState.{IsReplayOf, ReplayState, after_segment, after_segments, empty_state, replayed_state}
use Rattle.sasi_recover.proofs.ReplayLaws.{segments_last}
use Rattle.sasi_folder.proofs.FolderChanges.{segments_join}
use Rattle.sasi_folder.specs.FolderContents.{HasSegment, types_listed}
use Rattle.sasi_recover.specs.Replaying.{LiveSegmentsExist, HasMerged, HasReplayed, ReplayShowsDamage, SegmentShowsDamage, KeepsSegment, KeepsSegments, MergedBefore, ReadsAll, ReadsSegment, Replays, ReplaysSegment, NoFalseReplayDamage, NoFalseSegmentDamage}
use Rattle.sasi_recover.specs.OpeningReads.{ReadsLiveOnce}
use Rattle.sasi_recover.proofs.ReadsOfOpening.{live_more, live_within}
use Rattle.sasi_recover.proofs.SealedStore.{bytes_there, reads_of}

-- ---- the beginning

pub none_replayed : (v : View) (listing : Listing) (s : ReplayState) → s ≡ empty_state listing → IsReplayOf listing s → HasReplayed v v listing listing.floor s
none_replayed v listing s is maps = record {
  from_floor = omega arith;
  same = stays v;
  disk = refl;
  out = refl;
  reads_left = λ folder files there. omega arith;
  maps = maps;
  read = λ folder files there. record { logs = []; count = omega arith; segments = tt; state = is };
  merged = λ logs told live kept. record { done = []; left = logs; parts = refl; count = omega arith; kept = kept; state = is };
}

-- ---- one segment more

no_more : {A : Type 0} (xs : List A) → length xs ≡ 0 → xs ≡ []
no_more [] none = refl
no_more (x ∷ xs) none = absurd (omega (arith, none))

-- the next of the segments that are left
record IsNextLeft (a : View) (listing : Listing) (number : ℕ) (now : ReplayState) (logs : List (List Mutation)) : Type 0 where
  pub done : List (List Mutation)
  pub next : List Mutation
  pub others : List (List Mutation)
  pub parts : logs ≡ done ++ next ∷ others
  pub count : listing.floor + length done ≡ number
  pub kept : KeepsSegment a (types_listed listing) number next
  pub others_kept : KeepsSegments a (types_listed listing) (suc number) others
  pub state : now ≡ after_segments listing.tables listing.floor (empty_state listing) done

next_left : (a : View) (listing : Listing) (number : ℕ) (now : ReplayState) (logs : List (List Mutation)) → number ≤ listing.last → listing.floor + length logs ≡ suc listing.last → (some : MergedBefore a listing number now logs) (left : List (List Mutation)) → some.left ≡ left
    → KeepsSegments a (types_listed listing) number left → IsNextLeft a listing number now logs
next_left a listing number now logs within live some [] left_is kept =
    let parts : logs ≡ some.done ++ [] = some.parts ∙ ap (λ l. some.done ++ l) left_is in
    absurd (omega (arith, within, live, some.count, ap length parts, length-append some.done []))
next_left a listing number now logs within live some (next ∷ others) left_is kept = record {
  done = some.done;
  next = next;
  others = others;
  parts = some.parts ∙ ap (λ l. some.done ++ l) left_is;
  count = some.count;
  kept = kept.0;
  others_kept = kept.1;
  state = some.state;
}

module _ (a b : View) (listing : Listing) (number : ℕ) (now : ReplayState) (on : HasReplayed a b listing number now) (within : number ≤ listing.last) where
  next_of : (logs : List (List Mutation)) → IsTold a → listing.floor + length logs ≡ suc listing.last → KeepsSegments a (types_listed listing) listing.floor logs → IsNextLeft a listing number now logs
  next_of logs told live kept = let some = on.merged logs told live kept in next_left a listing number now logs within live some some.left refl some.kept

  file_durable_on : (mutations : List Mutation) → KeepsSegment a (types_listed listing) number mutations → KeepsSegment b (types_listed listing) number mutations
  file_durable_on mutations kept = (kept.0, file_durable_same a b (log_name number) kept.0 on.same kept.1, kept.2)

  pub still_there : LiveSegmentsExist a listing → IsThere b (log_name number)
  still_there there = there_where a b Same (log_name number) on.same (contents_same a b (log_name number) on.same) (there number on.from_floor within)

  -- what the folder has of one segment more
  pub read_more : (later : ReplayState) → ReadsSegment b listing number now later → (folder : Folder) → a.files ≡ Some folder → LiveSegmentsExist a listing → HasMerged folder listing (suc number) later
  read_more later reads folder files there =
      let r = on.read folder files there in
      let bytes = bytes_there a folder (log_name number) files (there number on.from_floor within) in
      let segment = reads bytes.0 (contents_same a b (log_name number) on.same ∙ reads_of a folder (log_name number) bytes.0 files bytes.1) in
      record {
        logs = r.logs ++ segment.0 ∷ [];
        count = omega (arith, r.count, length-append r.logs (segment.0 ∷ []));
        segments = segments_join folder (types_listed listing) listing.floor r.logs segment.0 r.segments (subst (λ n. HasSegment folder (types_listed listing) n segment.0) (sym r.count) (bytes.0, bytes.1, segment.1));
        state = segment.2 ∙ ap (λ s. after_segment listing.tables number s segment.0) r.state ∙ ap (λ k. after_segment listing.tables k (after_segments listing.tables listing.floor (empty_state listing) r.logs) segment.0) (sym r.count)
            ∙ sym (segments_last listing.tables listing.floor (empty_state listing) r.logs segment.0);
      }

  -- where it is the last, all were read
  pub read_all : (later : ReplayState) → ReadsSegment b listing number now later → number ≡ listing.last → LiveSegmentsExist a listing → ReadsAll a listing later
  read_all later reads last there folder files = subst (λ n. HasMerged folder listing (suc n) later) last (read_more later reads folder files there)

  module _ (c : View) (later : ReplayState) (at : ℕ) (same : Changes Same b c) (replays : ReplaysSegment b c listing number at now later) where
    merged_next : (logs : List (List Mutation)) → IsTold a → (n : IsNextLeft a listing number now logs) → (later ≡ after_segments listing.tables listing.floor (empty_state listing) (n.done ++ n.next ∷ [])) × IsAtLogEnd c (log_name number) at n.next
    merged_next logs told n =
        let segment = replays n.next (told_after Same a b on.same told) (file_durable_on n.next n.kept) in (
          segment.0 ∙ ap (λ s. after_segment listing.tables number s n.next) n.state ∙ ap (λ k. after_segment listing.tables k (after_segments listing.tables listing.floor (empty_state listing) n.done) n.next) (sym n.count)
              ∙ sym (segments_last listing.tables listing.floor (empty_state listing) n.done n.next),
          segment.1,
        )

    pub replayed_more : c.disk_faults ≡ b.disk_faults → c.out_faults ≡ b.out_faults → ReadsWithinPages b c (log_name number) → IsReplayOf listing later → ReadsSegment b listing number now later → HasReplayed a c listing (number + 1) later
    replayed_more disk out once maps reads = record {
      from_floor = omega (arith, on.from_floor);
      same = then_same a b c Same on.same same;
      disk = disk ∙ on.disk;
      out = out ∙ on.out;
      reads_left = λ folder files there. live_more a b c listing number within on.same folder files (there number on.from_floor within) (on.reads_left folder files there) once;
      maps = maps;
      read = λ folder files there. (let following : suc number ≡ number + 1 = omega arith in subst (λ k. HasMerged folder listing k later) following (read_more later reads folder files there));
      merged = λ logs told live kept. (
          let n = next_of logs told live kept in
          let following : suc number ≡ number + 1 = omega arith in
          record {
            done = n.done ++ n.next ∷ [];
            left = n.others;
            parts = n.parts ∙ sym (append_assoc n.done (n.next ∷ []) n.others);
            count = omega (arith, n.count, length-append n.done (n.next ∷ []));
            kept = subst (λ k. KeepsSegments a (types_listed listing) k n.others) following n.others_kept;
            state = (merged_next logs told n).0;
          }
          );
    }

    -- where it is the last, all are merged
    pub replayed_all : number ≡ listing.last → Replays a c listing at later
    unfolding replayed_state
    replayed_all last logs told live kept =
        let n = next_of logs told live kept in
        let merged = merged_next logs told n in
        let none : n.others ≡ [] = no_more n.others (omega (arith, last, live, n.count, ap length n.parts, length-append n.done (n.next ∷ n.others))) in
        let all : n.done ++ n.next ∷ [] ≡ logs = sym (n.parts ∙ ap (λ l. n.done ++ n.next ∷ l) none) in
        (merged.0 ∙ ap (after_segments listing.tables listing.floor (empty_state listing)) all, (n.done, n.next, sym all, subst (λ k. IsAtLogEnd c (log_name k) at n.next) last merged.1))

  -- ---- reads

  -- after one segment more, to its end or to an error, the live segments were read within their pages
  pub live_once : (c : View) → LiveSegmentsExist a listing → ReadsWithinPages b c (log_name number) → ReadsLiveOnce a c listing
  live_once c there once folder files = live_within a b c listing number within on.same folder files (there number on.from_floor within) (on.reads_left folder files there) once

  -- ---- damage

  pub shown_among : (f : ReadFault) → SegmentShowsDamage b listing number f → ReplayShowsDamage a listing f
  shown_among fault.Failed shown = tt
  shown_among fault.OutOfMemory shown = tt
  shown_among (fault.Damaged damage) shown = (number, on.from_floor, within, λ bytes told. shown bytes (contents_same a b (log_name number) on.same ∙ told))

  pub no_false_damage_among : (f : ReadFault) → NoFalseSegmentDamage b listing number f → NoFalseReplayDamage a listing f
  no_false_damage_among fault.Failed no_false = tt
  no_false_damage_among fault.OutOfMemory no_false = tt
  no_false_damage_among (fault.Damaged damage) no_false = λ logs told live kept.
      let n = next_of logs told live kept in
      no_false n.next (told_after Same a b on.same told) (file_durable_on n.next n.kept)
