-- A segment that is being replayed.
use Rattle.std.proofs.Common.{◌≡◌, ℕ, IsTrue, Bool, true, false, is_some, List, [], ◌∷◌, ◌++◌, map, Option, Some, None, refl, sym, ap, subst, ◌∙◌, inl, append_assoc}
use Rattle.std.proofs.lemmas.List.{append-nil, map-append}
use Rattle.std.specs.List.{AllByRecursion}
use Rattle.sasi_host.specs.declared.name.FileName.{FileName}
use Rattle.sasi_host.specs.declared.fault.ReadFault.{ReadFault}
use Rattle.sasi_host.specs.declared.fault.ReadFault.TheVariants as fault
use Rattle.sasi_host.specs.Names.{Bytes, log_name}
use Rattle.sasi_host.specs.Buffered.{IsBuffered}
use Rattle.sasi_host.specs.Sequential.{ReadsEachOnce, ReadsNoFurther, ReadsWithinPages}
use Rattle.sasi_host.proofs.ContentLaws.{contents_same, there_where, told_after}
use Rattle.sasi_host.specs.Disk.{Changes, IsFileDurable, Same}
use Rattle.sasi_host.proofs.Durability.{file_durable_contents}
use Rattle.sasi_host.proofs.ChangeLaws.{then_same}
use Rattle.sasi_host.specs.View.{View, IsSound, IsThere, IsTold, contents}
use Rattle.sasi_gated.specs.Format.{IsGated}
use Rattle.sasi_gated.specs.Gates.{IsAtGate}
use Rattle.sasi_gated.proofs.Laws.{gated_at}
use Rattle.sasi_gated.specs.Reads.{HasHeader, GatedDamageShown, NoFalseGatedDamage}
use Rattle.sasi_gated.specs.Handles.{Handle}
use Rattle.sasi_gated.specs.ReadCosts.{OpensSequential}
use Rattle.sasi_gated.proofs.ReadCostLaws.{fails_within, opens_on, opens_within}
use Rattle.sasi_cells.specs.declared.mutation.Mutation.{Mutation}
use Rattle.sasi_commitlog.specs.Damages.{ShowsLog}
use Rattle.sasi_commitlog.specs.Format.{IsLog, IsMutationOf, Tables, payload_of}
use Rattle.sasi_commitlog.specs.Reads.{IsLogDamageAt, ReadsLogGate, ReadsMutation, ReadsMutations, ReadsNext, NoFalseLogDamage}
use Rattle.sasi_commitlog.specs.LogPosition.{IsAtLogEnd, IsReadingLog}
use Rattle.sasi_manifest.specs.declared.listing.Listing.{Listing}
use Rattle.sasi_recover.specs.ReplayState.{ReplayState, after_mutation, after_segment}
use Rattle.sasi_recover.proofs.ReplayLaws.{segment_more}
use Rattle.sasi_folder.specs.FolderContents.{types_listed}
use Rattle.sasi_recover.specs.Replaying.{MergesNext, after_read, SegmentShowsDamage, KeepsSegment, ReadsSegment, ReplaysSegment, NoFalseSegmentDamage}

-- so many mutations of a segment were merged, and these are left
pub record MergedSome (b : View) (listing : Listing) (number at : ℕ) (before now : ReplayState) (mutations : List Mutation) : Type 0 where
  pub done : List Mutation
  pub left : List Mutation
  pub parts : mutations ≡ done ++ left
  pub reading : IsReadingLog b (log_name number) at (types_listed listing) done left
  pub state : now ≡ after_segment listing.tables number before done

-- so many mutations of the segment as it reads were merged, and the gate behind them stands at this offset
pub record ReadSome (bytes : Bytes) (listing : Listing) (number at : ℕ) (before now : ReplayState) : Type 0 where
  pub done : List Mutation
  pub rest : Bytes
  pub at_gate : IsAtGate (log_name number) bytes at (map payload_of done) rest
  pub of_tables : AllByRecursion (IsMutationOf (types_listed listing)) done
  pub state : now ≡ after_segment listing.tables number before done

-- a segment is being replayed
pub record IsReplaying (a b : View) (listing : Listing) (number : ℕ) (log : Handle) (before now : ReplayState) : Type 0 where
  pub file : log.file ≡ log_name number
  pub usable : IsTrue log.usable
  pub there : IsThere b (log_name number)
  pub same : Changes Same a b
  pub disk : b.disk_faults ≡ a.disk_faults
  pub out : b.out_faults ≡ a.out_faults
  pub buffered : IsBuffered log.buffered b.files
  pub once : OpensSequential a b log
  pub read : (bytes : Bytes) → contents a (log_name number) ≡ Some bytes → ReadSome bytes listing number log.at before now
  pub merged : (mutations : List Mutation) → IsTold a → KeepsSegment a (types_listed listing) number mutations → MergedSome b listing number log.at before now mutations

all_join : {A : Type 0} (P : A → Type 0) (xs : List A) (x : A) → AllByRecursion P xs → P x → AllByRecursion P (xs ++ x ∷ [])
all_join P [] x all one = (one, tt)
all_join P (y ∷ ys) x all one = (all.0, all_join P ys x all.1 one)

-- ---- the beginning

pub begins_replay : (a b : View) (listing : Listing) (number : ℕ) (log : Handle) (s : ReplayState) → IsThere a (log_name number) → log.file ≡ log_name number → IsTrue log.usable → Changes Same a b → b.disk_faults ≡ a.disk_faults → b.out_faults ≡ a.out_faults → IsBuffered log.buffered b.files → OpensSequential a b log
    → HasHeader a (log_name number) log.at → ((tables : Tables) (bytes : Bytes) (mutations : List Mutation) → IsFileDurable a (log_name number) bytes → IsLog number tables bytes mutations → IsReadingLog b (log_name number) log.at tables [] mutations)
    → IsReplaying a b listing number log s s
begins_replay a b listing number log s there file usable same disk out buffered once begins mutations_are = record {
  file = file;
  usable = usable;
  there = there_where a b Same (log_name number) same (contents_same a b (log_name number) same) there;
  same = same;
  disk = disk;
  out = out;
  buffered = buffered;
  once = once;
  read = λ bytes is. (let at = begins bytes is in record { done = []; rest = at.0; at_gate = at.1; of_tables = tt; state = refl });
  merged = λ mutations told kept. record { done = []; left = mutations; parts = refl; reading = mutations_are (types_listed listing) kept.0 mutations kept.1 kept.2; state = refl };
}

-- ---- one mutation more

module _ (a b : View) (listing : Listing) (number : ℕ) (log : Handle) (before now : ReplayState) (on : IsReplaying a b listing number log before now) where
  -- what the segment read at first, it reads still
  still : (bytes : Bytes) → contents a (log_name number) ≡ Some bytes → contents b log.file ≡ Some bytes
  still bytes is = ap (contents b) on.file ∙ contents_same a b (log_name number) on.same ∙ is

  gate_here : (bytes : Bytes) → contents a (log_name number) ≡ Some bytes → (done : List Bytes) × (rest : Bytes) × IsAtGate log.file bytes log.at done rest
  gate_here bytes is = let some = on.read bytes is in (map payload_of some.done, some.rest, subst (λ (f : FileName). IsAtGate f bytes log.at (map payload_of some.done) some.rest) (sym on.file) some.at_gate)

  -- ---- reads

  -- each page was read once, so far and by one read more
  once_more : (c : View) (new : Handle) → new.file ≡ log.file → ReadsEachOnce b c log.file log.buffered.page new.buffered.page new.at → OpensSequential a c new
  once_more c new file once = opens_on a b c log new (contents_same a b log.file on.same) file on.once once

  -- and so up to the end, and up to an error
  pub once_to_end : (c : View) (new : Handle) → new.file ≡ log.file → ReadsEachOnce b c log.file log.buffered.page new.buffered.page new.at
      → ReadsWithinPages a c (log_name number)
  once_to_end c new file once = subst (λ (f : FileName). ReadsWithinPages a c f) (file ∙ on.file) (opens_within a c new (once_more c new file once))

  pub once_to_error : (c : View) → ReadsNoFurther b c log.file log.buffered.page log.at → ReadsWithinPages a c (log_name number)
  once_to_error c further = subst (λ (f : FileName). ReadsWithinPages a c f) on.file
      (fails_within a b c log (contents_same a b log.file on.same) on.once further)

  -- ---- one read more

  module _ (c : View) (new : Handle) (read : Option Mutation) (same : Changes Same b c) (file : new.file ≡ log.file) (gate : ReadsLogGate b log.file (types_listed listing) log.at new.at read) (reads : ReadsMutations b c log.file (types_listed listing) log.at new.at read) where
    next_read : (mutations : List Mutation) (told : IsTold a) (kept : KeepsSegment a (types_listed listing) number mutations) → (some : MergedSome b listing number log.at before now mutations) → ReadsNext read c (log_name number) new.at (types_listed listing) some.done some.left
    next_read mutations told kept some =
        subst (λ (f : FileName). ReadsNext read c f new.at (types_listed listing) some.done some.left) on.file
        (reads some.done some.left (told_after Same a b on.same told) (subst (λ (f : FileName). IsReadingLog b f log.at (types_listed listing) some.done some.left) (sym on.file) some.reading))

    merges : (m : Mutation) → read ≡ Some m → (later : ReplayState) → later ≡ after_mutation listing.tables number now m → (mutations : List Mutation) → (some : MergedSome b listing number log.at before now mutations) (left : List Mutation) → some.left ≡ left
        → ReadsNext (Some m) c (log_name number) new.at (types_listed listing) some.done left → MergedSome c listing number new.at before later mutations
    merges m is later became mutations some [] left_is next = absurd next
    merges m is later became mutations some (first ∷ others) left_is (first_is, reading) = record {
      done = some.done ++ first ∷ [];
      left = others;
      parts = some.parts ∙ ap (λ l. some.done ++ l) left_is ∙ sym (append_assoc some.done (first ∷ []) others);
      reading = reading;
      state = became ∙ ap (λ s. after_mutation listing.tables number s m) some.state ∙ ap (after_mutation listing.tables number (after_segment listing.tables number before some.done)) first_is ∙ sym (segment_more listing.tables number before some.done first);
    }

    -- what is read at the gate behind the mutations that were merged
    read_here : (bytes : Bytes) → (told : contents a (log_name number) ≡ Some bytes) → (some : ReadSome bytes listing number log.at before now) → ReadsMutation read (types_listed listing) (log_name number) bytes new.at (map payload_of some.done) some.rest
    read_here bytes told some =
        let at = subst (λ (f : FileName). IsAtGate f bytes log.at (map payload_of some.done) some.rest) (sym on.file) some.at_gate in
        subst (λ (f : FileName). ReadsMutation read (types_listed listing) f bytes new.at (map payload_of some.done) some.rest) on.file (gate bytes (map payload_of some.done) some.rest (still bytes told) at)

    read_more : (m : Mutation) → read ≡ Some m → (later : ReplayState) → later ≡ after_mutation listing.tables number now m → (bytes : Bytes) → contents a (log_name number) ≡ Some bytes → ReadSome bytes listing number new.at before later
    read_more m is later became bytes told =
        let some = on.read bytes told in
        let opened = subst (λ (r : Option Mutation). ReadsMutation r (types_listed listing) (log_name number) bytes new.at (map payload_of some.done) some.rest) is (read_here bytes told some) in
        record {
          done = some.done ++ m ∷ [];
          rest = opened.1.0;
          at_gate = subst (λ (l : List Bytes). IsAtGate (log_name number) bytes new.at l opened.1.0) (sym (map-append payload_of some.done (m ∷ []))) opened.1.2;
          of_tables = all_join (IsMutationOf (types_listed listing)) some.done m some.of_tables opened.0;
          state = became ∙ ap (λ s. after_mutation listing.tables number s m) some.state ∙ sym (segment_more listing.tables number before some.done m);
        }

    pub replays_more : (m : Mutation) → read ≡ Some m → (later : ReplayState) → later ≡ after_mutation listing.tables number now m → IsTrue new.usable → c.disk_faults ≡ b.disk_faults → c.out_faults ≡ b.out_faults → IsBuffered new.buffered c.files
        → ReadsEachOnce b c log.file log.buffered.page new.buffered.page new.at → IsReplaying a c listing number new before later
    replays_more m is later became usable disk out buffered once = record {
      file = file ∙ on.file;
      usable = usable;
      there = there_where b c Same (log_name number) same (contents_same b c (log_name number) same) on.there;
      same = then_same a b c Same on.same same;
      disk = disk ∙ on.disk;
      out = out ∙ on.out;
      buffered = buffered;
      once = once_more c new file once;
      read = λ bytes told. read_more m is later became bytes told;
      merged = λ mutations told kept. (
          let some = on.merged mutations told kept in
          merges m is later became mutations some some.left refl (subst (λ (r : Option Mutation). ReadsNext r c (log_name number) new.at (types_listed listing) some.done some.left) is (next_read mutations told kept some))
          );
    }

    -- ---- the end

    ends : (mutations : List Mutation) (some : MergedSome b listing number log.at before now mutations) (left : List Mutation) → some.left ≡ left → ReadsNext None c (log_name number) new.at (types_listed listing) some.done left
        → (now ≡ after_segment listing.tables number before mutations) × IsAtLogEnd c (log_name number) new.at mutations
    ends mutations some [] left_is at_end =
        let all : some.done ≡ mutations = sym (some.parts ∙ ap (λ l. some.done ++ l) left_is ∙ append-nil some.done) in
        (some.state ∙ ap (after_segment listing.tables number before) all, subst (IsAtLogEnd c (log_name number) new.at) all at_end)
    ends mutations some (first ∷ others) left_is at_end = absurd at_end

    pub replayed_whole : read ≡ None → ReplaysSegment a c listing number new.at before now
    replayed_whole is mutations told kept =
        let some = on.merged mutations told kept in
        ends mutations some some.left refl (subst (λ (r : Option Mutation). ReadsNext r c (log_name number) new.at (types_listed listing) some.done some.left) is (next_read mutations told kept some))

    pub reads_whole : read ≡ None → ReadsSegment a listing number before now
    reads_whole is bytes told =
        let some = on.read bytes told in
        let closed = subst (λ (r : Option Mutation). ReadsMutation r (types_listed listing) (log_name number) bytes new.at (map payload_of some.done) some.rest) is (read_here bytes told some) in
        let gated = subst (λ (l : List Bytes). IsGated (log_name number) bytes l) (append-nil (map payload_of some.done)) (gated_at (log_name number) bytes log.at (map payload_of some.done) some.rest [] some.at_gate closed.1) in
        (some.done, record { gated = gated; of_tables = some.of_tables }, some.state)

  -- ---- what a read merged

  module _ (c : View) (new : Handle) (later : ReplayState) (is_more : Bool) (same : Changes Same b c) (next : MergesNext b c listing number log new now later is_more) where
    state_by : (read : Option Mutation) → next.read ≡ read → later ≡ after_read listing number now read
    state_by read is = next.state ∙ ap (after_read listing number now) is

    pub replays_next : is_more ≡ true → c.disk_faults ≡ b.disk_faults → c.out_faults ≡ b.out_faults → IsBuffered new.buffered c.files
        → ReadsEachOnce b c log.file log.buffered.page new.buffered.page new.at → IsReplaying a c listing number new before later
    replays_next more disk out buffered once = by next.read refl
      where
        by : (read : Option Mutation) → next.read ≡ read → IsReplaying a c listing number new before later
        by None is = (let e : true ≡ false = sym more ∙ next.more ∙ ap (λ (r : Option Mutation). is_some r) is in cc)
        by (Some m) is = replays_more c new next.read same next.file next.gate next.mutations m is later (state_by (Some m) is) next.usable disk out buffered once

    at_end : is_more ≡ false → next.read ≡ None
    at_end none = by next.read refl
      where
        by : (read : Option Mutation) → next.read ≡ read → next.read ≡ None
        by None is = is
        by (Some m) is = (let e : false ≡ true = sym none ∙ next.more ∙ ap (λ (r : Option Mutation). is_some r) is in cc)

    pub replayed_next : is_more ≡ false → ReplaysSegment a c listing number new.at before later
    replayed_next none =
        subst (λ (s : ReplayState). ReplaysSegment a c listing number new.at before s) (sym (state_by None (at_end none)))
        (replayed_whole c new next.read same next.file next.gate next.mutations (at_end none))

    pub reads_next : is_more ≡ false → ReadsSegment a listing number before later
    reads_next none =
        subst (λ (s : ReplayState). ReadsSegment a listing number before s) (sym (state_by None (at_end none)))
        (reads_whole c new next.read same next.file next.gate next.mutations (at_end none))

  -- ---- damage

  pub shown_on : (f : ReadFault) → IsLogDamageAt b log.file (types_listed listing) log.at f → SegmentShowsDamage a listing number f
  shown_on fault.Failed shown = tt
  shown_on fault.OutOfMemory shown = tt
  shown_on (fault.Damaged damage) shown = λ bytes told.
      let at = gate_here bytes told in
      subst (λ (f : FileName). ShowsLog (types_listed listing) f bytes damage) on.file (shown bytes at.0 at.1 (still bytes told) at.2)

  pub no_false_damage_on : (f : ReadFault) → NoFalseLogDamage b log.file (types_listed listing) log.at f → NoFalseSegmentDamage a listing number f
  no_false_damage_on fault.Failed no_false = tt
  no_false_damage_on fault.OutOfMemory no_false = tt
  no_false_damage_on (fault.Damaged damage) no_false = λ mutations told kept.
      let some = on.merged mutations told kept in
      no_false some.done some.left (told_after Same a b on.same told) (subst (λ (f : FileName). IsReadingLog b f log.at (types_listed listing) some.done some.left) (sym on.file) some.reading)

pub shown_first : (v : View) (listing : Listing) (number : ℕ) (f : ReadFault) → GatedDamageShown v (log_name number) f → SegmentShowsDamage v listing number f
shown_first v listing number fault.Failed shown = tt
shown_first v listing number fault.OutOfMemory shown = tt
shown_first v listing number (fault.Damaged damage) shown = λ bytes told. inl (shown bytes told)

pub no_false_damage_first : (v : View) (listing : Listing) (number : ℕ) (f : ReadFault) → IsSound v → NoFalseGatedDamage v (log_name number) f → NoFalseSegmentDamage v listing number f
no_false_damage_first v listing number fault.Failed sound no_false = tt
no_false_damage_first v listing number fault.OutOfMemory sound no_false = tt
no_false_damage_first v listing number (fault.Damaged damage) sound no_false = λ mutations told kept.
    no_false kept.0 (map payload_of mutations) (file_durable_contents v (log_name number) kept.0 sound told kept.1) kept.2.gated
