-- What a crash leaves of a whole run, from its folder's opening on.
use Rattle.std.proofs.Common.{◌≡◌, ◌⊎◌, ℕ, suc, List, [], ◌++◌, take, Option, Some, refl, sym, ◌∙◌, subst, inl, inr, ⊎_elim, arith}
use Rattle.std.proofs.lemmas.List.{append-nil}
use Rattle.std.specs.Io.KnownBytes.{Appends}
use Rattle.sasi_types.specs.declared.class.Class.{Class}
use Rattle.sasi_types.specs.declared.partitioner.Partitioner.{Partitioner}
use Rattle.sasi_types.specs.declared.partitioner.Partitioner.TheVariants.{Lead8}
use Rattle.sasi_host.specs.Names.{Folder}
use Rattle.sasi_host.specs.View.{IsSound, IsTold, LeavesNow, SourceView, View}
use Rattle.sasi_host.specs.Disk.{Changes, FromImage, Same}
use Rattle.sasi_host.proofs.ContentLaws.{told_files}
use Rattle.sasi_host.proofs.ChangeLaws.{changes_as, crash_leaves_on, since_start, stays}
use Rattle.sasi_layout.specs.Layout.{Layout, listing_of, state_of}
use Rattle.sasi_layout.specs.Running.{Crashed, after_pieces, replies_of}
use Rattle.sasi_layout.specs.Serving.{Ended, closed}
use Rattle.sasi_layout.specs.Shape.{ShapeOf, Stands}
use Rattle.sasi_layout.specs.NumbersInOrder.{HasNumbersInOrder}
use Rattle.sasi_store.specs.Worlds.{ServesWorld, new_world, steps}
use Rattle.sasi_layout.proofs.LayoutLaws.{bare_state}
use Rattle.sasi_model.specs.Pieces.{Piece, all_pieces}
use Rattle.sasi_model.specs.State.{State}
use Rattle.sasi_model.specs.Parsers.{grammar_parser}
use Rattle.sasi_model.specs.Step.{state_after}
use Rattle.sasi_cql.proofs.Parsing.{is_parser}
use Rattle.sasi_manifest.proofs.Consistency.{manifest_consistent}
use Rattle.sasi_recover.proofs.OpenedStore.{shape_in_order}
use Rattle.sasi_recover.specs.declared.fault.OpenFault.{OpenFault}
use Rattle.sasi_recover.specs.declared.fault.OpenFault.TheVariants as open_fault
use Rattle.sasi_store.specs.declared.store.Store.{Store}
use Rattle.sasi_run.specs.Crashing.{CrashLeavesPieces, IsOfState, RunsCrashSafe, RunsWorld}
use Rattle.sasi_run.specs.Headline.{AreReplies, EmitsByStatus, EmitsFirstReplies, EndsWith, Headline, RanToEnd, ReadsToEnd, Replies, Runs, RunsAsModel, RunsFrom, StartsFrom, but_stored, first_of, script_of, status_of_fault}
use Rattle.sasi_run.specs.Recovering.{IsStateAfter, Recovers}
use Rattle.sasi_run.specs.Shapes.{answers_of, HasShapeOfImage, LeavesShape, Shapes, StandsForEnd, StartsFromLayout}
use Rattle.sasi_model.specs.Sessions.{new_session}
use Rattle.sasi_run.specs.declared.status.Status.{Status}
use Rattle.sasi_run.specs.declared.status.Status.TheVariants.{Usage}
use Rattle.sasi_run.proofs.ConsumedBytes.{consumes_nothing}
use Rattle.sasi_run.proofs.Moments as moments
use Rattle.sasi_run.proofs.Moments.{by_state, by_states}
use Rattle.sasi_run.proofs.ValidWorlds.{new_valid}
use Rattle.sasi_run.proofs.Recovering.{IsStateIn, after_crash, counted, nothing_shown}
use Rattle.sasi_run.proofs.Running.{one_of}
use Rattle.sasi_run.proofs.RunParts.{appends_none}
use Rattle.sasi_run.proofs.Worlds.{answers_are, state_is}

-- the folder is as it was, or has the shape of the layout
abbrev pub UnchangedOrShaped : Option Partitioner → Layout → Folder → Folder → Type 0
UnchangedOrShaped asked l x y = (y ≡ x) ⊎ ShapeOf asked y l

-- the numbers of a layout whose shape a folder has are in order
pub shape_order : (asked : Option Partitioner) (folder : Folder) (l : Layout) → ShapeOf asked folder l → HasNumbersInOrder l
shape_order asked folder l (inl (fresh, new)) = subst HasNumbersInOrder (sym new) (record { files = tt; indexes = tt })
shape_order asked folder l (inr (logs, has)) = shape_in_order folder l logs has (manifest_consistent l.used.manifest has.manifest.0 (listing_of l) has.manifest.2)

-- ---- the start, and the opening

module _ (asked : Option Partitioner) (a : View) (l : Layout) (starts : StartsFromLayout asked a l) (before : List ℕ) (emitted : a.emitted ≡ Some before) where
  from_image : (folder image : Folder) (out : List ℕ) (m : Layout) → a.emitted ≡ Some out → a.image image → ShapeOf asked image m → ShapeOf asked folder m
      → HasShapeOfImage asked a before folder out
  from_image folder image out m said was had has =
      record { nothing = one_of out before (sym said ∙ emitted); image = image; was = was; shape = m; had = had; has = has }

  at_start : (folder : Folder) (out : List ℕ) → LeavesNow a folder out → HasShapeOfImage asked a before folder out
  at_start folder out now = let had = starts.images folder now.0 in from_image folder folder out had.0 now.1 now.0 had.1 had.1

  while_opening : IsSound a → (folder : Folder) (out : List ℕ) → FromImage (UnchangedOrShaped asked l) a folder out → HasShapeOfImage asked a before folder out
  while_opening sound folder out (was, image, opens, said) =
      let had = starts.images was image in
      ⊎_elim
      (λ same. from_image folder was out had.0 said image had.1 (subst (λ (f : Folder). ShapeOf asked f had.0) (sym same) had.1))
      (λ has. from_image folder starts.folder out l said (sound.reads starts.folder starts.reads) starts.shape has)
      opens

  -- the run stopped in the opening
  pub leaves_opening : (b : View) → IsSound a → Changes (UnchangedOrShaped asked l) a b → (folder : Folder) (out : List ℕ) → b.left a.moment folder out
      → HasShapeOfImage asked a before folder out
  leaves_opening b sound change folder out left = ⊎_elim (at_start folder out) (while_opening sound folder out)
      (since_start a b (FromImage (UnchangedOrShaped asked l) a) sound change.during folder out left)

  module _ (pieces : List Piece) where
    -- it went on behind it
    pub leaves_run : (b c : View) → IsSound a → Changes (UnchangedOrShaped asked l) a b → CrashLeavesPieces b c (new_world l) pieces → (folder : Folder)
        (out : List ℕ) → c.left a.moment folder out → LeavesShape grammar_parser asked a l pieces before folder out
    leaves_run b c sound change leaves folder out left =
        let both = crash_leaves_on a b c (FromImage (UnchangedOrShaped asked l) a) (Crashed steps (new_world l) before pieces)
        (λ x e. LeavesShape grammar_parser asked a l pieces before x e) change.during (leaves before (change.emitted ∙ emitted))
        (λ x e p. inl (while_opening sound x e p)) (λ x e p. inr p) in
        ⊎_elim (λ now. inl (at_start folder out now)) (λ r. r)
        (since_start a c (λ x e. LeavesShape grammar_parser asked a l pieces before x e) sound both folder out left)

    -- ---- by states

    pub recovers_image : (answers : List (List ℕ)) (folder : Folder) (out : List ℕ) → HasShapeOfImage asked a before folder out
        → Recovers Stands grammar_parser asked a (state_of l) pieces answers before folder out
    recovers_image answers folder out is =
        let n = counted answers [] in
        record {
          shown = [];
          went = is.nothing ∙ sym (append-nil before);
          count = n.0;
          whole = n.1;
          next = nothing_shown answers n.0 n.1;
          state = state_of is.shape;
          stands = record { shape = is.shape; has = is.has; state_is = refl };
          after = inl (record { nothing = refl; image = is.image; was = is.was; stood = record { shape = is.shape; has = is.had; state_is = refl } });
        }

    -- the state is that of the model
    by_model : HasNumbersInOrder l → (n : ℕ) (s : State) → IsStateIn steps (new_world l) pieces n s → IsStateAfter grammar_parser (state_of l) pieces n s
    by_model in_order n s is = ⊎_elim
        (λ here. inl (here ∙ state_is (take n pieces) (new_world l) (new_valid l in_order)))
        (λ later. inr (later.0, later.1 ∙ state_is (take (suc n) pieces) (new_world l) (new_valid l in_order)))
        is

    from_moment : HasNumbersInOrder l → (folder : Folder) (out shown : List ℕ) → out ≡ before ++ shown → moments.Crashed steps (new_world l) before pieces folder out
        → Recovers Stands grammar_parser asked a (state_of l) pieces (answers_of steps (new_world l) pieces) before folder out
    from_moment in_order folder out shown went was =
        let n = counted (answers_of steps (new_world l) pieces) shown in
        let after = after_crash steps by_state (new_world l) (new_valid l in_order) before pieces folder out shown went n.0 n.1 was in
        record {
          shown = shown;
          went = went;
          count = n.0;
          whole = n.1;
          next = after.0;
          state = after.1.0;
          stands = record { shape = after.1.1.shape; has = inr after.1.1.has; state_is = after.1.1.state_is };
          after = inr (by_model in_order n.0 after.1.0 after.1.2);
        }

    pub recovers : HasNumbersInOrder l → (folder : Folder) (out : List ℕ) → LeavesShape grammar_parser asked a l pieces before folder out
        → Recovers Stands grammar_parser asked a (state_of l) pieces (answers_of steps (new_world l) pieces) before folder out
    recovers in_order folder out left = ⊎_elim (recovers_image (answers_of steps (new_world l) pieces) folder out)
        (λ crashed.
        (let was = by_states steps by_state (new_world l) (new_valid l in_order) before folder out pieces crashed in
        ⊎_elim (λ quiet. from_moment in_order folder out (replies_of steps (new_world l) was.done) quiet.went was)
        (λ answering. from_moment in_order folder out (replies_of steps (new_world l) was.done ++ answering.front) answering.went was) was.stands))
        left

-- ---- the end

-- a store whose use has ended leaves the files of its layout
stands_for_end : (v : View) (l : Layout) (s : State) → IsSound v → IsTold v → Ended v (closed l) → state_of l ≡ s → StandsForEnd v (closed l) s
stands_for_end v l s sound told ended is =
    let files = told_files v told in
    record {
      folder = files.0;
      reads = files.1;
      exactly = ended.exactly files.0 files.1;
      shape = ended.shape files.0 (sound.reads files.0 files.1);
      images = λ image now. ended.shape image now;
      state_is = bare_state l ∙ is;
    }

-- ---- what a run does

-- the replies from a layout
pub record RunsByLayout (status : Status) (l : Layout) (left_old left_new out_old out_new : Option (List ℕ)) : Type 0 where
  pub answers : List (List ℕ)
  pub runs : Runs grammar_parser (first_of answers) status (state_of l) left_old left_new out_old out_new
  pub replied : answers ≡ answers_of steps (new_world l) (all_pieces (script_of left_old runs.read))

-- each of them is that of the model
abbrev pub replies_as_model : (status : Status) (l : Layout) (left_old left_new out_old out_new : Option (List ℕ)) → HasNumbersInOrder l → RunsByLayout status l left_old left_new out_old out_new
    → RunsAsModel grammar_parser status (state_of l) left_old left_new out_old out_new
replies_as_model status l left_old left_new out_old out_new in_order is = record {
  answers = is.answers;
  runs = is.runs;
  replied = subst (λ (rs : List (List ℕ)). AreReplies grammar_parser new_session (state_of l) (all_pieces (script_of left_old is.runs.read)) rs) (sym is.replied)
      (answers_are (all_pieces (script_of left_old is.runs.read)) (new_world l) (new_valid l in_order));
}

-- the replies from a layout, and what a crash leaves of it by states and by shapes
pub record RunsWhole (asked : Option Partitioner) (status : Status) (l : Layout) (left_old left_new : Option (List ℕ)) (host_old host_new : View) : Type 0 where
  pub by_layout : RunsByLayout status l left_old left_new host_old.emitted host_new.emitted
  pub crash : (before : List ℕ) → host_old.emitted ≡ Some before → (folder : Folder) (out : List ℕ) → host_new.left host_old.moment folder out
      → Recovers Stands grammar_parser asked host_old (state_of l) (all_pieces (script_of left_old by_layout.runs.read)) by_layout.answers before folder out
  pub shapes : (before : List ℕ) → host_old.emitted ≡ Some before → (folder : Folder) (out : List ℕ) → host_new.left host_old.moment folder out
      → LeavesShape grammar_parser asked host_old l (all_pieces (script_of left_old by_layout.runs.read)) before folder out
  pub ends : RanToEnd status → StandsForEnd host_new (closed (after_pieces steps (new_world l) (all_pieces (script_of left_old by_layout.runs.read))).layout)
      (state_after (state_of l) (all_pieces (script_of left_old by_layout.runs.read)))

-- what a run does, from each layout
pub record Whole (asked : Option Partitioner) (status : Status) (script_old script_new : SourceView) (host_old host_new : View) : Type 0 where
  pub on_every_host : (s : State) × Runs grammar_parser (but_stored grammar_parser) status s script_old.left script_new.left host_old.emitted host_new.emitted
  pub as_it_reads : (folder : Folder) (l : Layout) → host_old.files ≡ Some folder → ShapeOf asked folder l
      → RunsAsModel grammar_parser status (state_of l) script_old.left script_new.left host_old.emitted host_new.emitted
  pub shows : (l : Layout) → StartsFromLayout asked host_old l → RunsWhole asked status l script_old.left script_new.left host_old host_new

-- the words named no script
unfoldable pub nothing_runs : (r : Replies) (s : State) (l o : Option (List ℕ)) → Runs grammar_parser r Usage s l l o o
nothing_runs r s l o = record {
  read = [];
  shown = [];
  consumed = consumes_nothing l;
  emitted = appends_none o;
  at_end = tt;
  shows = (refl, refl);
  bounded = omega arith;
}

-- the replies to a script of which nothing is read
abbrev pub unread_answers : Layout → Option (List ℕ) → List (List ℕ)
unread_answers l left = answers_of steps (new_world l) (all_pieces (script_of left []))

-- nothing was run from a layout
unfoldable pub nothing_by_layout : (l : Layout) (left out : Option (List ℕ)) → RunsByLayout Usage l left left out out
unfolding nothing_runs
nothing_by_layout l left out = record { answers = unread_answers l left; runs = nothing_runs (first_of (unread_answers l left)) (state_of l) left out; replied = refl }

runs_nothing : (asked : Option Partitioner) (a : View) (m : Layout) (l : Option (List ℕ)) → IsSound a → StartsFromLayout asked a m
    → RunsWhole asked Usage m l l a a
runs_nothing asked a m l sound starts =
    let same : Changes (UnchangedOrShaped asked m) a a = changes_as a a Same (UnchangedOrShaped asked m) (stays a) (λ x y is. inl is) in
    record {
      by_layout = nothing_by_layout m l a.emitted;
      crash = λ before emitted folder out left. recovers_image asked a m starts before emitted _ _ folder out (leaves_opening asked a m starts before emitted a sound same folder out left);
      shapes = λ before emitted folder out left. inl (leaves_opening asked a m starts before emitted a sound same folder out left);
      ends = λ is. absurd is;
    }

abbrev pub nothing_read : (r : Replies) (s : State) (script : List ℕ) → r.all s [] [] → EmitsFirstReplies r s script [] []
nothing_read r s script none = record {
  done = [];
  first = record {
    rest = all_pieces script;
    parts = refl;
    left_over = all_pieces [];
    of_read = refl;
    before = [];
    last = [];
    reads = refl;
    short = omega arith;
    more = [];
    has = refl;
  };
  replied = none;
}

pub first_shows : (r : Replies) (fault : OpenFault) (s : State) (script : List ℕ) → r.all s [] [] → EmitsByStatus grammar_parser r (status_of_fault fault) s script [] []
first_shows r open_fault.Failed s script none = nothing_read r s script none
first_shows r open_fault.OutOfMemory s script none = nothing_read r s script none
first_shows r (open_fault.Damaged damage) s script none = nothing_read r s script none
first_shows r (open_fault.AnalyzerMissing class) s script none = nothing_read r s script none
first_shows r (open_fault.PartitionerDiffers asked kept) s script none = (refl, refl)

pub first_anywhere : (fault : OpenFault) (left : Option (List ℕ)) → ReadsToEnd (status_of_fault fault) left
first_anywhere open_fault.Failed left = tt
first_anywhere open_fault.OutOfMemory left = tt
first_anywhere (open_fault.Damaged damage) left = tt
first_anywhere (open_fault.AnalyzerMissing class) left = tt
first_anywhere (open_fault.PartitionerDiffers asked kept) left = tt

-- the folder wasn't opened
unfoldable pub first_runs : (r : Replies) (fault : OpenFault) (s : State) (l o o2 : Option (List ℕ)) → r.all s [] [] → Appends o o2 [] → Runs grammar_parser r (status_of_fault fault) s l l o o2
first_runs r fault s l o o2 none silent = record {
  read = [];
  shown = [];
  consumed = consumes_nothing l;
  emitted = silent;
  at_end = first_anywhere fault l;
  shows = first_shows r fault s (script_of l []) none;
  bounded = omega arith;
}

not_ended : (fault : OpenFault) → RanToEnd (status_of_fault fault) → ⊥
not_ended open_fault.Failed is = is
not_ended open_fault.OutOfMemory is = is
not_ended (open_fault.Damaged damage) is = is
not_ended (open_fault.AnalyzerMissing class) is = is
not_ended (open_fault.PartitionerDiffers asked kept) is = is

unfoldable pub unopened_by_layout : (fault : OpenFault) (l : Layout) (left out out2 : Option (List ℕ)) → Appends out out2 []
    → RunsByLayout (status_of_fault fault) l left left out out2
unfolding first_runs
unopened_by_layout fault l left out out2 silent =
    record { answers = unread_answers l left; runs = first_runs (first_of (unread_answers l left)) fault (state_of l) left out out2 refl silent; replied = refl }

runs_unopened : (asked : Option Partitioner) (fault : OpenFault) (a b : View) (m : Layout) (l : Option (List ℕ)) → IsSound a → StartsFromLayout asked a m
    → Appends a.emitted b.emitted [] → Changes (UnchangedOrShaped asked m) a b → RunsWhole asked (status_of_fault fault) m l l a b
runs_unopened asked fault a b m l sound starts silent change = record {
  by_layout = unopened_by_layout fault m l a.emitted b.emitted silent;
  crash = λ before emitted folder out left. recovers_image asked a m starts before emitted _ _ folder out (leaves_opening asked a m starts before emitted b sound change folder out left);
  shapes = λ before emitted folder out left. inl (leaves_opening asked a m starts before emitted b sound change folder out left);
  ends = λ is. absurd (not_ended fault is);
}

-- the opening emits nothing
unfoldable pub moved : (r : Replies) (status : Status) (s : State) (l l2 o p q : Option (List ℕ)) → o ≡ p → Runs grammar_parser r status s l l2 o q → Runs grammar_parser r status s l l2 p q
moved r status s l l2 o p q same runs = record {
  read = runs.read;
  shown = runs.shown;
  consumed = runs.consumed;
  emitted = subst (λ (x : Option (List ℕ)). Appends x q runs.shown) same runs.emitted;
  at_end = runs.at_end;
  shows = runs.shows;
  bounded = runs.bounded;
}

-- the replies behind the opening
unfoldable pub by_layout_behind : {kinds : List Class} (status : Status) (l : Layout) (left later : Option (List ℕ)) (b a c : View) → b.emitted ≡ a.emitted
    → RunsWorld kinds status (new_world l) left later b c → RunsByLayout status l left later a.emitted c.emitted
unfolding moved
by_layout_behind status l left later b a c same on =
    record { answers = on.answers; runs = moved (first_of on.answers) status (state_of l) left later b.emitted a.emitted c.emitted same on.runs; replied = on.replied }

-- it was opened, and the script run
runs_opened : {kinds : List Class} (asked : Option Partitioner) (status : Status) (a b c : View) (m : Layout) (store : Store) (l l2 : Option (List ℕ)) → IsSound a
    → StartsFromLayout asked a m → Changes (UnchangedOrShaped asked m) a b → ServesWorld b store (new_world m) → IsSound c
    → RunsWorld kinds status (new_world m) l l2 b c → RunsWhole asked status m l l2 a c
unfolding by_layout_behind
runs_opened asked status a b c m store l l2 sound starts change serves sound_c on = record {
  by_layout = by_layout_behind status m l l2 b a c change.emitted on;
  crash = λ before emitted folder out left.
      subst (λ (rs : List (List ℕ)). Recovers Stands grammar_parser asked a (state_of m) (all_pieces (script_of l on.runs.read)) rs before folder out) (sym on.replied)
      (recovers asked a m starts before emitted (all_pieces (script_of l on.runs.read)) serves.serves.in_order folder out
      (leaves_run asked a m starts before emitted (all_pieces (script_of l on.runs.read)) b c sound change on.crashes folder out left));
  shapes = λ before emitted folder out left. leaves_run asked a m starts before emitted (all_pieces (script_of l on.runs.read)) b c sound change on.crashes folder out left;
  ends = λ ran. stands_for_end c (after_pieces steps (new_world m) (all_pieces (script_of l on.runs.read))).layout _ sound_c (on.told ran) (on.ends ran)
      (state_is (all_pieces (script_of l on.runs.read)) (new_world m) (new_valid m serves.serves.in_order));
}

-- ---- from each layout

-- a state without tables
abbrev pub no_tables : State
no_tables = record { partitioner = Lead8; tables = [] }

-- the words name no script
pub whole_unused : (asked : Option Partitioner) (script : SourceView) (a : View) → IsSound a → Whole asked Usage script script a a
whole_unused asked script a sound = record {
  on_every_host = (no_tables, nothing_runs (but_stored grammar_parser) no_tables script.left a.emitted);
  as_it_reads = λ folder l files shape. replies_as_model Usage l script.left script.left a.emitted a.emitted (shape_order asked folder l shape) (nothing_by_layout l script.left a.emitted);
  shows = λ l starts. runs_nothing asked a l script.left sound starts;
}

-- the folder wasn't opened
pub whole_unopened : (asked : Option Partitioner) (fault : OpenFault) (script : SourceView) (a b : View) → IsSound a → Appends a.emitted b.emitted []
    → ((folder : Folder) (l : Layout) → a.files ≡ Some folder → ShapeOf asked folder l → Changes (UnchangedOrShaped asked l) a b)
    → Whole asked (status_of_fault fault) script script a b
whole_unopened asked fault script a b sound silent change = record {
  on_every_host = (no_tables, first_runs (but_stored grammar_parser) fault no_tables script.left a.emitted b.emitted refl silent);
  as_it_reads = λ folder l files shape.
      replies_as_model (status_of_fault fault) l script.left script.left a.emitted b.emitted (shape_order asked folder l shape)
      (unopened_by_layout fault l script.left a.emitted b.emitted silent);
  shows = λ l starts. runs_unopened asked fault a b l script.left sound starts silent (change starts.folder l starts.reads starts.shape);
}

-- the script was run
pub whole_opened : {kinds : List Class} (asked : Option Partitioner) (status : Status) (script later : SourceView) (a b c : View) (store : Store) (s : State) → IsOfState store new_session s → IsSound a → IsSound c
    → b.emitted ≡ a.emitted
    → ((folder : Folder) (l : Layout) → a.files ≡ Some folder → ShapeOf asked folder l → Changes (UnchangedOrShaped asked l) a b)
    → ((folder : Folder) (l : Layout) → a.files ≡ Some folder → ShapeOf asked folder l → ServesWorld b store (new_world l))
    → RunsCrashSafe kinds status store script.left later.left b c → Whole asked status script later a c
whole_opened asked status script later a b c store s of sound sound_c silent change opened on = record {
  on_every_host = (s, moved (but_stored grammar_parser) status s script.left later.left b.emitted a.emitted c.emitted silent (on.anywhere s of));
  as_it_reads = λ folder l files shape.
      (let serves = opened folder l files shape in
      replies_as_model status l script.left later.left a.emitted c.emitted serves.serves.in_order
      (by_layout_behind status l script.left later.left b a c silent (on.from l serves)));
  shows = λ l starts.
      (let serves = opened starts.folder l starts.reads starts.shape in
      runs_opened asked status a b c l store script.left later.left sound starts (change starts.folder l starts.reads starts.shape) serves sound_c
      (on.from l serves));
}

-- ---- the headline

-- it ends with the state of the layout
ends_with : (v : View) (l : Layout) (s : State) → StandsForEnd v (closed l) s → EndsWith Stands v s
ends_with v l s is = record {
  folder = is.folder;
  reads = is.reads;
  stands = λ asked. record { shape = _; has = inr is.shape; state_is = sym is.state_is };
  images = λ image now asked. record { shape = _; has = inr (is.images image now); state_is = sym is.state_is };
}

from_layout : (asked : Option Partitioner) (status : Status) (l : Layout) (left later : Option (List ℕ)) (a b : View) → HasNumbersInOrder l
    → RunsWhole asked status l left later a b → RunsFrom Stands grammar_parser asked status (state_of l) left later a b
from_layout asked status l left later a b in_order is = record {
  as_model = replies_as_model status l left later a.emitted b.emitted in_order is.by_layout;
  crash = is.crash;
  ends = λ ran. ends_with b _ _ (is.ends ran);
}

-- where the folder stands for a state, a run starts from a layout of it
starts_from : (asked : Option Partitioner) (a : View) (s : State) (starts : StartsFrom Stands asked a s) → StartsFromLayout asked a starts.stands.shape
starts_from asked a s starts = record {
  folder = starts.folder;
  reads = starts.reads;
  shape = starts.stands.has;
  images = λ image now. (let other = starts.images image now in (other.1.shape, other.1.has));
}

pub headline_of : (asked : Option Partitioner) (status : Status) (script later : SourceView) (a b : View) → Whole asked status script later a b → Headline Stands asked status script later a b
headline_of asked status script later a b is = record {
  parser = grammar_parser;
  parses = is_parser;
  on_every_host = is.on_every_host;
  as_it_reads = λ folder s reads stands.
      subst (λ (t : State). RunsAsModel grammar_parser status t script.left later.left a.emitted b.emitted) (sym stands.state_is) (is.as_it_reads folder stands.shape reads stands.has);
  shows = λ s starts.
      subst (λ (t : State). RunsFrom Stands grammar_parser asked status t script.left later.left a b) (sym starts.stands.state_is)
      (from_layout asked status starts.stands.shape script.left later.left a b (shape_order asked starts.folder starts.stands.shape starts.stands.has) (is.shows starts.stands.shape (starts_from asked a s starts)));
}

pub shapes_of : (asked : Option Partitioner) (status : Status) (script later : SourceView) (a b : View) → Whole asked status script later a b → Shapes asked status script later a b
shapes_of asked status script later a b is = record {
  parser = grammar_parser;
  parses = is_parser;
  shows = λ l starts. (let whole = is.shows l starts in record { answers = whole.by_layout.answers; runs = whole.by_layout.runs; replied = whole.by_layout.replied; shapes = whole.shapes; ends = whole.ends });
}
