-- A step that answers SHOW FILES.
use Rattle.std.proofs.Common.{◌≡◌, ◌++◌, List, ℕ, [], map, Ok, inr, subst, sym, ap, ◌∙◌}
use Rattle.sasi_host.specs.View.{IsSound, View}
use Rattle.sasi_layout.specs.Layout.{Layout, listing_of, state_of}
use Rattle.sasi_layout.specs.Serving.{known_in_memory}
use Rattle.sasi_machine.proofs.SessionTurns.{listed_turns}
use Rattle.sasi_machine.specs.Prepares.{AsksFiles, IsShowFiles, IsStateOf, SaysOne, StepsTo}
use Rattle.sasi_machine.specs.declared.outcome.Outcome.TheVariants.{Done}
use Rattle.sasi_model.specs.Asked as ask
use Rattle.sasi_model.specs.Asked.{asks}
use Rattle.sasi_model.specs.Lines.{files_lines}
use Rattle.sasi_model.specs.Pieces.{Piece}
use Rattle.sasi_model.specs.Refusals.{Says, read}
use Rattle.sasi_machine.specs.Outcome.{outcome_of}
use Rattle.sasi_model.specs.Sessions.{Turn, tail_bytes}
use Rattle.sasi_model.specs.State.{State}
use Rattle.sasi_types.specs.declared.class.Class.{Class}
use Rattle.sasi_types.specs.declared.statement.Statement.{Statement}
use Rattle.sasi_types.specs.declared.statement.Statement.TheVariants.{ShowFiles}
use Rattle.sasi_store.specs.Steps.{StepPromises}
use Rattle.sasi_tables.specs.TablesView.{memory_of}
use Rattle.sasi_host.specs.declared.name.FileName.{FileName}
use Rattle.sasi_layout.specs.FileNames.{file_names}
use Rattle.sasi_store.specs.Cursors.{AreCursors, AreCursorsOf, HasNamesOf, view_names_out, views_told}
use Rattle.sasi_store.proofs.CountedFiles.{texts_pinned}
use Rattle.sasi_store.proofs.PlainPieces.{IsPlain, plain_moves, plain_tasks, plain_views, says_plain}
use Rattle.sasi_store.specs.ToldFiles.{built_of, counted_texts, sorted_told}
use Rattle.sasi_store.specs.Worlds.{file_texts, names_built, pinned, told_in}
use Rattle.sasi_store.specs.declared.show_files.ToldFile.{ToldFile}
use Rattle.sasi_print.specs.Files.{file_text}
use Rattle.sasi_tasks.specs.MakesTaskMoves.{CanGoOn}
use Rattle.sasi_tasks.specs.Running.{AreTasksOf}
use Rattle.sasi_store.proofs.BuiltFiles.{built_same, names_out}
use Rattle.sasi_tables.specs.declared.parts.Parts.{Parts}
use Rattle.sasi_store.specs.declared.session_state.SessionState.{SessionState as StoreSession}
use Rattle.sasi_store.proofs.Stepping.{state_is, step_quiet, turn_taken}

shows_files : (s : State) (piece : Piece) → SaysOne piece (AsksFiles s) → IsShowFiles (read piece)
shows_files s piece (statement, says, in_order, asked) = subst IsShowFiles (sym says) (by statement asked)
  where
    by : (statement : Statement) → AsksFiles s statement → IsShowFiles (Says statement)
    by ShowFiles asked = tt
    by statement asked = absurd asked

plain_files : (s : State) (statement : Statement) → AsksFiles s statement → IsPlain (Says statement)
plain_files s ShowFiles asked = tt
plain_files s statement asked = absurd asked

-- the texts of these files, by the cursors that hold each
abbrev pinned_texts : List (List ℕ × List FileName) → List ToldFile → List (List ℕ)
pinned_texts views files = map (λ (f : ToldFile). file_text f.name f.state (pinned f.name views)) files

-- **SHOW FILES leaves the session and the store**, and its reply is that of each world's step.
pub step_listed : {was : StoreSession} (kinds : List Class) (v : View) (sound : IsSound v) (old : Parts) (piece : Piece) (front reply : List ℕ) → CanGoOn v was.views old was.tasks.items → asks (known_in_memory (memory_of old)) piece ≡ ask.NoChange → AreCursors v.files old was
    → ((s : State) → IsStateOf (known_in_memory (memory_of old)) s → StepsTo s piece s front Done × (front ≡ []) × SaysOne piece (AsksFiles s))
    → ((l : Layout) → old.manifest.listing ≡ listing_of l → reply ≡ front ++ files_lines (counted_texts was.views (sorted_told (file_names l) (view_names_out was) (built_of was.tasks.items)))) → StepPromises kinds piece v v old old was was reply (Ok Done)
step_listed {was} kinds v sound old piece front reply ready is are prepares told =
    step_quiet {was = was} {now = was} kinds v sound old piece reply Done ready is are (λ known. known)
    (λ x s named of.
    let prepared = prepares s of in
    let turned = listed_turns s piece prepared.2 in
    record {
      state_is = subst (IsStateOf (known_in_memory (memory_of old))) (sym prepared.0.state_is) of;
      cursors_are = subst (λ (t : Turn). HasNamesOf was.cursors t.session) (sym (turned.turn_is x)) named;
      outcome_is = prepared.0.outcome_is ∙ ap (λ (t : Turn). outcome_of t.refused) (sym (turned.turn_is x));
      reply_is = λ other. absurd (other (inr (inr (shows_files s piece prepared.2)), turn_taken x s piece _ _ turned prepared.0.outcome_is));
    })
    (λ w serves.
    let s = state_of w.layout in
    let prepared = prepares s (state_is v (memory_of old) w.layout serves.serves) in
    let turned = listed_turns s piece prepared.2 in
    let plain = says_plain piece (AsksFiles s) (plain_files s) prepared.2 in
    record {
      moves_are = plain_moves w piece plain;
      trace_is = serves.trace_is ∙ ap (λ (t : Turn). t.session.trace) (sym (turned.turn_is w.session));
      cursors_are = subst (λ (t : Turn). AreCursorsOf v.files old.maps was.cursors t.session) (sym (turned.turn_is w.session)) serves.cursors_are;
      views_are = plain_views w piece plain ∙ serves.views_are;
      tasks_are = subst (AreTasksOf v w.layout was.tasks.items) (sym (plain_tasks w piece plain)) serves.tasks_are;
      reply_is = ap (λ (t : Turn). t.reply ++ tail_bytes t.tail (told_in w (read piece))) (turned.turn_is w.session)
          ∙ ap (λ (first : List ℕ). first ++ files_lines (file_texts w.views w.tasks w.layout)) prepared.0.reply_is
          ∙ ap (λ (views : List (List ℕ × List FileName)). front ++ files_lines (file_texts views w.tasks w.layout)) serves.views_are
          ∙ ap (λ (held : List FileName). front ++ files_lines (pinned_texts (views_told was.cursors) (sorted_told (file_names w.layout) held (names_built w.tasks)))) (names_out was.cursors)
          ∙ ap (λ (built : List FileName). front ++ files_lines (pinned_texts (views_told was.cursors) (sorted_told (file_names w.layout) (view_names_out was) built))) (built_same v w.layout was.tasks.items w.tasks serves.tasks_are)
          ∙ ap (λ (texts : List (List ℕ)). front ++ files_lines texts) (sym (texts_pinned v.files old was are (sorted_told (file_names w.layout) (view_names_out was) (built_of was.tasks.items))))
          ∙ sym (told w.layout serves.serves.listing);
    })
