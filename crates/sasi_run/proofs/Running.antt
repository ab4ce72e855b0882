-- What a crash leaves of a run, part after part, and that the store serves the world that the run has come to.
use Rattle.std.proofs.Common.{◌≡◌, ◌⊎◌, ℕ, List, [], ◌∷◌, ◌++◌, take, drop, Option, Some, None, IsSome, refl, sym, ◌∙◌, ap, subst, inl, inr, ⊎_elim, append_assoc, arith}
use Rattle.std.proofs.lemmas.List.{append-nil, take-append-drop}
use Rattle.std.specs.Io.KnownBytes.{Appends}
use Rattle.sasi_host.specs.Names.{Bytes, Folder}
use Rattle.sasi_host.specs.View.{CrashLeaves, Emits, PartlyOut, View}
use Rattle.sasi_host.specs.Disk.{Changes, FromImage, Each}
use Rattle.sasi_host.proofs.ChangeLaws.{crash_leaves_on}
use Rattle.sasi_model.specs.Pieces.{Piece}
use Rattle.sasi_layout.proofs.Fewer.{serves_fewer}
use Rattle.sasi_layout.specs.Between.{Between}
use Rattle.sasi_layout.specs.Layout.{Layout, bare}
use Rattle.sasi_layout.specs.Moves.{Move, after_moves}
use Rattle.sasi_layout.specs.Running.{Crashed, IsBusy, IsQuiet, after_pieces, replies_of}
use Rattle.sasi_layout.specs.Serving.{Serves, StoreInMemory}
use Rattle.sasi_layout.specs.Shape.{IsOfShape}
use Rattle.sasi_store.proofs.SeenFiles.{goes_on_seen, tasks_seen}
use Rattle.sasi_store.specs.Cursors.{AreCursors, AreCursorsOf}
use Rattle.sasi_store.specs.Worlds.{ServesWorld, World, steps}
use Rattle.sasi_store.specs.StoreView.{IsReady, store_memory}
use Rattle.sasi_store.specs.declared.store.Store.{Store}
use Rattle.sasi_run.specs.Crashing.{CrashLeavesPieces}
use Rattle.sasi_run.proofs.Worlds.{after_both, replies_both}

pub one_of : (a b : Bytes) → Some a ≡ Some b → a ≡ b
one_of a b is = cc

pub grown : (old new : Option Bytes) (before more : List ℕ) → old ≡ Some before → Appends old new more → new ≡ Some (before ++ more)
grown None new before more is appends = cc
grown (Some o) None before more is appends = absurd appends
grown (Some o) (Some n) before more is appends =
    let same : o ≡ before = cc in
    ap (λ (l : List ℕ). Some l) (appends ∙ ap (λ (l : List ℕ). l ++ more) same)

-- ---- the store

-- after an emit a store serves the same world
pub serves_still : (a b : View) (store : Store) (w : World) → b.files ≡ a.files → ((x : Folder) → b.image x → a.image x) → IsReady a store → ServesWorld a store w → ServesWorld b store w
serves_still a b store w same fewer ready serves = record {
  serves = serves_fewer a b fewer (store_memory store) w.layout (subst (λ (f : Option Folder). IsSome f) (sym same) serves.serves.told) serves.serves;
  trace_is = serves.trace_is;
  cursors_are = subst (λ (f : Option Folder). AreCursorsOf f store.parts.maps store.session.cursors w.session) (sym same) serves.cursors_are;
  views_are = serves.views_are;
  tasks_are = tasks_seen a b same store.parts w.layout store.session.tasks.items w.tasks ready.goes_on.ready.each serves.tasks_are;
}

-- and can make a change as before
pub ready_still : (a b : View) (store : Store) → b.files ≡ a.files → ((x : Folder) → b.image x → a.image x) → IsReady a store → IsReady b store
ready_still a b store same fewer ready = record {
  goes_on = goes_on_seen a b same fewer store.session.views store.parts store.session.tasks.items ready.goes_on;
  usable = ready.usable;
  cursors = subst (λ (f : Option Folder). AreCursors f store.parts store.session) (sym same) ready.cursors;
}

-- each image has the shape of the layout that is served
pub each_of_shape : (v : View) (store : StoreInMemory) (l : Layout) → Serves v store l → Each v (IsOfShape (bare l))
each_of_shape v store l serves x now = (serves.older ++ serves.current ∷ [], serves.shape x now)

-- ---- nothing is done

crash_stays : (v : View) (P : Folder → Bytes → Type 0) → CrashLeaves v v P
crash_stays v P = record { later = omega arith; left = λ t x e le gone. inl gone }

pub leaves_nothing : (v : View) (w : World) (pieces : List Piece) → CrashLeavesPieces v v w pieces
leaves_nothing v w pieces out emitted = crash_stays v (Crashed steps w out pieces)

-- ---- one part after another

module _ (w : World) (before : List ℕ) (xs ys : List Piece) (folder : Folder) (out : List ℕ) where
  crashed_early : Crashed steps w before xs folder out → Crashed steps w before (xs ++ ys) folder out
  crashed_early c = record {
    done = c.done;
    rest = c.rest ++ ys;
    parts = ap (λ (k : List Piece). k ++ ys) c.parts ∙ append_assoc c.done c.rest ys;
    stands = ⊎_elim (λ quiet. inl quiet)
        (λ busy. inr (record { piece = busy.piece; others = busy.others ++ ys; next = ap (λ (k : List Piece). k ++ ys) busy.next; stands = busy.stands }))
        c.stands;
  }

  crashed_late : Crashed steps (after_pieces steps w xs) (before ++ replies_of steps w xs) ys folder out → Crashed steps w before (xs ++ ys) folder out
  crashed_late c =
      let said : (before ++ replies_of steps w xs) ++ replies_of steps (after_pieces steps w xs) c.done ≡ before ++ replies_of steps w (xs ++ c.done) =
      append_assoc before (replies_of steps w xs) (replies_of steps (after_pieces steps w xs) c.done) ∙ ap (λ (l : List ℕ). before ++ l) (sym (replies_both xs c.done w)) in
      record {
        done = xs ++ c.done;
        rest = c.rest;
        parts = ap (λ (k : List Piece). xs ++ k) c.parts ∙ sym (append_assoc xs c.done c.rest);
        stands = subst
            (λ (k : World). IsQuiet k.layout (before ++ replies_of steps w (xs ++ c.done)) folder out ⊎ IsBusy steps k (before ++ replies_of steps w (xs ++ c.done)) c.rest folder out)
            (sym (after_both xs c.done w))
            (subst
            (λ (e : List ℕ). IsQuiet (after_pieces steps (after_pieces steps w xs) c.done).layout e folder out ⊎ IsBusy steps (after_pieces steps (after_pieces steps w xs) c.done) e c.rest folder out)
            said c.stands);
      }

pub leaves_both : (a b c : View) (w : World) (xs ys : List Piece) → Appends a.emitted b.emitted (replies_of steps w xs) → CrashLeavesPieces a b w xs
    → CrashLeavesPieces b c (after_pieces steps w xs) ys → CrashLeavesPieces a c w (xs ++ ys)
leaves_both a b c w xs ys shown first second out emitted =
    crash_leaves_on a b c (Crashed steps w out xs) (Crashed steps (after_pieces steps w xs) (out ++ replies_of steps w xs) ys) (Crashed steps w out (xs ++ ys))
    (first out emitted) (second (out ++ replies_of steps w xs) (grown a.emitted b.emitted out (replies_of steps w xs) emitted shown))
    (λ x e p. crashed_early w out xs ys x e p) (λ x e p. crashed_late w out xs ys x e p)

pub leaves_more : (a b : View) (w : World) (pieces more : List Piece) → CrashLeavesPieces a b w pieces → CrashLeavesPieces a b w (pieces ++ more)
leaves_more a b w pieces more leaves out emitted =
    crash_leaves_on a a b (Crashed steps w out (pieces ++ more)) (Crashed steps w out pieces) (Crashed steps w out (pieces ++ more))
    (crash_stays a (Crashed steps w out (pieces ++ more))) (leaves out emitted) (λ x e p. p) (λ x e p. crashed_early w out pieces more x e p)

-- ---- one piece

module _ (a b : View) (w : World) (piece : Piece) (moments : Changes (λ x y. Between w.layout (steps.moves w piece) y) a b) where
  moving : (out : List ℕ) → a.emitted ≡ Some out → (x : Folder) (e : Bytes) → FromImage (λ x y. Between w.layout (steps.moves w piece) y) a x e
      → Crashed steps w out (piece ∷ []) x e
  moving out emitted x e (was, image, between, said) = record {
    done = [];
    rest = piece ∷ [];
    parts = refl;
    stands = inr
        (record {
          piece = piece;
          others = [];
          next = refl;
          stands = inl (record { went = one_of e out (sym said ∙ emitted) ∙ sym (append-nil out); between = between });
        });
  }

  -- some of its moves were made, and nothing emitted
  pub leaves_moved : CrashLeavesPieces a b w (piece ∷ [])
  leaves_moved out emitted =
      crash_leaves_on a a b (Crashed steps w out (piece ∷ [])) (FromImage (λ x y. Between w.layout (steps.moves w piece) y) a) (Crashed steps w out (piece ∷ []))
      (crash_stays a (Crashed steps w out (piece ∷ []))) moments.during (λ x e p. p) (moving out emitted)

  module _ (c : View) (reply : List ℕ) (said : reply ≡ steps.reply w piece) (shape : Each b (IsOfShape (bare (steps.after w piece).layout))) (emits : Emits reply b c) where
    partly : (out : List ℕ) → a.emitted ≡ Some out → (x : Folder) (e : Bytes) → PartlyOut b reply x e → Crashed steps w out (piece ∷ []) x e
    partly out emitted x e (image, bytes, k, told, went) =
        let same : bytes ≡ out = one_of bytes out (sym told ∙ moments.emitted ∙ emitted) in
        record {
          done = [];
          rest = piece ∷ [];
          parts = refl;
          stands = inr
              (record {
                piece = piece;
                others = [];
                next = refl;
                stands = inr
                    (record {
                      front = take k reply;
                      back = drop k reply;
                      parts = sym said ∙ sym (take-append-drop k reply);
                      went = went ∙ ap (λ (l : List ℕ). l ++ take k reply) (same ∙ sym (append-nil out));
                      shape = shape x image;
                    });
              });
        }

    -- all of them were, and its reply emitted or a first part of it
    pub leaves_answered : CrashLeavesPieces a c w (piece ∷ [])
    leaves_answered out emitted =
        crash_leaves_on a b c (Crashed steps w out (piece ∷ [])) (PartlyOut b reply) (Crashed steps w out (piece ∷ [])) (leaves_moved out emitted) emits.during
        (λ x e p. p) (partly out emitted)

-- ---- the end of the script

not_empty : (m : Move) (ms : List Move) → [] ≡ m ∷ ms → ⊥
not_empty m ms is = cc

-- the use of the store was ended behind all pieces
pub leaves_closed : (a b c : View) (w : World) (pieces : List Piece) → Appends a.emitted b.emitted (replies_of steps w pieces) → CrashLeavesPieces a b w pieces
    → Changes (λ x y. Between (after_pieces steps w pieces).layout [] y) b c → CrashLeavesPieces a c w pieces
leaves_closed a b c w pieces shown first moments out emitted =
    crash_leaves_on a b c (Crashed steps w out pieces) (FromImage (λ x y. Between (after_pieces steps w pieces).layout [] y) b) (Crashed steps w out pieces)
    (first out emitted) moments.during (λ x e p. p) closing
  where
    told : b.emitted ≡ Some (out ++ replies_of steps w pieces)
    told = grown a.emitted b.emitted out (replies_of steps w pieces) emitted shown

    no_moves : (x : Folder) → Between (after_pieces steps w pieces).layout [] x → IsOfShape (bare (after_pieces steps w pieces).layout) x
    no_moves x between = by between.done between.rest between.parts between.shape
      where
        by : (done rest : List Move) → [] ≡ done ++ rest → IsOfShape (bare (after_moves done (after_pieces steps w pieces).layout)) x → IsOfShape (bare (after_pieces steps w pieces).layout) x
        by [] rest is shape = shape
        by (m ∷ done) rest is shape = absurd (not_empty m (done ++ rest) is)

    closing : (x : Folder) (e : Bytes) → FromImage (λ x y. Between (after_pieces steps w pieces).layout [] y) b x e → Crashed steps w out pieces x e
    closing x e (was, image, between, said) = record {
      done = pieces;
      rest = [];
      parts = sym (append-nil pieces);
      stands = inl (record { went = one_of e (out ++ replies_of steps w pieces) (sym said ∙ told); shape = no_moves x between });
    }
