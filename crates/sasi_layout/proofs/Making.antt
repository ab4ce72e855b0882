-- Moves that are made: how they begin, go on over further calls, and stop early. A flush has three stages: files that nothing lists
-- yet are made, the manifest gets its record, and segments that nothing lists any more are deleted.
use Rattle.std.specs.Prelude.{ℕ, List, ◌∷◌, ◌++◌, []}
use Rattle.std.proofs.Common.{subst}
use Rattle.std.proofs.lemmas.List.{append-nil}
use Rattle.sasi_cells.specs.declared.mutation.Mutation.{Mutation}
use Rattle.sasi_host.proofs.ChangeLaws.{touches, stays}
use Rattle.sasi_host.specs.Disk.{FileChange, LeftWith, Changes, Relation, Same, Each}
use Rattle.sasi_host.specs.Names.{Folder, manifest_name}
use Rattle.sasi_host.specs.View.{View, IsSound}
use Rattle.sasi_manifest.specs.OpenManifest.{ManifestStands}
use Rattle.sasi_layout.proofs.Agreeing.{agree_same}
use Rattle.sasi_layout.proofs.Trails.{no_move, still_shape, moves_on, flush_each, moves_early, flush_moves}
use Rattle.sasi_layout.specs.Between.{Between, Makes}
use Rattle.sasi_layout.specs.Flushed.{HasNew, logs_after, ListsEither}
use Rattle.sasi_layout.specs.Frames.{AgreeOn}
use Rattle.sasi_layout.specs.Layout.{Layout, bare, listing_of}
use Rattle.sasi_layout.specs.Moves.{after_flush, Move, Flush, after_moves}
use Rattle.sasi_layout.specs.Shape.{HasShape}

-- ---- in general

-- nothing is done yet
pub makes_none : (l : Layout) (logs : List (List Mutation)) (v : View) → IsSound v → Each v (λ x. HasShape x (bare l) logs) → Makes l [] logs v v
makes_none l logs v sound each = record { between = no_move l v v Same logs sound each (stays v) (λ x y same. agree_same (bare l) x y same); shape = each }

-- the moves are some first ones of these
pub makes_early : (l : Layout) (ms ns : List Move) (logs : List (List Mutation)) (a b : View) → Makes l ms logs a b → Changes (λ x y. Between l (ms ++ ns) y) a b
makes_early l ms ns logs a b makes = moves_early l a b ms ns makes.between

-- a further call changes nothing that is listed
pub makes_still : (l : Layout) (ms : List Move) (logs : List (List Mutation)) (S : Relation) (a b c : View) → IsSound b → Makes l ms logs a b → Changes S b c → ((x y : Folder) → S x y → AgreeOn (bare (after_moves ms l)) x y) → Makes l ms logs a c
makes_still l ms logs S a b c sound makes change agree =
    let after = after_moves ms l in
    let more = moves_on l a b c ms [] makes.between (no_move after b c S logs sound makes.shape change agree) in
    record { between = subst (λ (k : List Move). Changes (λ x y. Between l k y) a c) (append-nil ms) more; shape = still_shape after b c S logs makes.shape change agree }

-- ---- a flush

-- the manifest gets its record, or not
pub makes_listing : (l : Layout) (table : ℕ) (logs : List (List Mutation)) (a b c : View) → IsSound b → Makes l [] logs a b → Each b (HasNew table l) → Changes (FileChange (manifest_name l.used.manifest) (LeftWith (ListsEither l (after_flush table l)))) b c
    → Changes (λ x y. Between l (Flush table ∷ []) y) a c
makes_listing l table logs a b c sound makes new change = moves_on l a b c [] (Flush table ∷ []) makes.between (flush_moves l b c table logs sound (λ x now. (makes.shape x now, new x now)) change)

-- it has the record
pub makes_flush : (l : Layout) (table at : ℕ) (logs : List (List Mutation)) (a b c : View) → IsSound b → Makes l [] logs a b → Each b (HasNew table l) → Changes (FileChange (manifest_name l.used.manifest) (LeftWith (ListsEither l (after_flush table l)))) b c
    → ManifestStands c l.used.manifest at (listing_of (after_flush table l)) → Makes l (Flush table ∷ []) (logs_after table l logs) a c
makes_flush l table at logs a b c sound makes new change end = record {
  between = makes_listing l table logs a b c sound makes new change;
  shape = flush_each l table at b c logs (λ x now. (makes.shape x now, new x now)) (touches b c (manifest_name l.used.manifest) (LeftWith (ListsEither l (after_flush table l))) change) end;
}
