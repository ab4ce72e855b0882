-- Parts of a run, one after another.
use Rattle.std.proofs.Common.{◌≡◌, ℕ, ◌+◌, ◌<◌, ◌^◌, List, [], ◌∷◌, ◌++◌, length, take, drop, get_or, Option, None, Some, refl, sym, ap, subst, ◌∙◌, arith, append_assoc}
use Rattle.std.proofs.lemmas.List.{append-nil, take_more, take-append-drop}
use Rattle.std.specs.Io.KnownBytes.{Appends}
use Rattle.sasi_types.specs.declared.class.Class.{Class}
use Rattle.sasi_host.specs.View.{View, counted_by}
use Rattle.sasi_layout.specs.Running.{after_pieces, replies_of}
use Rattle.sasi_layout.specs.Classes.{HasNeeded, LacksNeeded}
use Rattle.sasi_layout.specs.Spent.{spent}
use Rattle.sasi_layout.specs.Statements.{known_in}
use Rattle.sasi_store.specs.Worlds.{ServesWorld, World, steps}
use Rattle.sasi_model.specs.Asked.{asks}
use Rattle.sasi_model.specs.Pieces.{Piece, Pieces}
use Rattle.sasi_cql.specs.SplitterState.{SplitterState, resume, behind}
use Rattle.sasi_run.specs.Crashing.{CrashLeavesPieces, RanPieces, StoppedPieces}
use Rattle.sasi_run.specs.EmitCounts.{emits_failed}
use Rattle.sasi_run.specs.Headline.{status_of_stop}
use Rattle.sasi_run.specs.Needs.{class_asked}
use Rattle.sasi_run.specs.Session.{EmittedAtStop, refusals_of}
use Rattle.sasi_run.specs.declared.session.Session.{Session}
use Rattle.sasi_run.specs.declared.session.Stop.{Stop}
use Rattle.sasi_run.specs.declared.session.Stop.TheVariants.{Disk, Output, Memory, Corrupt, Spent, Missing}
use Rattle.sasi_run.proofs.EmitLaws.{makes_more, makes_more_and, makes_none}
use Rattle.sasi_run.proofs.Running.{leaves_both, leaves_nothing}
use Rattle.sasi_run.proofs.Worlds.{after_both, refusals_both, replies_both, supplied_both}

-- ---- known bytes

pub appends_none : (a : Option (List ℕ)) → Appends a a []
appends_none None = tt
appends_none (Some xs) = sym (append-nil xs)

pub appends_both : (a b c : Option (List ℕ)) (xs ys : List ℕ) → Appends a b xs → Appends b c ys → Appends a c (xs ++ ys)
appends_both None b c xs ys p q = tt
appends_both (Some a) None c xs ys p q = absurd p
appends_both (Some a) (Some b) None xs ys p q = absurd q
appends_both (Some a) (Some b) (Some c) xs ys p q = rw (q, p) (append_assoc a xs ys)

-- nothing was emitted
pub unmoved : (a b : View) → b.emitted ≡ a.emitted → Appends a.emitted b.emitted []
unmoved a b same = subst (λ (l : Option (List ℕ)). Appends a.emitted l []) (sym same) (appends_none a.emitted)

-- ---- what was read

pub counted_twice : (n a b : ℕ) → counted_by (counted_by n a) b ≡ counted_by n (a + b)
counted_twice n a b = omega arith

behind_both : (xs ys : List Piece) (p q r : Pieces) → p ≡ behind xs q → q ≡ behind ys r → p ≡ behind (xs ++ ys) r
behind_both xs ys p q r e f = e ∙ ap (behind xs) f ∙ ap (λ w. record { whole = w; last = r.last }) (sym (append_assoc xs ys r.whole))

pub reads_on : (a : SplitterState) (b : SplitterState) (xs ys : List ℕ) (done : List Piece)
    → ((left : List ℕ) → resume a (xs ++ left) ≡ behind done (resume b left))
    → (c : SplitterState) (more : List Piece) → ((left : List ℕ) → resume b (ys ++ left) ≡ behind more (resume c left)) → (left : List ℕ)
    → resume a ((xs ++ ys) ++ left) ≡ behind (done ++ more) (resume c left)
reads_on a b xs ys done first c more then left = ap (resume a) (append_assoc xs ys left)
    ∙ behind_both done more _ _ _ (first (ys ++ left)) (then left)

pub around : (xs : List ℕ) (i : ℕ) → i < length xs → xs ≡ take i xs ++ get_or xs i 0 ∷ [] ++ drop (i + 1) xs
around xs i h = sym (take-append-drop (i + 1) xs) ∙ ap (λ t. t ++ drop (i + 1) xs) (take_more xs i 0 h)

-- ---- what was run

-- nothing was
pub ran_nothing : {kinds : List Class} (w : World) (old new : Session) (a : View) → old.refused < 2 ^ 64 → new.store ≡ old.store → new.refused ≡ old.refused
    → ServesWorld a old.store w → RanPieces kinds w [] old new a a
ran_nothing w old new a small store count serves = record {
  serves = rw store serves;
  shown = appends_none a.emitted;
  count = omega (arith, count, small);
  crashes = leaves_nothing a w [];
  emits = makes_none a.emits a.emits refl;
  supplied = tt;
}

-- some pieces, and then others
pub ran_both : {kinds : List Class} (w : World) (xs ys : List Piece) (old mid new : Session) (a b c : View) → RanPieces kinds w xs old mid a b
    → RanPieces kinds (after_pieces steps w xs) ys mid new b c → RanPieces kinds w (xs ++ ys) old new a c
ran_both w xs ys old mid new a b c t u =
    let later : World = after_pieces steps w xs in
    record {
      serves = subst (λ (k : World). ServesWorld c new.store k) (sym (after_both xs ys w)) u.serves;
      shown = subst (λ (l : List ℕ). Appends a.emitted c.emitted l) (sym (replies_both xs ys w)) (appends_both a.emitted b.emitted c.emitted _ _ t.shown u.shown);
      count = u.count ∙ ap (λ n. counted_by n (refusals_of later ys)) t.count ∙ counted_twice old.refused (refusals_of w xs) (refusals_of later ys)
          ∙ ap (counted_by old.refused) (sym (refusals_both xs ys w));
      crashes = leaves_both a b c w xs ys t.shown t.crashes u.crashes;
      emits = makes_more w xs ys a.emits b.emits c.emits t.emits u.emits;
      supplied = supplied_both _ xs ys w t.supplied u.supplied;
    }

emitted_later : (kinds : List Class) (stop : Stop) (w : World) (xs done next : List Piece) (a b c : Option (List ℕ)) → Appends a b (replies_of steps w xs)
    → EmittedAtStop kinds stop (after_pieces steps w xs) b c done next → EmittedAtStop kinds stop w a c (xs ++ done) next
emitted_later kinds Memory w xs done next a b c shown at = rw replies_both (appends_both a b c _ _ shown at)
emitted_later kinds Disk w xs done next a b c shown at = rw replies_both (appends_both a b c _ _ shown at)
emitted_later kinds (Corrupt damage) w xs done next a b c shown at = at
emitted_later kinds (Missing class) w xs done next a b c shown (piece, one, rest, lacks) = (
  piece,
  one,
  rw replies_both (appends_both a b c _ _ shown rest),
  subst (λ (k : World). LacksNeeded kinds (asks (known_in k.layout) piece) class) (sym (after_both xs done w)) lacks,
)
emitted_later kinds (Spent kind) w xs done next a b c shown (piece, one, rest, has, spends) = (
  piece,
  one,
  rw replies_both (appends_both a b c _ _ shown rest),
  subst (λ (k : World). HasNeeded kinds (class_asked k piece)) (sym (after_both xs done w)) has,
  subst (λ (k : World). spent k.layout (steps.moves k piece) ≡ Some kind) (sym (after_both xs done w)) spends,
)
emitted_later kinds Output w xs done next a b c shown (piece, front, back, one, parts, rest) = (
  piece,
  front,
  back,
  one,
  subst (λ (k : World). steps.reply k piece ≡ front ++ back) (sym (after_both xs done w)) parts,
  rw (replies_both xs done w, append_assoc (replies_of steps w xs) (replies_of steps (after_pieces steps w xs) done) front) (appends_both a b c _ _ shown rest),
)

-- some pieces, and then a stop
pub stopped_behind : {kinds : List Class} (stop : Stop) (w : World) (xs done next : List Piece) (old mid : Session) (a b c : View) → RanPieces kinds w xs old mid a b
    → StoppedPieces kinds stop (after_pieces steps w xs) done next b c → StoppedPieces kinds stop w (xs ++ done) next a c
stopped_behind stop w xs done next old mid a b c t u = record {
  shown = emitted_later _ stop w xs done next a.emitted b.emitted c.emitted t.shown u.shown;
  crashes = subst (λ (l : List Piece). CrashLeavesPieces a c w l) (sym (append_assoc xs done next)) (leaves_both a b c w xs (done ++ next) t.shown t.crashes u.crashes);
  emits = makes_more_and w xs done a.emits b.emits c.emits t.emits (emits_failed (status_of_stop stop)) u.emits;
  supplied = supplied_both _ xs done w t.supplied u.supplied;
}
