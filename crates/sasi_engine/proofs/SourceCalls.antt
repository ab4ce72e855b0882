-- A call on one half of a source of candidates, the stream of hits or the look-up, is one on the source.
use Rattle.std.proofs.Common.{◌≡◌, Option, sym, subst, inl, inr, ⊎_elim, Result}
use Rattle.sasi_host.specs.declared.name.FileName.{FileName}
use Rattle.sasi_host.specs.declared.damage.Damage.{Damage}
use Rattle.sasi_host.specs.declared.fault.ReadFault.{ReadFault}
use Rattle.sasi_host.specs.Names.{Folder}
use Rattle.sasi_host.specs.View.{View}
use Rattle.sasi_lookup.specs.Lookups.{Opens, Shows}
use Rattle.sasi_ranges.specs.StreamCalls.{CanStream, HasStreamed, StreamFaults}
use Rattle.sasi_ranges.proofs.Calling.{on_err}
use Rattle.sasi_engine.specs.declared.hand.Hand.{Hand}
use Rattle.sasi_engine.specs.inside.Steps.{IsHandReady, SourceOpens, SourceShows}

-- ---- the files are there

pub can_lookup : (K : Option Folder → Type 0) (A : FileName → Type 0) (hand : Hand) (v : View) → CanStream K (SourceOpens A hand) v → CanStream K (Opens hand.lookup) v
can_lookup K A hand v can = record { there = λ name opens. can.there name (inr opens); agrees = can.agrees }

pub can_hits : (K : Option Folder → Type 0) (A : FileName → Type 0) (hand : Hand) (v : View) → CanStream K (SourceOpens A hand) v → CanStream K A v
can_hits K A hand v can = record { there = λ name opens. can.there name (inl opens); agrees = can.agrees }

-- ---- what is read

pub read_hits : (K : Option Folder → Type 0) (A B O P : FileName → Type 0) (hand : Hand) (u v : View) → HasStreamed K A B O P u v → HasStreamed K A B (SourceOpens O hand) (SourceOpens P hand) u v
read_hits K A B O P hand u v one = record {
  agrees = one.agrees;
  covers = λ name at. ⊎_elim (λ before. inl before) (λ mine. inr (inl mine)) (one.covers name at);
  opens = λ name at. ⊎_elim (λ mine. inl (one.opens name mine)) (λ other. inr other) at;
  changes = one.changes;
}

pub read_lookup : (K : Option Folder → Type 0) (A B O : FileName → Type 0) (old new : Hand) (u v : View) → HasStreamed K A B (Opens old.lookup) (Opens new.lookup) u v → HasStreamed K A B (SourceOpens O old) (SourceOpens O new) u v
read_lookup K A B O old new u v one = record {
  agrees = one.agrees;
  covers = λ name at. ⊎_elim (λ before. inl before) (λ mine. inr (inr mine)) (one.covers name at);
  opens = λ name at. ⊎_elim (λ other. inl other) (λ mine. inr (one.opens name mine)) at;
  changes = one.changes;
}

-- ---- faults

pub hits_faults : {T L M : Type 0} (Shown After : Damage → Type 0) (hand : Hand) (Leaves : L → Type 0) (Whole : M → Type 0) (u v : View) (r : Result T ReadFault) → v.files ≡ u.files → ((m : M) → Whole m → (l : L) × Leaves l)
    → StreamFaults Shown After Leaves u v r → StreamFaults (SourceShows Shown hand u.files) (SourceShows After hand v.files) Whole u v r
hits_faults Shown After hand Leaves Whole u v r same goes one = record {
  causes = one.causes;
  damaged = on_err Shown (SourceShows Shown hand u.files) r (λ damage is. inl is) one.damaged;
  undamaged = on_err (λ _. (l : _) → Leaves l → ⊥) (λ _. (m : _) → Whole m → ⊥) r (λ damage no m is. (let l = goes m is in no l.0 l.1)) one.undamaged;
  shows = λ damage is. ⊎_elim (λ mine. inl (one.shows damage mine)) (λ other. inr (subst (λ (f : Option Folder). Shows hand.lookup f damage) same other)) is;
}

pub lookup_faults : {T L M : Type 0} (Hits : Option Folder → Damage → Type 0) (old new : Hand) (Leaves : L → Type 0) (Whole : M → Type 0) (u v : View) (r : Result T ReadFault) → v.files ≡ u.files → ((m : M) → Whole m → (l : L) × Leaves l)
    → StreamFaults (Shows old.lookup u.files) (Shows new.lookup v.files) Leaves u v r → StreamFaults (SourceShows (Hits u.files) old u.files) (SourceShows (Hits v.files) new v.files) Whole u v r
lookup_faults Hits old new Leaves Whole u v r same goes one = record {
  causes = one.causes;
  damaged = on_err (Shows old.lookup u.files) (SourceShows (Hits u.files) old u.files) r (λ damage is. inr is) one.damaged;
  undamaged = on_err (λ _. (l : _) → Leaves l → ⊥) (λ _. (m : _) → Whole m → ⊥) r (λ damage no m is. (let l = goes m is in no l.0 l.1)) one.undamaged;
  shows = λ damage is. ⊎_elim (λ other. inl (subst (λ (f : Option Folder). Hits f damage) same other)) (λ mine. inr (one.shows damage mine)) is;
}

-- ---- ready

pub hand_still : (hand : Hand) (old new : Option Folder) → new ≡ old → IsHandReady hand old → IsHandReady hand new
hand_still hand old new same ready = subst (IsHandReady hand) (sym same) ready
