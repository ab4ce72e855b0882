-- A source of one key, while it has the key and once the key was taken.
use Rattle.std.proofs.Common.{◌≡◌, ℕ, ◌+◌, ◌≤◌, List, [], Option, None, Some, IfOk, IfSome, sym, subst, inl, inr, ⊎_elim, arith, Result, Ok, Err}
use Rattle.std.specs.Option.{IsSomeAnd}
use Rattle.sasi_types.specs.declared.decorated_key.DecoratedKey.{DecoratedKey}
use Rattle.sasi_host.specs.declared.damage.Damage.{Damage}
use Rattle.sasi_host.specs.declared.fault.ReadFault.{ReadFault}
use Rattle.sasi_host.specs.declared.name.FileName.{FileName}
use Rattle.sasi_host.specs.Names.{Folder}
use Rattle.sasi_host.specs.View.{View}
use Rattle.sasi_model.specs.Cells.{Partition}
use Rattle.sasi_memindex.specs.Book.{Book}
use Rattle.sasi_ranges.specs.declared.entry.Entry.{Entry}
use Rattle.sasi_ranges.specs.StreamCalls.{CanStream, HasStreamed, Spends, StreamFaults}
use Rattle.sasi_ranges.proofs.Calling.{on_err}
use Rattle.sasi_recheck.specs.Sources.{Candidate, GivesFirst}
use Rattle.sasi_engine.specs.declared.hand.Hand.{Hand}
use Rattle.sasi_engine.specs.inside.KeyedSteps.{KeyLeaves, KeyOwes}

-- ---- once it was taken

module _ (after : Option DecoratedKey) (is : after ≡ None) where
  -- nothing more is read,
  pub none_now : (P : Type 0) → IsSomeAnd after (λ k. P) → ⊥
  none_now P has = subst (λ (o : Option DecoratedKey). IsSomeAnd o (λ k. P)) is has

  pub all_now : (P : Type 0) → IfSome after (λ k. P)
  all_now P = subst (λ (o : Option DecoratedKey). IfSome o (λ k. P)) (sym is) tt

  -- and nothing is owed
  pub spent_once : {T : Type 0} (Hits : List Entry → Type 0) (Pays : ℕ → Type 0) (hand : Hand) (files : Option Folder) (book : Book) (prices : List ℕ) (most was now : ℕ) (r : Result T ReadFault) → now ≤ was + most
      → Spends (λ rest. KeyOwes Hits Pays hand after files book rest prices) most was now r
  spent_once Hits Pays hand files book prices most was now (Ok x) le = (0, subst (λ (o : Option DecoratedKey). KeyOwes Hits Pays hand o files book 0 prices) (sym is) tt, omega (arith, le))
  spent_once Hits Pays hand files book prices most was now (Err f) le = le

  -- ---- the call that takes it

  module _ (before : Option DecoratedKey) (key : DecoratedKey) (was : before ≡ Some key) where
    had : (P : Type 0) → P → IsSomeAnd before (λ k. P)
    had P holds = subst (λ (o : Option DecoratedKey). IsSomeAnd o (λ k. P)) (sym was) holds

    pub had_all : (P : Type 0) → IfSome before (λ k. P) → P
    had_all P holds = subst (λ (o : Option DecoratedKey). IfSome o (λ k. P)) was holds

    pub had_left : (Hits : List Entry → Type 0) (hand : Hand) (files : Option Folder) (book : Book) (left : List Candidate) → KeyLeaves Hits hand before files book left → KeyLeaves Hits hand (Some key) files book left
    had_left Hits hand files book left leaves = subst (λ (o : Option DecoratedKey). KeyLeaves Hits hand o files book left) was leaves

    pub had_owing : (Hits : List Entry → Type 0) (Pays : ℕ → Type 0) (hand : Hand) (files : Option Folder) (book : Book) (most : ℕ) (prices : List ℕ) → KeyOwes Hits Pays hand before files book most prices → KeyOwes Hits Pays hand (Some key) files book most prices
    had_owing Hits Pays hand files book most prices owes = subst (λ (o : Option DecoratedKey). KeyOwes Hits Pays hand o files book most prices) was owes

    pub given_once : (Hits : List Entry → Type 0) (hand : Hand) (files : Option Folder) (book : Book) (left : List Candidate) (r : Result (Option (List ℕ × Partition)) ReadFault)
        → IfOk r (GivesFirst (λ rest. rest ≡ []) left) → IfOk r (GivesFirst (KeyLeaves Hits hand after files book) left)
    given_once Hits hand files book left r gives = subst (λ (o : Option DecoratedKey). IfOk r (GivesFirst (KeyLeaves Hits hand o files book) left)) (sym is) gives

    pub can_once : (K : Option Folder → Type 0) (O : FileName → Type 0) (v : View) → CanStream K (λ name. IsSomeAnd before (λ k. O name)) v → CanStream K O v
    can_once K O v can = record { there = λ name opens. can.there name (had (O name) opens); agrees = can.agrees }

    pub read_once : (K : Option Folder → Type 0) (A B O P Q : FileName → Type 0) (u v : View) → HasStreamed K A B O P u v → HasStreamed K A B (λ name. IsSomeAnd before (λ k. O name)) (λ name. IsSomeAnd after (λ k. Q name)) u v
    read_once K A B O P Q u v one = record {
      agrees = one.agrees;
      covers = λ name at. ⊎_elim (λ mine. inl mine) (λ opened. inr (had (O name) opened)) (one.covers name at);
      opens = λ name at. absurd (none_now (Q name) at);
      changes = one.changes;
    }

    pub faults_once : {T : Type 0} (Shown Shows After : Damage → Type 0) (Hits : List Entry → Type 0) (hand : Hand) (files : Option Folder) (book : Book) (u v : View) (r : Result T ReadFault) → StreamFaults Shown Shows (KeyLeaves Hits hand (Some key) files book) u v r
        → StreamFaults (λ damage. IsSomeAnd before (λ k. Shown damage)) (λ damage. IsSomeAnd after (λ k. After damage)) (KeyLeaves Hits hand before files book) u v r
    faults_once Shown Shows After Hits hand files book u v r one = record {
      causes = one.causes;
      damaged = on_err Shown (λ damage. IsSomeAnd before (λ k. Shown damage)) r (λ damage shown. had (Shown damage) shown) one.damaged;
      undamaged = on_err (λ _. (l : List Candidate) → KeyLeaves Hits hand (Some key) files book l → ⊥) (λ _. (l : List Candidate) → KeyLeaves Hits hand before files book l → ⊥) r (λ damage no l leaves. no l (had_left Hits hand files book l leaves)) one.undamaged;
      shows = λ damage at. absurd (none_now (After damage) at);
    }
