-- The first entries of streams, read one after another.
use Rattle.std.proofs.Common.{◌≡◌, ℕ, zero, suc, ◌+◌, ◌≤◌, ◌<◌, List, [], ◌∷◌, length, take, Option, sym, subst, inl, inr, ⊎_elim, arith, Result}
use Rattle.std.specs.List.{slice_index_or, slice_set}
use Rattle.sasi_host.specs.Names.{Folder}
use Rattle.sasi_host.specs.declared.name.FileName.{FileName}
use Rattle.sasi_host.specs.declared.fault.ReadFault.{ReadFault}
use Rattle.sasi_host.specs.View.{View}
use Rattle.sasi_host.specs.declared.damage.Damage.{Damage}
use Rattle.sasi_ranges.specs.declared.entry.Entry.{Entry}
use Rattle.sasi_ranges.specs.declared.head.Headed.{Headed}
use Rattle.sasi_ranges.specs.StreamCalls.{CanStream, HasStreamed, StreamFaults}
use Rattle.sasi_ranges.specs.inside.Heads.{AllLeave, AreRead, HeadLeaves, HeadsOpen, HeadsPay, HeadsReady, HeadsShow, IsRead}
use Rattle.sasi_ranges.proofs.Calling.{on_err}

module _ {S : Type 0} (d : Headed S) where
  -- ---- one stream changed at an index

  pub leave_set : (leaves : S → Option Folder → List Entry → Type 0) (x y : Option Folder) (hs : List (Headed S)) (i : ℕ) (new : Headed S) (lists : List (List Entry)) → i < length hs → y ≡ x
      → ((es : List Entry) → HeadLeaves leaves x (slice_index_or hs i d) es → HeadLeaves leaves y new es) → AllLeave leaves x hs lists → AllLeave leaves y (slice_set hs i new) lists
  leave_set leaves x y [] i new lists at same keeps all = absurd (omega arith)
  leave_set leaves x y (k ∷ hs) i new [] at same keeps all = absurd all
  leave_set leaves x y (k ∷ hs) zero new (l ∷ ls) at same keeps all = (keeps l all.0, subst (λ (o : Option Folder). AllLeave leaves o hs ls) (sym same) all.1)
  leave_set leaves x y (k ∷ hs) (suc i) new (l ∷ ls) at same keeps all = (subst (λ (o : Option Folder). HeadLeaves leaves o k l) (sym same) all.0, leave_set leaves x y hs i new ls (omega arith) same keeps all.1)

  pub open_set : (opens : S → FileName → Type 0) (hs : List (Headed S)) (i : ℕ) (new : Headed S) (name : FileName)
      → (opens new.stream name → opens (slice_index_or hs i d).stream name) → HeadsOpen opens (slice_set hs i new) name → HeadsOpen opens hs name
  open_set opens [] i new name fewer is = absurd is
  open_set opens (k ∷ hs) zero new name fewer is = ⊎_elim (λ here. inl (fewer here)) (λ later. inr later) is
  open_set opens (k ∷ hs) (suc i) new name fewer is = ⊎_elim (λ here. inl here) (λ later. inr (open_set opens hs i new name fewer later)) is

  pub open_at : (opens : S → FileName → Type 0) (hs : List (Headed S)) (i : ℕ) (name : FileName) → i < length hs → opens (slice_index_or hs i d).stream name
      → HeadsOpen opens hs name
  open_at opens [] i name at is = absurd (omega arith)
  open_at opens (k ∷ hs) zero name at is = inl is
  open_at opens (k ∷ hs) (suc i) name at is = inr (open_at opens hs i name (omega arith) is)

  -- what one stream spends is spent of all
  pub pay_set : (pays : S → Option Folder → ℕ → Type 0) (x y : Option Folder) (hs : List (Headed S)) (i : ℕ) (new : Headed S) (before now most : ℕ)
      → i < length hs → y ≡ x
      → ((m : ℕ) → pays (slice_index_or hs i d).stream x m → (rest : ℕ) × pays new.stream y rest × (now + rest ≤ before + m)) → HeadsPay pays x hs most → (rest : ℕ) × HeadsPay pays y (slice_set hs i new) rest × (now + rest ≤ before + most)
  pay_set pays x y [] i new before now most at same spends all = absurd (omega arith)
  pay_set pays x y (k ∷ hs) zero new before now most at same spends all =
      let one = spends all.0 all.2 in
      (one.0 + all.1, (one.0, all.1, one.1, subst (λ (o : Option Folder). HeadsPay pays o hs all.1) (sym same) all.3, omega arith), omega (arith, one.2, all.4))
  pay_set pays x y (k ∷ hs) (suc i) new before now most at same spends all =
      let more = pay_set pays x y hs i new before now all.1 (omega arith) same spends all.3 in
      (all.0 + more.0, (all.0, more.0, subst (λ (o : Option Folder). pays k.stream o all.0) (sym same) all.2, more.1, omega arith), omega (arith, more.2, all.4))

  -- and no more than that where it fails
  pub pay_fails : (pays : S → Option Folder → ℕ → Type 0) (x : Option Folder) (hs : List (Headed S)) (i : ℕ) (before now most : ℕ) → i < length hs
      → ((m : ℕ) → pays (slice_index_or hs i d).stream x m → now ≤ before + m) → HeadsPay pays x hs most → now ≤ before + most
  pay_fails pays x [] i before now most at spends all = absurd (omega arith)
  pay_fails pays x (k ∷ hs) zero before now most at spends all = let one = spends all.0 all.2 in omega (arith, one, all.4)
  pay_fails pays x (k ∷ hs) (suc i) before now most at spends all = let more = pay_fails pays x hs i before now all.1 (omega arith) spends all.3 in omega (arith, more, all.4)

  pub read_set : (hs : List (Headed S)) (i n : ℕ) (new : Headed S) → i < length hs → n ≡ suc i → IsRead new.head → AreRead (take i hs)
      → AreRead (take n (slice_set hs i new))
  read_set hs i n new at next is read = subst (λ k. AreRead (take k (slice_set hs i new))) (sym next) (go hs i at is read)
    where
      go : (hs : List (Headed S)) (i : ℕ) → i < length hs → IsRead new.head → AreRead (take i hs) → AreRead (take (suc i) (slice_set hs i new))
      go [] i at is read = absurd (omega arith)
      go (k ∷ hs) zero at is read = (is, tt)
      go (k ∷ hs) (suc i) at is read = (read.0, go hs i (omega arith) is read.1)

  pub ready_at : (ready : S → Option Folder → Type 0) (x : Option Folder) (hs : List (Headed S)) (i : ℕ) → i < length hs → HeadsReady ready x hs
      → ready (slice_index_or hs i d).stream x
  ready_at ready x [] i at all = absurd (omega arith)
  ready_at ready x (k ∷ hs) zero at all = all.0
  ready_at ready x (k ∷ hs) (suc i) at all = ready_at ready x hs i (omega arith) all.1

  pub ready_set : (ready : S → Option Folder → Type 0) (x y : Option Folder) (hs : List (Headed S)) (i : ℕ) (new : Headed S) → i < length hs → y ≡ x
      → ready new.stream y → HeadsReady ready x hs → HeadsReady ready y (slice_set hs i new)
  ready_set ready x y [] i new at same is all = absurd (omega arith)
  ready_set ready x y (k ∷ hs) zero new at same is all = (is, subst (λ (o : Option Folder). HeadsReady ready o hs) (sym same) all.1)
  ready_set ready x y (k ∷ hs) (suc i) new at same is all = (subst (λ (o : Option Folder). ready k.stream o) (sym same) all.0, ready_set ready x y hs i new (omega arith) same is all.1)

  leave_at : (leaves : S → Option Folder → List Entry → Type 0) (x : Option Folder) (hs : List (Headed S)) (i : ℕ) (lists : List (List Entry)) → i < length hs
      → AllLeave leaves x hs lists → (es : List Entry) × HeadLeaves leaves x (slice_index_or hs i d) es
  leave_at leaves x [] i lists at all = absurd (omega arith)
  leave_at leaves x (k ∷ hs) i [] at all = absurd all
  leave_at leaves x (k ∷ hs) zero (l ∷ ls) at all = (l, all.0)
  leave_at leaves x (k ∷ hs) (suc i) (l ∷ ls) at all = leave_at leaves x hs i ls (omega arith) all.1

  show_at : (shows : S → Option Folder → Damage → Type 0) (x : Option Folder) (hs : List (Headed S)) (i : ℕ) (damage : Damage) → i < length hs
      → shows (slice_index_or hs i d).stream x damage → HeadsShow shows x hs damage
  show_at shows x [] i damage at is = absurd (omega arith)
  show_at shows x (k ∷ hs) zero damage at is = inl is
  show_at shows x (k ∷ hs) (suc i) damage at is = inr (show_at shows x hs i damage (omega arith) is)

  pub show_set : (shows : S → Option Folder → Damage → Type 0) (x y : Option Folder) (hs : List (Headed S)) (i : ℕ) (new : Headed S) (damage : Damage) → y ≡ x
      → (shows new.stream y damage → shows (slice_index_or hs i d).stream x damage) → HeadsShow shows y (slice_set hs i new) damage
      → HeadsShow shows x hs damage
  show_set shows x y [] i new damage same fewer is = absurd is
  show_set shows x y (k ∷ hs) zero new damage same fewer is = ⊎_elim (λ here. inl (fewer here)) (λ later. inr (subst (λ (o : Option Folder). HeadsShow shows o hs damage) same later)) is
  show_set shows x y (k ∷ hs) (suc i) new damage same fewer is = ⊎_elim (λ here. inl (subst (λ (o : Option Folder). shows k.stream o damage) same here)) (λ later. inr (show_set shows x y hs i new damage same fewer later)) is

  -- a call on one stream is a call on all of them

  pub can_at : (opens : S → FileName → Type 0) (K : Option Folder → Type 0) (v : View) (hs : List (Headed S)) (i : ℕ) → i < length hs
      → CanStream K (HeadsOpen opens hs) v → CanStream K (opens (slice_index_or hs i d).stream) v
  can_at opens K v hs i at can = record { there = λ name is. can.there name (open_at opens hs i name at is); agrees = can.agrees }

  pub streamed_set : (opens : S → FileName → Type 0) (K : Option Folder → Type 0) (A B : FileName → Type 0) (u v : View) (hs : List (Headed S)) (i : ℕ) (new : Headed S) → i < length hs
      → HasStreamed K A B (opens (slice_index_or hs i d).stream) (opens new.stream) u v → HasStreamed K A B (HeadsOpen opens hs) (HeadsOpen opens (slice_set hs i new)) u v
  streamed_set opens K A B u v hs i new at one = record {
    agrees = one.agrees;
    covers = λ name is. ⊎_elim (λ before. inl before) (λ mine. inr (open_at opens hs i name at mine)) (one.covers name is);
    opens = λ name is. open_set opens hs i new name (one.opens name) is;
    changes = one.changes;
  }

  pub faults_set : {T : Type 0} (shows : S → Option Folder → Damage → Type 0) (leaves : S → Option Folder → List Entry → Type 0) (u v : View) (hs : List (Headed S)) (i : ℕ) (new : Headed S) (r : Result T ReadFault) → i < length hs → v.files ≡ u.files
      → StreamFaults (shows (slice_index_or hs i d).stream u.files) (shows new.stream v.files) (HeadLeaves leaves u.files (slice_index_or hs i d)) u v r
      → StreamFaults (HeadsShow shows u.files hs) (HeadsShow shows v.files (slice_set hs i new)) (AllLeave leaves u.files hs) u v r
  faults_set shows leaves u v hs i new r at same one = record {
    causes = one.causes;
    damaged = on_err (shows (slice_index_or hs i d).stream u.files) (HeadsShow shows u.files hs) r (λ damage is. show_at shows u.files hs i damage at is) one.damaged;
    undamaged = on_err (λ _. (es : List Entry) → HeadLeaves leaves u.files (slice_index_or hs i d) es → ⊥) (λ _. (lists : List (List Entry)) → AllLeave leaves u.files hs lists → ⊥) r
        (λ damage no lists all. (let mine = leave_at leaves u.files hs i lists at all in no mine.0 mine.1)) one.undamaged;
    shows = λ damage is. show_set shows u.files v.files hs i new damage same (one.shows damage) is;
  }
