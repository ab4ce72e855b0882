-- What is known of many streams stays while their files do.
use Rattle.std.specs.Prelude.{◌≡◌, ℕ, List, [], ◌∷◌, Option}
use Rattle.std.proofs.Common.{inl, inr}
use Rattle.sasi_host.specs.Names.{Folder}
use Rattle.sasi_host.specs.declared.name.FileName.{FileName}
use Rattle.sasi_host.specs.View.{contents_in}
use Rattle.sasi_ranges.specs.declared.entry.Entry.{Entry}
use Rattle.sasi_ranges.specs.declared.head.Head.{Head}
use Rattle.sasi_ranges.specs.declared.head.Head.TheVariants.{Unread, At, Ended}
use Rattle.sasi_ranges.specs.declared.head.Headed.{Headed}
use Rattle.sasi_ranges.specs.inside.Heads.{AllLeave, AtHead, HeadsOpen, HeadsPay, HeadsReady}

module _ {S : Type 0} (ready : S → Option Folder → Type 0) (leaves : S → Option Folder → List Entry → Type 0) (pays : S → Option Folder → ℕ → Type 0) (opens : S → FileName → Type 0) (old new : Option Folder) where
  abbrev pub Stays : S → Type 0
  Stays s = (ready s old → ready s new) × ((es : List Entry) → leaves s old es → leaves s new es) × ((most : ℕ) → pays s old most → pays s new most)

  abbrev pub IsSame : FileName → Type 0
  IsSame name = contents_in new name ≡ contents_in old name

  pub record Kept (hs : List (Headed S)) : Type 0 where
    pub still_ready : HeadsReady ready old hs → HeadsReady ready new hs
    pub still_left : (lists : List (List Entry)) → AllLeave leaves old hs lists → AllLeave leaves new hs lists
    pub still_paid : (most : ℕ) → HeadsPay pays old hs most → HeadsPay pays new hs most

  head_keeps : (s : S) (head : Head) (es : List Entry) → ((es : List Entry) → leaves s old es → leaves s new es) → AtHead leaves old head s es
      → AtHead leaves new head s es
  head_keeps s Unread es stays at = stays es at
  head_keeps s (At e) es stays at = (at.0, at.1, stays at.0 at.2)
  head_keeps s Ended es stays at = at

  none_left : (lists : List (List Entry)) → AllLeave leaves old [] lists → AllLeave leaves new [] lists
  none_left [] all = all
  none_left (l ∷ ls) all = absurd all

  one_left : (h : Headed S) (hs : List (Headed S)) (lists : List (List Entry)) → ((es : List Entry) → leaves h.stream old es → leaves h.stream new es)
      → ((lists : List (List Entry)) → AllLeave leaves old hs lists → AllLeave leaves new hs lists)
      → AllLeave leaves old (h ∷ hs) lists → AllLeave leaves new (h ∷ hs) lists
  one_left h hs [] stays later all = absurd all
  one_left h hs (l ∷ ls) stays later all = (head_keeps h.stream h.head l stays all.0, later ls all.1)

  pub heads_keep : ((s : S) → ((name : FileName) → opens s name → IsSame name) → Stays s) → (hs : List (Headed S))
      → ((name : FileName) → HeadsOpen opens hs name → IsSame name) → Kept hs
  heads_keep stays [] same = record { still_ready = λ all. all; still_left = none_left; still_paid = λ most all. all }
  heads_keep stays (h ∷ hs) same =
      let one = stays h.stream (λ name mine. same name (inl mine)) in
      let later = heads_keep stays hs (λ name mine. same name (inr mine)) in
      record {
        still_ready = λ all. (one.0 all.0, later.still_ready all.1);
        still_left = λ lists all. one_left h hs lists one.1 later.still_left all;
        still_paid = λ most all. (all.0, all.1, one.2 all.0 all.2, later.still_paid all.1 all.3, all.4);
      }
