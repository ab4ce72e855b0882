-- What is known of the hits that an index file gives stays while the file does, and they rise.
use Rattle.std.specs.Prelude.{◌≡◌, ℕ, List, Option, None, Some}
use Rattle.std.proofs.Common.{◌∙◌, refl, subst, sym}
use Rattle.sasi_types.specs.declared.tree.Pair.{Pair}
use Rattle.sasi_host.specs.declared.name.FileName.{FileName}
use Rattle.sasi_host.specs.Names.{Bytes, Folder}
use Rattle.sasi_host.specs.View.{contents_in}
use Rattle.sasi_terms.specs.declared.op.Op.{Op}
use Rattle.sasi_indexwrite.specs.Content.{IndexContent}
use Rattle.sasi_ranges.specs.declared.entry.Entry.{Entry}
use Rattle.sasi_ranges.specs.Entries.{Rises}
use Rattle.sasi_hits.specs.declared.open_searches.WordSearches.{WordSearches}
use Rattle.sasi_hits.specs.Calls.{IsFile, quiet}
use Rattle.sasi_hits.specs.IndexHits.{AreOpen, HitEntries, HitsLeave, HitsPay, HitsReady, ReadsAsIndex, SearchesLeave, SearchesPay}
use Rattle.sasi_hits.specs.Pairs.{PairsRise}
use Rattle.sasi_hits.specs.inside.Moving.{are_searching_move, can_meet_moves}
use Rattle.sasi_hits.specs.inside.Rising.{entries_rise}

left_rise : (file : FileName) (op : Op) (words : List Bytes) (floor : ℕ) (searches : Option WordSearches) (files : Option Folder) (left : List Pair) → HitsLeave file op words floor searches files left → PairsRise left
left_rise file op words floor None files left is = is.3.rise
left_rise file op words floor (Some searches) files left is = is.1.2.rise

-- the hits at what is left rise
pub hit_entries_rise : (file : FileName) (op : Op) (words : List Bytes) (leaf part floor : ℕ) (searches : Option WordSearches) (files : Option Folder) (es : List Entry)
    → HitEntries file op words leaf part floor searches files es → Rises es
hit_entries_rise file op words leaf part floor searches files es is = subst Rises (sym is.2) (entries_rise leaf part is.0 (left_rise file op words floor searches files is.0 is.1))

module _ (old new : Option Folder) where
  abbrev pub IsSame : FileName → Type 0
  IsSame name = contents_in new name ≡ contents_in old name

  index_stays : (file : FileName) (bytes : Bytes) (content : IndexContent) → IsSame file → ReadsAsIndex old file bytes content → ReadsAsIndex new file bytes content
  index_stays file bytes content same is = record { reads = same ∙ is.reads; index_file = is.index_file }

  pub searches_leave_stays : (op : Op) (words : List Bytes) (floor : ℕ) (searches : WordSearches) (left : List Pair) → IsSame searches.first.index.file
      → SearchesLeave op words floor searches old left → SearchesLeave op words floor searches new left
  searches_leave_stays op words floor searches left same is = (is.0, are_searching_move (quiet old) (quiet new) op words searches.first searches.others.items is.0 same is.1, is.2)

  pub searches_pay_stays : (op : Op) (words : List Bytes) (searches : WordSearches) (most : ℕ) → IsSame searches.first.index.file
      → SearchesPay op words searches old most → SearchesPay op words searches new most
  searches_pay_stays op words searches most same is = (is.0, are_searching_move (quiet old) (quiet new) op words searches.first searches.others.items is.0 same is.1, is.2)

  pub open_stays : (file : FileName) (searches : WordSearches) → IsSame file → AreOpen file searches old → AreOpen file searches new
  open_stays file searches same is = record {
    named = is.named;
    opened = λ bytes reads. is.opened bytes (sym same ∙ reads);
    can = can_meet_moves (quiet old) (quiet new) searches.first searches.others.items (subst IsSame (sym is.named) same) is.can;
  }

  leaves_stays : (file : FileName) (op : Op) (words : List Bytes) (floor : ℕ) (searches : Option WordSearches) (left : List Pair) → IsSame file
      → HitsLeave file op words floor searches old left → HitsLeave file op words floor searches new left
  leaves_stays file op words floor None left same is = (is.0, is.1, index_stays file is.0 is.1 same is.2, is.3)
  leaves_stays file op words floor (Some searches) left same is = (is.0, searches_leave_stays op words floor searches left (subst IsSame (sym is.0) same) is.1)

  pays_stays : (file : FileName) (op : Op) (words : List Bytes) (searches : Option WordSearches) (most : ℕ) → IsSame file → HitsPay file op words searches old most → HitsPay file op words searches new most
  unfolding index_stays
  pays_stays file op words None most same is = (is.0, is.1, index_stays file is.0 is.1 same is.2, is.3)
  pays_stays file op words (Some searches) most same is = (is.0, searches_pay_stays op words searches most (subst IsSame (sym is.0) same) is.1)

  ready_stays : (file : FileName) (searches : Option WordSearches) → IsSame file → HitsReady file searches old → HitsReady file searches new
  ready_stays file None same is = tt
  ready_stays file (Some searches) same is = open_stays file searches same is

  -- what is known stays
  pub hits_keep : (file : FileName) (op : Op) (words : List Bytes) (leaf part floor : ℕ) (searches : Option WordSearches) → ((name : FileName) → IsFile file name → IsSame name)
      → (HitsReady file searches old → HitsReady file searches new)
      × ((es : List Entry) → HitEntries file op words leaf part floor searches old es → HitEntries file op words leaf part floor searches new es)
      × ((most : ℕ) → HitsPay file op words searches old most → HitsPay file op words searches new most)
  hits_keep file op words leaf part floor searches same =
      let this = same file refl in (
        ready_stays file searches this,
        λ es is. (is.0, leaves_stays file op words floor searches is.0 this is.1, is.2),
        λ most is. pays_stays file op words searches most this is,
      )
