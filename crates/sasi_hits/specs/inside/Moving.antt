-- What is known of the searches of an index file is known of each view in which the file reads the same.
use Rattle.std.specs.Prelude.{◌≡◌, List, [], ◌∷◌}
use Rattle.std.proofs.Common.{◌∙◌, subst, sym}
use Rattle.std.proofs.lemmas.List.Elements.{All-weaker}
use Rattle.std.specs.List.{AllByRecursion}
use Rattle.sasi_types.specs.declared.tree.Pair.{Pair}
use Rattle.sasi_host.specs.declared.name.FileName.{FileName}
use Rattle.sasi_host.specs.Names.{Bytes}
use Rattle.sasi_host.specs.View.{View, contents}
use Rattle.sasi_terms.specs.declared.op.Op.{Op}
use Rattle.sasi_treemerge.specs.declared.tree_source.TreeSource.{TreeSource}
use Rattle.sasi_treemerge.specs.Merges.{IsReadable, sources_of}
use Rattle.sasi_indexwrite.specs.Content.{IndexContent}
use Rattle.sasi_indexread.specs.Opened.{IsOpenOn, OpenIndexFile}
use Rattle.sasi_indexread.specs.Searches.{CanSearch, IsSearching, Searching}
use Rattle.sasi_hits.specs.declared.word_search.WordSearch.{WordSearch}
use Rattle.sasi_hits.specs.WordSearches.{AllCanFollow, AreFollowing, AreSearching, CanMeet, IsFollowing}

module _ (a b : View) where
  abbrev pub ReadsSame : FileName → Type 0
  ReadsSame file = contents b file ≡ contents a file

  readable_moves : (file : FileName) → ReadsSame file → (source : TreeSource) → IsReadable a file source → IsReadable b file source
  readable_moves file same source is = record {
    named = is.named;
    buffered = λ page bytes this reads. is.buffered page bytes this (sym (subst (λ (n : FileName). ReadsSame n) (sym is.named) same) ∙ reads);
    at_head = record {
      passed = is.at_head.passed;
      stands = (is.at_head.stands.0, is.at_head.stands.1, λ bytes reads. is.at_head.stands.2 bytes (sym same ∙ reads));
      last_is = is.at_head.last_is;
    };
  }

  pub can_moves : (search : Searching) → ReadsSame search.index.file → CanSearch a search → CanSearch b search
  can_moves search same is = record {
    named = is.named;
    merge = record {
      heap = is.merge.heap;
      held_heap = is.merge.held_heap;
      each = All-weaker (IsReadable a search.merge.file) (IsReadable b search.merge.file) (readable_moves search.merge.file (subst (λ (n : FileName). ReadsSame n) (sym is.named) same)) (sources_of search.merge) is.merge.each;
    };
    listed = λ bytes reads. is.listed bytes (sym same ∙ reads);
    fresh = is.fresh;
  }

  open_moves : (opened : OpenIndexFile) (content : IndexContent) → ReadsSame opened.file → IsOpenOn a opened content → IsOpenOn b opened content
  open_moves opened content same is = record { bytes = is.bytes; reads = same ∙ is.reads; index_file = is.index_file; mode = is.mode; kind = is.kind; blocks = is.blocks; spill = is.spill }

  pub searching_moves : (search : Searching) (content : IndexContent) → ReadsSame search.index.file → IsSearching a search content → IsSearching b search content
  unfolding open_moves
  searching_moves search content same is = record { is_open = open_moves search.index content same is.is_open; gives = is.gives }

  pub following_moves : (content : IndexContent) (These : Pair → Type 0) (word : WordSearch) → ReadsSame word.search.index.file → IsFollowing a content These word → IsFollowing b content These word
  following_moves content These word same is = record { searching = searching_moves word.search content same is.searching; given = is.given; comes = is.comes }

  all_follow : (file : FileName) (content : IndexContent) (These : Pair → Type 0) (others : List WordSearch) → ReadsSame file → AllByRecursion (λ (word : WordSearch). word.search.index.file ≡ file) others
      → AreFollowing a content These others → AreFollowing b content These others
  all_follow file content These [] same named all = tt
  all_follow file content These (word ∷ others) same named all =
      (following_moves content These word (subst (λ (n : FileName). ReadsSame n) (sym named.0) same) all.0, all_follow file content These others same named.1 all.1)

  pub are_searching_move : (op : Op) (words : List Bytes) (first : Searching) (others : List WordSearch) (content : IndexContent) → ReadsSame first.index.file
      → AreSearching a op words first others content → AreSearching b op words first others content
  are_searching_move op words first others content same is = record {
    asked = is.asked;
    searching = searching_moves first content same is.searching;
    following = all_follow first.index.file content _ others same is.asked.files_are is.following;
  }

  all_can : (index : OpenIndexFile) (others : List WordSearch) → ReadsSame index.file → AllCanFollow a index others → AllCanFollow b index others
  all_can index [] same all = tt
  all_can index (word ∷ others) same all = (
    record {
      can = can_moves word.search (subst (λ (i : OpenIndexFile). ReadsSame i.file) (sym all.0.index_is) same) all.0.can;
      index_is = all.0.index_is;
      last_is = all.0.last_is;
      floor_is = all.0.floor_is;
    },
    all_can index others same all.1,
  )

  pub can_meet_moves : (first : Searching) (others : List WordSearch) → ReadsSame first.index.file → CanMeet a first others → CanMeet b first others
  can_meet_moves first others same is = record { can = can_moves first same is.can; floor_is = is.floor_is; follow = all_can first.index others same is.follow }
