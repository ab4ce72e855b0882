use Rattle.std.proofs.Common.{◌≡◌, ◌∙◌, List, sym, subst, ap}
use Rattle.std.specs.FinMap as map_
use Rattle.std.specs.List.{AllByRecursion}
use Rattle.std.specs.Option.{option_map}
use Rattle.sasi_types.specs.declared.partitioner.Partitioner.{Partitioner}
use Rattle.sasi_datawrite.specs.Format.{Content}
use Rattle.sasi_scan.specs.Parts.{merged_parts}
use Rattle.sasi_recheck.specs.Sources.{GivesFirst}
use Rattle.sasi_scan.specs.Numbered.{views_numbered}
use Rattle.sasi_host.specs.Names.{data_name}
use Rattle.sasi_host.specs.View.{IsThere}
use Rattle.sasi_manifest.specs.declared.files.ListedFile.{ListedFile}
use Rattle.sasi_memtable.specs.MemtableView.{MemtableView}
use Rattle.sasi_ranges.proofs.Calling.{streams_nothing}
use Rattle.sasi_sources.specs.KeyCandidates.{HasKeyType, IsKeyOf, IsListed, KeyLeaves}
use Rattle.sasi_sources.specs.inside.KeyLaws.{all_there}
use Rattle.sasi_sources.proofs.KeyGiving.{if_ok, key_given}
use Rattle.sasi_sources.proofs.key_candidates.KeyCandidatesCandidates.next.Goals as goal

pub returns-in_default-clause-read : goal.returns-in_default-clause-read
returns-in_default-clause-read g c = streams_nothing _ _ (IsListed c.args.self.now.files.items) (g.H.Host.view c.args.host.now) c.requires.read.agrees

pub find_candidate-requires : goal.find_candidate-requires
find_candidate-requires g c =
    let v = g.H.Host.view c.args.host.now in
    subst (λ (files : List ListedFile). AllByRecursion (λ (f : ListedFile). IsThere v (data_name f.number)) files) (sym c.deref-2.ensures.value) (all_there v c.args.self.now.files.items c.requires.read.there)

pub returns-clause-gives : goal.returns-clause-gives
returns-clause-gives g c left leaves =
    let s = c.args.self.now in
    let key = c.in-Some.key in
    let seen = (g.H.Host.view c.args.host.now).files in
    let now = (g.H.Host.view c.find_candidate.new.host).files in
    let maps = views_numbered c.args.maps.now s.maps.items in
    let maps_are = c.new-maps.ensures ∙ ap (views_numbered c.args.maps.now) c.deref.ensures.value in
    if_ok (λ found. (p : Partitioner) (contents : List Content) → IsKeyOf seen s.types c.deref-2.result.now key p contents → found ≡ option_map (λ part. (key.key, part)) (map_.get (merged_parts p contents c.new-maps.result) key))
    (GivesFirst (KeyLeaves s.types s.files.items c.take.new.self now maps) left) c.find_candidate.result
    (λ found gives. key_given s.types s.files.items s.key c.take.new.self key seen now maps left found (sym c.in-Some.ensures.value) c.take.ensures.after leaves
    (λ p contents is.
    gives p contents (subst (λ (files : List ListedFile). IsKeyOf seen s.types files key p contents) (sym c.deref-2.ensures.value) is)
    ∙ ap (λ (ms : List MemtableView). option_map (λ part. (key.key, part)) (map_.get (merged_parts p contents ms) key)) maps_are))
    c.find_candidate.ensures.gives

pub returns-clause-prints : goal.returns-clause-prints
returns-clause-prints g c kind has =
    let maps_are = c.new-maps.ensures ∙ ap (views_numbered c.args.maps.now) c.deref.ensures.value in
    c.find_candidate.ensures.prints kind (subst (λ (maps : List MemtableView). HasKeyType c.args.self.now.types maps kind) (sym maps_are) has)
