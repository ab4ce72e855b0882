use Rattle.std.proofs.Common.{◌≡◌, List, true, sym, subst}
use Rattle.std.specs.Prelude.{IsTrue}
use Rattle.std.specs.List.Sorted.{IsStrictlySortedBy}
use Rattle.std.specs.Ordering.{nat_cmp}
use Rattle.sasi_manifest.specs.declared.files.PartNumber.{PartNumber}
use Rattle.sasi_pairs.specs.Gathered.{defs_of}
use Rattle.sasi_pairs.specs.PairViews.{PairView}
use Rattle.sasi_pairs.specs.SealedFiles.{AreAmong, AreDefined}
use Rattle.sasi_manifest.specs.ListedFiles.{is_name_of}
use Rattle.sasi_pairs.proofs.IndexLaws.{within_none}
use Rattle.sasi_pairs.proofs.PushLaws.{first_up, sorted_each}
use Rattle.sasi_pairs.proofs.Replaced.{parts_among}
use Rattle.sasi_pairs.proofs.SyncedFiles.{numbers, sorted_of_rising}
use Rattle.sasi_pairs.proofs.writer.PairWriter.seal.Goals as goal

pub returns-in_err-sealed-clause-changes : goal.returns-in_err-sealed-clause-changes
returns-in_err-sealed-clause-changes g c = within_none (is_name_of (record { number = c.args.self.writer.file.number; parts = c.args.parts.now })) (g.H.Host.view c.args.host.now)

pub finish_durably-requires-clause-gathered : goal.finish_durably-requires-clause-gathered
finish_durably-requires-clause-gathered g c =
    let up : c.self.inside.usable ≡ true = first_up c.self.inside.usable c.self.inside.writer.usable (subst (λ (v : PairView). IsTrue v.writer.usable) (sym c.self.view_is) c.requires.usable) in
    sorted_each c.self.inside.writer.offset c.self.inside.builders.items (c.self.invariant.gathered up)

pub finish_durably-requires-clause-rising : goal.finish_durably-requires-clause-rising
finish_durably-requires-clause-rising g c = subst (λ (l : List PartNumber). IsStrictlySortedBy nat_cmp (numbers l)) (sym c.as_slice-2.ensures) (sorted_of_rising c.args.parts.now c.requires.rising)

pub finish_durably-requires-clause-defined : goal.finish_durably-requires-clause-defined
finish_durably-requires-clause-defined g c =
    subst (λ (l : List PartNumber). AreAmong c.self.inside.builders.items l) (sym c.as_slice-2.ensures)
    (parts_among c.self.inside.builders.items c.args.parts.now (subst (λ (v : PairView). AreDefined (defs_of v.indexes) c.args.parts.now) (sym c.self.view_is) c.requires.defined))
