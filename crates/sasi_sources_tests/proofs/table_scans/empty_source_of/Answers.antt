use Rattle.std.proofs.Common.{◌≡◌, List, ℕ, [], rules, subst, sym}
use Rattle.sasi_manifest.specs.declared.files.ListedFile.{ListedFile}
use Rattle.sasi_sources.specs.KeyCandidates.{IsListed}
use Rattle.sasi_types.specs.declared.column.ColumnType.TheVariants as kinds
use Rattle.sasi_sources_tests.specs.Sources.{AreTextMaps}
use Rattle.sasi_sources_tests.proofs.table_scans.empty_source_of.Goals as goal

pub returns : goal.returns
returns g c =
    let none : c.new-files.result.items ≡ [] = search rules in
    let no_maps : c.new-numbers.result.items ≡ [] = search rules in
    record {
      opens = λ name is. absurd (subst (λ (files : List ListedFile). IsListed files name) none (c.new.ensures.opens name is));
      ready = c.new.ensures.ready;
      prints = λ seen book has. c.new.ensures.prints seen book kinds.Text (record { first = c.types_of.ensures; stored = subst (λ (ns : List ℕ). AreTextMaps book ns) (sym no_maps) tt });
    }
