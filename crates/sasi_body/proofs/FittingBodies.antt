-- A key and a partition that fit the format of a table have a body in it.
use Rattle.std.proofs.Common.{refl, subst, List}
use Rattle.sasi_host.specs.Names.{Bytes}
use Rattle.sasi_types.specs.declared.column.ColumnType.{ColumnType}
use Rattle.sasi_model.specs.Cells.{Partition}
use Rattle.sasi_formats.specs.Formats.{Fits}
use Rattle.sasi_body.specs.Body.{body_of, content, cells_of, IsBodyOf}
use Rattle.sasi_body.proofs.FitBodies.{fits_body, partition_is}

pub has_body : (listed : List ColumnType) (key : Bytes) (part : Partition) → Fits (body_of listed) (content key part) → IsBodyOf listed key part
has_body listed key part h =
    let fit = fits_body listed key part.deleted (cells_of part) h in
    subst (λ (p : Partition). IsBodyOf listed key p) (partition_is part.deleted (cells_of part) part fit.ordered refl refl) fit.body_is
