-- Writers to which a partition can be pushed.
use Rattle.std.specs.Prelude.{◌≡◌, ◌≤◌, ℕ, IsTrue}
use Rattle.sasi_types.specs.declared.partitioner.Partitioner.TheVariants.{Lead8}
use Rattle.sasi_host.specs.View.{View, Reaches}
use Rattle.sasi_datawrite.specs.Writing.{Writer, last_pair}

-- no call has failed, and a partition whose token isn't below this one can be pushed
pub record CanPush (v : View) (writer : Writer) (token : ℕ) : Type 0 where
  pub last : (last_pair writer.pairs).token ≤ token
  pub partitioner : writer.partitioner ≡ Lead8
  pub room : Reaches v writer.file writer.offset
  pub usable : IsTrue writer.usable
