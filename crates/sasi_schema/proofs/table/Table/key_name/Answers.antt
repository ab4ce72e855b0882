use Rattle.sasi_schema.proofs.Keys.{key_below, name_read}
use Rattle.sasi_schema.proofs.table.Table.key_name.Goals as goal

pub bounds-as_slice-self : goal.bounds-as_slice-self
bounds-as_slice-self c = rw c.as_slice.ensures (key_below c.args.self.now.key c.args.self.now.columns c.args.self.now.key_is_there)

pub returns : goal.returns
returns c =
    let t = c.args.self.now in
    let column = c.index-as_slice-self.result in
    rw (← c.index-as_slice-self.is) (name_read t.columns t.key column (key_below t.key t.columns t.key_is_there) (rw c.as_slice.ensures at c.index-as_slice-self.is))
