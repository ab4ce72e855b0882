use Rattle.sasi_schema.proofs.Keys.{key_below, type_read}
use Rattle.sasi_schema.proofs.table.Table.key_type.Goals as goal

pub bounds-as_slice-self : goal.bounds-as_slice-self
bounds-as_slice-self c = rw c.as_slice.ensures (key_below c.args.self.now.key c.args.self.now.columns c.args.self.now.key_is_there)

pub bounds-as_slice-self-2 : goal.bounds-as_slice-self-2
bounds-as_slice-self-2 c = rw c.as_slice.ensures (key_below c.args.self.now.key c.args.self.now.columns c.args.self.now.key_is_there)

pub returns : goal.returns
returns c =
    let t = c.args.self.now in
    let column = c.index-as_slice-self.result in
    rw (← c.index-as_slice-self.is) (type_read t.columns t.key column (key_below t.key t.columns t.key_is_there) (rw c.as_slice.ensures at c.index-as_slice-self.is))
