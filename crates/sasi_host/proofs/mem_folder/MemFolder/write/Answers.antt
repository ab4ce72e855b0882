use Rattle.std.proofs.Common.{◌≡◌, ◌∙◌, ap, sym, arith, Some, is_some, None}
use Rattle.std.specs.Option.{option_copied_mut}
use Rattle.std.specs.BTreeMap.{BTreeMap}
use Rattle.sasi_host.specs.declared.name.FileName.{FileName}
use Rattle.std.proofs.lemmas.Result.{on_ok_weaker, on_err_weaker}
use Rattle.std.specs.FinMap as map
use Rattle.sasi_host.specs.Names.{Bytes, Folder}
use Rattle.sasi_host.specs.Files.{look_up, folder_of, written}
use Rattle.sasi_host.proofs.Folders.{get_entry, folder_write, folder_still, fits_set, written_none}
use Rattle.sasi_host.proofs.mem_folder.MemFolder.write.Goals as goal

abbrev Tree : Type 0
Tree = BTreeMap FileName Bytes

pub invariant_of-self-2 : goal.invariant_of-self-2
invariant_of-self-2 c =
    let is : look_up c.self.inside.files.entries c.args.name ≡ Some c.in-Some.byte_buffer.now = sym c.in-Some.ensures.value in
    fits_set c.write.result c.self.inside.files.entries _ c.args.name c.args.at c.args.bytes.now _ c.write.new.self c.self.invariant
    (omega arith) is ((c.get_mut.follows.holds c.write.new.self).3 (ap is_some is)).0 c.write.ensures.ok c.write.ensures.err

pub returns-clause-fits : goal.returns-clause-fits
returns-clause-fits c = invariant_of-self-2 c

pub returns-clause-ok : goal.returns-clause-ok
returns-clause-ok c =
    let is : look_up c.self.inside.files.entries c.args.name ≡ Some c.in-Some.byte_buffer.now = sym c.in-Some.ensures.value in
    on_ok_weaker c.write.result (λ new. folder_write c.self.inside.files.entries _ c.args.name c.args.at c.args.bytes.now _ c.write.new.self is
    ((c.get_mut.follows.holds c.write.new.self).3 (ap is_some is)).0 new
    ∙ ap (λ (f : Folder). written (map.get f c.args.name) c.args.name c.args.at c.args.bytes.now f) c.self.view_is) c.write.ensures.ok

pub returns-clause-err : goal.returns-clause-err
returns-clause-err c =
    let is : look_up c.self.inside.files.entries c.args.name ≡ Some c.in-Some.byte_buffer.now = sym c.in-Some.ensures.value in
    on_err_weaker c.write.result (λ same. folder_still c.self.inside.files.entries _ c.args.name _ c.write.new.self is
    ((c.get_mut.follows.holds c.write.new.self).3 (ap is_some is)).0 same ∙ c.self.view_is) c.write.ensures.err

pub returns-in_default-clause-ok : goal.returns-in_default-clause-ok
returns-in_default-clause-ok c =
    let none : map.get c.args.self.now c.args.name ≡ None = sym (ap (λ (f : Folder). map.get f c.args.name) c.self.view_is)
    ∙ get_entry c.self.inside.files.entries c.args.name ∙ sym c.get_mut.ensures.value ∙ ap option_copied_mut c.in_default.is in
    ap (λ (t : Tree). folder_of t.entries) c.get_mut.follows.holds-at-none ∙ c.self.view_is ∙ sym (written_none c.args.self.now c.args.name c.args.at c.args.bytes.now none)
