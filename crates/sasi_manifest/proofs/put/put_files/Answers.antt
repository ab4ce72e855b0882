use Rattle.std.proofs.Common.{◌<◌, ◌^◌, length, arith}
use Rattle.sasi_manifest.specs.declared.files.ListedFile.{ListedFile}
use Rattle.sasi_manifest.proofs.EditBytes.{each_at, file_bytes, files_put, put_step}
use Rattle.sasi_manifest.proofs.put.put_files.Goals as goal

pub put_file-requires : goal.put_file-requires
put_file-requires c = (each_at (λ (f : ListedFile). length f.parts < 2 ^ 16) c.args.files.now c.loop-file.file-index c.file-item.result (omega (arith, c.loop-file-test.true)) c.file-item.is c.loop-file.invariant.parts).0

pub loop-file-preserved : goal.loop-file-preserved
loop-file-preserved c = record {
  bytes = put_step file_bytes c.args.files.now c.loop-file.file-index c.file-item.result c.loop-file.out.items c.put_file.new.out.items _ (omega (arith, c.loop-file-test.true)) c.file-item.is c.in_ok-put_file.ensures c.loop-file.invariant.bytes;
  parts = (each_at (λ (f : ListedFile). length f.parts < 2 ^ 16) c.args.files.now c.loop-file.file-index c.file-item.result (omega (arith, c.loop-file-test.true)) c.file-item.is c.loop-file.invariant.parts).1;
}

pub returns : goal.returns
returns c = files_put c.args.files.now c.loop-file.file-index c.args.out.now.items c.loop-file.out.items c.loop-file-test.false c.loop-file.invariant.bytes
