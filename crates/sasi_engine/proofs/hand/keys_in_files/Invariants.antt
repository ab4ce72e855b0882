use Rattle.std.proofs.Common.{◌≡◌, ◌++◌, drop, map}
use Rattle.sasi_lookup.specs.Files.{LookedFile}
use Rattle.sasi_engine.proofs.hand.keys_in_files.Given as goal

abbrev pub invariant-loop-file : goal.invariant-loop-file
invariant-loop-file l = map (λ v. v.now) l.keys.items ++ map (λ (file : LookedFile). file.keys) (drop l.file-index l.files) ≡ map (λ (file : LookedFile). file.keys) l.files
