use Rattle.std.proofs.Common.{◌≡◌, ◌||◌, ℕ, List, drop}
use Rattle.sasi_ranges.specs.Entries.{Rises}
use Rattle.sasi_narrow.specs.Narrowing.{has_entry, hit_in_file}
use Rattle.sasi_narrow.specs.inside.KeyRefs.{has_key}
use Rattle.sasi_narrow.proofs.file_hits.add_file_hits.Given as goal

abbrev pub invariant-loop-placed : goal.invariant-loop-placed
invariant-loop-placed l = Rises l.entries → (bytes : List ℕ)
    → (has_key bytes l.hits.items || hit_in_file (λ place. has_entry l.entries (record l.hit { place = place })) l.indexed (drop l.placed-index l.keys) bytes)
    ≡ (has_key bytes l.fn.hits.items || hit_in_file (λ place. has_entry l.entries (record l.hit { place = place })) l.indexed l.keys bytes)
