use Rattle.std.proofs.Common.{◌≡◌, ◌≤◌, ◌+◌, ℕ, Ok, Option, Some, map}
use Rattle.sasi_host.specs.declared.damage.Damage.{Damage}
use Rattle.sasi_host.specs.Names.{Folder}
use Rattle.sasi_plan.specs.Answers.{CountsTo, ReadsLeft, ReadsUpTo, RowsLeft}
use Rattle.sasi_plan.specs.contracts.plan_candidates.PlanCandidatesCandidates.TheImpl as source
use Rattle.sasi_ranges.specs.StreamCalls.{CanStream, HasStreamed, StreamFaults}
use Rattle.sasi_fetch.proofs.ReadRows.{HasPrinted}
use Rattle.sasi_fetch.proofs.rows.print_first.Given as goal

-- the rows so far were printed, and the reader has the others left
abbrev pub invariant-loop-row : goal.invariant-loop-row
invariant-loop-row g l =
    let view = g.H.Host.view in
    let u = view l.fn.host in
    let v = view l.host in
    let was = l.fn.reader.rows in
    let now = l.reader.rows in
    record {
      can : CanStream (g.P.PageReader.agrees l.pages) (source.opens-value.it now.candidates) v;
      ready : source.ready-value.it now.candidates v.files l.maps;
      prints : source.prints-value.it now.candidates v.files l.maps l.fn.reader.picked.key;
      picked : l.reader.picked ≡ l.fn.reader.picked;
      conditions : now.filter ≡ was.filter;
      same_view : now.candidates.view ≡ was.candidates.view;
      printed : HasPrinted l.fn.reader.picked (RowsLeft source.leaves-value.it was u.files l.maps) (RowsLeft source.leaves-value.it now v.files l.maps) l.fn.reply l.reply l.row;
      counts : (count : ℕ) → CountsTo source.leaves-value.it was u.files l.maps count → CountsTo source.leaves-value.it now v.files l.maps count;
      reads : (most : ℕ) → ReadsLeft source.leaves-value.it source.pays-value.it was u.files l.maps most → (rest : ℕ) × ReadsLeft source.leaves-value.it source.pays-value.it now v.files l.maps rest × (v.reads + rest ≤ u.reads + most);
      up_to : (n m most : ℕ) → l.row + n ≤ m → ReadsUpTo source.leaves-value.it source.pays-value.it was u.files l.maps (Some m) most
          → (rest : ℕ) × ReadsUpTo source.leaves-value.it source.pays-value.it now v.files l.maps (Some n) rest × (v.reads + rest ≤ u.reads + most);
      uses : (number : ℕ) → source.uses-value.it now.candidates number → source.uses-value.it was.candidates number;
      shows : (files : Option Folder) (damage : Damage) → source.shows-value.it now.candidates files damage → source.shows-value.it was.candidates files damage;
      kinds : map (λ b. (goal.Analyzer-dyn g (b.vtable, b.value)).kind b.value) l.kit.objects.items ≡ map (λ b. (goal.Analyzer-dyn g (b.vtable, b.value)).kind b.value) l.fn.kit.objects.items;
      read : HasStreamed (g.P.PageReader.agrees l.pages) (g.P.PageReader.covers l.fn.pages) (g.P.PageReader.covers l.pages) (source.opens-value.it was.candidates) (source.opens-value.it now.candidates) u v;
      faults : (n : ℕ) → StreamFaults (source.shows-value.it was.candidates u.files) (source.shows-value.it now.candidates v.files) (RowsLeft source.leaves-value.it was u.files l.maps) u v (Ok n);
    }
