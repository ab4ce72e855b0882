-- The emits of a whole run, and the numbers and analyzers that its pieces needed.
use Rattle.std.proofs.Common.{◌≡◌, ℕ, List, [], Option, refl, subst, inl, inr}
use Rattle.std.specs.Io.KnownBytes.{Appends}
use Rattle.sasi_types.specs.declared.class.Class.{Class}
use Rattle.sasi_layout.specs.Layout.{Layout, state_of}
use Rattle.sasi_layout.specs.NumbersInOrder.{HasNumbersInOrder}
use Rattle.sasi_store.specs.Worlds.{new_world}
use Rattle.sasi_model.specs.Parsers.{grammar_parser}
use Rattle.sasi_host.specs.Names.{Folder}
use Rattle.sasi_host.specs.View.{SourceView, View}
use Rattle.sasi_cql.proofs.Parsing.{is_parser}
use Rattle.sasi_recover.specs.Faults.{OnMissing}
use Rattle.sasi_recover.specs.Promises.{LacksClass}
use Rattle.sasi_recover.specs.declared.fault.OpenFault.{OpenFault}
use Rattle.sasi_recover.specs.declared.fault.OpenFault.TheVariants as open_fault
use Rattle.sasi_run.specs.Causes.{CountsFrom}
use Rattle.sasi_run.specs.Crashing.{RunsWorld}
use Rattle.sasi_run.specs.EmitCounts.{EmitsCounted}
use Rattle.sasi_run.specs.Headline.{first_of, script_of, status_of_fault}
use Rattle.sasi_run.specs.declared.status.Status.{Status}
use Rattle.sasi_run.specs.declared.status.Status.TheVariants.{Usage}
use Rattle.sasi_run.proofs.EmitLaws.{makes_none}
use Rattle.sasi_run.proofs.WholeRun.{replies_as_model, by_layout_behind, nothing_by_layout, nothing_read, unopened_by_layout, unread_answers}

-- the words name no script
pub counts_unused : {kinds : List Class} (folder : Folder) (l : Layout) (script : SourceView) (a : View) → HasNumbersInOrder l → CountsFrom kinds folder Usage l script script a a
unfolding nothing_by_layout
counts_unused folder l script a in_order = record {
  emits = record {
    parser = grammar_parser;
    parses = is_parser;
    as_model = replies_as_model Usage l script.left script.left a.emitted a.emitted in_order (nothing_by_layout l script.left a.emitted);
    counted = record { answered = []; by_status = refl; emits = makes_none a.emits a.emits refl };
  };
  needs = inr tt;
}

module _ (l : Layout) (left o o2 : Option (List ℕ)) (silent : Appends o o2 []) (n m : ℕ) (none : m ≡ n) where
  none_counted : (fault : OpenFault)
      → EmitsCounted (unopened_by_layout fault l left o o2 silent).answers (status_of_fault fault) (state_of l) (script_of left (unopened_by_layout fault l left o o2 silent).runs.read)
      (unopened_by_layout fault l left o o2 silent).runs.read (unopened_by_layout fault l left o o2 silent).runs.shown n m
  unfolding unopened_by_layout
  none_counted open_fault.Failed =
      record { answered = []; by_status = (nothing_read (first_of (unread_answers l left)) (state_of l) (script_of left []) refl, refl); emits = makes_none n m none }
  none_counted open_fault.OutOfMemory =
      record { answered = []; by_status = (nothing_read (first_of (unread_answers l left)) (state_of l) (script_of left []) refl, refl); emits = makes_none n m none }
  none_counted (open_fault.Damaged damage) = record { answered = []; by_status = refl; emits = makes_none n m none }
  none_counted (open_fault.AnalyzerMissing class) =
      record { answered = []; by_status = (nothing_read (first_of (unread_answers l left)) (state_of l) (script_of left []) refl, refl); emits = makes_none n m none }
  none_counted (open_fault.PartitionerDiffers asked kept) = record { answered = []; by_status = refl; emits = makes_none n m none }

-- the folder wasn't opened
pub counts_unopened : {kinds : List Class} (folder : Folder) (fault : OpenFault) (l : Layout) (script : SourceView) (a b : View) → HasNumbersInOrder l → Appends a.emitted b.emitted []
    → b.emits ≡ a.emits → OnMissing (LacksClass kinds folder) fault → CountsFrom kinds folder (status_of_fault fault) l script script a b
counts_unopened folder open_fault.Failed l script a b in_order silent none lacks = record {
  emits = record {
    parser = grammar_parser;
    parses = is_parser;
    as_model = replies_as_model (status_of_fault open_fault.Failed) l script.left script.left a.emitted b.emitted in_order
        (unopened_by_layout open_fault.Failed l script.left a.emitted b.emitted silent);
    counted = none_counted l script.left a.emitted b.emitted silent a.emits b.emits none open_fault.Failed;
  };
  needs = inr tt;
}
counts_unopened folder open_fault.OutOfMemory l script a b in_order silent none lacks = record {
  emits = record {
    parser = grammar_parser;
    parses = is_parser;
    as_model = replies_as_model (status_of_fault open_fault.OutOfMemory) l script.left script.left a.emitted b.emitted in_order
        (unopened_by_layout open_fault.OutOfMemory l script.left a.emitted b.emitted silent);
    counted = none_counted l script.left a.emitted b.emitted silent a.emits b.emits none open_fault.OutOfMemory;
  };
  needs = inr tt;
}
counts_unopened folder (open_fault.Damaged damage) l script a b in_order silent none lacks = record {
  emits = record {
    parser = grammar_parser;
    parses = is_parser;
    as_model = replies_as_model (status_of_fault (open_fault.Damaged damage)) l script.left script.left a.emitted b.emitted in_order
        (unopened_by_layout (open_fault.Damaged damage) l script.left a.emitted b.emitted silent);
    counted = none_counted l script.left a.emitted b.emitted silent a.emits b.emits none (open_fault.Damaged damage);
  };
  needs = inr tt;
}
counts_unopened folder (open_fault.AnalyzerMissing class) l script a b in_order silent none lacks = record {
  emits = record {
    parser = grammar_parser;
    parses = is_parser;
    as_model = replies_as_model (status_of_fault (open_fault.AnalyzerMissing class)) l script.left script.left a.emitted b.emitted in_order
        (unopened_by_layout (open_fault.AnalyzerMissing class) l script.left a.emitted b.emitted silent);
    counted = none_counted l script.left a.emitted b.emitted silent a.emits b.emits none (open_fault.AnalyzerMissing class);
  };
  needs = inl lacks;
}
counts_unopened folder (open_fault.PartitionerDiffers asked kept) l script a b in_order silent none lacks = record {
  emits = record {
    parser = grammar_parser;
    parses = is_parser;
    as_model = replies_as_model (status_of_fault (open_fault.PartitionerDiffers asked kept)) l script.left script.left a.emitted b.emitted in_order
        (unopened_by_layout (open_fault.PartitionerDiffers asked kept) l script.left a.emitted b.emitted silent);
    counted = none_counted l script.left a.emitted b.emitted silent a.emits b.emits none (open_fault.PartitionerDiffers asked kept);
  };
  needs = inr tt;
}

-- the script was run
pub counts_opened : {kinds : List Class} (folder : Folder) (status : Status) (l : Layout) (script later : SourceView) (a b c : View) → HasNumbersInOrder l → b.emitted ≡ a.emitted
    → b.emits ≡ a.emits → RunsWorld kinds status (new_world l) script.left later.left b c → CountsFrom kinds folder status l script later a c
unfolding by_layout_behind
counts_opened folder status l script later a b c in_order silent none on = record {
  emits = record {
    parser = grammar_parser;
    parses = is_parser;
    as_model = replies_as_model status l script.left later.left a.emitted c.emitted in_order (by_layout_behind status l script.left later.left b a c silent on);
    counted = subst (λ (n : ℕ). EmitsCounted on.answers status (state_of l) (script_of script.left on.runs.read) on.runs.read on.runs.shown n c.emits) none on.emits;
  };
  needs = inr on.needs;
}
