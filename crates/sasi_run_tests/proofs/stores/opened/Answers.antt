use Rattle.std.proofs.Common.{List, sym, subst}
use Rattle.sasi_store.specs.StoreView.{KnowsStore}
use Rattle.sasi_types.specs.declared.class.Class.{Class}
use Rattle.sasi_run_tests.proofs.stores.opened.Goals as goal

pub returns-clause-classes : goal.returns-clause-classes
returns-clause-classes g c = subst (λ (kinds : List Class). KnowsStore kinds c.in-Ok.store) (sym c.open.ensures.kinds) c.in-Ok.ensures.classes
