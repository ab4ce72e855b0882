use Rattle.std.proofs.Common.{[]}
use Rattle.sasi_plan_tests.proofs.plans.check.Goals as goal

pub check_plan-parts-requires : goal.check_plan-parts-requires
check_plan-parts-requires g c = record { numbers = []; planned = c.plan_of-plan.ensures; own = c.file_and_maps-view.ensures; maps = c.book_of-book.ensures }
