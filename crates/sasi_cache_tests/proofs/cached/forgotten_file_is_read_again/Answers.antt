use Rattle.sasi_host.specs.Memory.{host_view, memory_host}
use Rattle.sasi_cache_tests.proofs.cached.forgotten_file_is_read_again.Goals as goal

pub check_page-requires-4 : goal.check_page-requires-4
check_page-requires-4 g c = c.forget.ensures.agrees (host_view (memory_host c.check_page-3.new.host)).files c.check_page-3.ensures
