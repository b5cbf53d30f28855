use Rattle.table_text.proofs.RoundTrip.{reads_back}
use Rattle.table_text.proofs.reading.read.Goals as goal

pub returns-clause-written_again_reads_the_same : goal.returns-clause-written_again_reads_the_same
returns-clause-written_again_reads_the_same c = reads_back c.in_ok-target.field-0
