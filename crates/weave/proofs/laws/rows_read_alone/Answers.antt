use Rattle.weave.proofs.Reading.{reads_alone, reads_by_reads}
use Rattle.weave.proofs.laws.rows_read_alone.Goals as goal

pub returns-clause-alone : goal.returns-clause-alone
returns-clause-alone c = reads_alone

pub returns-clause-reads : goal.returns-clause-reads
returns-clause-reads c = reads_by_reads
