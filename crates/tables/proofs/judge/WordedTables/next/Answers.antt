use Rattle.tables.proofs.Reading.{corner_reads}
use Rattle.tables.proofs.judge.WordedTables.next.Goals as goal

pub record-requires : goal.record-requires
record-requires c = corner_reads _ c.args.self.now.worded _ _ c.requires c.off_edge.ensures
