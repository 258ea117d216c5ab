use Rattle.bench.specs.Model.{state}
use Rattle.tables.specs.Lent.{mesh}
use Rattle.text.proofs.Returns.{writes}
use Rattle.text.proofs.write.write_text.Goals as goal

pub returns : goal.returns
returns c =
    let l = c.in_ok-tables.ensures in
    writes (state c.args.bench.now) (mesh c.in_ok-tables.tables) c.args.out.now c.write_level.new.out l.is l.lawful c.write_level.result c.write_level.ensures
