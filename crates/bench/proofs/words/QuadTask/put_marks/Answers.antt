use Rattle.std.proofs.Common.{refl}
use Rattle.refinement.specs.Tasks.{put}
use Rattle.bench.proofs.words.QuadTask.put_marks.Goals as goal

pub returns : goal.returns
unfolding put
returns c = refl
