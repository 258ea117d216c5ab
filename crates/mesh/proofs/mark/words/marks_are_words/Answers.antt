use Rattle.mesh.proofs.Marks.{marks_are_words}
use Rattle.mesh.proofs.mark.words.marks_are_words.Goals as goal

pub returns : goal.returns
returns c = marks_are_words
