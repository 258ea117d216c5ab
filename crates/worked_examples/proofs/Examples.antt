-- The worked examples, by computing.
use Rattle.std.proofs.Common.{refl}
use Rattle.refinement.specs.Pillow.{pillow, pillow_refined}
use Rattle.step.specs.Step.{step_text}
use Rattle.carry.specs.Rows.{first_of, refusal, rows_refusal, values_refusal}
use Rattle.worked_examples.specs.Examples.{WorkedExamples}
use Rattle.worked_examples.proofs.Opened.{judging, refining, reading, carrying, placing}
use Rattle.worked_examples.proofs.Marks.{most_lawful, most_loads, more_refused}

pub worked_examples : WorkedExamples
unfolding pillow pillow_refined step_text reading judging refining carrying placing first_of refusal rows_refusal values_refusal
worked_examples = record {
  tables = refl;
  text_in = refl;
  text_out = refl;
  text_stepped = refl;
  coordinates = refl;
  half_sharp = refl;
  sharp = refl;
  mark_falls = refl;
  crease = refl;
  influences = refl;
  influences_sharp = refl;
  half_up = refl;
  half_up_below = refl;
  most_lawful = most_lawful;
  most_loads = most_loads;
  more_refused = more_refused;
  farthest_taken = refl;
  first_too_far = refl;
  second_too_far = refl;
  third_too_far = refl;
  row_taken = refl;
  row_too_far = refl;
}
