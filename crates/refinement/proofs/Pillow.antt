-- The pillow, by computing.
use Rattle.std.proofs.Common.{◌≡◌, refl}
use Rattle.mesh.specs.Count.{least, total}
use Rattle.mesh.specs.Causes.{once, each, judge, shape_ok, quads_ok, points_ok, corner_ok, friend_ok, mark_ok, back_ok, start_ok, walk_ok, all_met}
use Rattle.refinement.specs.Laws.{PillowCases}
use Rattle.mesh.specs.Refusals.{fine}
use Rattle.mesh.specs.Mesh.{off_edge, begins, ends, step, walk, valence}
use Rattle.refinement.specs.Pillow.{pillow, pillow_refined, pillow_marked}
use Rattle.refinement.specs.Tasks.{old_slot, face_slot, edge_slot, fallen, put, blank, run, runs, tasks, refine}
use Rattle.refinement.proofs.Causes.{judges}

pillow_fine : judge pillow ≡ fine
unfolding least total once each judge shape_ok quads_ok points_ok corner_ok friend_ok mark_ok back_ok start_ok walk_ok all_met off_edge begins ends step walk valence pillow
pillow_fine = refl

pillow_once : refine pillow ≡ pillow_refined
unfolding off_edge old_slot face_slot edge_slot fallen put blank run runs tasks refine pillow pillow_refined
pillow_once = refl

pub pillow_cases : PillowCases
unfolding least total once each judge shape_ok quads_ok points_ok corner_ok friend_ok mark_ok back_ok start_ok walk_ok all_met off_edge begins ends step walk valence old_slot face_slot edge_slot fallen put blank run runs tasks refine pillow_marked
pillow_cases = record {
  plain_lawful = (judges pillow).only_lawful pillow_fine;
  plain_refined = pillow_once;
  mark_falls = (refl, refl);
  mark_ends = refl;
  mark_stays = refl;
  mark_most = refl;
  mark_too_large = refl;
}
