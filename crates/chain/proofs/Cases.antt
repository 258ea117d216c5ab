-- The chains on the pillow, by computing.
use Rattle.std.proofs.Common.{refl}
use Rattle.mesh.specs.Count.{least, total}
use Rattle.mesh.specs.Causes.{once, each, judge, mesh_of, shape_ok, quads_ok, points_ok, corner_ok, friend_ok, mark_ok, back_ok, start_ok, walk_ok, all_met}
use Rattle.mesh.specs.Mesh.{off_edge, begins, ends, step, walk, valence}
use Rattle.lines.specs.Reading.{front, number, same, word, words, line, lines, mesh_read, roomy, body_read, reading}
use Rattle.lines.specs.Text.{digits, word_text, words_text, line_text, quad_rows, start_rows, mesh_text}
use Rattle.refinement.specs.Pillow.{pillow, pillow_refined, pillow_marked}
use Rattle.refinement.specs.Tasks.{old_slot, face_slot, edge_slot, fallen, put, blank, run, runs, tasks, refine, level}
use Rattle.chain.specs.History.{ran_words}
use Rattle.chain.specs.Cases.{PillowChains, TextChains, RefusedLoads}

pub pillow_chains : PillowChains
unfolding least total once each judge mesh_of shape_ok quads_ok points_ok corner_ok friend_ok mark_ok back_ok start_ok walk_ok all_met off_edge begins ends step walk valence old_slot face_slot edge_slot fallen put blank run runs tasks refine level ran_words pillow pillow_refined
pillow_chains = record {
  refined_once = refl;
  still_standing = refl;
  withdrawn = refl;
  four_left = refl;
  none_left = refl;
  refused_not_counted = refl;
  one_finish = refl;
  loads_in_20 = refl;
  not_in_19 = refl;
  load_in_work = refl;
  begin_in_work = refl;
  begin_needs_100 = refl;
  begin_wide = refl;
  begin_too_wide = refl;
  begin_empty = refl;
  task_empty = refl;
  task_idle = refl;
  no_such_quad = refl;
  no_such_point = refl;
  finish_idle = refl;
  strange_slip = refl;
  strange_withdraw = refl;
  not_run = refl;
  quad_not_run = refl;
}

pub text_chains : TextChains
unfolding least total once each judge mesh_of shape_ok quads_ok points_ok corner_ok friend_ok mark_ok back_ok start_ok walk_ok all_met off_edge begins ends step walk valence old_slot face_slot edge_slot fallen put blank run runs tasks refine level ran_words pillow pillow_refined pillow_marked digits word_text words_text line_text quad_rows start_rows mesh_text front number same word words line lines mesh_read roomy body_read reading
text_chains = record {
  text_loads = refl;
  text_refined = refl;
  text_in_work = refl;
  text_needs_20 = refl;
  no_text = refl;
  text_surplus = refl;
  text_no_room = refl;
  text_unlawful = refl;
}

pub refused_loads : RefusedLoads
unfolding least total once each judge mesh_of shape_ok quads_ok points_ok corner_ok friend_ok mark_ok back_ok start_ok walk_ok all_met off_edge begins ends step walk valence
refused_loads = record {
  three_marks = refl;
  nothing = refl;
  one_quad = refl;
  one_point = refl;
  five_points = refl;
  corner_of_no_point = refl;
  friend_no_edge = refl;
  mark_unlawful = refl;
  friend_not_back = refl;
  start_elsewhere = refl;
  walk_of_one = refl;
  corners_unmet = refl;
}
