-- What the proofs compute with, a name for each group: a proof that unfolds the name unfolds the group.
use Rattle.mesh.specs.Causes.{once, each, judge, shape_ok, quads_ok, points_ok, corner_ok, friend_ok, mark_ok, back_ok, start_ok, walk_ok, all_met}
use Rattle.mesh.specs.Count.{least, total}
use Rattle.mesh.specs.Mesh.{off_edge, begins, ends, step, walk, valence, other_end, diagonal}
use Rattle.lines.specs.Reading.{front, number, same, word, words, line, lines, mesh_read, roomy, body_read, reading as reading_of}
use Rattle.lines.specs.Text.{digits, word_text, words_text, line_text, quad_rows, start_rows, mesh_text}
use Rattle.refinement.specs.Tasks.{old_slot, face_slot, edge_slot, fallen, put, blank, run, runs, tasks, refine}
use Rattle.carried.specs.Blends.{face, low_across, high_across, edge, around, marked, smooth, sharpness, creased, cornered, moved, served, parts, values}
use Rattle.carry.specs.Rows.{made}
use native.Mathlib.Decide.{dec_le}
use Rattle.attributes.specs.Coordinates.{checked}
use Rattle.attributes.specs.Nearest.{nearest}

unfoldable pub walking : Unit {0}
unfolding least off_edge begins ends step walk valence
walking = tt

unfoldable pub judging : Unit {0}
unfolding walking total once each judge shape_ok quads_ok points_ok corner_ok friend_ok mark_ok back_ok start_ok walk_ok all_met
judging = tt

unfoldable pub refining : Unit {0}
unfolding old_slot face_slot edge_slot fallen put blank run runs tasks refine
refining = tt

unfoldable pub writing : Unit {0}
unfolding digits word_text words_text line_text quad_rows start_rows mesh_text
writing = tt

unfoldable pub reading : Unit {0}
unfolding writing front number same word words line lines mesh_read roomy body_read reading_of
reading = tt

unfoldable pub carrying : Unit {0}
unfolding walking other_end diagonal face low_across high_across edge around marked smooth sharpness creased cornered moved served parts values made
carrying = tt

unfoldable pub placing : Unit {0}
unfolding checked dec_le nearest
placing = tt
