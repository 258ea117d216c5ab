-- Some calls and chains of calls written out, most on the pillow: two quads back to back, four points.
use Rattle.std.specs.Prelude.{◌≡◌, ℕ, ◌*◌, List, [], ◌∷◌, ◌++◌, Some, None}
use Rattle.mesh.specs.Refusals.{fine, declined}
use Rattle.lines.specs.Reading.{Room}
use Rattle.lines.specs.Text.{mesh_text}
use Rattle.refinement.specs.Pillow.{pillow, pillow_refined, pillow_marked}
use Rattle.chain.specs.Calls.{Call, load, load_text, begin, quad, point, finish, withdraw, State, refusal, left, made, run}
use Rattle.chain.specs.History.{finishes, carried_out}

abbrev pub load_pillow : Call
load_pillow = load pillow.corners pillow.friends pillow.marks pillow.starts

-- a bench of 100 words with mark number 7 on which a level is in work and two tasks have run, one of them twice
abbrev pub two_run : List Call
two_run = quad 0 ∷ quad 1 ∷ quad 0 ∷ begin ∷ load_pillow ∷ []

-- the same after the other tasks
abbrev pub all_run : List Call
all_run = point 1 ∷ point 3 ∷ point 0 ∷ point 2 ∷ two_run

-- a bench on which a level with n quads and n points stands
abbrev pub standing_wide : ℕ → State
standing_wide n = record {
  words = 100000000;
  mark = 7;
  standing = Some (record { quads = n; points = n; corners = []; friends = []; marks = []; starts = [] });
  work = None;
}

pub record PillowChains : Type 0 where
  pub refined_once : (run 100 7 (finish 7 ∷ all_run)).standing ≡ Some pillow_refined
  pub still_standing : (run 100 7 all_run).standing ≡ Some pillow
  pub withdrawn : run 100 7 (withdraw 7 ∷ all_run) ≡ run 100 7 (load_pillow ∷ [])
  pub four_left : left (run 100 7 two_run) ≡ 4
  pub none_left : left (run 100 7 all_run) ≡ 0
  pub refused_not_counted : carried_out 100 7 (quad 9 ∷ finish 8 ∷ load_pillow ∷ finish 7 ∷ two_run) ≡ two_run
  pub one_finish : finishes (carried_out 100 7 (begin ∷ finish 7 ∷ finish 7 ∷ all_run)) ≡ 1
  pub loads_in_20 : refusal (made 20 7) load_pillow ≡ fine
  pub not_in_19 : refusal (made 19 7) load_pillow ≡ declined 14 0
  pub load_in_work : refusal (run 100 7 two_run) load_pillow ≡ declined 11 0
  pub begin_in_work : refusal (run 100 7 two_run) begin ≡ declined 11 0
  pub begin_needs_100 : refusal (run 99 7 (load_pillow ∷ [])) begin ≡ declined 14 0
  pub begin_wide : refusal (standing_wide 262144) begin ≡ fine
  pub begin_too_wide : refusal (standing_wide 262145) begin ≡ declined 13 0
  pub begin_empty : refusal (made 100 7) begin ≡ declined 12 0
  pub task_empty : refusal (made 100 7) (quad 0) ≡ declined 12 0
  pub task_idle : refusal (run 100 7 (load_pillow ∷ [])) (quad 0) ≡ declined 15 0
  pub no_such_quad : refusal (run 100 7 two_run) (quad 2) ≡ declined 16 2
  pub no_such_point : refusal (run 100 7 two_run) (point 4) ≡ declined 16 4
  pub finish_idle : refusal (run 100 7 (load_pillow ∷ [])) (finish 8) ≡ declined 15 0
  pub strange_slip : refusal (run 100 7 two_run) (finish 8) ≡ declined 17 0
  pub strange_withdraw : refusal (run 100 7 two_run) (withdraw 8) ≡ declined 17 0
  pub not_run : refusal (run 100 7 two_run) (finish 7) ≡ declined 18 2
  pub quad_not_run : refusal (run 100 7 (point 0 ∷ quad 0 ∷ begin ∷ load_pillow ∷ [])) (finish 7) ≡ declined 18 1

-- The text of the pillow, read into tables with as much room as it needs, and with less.
abbrev pub room_for : ℕ → ℕ → Room
room_for quads points = record { corner_room = 4 * quads; friend_room = 2 * quads; mark_room = 2 * quads; start_room = points }

abbrev pub load_text_pillow : Call
load_text_pillow = load_text (mesh_text pillow) (room_for 2 4)

pub record TextChains : Type 0 where
  pub text_loads : run 100 7 (load_text_pillow ∷ []) ≡ run 100 7 (load_pillow ∷ [])
  pub text_refined : (run 100 7 (finish 7 ∷ point 1 ∷ point 3 ∷ point 0 ∷ point 2 ∷ quad 0 ∷ quad 1 ∷ begin ∷ load_text_pillow ∷ [])).standing ≡ Some pillow_refined
  pub text_in_work : refusal (run 100 7 two_run) load_text_pillow ≡ declined 11 0
  pub text_needs_20 : refusal (made 19 7) load_text_pillow ≡ declined 14 0
  pub no_text : refusal (run 100 7 two_run) (load_text [] (room_for 2 4)) ≡ declined 21 0
  -- a line too many, when a level is in work too
  pub text_surplus : refusal (run 100 7 two_run) (load_text (mesh_text pillow ++ (10 ∷ [])) (room_for 2 4)) ≡ declined 21 7
  pub text_no_room : refusal (made 100 7) (load_text (mesh_text pillow) (room_for 2 3)) ≡ declined 22 0
  pub text_unlawful : refusal (made 100 7) (load_text (mesh_text (pillow_marked 4097)) (room_for 2 4)) ≡ declined 6 2

-- Tables that are refused, one for each cause.
abbrev pub RefusedLoad : ℕ → ℕ → List ℕ → List ℕ → List ℕ → List ℕ → Type 0
RefusedLoad n p cs fs ms ss = refusal (made 100 7) (load cs fs ms ss) ≡ declined n p

pub record RefusedLoads : Type 0 where
  pub three_marks : RefusedLoad 1 0 (0 ∷ 1 ∷ 2 ∷ 3 ∷ 2 ∷ 1 ∷ 0 ∷ 3 ∷ []) (2 ∷ 3 ∷ 0 ∷ 1 ∷ []) (0 ∷ 0 ∷ 0 ∷ []) (0 ∷ 1 ∷ 2 ∷ 3 ∷ [])
  pub nothing : RefusedLoad 2 0 [] [] [] []
  pub one_quad : RefusedLoad 2 0 (0 ∷ 1 ∷ 2 ∷ 3 ∷ []) (0 ∷ 1 ∷ []) (0 ∷ 0 ∷ []) (0 ∷ 1 ∷ 2 ∷ 3 ∷ [])
  pub one_point : RefusedLoad 3 0 (0 ∷ 1 ∷ 2 ∷ 3 ∷ 2 ∷ 1 ∷ 0 ∷ 3 ∷ []) (2 ∷ 3 ∷ 0 ∷ 1 ∷ []) (0 ∷ 0 ∷ 0 ∷ 0 ∷ []) (0 ∷ [])
  pub five_points : RefusedLoad 3 0 (0 ∷ 1 ∷ 2 ∷ 3 ∷ 2 ∷ 1 ∷ 0 ∷ 3 ∷ []) (2 ∷ 3 ∷ 0 ∷ 1 ∷ []) (0 ∷ 0 ∷ 0 ∷ 0 ∷ []) (0 ∷ 1 ∷ 2 ∷ 3 ∷ 4 ∷ [])
  pub corner_of_no_point : RefusedLoad 4 5 (0 ∷ 1 ∷ 2 ∷ 3 ∷ 2 ∷ 4 ∷ 0 ∷ 3 ∷ []) (2 ∷ 3 ∷ 0 ∷ 4 ∷ []) (0 ∷ 0 ∷ 0 ∷ 0 ∷ []) (0 ∷ 1 ∷ 2 ∷ 3 ∷ [])
  pub friend_no_edge : RefusedLoad 5 3 (0 ∷ 1 ∷ 2 ∷ 3 ∷ 2 ∷ 1 ∷ 0 ∷ 3 ∷ []) (2 ∷ 3 ∷ 0 ∷ 4 ∷ []) (0 ∷ 4097 ∷ 0 ∷ 0 ∷ []) (0 ∷ 1 ∷ 2 ∷ 3 ∷ [])
  pub mark_unlawful : RefusedLoad 6 1 (0 ∷ 1 ∷ 2 ∷ 3 ∷ 2 ∷ 1 ∷ 0 ∷ 3 ∷ []) (3 ∷ 2 ∷ 0 ∷ 1 ∷ []) (0 ∷ 4097 ∷ 0 ∷ 0 ∷ []) (0 ∷ 1 ∷ 2 ∷ 3 ∷ [])
  pub friend_not_back : RefusedLoad 7 0 (0 ∷ 1 ∷ 2 ∷ 3 ∷ 2 ∷ 1 ∷ 0 ∷ 3 ∷ []) (3 ∷ 2 ∷ 0 ∷ 1 ∷ []) (0 ∷ 0 ∷ 0 ∷ 0 ∷ []) (0 ∷ 1 ∷ 2 ∷ 2 ∷ [])
  pub start_elsewhere : RefusedLoad 8 3 (0 ∷ 1 ∷ 2 ∷ 3 ∷ 2 ∷ 1 ∷ 0 ∷ 3 ∷ []) (2 ∷ 3 ∷ 0 ∷ 1 ∷ []) (0 ∷ 0 ∷ 0 ∷ 0 ∷ []) (0 ∷ 1 ∷ 2 ∷ 2 ∷ [])
  -- the walk at point 1 is back after one step
  pub walk_of_one : RefusedLoad 9 1 (0 ∷ 1 ∷ 0 ∷ 2 ∷ 3 ∷ 3 ∷ 3 ∷ 3 ∷ []) (0 ∷ 1 ∷ 2 ∷ 3 ∷ []) (0 ∷ 0 ∷ 0 ∷ 0 ∷ []) (0 ∷ 1 ∷ 3 ∷ 4 ∷ [])
  -- the walks meet the even corners only
  pub corners_unmet : RefusedLoad 10 0 (0 ∷ 0 ∷ 0 ∷ 0 ∷ 1 ∷ 1 ∷ 1 ∷ 1 ∷ []) (0 ∷ 1 ∷ 2 ∷ 3 ∷ []) (0 ∷ 0 ∷ 0 ∷ 0 ∷ []) (0 ∷ 4 ∷ [])
