-- The writes of a task, block by block.
use Rattle.std.proofs.Common.{◌≡◌, ℕ, suc, ◌+◌, ◌*◌, ◌<◌, ◌≤◌, ◌⊎◌, List, [], ◌∷◌, length, ap, ◌∙◌, inl, inr, arith}
use Rattle.std.proofs.lemmas.Bool.Decides.{nat_tests}
use Rattle.mesh.specs.Mesh.{Mesh}
use Rattle.refinement.specs.Tasks.{Task, quad_task, point_task, TaskOf, number, corner_writes, friend_writes, mark_writes, start_writes, from, new_corners, old_slot, face_slot, edge_slot, put, run}
use Rattle.refinement.proofs.Puts.{length_put}
use Rattle.layout.specs.Layout.{block, standing_in, shifted, InRange}
use Rattle.layout.specs.Laws.{TasksWrite}
use Rattle.layout.proofs.Blocks.{Below, writes_inside, writes_outside}

-- the slots of a task are below the count of its table
from_below : (n a k : ℕ) (xs : List ℕ) → a + (k + length xs) ≤ n → Below n (from a k xs)
from_below n a k [] h = tt
from_below n a k (x ∷ xs) h = (omega arith, from_below n a (suc k) xs (omega arith))

old_below : (m : Mesh) (v : ℕ) → v < m.points → m.quads ≤ m.points → old_slot m v < m.points + 3 * m.quads
unfolding old_slot
old_below m v h k = grind (arith, nat_tests)

module _ (m : Mesh) (r : InRange m) where
  corners_below : (t : Task) → TaskOf m t → Below (4 * (4 * m.quads)) (corner_writes m t)
  corners_below (quad_task q) h = from_below _ (16 * q) 0 (new_corners m q) (omega arith)
  corners_below (point_task v) h = tt

  friends_below : (t : Task) → TaskOf m t → Below (2 * (4 * m.quads)) (friend_writes m t)
  friends_below (quad_task q) h =
      let g0 = r.friends_are_edges (2 * q) (omega arith) in
      let g1 = r.friends_are_edges (2 * q + 1) (omega arith) in
      (omega arith, (omega arith, (omega arith, (omega arith, (omega arith, (omega arith, (omega arith, (omega arith, tt))))))))
  friends_below (point_task v) h = tt

  marks_below : (t : Task) → TaskOf m t → Below (2 * (4 * m.quads)) (mark_writes m t)
  marks_below (quad_task q) h =
      let g0 = r.friends_are_edges (2 * q) (omega arith) in
      let g1 = r.friends_are_edges (2 * q + 1) (omega arith) in
      (omega arith, (omega arith, (omega arith, (omega arith, (omega arith, (omega arith, (omega arith, (omega arith, tt))))))))
  marks_below (point_task v) h = tt

  starts_below : (t : Task) → TaskOf m t → Below (m.points + 3 * m.quads) (start_writes m t)
  unfolding face_slot edge_slot
  starts_below (quad_task q) h =
      let p = r.points_enough in
      let g0 = r.friends_are_edges (2 * q) (omega arith) in
      let g1 = r.friends_are_edges (2 * q + 1) (omega arith) in
      (omega arith, (omega arith, (omega arith, tt)))
  starts_below (point_task v) h = (old_below m v h r.points_enough, tt)

number_below : (m : Mesh) (t : Task) → TaskOf m t → number m t < m.quads + m.points
number_below m (quad_task q) h = omega arith
number_below m (point_task v) h = omega arith

-- five tables side by side, each with its writes; all is told of the blocks after the writes
module _ (F V : ℕ) (cs fs ms ss rs : List (ℕ × ℕ)) (ws : List ℕ)
    (bc : Below (4 * (4 * F)) cs) (bf : Below (2 * (4 * F)) fs) (bm : Below (2 * (4 * F)) ms) (bs : Below (V + 3 * F) ss) (br : Below (F + V) rs) where
  abbrev w1 : List ℕ
  w1 = put (shifted (8 * F + V) cs) ws

  abbrev w2 : List ℕ
  w2 = put (shifted (8 * F + V + 4 * (4 * F)) fs) w1

  abbrev w3 : List ℕ
  w3 = put (shifted (8 * F + V + 6 * (4 * F)) ms) w2

  abbrev w4 : List ℕ
  w4 = put (shifted (8 * F + V + 8 * (4 * F)) ss) w3

  abbrev w5 : List ℕ
  w5 = put (shifted (43 * F + 2 * V) rs) w4

  -- a block past the writes of one table, or before
  out1 : (b k : ℕ) → (b + k ≤ 8 * F + V) ⊎ (8 * F + V + 4 * (4 * F) ≤ b) → block w1 b k ≡ block ws b k
  out1 b k o = writes_outside (8 * F + V) (4 * (4 * F)) b k cs ws bc o

  out2 : (b k : ℕ) → (b + k ≤ 8 * F + V + 4 * (4 * F)) ⊎ (8 * F + V + 4 * (4 * F) + 2 * (4 * F) ≤ b) → block w2 b k ≡ block w1 b k
  out2 b k o = writes_outside (8 * F + V + 4 * (4 * F)) (2 * (4 * F)) b k fs w1 bf o

  out3 : (b k : ℕ) → (b + k ≤ 8 * F + V + 6 * (4 * F)) ⊎ (8 * F + V + 6 * (4 * F) + 2 * (4 * F) ≤ b) → block w3 b k ≡ block w2 b k
  out3 b k o = writes_outside (8 * F + V + 6 * (4 * F)) (2 * (4 * F)) b k ms w2 bm o

  out4 : (b k : ℕ) → (b + k ≤ 8 * F + V + 8 * (4 * F)) ⊎ (8 * F + V + 8 * (4 * F) + (V + 3 * F) ≤ b) → block w4 b k ≡ block w3 b k
  out4 b k o = writes_outside (8 * F + V + 8 * (4 * F)) (V + 3 * F) b k ss w3 bs o

  out5 : (b k : ℕ) → (b + k ≤ 43 * F + 2 * V) ⊎ (43 * F + 2 * V + (F + V) ≤ b) → block w5 b k ≡ block w4 b k
  out5 b k o = writes_outside (43 * F + 2 * V) (F + V) b k rs w4 br o

  pub five_length : length w5 ≡ length ws
  five_length = length_put _ w4 ∙ length_put _ w3 ∙ length_put _ w2 ∙ length_put _ w1 ∙ length_put _ ws

  pub five_before : (b k : ℕ) → b + k ≤ 8 * F + V → block w5 b k ≡ block ws b k
  five_before b k h =
      out5 b k (inl (omega arith)) ∙ out4 b k (inl (omega arith)) ∙ out3 b k (inl (omega arith)) ∙ out2 b k (inl (omega arith)) ∙ out1 b k (inl h)

  pub five_corners : block w5 (8 * F + V) (4 * (4 * F)) ≡ put cs (block ws (8 * F + V) (4 * (4 * F)))
  five_corners =
      let b : ℕ = 8 * F + V in
      let k : ℕ = 4 * (4 * F) in
      out5 b k (inl (omega arith)) ∙ out4 b k (inl (omega arith)) ∙ out3 b k (inl (omega arith)) ∙ out2 b k (inl (omega arith)) ∙ writes_inside b k cs ws bc

  pub five_friends : block w5 (8 * F + V + 4 * (4 * F)) (2 * (4 * F)) ≡ put fs (block ws (8 * F + V + 4 * (4 * F)) (2 * (4 * F)))
  five_friends =
      let b : ℕ = 8 * F + V + 4 * (4 * F) in
      let k : ℕ = 2 * (4 * F) in
      out5 b k (inl (omega arith)) ∙ out4 b k (inl (omega arith)) ∙ out3 b k (inl (omega arith)) ∙ writes_inside b k fs w1 bf ∙ ap (put fs) (out1 b k (inr (omega arith)))

  pub five_marks : block w5 (8 * F + V + 6 * (4 * F)) (2 * (4 * F)) ≡ put ms (block ws (8 * F + V + 6 * (4 * F)) (2 * (4 * F)))
  five_marks =
      let b : ℕ = 8 * F + V + 6 * (4 * F) in
      let k : ℕ = 2 * (4 * F) in
      out5 b k (inl (omega arith)) ∙ out4 b k (inl (omega arith)) ∙ writes_inside b k ms w2 bm ∙ ap (put ms) (out2 b k (inr (omega arith)) ∙ out1 b k (inr (omega arith)))

  pub five_starts : block w5 (8 * F + V + 8 * (4 * F)) (V + 3 * F) ≡ put ss (block ws (8 * F + V + 8 * (4 * F)) (V + 3 * F))
  five_starts =
      let b : ℕ = 8 * F + V + 8 * (4 * F) in
      let k : ℕ = V + 3 * F in
      out5 b k (inl (omega arith)) ∙ writes_inside b k ss w3 bs
      ∙ ap (put ss) (out3 b k (inr (omega arith)) ∙ out2 b k (inr (omega arith)) ∙ out1 b k (inr (omega arith)))

  pub five_ran : block w5 (43 * F + 2 * V) (F + V) ≡ put rs (block ws (43 * F + 2 * V) (F + V))
  five_ran =
      let b : ℕ = 43 * F + 2 * V in
      let k : ℕ = F + V in
      writes_inside b k rs w4 br
      ∙ ap (put rs) (out4 b k (inr (omega arith)) ∙ out3 b k (inr (omega arith)) ∙ out2 b k (inr (omega arith)) ∙ out1 b k (inr (omega arith)))

pub tasks_write : TasksWrite
unfolding run put
tasks_write F V t ws r h room =
    let m = standing_in ws F V in
    let rs : List (ℕ × ℕ) = (number m t, 1) ∷ [] in
    let br : Below (F + V) rs = (number_below m t h, tt) in
    let bc = corners_below m r t h in
    let bf = friends_below m r t h in
    let bm = marks_below m r t h in
    let bs = starts_below m r t h in
    let cs = five_before F V (corner_writes m t) (friend_writes m t) (mark_writes m t) (start_writes m t) rs ws bc bf bm bs br 0 (4 * F) (omega arith) in
    let fs = five_before F V (corner_writes m t) (friend_writes m t) (mark_writes m t) (start_writes m t) rs ws bc bf bm bs br (0 + 4 * F) (2 * F) (omega arith) in
    let ms = five_before F V (corner_writes m t) (friend_writes m t) (mark_writes m t) (start_writes m t) rs ws bc bf bm bs br (0 + 6 * F) (2 * F) (omega arith) in
    let ss = five_before F V (corner_writes m t) (friend_writes m t) (mark_writes m t) (start_writes m t) rs ws bc bf bm bs br (0 + 8 * F) V (omega arith) in
    let nc = five_corners F V (corner_writes m t) (friend_writes m t) (mark_writes m t) (start_writes m t) rs ws bc bf bm bs br in
    let nf = five_friends F V (corner_writes m t) (friend_writes m t) (mark_writes m t) (start_writes m t) rs ws bc bf bm bs br in
    let nm = five_marks F V (corner_writes m t) (friend_writes m t) (mark_writes m t) (start_writes m t) rs ws bc bf bm bs br in
    let ns = five_starts F V (corner_writes m t) (friend_writes m t) (mark_writes m t) (start_writes m t) rs ws bc bf bm bs br in
    record {
      length_kept = five_length F V (corner_writes m t) (friend_writes m t) (mark_writes m t) (start_writes m t) rs ws bc bf bm bs br;
      standing_kept = λ i. record { quads = F; points = V; corners = cs i; friends = fs i; marks = ms i; starts = ss i };
      tables_written = λ i. record { quads = 4 * F; points = V + 3 * F; corners = nc i; friends = nf i; marks = nm i; starts = ns i };
      ran_written = five_ran F V (corner_writes m t) (friend_writes m t) (mark_writes m t) (start_writes m t) rs ws bc bf bm bs br;
    }
