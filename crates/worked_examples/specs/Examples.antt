-- The worked examples: what the definitions that the contracts cite give at numbers worked out by hand.
use Rattle.std.specs.Prelude.{◌≡◌, ℕ, ◌<◌, ◌≤◌, [], ◌∷◌, map, replicate, pos, neg_ℤ, slice_index_or, slice_set}
use Rattle.mesh.specs.Mesh.{Lawful}
use Rattle.mesh.specs.Refusals.{fine, declined, told}
use Rattle.refinement.specs.Pillow.{pillow, pillow_refined}
use Rattle.refinement.specs.Tasks.{refine}
use Rattle.lines.specs.Text.{mesh_text}
use Rattle.step.specs.Step.{step_text}
use Rattle.chain.specs.Calls.{made, refusal}
use Rattle.kinds.specs.Rows.{with_fault}
use Rattle.attributes.specs.Coordinates.{checked}
use Rattle.worked_examples.specs.Given.{infinite, marked_with, marks_at, marked_at, load_with, pillow_text, refined_text, on_axis, next_coordinates, next_influences, four, coordinates_judged}

pub record WorkedExamples : Type 0 where
  -- The pillow refined once, as tables and as text, and by the step from text to text.
  pub tables : refine pillow ≡ pillow_refined
  pub text_in : mesh_text pillow ≡ pillow_text
  pub text_out : mesh_text pillow_refined ≡ refined_text
  pub text_stepped : step_text pillow_text ≡ refined_text
  -- The coordinates of the ten new points, from 0, 16, 32 and 48 at the old ones.
  pub coordinates :
      next_coordinates pillow four
      ≡ map on_axis (pos 28 ∷ pos 24 ∷ pos 16 ∷ pos 32 ∷ pos 20 ∷ pos 24 ∷ pos 24 ∷ pos 24 ∷ pos 28 ∷ pos 20 ∷ [])
  -- A mark at off-edge 2, whose point is in slot 2, draws that point to the middle of the edge.
  pub half_sharp : slice_index_or (next_coordinates (marked_at 2 128) four) 2 [] ≡ on_axis (pos 12)
  pub sharp : slice_index_or (next_coordinates (marked_at 2 256) four) 2 [] ≡ on_axis (pos 8)
  -- A mark of 300 at off-edge 2 leaves 44 at new off-edges 3 and 13, and 0 at the others.
  pub mark_falls : (refine (marked_at 2 300)).marks ≡ slice_set (slice_set (replicate 16 0) 3 44) 13 44
  -- Infinite marks at off-edges 1 and 2, which the walk at point 0 meets, make a crease there; the point is in slot 0.
  pub crease : slice_index_or (next_coordinates (marked_with (0 ∷ infinite ∷ infinite ∷ 0 ∷ [])) four) 0 [] ≡ on_axis (pos 8)
  -- Each new point takes all influences, but the point of an infinitely sharp edge only those of its ends.
  pub influences : next_influences pillow (1 ∷ 2 ∷ 4 ∷ 8 ∷ []) ≡ replicate 10 15
  pub influences_sharp : slice_index_or (next_influences (marked_at 2 infinite) (1 ∷ 2 ∷ 4 ∷ 8 ∷ [])) 2 0 ≡ 3
  -- A half goes to the greater number, 1/2 to 1 and -1/2 to 0: the face point of quad 0, in slot 1.
  pub half_up : slice_index_or (next_coordinates pillow (map on_axis (pos 0 ∷ pos 0 ∷ pos 1 ∷ pos 1 ∷ []))) 1 [] ≡ on_axis (pos 1)
  pub half_up_below : slice_index_or (next_coordinates pillow (map on_axis (pos 0 ∷ pos 0 ∷ neg_ℤ (pos 1) ∷ neg_ℤ (pos 1) ∷ []))) 1 [] ≡ on_axis (pos 0)
  -- A mark of 4,096 at any off-edge is lawful, and loads into any new bench with words enough; one of 4,097 is refused with 6 at that off-edge.
  pub most_lawful : (o : ℕ) → o < 4 → Lawful (marked_at o 4096)
  pub most_loads : (words mark o : ℕ) → 20 ≤ words → o < 4 → refusal (made words mark) (load_with (marks_at o 4096)) ≡ fine
  pub more_refused : (words mark o : ℕ) → o < 4 → refusal (made words mark) (load_with (marks_at o 4097)) ≡ declined 6 o
  -- A coordinate of 16,777,216 either way is taken. One of 16,777,217 is refused with 20 at its component, and in a table of values at its row.
  pub farthest_taken : told (with_fault (checked (pos 16777216) (neg_ℤ (pos 16777216)) (pos 16777216))) ≡ fine
  pub first_too_far : told (with_fault (checked (pos 16777217) (pos 0) (pos 0))) ≡ declined 20 0
  pub second_too_far : told (with_fault (checked (pos 0) (neg_ℤ (pos 16777217)) (pos 0))) ≡ declined 20 1
  pub third_too_far : told (with_fault (checked (pos 0) (pos 0) (pos 16777217))) ≡ declined 20 2
  pub row_taken : coordinates_judged pillow (map on_axis (pos 0 ∷ pos 16 ∷ pos 32 ∷ pos 16777216 ∷ [])) ≡ fine
  pub row_too_far : coordinates_judged pillow (map on_axis (pos 0 ∷ pos 16 ∷ pos 32 ∷ pos 16777217 ∷ [])) ≡ declined 20 3
