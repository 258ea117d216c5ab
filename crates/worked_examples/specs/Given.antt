-- What the worked examples are given: the pillow with marks, its text, and rows of values.
use Rattle.std.specs.Prelude.{ℕ, ◌+◌, ◌*◌, List, [], ◌∷◌, ◌++◌, map, replicate, ℤ, pos, codes, slice_set}
use Prim.Native.String.{String}
use Rattle.std.specs.List.{flat_map}
use Rattle.mesh.specs.Marks.{word_of}
use Rattle.mesh.specs.Mesh.{Mesh}
use Rattle.mesh.specs.Refusals.{Verdict, fine, declined}
use Rattle.mesh.specs.declared.mark.Mark.TheVariants.{Infinite}
use Rattle.refinement.specs.Pillow.{pillow}
use Rattle.chain.specs.Calls.{Call, load}
use Rattle.carried.specs.Blends.{values}
use Rattle.carry.specs.Rows.{made, values_refusal}
use Rattle.attributes.specs.Coordinates.{blend_of, row_of, verdict_of}
use Rattle.attributes.specs.Influences.{union, row_of as bits_of, verdict_of as verdict_of_bits}

-- ---- the pillow with marks
-- the word of an infinite mark
abbrev pub infinite : ℕ
infinite = word_of Infinite

-- with these words at its four off-edges, as a mesh and in a load
abbrev pub marked_with : List ℕ → Mesh
marked_with ms = record {
  quads = pillow.quads;
  points = pillow.points;
  corners = pillow.corners;
  friends = pillow.friends;
  marks = ms;
  starts = pillow.starts;
}

abbrev pub load_with : List ℕ → Call
load_with ms = load pillow.corners pillow.friends ms pillow.starts

-- with the word w at off-edge o, and 0 at the others
abbrev pub marks_at : ℕ → ℕ → List ℕ
marks_at o w = slice_set (replicate 4 0) o w

abbrev pub marked_at : ℕ → ℕ → Mesh
marked_at o w = marked_with (marks_at o w)

-- ---- text, line by line
abbrev pub as_text : List String → List ℕ
as_text ls = flat_map (λ l. codes l ++ (10 ∷ [])) ls

-- the pillow's
abbrev pub pillow_text : List ℕ
pillow_text = as_text (
    "00 2 4"
    ∷ "01 0 1 2 3 2 3 0 0"
    ∷ "01 2 1 0 3 0 1 0 0"
    ∷ "02 0"
    ∷ "02 1"
    ∷ "02 2"
    ∷ "02 3"
    ∷ [])

-- and that of the pillow refined once
abbrev pub refined_text : List ℕ
refined_text = as_text (
    "00 8 a"
    ∷ "01 0 2 1 7 3 c 0 0"
    ∷ "01 4 6 1 2 5 a 0 0"
    ∷ "01 8 3 1 6 7 8 0 0"
    ∷ "01 9 7 1 3 1 e 0 0"
    ∷ "01 8 6 5 3 b 4 0 0"
    ∷ "01 4 2 5 6 d 2 0 0"
    ∷ "01 0 7 5 2 f 0 0 0"
    ∷ "01 9 3 5 7 9 6 0 0"
    ∷ "02 0"
    ∷ "02 2"
    ∷ "02 1"
    ∷ "02 9"
    ∷ "02 4"
    ∷ "02 12"
    ∷ "02 11"
    ∷ "02 19"
    ∷ "02 8"
    ∷ "02 c"
    ∷ [])

-- ---- values, as rows in and rows out
-- what a call writes by its verdict: nothing where it is refused
abbrev pub written : {R : Type 0} → Verdict → List R → List R
written fine rows = rows
written (declined n p) rows = []

-- the verdict on coordinates for the points of m, and the rows of its new points
abbrev pub coordinates_judged : Mesh → List (List ℤ) → Verdict
coordinates_judged m rows = values_refusal verdict_of m rows (m.points + 3 * m.quads)

abbrev pub next_coordinates : Mesh → List (List ℤ) → List (List ℤ)
next_coordinates m rows = written (coordinates_judged m rows) (map row_of (values blend_of m (made verdict_of rows)))

-- the same for influences
abbrev pub next_influences : Mesh → List ℕ → List ℕ
next_influences m rows = written (values_refusal verdict_of_bits m rows (m.points + 3 * m.quads)) (map bits_of (values union m (made verdict_of_bits rows)))

-- points on the first axis
abbrev pub on_axis : ℤ → List ℤ
on_axis x = x ∷ (pos 0 ∷ (pos 0 ∷ []))

abbrev pub four : List (List ℤ)
four = map on_axis (pos 0 ∷ pos 16 ∷ pos 32 ∷ pos 48 ∷ [])
