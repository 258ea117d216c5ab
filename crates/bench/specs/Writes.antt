-- What a quad task writes to each table of the level in work, from the words that it reads.
use Rattle.std.specs.Prelude.{ℕ, ◌+◌, ◌*◌, List, [], ◌∷◌}
use Rattle.refinement.specs.Tasks.{face_slot, edge_slot}

-- the friends g0 and g1 of its off-edges
abbrev pub friends_by : ℕ → ℕ → ℕ → List (ℕ × ℕ)
friends_by q g0 g1 =
    (8 * q, 8 * q + 3) ∷ (8 * q + 2, 8 * q + 5) ∷ (8 * q + 4, 8 * q + 7) ∷ (8 * q + 6, 8 * q + 1)
    ∷ (8 * q + 1, 4 * g1) ∷ (8 * q + 5, 4 * g0) ∷ (4 * g0 + 3, 8 * q + 2) ∷ (4 * g1 + 3, 8 * q + 6) ∷ []

-- and their fallen marks m0 and m1
abbrev pub marks_by : ℕ → ℕ → ℕ → ℕ → ℕ → List (ℕ × ℕ)
marks_by q g0 g1 m0 m1 =
    (8 * q, 0) ∷ (8 * q + 2, 0) ∷ (8 * q + 4, 0) ∷ (8 * q + 6, 0)
    ∷ (8 * q + 1, m1) ∷ (8 * q + 5, m0) ∷ (4 * g0 + 3, m0) ∷ (4 * g1 + 3, m1) ∷ []

abbrev pub starts_by : ℕ → ℕ → ℕ → List (ℕ × ℕ)
starts_by q g0 g1 = (face_slot q, 16 * q + 2) ∷ (edge_slot g0, 8 * g0 + 1) ∷ (edge_slot g1, 8 * g1 + 1) ∷ []
