-- Two quads back to back, and the same refined once.
use Rattle.std.specs.Prelude.{ℕ, [], ◌∷◌}
use Rattle.mesh.specs.Mesh.{Mesh}

unfoldable pub pillow : Mesh
pillow = record {
  quads = 2;
  points = 4;
  corners = 0 ∷ 1 ∷ 2 ∷ 3 ∷ 2 ∷ 1 ∷ 0 ∷ 3 ∷ [];
  friends = 2 ∷ 3 ∷ 0 ∷ 1 ∷ [];
  marks = 0 ∷ 0 ∷ 0 ∷ 0 ∷ [];
  starts = 0 ∷ 1 ∷ 2 ∷ 3 ∷ [];
}

unfoldable pub pillow_refined : Mesh
pillow_refined = record {
  quads = 8;
  points = 10;
  corners =
      0 ∷ 2 ∷ 1 ∷ 7 ∷ 4 ∷ 6 ∷ 1 ∷ 2 ∷ 8 ∷ 3 ∷ 1 ∷ 6 ∷ 9 ∷ 7 ∷ 1 ∷ 3
      ∷ 8 ∷ 6 ∷ 5 ∷ 3 ∷ 4 ∷ 2 ∷ 5 ∷ 6 ∷ 0 ∷ 7 ∷ 5 ∷ 2 ∷ 9 ∷ 3 ∷ 5 ∷ 7 ∷ [];
  friends = 3 ∷ 0xc ∷ 5 ∷ 0xa ∷ 7 ∷ 8 ∷ 1 ∷ 0xe ∷ 0xb ∷ 4 ∷ 0xd ∷ 2 ∷ 0xf ∷ 0 ∷ 9 ∷ 6 ∷ [];
  marks = 0 ∷ 0 ∷ 0 ∷ 0 ∷ 0 ∷ 0 ∷ 0 ∷ 0 ∷ 0 ∷ 0 ∷ 0 ∷ 0 ∷ 0 ∷ 0 ∷ 0 ∷ 0 ∷ [];
  starts = 0 ∷ 2 ∷ 1 ∷ 9 ∷ 4 ∷ 0x12 ∷ 0x11 ∷ 0x19 ∷ 8 ∷ 0xc ∷ [];
}

-- the pillow with a mark at off-edge 2
unfoldable pub pillow_marked : ℕ → Mesh
pillow_marked x = record {
  quads = 2;
  points = 4;
  corners = 0 ∷ 1 ∷ 2 ∷ 3 ∷ 2 ∷ 1 ∷ 0 ∷ 3 ∷ [];
  friends = 2 ∷ 3 ∷ 0 ∷ 1 ∷ [];
  marks = 0 ∷ 0 ∷ x ∷ 0 ∷ [];
  starts = 0 ∷ 1 ∷ 2 ∷ 3 ∷ [];
}
